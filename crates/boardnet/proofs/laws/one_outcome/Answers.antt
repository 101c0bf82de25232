use Rattle.boardnet.proofs.OneOutcome.{one_outcome}
use Rattle.boardnet.proofs.laws.one_outcome.Goals as goal

pub returns : goal.returns
returns c = one_outcome (record {
  one = record { listed = c.one_outcome.ensures; labelled = c.one_labelled_outcome.ensures; flat = c.one_macro_answer.ensures; real = c.one_real_outcome.ensures; counts = c.counts_are_one.ensures.one; no_other = c.counts_are_one.ensures.apart; first_other = c.counts_are_one.ensures.first };
  witnesses = c.verdicts_differ_in_witnesses_only.ensures;
  texts = c.report_text_is_injective.ensures;
  gaps = c.gap_lists_are_one.ensures;
})
