use Rattle.std.proofs.Common.{arith, ap, sym, ◌∙◌, ◌++◌, ◌∷◌, [], ℕ, List}
use Rattle.std.specs.List.{range_with_len}
use Rattle.area_contact.proofs.Kept.{counted_more}
use Rattle.area_contact.proofs.runs.numbers_of.Goals as goal

pub loop-i-preserved : goal.loop-i-preserved
loop-i-preserved c = c.in_ok-push.ensures.items ∙ (ap (λ (l : List ℕ). l ++ c.loop-i.i ∷ []) c.loop-i.invariant ∙ sym (counted_more c.loop-i.i))

pub returns : goal.returns
returns c = c.loop-i.invariant ∙ ap (λ (n : ℕ). range_with_len 0 n) (omega arith)
