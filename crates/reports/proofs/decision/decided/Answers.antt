use Rattle.std.proofs.Common.{refl, ◌∙◌}
use Rattle.reports.proofs.Decided.{decision_by, text_alike}
use Rattle.reports.proofs.decision.decided.Goals as goal

pub returns-clause-text : goal.returns-clause-text
returns-clause-text c =
    c.in_ok-text.ensures ∙ text_alike _ _ _ _ _ _ c.args.below.now c.args.above.now c.in_ok-sure.sure c.in_ok-unsure.unsure refl c.probes.ensures.items c.names.ensures.items c.in_ok-sure.ensures c.in_ok-unsure.ensures

pub returns-clause-status : goal.returns-clause-status
returns-clause-status c = decision_by c.args.below.now c.args.above.now c.in_ok-sure.sure c.in_ok-unsure.unsure _ _ c.in_ok-sure.ensures c.in_ok-unsure.ensures c.between-note.ensures
