use Rattle.std.proofs.Common.{◌∙◌, sym}
use Rattle.std.proofs.lemmas.Bool.{eqb-false}
use Rattle.area_contact.proofs.Told.{closed_read}
use Rattle.area_contact.proofs.corners.is_closed.Goals as goal

pub returns-else-is_empty : goal.returns-else-is_empty
returns-else-is_empty c = closed_read c.args.points.now _ c.is_same.result (eqb-false _ _ (sym c.is_empty.ensures ∙ c.if-is_empty.false)) c.is_same.ensures.same
