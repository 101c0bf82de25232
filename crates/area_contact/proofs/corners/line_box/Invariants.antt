use Rattle.std.proofs.Common.{◌≡◌, drop}
use Rattle.area_contact.specs.Contour.{widened_by, box_from}
use Rattle.area_contact.proofs.corners.line_box.Given as goal

abbrev pub invariant-loop-p : goal.invariant-loop-p
invariant-loop-p l = widened_by l.b (drop l.p-index l.rest) ≡ box_from l.fn.start l.rest
