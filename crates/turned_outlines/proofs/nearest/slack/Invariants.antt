use Rattle.std.proofs.Common.{◌≡◌, drop}
use Rattle.turned_outlines.specs.Nearest.{far_by}
use Rattle.turned_outlines.proofs.nearest.slack.Given as goal

abbrev pub invariant-loop-s : goal.invariant-loop-s
invariant-loop-s l = far_by l.about l.far (drop l.s-index l.contour) ≡ far_by l.about 0 l.contour
