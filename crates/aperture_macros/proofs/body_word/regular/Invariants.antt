use Rattle.std.proofs.Common.{◌≡◌, ◌-◌}
use Rattle.aperture_macros.specs.BodyWord as spec
use Rattle.aperture_macros.proofs.body_word.regular.Given as goal

abbrev pub invariant-loop-n : goal.invariant-loop-n
invariant-loop-n l = spec.regular_from (13 - l.n) l.n l.corners ≡ spec.regular_of l.corners
