use Rattle.std.proofs.Common.{◌≡◌, ◌-◌}
use Rattle.aperture_macros.specs.BodyWord as spec
use Rattle.aperture_macros.proofs.body_word.past.Given as goal

abbrev pub invariant-loop : goal.invariant-loop
invariant-loop l = spec.past (l.n - l.counter) l.rest ≡ spec.past l.n l.word
