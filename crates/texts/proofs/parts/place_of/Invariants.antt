use Rattle.std.proofs.Common.{true, ◌≡◌, ◌==◌, not, take}
use Rattle.std.specs.List.{list_all}
use Rattle.texts.proofs.parts.place_of.Given as goal

abbrev pub invariant-loop-i : goal.invariant-loop-i
invariant-loop-i l = list_all (λ b. not (b == l.byte)) (take l.i l.text) ≡ true
