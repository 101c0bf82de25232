use Rattle.std.proofs.Common.{◌≡◌, ◌==◌, ◌||◌, drop}
use Rattle.std.specs.List.{list_any}
use Rattle.texts.proofs.lines.is_among.Given as goal

abbrev pub invariant-loop-b : goal.invariant-loop-b
invariant-loop-b l = (l.found || list_any (λ b. b == l.byte) (drop l.b-index l.bytes)) ≡ list_any (λ b. b == l.byte) l.bytes
