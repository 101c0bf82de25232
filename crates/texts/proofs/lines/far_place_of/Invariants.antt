use Rattle.std.proofs.Common.{◌≡◌, ◌==◌, ◌+◌, length}
use Rattle.std.specs.List.{position_or_len}
use Rattle.texts.proofs.lines.far_place_of.Given as goal

abbrev pub invariant-loop-front : goal.invariant-loop-front
invariant-loop-front l = record {
  long : l.len + length l.rest ≡ length l.text;
  value : l.len + position_or_len (λ b. b == l.byte) l.rest ≡ position_or_len (λ b. b == l.byte) l.text;
}

abbrev pub decreases-loop-front : goal.decreases-loop-front
decreases-loop-front l = length l.rest
