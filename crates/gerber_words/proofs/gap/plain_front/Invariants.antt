use Rattle.std.proofs.Common.{true, ◌≡◌, ◌+◌, length, take, drop}
use Rattle.std.specs.List.{list_all}
use Rattle.gerber_words.specs.Words.{break_in, is_plain}
use Rattle.gerber_words.proofs.gap.plain_front.Given as goal

abbrev pub invariant-loop-front : goal.invariant-loop-front
invariant-loop-front l = record {
  there : l.rest ≡ drop l.len l.bytes;
  within : l.len + length l.rest ≡ length l.bytes;
  plain : list_all is_plain (take l.len l.bytes) ≡ true;
  same : break_in (drop l.len l.bytes) ≡ break_in l.bytes;
}

abbrev pub decreases-loop-front : goal.decreases-loop-front
decreases-loop-front l = length l.rest
