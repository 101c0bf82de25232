use Rattle.std.proofs.Common.{true, ◌≡◌, ◌≤◌, ◌<◌, ℕ, length, get_or}
use Rattle.texts.specs.Blanks.{is_blank}
use Rattle.texts.proofs.parts.without_back.Given as goal

abbrev pub invariant-loop-len : goal.invariant-loop-len
invariant-loop-len l = record {
  within : l.len ≤ length l.text;
  blank : (k : ℕ) → l.len ≤ k → k < length l.text → is_blank (get_or l.text k 0) ≡ true;
}

abbrev pub decreases-loop-len : goal.decreases-loop-len
decreases-loop-len l = l.len
