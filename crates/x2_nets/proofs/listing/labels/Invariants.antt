use Rattle.std.proofs.Common.{◌+◌, ◌≤◌, length}
use Rattle.gerber_words.specs.Stepping.{ahead}
use Rattle.x2_nets.proofs.ReadSoFar.{ReadSoFar, RisesTo}
use Rattle.x2_nets.proofs.listing.labels.Given as goal

abbrev pub invariant-loop-word : goal.invariant-loop-word
invariant-loop-word l = record {
  read : ReadSoFar l.file (ahead l.words) l.labels l.commands;
  rises : RisesTo l.labels l.commands;
  few : l.commands + length (ahead l.words).bytes ≤ length l.file;
}

abbrev pub decreases-loop-word : goal.decreases-loop-word
decreases-loop-word l = length (ahead l.words).bytes
