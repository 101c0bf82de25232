use Rattle.std.proofs.Common.{◌+◌, ◌≤◌, ◌≡◌, drop}
use Rattle.slants.specs.Rounds.{changes}
use Rattle.slants.proofs.contours.changes_little.Given as goal

abbrev pub invariant-loop-to : goal.invariant-loop-to
invariant-loop-to l = (l.count + changes l.before l.from (drop l.to-index l.rest) ≡ changes l.fn.up l.fn.start l.rest) × (l.count ≤ 2)
