use Rattle.std.proofs.Common.{◌≡◌, drop}
use Rattle.gerber_reading.specs.Reader.{body_of}
use Rattle.real_copper.specs.Table.{all_judged}
use Rattle.real_copper.proofs.defining.judge.Given as goal

-- the first fault of all is that of the primitives that remain
abbrev pub invariant-loop-primitive : goal.invariant-loop-primitive
invariant-loop-primitive l = all_judged (body_of l.body) l.parameters l.unit ≡ all_judged (body_of (drop l.primitive-index l.body)) l.parameters l.unit
