use Rattle.std.proofs.Common.{◌≡◌, drop, length}
use Rattle.gerber_layer.specs.MacroTable.{all_judged}
use Rattle.gerber_layer.specs.Reader.{AreBlank, body_of}
use Rattle.gerber_layer.proofs.macro_rows.judge.Given as goal

-- the first fault of all is that of the primitives that remain, and the marks so far are right
abbrev pub invariant-loop-primitive : goal.invariant-loop-primitive
invariant-loop-primitive l = record {
  rest : all_judged (body_of l.body) l.parameters l.unit ≡ all_judged (body_of (drop l.primitive-index l.body)) l.parameters l.unit;
  counted : length l.marks.items ≡ l.primitive-index;
  blank : AreBlank (body_of l.body) l.parameters l.unit l.marks.items;
}
