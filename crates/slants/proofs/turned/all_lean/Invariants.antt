use Rattle.std.proofs.Common.{drop, ◌↔◌}
use Rattle.slants.specs.Turned.{AllLean}
use Rattle.slants.proofs.turned.all_lean.Given as goal

abbrev pub invariant-loop-q : goal.invariant-loop-q
invariant-loop-q l = AllLean (drop l.q-index l.figure) l.m l.b l.c ↔ AllLean l.figure l.m l.b l.c
