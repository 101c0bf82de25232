use Rattle.std.proofs.Common.{true, ◌≡◌, take}
use Rattle.std.specs.List.{list_all}
use Rattle.texts.proofs.classes.run_len.Given as goal

abbrev pub invariant-loop-i : goal.invariant-loop-i
invariant-loop-i g l = list_all g.C.ByteClass.member (take l.i l.text) ≡ true
