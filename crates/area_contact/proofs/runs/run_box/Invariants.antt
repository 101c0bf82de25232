use Rattle.area_contact.proofs.RunBoxes.{AreOver}
use Rattle.area_contact.proofs.runs.run_box.Given as goal

abbrev pub invariant-loop-number : goal.invariant-loop-number
invariant-loop-number l = AreOver l.points l.all l.numbers l.number-index
