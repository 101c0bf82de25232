use Rattle.std.proofs.Common.{◌≡◌, length}
use Rattle.area_contact.specs.Bands.{AreAbout}
use Rattle.area_contact.proofs.runs.run_boxes.Given as goal

abbrev pub invariant-loop-k : goal.invariant-loop-k
invariant-loop-k l = (length l.boxes.items ≡ l.k) × AreAbout l.size l.points l.numbers l.boxes.items
