-- Each file has one answer.
use Rattle.std.proofs.Common.{ℕ, List}
use Rattle.file_reading.proofs.OneAnswer as reading
use Rattle.xnc.specs.Places.{Place}
use Rattle.drill_forms.specs.History.{effect_at, barrels_at}
use Rattle.drill_forms.specs.FormFile.{items, HasOneAnswer}

pub one_answer : (file : List ℕ) (p : Place) → HasOneAnswer file p
one_answer file p = reading.one_answer (effect_at p) (barrels_at p) (items p file)
