-- The number of an aperture of a macro.
use Rattle.std.proofs.Common.{◌≡◌, ℕ, ◌≤◌, true, List, length, refl}
use Rattle.lengths.specs.declared.decimal.Unit.{Unit as Measure}
use Rattle.apertures.specs.Definition.{aperture_at}
use Rattle.apertures.proofs.Digits.{few_digits}
use Rattle.gerber_layer.specs.Tools.{number_digits}
use Rattle.gerber_layer.specs.MacroTable.{is_of_macro}

-- the number of an aperture of a macro has at most nine digits
pub short_number : (word : List ℕ) (unit : Measure) → is_of_macro (aperture_at word unit) ≡ true → length (number_digits word) ≤ 9
short_number word unit h = few_digits is_of_macro refl refl word unit h
