-- How many digits the number of an aperture has.
use Rattle.std.proofs.Common.{◌≡◌, ℕ, ◌≤◌, Bool, true, false, ◌||◌, cond, List, length, Result, Err, refl, arith}
use Rattle.std.specs.Prelude.{nat_lt}
use Rattle.lengths.specs.declared.decimal.Unit.{Unit as Measure}
use Rattle.apertures.specs.declared.aperture.Aperture.{Aperture}
use Rattle.apertures.specs.declared.fault.ApertureFault.{ApertureFault}
use Rattle.apertures.specs.declared.fault.ApertureFault.TheVariants.{BadText, Number}
use Rattle.apertures.specs.Definition.{aperture_at, number_digits, numbered_at}

-- whatever is refused neither for its text nor for its number has a number of at most nine digits
pub few_digits : (is : Result (ℕ × Aperture) ApertureFault → Bool) → is (Err BadText) ≡ false → is (Err Number) ≡ false → (word : List ℕ) (unit : Measure) → is (aperture_at word unit) ≡ true → length (number_digits word) ≤ 9
unfolding aperture_at numbered_at
few_digits is text number word unit h = by _ _ (nat_lt 9 (length (number_digits word))) _ _ refl h
  where
    by : (a e l m : Bool) (rest : Result (ℕ × Aperture) ApertureFault) → nat_lt 9 (length (number_digits word)) ≡ l → is (cond a (Err BadText) (cond e (Err BadText) (cond (l || m) (Err Number) rest))) ≡ true → length (number_digits word) ≤ 9
    by true e l m rest same h = absurd cc
    by false true l m rest same h = absurd cc
    by false false true m rest same h = absurd cc
    by false false false m rest same h = grind (arith, same)
