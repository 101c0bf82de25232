-- What lines as boardnet writes them are read as.
use Rattle.std.proofs.Common.{◌≡◌, ℕ, true, List, ◌∷◌, Some, Ok, codes, refl, arith}
use Rattle.std.proofs.lemmas.Bool.{le-leb, ltb-true}
use Rattle.std.proofs.lemmas.Str.Parse.{digit_from_value}
use Rattle.lengths.specs.declared.decimal.Unit.TheVariants.{Mm}
use Rattle.texts.specs.Digits.{is_decimal_digit}
use Rattle.ipc356_records.specs.Columns.{words}
use Rattle.ipc356_records.specs.Line.{ends, finishes, tests, units}
use Rattle.ipc356_records.specs.RecordEffects.{Known, effect, stays}
use Rattle.ipc356_records.specs.RecordLines.{coded, fields_in, form_of, is_graphic, parameter, unit_of}

pub digit_graphic : (c : ℕ) → is_decimal_digit c ≡ true → is_graphic c ≡ true
digit_graphic c h =
    let r = digit_from_value c (ltb-true _ _ h) in
    let low = r.0 in
    let high = r.1 in
    rw (le-leb 33 c (omega (arith, low)), le-leb c 126 (omega (arith, high))) refl

pub through : (rest : List ℕ) → form_of (51 ∷ 49 ∷ 55 ∷ rest) ≡ tests (fields_in (51 ∷ 49 ∷ 55 ∷ rest))
unfolding form_of coded
through rest = refl

pub on_one : (rest : List ℕ) → form_of (51 ∷ 50 ∷ 55 ∷ rest) ≡ tests (fields_in (51 ∷ 50 ∷ 55 ∷ rest))
unfolding form_of coded
on_one rest = refl

pub reads_units : form_of (codes "P  UNITS CUST 1") ≡ units (Some Mm)
unfolding form_of parameter unit_of words
reads_units = refl

pub reads_end : form_of (codes "999") ≡ ends
unfolding form_of coded
reads_end = refl

pub finishes_all : (k : Known) → k.ended ≡ true → effect k finishes ≡ Ok stays
unfolding effect
finishes_all k over = rw over refl
