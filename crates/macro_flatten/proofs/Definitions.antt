-- The words of a flattened text, read as commands: those of its head.
use Rattle.std.proofs.Common.{◌≡◌, ℕ, ◌+◌, ◌/◌, ◌%◌, ◌≤◌, Bool, true, false, ◌||◌, ◌&&◌, not, cond, eqb, List, [], ◌∷◌, ◌++◌, length, drop, pos, Ok, refl, sym, ap, ◌∙◌, arith, length-append}
use Rattle.std.proofs.Math.Seq.{drop-append-add}
use Rattle.std.proofs.lemmas.Fmt.{length-decimal-le}
use Rattle.std.proofs.lemmas.List.Folds.{list_all-append, list_any-append}
use Rattle.std.specs.List.{list_all, list_any}
use Rattle.std.specs.Prelude.{decimal, codes}
use Rattle.std.specs.Str.Parse.{digits_value, digits_value_after}
use borrow.Author.Tests.{le-ltb}
use Rattle.lengths.proofs.Digits.{digits_value_after-append, is_number-true}
use Rattle.lengths.proofs.GridLemmas.{Sizes-is}
use Rattle.lengths.specs.Decimal.{unsigned, has_minus, is_point, front, back, is_decimal, fraction}
use Rattle.lengths.specs.Grid.{size_of}
use Rattle.lengths.specs.declared.decimal.Unit.TheVariants.{Mm}
use Rattle.texts.specs.Digits.{is_decimal_digit}
use Rattle.texts.specs.LastDigits.{last_digits}
use Rattle.apertures.specs.Definition.{is_x, is_empty, size_at, last_behind, circle_at, diameter_at, solid_by, numbered_at, aperture_at}
use Rattle.apertures.specs.declared.aperture.Aperture.TheVariants.{Circle}
use Rattle.gerber_words.specs.Attributes.{attribute_kind}
use Rattle.gerber_reading.specs.Command.{formats, counts_in, defines}
use Rattle.gerber_layer.specs.WordCommands.{extended as row, format_word, format_of, command_of}
use Rattle.macro_flatten.specs.FlatText.{millimetres}
use Rattle.macro_flatten.proofs.Digits.{runs, none, written}
use Rattle.texts.proofs.LastDigits.{last_are_digits, length-last_digits, last_value}
use Rattle.texts.proofs.DigitBytes.{wider, digit_is_not}
use Rattle.macro_flatten.proofs.Operations.{seven}
use Rattle.contact.specs.declared.TheConstants.{MOST_DIAMETER}
use Rattle.planar.specs.declared.TheConstants.{METRE}

-- ---- A length in millimetres

-- a text of digits, a point and digits
record IsPointed (whole behind : List ℕ) : Type 0 where
  body : unsigned (whole ++ 46 ∷ behind) ≡ whole ++ 46 ∷ behind
  plus : has_minus (whole ++ 46 ∷ behind) ≡ false
  front_is : front (whole ++ 46 ∷ behind) ≡ whole
  back_is : back (whole ++ 46 ∷ behind) ≡ behind

not_point : (c : ℕ) → is_decimal_digit c ≡ true → not (is_point c) ≡ true
not_point c h = rw (digit_is_not 46 c refl h) refl

pointed : (whole behind : List ℕ) → 1 ≤ length whole → list_all is_decimal_digit whole ≡ true → IsPointed whole behind
pointed [] behind some h = absurd (omega (arith, some))
pointed (c ∷ whole) behind some h =
    let r = runs (λ b. not (is_point b)) (c ∷ whole) 46 behind (wider is_decimal_digit (λ b. not (is_point b)) not_point (c ∷ whole) h) refl in
    record {
      body = signless (is_decimal_digit c) refl h;
      plus = no_sign (is_decimal_digit c) refl h;
      front_is = r.front;
      back_is = ap (λ (n : ℕ). drop (n + 1) (c ∷ whole ++ 46 ∷ behind)) r.len ∙ drop-append-add (c ∷ whole) (46 ∷ behind) 1;
    }
  where
    signless : (b : Bool) → is_decimal_digit c ≡ b → (b && list_all is_decimal_digit whole) ≡ true → cond (eqb c 43 || eqb c 45) (whole ++ 46 ∷ behind) (c ∷ whole ++ 46 ∷ behind) ≡ c ∷ whole ++ 46 ∷ behind
    signless true e k = rw (digit_is_not 43 c refl e, digit_is_not 45 c refl e) refl
    signless false e k = cc

    no_sign : (b : Bool) → is_decimal_digit c ≡ b → (b && list_all is_decimal_digit whole) ≡ true → eqb c 45 ≡ false
    no_sign true e k = digit_is_not 45 c refl e
    no_sign false e k = cc

no_x : (c : ℕ) → is_decimal_digit c ≡ true → is_x c ≡ false
no_x c h = digit_is_not 88 c refl h

-- a length in millimetres is read back
pub record IsSizeText (n : ℕ) : Type 0 where
  pub size : size_at (millimetres n) Mm ≡ Ok (pos n)
  pub plain : list_any is_x (millimetres n) ≡ false

pub size_text : (n : ℕ) → n % 2 ≡ 0 → n ≤ METRE → IsSizeText n
unfolding size_at
size_text n even most =
    let w = written (n / 10_000_000) (omega (arith, most)) in
    let tail : list_all is_decimal_digit (last_digits 7 n) ≡ true = last_are_digits 7 n in
    let p = pointed (decimal (n / 10_000_000)) (last_digits 7 n) w.some w.digits in
    let few : length (decimal (n / 10_000_000)) ≤ 11 = length-decimal-le 11 (n / 10_000_000) (omega arith) (omega (arith, most)) (omega (arith, most)) in
    let long : length (decimal (n / 10_000_000) ++ last_digits 7 n) ≡ length (decimal (n / 10_000_000)) + 7 = length-append (decimal (n / 10_000_000)) (last_digits 7 n) ∙ ap (λ (k : ℕ). length (decimal (n / 10_000_000)) + k) (length-last_digits 7 n) in
    let some = w.some in
    let digits : list_all is_decimal_digit (decimal (n / 10_000_000) ++ last_digits 7 n) ≡ true = list_all-append is_decimal_digit (decimal (n / 10_000_000)) (last_digits 7 n) ∙ rw (w.digits, tail) refl in
    let parts : front (unsigned (millimetres n)) ++ back (unsigned (millimetres n)) ≡ decimal (n / 10_000_000) ++ last_digits 7 n = rw (p.body, p.front_is, p.back_is) refl in
    let is : is_decimal (millimetres n) ≡ true = rw parts (is_number-true (decimal (n / 10_000_000) ++ last_digits 7 n) (omega (arith, long, some)) (omega (arith, long, few)) digits) in
    let places : length (back (unsigned (millimetres n))) ≡ 7 = ap length (ap back p.body ∙ p.back_is) ∙ length-last_digits 7 n in
    let value : digits_value 10 (front (unsigned (millimetres n)) ++ back (unsigned (millimetres n))) ≡ n = ap (digits_value 10) parts ∙ digits_value_after-append 10 0 (decimal (n / 10_000_000)) (last_digits 7 n) ∙ ap (λ (k : ℕ). digits_value_after 10 k (last_digits 7 n)) w.value ∙ last_value 7 n in
    let size : size_of (fraction (millimetres n)) Mm ≡ Ok (pos n) = sym (Sizes-is (fraction (millimetres n)) Mm (Ok (pos n)) (n, (rw (places, value) refl), even, most, refl, (rw p.plus refl))) in
    record {
      size = rw (is, size) refl;
      plain = list_any-append is_x (decimal (n / 10_000_000)) (46 ∷ last_digits 7 n) ∙ rw (none is_decimal_digit is_x no_x (decimal (n / 10_000_000)) w.digits, none is_decimal_digit is_x no_x (last_digits 7 n) tail) refl;
    }

-- ---- A definition

not_empty : (ds : List ℕ) → 1 ≤ length ds → is_empty ds ≡ false
not_empty [] h = absurd (omega (arith, h))
not_empty (c ∷ ds) h = refl

abbrev pub circle_text : ℕ → ℕ → List ℕ
circle_text n d = codes "ADD" ++ (decimal n ++ (codes "C," ++ millimetres d))

reads_circle : (text : List ℕ) (d : ℕ) → d ≤ MOST_DIAMETER → size_at text Mm ≡ Ok (pos d) → list_any is_x text ≡ false → solid_by (67 ∷ []) (67 ∷ 44 ∷ text) Mm ≡ Ok (Circle (pos d))
unfolding solid_by circle_at last_behind diameter_at
reads_circle text d narrow size plain = rw (plain, size, le-ltb _ _ narrow) refl

pub defines_circle : (n d : ℕ) → 10 ≤ n → n ≤ 70_000 → d % 2 ≡ 0 → d ≤ MOST_DIAMETER → aperture_at (circle_text n d) Mm ≡ Ok (n, Circle (pos d))
unfolding aperture_at numbered_at
defines_circle n d low high even most =
    let w = written n (omega (arith, high)) in
    let s = size_text d even (omega (arith, most)) in
    let few : length (decimal n) ≤ 9 = length-decimal-le 9 n (omega arith) (omega (arith, high)) (omega (arith, high)) in
    let u = runs is_decimal_digit (decimal n) 67 (44 ∷ millimetres d) w.digits refl in
    let solid = reads_circle (millimetres d) d most s.size s.plain in
    rw (u.front, u.behind, not_empty (decimal n) w.some, w.value, le-ltb _ _ few, le-ltb _ _ low, solid) refl

pub reads_definition : (at n d : ℕ) → command_of (record { at = at; text = circle_text n d; extended = true; body = false }) ≡ defines (circle_text n d)
unfolding command_of attribute_kind row
reads_definition at n d = refl

pub reads_format : (at : ℕ) → command_of (record { at = at; text = codes "FSLAX47Y47"; extended = true; body = false }) ≡ formats seven
unfolding command_of attribute_kind row format_word format_of
reads_format at = refl

pub reads_unit : (at : ℕ) → command_of (record { at = at; text = codes "MOMM"; extended = true; body = false }) ≡ counts_in Mm
unfolding command_of attribute_kind row
reads_unit at = refl
