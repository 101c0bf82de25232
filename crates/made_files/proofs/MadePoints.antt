-- The netlist of a made board is read.
use Rattle.std.proofs.Common.{◌≡◌, ℕ, zero, suc, ◌+◌, ◌*◌, ◌<◌, ◌≤◌, Bool, true, false, ◌&&◌, ◌||◌, ◌==◌, eqb, nat_le, List, [], ◌∷◌, ◌++◌, length, map, drop, get_or, reverse, pos, Option, Some, Result, Ok, IsOk, codes, refl, sym, ap, ◌∙◌, subst, arith, append_assoc, append-nil}
use Rattle.std.proofs.lemmas.Bool.{agree_below_at, and_parts, cond-false, cond-true, eq-eqb, false_from_ne_true, false≢true, le-ltb, eqb-true, le-leb, lt-leb}
use Rattle.std.proofs.lemmas.Fmt.{decimal_injective, decimal_is_IsNumeral, length-decimal-le}
use Rattle.std.specs.Fmt.{digits}
use Rattle.std.specs.List.{AllByRecursion, flat_map, list_all, list_any, position_or_len}
use Rattle.std.proofs.lemmas.List.{length-append, map-append, reverse-append, reverse-reverse}
use Rattle.std.proofs.lemmas.List.Concat.{flat_map-append}
use Rattle.std.proofs.lemmas.List.Folds.{list_all-append, list_any-append}
use Rattle.std.specs.Prelude.{decimal, nat_lt}
use Rattle.std.specs.Str.Parse.{digits_value}
use Rattle.board_maker.specs.MadeBoard.{cells, column, name, part_text, row, six, test_record, test_records}
use Rattle.texts.proofs.LineTexts.{IsPlain, each_of, is_plain, spelled, text_cut, texts}
use Rattle.made_files.proofs.MadeHoles.{all_with, first_place}
use Rattle.made_files.specs.MadeFiles.{MadePointsAreRead, beside, cell_at, cell_name, names, point, points}
use Rattle.made_files.proofs.MadeCopper.{spot_is}
use Rattle.ipc356_records.specs.declared.line.Coordinate.{Coordinate}
use Rattle.board_maker.specs.declared.files.Part.TheVariants.{Points}
use Rattle.board_shapes.specs.declared.probe.Probe.{Probe}
use Rattle.file_reading.specs.Reading.{Clean, Item, said}
use Rattle.ipc356_records.specs.Line.{RecordLine, TestFields, units, ends, tests, finishes}
use Rattle.ipc356_records.specs.Names.{index_of, is_name, with_name}
use Rattle.ipc356_records.specs.NetlistFile.{Netlist, effect_at, item_of, items, probes_in, probes_of}
use Rattle.ipc356_records.specs.RecordEffects.{Effect, Known, stays, closes, adds, effect, layers_of, placed, probe_at, probes_of_effect, row as row_of, set_unit, test_record as conditions}
use Rattle.ipc356_records.specs.Settings.{has_ended, known_at, names_of, records_before, unit_before}
use Rattle.ipc356_records.specs.declared.TheConstants.{MOST_RECORDS}
use Rattle.ipc356_records.specs.declared.kind.RecordKind.{RecordKind}
use Rattle.lengths.specs.declared.decimal.Unit.TheVariants.{Mm}
use Rattle.planar.specs.declared.Spot.{Spot}
use Rattle.planar.specs.declared.TheConstants.{METRE}
use Rattle.texts.specs.Lines.{PlainLine, lines_of}
use Rattle.ipc356_records.specs.RecordLines.{access_in, coordinate_in, digits_in, fields_in, form_of, name_of, number_of, signed_number}
use Rattle.ipc356_records.proofs.Written.{digit_graphic, through, on_one, reads_units, reads_end, finishes_all}
use Rattle.texts.specs.Blanks.{trimmed, without_front}
use Rattle.texts.specs.Digits.{is_decimal_digit}
use Rattle.texts.proofs.DigitBytes.{wider, digit_no_blank, digit_plain, all_digits}

-- ---- Six digits

abbrev reads : ℕ → Bool
reads n = (length (six n) == 6) && (list_all is_decimal_digit (six n) && (digits_value 10 (six n) == n))

each_reads : (c : ℕ) → c < 100 → reads (2500 * c) ≡ true
unfolding digits six
each_reads c low = agree_below_at (λ n. reads (2500 * n)) (λ n. true) 100 c refl low

each_reads_beside : (c : ℕ) → c < 100 → reads (2500 * c + 1200) ≡ true
unfolding digits six
each_reads_beside c low = agree_below_at (λ n. reads (2500 * n + 1200)) (λ n. true) 100 c refl low

pub record IsSix (n : ℕ) (text : List ℕ) : Type 0 where
  pub size : length text ≡ 6
  pub all : list_all is_decimal_digit text ≡ true
  pub value : digits_value 10 text ≡ n

six_reads : (n : ℕ) → reads n ≡ true → IsSix n (six n)
six_reads n h =
    let a = and_parts (length (six n) == 6) _ h in
    let b = and_parts (list_all is_decimal_digit (six n)) _ a.1 in
    record { size = eqb-true (length (six n)) 6 a.0; all = b.0; value = eqb-true (digits_value 10 (six n)) n b.1 }

pub sixes_read : (c : ℕ) → c < 100 → IsSix (2500 * c) (six (2500 * c)) × IsSix (2500 * c + 1200) (six (2500 * c + 1200))
sixes_read c low = (six_reads (2500 * c) (each_reads c low), six_reads (2500 * c + 1200) (each_reads_beside c low))

-- ---- The fields of a record

-- 34 blanks
abbrev blanks : List ℕ
blanks = codes "                                  "

abbrev line_of : ℕ → List ℕ → ℕ → List ℕ → List ℕ → List ℕ
line_of code d access xs ys = 51 ∷ code ∷ 55 ∷ 78 ∷ ((d ++ drop (length d) blanks) ++ (65 ∷ 48 ∷ access ∷ 88 ∷ 43 ∷ (xs ++ 89 ∷ 43 ∷ ys)))

-- what stands in the columns of the name
abbrev padded : List ℕ → List ℕ
padded d = 78 ∷ (d ++ drop (21 + length d) blanks)

abbrev fields : Option (List ℕ) → Option ℕ → Option Coordinate → Option Coordinate → TestFields
fields name access x y = record { name = name; access = access; x = x; y = y }

abbrev FieldsAre : ℕ → ℕ → List ℕ → List ℕ → List ℕ → Type 0
FieldsAre code access d xs ys = fields_in (line_of code d access xs ys) ≡ fields (name_of (trimmed (padded d))) (number_of (48 ∷ access ∷ [])) (signed_number 43 (number_of xs)) (signed_number 43 (number_of ys))

as_six : (P : List ℕ → Type 0) → ((p q r s t u : ℕ) → P (p ∷ q ∷ r ∷ s ∷ t ∷ u ∷ [])) → (xs : List ℕ) → length xs ≡ 6 → P xs
as_six P each [] h = absurd (omega (arith, h))
as_six P each (p ∷ []) h = absurd (omega (arith, h))
as_six P each (p ∷ q ∷ []) h = absurd (omega (arith, h))
as_six P each (p ∷ q ∷ r ∷ []) h = absurd (omega (arith, h))
as_six P each (p ∷ q ∷ r ∷ s ∷ []) h = absurd (omega (arith, h))
as_six P each (p ∷ q ∷ r ∷ s ∷ t ∷ []) h = absurd (omega (arith, h))
as_six P each (p ∷ q ∷ r ∷ s ∷ t ∷ u ∷ []) h = each p q r s t u
as_six P each (p ∷ q ∷ r ∷ s ∷ t ∷ u ∷ v ∷ xs) h = absurd (omega (arith, h))

-- 1 to 4 items
as_few : (P : List ℕ → Type 0) → ((a : ℕ) → P (a ∷ [])) → ((a b : ℕ) → P (a ∷ b ∷ [])) → ((a b c : ℕ) → P (a ∷ b ∷ c ∷ [])) → ((a b c e : ℕ) → P (a ∷ b ∷ c ∷ e ∷ [])) → (d : List ℕ) → 1 ≤ length d → length d ≤ 4 → P d
as_few P one two three four [] some few = absurd (omega (arith, some))
as_few P one two three four (a ∷ []) some few = one a
as_few P one two three four (a ∷ b ∷ []) some few = two a b
as_few P one two three four (a ∷ b ∷ c ∷ []) some few = three a b c
as_few P one two three four (a ∷ b ∷ c ∷ e ∷ []) some few = four a b c e
as_few P one two three four (a ∷ b ∷ c ∷ e ∷ f ∷ d) some few = absurd (omega (arith, few))

fields_are : (code access : ℕ) (d xs ys : List ℕ) → 1 ≤ length d → length d ≤ 4 → length xs ≡ 6 → length ys ≡ 6 → FieldsAre code access d xs ys
unfolding fields_in access_in coordinate_in
fields_are code access d xs ys some few six also =
    as_six (λ (zs : List ℕ). FieldsAre code access d zs ys) (λ p q r s t u.
    as_six (λ (zs : List ℕ). FieldsAre code access d (p ∷ q ∷ r ∷ s ∷ t ∷ u ∷ []) zs) (λ i j k l m n.
    as_few (λ (zs : List ℕ). FieldsAre code access zs (p ∷ q ∷ r ∷ s ∷ t ∷ u ∷ []) (i ∷ j ∷ k ∷ l ∷ m ∷ n ∷ [])) (λ a. refl) (λ a b. refl) (λ a b c. refl) (λ a b c e. refl) d some few)
    ys also) xs six

-- ---- Digits

digit_at : (d : List ℕ) → list_all is_decimal_digit d ≡ true → (i : ℕ) → i < length d → is_decimal_digit (get_or d i 0) ≡ true
digit_at d all i below = each_of is_decimal_digit d all i 0 below

abbrev NameIsBack : List ℕ → Type 0
NameIsBack d = list_all is_decimal_digit d ≡ true → name_of (trimmed (padded d)) ≡ Some (78 ∷ d)

name_back : (d : List ℕ) → 1 ≤ length d → length d ≤ 4 → NameIsBack d
unfolding name_of
name_back d some few = as_few NameIsBack
    (λ a all. let i = digit_at (a ∷ []) all 0 (omega arith) in rw (digit_no_blank a i, digit_graphic a i) refl)
    (λ a b all. let i = digit_at (a ∷ b ∷ []) all 0 (omega arith) in let j = digit_at (a ∷ b ∷ []) all 1 (omega arith) in rw (digit_no_blank b j, digit_graphic a i, digit_graphic b j) refl)
    (λ a b c all. let i = digit_at (a ∷ b ∷ c ∷ []) all 0 (omega arith) in let j = digit_at (a ∷ b ∷ c ∷ []) all 1 (omega arith) in let k = digit_at (a ∷ b ∷ c ∷ []) all 2 (omega arith) in rw (digit_no_blank c k, digit_graphic a i, digit_graphic b j, digit_graphic c k) refl)
    (λ a b c e all. let i = digit_at (a ∷ b ∷ c ∷ e ∷ []) all 0 (omega arith) in let j = digit_at (a ∷ b ∷ c ∷ e ∷ []) all 1 (omega arith) in let k = digit_at (a ∷ b ∷ c ∷ e ∷ []) all 2 (omega arith) in let l = digit_at (a ∷ b ∷ c ∷ e ∷ []) all 3 (omega arith) in rw (digit_no_blank e l, digit_graphic a i, digit_graphic b j, digit_graphic c k, digit_graphic e l) refl)
    d some few

number_is : (ds : List ℕ) → 1 ≤ length ds → list_all is_decimal_digit ds ≡ true → number_of ds ≡ Some (digits_value 10 ds)
unfolding digits_in
number_is [] some all = absurd (omega (arith, some))
number_is (d ∷ ds) some all =
    let here : is_decimal_digit d ≡ true = digit_at (d ∷ ds) all 0 (omega arith) in
    let whole : without_front (d ∷ ds) ≡ d ∷ ds = rw (digit_no_blank d here) refl in
    ap digits_in whole ∙ rw all refl

abbrev steps : ℕ → Coordinate
steps n = record { negative = false; steps = n }

six_back : (n : ℕ) (xs : List ℕ) → IsSix n xs → signed_number 43 (number_of xs) ≡ Some (steps n)
unfolding signed_number
six_back n xs h = let size = h.size in ap (λ (o : Option ℕ). signed_number 43 o) (number_is xs (omega (arith, size)) h.all ∙ ap Some h.value)

-- the digits of a cell's number
record HasFewDigits (d : List ℕ) : Type 0 where
  some : 1 ≤ length d
  few : length d ≤ 4
  all : list_all is_decimal_digit d ≡ true

cell_digits : (i : ℕ) → i < 10_000 → HasFewDigits (decimal i)
cell_digits i low =
    let h = decimal_is_IsNumeral i (omega (arith, low)) in
    let s = h.0.0 in
    record { some = omega (arith, s); few = length-decimal-le 4 i (omega arith) (omega (arith, low)) (omega (arith, low)); all = all_digits (decimal i) h.0.1 }

-- what a record of a cell is read as
abbrev cell_fields : ℕ → ℕ → ℕ → ℕ → TestFields
cell_fields i access x y = fields (Some (cell_name i)) (Some access) (Some (steps x)) (Some (steps y))

record_fields : (code digit access i x y : ℕ) (xs ys : List ℕ) → i < 10_000 → number_of (48 ∷ digit ∷ []) ≡ Some access → IsSix x xs → IsSix y ys → fields_in (line_of code (decimal i) digit xs ys) ≡ cell_fields i access x y
record_fields code digit access i x y xs ys low number h k =
    let d = cell_digits i low in
    fields_are code digit (decimal i) xs ys d.some d.few h.size k.size
    ∙ (ap (λ (o : Option (List ℕ)). fields o (number_of (48 ∷ digit ∷ [])) (signed_number 43 (number_of xs)) (signed_number 43 (number_of ys))) (name_back (decimal i) d.some d.few d.all)
    ∙ (ap (λ (o : Option ℕ). fields (Some (cell_name i)) o (signed_number 43 (number_of xs)) (signed_number 43 (number_of ys))) number
    ∙ (ap (λ (o : Option Coordinate). fields (Some (cell_name i)) (Some access) o (signed_number 43 (number_of ys))) (six_back x xs h)
    ∙ ap (λ (o : Option Coordinate). fields (Some (cell_name i)) (Some access) (Some (steps x)) o) (six_back y ys k))))

-- the two lines of a cell
abbrev hole_line : ℕ → List ℕ
hole_line i = line_of 49 (decimal i) 48 (six (2500 * column i)) (six (2500 * row i))

abbrev pad_line : ℕ → List ℕ
pad_line i = line_of 50 (decimal i) 49 (six (2500 * column i + 1200)) (six (2500 * row i))

hole_form : (i : ℕ) → i < 10_000 → form_of (hole_line i) ≡ tests (cell_fields i 0 (2500 * column i) (2500 * row i))
unfolding digits_in
hole_form i low = through _ ∙ ap tests (record_fields 49 48 0 i (2500 * column i) (2500 * row i) (six (2500 * column i)) (six (2500 * row i)) low refl (sixes_read (column i) (omega arith)).0 (sixes_read (row i) (omega (arith, low))).0)

pad_form : (i : ℕ) → i < 10_000 → form_of (pad_line i) ≡ tests (cell_fields i 1 (2500 * column i + 1200) (2500 * row i))
unfolding digits_in
pad_form i low = on_one _ ∙ ap tests (record_fields 50 49 1 i (2500 * column i + 1200) (2500 * row i) (six (2500 * column i + 1200)) (six (2500 * row i)) low refl (sixes_read (column i) (omega arith)).1 (sixes_read (row i) (omega (arith, low))).0)

-- ---- The lines

abbrev lines_to : ℕ → List (List ℕ)
lines_to zero = codes "P  UNITS CUST 1" ∷ []
lines_to (suc i) = (lines_to i ++ hole_line i ∷ []) ++ pad_line i ∷ []

-- a record and its line end
record_spelled : (code digit i x y : ℕ) → test_record (51 ∷ code ∷ 55 ∷ []) i (65 ∷ 48 ∷ digit ∷ []) x y ≡ spelled (line_of code (decimal i) digit (six x) (six y))
unfolding name
record_spelled code digit i x y =
    let padding : List ℕ = decimal i ++ drop (length (decimal i)) blanks in
    let tail : List ℕ = six x ++ 89 ∷ 43 ∷ six y in
    let last : (six x ++ 89 ∷ 43 ∷ (six y ++ 10 ∷ [])) ≡ tail ++ 10 ∷ [] = sym (append_assoc (six x) (89 ∷ 43 ∷ six y) (10 ∷ [])) in
    let whole : padding ++ (65 ∷ 48 ∷ digit ∷ 88 ∷ 43 ∷ (tail ++ 10 ∷ [])) ≡ (padding ++ (65 ∷ 48 ∷ digit ∷ 88 ∷ 43 ∷ tail)) ++ 10 ∷ [] = sym (append_assoc padding (65 ∷ 48 ∷ digit ∷ 88 ∷ 43 ∷ tail) (10 ∷ [])) in
    let end : ((six x ++ 89 ∷ 43 ∷ (six y ++ 10 ∷ [])) ++ []) ≡ six x ++ 89 ∷ 43 ∷ (six y ++ 10 ∷ []) = append-nil (six x ++ 89 ∷ 43 ∷ (six y ++ 10 ∷ [])) in
    ap (λ (t : List ℕ). 51 ∷ code ∷ 55 ∷ 78 ∷ (padding ++ (65 ∷ 48 ∷ digit ∷ 88 ∷ 43 ∷ t))) (end ∙ last) ∙ ap (λ (t : List ℕ). 51 ∷ code ∷ 55 ∷ 78 ∷ t) whole

cells_spelled : (n : ℕ) → codes "P  UNITS CUST 1\n" ++ cells test_records n ≡ flat_map spelled (lines_to n)
unfolding cells
cells_spelled zero = refl
cells_spelled (suc i) =
    let head : List ℕ = codes "P  UNITS CUST 1\n" in
    let one : List ℕ = test_record (codes "317") i (codes "A00") (2500 * column i) (2500 * row i) in
    let two : List ℕ = test_record (codes "327") i (codes "A01") (2500 * column i + 1200) (2500 * row i) in
    let first : one ≡ spelled (hole_line i) = record_spelled 49 48 i (2500 * column i) (2500 * row i) in
    let second : two ≡ spelled (pad_line i) = record_spelled 50 49 i (2500 * column i + 1200) (2500 * row i) in
    let push : (ls : List (List ℕ)) (l : List ℕ) → flat_map spelled ls ++ spelled l ≡ flat_map spelled (ls ++ l ∷ []) = λ ls l. ap (λ (t : List ℕ). flat_map spelled ls ++ t) (sym (append-nil (spelled l))) ∙ sym (flat_map-append spelled ls (l ∷ [])) in
    sym (append_assoc head (cells test_records i) (one ++ two))
    ∙ (ap (λ (t : List ℕ). t ++ (one ++ two)) (cells_spelled i)
    ∙ (sym (append_assoc (flat_map spelled (lines_to i)) one two)
    ∙ (ap (λ (t : List ℕ). (flat_map spelled (lines_to i) ++ t) ++ two) first
    ∙ (ap (λ (t : List ℕ). t ++ two) (push (lines_to i) (hole_line i))
    ∙ (ap (λ (t : List ℕ). flat_map spelled (lines_to i ++ hole_line i ∷ []) ++ t) second ∙ push (lines_to i ++ hole_line i ∷ []) (pad_line i))))))

text_spelled : (seed n : ℕ) → part_text Points seed n ≡ flat_map spelled (lines_to n ++ codes "999" ∷ [])
text_spelled seed n = ap (λ (t : List ℕ). t ++ codes "999\n") (cells_spelled n) ∙ sym (flat_map-append spelled (lines_to n) (codes "999" ∷ []))

plain_digits : (xs : List ℕ) → list_all is_decimal_digit xs ≡ true → IsPlain xs
plain_digits xs h = wider is_decimal_digit is_plain digit_plain xs h

both_plain : (xs ys : List ℕ) → IsPlain xs → IsPlain ys → IsPlain (xs ++ ys)
both_plain xs ys h k = list_all-append is_plain xs ys ∙ rw (h, k) refl

plain_behind : (n : ℕ) (xs : List ℕ) → IsPlain xs → IsPlain (drop n xs)
plain_behind zero xs h = h
plain_behind (suc n) [] h = refl
plain_behind (suc n) (x ∷ xs) h = plain_behind n xs (and_parts (is_plain x) (list_all is_plain xs) h).1

plain_line : (code digit x y : ℕ) (d xs ys : List ℕ) → is_plain code ≡ true → is_plain digit ≡ true → HasFewDigits d → IsSix x xs → IsSix y ys → IsPlain (line_of code d digit xs ys)
plain_line code digit x y d xs ys one two h k l =
    let tail : IsPlain (xs ++ 89 ∷ 43 ∷ ys) = both_plain xs (89 ∷ 43 ∷ ys) (plain_digits xs k.all) (plain_digits ys l.all) in
    let back : IsPlain (65 ∷ 48 ∷ digit ∷ 88 ∷ 43 ∷ (xs ++ 89 ∷ 43 ∷ ys)) = rw (two, tail) refl in
    let name : IsPlain (d ++ drop (length d) blanks) = both_plain d (drop (length d) blanks) (plain_digits d h.all) (plain_behind (length d) blanks refl) in
    let rest : IsPlain ((d ++ drop (length d) blanks) ++ (65 ∷ 48 ∷ digit ∷ 88 ∷ 43 ∷ (xs ++ 89 ∷ 43 ∷ ys))) = both_plain (d ++ drop (length d) blanks) (65 ∷ 48 ∷ digit ∷ 88 ∷ 43 ∷ (xs ++ 89 ∷ 43 ∷ ys)) name back in
    rw (one, rest) refl

all_plain : (n : ℕ) → n ≤ 10_000 → AllByRecursion IsPlain (lines_to n)
all_plain zero few = (refl, tt)
all_plain (suc i) few =
    let d = cell_digits i (omega (arith, few)) in
    let x = sixes_read (column i) (omega arith) in
    let y = sixes_read (row i) (omega (arith, few)) in
    all_with (lines_to i ++ hole_line i ∷ []) (pad_line i)
    (all_with (lines_to i) (hole_line i) (all_plain i (omega (arith, few))) (plain_line 49 48 (2500 * column i) (2500 * row i) (decimal i) (six (2500 * column i)) (six (2500 * row i)) refl refl d x.0 y.0))
    (plain_line 50 49 (2500 * column i + 1200) (2500 * row i) (decimal i) (six (2500 * column i + 1200)) (six (2500 * row i)) refl refl d x.1 y.0)

-- ---- Names

same_name : (xs ys : List ℕ) → is_name xs ys ≡ true → xs ≡ ys
same_name [] [] h = refl
same_name [] (y ∷ ys) h = absurd (false≢true h)
same_name (x ∷ xs) [] h = absurd (false≢true h)
same_name (x ∷ xs) (y ∷ ys) h =
    let both = and_parts (eqb x y) (is_name xs ys) h in
    let head : x ≡ y = eqb-true x y both.0 in
    ap (λ (z : ℕ). z ∷ xs) head ∙ ap (λ (zs : List ℕ). y ∷ zs) (same_name xs ys both.1)

is_itself : (xs : List ℕ) → is_name xs xs ≡ true
is_itself [] = refl
is_itself (x ∷ xs) = rw (eq-eqb x x refl, is_itself xs) refl

other_cell : (i m : ℕ) → i < 10_000 → m < i → is_name (cell_name i) (cell_name m) ≡ false
other_cell i m low less = false_from_ne_true (is_name (cell_name i) (cell_name m)) (λ h. (
    let same : decimal i ≡ decimal m = ap (drop 1) (same_name (cell_name i) (cell_name m) h) in
    let one = decimal_injective i m (omega (arith, low)) (omega (arith, low, less)) same in
    absurd (omega (arith, one, less))))

not_named : (i n : ℕ) → i < 10_000 → n ≤ i → list_any (is_name (cell_name i)) (names n) ≡ false
not_named i zero low less = refl
not_named i (suc m) low less = list_any-append (is_name (cell_name i)) (names m) (cell_name m ∷ []) ∙ rw (not_named i m low (omega (arith, less)), other_cell i m low (omega (arith, less))) refl

names_many : (n : ℕ) → length (names n) ≡ n
names_many zero = refl
names_many (suc i) = let more = names_many i in let both = length-append (names i) (cell_name i ∷ []) in omega (arith, more, both)

none_place : {X : Type 0} (p : X → Bool) (xs : List X) → list_any p xs ≡ false → position_or_len p xs ≡ length xs
none_place p [] h = refl
none_place p (x ∷ xs) h = by (p x) refl h (none_place p xs)
  where
    by : (b : Bool) → p x ≡ b → (b || list_any p xs) ≡ false → (list_any p xs ≡ false → position_or_len p xs ≡ length xs) → position_or_len p (x ∷ xs) ≡ suc (length xs)
    by true e k more = cc
    by false e k more =
        let one : position_or_len p (x ∷ xs) ≡ 1 + position_or_len p xs = rw e (omega arith) in
        let rest = more k in
        omega (arith, one, rest)

new_index : (i : ℕ) → i < 10_000 → index_of (cell_name i) (names i) ≡ i
new_index i low = none_place (is_name (cell_name i)) (names i) (not_named i i low (omega arith)) ∙ names_many i

named : (i : ℕ) → i < 10_000 → with_name (cell_name i) (names i) ≡ names (suc i)
named i low = cond-false (list_any (is_name (cell_name i)) (names i)) (names i) (names i ++ cell_name i ∷ []) (not_named i i low (omega arith))

old_index : (i : ℕ) → i < 10_000 → index_of (cell_name i) (names (suc i)) ≡ i
old_index i low = first_place (is_name (cell_name i)) (names i) [] (cell_name i) (not_named i i low (omega arith)) (is_itself (cell_name i)) ∙ names_many i

named_still : (i : ℕ) → i < 10_000 → with_name (cell_name i) (names (suc i)) ≡ names (suc i)
named_still i low = cond-true (list_any (is_name (cell_name i)) (names (suc i))) (names (suc i)) (names (suc i) ++ cell_name i ∷ []) (list_any-append (is_name (cell_name i)) (names i) (cell_name i ∷ []) ∙ rw (not_named i i low (omega arith), is_itself (cell_name i)) refl)

-- ---- What each line does

placed_at : (n : ℕ) → n ≤ 300_000 → placed Mm (steps n) ≡ Ok (pos (n * 10_000))
unfolding placed
placed_at n few = let near : nat_lt METRE (n * 10_000) ≡ false = le-ltb METRE (n * 10_000) (omega (arith, few)) in rw near refl

adds_point : (k : Known) (i access x y : ℕ) → k.ended ≡ false → k.unit ≡ Some Mm → nat_le access k.layers ≡ true → x ≤ 300_000 → y ≤ 300_000 → nat_le MOST_RECORDS k.records ≡ false
    → effect k (tests (cell_fields i access x y)) ≡ Ok (adds (cell_name i) access (record { x = pos (x * 10_000); y = pos (y * 10_000) }))
unfolding effect row_of conditions
adds_point k i access x y ongoing unit known left up room = rw (ongoing, unit, known, placed_at x left, placed_at y up, room) refl

closes_all : (k : Known) → k.ended ≡ false → effect k ends ≡ Ok closes
unfolding effect row_of
closes_all k ongoing = rw ongoing refl

-- ---- The history

abbrev hole_says : ℕ → RecordLine
hole_says i = tests (cell_fields i 0 (2500 * column i) (2500 * row i))

abbrev pad_says : ℕ → RecordLine
pad_says i = tests (cell_fields i 1 (2500 * column i + 1200) (2500 * row i))

abbrev behind : ℕ → List RecordLine
behind zero = units (Some Mm) ∷ []
behind (suc i) = pad_says i ∷ hole_says i ∷ behind i

-- No line has a fault, the units stand, the file goes on, and so many records gave these names and points.
record Stands (count : ℕ) (ns : List (List ℕ)) (ps : List Probe) (h : List RecordLine) : Type 0 where
  clean : Clean (effect_at 2) h
  unit : unit_before h ≡ Some Mm
  many : records_before h ≡ count
  named_so : names_of h ≡ ns
  ongoing : has_ended h ≡ false
  are : probes_of 2 h ≡ ps

probes_then : (h : List RecordLine) (f : RecordLine) (e : Effect) → effect (known_at 2 h) f ≡ Ok e → probes_of 2 (f ∷ h) ≡ probes_of 2 h ++ probes_of_effect (known_at 2 h) e
probes_then h f e is = ap (λ (r : Result Effect RecordKind). probes_of 2 h ++ probes_in (known_at 2 h) r) is

is_ok : (r : Result Effect RecordKind) (e : Effect) → r ≡ Ok e → IsOk r
is_ok r e is = subst IsOk (sym is) refl

started : Stands 0 [] [] (behind 0)
unfolding effect row_of set_unit probes_of_effect
started = record { clean = (refl, tt); unit = refl; many = refl; named_so = refl; ongoing = refl; are = refl }

point_then : (count : ℕ) (ns : List (List ℕ)) (ps : List Probe) (h : List RecordLine) (i access x y : ℕ) → Stands count ns ps h → count < 200_000 → access ≤ 2 → x ≤ 300_000 → y ≤ 300_000
    → Stands (count + 1) (with_name (cell_name i) ns) (ps ++ map (probe_at (count + 1) (index_of (cell_name i) ns) (record { x = pos (x * 10_000); y = pos (y * 10_000) })) (layers_of 2 access)) (tests (cell_fields i access x y) ∷ h)
unfolding probes_of_effect
point_then count ns ps h i access x y s low reach left up =
    let many = s.many in
    let at : Spot = record { x = pos (x * 10_000); y = pos (y * 10_000) } in
    let room : nat_le MOST_RECORDS (records_before h) ≡ false = lt-leb MOST_RECORDS (records_before h) (omega (arith, many, low)) in
    let e = adds_point (known_at 2 h) i access x y s.ongoing s.unit (le-leb access 2 reach) left up room in
    let f : RecordLine = tests (cell_fields i access x y) in
    record {
      clean = (is_ok (effect_at 2 h f) (adds (cell_name i) access at) e, s.clean);
      unit = s.unit;
      many = ap (λ (n : ℕ). n + 1) s.many;
      named_so = ap (λ (names : List (List ℕ)). with_name (cell_name i) names) s.named_so;
      ongoing = s.ongoing;
      are = probes_then h f (adds (cell_name i) access at) e
          ∙ (ap (λ (qs : List Probe). qs ++ map (probe_at (records_before h + 1) (index_of (cell_name i) (names_of h)) at) (layers_of 2 access)) s.are
          ∙ (ap (λ (n : ℕ). ps ++ map (probe_at (n + 1) (index_of (cell_name i) (names_of h)) at) (layers_of 2 access)) s.many
          ∙ ap (λ (names : List (List ℕ)). ps ++ map (probe_at (count + 1) (index_of (cell_name i) names) at) (layers_of 2 access)) s.named_so));
    }

number_is_next : (i : ℕ) → 2 * i + 1 + 1 ≡ 2 * i + 2
number_is_next i = omega arith

standing : (n : ℕ) → n ≤ 10_000 → Stands (2 * n) (names n) (points n) (behind n)
standing zero few = started
standing (suc i) few =
    let low : i < 10_000 = omega (arith, few) in
    let x : ℕ = 2500 * column i in
    let y : ℕ = 2500 * row i in
    let s = standing i (omega (arith, few)) in
    let one = point_then (2 * i) (names i) (points i) (behind i) i 0 x y s (omega (arith, few)) (omega arith) (omega arith) (omega (arith, few)) in
    let first : map (probe_at (2 * i + 1) (index_of (cell_name i) (names i)) (record { x = pos (x * 10_000); y = pos (y * 10_000) })) (layers_of 2 0) ≡ point (2 * i + 1) i (cell_at i) 1 ∷ point (2 * i + 1) i (cell_at i) 2 ∷ [] =
    ap (λ (n : ℕ). map (probe_at (2 * i + 1) n (record { x = pos (x * 10_000); y = pos (y * 10_000) })) (layers_of 2 0)) (new_index i low)
    ∙ ap (λ (at : Spot). point (2 * i + 1) i at 1 ∷ point (2 * i + 1) i at 2 ∷ []) (spot_is (x * 10_000) (25_000_000 * column i) (y * 10_000) (25_000_000 * row i) (omega arith) (omega arith)) in
    let half : Stands (2 * i + 1) (names (suc i)) (points i ++ (point (2 * i + 1) i (cell_at i) 1 ∷ point (2 * i + 1) i (cell_at i) 2 ∷ [])) (hole_says i ∷ behind i) =
    subst (λ (ns : List (List ℕ)). Stands (2 * i + 1) ns (points i ++ (point (2 * i + 1) i (cell_at i) 1 ∷ point (2 * i + 1) i (cell_at i) 2 ∷ [])) (hole_says i ∷ behind i)) (named i low)
    (subst (λ (ps : List Probe). Stands (2 * i + 1) (with_name (cell_name i) (names i)) (points i ++ ps) (hole_says i ∷ behind i)) first one) in
    let two = point_then (2 * i + 1) (names (suc i)) (points i ++ (point (2 * i + 1) i (cell_at i) 1 ∷ point (2 * i + 1) i (cell_at i) 2 ∷ [])) (hole_says i ∷ behind i) i 1 (x + 1200) y half (omega (arith, few)) (omega arith) (omega arith) (omega (arith, few)) in
    let second : map (probe_at (2 * i + 1 + 1) (index_of (cell_name i) (names (suc i))) (record { x = pos ((x + 1200) * 10_000); y = pos (y * 10_000) })) (layers_of 2 1) ≡ point (2 * i + 2) i (beside i) 1 ∷ [] =
    ap (λ (n : ℕ). map (probe_at (2 * i + 1 + 1) n (record { x = pos ((x + 1200) * 10_000); y = pos (y * 10_000) })) (layers_of 2 1)) (old_index i low)
    ∙ (ap (λ (n : ℕ). point n i (record { x = pos ((x + 1200) * 10_000); y = pos (y * 10_000) }) 1 ∷ []) (number_is_next i)
    ∙ ap (λ (at : Spot). point (2 * i + 2) i at 1 ∷ []) (spot_is ((x + 1200) * 10_000) (25_000_000 * column i + 12_000_000) (y * 10_000) (25_000_000 * row i) (omega arith) (omega arith))) in
    let joined : (points i ++ (point (2 * i + 1) i (cell_at i) 1 ∷ point (2 * i + 1) i (cell_at i) 2 ∷ [])) ++ point (2 * i + 2) i (beside i) 1 ∷ [] ≡ points (suc i) = append_assoc (points i) (point (2 * i + 1) i (cell_at i) 1 ∷ point (2 * i + 1) i (cell_at i) 2 ∷ []) (point (2 * i + 2) i (beside i) 1 ∷ []) in
    let count : 2 * i + 1 + 1 ≡ 2 * suc i = omega arith in
    subst (λ (n : ℕ). Stands n (names (suc i)) (points (suc i)) (behind (suc i))) count
    (subst (λ (ns : List (List ℕ)). Stands (2 * i + 1 + 1) ns (points (suc i)) (behind (suc i))) (named_still i low)
    (subst (λ (ps : List Probe). Stands (2 * i + 1 + 1) (with_name (cell_name i) (names (suc i))) ps (behind (suc i))) joined
    (subst (λ (ps : List Probe). Stands (2 * i + 1 + 1) (with_name (cell_name i) (names (suc i))) ((points i ++ (point (2 * i + 1) i (cell_at i) 1 ∷ point (2 * i + 1) i (cell_at i) 2 ∷ [])) ++ ps) (behind (suc i))) second two)))

-- ---- The whole

forms_back : (n : ℕ) → n ≤ 10_000 → reverse (map form_of (lines_to n)) ≡ behind n
forms_back zero few = ap (λ (f : RecordLine). f ∷ []) reads_units
forms_back (suc i) few =
    let low : i < 10_000 = omega (arith, few) in
    let push : (ls : List (List ℕ)) (l : List ℕ) → reverse (map form_of (ls ++ l ∷ [])) ≡ form_of l ∷ reverse (map form_of ls) = λ ls l. ap reverse (map-append form_of ls (l ∷ [])) ∙ reverse-append (map form_of ls) (form_of l ∷ []) in
    push (lines_to i ++ hole_line i ∷ []) (pad_line i) ∙ (ap (λ (fs : List RecordLine). form_of (pad_line i) ∷ fs) (push (lines_to i) (hole_line i))
    ∙ (ap (λ (f : RecordLine). f ∷ form_of (hole_line i) ∷ reverse (map form_of (lines_to i))) (pad_form i low)
    ∙ (ap (λ (f : RecordLine). pad_says i ∷ f ∷ reverse (map form_of (lines_to i))) (hole_form i low)
    ∙ ap (λ (fs : List RecordLine). pad_says i ∷ hole_says i ∷ fs) (forms_back i (omega (arith, few))))))

reverse_said : (is : List (Item RecordLine)) → said (reverse is) ≡ reverse (said is)
reverse_said [] = refl
reverse_said (i ∷ is) =
    ap said (reverse-append (i ∷ []) is) ∙ (map-append (λ (j : Item RecordLine). j.says) (reverse is) (i ∷ [])
    ∙ (ap (λ (fs : List RecordLine). fs ++ i.says ∷ []) (reverse_said is) ∙ sym (reverse-append (i.says ∷ []) (said is))))

said_lines : (lines : List PlainLine) → said (map item_of lines) ≡ map form_of (texts lines)
said_lines [] = refl
said_lines (l ∷ lines) = ap (λ (fs : List RecordLine). form_of l.text ∷ fs) (said_lines lines)

history : (seed n : ℕ) → n ≤ 10_000 → said (reverse (items (part_text Points seed n))) ≡ finishes ∷ ends ∷ behind n
history seed n few =
    let file : List ℕ = part_text Points seed n in
    let lines : List (List ℕ) = lines_to n ++ codes "999" ∷ [] in
    let last : Item RecordLine = record { says = finishes; at = length (lines_of file) + 1 } in
    let cut : texts (lines_of file) ≡ lines = ap (λ (t : List ℕ). texts (lines_of t)) (text_spelled seed n) ∙ text_cut lines (all_with (lines_to n) (codes "999") (all_plain n few) refl) in
    let forms : said (map item_of (lines_of file)) ≡ map form_of (lines_to n) ++ ends ∷ [] = said_lines (lines_of file) ∙ (ap (map form_of) cut ∙ (map-append form_of (lines_to n) (codes "999" ∷ []) ∙ ap (λ (f : RecordLine). map form_of (lines_to n) ++ f ∷ []) reads_end)) in
    let whole : said (items file) ≡ (map form_of (lines_to n) ++ ends ∷ []) ++ finishes ∷ [] = map-append (λ (j : Item RecordLine). j.says) (map item_of (lines_of file)) (last ∷ []) ∙ ap (λ (fs : List RecordLine). fs ++ finishes ∷ []) forms in
    reverse_said (items file) ∙ (ap reverse whole ∙ (reverse-append (map form_of (lines_to n) ++ ends ∷ []) (finishes ∷ [])
    ∙ (ap (λ (fs : List RecordLine). finishes ∷ fs) (reverse-append (map form_of (lines_to n)) (ends ∷ [])) ∙ ap (λ (fs : List RecordLine). finishes ∷ ends ∷ fs) (forms_back n few))))

-- a line that adds no probes
quiet_then : (h : List RecordLine) (f : RecordLine) (e : Effect) → effect (known_at 2 h) f ≡ Ok e → probes_of_effect (known_at 2 h) e ≡ [] → probes_of 2 (f ∷ h) ≡ probes_of 2 h
quiet_then h f e is none = probes_then h f e is ∙ (ap (λ (ps : List Probe). probes_of 2 h ++ ps) none ∙ append-nil (probes_of 2 h))

none_made : (k : Known) → (probes_of_effect k closes ≡ []) × (probes_of_effect k stays ≡ [])
unfolding probes_of_effect
none_made k = (refl, refl)

abbrev netlist : List Probe → List (List ℕ) → Netlist
netlist probes names = record { probes = probes; names = names }

pub made_points_are_read : MadePointsAreRead
made_points_are_read seed size few =
    let file : List ℕ = part_text Points seed size in
    let s = standing size few in
    let are = history seed size few in
    let closing = closes_all (known_at 2 (behind size)) s.ongoing in
    let finishing = finishes_all (known_at 2 (ends ∷ behind size)) refl in
    let probes : probes_of 2 (finishes ∷ ends ∷ behind size) ≡ points size =
    quiet_then (ends ∷ behind size) finishes stays finishing (none_made (known_at 2 (ends ∷ behind size))).1 ∙ (quiet_then (behind size) ends closes closing (none_made (known_at 2 (behind size))).0 ∙ s.are) in
    let clean : Clean (effect_at 2) (finishes ∷ ends ∷ behind size) = (is_ok (effect_at 2 (ends ∷ behind size) finishes) stays finishing, (is_ok (effect_at 2 (behind size) ends) closes closing, s.clean)) in
    record {
      earlier = reverse (items file);
      whole = record { split = sym (append-nil (reverse (reverse (items file))) ∙ reverse-reverse (items file)); clean = subst (Clean (effect_at 2)) (sym are) clean };
      is = sym (ap (λ (h : List RecordLine). netlist (probes_of 2 h) (names_of h)) are ∙ (ap (λ (ps : List Probe). netlist ps (names_of (behind size))) probes ∙ ap (λ (ns : List (List ℕ)). netlist (points size) ns) s.named_so));
    }
