-- A test record that is written is read back, field by field.
use Rattle.std.proofs.Common.{◌≡◌, ℕ, zero, suc, ◌+◌, ◌-◌, ◌^◌, ◌<◌, ◌≤◌, Bool, true, false, ◌||◌, ◌&&◌, eqb, List, [], ◌∷◌, ◌++◌, length, take, drop, get_or, replicate, ℤ, pos, negsuc, Option, Some, refl, sym, ap, ◌∙◌, arith, subst, length-append, append_assoc}
use Rattle.std.proofs.lemmas.Bool.{eqb-true}
use Rattle.std.proofs.lemmas.List.{get_or_append_left, get_or-append-add, length-replicate}
use Rattle.std.proofs.lemmas.List.Sums.{suffix_len_is}
use Rattle.std.proofs.Math.Seq.{take-append_seam, drop-append-add}
use Rattle.std.specs.List.{list_all, suffix_len}
use Rattle.std.specs.Prelude.{codes, decimal}
use Rattle.std.specs.Str.Parse.{digits_value}
use Rattle.planar.specs.declared.Spot.{Spot}
use Rattle.texts.specs.Digits.{is_decimal_digit}
use Rattle.texts.specs.LastDigits.{last_digits}
use Rattle.texts.specs.Blanks.{is_blank, trimmed, without_front, without_back}
use Rattle.ipc356_records.specs.declared.line.Coordinate.{Coordinate}
use Rattle.ipc356_records.specs.Columns.{laid, filled, part, column, columns, name_from, name_to, access_at, x_at, y_at}
use Rattle.ipc356_records.specs.Line.{TestFields, tests}
use Rattle.ipc356_records.specs.RecordLines.{is_graphic, name_of, digits_in, number_of, access_in, signed_number, coordinate_in, fields_in, form_of}
use Rattle.ipc356_records.proofs.Written.{digit_graphic, through, on_one}
use Rattle.netlist_writer.specs.TestLine.{steps_of, sign_of, coordinate, access_text, test_line, net_name}
use Rattle.netlist_writer.proofs.Digits.{written, few_digits, two_value, six_value}
use Rattle.texts.proofs.LastDigits.{last_are_digits, length-last_digits}
use Rattle.texts.proofs.DigitBytes.{wider, digit_no_blank}
use Rattle.texts.proofs.LineTexts.{each_of}

-- ---- Blanks

abbrev pub blanks : ℕ → List ℕ
blanks n = replicate n 32

blanks-add : (a b : ℕ) → blanks (a + b) ≡ blanks a ++ blanks b
blanks-add zero b = ap blanks (omega arith)
blanks-add (suc a) b = (let more : suc a + b ≡ suc (a + b) = omega arith in ap blanks more ∙ ap (λ (xs : List ℕ). 32 ∷ xs) (blanks-add a b))

blank_at : (k i d : ℕ) → i < k → get_or (blanks k) i d ≡ 32
blank_at zero i d h = absurd (omega (arith, h))
blank_at (suc k) zero d h = refl
blank_at (suc k) (suc i) d h = blank_at k i d (omega (arith, h))

-- ---- Fields of a line

-- a text that is laid right behind a line
laid_full : (first : ℕ) (text line : List ℕ) → length line ≡ first - 1 → laid first text line ≡ line ++ text
laid_full first text line h =
    let none : first - 1 - length line ≡ 0 = omega (arith, h) in
    ap (λ (n : ℕ). (line ++ blanks n) ++ text) none ∙ append_assoc line [] text

-- the net name with the blanks behind it
unfoldable pub padded : List ℕ → List ℕ
padded name = name ++ blanks (14 - length name)

pub length-padded : (name : List ℕ) → length name ≤ 14 → length (padded name) ≡ 14
unfolding padded
length-padded name few = omega (arith, few, length-append name (blanks (14 - length name)), length-replicate {A = ℕ} (14 - length name) 32)

-- what stands in columns 18 to 57
abbrev pub tail : ℕ → Spot → List ℕ
tail access at = blanks 21 ++ (access_text access ++ (coordinate 88 at.x ++ coordinate 89 at.y))

-- a test record by its parts
pub line_parts : (a b c : ℕ) (name : List ℕ) (access : ℕ) (at : Spot) → length name ≤ 14 → test_line (a ∷ b ∷ c ∷ []) name access at ≡ a ∷ b ∷ c ∷ (padded name ++ tail access at)
unfolding padded
line_parts a b c name access at few =
    let n : ℕ = length name in
    let gap : ℕ = 14 - n in
    let front : List ℕ = (a ∷ b ∷ c ∷ name) ++ blanks (gap + 21) in
    let size : length front ≡ 38 = omega (arith, few, length-append (a ∷ b ∷ c ∷ name) (blanks (gap + 21)), length-replicate {A = ℕ} (gap + 21) 32) in
    let wide : 39 - 1 - length (a ∷ b ∷ c ∷ name) ≡ gap + 21 = omega (arith, few) in
    let one : laid access_at (access_text access) (a ∷ b ∷ c ∷ name) ≡ front ++ access_text access = ap (λ (k : ℕ). ((a ∷ b ∷ c ∷ name) ++ blanks k) ++ access_text access) wide in
    let size_one : length (front ++ access_text access) ≡ 41 = omega (arith, size, length-append front (access_text access)) in
    let two : laid x_at (coordinate 88 at.x) (front ++ access_text access) ≡ (front ++ access_text access) ++ coordinate 88 at.x = laid_full x_at (coordinate 88 at.x) (front ++ access_text access) size_one in
    let size_two : length ((front ++ access_text access) ++ coordinate 88 at.x) ≡ 49 = omega (arith, size_one, length-append (front ++ access_text access) (coordinate 88 at.x)) in
    let three : laid y_at (coordinate 89 at.y) ((front ++ access_text access) ++ coordinate 88 at.x) ≡ ((front ++ access_text access) ++ coordinate 88 at.x) ++ coordinate 89 at.y = laid_full y_at (coordinate 89 at.y) ((front ++ access_text access) ++ coordinate 88 at.x) size_two in
    let whole : test_line (a ∷ b ∷ c ∷ []) name access at ≡ ((front ++ access_text access) ++ coordinate 88 at.x) ++ coordinate 89 at.y = ap (λ (l : List ℕ). laid y_at (coordinate 89 at.y) (laid x_at (coordinate 88 at.x) l)) one ∙ (ap (λ (l : List ℕ). laid y_at (coordinate 89 at.y) l) two ∙ three) in
    let joined : ((front ++ access_text access) ++ coordinate 88 at.x) ++ coordinate 89 at.y ≡ front ++ (access_text access ++ (coordinate 88 at.x ++ coordinate 89 at.y)) = append_assoc (front ++ access_text access) (coordinate 88 at.x) (coordinate 89 at.y) ∙ append_assoc front (access_text access) (coordinate 88 at.x ++ coordinate 89 at.y) in
    let split : front ≡ a ∷ b ∷ c ∷ ((name ++ blanks gap) ++ blanks 21) = ap (λ (xs : List ℕ). a ∷ b ∷ c ∷ (name ++ xs)) (blanks-add gap 21) ∙ ap (λ (xs : List ℕ). a ∷ b ∷ c ∷ xs) (sym (append_assoc name (blanks gap) (blanks 21))) in
    whole ∙ (joined ∙ (ap (λ (xs : List ℕ). xs ++ (access_text access ++ (coordinate 88 at.x ++ coordinate 89 at.y))) split ∙ ap (λ (xs : List ℕ). a ∷ b ∷ c ∷ xs) (append_assoc (name ++ blanks gap) (blanks 21) (access_text access ++ (coordinate 88 at.x ++ coordinate 89 at.y)))))

-- ---- Reading back

-- a number in columns that it fills
pub number_is : (ds : List ℕ) → 1 ≤ length ds → list_all is_decimal_digit ds ≡ true → number_of ds ≡ Some (digits_value 10 ds)
unfolding digits_in
number_is [] some all = absurd (omega (arith, some))
number_is (d ∷ ds) some all = by (is_decimal_digit d) refl all
  where
    by : (b : Bool) → is_decimal_digit d ≡ b → (b && list_all is_decimal_digit ds) ≡ true → number_of (d ∷ ds) ≡ Some (digits_value 10 (d ∷ ds))
    by true e k = let whole : without_front (d ∷ ds) ≡ d ∷ ds = rw (digit_no_blank d e) refl in ap digits_in whole ∙ rw (e, k) refl
    by false e k = cc

-- the columns behind the net name
abbrev behind : List ℕ → List ℕ → List ℕ
behind name rest = padded name ++ rest

column_behind : (name rest : List ℕ) → length name ≤ 14 → (k : ℕ) → get_or (behind name rest) (14 + k) 32 ≡ get_or rest k 32
column_behind name rest few k =
    let size = length-padded name few in
    ap (λ (n : ℕ). get_or (behind name rest) (n + k) 32) (sym size) ∙ get_or-append-add (padded name) rest k 32

drop_behind : (name rest : List ℕ) → length name ≤ 14 → (k : ℕ) → drop (14 + k) (behind name rest) ≡ drop k rest
drop_behind name rest few k =
    let size = length-padded name few in
    ap (λ (n : ℕ). drop (n + k) (behind name rest)) (sym size) ∙ drop-append-add (padded name) rest k

take_name : (name rest : List ℕ) → length name ≤ 14 → take 14 (behind name rest) ≡ padded name
take_name name rest few =
    let size = length-padded name few in
    ap (λ (n : ℕ). take n (behind name rest)) (sym size) ∙ take-append_seam (padded name) rest

-- ---- The net name

graphic_name : (n : ℕ) → n < 2 ^ 32 → list_all is_graphic (net_name n) ≡ true
graphic_name n small = wider is_decimal_digit is_graphic digit_graphic (decimal n) (written n (omega (arith, small))).digits

graphic_no_blank : (c : ℕ) → is_graphic c ≡ true → is_blank c ≡ false
graphic_no_blank c h = by (eqb c 9) (eqb c 32) refl refl
  where
    by : (a b : Bool) → eqb c 9 ≡ a → eqb c 32 ≡ b → (eqb c 9 || eqb c 32) ≡ false
    by true b e f = let same : c ≡ 9 = eqb-true c 9 e in let k : is_graphic 9 ≡ true = subst (λ (x : ℕ). is_graphic x ≡ true) same h in cc
    by false true e f = let same : c ≡ 32 = eqb-true c 32 f in let k : is_graphic 32 ≡ true = subst (λ (x : ℕ). is_graphic x ≡ true) same h in cc
    by false false e f = rw (e, f) refl

-- the blanks behind a name are cut off
trimmed_name : (b : ℕ) (name : List ℕ) → length (b ∷ name) ≤ 14 → list_all is_graphic (b ∷ name) ≡ true → trimmed (padded (b ∷ name)) ≡ b ∷ name
unfolding padded
trimmed_name b name few all =
    let whole : List ℕ = (b ∷ name) ++ blanks (14 - length (b ∷ name)) in
    let front : without_front whole ≡ whole = rw (graphic_no_blank b (each_of is_graphic (b ∷ name) all 0 32 (omega arith))) refl in
    let size : length whole ≡ 14 = length-padded (b ∷ name) few in
    let last : suffix_len is_blank whole ≡ length whole - length (b ∷ name) = suffix_len_is is_blank whole (length (b ∷ name)) 32 (omega (arith, size, few)) past_all (λ some. no_last some) in
    let cut : length whole - suffix_len is_blank whole ≡ length (b ∷ name) = omega (arith, last, size, few) in
    ap without_back front ∙ (ap (λ (n : ℕ). take n whole) cut ∙ take-append_seam (b ∷ name) (blanks (14 - length (b ∷ name))))
  where
    past_all : (k : ℕ) → length (b ∷ name) ≤ k → k < length ((b ∷ name) ++ blanks (14 - length (b ∷ name))) → is_blank (get_or ((b ∷ name) ++ blanks (14 - length (b ∷ name))) k 32) ≡ true
    past_all k low below =
        let size = length-padded (b ∷ name) few in
        let split : k ≡ length (b ∷ name) + (k - length (b ∷ name)) = omega (arith, low) in
        let at : get_or ((b ∷ name) ++ blanks (14 - length (b ∷ name))) k 32 ≡ get_or (blanks (14 - length (b ∷ name))) (k - length (b ∷ name)) 32 = ap (λ (i : ℕ). get_or ((b ∷ name) ++ blanks (14 - length (b ∷ name))) i 32) split ∙ get_or-append-add (b ∷ name) (blanks (14 - length (b ∷ name))) (k - length (b ∷ name)) 32 in
        ap is_blank (at ∙ blank_at (14 - length (b ∷ name)) (k - length (b ∷ name)) 32 (omega (arith, size, low, below, few)))

    no_last : 0 < length (b ∷ name) → is_blank (get_or ((b ∷ name) ++ blanks (14 - length (b ∷ name))) (length (b ∷ name) - 1) 32) ≡ false
    no_last some =
        let here : length (b ∷ name) - 1 < length (b ∷ name) = omega (arith, some) in
        ap is_blank (get_or_append_left (b ∷ name) (blanks (14 - length (b ∷ name))) 32 (length (b ∷ name) - 1) here) ∙ graphic_no_blank (get_or (b ∷ name) (length (b ∷ name) - 1) 32) (each_of is_graphic (b ∷ name) all (length (b ∷ name) - 1) 32 here)

-- ---- A whole record

-- a test record, its parts given
abbrev laid_out : ℕ → ℕ → ℕ → List ℕ → ℕ → Spot → List ℕ
laid_out a b c name access at = a ∷ b ∷ c ∷ behind name (tail access at)

-- a coordinate in steps, with its sign
abbrev pub in_record : ℤ → Coordinate
in_record z = record { negative = eqb (sign_of z) 45; steps = steps_of z }

name_back : (a b c : ℕ) (d : ℕ) (name : List ℕ) (access : ℕ) (at : Spot) → length (d ∷ name) ≤ 14 → list_all is_graphic (d ∷ name) ≡ true → name_of (trimmed (part name_from name_to (laid_out a b c (d ∷ name) access at))) ≡ Some (d ∷ name)
unfolding name_of
name_back a b c d name access at few all = ap (λ (w : List ℕ). name_of (trimmed w)) (take_name (d ∷ name) (tail access at) few) ∙ (ap name_of (trimmed_name d name few all) ∙ rw all refl)

access_back : (a b c : ℕ) (name : List ℕ) (access : ℕ) (at : Spot) → length name ≤ 14 → access < 100 → access_in (laid_out a b c name access at) ≡ Some access
unfolding access_in
access_back a b c name access at few small =
    let rest : List ℕ = tail access at in
    let letter : column access_at (laid_out a b c name access at) ≡ 65 = column_behind name rest few 21 in
    let text : columns 40 41 (laid_out a b c name access at) ≡ last_digits 2 access = ap (λ (xs : List ℕ). filled 2 (take 2 xs)) (drop_behind name rest few 22) in
    let value : number_of (last_digits 2 access) ≡ Some access = number_is (last_digits 2 access) (omega (arith, length-last_digits 2 access)) (last_are_digits 2 access) ∙ ap Some (two_value access small) in
    rw (letter, text, value) refl

signed_back : (z : ℤ) → signed_number (sign_of z) (Some (steps_of z)) ≡ Some (in_record z)
unfolding signed_number
signed_back (pos n) = refl
signed_back (negsuc n) = refl

x_back : (a b c : ℕ) (name : List ℕ) (access : ℕ) (at : Spot) → length name ≤ 14 → steps_of at.x < 1_000_000 → coordinate_in 88 x_at (laid_out a b c name access at) ≡ Some (in_record at.x)
unfolding coordinate_in
x_back a b c name access at few small =
    let rest : List ℕ = tail access at in
    let letter : column 42 (laid_out a b c name access at) ≡ 88 = column_behind name rest few 24 in
    let sign : column 43 (laid_out a b c name access at) ≡ sign_of at.x = column_behind name rest few 25 in
    let text : columns 44 49 (laid_out a b c name access at) ≡ last_digits 6 (steps_of at.x) = ap (λ (xs : List ℕ). filled 6 (take 6 xs)) (drop_behind name rest few 26) in
    let value : number_of (last_digits 6 (steps_of at.x)) ≡ Some (steps_of at.x) = number_is (last_digits 6 (steps_of at.x)) (omega (arith, length-last_digits 6 (steps_of at.x))) (last_are_digits 6 (steps_of at.x)) ∙ ap Some (six_value (steps_of at.x) small) in
    rw (letter, sign, text, value) (signed_back at.x)

y_back : (a b c : ℕ) (name : List ℕ) (access : ℕ) (at : Spot) → length name ≤ 14 → steps_of at.y < 1_000_000 → coordinate_in 89 y_at (laid_out a b c name access at) ≡ Some (in_record at.y)
unfolding coordinate_in
y_back a b c name access at few small =
    let rest : List ℕ = tail access at in
    let letter : column 50 (laid_out a b c name access at) ≡ 89 = column_behind name rest few 32 in
    let sign : column 51 (laid_out a b c name access at) ≡ sign_of at.y = column_behind name rest few 33 in
    let text : columns 52 57 (laid_out a b c name access at) ≡ last_digits 6 (steps_of at.y) = ap (λ (xs : List ℕ). filled 6 (take 6 xs)) (drop_behind name rest few 34) in
    let value : number_of (last_digits 6 (steps_of at.y)) ≡ Some (steps_of at.y) = number_is (last_digits 6 (steps_of at.y)) (omega (arith, length-last_digits 6 (steps_of at.y))) (last_are_digits 6 (steps_of at.y)) ∙ ap Some (six_value (steps_of at.y) small) in
    rw (letter, sign, text, value) (signed_back at.y)

-- what a test record is read as
abbrev pub fields_of : List ℕ → ℕ → Spot → TestFields
fields_of name access at = record { name = Some name; access = Some access; x = Some (in_record at.x); y = Some (in_record at.y) }

abbrev fields : Option (List ℕ) → Option ℕ → Option Coordinate → Option Coordinate → TestFields
fields name access x y = record { name = name; access = access; x = x; y = y }

fields_back : (a b c : ℕ) (n access : ℕ) (at : Spot) → n < 2 ^ 32 → access < 100 → steps_of at.x < 1_000_000 → steps_of at.y < 1_000_000 → fields_in (laid_out a b c (net_name n) access at) ≡ fields_of (net_name n) access at
unfolding fields_in
fields_back a b c n access at few small left low =
    let short = few_digits n few in
    let name : length (net_name n) ≤ 14 = omega (arith, short) in
    let line : List ℕ = laid_out a b c (net_name n) access at in
    let one = name_back a b c 78 (69 ∷ 84 ∷ decimal n) access at name (graphic_name n few) in
    let two = access_back a b c (net_name n) access at name small in
    let three = x_back a b c (net_name n) access at name left in
    let four = y_back a b c (net_name n) access at name low in
    ap (λ (v : Option (List ℕ)). fields v (access_in line) (coordinate_in 88 x_at line) (coordinate_in 89 y_at line)) one
    ∙ (ap (λ (v : Option ℕ). fields (Some (net_name n)) v (coordinate_in 88 x_at line) (coordinate_in 89 y_at line)) two
    ∙ (ap (λ (v : Option Coordinate). fields (Some (net_name n)) (Some access) v (coordinate_in 89 y_at line)) three
    ∙ ap (λ (v : Option Coordinate). fields (Some (net_name n)) (Some access) (Some (in_record at.x)) v) four))

pub data IsCode : List ℕ → Type 0 where
  hole : IsCode (codes "317")
  pad : IsCode (codes "327")

-- a record that is written is read back
pub record_back : (code : List ℕ) (n access : ℕ) (at : Spot) → IsCode code → n < 2 ^ 32 → access < 100 → steps_of at.x < 1_000_000 → steps_of at.y < 1_000_000 → form_of (test_line code (net_name n) access at) ≡ tests (fields_of (net_name n) access at)
record_back code n access at hole few small left low =
    let short = few_digits n few in
    ap form_of (line_parts 51 49 55 (net_name n) access at (omega (arith, short))) ∙ (through (behind (net_name n) (tail access at)) ∙ ap tests (fields_back 51 49 55 n access at few small left low))
record_back code n access at pad few small left low =
    let short = few_digits n few in
    ap form_of (line_parts 51 50 55 (net_name n) access at (omega (arith, short))) ∙ (on_one (behind (net_name n) (tail access at)) ∙ ap tests (fields_back 51 50 55 n access at few small left low))
