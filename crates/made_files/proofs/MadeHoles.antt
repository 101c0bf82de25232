-- The drill file of a made board is read.
use Rattle.std.proofs.Common.{◌≡◌, ℕ, zero, suc, ◌+◌, ◌-◌, ◌*◌, ◌<◌, ◌≤◌, Bool, true, false, ◌&&◌, ◌||◌, eqb, nat_le, List, [], ◌∷◌, ◌++◌, length, map, take, drop, get_or, reverse, ℤ, pos, Option, Some, Result, Ok, IsOk, codes, refl, sym, ap, ◌∙◌, subst, arith, append_assoc, append-nil}
use Rattle.std.proofs.Math.Seq.{take-append_seam, drop-append_seam}
use Rattle.std.proofs.lemmas.Bool.{and_parts, cond-true, cond-false, eqb-true, leb-true, le-leb, le-ltb, lt-leb}
use Rattle.std.proofs.lemmas.List.{length-append, map-append, reverse-append, reverse-reverse}
use Rattle.std.proofs.lemmas.List.Concat.{flat_map-append}
use Rattle.std.proofs.lemmas.List.Folds.{list_all-append, list_any-append}
use Rattle.std.proofs.lemmas.List.Sums.{suffix_len_is}
use Rattle.std.specs.List.{AllByRecursion, after_first, before_first, flat_map, list_all, list_any, position_or_len, suffix_len}
use Rattle.board_maker.specs.MadeBoard.{cells, column, hit, part_text, row, tenths}
use Rattle.board_maker.specs.declared.files.Part.TheVariants.{Holes}
use Rattle.board_shapes.specs.Plain.{PlainPiece, round}
use Rattle.file_reading.specs.LookingBack.{last_or}
use Rattle.file_reading.specs.Reading.{Clean, Item, said}
use Rattle.lengths.specs.Decimal.{Fraction, decimal}
use Rattle.lengths.specs.Grid.{position_of, size_of}
use Rattle.lengths.specs.declared.decimal.Unit.TheVariants.{Mm}
use Rattle.planar.specs.declared.TheConstants.{METRE}
use Rattle.std.specs.Prelude.{◌/◌, ◌%◌, nat_lt}
use Rattle.texts.proofs.LineTexts.{IsPlain, each_of, is_plain, spelled, text_cut, texts}
use Rattle.made_files.proofs.Tenths.{IsTenths, is_mark, tenths_read}
use Rattle.made_files.specs.MadeFiles.{MadeHolesAreRead, cell_at, hole_of, holes}
use Rattle.texts.specs.Blanks.{is_blank, trimmed, without_back, without_front}
use Rattle.texts.specs.Lines.{PlainLine, lines_of}
use Rattle.texts.proofs.DigitBytes.{wider}
use Rattle.xnc.specs.DrillEffects.{Effect, Known, stays, drills, barrel, body, define, diameter, diameter_of, effect, header, hit as hit_effect, staged, target, value_of}
use Rattle.xnc.specs.DrillFile.{item_of, items}
use Rattle.xnc.specs.DrillLines.{behind_x, body_line, both, command, coordinates_of, form_of, line_with, is_g, is_y, place_line, tool_line, tool_number, within_blanks}
use Rattle.xnc.specs.Places.{Place}
use Rattle.xnc.specs.Settings.{barrels_at, defined_at, down_at, effect_at, known_at, mode_in, piece_of, stage_at, tool_at, unit_at}
use Rattle.xnc.specs.declared.kind.DrillKind.{DrillKind}
use Rattle.xnc.specs.declared.line.Coordinates.{Coordinates}
use Rattle.xnc.specs.declared.line.DrillLine.{DrillLine}
use Rattle.xnc.specs.declared.line.DrillLine.TheVariants as form
use Rattle.xnc.specs.declared.settings.Mode.TheVariants.{Drill}
use Rattle.xnc.specs.declared.settings.Stage.TheVariants.{Body, Ended}

-- ---- Bytes of a line

-- bytes behind the blank
abbrev is_dark : ℕ → Bool
is_dark b = nat_le 33 b

abbrev IsDark : List ℕ → Type 0
IsDark text = list_all is_dark text ≡ true

mark_is_not : (n c : ℕ) → is_mark n ≡ false → is_mark c ≡ true → eqb c n ≡ false
mark_is_not n c other mark = by (eqb c n) refl
  where
    by : (b : Bool) → eqb c n ≡ b → eqb c n ≡ false
    by true e = let same : c ≡ n = eqb-true c n e in let k : is_mark c ≡ false = rw same other in cc
    by false e = e

mark_dark : (c : ℕ) → is_mark c ≡ true → is_dark c ≡ true
mark_dark c h = let low = leb-true 46 c (and_parts (nat_le 46 c) (nat_le c 57) h).0 in le-leb 33 c (omega (arith, low))

dark_no_blank : (c : ℕ) → is_dark c ≡ true → is_blank c ≡ false
dark_no_blank c h = by (eqb c 9) (eqb c 32) refl refl
  where
    by : (a b : Bool) → eqb c 9 ≡ a → eqb c 32 ≡ b → (eqb c 9 || eqb c 32) ≡ false
    by true b e f = let same : c ≡ 9 = eqb-true c 9 e in let k : is_dark 9 ≡ true = subst (λ (x : ℕ). is_dark x ≡ true) same h in cc
    by false true e f = let same : c ≡ 32 = eqb-true c 32 f in let k : is_dark 32 ≡ true = subst (λ (x : ℕ). is_dark x ≡ true) same h in cc
    by false false e f = rw (e, f) refl

none_of : (p : ℕ → Bool) → ((c : ℕ) → is_mark c ≡ true → p c ≡ false) → (xs : List ℕ) → list_all is_mark xs ≡ true → list_any p xs ≡ false
none_of p other [] h = refl
none_of p other (x ∷ xs) h = by (is_mark x) refl h (none_of p other xs)
  where
    by : (b : Bool) → is_mark x ≡ b → (b && list_all is_mark xs) ≡ true → (list_all is_mark xs ≡ true → list_any p xs ≡ false) → (p x || list_any p xs) ≡ false
    by true e k rest = rw (other x e, rest k) refl
    by false e k rest = cc

-- ---- A text before the first byte of a kind, and behind it

pub first_place : {X : Type 0} (p : X → Bool) (xs ys : List X) (c : X) → list_any p xs ≡ false → p c ≡ true → position_or_len p (xs ++ c ∷ ys) ≡ length xs
first_place p [] ys c none is = rw is refl
first_place p (x ∷ xs) ys c none is = by (p x) refl none (first_place p xs ys c)
  where
    by : (b : Bool) → p x ≡ b → (b || list_any p xs) ≡ false → (list_any p xs ≡ false → p c ≡ true → position_or_len p (xs ++ c ∷ ys) ≡ length xs) → position_or_len p (x ∷ xs ++ c ∷ ys) ≡ suc (length xs)
    by true e k more = cc
    by false e k more =
        let one : position_or_len p (x ∷ (xs ++ c ∷ ys)) ≡ 1 + position_or_len p (xs ++ c ∷ ys) = rw e (omega arith) in
        let rest = more k is in
        omega (arith, one, rest)

before_is : (p : ℕ → Bool) (xs ys : List ℕ) (c : ℕ) → list_any p xs ≡ false → p c ≡ true → before_first p (xs ++ c ∷ ys) ≡ xs
before_is p xs ys c none is = ap (λ (n : ℕ). take n (xs ++ c ∷ ys)) (first_place p xs ys c none is) ∙ take-append_seam xs (c ∷ ys)

after_is : (p : ℕ → Bool) (xs ys : List ℕ) (c : ℕ) → list_any p xs ≡ false → p c ≡ true → after_first p (xs ++ c ∷ ys) ≡ ys
after_is p xs ys c none is =
    let here : xs ++ c ∷ ys ≡ (xs ++ c ∷ []) ++ ys = sym (append_assoc xs (c ∷ []) ys) in
    let long : length (xs ++ c ∷ []) ≡ length xs + 1 = length-append xs (c ∷ []) in
    let place : position_or_len p (xs ++ c ∷ ys) + 1 ≡ length (xs ++ c ∷ []) = (let first = first_place p xs ys c none is in omega (arith, first, long)) in
    ap (λ (n : ℕ). drop n (xs ++ c ∷ ys)) place ∙ (ap (λ (t : List ℕ). drop (length (xs ++ c ∷ [])) t) here ∙ drop-append_seam (xs ++ c ∷ []) ys)

-- ---- The line of a hole

-- of bytes without blanks nothing is trimmed
take_all : (xs : List ℕ) → take (length xs) xs ≡ xs
take_all xs = ap (λ (t : List ℕ). take (length xs) t) (sym (append-nil xs)) ∙ take-append_seam xs []

trimmed_all : (c : ℕ) (text : List ℕ) → IsDark (c ∷ text) → trimmed (c ∷ text) ≡ c ∷ text
trimmed_all c text dark =
    let line : List ℕ = c ∷ text in
    let first : is_blank c ≡ false = dark_no_blank c (each_of is_dark line dark 0 0 (omega arith)) in
    let front : without_front line ≡ line = rw first refl in
    let none : suffix_len is_blank line ≡ length line - length line = suffix_len_is is_blank line (length line) 0 (omega arith) (λ k low below. absurd (omega (arith, low, below))) (λ some. dark_no_blank (get_or line (length line - 1) 0) (each_of is_dark line dark (length line - 1) 0 (omega (arith, some)))) in
    let whole : length line - suffix_len is_blank line ≡ length line = omega (arith, none) in
    ap without_back front ∙ (ap (λ (n : ℕ). take n line) whole ∙ take_all line)

abbrev hit_text : List ℕ → List ℕ → List ℕ
hit_text xs ys = 88 ∷ (xs ++ 89 ∷ ys)

abbrev tenth : ℕ → Fraction
tenth n = record { negative = false; whole = n; places = 1; pointed = true }

abbrev hit_at : ℕ → ℕ → Coordinates
hit_at x y = record { x = Some (tenth x); y = Some (tenth y) }

x_back : (xs ys : List ℕ) (x y : ℕ) → IsTenths x xs → IsTenths y ys → behind_x (xs ++ 89 ∷ ys) ≡ Some (hit_at x y)
unfolding behind_x
x_back xs ys x y h k =
    let text : List ℕ = xs ++ 89 ∷ ys in
    let none : list_any is_y xs ≡ false = none_of is_y (λ c mark. mark_is_not 89 c refl mark) xs h.marks in
    let some : list_any is_y text ≡ true = list_any-append is_y xs (89 ∷ ys) ∙ rw none refl in
    cond-true (list_any is_y text) (both (decimal (before_first is_y text)) (decimal (after_first is_y text))) _ some
    ∙ (ap (λ (w : List ℕ). both (decimal w) (decimal (after_first is_y text))) (before_is is_y xs ys 89 none refl)
    ∙ (ap (λ (w : List ℕ). both (decimal xs) (decimal w)) (after_is is_y xs ys 89 none refl)
    ∙ (ap (λ (o : Option Fraction). both o (decimal ys)) h.value ∙ ap (λ (o : Option Fraction). both (Some (tenth x)) o) k.value)))

place_back : (xs ys : List ℕ) (x y : ℕ) → IsTenths x xs → IsTenths y ys → place_line (hit_text xs ys) ≡ form.Hit (hit_at x y)
unfolding place_line coordinates_of
place_back xs ys x y h k =
    let left : list_any is_g xs ≡ false = none_of is_g (λ c mark. mark_is_not 71 c refl mark) xs h.marks in
    let right : list_any is_g ys ≡ false = none_of is_g (λ c mark. mark_is_not 71 c refl mark) ys k.marks in
    let none : list_any is_g (hit_text xs ys) ≡ false = list_any-append is_g xs (89 ∷ ys) ∙ rw (left, right) refl in
    cond-false (list_any is_g (hit_text xs ys)) _ (line_with form.Hit (coordinates_of (hit_text xs ys))) none ∙ ap (line_with form.Hit) (x_back xs ys x y h k)

command_back : (rest : List ℕ) → command (88 ∷ rest) ≡ place_line (88 ∷ rest)
unfolding command body_line
command_back rest = refl

dark_line : (xs ys : List ℕ) → list_all is_mark xs ≡ true → list_all is_mark ys ≡ true → IsDark (hit_text xs ys)
dark_line xs ys h k = list_all-append is_dark xs (89 ∷ ys) ∙ rw (wider is_mark is_dark mark_dark xs h, wider is_mark is_dark mark_dark ys k) refl

plain_line : (xs ys : List ℕ) → list_all is_mark xs ≡ true → list_all is_mark ys ≡ true → IsPlain (hit_text xs ys)
plain_line xs ys h k = wider is_dark is_plain (λ c dark. let low = leb-true 33 c dark in le-leb 32 c (omega (arith, low))) (hit_text xs ys) (dark_line xs ys h k)

form_back : (from to : ℕ) (xs ys : List ℕ) (x y : ℕ) → IsTenths x xs → IsTenths y ys → form_of from to (hit_text xs ys) ≡ form.Hit (hit_at x y)
unfolding form_of within_blanks
form_back from to xs ys x y h k =
    ap (within_blanks from to) (trimmed_all 88 (xs ++ 89 ∷ ys) (dark_line xs ys h.marks k.marks)) ∙ (command_back (xs ++ 89 ∷ ys) ∙ place_back xs ys x y h k)

-- ---- The lines

abbrev hit_line : ℕ → List ℕ
hit_line i = hit_text (tenths (25 * column i)) (tenths (25 * row i))

abbrev head_lines : List (List ℕ)
head_lines = codes "M48" ∷ codes "METRIC" ∷ codes "T1C0.4" ∷ codes "%" ∷ codes "T1" ∷ []

abbrev lines_to : ℕ → List (List ℕ)
lines_to zero = head_lines
lines_to (suc i) = lines_to i ++ hit_line i ∷ []

hit_spelled : (i : ℕ) → hit i ≡ spelled (hit_line i)
hit_spelled i = ap (λ (t : List ℕ). 88 ∷ t) (sym (append_assoc (tenths (25 * column i)) (89 ∷ tenths (25 * row i)) (10 ∷ [])))

cells_spelled : (n : ℕ) → codes "M48\nMETRIC\nT1C0.4\n%\nT1\n" ++ cells hit n ≡ flat_map spelled (lines_to n)
unfolding cells
cells_spelled zero = refl
cells_spelled (suc i) =
    sym (append_assoc (codes "M48\nMETRIC\nT1C0.4\n%\nT1\n") (cells hit i) (hit i))
    ∙ (ap (λ (t : List ℕ). t ++ hit i) (cells_spelled i)
    ∙ (ap (λ (t : List ℕ). flat_map spelled (lines_to i) ++ t) (hit_spelled i ∙ sym (append-nil (spelled (hit_line i)))) ∙ sym (flat_map-append spelled (lines_to i) (hit_line i ∷ []))))

pub text_spelled : (seed n : ℕ) → part_text Holes seed n ≡ flat_map spelled (lines_to n ++ codes "M30" ∷ [])
text_spelled seed n = ap (λ (t : List ℕ). t ++ codes "M30\n") (cells_spelled n) ∙ sym (flat_map-append spelled (lines_to n) (codes "M30" ∷ []))

reads_at : (i : ℕ) → i < 10_000 → IsTenths (25 * column i) (tenths (25 * column i)) × IsTenths (25 * row i) (tenths (25 * row i))
reads_at i low = (tenths_read (column i) (omega arith), tenths_read (row i) (omega (arith, low)))

pub all_with : (ls : List (List ℕ)) (l : List ℕ) → AllByRecursion IsPlain ls → IsPlain l → AllByRecursion IsPlain (ls ++ l ∷ [])
all_with [] l all one = (one, tt)
all_with (m ∷ ls) l all one = (all.0, all_with ls l all.1 one)

all_plain : (n : ℕ) → n ≤ 10_000 → AllByRecursion IsPlain (lines_to n)
all_plain zero few = (refl, (refl, (refl, (refl, (refl, tt)))))
all_plain (suc i) few =
    let r = reads_at i (omega (arith, few)) in
    all_with (lines_to i) (hit_line i) (all_plain i (omega (arith, few))) (plain_line (tenths (25 * column i)) (tenths (25 * row i)) r.0.marks r.1.marks)

-- ---- The history

abbrev base : List DrillLine
base = form.Select 1 ∷ form.HeaderEnd ∷ form.Tool 1 (tenth 4) ∷ form.Unit Mm ∷ form.Start ∷ []

abbrev behind : ℕ → List DrillLine
behind zero = base
behind (suc i) = form.Hit (hit_at (25 * column i) (25 * row i)) ∷ behind i

heads_back : (from to : ℕ) → reverse (map (form_of from to) head_lines) ≡ base
unfolding form_of within_blanks command tool_line tool_number
heads_back from to = refl

pub forms_back : (from to n : ℕ) → n ≤ 10_000 → reverse (map (form_of from to) (lines_to n)) ≡ behind n
forms_back from to zero few = heads_back from to
forms_back from to (suc i) few =
    let r = reads_at i (omega (arith, few)) in
    let more = forms_back from to i (omega (arith, few)) in
    let last = form_back from to (tenths (25 * column i)) (tenths (25 * row i)) (25 * column i) (25 * row i) r.0 r.1 in
    ap reverse (map-append (form_of from to) (lines_to i) (hit_line i ∷ [])) ∙ (reverse-append (map (form_of from to) (lines_to i)) (form_of from to (hit_line i) ∷ [])
    ∙ (ap (λ (f : DrillLine). f ∷ reverse (map (form_of from to) (lines_to i))) last ∙ ap (λ (fs : List DrillLine). form.Hit (hit_at (25 * column i) (25 * row i)) ∷ fs) more))

-- ---- What each line does

-- a number of tenths of a millimetre, in u
place_of : (n : ℕ) → n ≤ 2_500 → value_of Mm (tenth n) ≡ Ok (pos (1_000_000 * n))
unfolding value_of position_of
place_of n few =
    let whole : (n * 10_000_000) % 10 ≡ 0 = omega arith in
    let amount : (n * 10_000_000) / 10 ≡ 1_000_000 * n = omega arith in
    let near : nat_lt METRE (1_000_000 * n) ≡ false = le-ltb METRE (1_000_000 * n) (omega (arith, few)) in
    rw (whole, amount, near) refl

-- what a line with both numbers does in the body, in drill mode, with a tool, where there is room
drilled : (k : Known) (u w : Fraction) (x y : ℤ) (d : ℕ) → k.settings.stage ≡ Body → k.settings.unit ≡ Some Mm → k.settings.mode ≡ Drill → diameter k ≡ Some d → value_of Mm u ≡ Ok x → value_of Mm w ≡ Ok y → nat_le k.room k.pieces ≡ false
    → effect k (form.Hit (record { x = Some u; y = Some w })) ≡ Ok (drills (record { x = x; y = y }) (round (record { a = record { x = x; y = y }; b = record { x = x; y = y }; r = pos (d / 2) })))
unfolding effect staged body hit_effect target barrel
drilled k u w x y d stage unit mode tool left up room = rw (stage, unit, mode, tool, left, up, room) refl

-- what holds behind the head and the holes of so many cells
record IsReady (p : Place) (n : ℕ) : Type 0 where
  stage : stage_at (behind n) ≡ Body
  unit : unit_at (behind n) ≡ Some Mm
  mode : last_or Drill mode_in (behind n) ≡ Drill
  tool : tool_at (behind n) ≡ Some 1
  up : down_at (behind n) ≡ false
  defined : defined_at (behind n) 1 ≡ Some 4_000_000
  count : length (behind n) ≡ n + 5
  barrels : barrels_at p (behind n) ≡ holes p n
  clean : Clean (effect_at p) (behind n)

pub holes_many : (p : Place) (n : ℕ) → length (holes p n) ≡ n
holes_many p zero = refl
holes_many p (suc i) = let more = holes_many p i in let one = length-append (holes p i) (hole_of p i ∷ []) in omega (arith, more, one)

abbrev barrel_at : ℕ → Effect
barrel_at i = drills (cell_at i) (round (record { a = cell_at i; b = cell_at i; r = pos 2_000_000 }))

cell_drilled : (p : Place) (i : ℕ) → i < 10_000 → i < p.room → IsReady p i → effect_at p (behind i) (form.Hit (hit_at (25 * column i) (25 * row i))) ≡ Ok (barrel_at i)
cell_drilled p i low room ready =
    let many : length (barrels_at p (behind i)) ≡ i = ap length ready.barrels ∙ holes_many p i in
    let free : nat_le p.room (length (barrels_at p (behind i))) ≡ false = lt-leb p.room (length (barrels_at p (behind i))) (omega (arith, many, room)) in
    let selected : diameter (known_at p (behind i)) ≡ Some 4_000_000 = rw ready.tool ready.defined in
    let x : value_of Mm (tenth (25 * column i)) ≡ Ok (pos (25_000_000 * column i)) = place_of (25 * column i) (omega arith) ∙ ap (λ (n : ℕ). Ok (pos n)) (omega arith) in
    let y : value_of Mm (tenth (25 * row i)) ≡ Ok (pos (25_000_000 * row i)) = place_of (25 * row i) (omega (arith, low)) ∙ ap (λ (n : ℕ). Ok (pos n)) (omega arith) in
    drilled (known_at p (behind i)) (tenth (25 * column i)) (tenth (25 * row i)) (pos (25_000_000 * column i)) (pos (25_000_000 * row i)) 4_000_000 ready.stage ready.unit ready.mode selected x y free

barrels_more : (p : Place) (f : DrillLine) (earlier : List DrillLine) (e : Effect) → effect_at p earlier f ≡ Ok e → barrels_at p (f ∷ earlier) ≡ barrels_at p earlier ++ piece_of p (length earlier + 1) (Ok e)
unfolding barrels_at
barrels_more p f earlier e is = ap (λ (r : Result Effect DrillKind). barrels_at p earlier ++ piece_of p (length earlier + 1) r) is

is_ok : (r : Result Effect DrillKind) (e : Effect) → r ≡ Ok e → IsOk r
is_ok r e is = subst IsOk (sym is) refl

ready_next : (p : Place) (i : ℕ) → i < 10_000 → i < p.room → IsReady p i → IsReady p (suc i)
ready_next p i low room ready =
    let done = cell_drilled p i low room ready in
    let count = ready.count in
    let number : length (behind i) + 1 ≡ i + 6 = omega (arith, count) in
    record {
      stage = ready.stage;
      unit = ready.unit;
      mode = ready.mode;
      tool = ready.tool;
      up = ready.up;
      defined = ready.defined;
      count = omega (arith, count);
      barrels = barrels_more p (form.Hit (hit_at (25 * column i) (25 * row i))) (behind i) (barrel_at i) done
          ∙ (ap (λ (bs : List PlainPiece). bs ++ piece_of p (length (behind i) + 1) (Ok (barrel_at i))) ready.barrels
          ∙ ap (λ (n : ℕ). holes p i ++ piece_of p n (Ok (barrel_at i))) number);
      clean = (is_ok (effect_at p (behind i) (form.Hit (hit_at (25 * column i) (25 * row i)))) (barrel_at i) done, ready.clean);
    }

ready_first : (p : Place) → IsReady p 0
unfolding effect staged header body define diameter_of size_of barrels_at
ready_first p = record {
  stage = refl;
  unit = refl;
  mode = refl;
  tool = refl;
  up = refl;
  defined = refl;
  count = refl;
  barrels = refl;
  clean = (refl, (refl, (refl, (refl, (refl, tt)))));
}

ready : (p : Place) (n : ℕ) → n ≤ 10_000 → n ≤ p.room → IsReady p n
ready p zero few room = ready_first p
ready p (suc i) few room = ready_next p i (omega (arith, few)) (omega (arith, room)) (ready p i (omega (arith, few)) (omega (arith, room)))

-- ---- The whole

end_stays : (k : Known) → k.settings.stage ≡ Body → k.settings.down ≡ false → effect k form.End ≡ Ok stays
unfolding effect staged body
end_stays k stage up = rw (stage, up) refl

finish_stays : (k : Known) → k.settings.stage ≡ Ended → effect k form.Finish ≡ Ok stays
unfolding effect
finish_stays k stage = rw stage refl

-- the whole history
abbrev all_forms : ℕ → List DrillLine
all_forms n = form.Finish ∷ form.End ∷ behind n

reverse_said : (is : List (Item DrillLine)) → said (reverse is) ≡ reverse (said is)
reverse_said [] = refl
reverse_said (i ∷ is) =
    ap said (reverse-append (i ∷ []) is) ∙ (map-append (λ (j : Item DrillLine). j.says) (reverse is) (i ∷ [])
    ∙ (ap (λ (fs : List DrillLine). fs ++ i.says ∷ []) (reverse_said is) ∙ sym (reverse-append (i.says ∷ []) (said is))))

said_lines : (p : Place) (lines : List PlainLine) → said (map (item_of p) lines) ≡ map (form_of p.from p.to) (texts lines)
said_lines p [] = refl
said_lines p (l ∷ lines) = ap (λ (fs : List DrillLine). form_of p.from p.to l.text ∷ fs) (said_lines p lines)

end_form : (from to : ℕ) → form_of from to (codes "M30") ≡ form.End
unfolding form_of within_blanks command
end_form from to = refl

history : (seed n : ℕ) (p : Place) → n ≤ 10_000 → said (reverse (items p (part_text Holes seed n))) ≡ all_forms n
history seed n p few =
    let file : List ℕ = part_text Holes seed n in
    let lines : List (List ℕ) = lines_to n ++ codes "M30" ∷ [] in
    let last : Item DrillLine = record { says = form.Finish; at = length file } in
    let cut : texts (lines_of file) ≡ lines = ap (λ (t : List ℕ). texts (lines_of t)) (text_spelled seed n) ∙ text_cut lines (all_with (lines_to n) (codes "M30") (all_plain n few) refl) in
    let forms : said (map (item_of p) (lines_of file)) ≡ map (form_of p.from p.to) (lines_to n) ++ form.End ∷ [] = said_lines p (lines_of file) ∙ (ap (map (form_of p.from p.to)) cut ∙ (map-append (form_of p.from p.to) (lines_to n) (codes "M30" ∷ []) ∙ ap (λ (f : DrillLine). map (form_of p.from p.to) (lines_to n) ++ f ∷ []) (end_form p.from p.to))) in
    let whole : said (items p file) ≡ (map (form_of p.from p.to) (lines_to n) ++ form.End ∷ []) ++ form.Finish ∷ [] = map-append (λ (j : Item DrillLine). j.says) (map (item_of p) (lines_of file)) (last ∷ []) ∙ ap (λ (fs : List DrillLine). fs ++ form.Finish ∷ []) forms in
    reverse_said (items p file) ∙ (ap reverse whole ∙ (reverse-append (map (form_of p.from p.to) (lines_to n) ++ form.End ∷ []) (form.Finish ∷ [])
    ∙ (ap (λ (fs : List DrillLine). form.Finish ∷ fs) (reverse-append (map (form_of p.from p.to) (lines_to n)) (form.End ∷ [])) ∙ ap (λ (fs : List DrillLine). form.Finish ∷ form.End ∷ fs) (forms_back p.from p.to n few))))

pub made_holes_are_read : MadeHolesAreRead
made_holes_are_read seed size p few room =
    let file : List ℕ = part_text Holes seed size in
    let r = ready p size few room in
    let are = history seed size p few in
    let ends = end_stays (known_at p (behind size)) r.stage r.up in
    let finishes = finish_stays (known_at p (form.End ∷ behind size)) refl in
    let one : barrels_at p (form.End ∷ behind size) ≡ holes p size = barrels_more p form.End (behind size) stays ends ∙ (append-nil (barrels_at p (behind size)) ∙ r.barrels) in
    let all : barrels_at p (all_forms size) ≡ holes p size = barrels_more p form.Finish (form.End ∷ behind size) stays finishes ∙ (append-nil (barrels_at p (form.End ∷ behind size)) ∙ one) in
    let clean : Clean (effect_at p) (all_forms size) = (is_ok (effect_at p (form.End ∷ behind size) form.Finish) stays finishes, (is_ok (effect_at p (behind size) form.End) stays ends, r.clean)) in
    record {
      earlier = reverse (items p file);
      whole = record { split = sym (append-nil (reverse (reverse (items p file))) ∙ reverse-reverse (items p file)); clean = subst (Clean (effect_at p)) (sym are) clean };
      is = sym (ap (barrels_at p) are ∙ all);
    }
