-- How long the files of a made package are.
use Rattle.std.proofs.Common.{◌≡◌, ℕ, zero, suc, ◌+◌, ◌*◌, ◌/◌, ◌%◌, ◌<◌, ◌≤◌, Bool, true, false, cond, List, [], ◌∷◌, ◌++◌, length, drop, Option, Some, None, codes, refl, subst, if◌then◌else◌, arith, length-append}
use Rattle.std.proofs.lemmas.Fmt.{length-decimal-le}
use Rattle.std.proofs.lemmas.List.{length-drop}
use Rattle.std.proofs.lemmas.Option.{none-some, same_Some}
use Rattle.std.specs.Prelude.{decimal}
use Rattle.std.specs.Str.{bytes_eq}
use Rattle.board_maker.specs.declared.files.Part.{Part}
use Rattle.board_maker.specs.declared.files.Part.TheVariants.{Top, Bottom, Holes, Points}
use Rattle.board_maker.specs.Laws.{MadeFilesAreShort}
use Rattle.board_maker.specs.MadeBoard.{bottom_cell, cell_of, cells, column, end_of, flash, head_of, hit, is_bridged, is_broken, manifest_text, name, operation, part_text, place, row, six, tenths, test_record, test_records, top_cell, track, x_of, y_of}
use Rattle.board_maker.specs.declared.TheConstants.{MOST_CELLS}

-- ---- Numbers

nine_digits : (n : ℕ) → n ≤ 250_000_000 → length (decimal n) ≤ 9
nine_digits n low = length-decimal-le 9 n (omega arith) (omega (arith, low)) (omega (arith, low))

-- a place in millionths of a millimetre is no more than 250 mm
across : (i more : ℕ) → more ≤ 2_500_000 → length (decimal (x_of i + more)) ≤ 9
across i more low = nine_digits (x_of i + more) (omega (arith, low))

from_left : (i : ℕ) → length (decimal (x_of i)) ≤ 9
from_left i = nine_digits (x_of i) (omega arith)

up : (i : ℕ) → i < 10_000 → length (decimal (y_of i)) ≤ 9
up i low = nine_digits (y_of i) (omega (arith, low))

-- ---- Copper

operation_short : (x y : ℕ) (code : List ℕ) → length (decimal x) ≤ 9 → length (decimal y) ≤ 9 → length code ≤ 3 → length (operation x y code) ≤ 25
operation_short x y code h k c =
    let a = length-append (decimal x) (89 ∷ (decimal y ++ (code ++ (42 ∷ 10 ∷ [])))) in
    let b = length-append (decimal y) (code ++ (42 ∷ 10 ∷ [])) in
    let d = length-append code (42 ∷ 10 ∷ []) in
    omega (arith, h, k, c, a, b, d)

flash_short : (aperture : List ℕ) (x y : ℕ) → length aperture ≤ 3 → length (decimal x) ≤ 9 → length (decimal y) ≤ 9 → length (flash aperture x y) ≤ 30
flash_short aperture x y three h k =
    let one = operation_short x y (codes "D03") h k (omega arith) in
    let a = length-append aperture (codes "*\n" ++ operation x y (codes "D03")) in
    let b = length-append (codes "*\n") (operation x y (codes "D03")) in
    omega (arith, three, one, a, b)

track_short : (aperture : List ℕ) (x y to_x : ℕ) → length aperture ≤ 3 → length (decimal x) ≤ 9 → length (decimal y) ≤ 9 → length (decimal to_x) ≤ 9 → length (track aperture x y to_x) ≤ 55
track_short aperture x y to_x three h k l =
    let one = operation_short x y (codes "D02") h k (omega arith) in
    let two = operation_short to_x y (codes "D01") l k (omega arith) in
    let a = length-append aperture (codes "*\n" ++ (operation x y (codes "D02") ++ operation to_x y (codes "D01"))) in
    let b = length-append (codes "*\n") (operation x y (codes "D02") ++ operation to_x y (codes "D01")) in
    let c = length-append (operation x y (codes "D02")) (operation to_x y (codes "D01")) in
    omega (arith, three, one, two, a, b, c)

either_short : (b : Bool) (one other : List ℕ) (most : ℕ) → length one ≤ most → length other ≤ most → length (cond b one other) ≤ most
either_short true one other most h k = h
either_short false one other most h k = k

top_short : (seed i : ℕ) → i < 10_000 → length (top_cell seed i) ≤ 115
top_short seed i low =
    let round = flash_short (codes "D10") (x_of i) (y_of i) (omega arith) (from_left i) (up i low) in
    let square = flash_short (codes "D11") (x_of i + 1_200_000) (y_of i) (omega arith) (across i 1_200_000 (omega arith)) (up i low) in
    let joined = track_short (codes "D12") (x_of i) (y_of i) (x_of i + 1_200_000) (omega arith) (from_left i) (up i low) (across i 1_200_000 (omega arith)) in
    let way = either_short (is_broken seed i) [] (track (codes "D12") (x_of i) (y_of i) (x_of i + 1_200_000)) 55 (omega arith) joined in
    let a = length-append (flash (codes "D10") (x_of i) (y_of i)) (flash (codes "D11") (x_of i + 1_200_000) (y_of i) ++ (if is_broken seed i then [] else track (codes "D12") (x_of i) (y_of i) (x_of i + 1_200_000))) in
    let b = length-append (flash (codes "D11") (x_of i + 1_200_000) (y_of i)) (if is_broken seed i then [] else track (codes "D12") (x_of i) (y_of i) (x_of i + 1_200_000)) in
    omega (arith, round, square, way, a, b)

bottom_short : (seed size i : ℕ) → i < 10_000 → length (bottom_cell seed size i) ≤ 115
bottom_short seed size i low =
    let round = flash_short (codes "D10") (x_of i) (y_of i) (omega arith) (from_left i) (up i low) in
    let joined = track_short (codes "D12") (x_of i) (y_of i) (x_of i + 2_500_000) (omega arith) (from_left i) (up i low) (across i 2_500_000 (omega arith)) in
    let way = either_short (is_bridged seed size i) (track (codes "D12") (x_of i) (y_of i) (x_of i + 2_500_000)) [] 55 joined (omega arith) in
    let a = length-append (flash (codes "D10") (x_of i) (y_of i)) (if is_bridged seed size i then track (codes "D12") (x_of i) (y_of i) (x_of i + 2_500_000) else []) in
    omega (arith, round, way, a)

-- ---- Holes

tenths_short : (n : ℕ) → n < 10_000 → length (tenths n) ≤ 5
tenths_short n low =
    let whole = length-decimal-le 3 (n / 10) (omega arith) (omega (arith, low)) (omega (arith, low)) in
    let tenth = length-decimal-le 1 (n % 10) (omega arith) (omega arith) (omega arith) in
    let a = length-append (decimal (n / 10)) (46 ∷ (decimal (n % 10) ++ [])) in
    let b = length-append (decimal (n % 10)) [] in
    omega (arith, whole, tenth, a, b)

hit_short : (i : ℕ) → i < 10_000 → length (hit i) ≤ 115
hit_short i low =
    let x = tenths_short (25 * column i) (omega arith) in
    let y = tenths_short (25 * row i) (omega (arith, low)) in
    let a = length-append (tenths (25 * column i)) (89 ∷ (tenths (25 * row i) ++ (10 ∷ []))) in
    let b = length-append (tenths (25 * row i)) (10 ∷ []) in
    omega (arith, x, y, a, b)

-- ---- Test points

-- six digits stand where the number has no more
length-six : (n : ℕ) → n < 1_000_000 → length (six n) ≡ 6
unfolding six
length-six n low =
    let few = length-decimal-le 6 n (omega arith) low (omega (arith, low)) in
    let rest = length-drop (length (decimal n)) (codes "000000") in
    let both = length-append (drop (length (decimal n)) (codes "000000")) (decimal n) in
    omega (arith, few, rest, both)

-- a name has columns 4 to 38
length-name : (i : ℕ) → i < 10_000 → length (name i) ≡ 35
unfolding name
length-name i low =
    let few = length-decimal-le 4 i (omega arith) (omega (arith, low)) (omega (arith, low)) in
    let blanks = codes "                                  " in
    let rest = length-drop (length (decimal i)) blanks in
    let both = length-append (decimal i) (drop (length (decimal i)) blanks) in
    omega (arith, few, rest, both)

length-place : (x y : ℕ) → x < 1_000_000 → y < 1_000_000 → length (place x y) ≡ 17
length-place x y h k =
    let one = length-six x h in
    let two = length-six y k in
    let a = length-append (six x) (89 ∷ 43 ∷ (six y ++ (10 ∷ []))) in
    let b = length-append (six y) (10 ∷ []) in
    omega (arith, one, two, a, b)

-- a test record has 57 columns and a line feed
pub length-test_record : (code access : List ℕ) (i x y : ℕ) → length code ≡ 3 → length access ≡ 3 → i < 10_000 → x < 1_000_000 → y < 1_000_000 → length (test_record code i access x y) ≡ 58
length-test_record code access i x y three also low h k =
    let named = length-name i low in
    let placed = length-place x y h k in
    let a = length-append code (name i ++ (access ++ (place x y ++ []))) in
    let b = length-append (name i) (access ++ (place x y ++ [])) in
    let c = length-append access (place x y ++ []) in
    let d = length-append (place x y) [] in
    omega (arith, three, also, named, placed, a, b, c, d)

records_short : (i : ℕ) → i < 10_000 → length (test_records i) ≤ 116
records_short i low =
    let one = length-test_record (codes "317") (codes "A00") i (2500 * column i) (2500 * row i) refl refl low (omega arith) (omega (arith, low)) in
    let two = length-test_record (codes "327") (codes "A01") i (2500 * column i + 1200) (2500 * row i) refl refl low (omega arith) (omega (arith, low)) in
    let both = length-append (test_record (codes "317") i (codes "A00") (2500 * column i) (2500 * row i)) (test_record (codes "327") i (codes "A01") (2500 * column i + 1200) (2500 * row i)) in
    omega (arith, one, two, both)

-- ---- Files

cell_short : (part : Part) (seed size i : ℕ) → i < 10_000 → length (cell_of part seed size i) ≤ 116
cell_short Top seed size i low = let h = top_short seed i low in omega (arith, h)
cell_short Bottom seed size i low = let h = bottom_short seed size i low in omega (arith, h)
cell_short Holes seed size i low = let h = hit_short i low in omega (arith, h)
cell_short Points seed size i low = records_short i low

cells_short : (text : ℕ → List ℕ) (n : ℕ) → ((i : ℕ) → i < n → length (text i) ≤ 116) → length (cells text n) ≤ 116 * n
unfolding cells
cells_short text zero each = omega arith
cells_short text (suc n) each =
    let rest = cells_short text n (λ i below. each i (omega (arith, below))) in
    let last = each n (omega arith) in
    let both = length-append (cells text n) (text n) in
    omega (arith, rest, last, both)

head_short : (part : Part) → length (head_of part) + length (end_of part) ≤ 100
head_short Top = omega arith
head_short Bottom = omega arith
head_short Holes = omega arith
head_short Points = omega arith

part_short : (part : Part) (seed size : ℕ) → size ≤ MOST_CELLS → length (part_text part seed size) ≤ 1_160_100
part_short part seed size few =
    let middle = cells_short (cell_of part seed size) size (λ i below. cell_short part seed size i (omega (arith, below, few))) in
    let ends = head_short part in
    let a = length-append (head_of part ++ cells (cell_of part seed size) size) (end_of part) in
    let b = length-append (head_of part) (cells (cell_of part seed size) size) in
    omega (arith, few, middle, ends, a, b)

-- ---- The package

held_short : (b : Bool) (text : List ℕ) (others : Option (List ℕ)) (bytes : List ℕ) → length text ≤ 1_160_100 → (others ≡ Some bytes → length bytes ≤ 1_160_100) → cond b (Some text) others ≡ Some bytes → length bytes ≤ 1_160_100
held_short true text others bytes short rest held = subst (λ (t : List ℕ). length t ≤ 1_160_100) (same_Some text bytes held) short
held_short false text others bytes short rest held = rest held

none_held : (bytes : List ℕ) → None ≡ Some bytes → length bytes ≤ 1_160_100
none_held bytes held = absurd (none-some bytes held)

pub made_files_are_short : MadeFilesAreShort
made_files_are_short seed size few file bytes =
    held_short (bytes_eq (codes "m.json") file) manifest_text _ bytes (omega arith)
    (held_short (bytes_eq (codes "top.gbr") file) (part_text Top seed size) _ bytes (part_short Top seed size few)
    (held_short (bytes_eq (codes "bot.gbr") file) (part_text Bottom seed size) _ bytes (part_short Bottom seed size few)
    (held_short (bytes_eq (codes "pth.drl") file) (part_text Holes seed size) _ bytes (part_short Holes seed size few)
    (held_short (bytes_eq (codes "n.ipc") file) (part_text Points seed size) None bytes (part_short Points seed size few) (none_held bytes)))))
