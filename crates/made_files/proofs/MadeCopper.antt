-- The copper files of a made board are read.
use Rattle.std.proofs.Common.{◌≡◌, ℕ, zero, suc, ◌+◌, ◌*◌, ◌^◌, ◌<◌, ◌≤◌, Bool, true, false, if◌then◌else◌, nat_le, nat_lt, List, [], ◌∷◌, ◌++◌, length, map, reverse, ℤ, pos, Option, Some, None, Ok, codes, refl, sym, ap, ◌∙◌, subst, arith, append_assoc, append-nil, length-append}
use Rattle.std.proofs.lemmas.Bool.{agree_below_at, le-leb, le-ltb, lt-leb}
use Rattle.std.proofs.lemmas.Fmt.{length-decimal-le}
use Rattle.std.proofs.lemmas.List.{length-map, map-append, reverse-append, reverse-reverse}
use Rattle.std.proofs.lemmas.List.Concat.{flat_map-append}
use Rattle.std.proofs.lemmas.List.Folds.{list_all-append}
use Rattle.std.proofs.lemmas.List.Sums.{sum_by-append, sum_by-cons}
use Rattle.std.specs.List.{flat_map, list_all, sum_by}
use Rattle.std.specs.Prelude.{decimal, unsigned_abs, ◌+ℤ◌, ◌-ℤ◌}
use Rattle.std.specs.Str.Parse.{digits_value}
use Rattle.apertures.specs.Definition.{aperture_at, circle_at, diameter_at, last_behind, numbered_at, side_at, sides_at, sides_in, size_at, solid_by}
use Rattle.apertures.specs.Flash.{flash_of}
use Rattle.apertures.specs.declared.aperture.Aperture.TheVariants.{Circle, Rectangle}
use Rattle.board_maker.specs.MadeBoard.{cell_of, cells, column, end_of, flash as made_flash, head_of, is_bridged, is_broken, operation as made_operation, part_text, row, track as made_track}
use Rattle.board_maker.specs.declared.files.Part.{Part}
use Rattle.board_maker.specs.declared.files.Part.TheVariants.{Top, Bottom, Holes, Points}
use Rattle.board_maker.specs.declared.TheConstants.{MOST_CELLS}
use Rattle.board_shapes.specs.Figures.{Figure, figure_edges}
use Rattle.board_shapes.specs.Pieces.{PlainPiece}
use Rattle.board_shapes.specs.Rectangles.{halved}
use Rattle.file_reading.specs.Reading.{Clean, Item, said}
use Rattle.gerber_reading.specs.Command.{no_bending, Command, formats, counts_in, defines, selects, operates, ends, finishes}
use Rattle.gerber_layer.specs.CommandEffects.{Known, stays, performs, concludes, define, draw, edges_of, effect, exceed, flash, flash_by, flash_with, operate, perform, row as row_of, selected}
use Rattle.gerber_reading.specs.declared.place.Place.{Place}
use Rattle.gerber_reading.specs.CommandEffects.{coordinate, edges_for, ended_block_by, room_for, target}
use Rattle.gerber_reading.specs.Image.{image_by}
use Rattle.macro_flatten.proofs.Exact.{defined_before}
use Rattle.gerber_layer.specs.Image.{effect_before, known_before, made, pieces_of}
use Rattle.gerber_reading.specs.Settings.{block_open, format_before, has_ended, point_before, region_open, unit_before, x_before, y_before}
use Rattle.gerber_layer.specs.Tools.{Tool, standard}
use Rattle.gerber_layer.specs.WordCommands.{code_in, coded, command_of, extended as extended_row, format_of, format_word, from_i, is_number, is_numeric, operation_of, plain}
use Rattle.gerber_reading.specs.declared.command.Code.{Code}
use Rattle.gerber_reading.specs.declared.command.Code.TheVariants.{Draw, Move, Flash}
use Rattle.gerber_reading.specs.declared.command.Format.{Format}
use Rattle.gerber_words.specs.Attributes.{attribute_kind}
use Rattle.lengths.proofs.GridLemmas.{Positions-is}
use Rattle.lengths.specs.Decimal.{over_power, unsigned}
use Rattle.lengths.specs.Grid.{position_of, size_of}
use Rattle.lengths.specs.declared.decimal.Unit.TheVariants.{Mm}
use Rattle.gerber_words.specs.Words.{ended, is_plain}
use Rattle.gerber_words.specs.Items.{items_with, stop_item, word_item}
use Rattle.gerber_layer.specs.Layer.{stop_command}
use Rattle.macro_flatten.proofs.Cut.{AreWords, IsWord, entries_of, lines_words}
use Rattle.macro_flatten.proofs.Digits.{no_minus, unsigned_digits, written}
use Rattle.macro_flatten.proofs.History.{as_read, behind, behind-append, clean_then, figure_in, pieces_then, told}
use Rattle.macro_flatten.specs.FlatText.{Line, extended, spelled, word}
use Rattle.macro_flatten.proofs.Operations.{digit_numeric, plain_operation, two_numbers}
use Rattle.macro_flatten.proofs.LineWords.{are_words-append}
use Rattle.macro_flatten.proofs.Effects.{finishes_all}
use Rattle.planar.specs.declared.Spot.{Spot}
use Rattle.planar.specs.declared.TheConstants.{METRE}
use Rattle.made_files.specs.MadeFiles.{MadeCopperIsRead, HasRoom, IsReadAs, beside, cell_at, copper, copper_of, next_to, round_pad, square_pad, track_between}
use Rattle.texts.specs.Digits.{is_decimal_digit}
use Rattle.texts.proofs.DigitBytes.{wider, digit_is_not}

-- ---- Coordinates

-- four whole digits and six decimals
abbrev six : Format
six = record { integers = 4; decimals = 6 }

-- a coordinate in millionths of a millimetre
record IsCoordinate (n : ℕ) : Type 0 where
  numeric : list_all is_numeric (decimal n) ≡ true
  number : is_number (decimal n) ≡ true
  value : (here : ℤ) → coordinate six Mm here (Some (decimal n)) ≡ Ok (pos (10 * n))

coordinate_is : (n : ℕ) → n ≤ 300_000_000 → IsCoordinate n
unfolding coordinate
coordinate_is n low =
    let w = written n (omega (arith, low)) in
    let body : unsigned (decimal n) ≡ decimal n = unsigned_digits (decimal n) w.digits in
    let few : length (decimal n) ≤ 13 = length-decimal-le 13 n (omega arith) (omega (arith, low)) (omega (arith, low)) in
    record {
      numeric = wider is_decimal_digit is_numeric digit_numeric (decimal n) w.digits;
      number = rw body (rw (le-leb _ _ w.some, le-leb _ _ few, w.digits) refl);
      value = λ here. (
          let whole : digits_value 10 (unsigned (decimal n)) ≡ n = ap (digits_value 10) body ∙ w.value in
          let same : 10 * n * 10 ^ 6 ≡ n * 10_000_000 = omega arith in
          let at : position_of (over_power (decimal n) 6) Mm ≡ Ok (pos (10 * n)) = sym (Positions-is (over_power (decimal n) 6) Mm (Ok (pos (10 * n))) (10 * n, (rw whole same), omega (arith, low), (rw (no_minus (decimal n) w.digits) refl))) in
          rw at refl
          );
    }

-- ---- Words

abbrev operation_text : ℕ → ℕ → List ℕ → List ℕ
operation_text x y code = 88 ∷ (decimal x ++ 89 ∷ (decimal y ++ code))

draw_of : (x y : List ℕ) → is_number x ≡ true → is_number y ≡ true → from_i (Some x) (Some y) (codes "D01") ≡ operates (Some x) (Some y) (Some Draw) no_bending
unfolding from_i operation_of code_in
draw_of x y h k = rw (h, k) refl

move_of : (x y : List ℕ) → is_number x ≡ true → is_number y ≡ true → from_i (Some x) (Some y) (codes "D02") ≡ operates (Some x) (Some y) (Some Move) no_bending
unfolding from_i operation_of code_in
move_of x y h k = rw (h, k) refl

flash_code : (x y : List ℕ) → is_number x ≡ true → is_number y ≡ true → from_i (Some x) (Some y) (codes "D03") ≡ operates (Some x) (Some y) (Some Flash) no_bending
unfolding from_i operation_of code_in
flash_code x y h k = rw (h, k) refl

abbrev at_place : ℕ → ℕ → Code → Command
at_place x y code = operates (Some (decimal x)) (Some (decimal y)) (Some code) no_bending

reads_draw : (x y : ℕ) → IsCoordinate x → IsCoordinate y → plain (operation_text x y (codes "D01")) ≡ at_place x y Draw
reads_draw x y h k = plain_operation (decimal x ++ 89 ∷ (decimal y ++ codes "D01")) ∙ (two_numbers (decimal x) (decimal y) (48 ∷ 49 ∷ []) h.numeric k.numeric ∙ draw_of (decimal x) (decimal y) h.number k.number)

reads_move : (x y : ℕ) → IsCoordinate x → IsCoordinate y → plain (operation_text x y (codes "D02")) ≡ at_place x y Move
reads_move x y h k = plain_operation (decimal x ++ 89 ∷ (decimal y ++ codes "D02")) ∙ (two_numbers (decimal x) (decimal y) (48 ∷ 50 ∷ []) h.numeric k.numeric ∙ move_of (decimal x) (decimal y) h.number k.number)

reads_flash : (x y : ℕ) → IsCoordinate x → IsCoordinate y → plain (operation_text x y (codes "D03")) ≡ at_place x y Flash
reads_flash x y h k = plain_operation (decimal x ++ 89 ∷ (decimal y ++ codes "D03")) ∙ (two_numbers (decimal x) (decimal y) (48 ∷ 51 ∷ []) h.numeric k.numeric ∙ flash_code (decimal x) (decimal y) h.number k.number)

reads_ten : plain (codes "D10") ≡ selects 10
unfolding plain coded
reads_ten = refl

reads_eleven : plain (codes "D11") ≡ selects 11
unfolding plain coded
reads_eleven = refl

reads_twelve : plain (codes "D12") ≡ selects 12
unfolding plain coded
reads_twelve = refl

reads_end : plain (codes "M02") ≡ ends
unfolding plain
reads_end = refl

reads_format : told (extended (codes "FSLAX46Y46")) ≡ formats six
unfolding command_of attribute_kind extended_row format_word format_of
reads_format = refl

reads_unit : told (extended (codes "MOMM")) ≡ counts_in Mm
unfolding command_of attribute_kind extended_row
reads_unit = refl

reads_definition : (text : List ℕ) → told (extended (65 ∷ 68 ∷ text)) ≡ defines (65 ∷ 68 ∷ text)
unfolding command_of attribute_kind extended_row
reads_definition text = refl

-- ---- Effects

-- the settings of the file are in force
record IsSet (k : Known) : Type 0 where
  format : k.settings.format ≡ Some six
  unit : k.settings.unit ≡ Some Mm
  block : k.settings.block ≡ None
  ended : k.settings.ended ≡ false
  outside : k.settings.region ≡ false

leads : (k : Known) (x y : ℕ) → IsSet k → IsCoordinate x → IsCoordinate y → target k.settings (Some (decimal x)) (Some (decimal y)) ≡ Ok (record { x = pos (10 * x); y = pos (10 * y) })
unfolding target
leads k x y s h l = rw (s.format, s.unit, h.value k.settings.at.x, l.value k.settings.at.y) refl

performed : (k : Known) (x y : ℕ) (to : Spot) (code : Code) → IsSet k → target k.settings (Some (decimal x)) (Some (decimal y)) ≡ Ok to → effect k (at_place x y code) ≡ perform k code to
unfolding effect row_of operate
performed k x y to code s t = rw (t, s.ended, s.outside) refl

flashes_round : (k : Known) (to : Spot) → selected k ≡ Some (standard (Circle (pos 10_000_000))) → nat_le k.place.room.pieces (length k.pieces) ≡ false → exceed k 0 ≡ false → perform k Flash to ≡ Ok (performs to (round_pad to ∷ []))
unfolding perform flash flash_with flash_by flash_of room_for edges_for
flashes_round k to tool room edges = rw (tool, room, edges) refl

flashes_square : (k : Known) (to : Spot) → selected k ≡ Some (standard (Rectangle (pos 8_000_000) (pos 8_000_000))) → flash_of (Rectangle (pos 8_000_000) (pos 8_000_000)) to ≡ Ok (Some (square_pad to)) → nat_le k.place.room.pieces (length k.pieces) ≡ false → exceed k 4 ≡ false → perform k Flash to ≡ Ok (performs to (square_pad to ∷ []))
unfolding perform flash flash_with flash_by room_for edges_for
flashes_square k to tool shape room edges = rw (tool, shape, room, edges) refl

draws_track : (k : Known) (to : Spot) → selected k ≡ Some (standard (Circle (pos 2_000_000))) → nat_le k.place.room.pieces (length k.pieces) ≡ false → perform k Draw to ≡ Ok (performs to (track_between k.settings.at to ∷ []))
unfolding perform draw room_for
draws_track k to tool room = rw (tool, room) refl

moves_to : (k : Known) (to : Spot) → perform k Move to ≡ Ok (performs to [])
unfolding perform
moves_to k to = refl

selects_one : (k : Known) (n : ℕ) (a : Tool) → IsSet k → k.defined n ≡ Some a → effect k (selects n) ≡ Ok stays
unfolding effect row_of
selects_one k n a s d = rw (s.ended, d) refl

ends_all : (k : Known) → IsSet k → effect k ends ≡ Ok (concludes k.pieces)
unfolding effect row_of ended_block_by
ends_all k s = rw (s.ended, s.outside, s.block) refl

-- corners of the square pad lie within 1 m
abbrev within : ℤ → Bool
within z = nat_le (unsigned_abs z) METRE

abbrev left_of : ℕ → ℤ
left_of c = pos (25_000_000 * c + 12_000_000) -ℤ halved 8_000_000

abbrev right_of : ℕ → ℤ
right_of c = pos (25_000_000 * c + 12_000_000) +ℤ halved 8_000_000

abbrev under : ℕ → ℤ
under c = pos (25_000_000 * c) -ℤ halved 8_000_000

abbrev over : ℕ → ℤ
over c = pos (25_000_000 * c) +ℤ halved 8_000_000

each_left : (c : ℕ) → c < 100 → within (left_of c) ≡ true
each_left c low = agree_below_at (λ n. within (left_of n)) (λ n. true) 100 c refl low

each_right : (c : ℕ) → c < 100 → within (right_of c) ≡ true
each_right c low = agree_below_at (λ n. within (right_of n)) (λ n. true) 100 c refl low

each_under : (c : ℕ) → c < 100 → within (under c) ≡ true
each_under c low = agree_below_at (λ n. within (under n)) (λ n. true) 100 c refl low

each_over : (c : ℕ) → c < 100 → within (over c) ≡ true
each_over c low = agree_below_at (λ n. within (over n)) (λ n. true) 100 c refl low

squared : (c r : ℕ) → c < 100 → r < 100 → flash_of (Rectangle (pos 8_000_000) (pos 8_000_000)) (record { x = pos (25_000_000 * c + 12_000_000); y = pos (25_000_000 * r) }) ≡ Ok (Some (square_pad (record { x = pos (25_000_000 * c + 12_000_000); y = pos (25_000_000 * r) })))
unfolding flash_of
squared c r low few = rw (each_left c low, each_right c low, each_under r few, each_over r few) refl

-- ---- What stands behind commands

-- The settings are in force, no command has a fault and none ends the file; the round pad and the pen are defined, and the square
-- pad as it is said; and these are the figures so far.
record Stands (p : Place) (square : Option Tool) (figures : List Figure) (h : List Command) : Type 0 where
  clean : Clean (effect_before p) h
  format : format_before h ≡ Some six
  unit : unit_before h ≡ Some Mm
  block : block_open h ≡ None
  ended : has_ended h ≡ false
  outside : region_open h ≡ false
  ten : defined_before h 10 ≡ Some (standard (Circle (pos 10_000_000)))
  eleven : defined_before h 11 ≡ square
  twelve : defined_before h 12 ≡ Some (standard (Circle (pos 2_000_000)))
  are : map figure_in (pieces_of p h) ≡ figures

is_set : (p : Place) (square : Option Tool) (figures : List Figure) (h : List Command) → Stands p square figures h → IsSet (known_before p h)
is_set p square figures h s = record { format = s.format; unit = s.unit; block = s.block; ended = s.ended; outside = s.outside }

-- a selection behind it
selected_then : (p : Place) (square : Option Tool) (figures : List Figure) (h : List Command) (n : ℕ) (a : Tool) → defined_before h n ≡ Some a → Stands p square figures h → Stands p square figures (selects n ∷ h)
selected_then p square figures h n a is s =
    let e = selects_one (known_before p h) n a (is_set p square figures h s) is in
    record {
      clean = clean_then p h (selects n) stays s.clean e;
      format = s.format;
      unit = s.unit;
      block = s.block;
      ended = s.ended;
      outside = s.outside;
      ten = s.ten;
      eleven = s.eleven;
      twelve = s.twelve;
      are = ap (map figure_in) (pieces_then p h (selects n) stays e) ∙ s.are;
    }

figures_made : (p : Place) (n : ℕ) (figures : List Figure) → map figure_in (made p n figures) ≡ figures
figures_made p n [] = refl
figures_made p n (f ∷ figures) = ap (λ (fs : List Figure). f ∷ fs) (figures_made p n figures)

-- an operation behind it, which makes these figures
operated_then : (p : Place) (square : Option Tool) (figures more : List Figure) (h : List Command) (x y : ℕ) (to : Spot) (code : Code) → Stands p square figures h → effect (known_before p h) (at_place x y code) ≡ Ok (performs to more) → Stands p square (figures ++ more) (at_place x y code ∷ h)
operated_then p square figures more h x y to code s e = record {
  clean = clean_then p h (at_place x y code) (performs to more) s.clean e;
  format = s.format;
  unit = s.unit;
  block = s.block;
  ended = s.ended;
  outside = s.outside;
  ten = s.ten;
  eleven = s.eleven;
  twelve = s.twelve;
  are = ap (map figure_in) (pieces_then p h (at_place x y code) (performs to more) e) ∙ (map-append figure_in (pieces_of p h) (made p (length h + 1) more) ∙ (ap (λ (fs : List Figure). map figure_in (pieces_of p h) ++ fs) (figures_made p (length h + 1) more) ∙ ap (λ (fs : List Figure). fs ++ more) s.are));
}

-- how much there is so far
abbrev pub edges_in : List Figure → ℕ
edges_in figures = sum_by figure_edges figures

pub edges_are : (pieces : List PlainPiece) → edges_of pieces ≡ edges_in (map figure_in pieces)
edges_are [] = refl
edges_are (q ∷ pieces) =
    let more = edges_are pieces in
    let one = sum_by-cons (λ (t : PlainPiece). figure_edges t.figure) q pieces in
    let two = sum_by-cons figure_edges q.figure (map figure_in pieces) in
    omega (arith, more, one, two)

room_left : (p : Place) (square : Option Tool) (figures : List Figure) (h : List Command) → Stands p square figures h → length figures < p.room.pieces → nat_le p.room.pieces (length (pieces_of p h)) ≡ false
room_left p square figures h s room =
    let many : length (pieces_of p h) ≡ length figures = sym (length-map (pieces_of p h) figure_in) ∙ ap length s.are in
    lt-leb p.room.pieces (length (pieces_of p h)) (omega (arith, many, room))

edges_left : (p : Place) (square : Option Tool) (figures : List Figure) (h : List Command) (n : ℕ) → Stands p square figures h → edges_in figures + n ≤ p.room.edges → nat_lt p.room.edges (edges_of (pieces_of p h) + n) ≡ false
edges_left p square figures h n s room =
    let many : edges_of (pieces_of p h) ≡ edges_in figures = edges_are (pieces_of p h) ∙ ap edges_in s.are in
    le-ltb p.room.edges (edges_of (pieces_of p h) + n) (omega (arith, many, room))

-- ---- The copper of a cell

pub spot_is : (x x' y y' : ℕ) → x ≡ x' → y ≡ y' → ◌≡◌ {A = Spot} (record { x = pos x; y = pos y }) (record { x = pos x'; y = pos y' })
spot_is x x' y y' e f = rw (e, f) refl

-- the coordinates of a place
record IsAt (x y : ℕ) (to : Spot) : Type 0 where
  across : IsCoordinate x
  up : IsCoordinate y
  spot : ◌≡◌ {A = Spot} (record { x = pos (10 * x); y = pos (10 * y) }) to

leads_to : (k : Known) (x y : ℕ) (to : Spot) → IsSet k → IsAt x y to → target k.settings (Some (decimal x)) (Some (decimal y)) ≡ Ok to
leads_to k x y to s a = leads k x y s a.across a.up ∙ ap (λ (at : Spot). Ok at) a.spot

point_then : (p : Place) (square : Option Tool) (figures : List Figure) (h : List Command) (x y : ℕ) (to : Spot) (code : Code) → Stands p square figures h → IsAt x y to → point_before (at_place x y code ∷ h) ≡ to
point_then p square figures h x y to code s a =
    let left = a.across.value (x_before h) in
    let low = a.up.value (y_before h) in
    let here : point_before (at_place x y code ∷ h) ≡ (record { x = pos (10 * x); y = pos (10 * y) }) = rw (s.format, s.unit, left, low) refl in
    here ∙ a.spot

abbrev pad_lines : List ℕ → ℕ → ℕ → List Line
pad_lines aperture x y = word aperture ∷ word (operation_text x y (codes "D03")) ∷ []

abbrev track_lines : ℕ → ℕ → ℕ → List Line
track_lines x y to_x = word (codes "D12") ∷ word (operation_text x y (codes "D02")) ∷ word (operation_text to_x y (codes "D01")) ∷ []

round_then : (p : Place) (square : Option Tool) (figures : List Figure) (h : List Command) (x y : ℕ) (at : Spot) → IsAt x y at → length figures < p.room.pieces → edges_in figures + 0 ≤ p.room.edges → Stands p square figures h → Stands p square (figures ++ round_pad at ∷ []) (behind h (pad_lines (codes "D10") x y))
round_then p square figures h x y at a f room s =
    let chosen = selected_then p square figures h 10 (standard (Circle (pos 10_000_000))) s.ten s in
    let k : Known = known_before p (selects 10 ∷ h) in
    let set = is_set p square figures (selects 10 ∷ h) chosen in
    let e : effect k (at_place x y Flash) ≡ Ok (performs at (round_pad at ∷ [])) = performed k x y at Flash set (leads_to k x y at set a)
    ∙ flashes_round k at chosen.ten (room_left p square figures (selects 10 ∷ h) chosen f) (edges_left p square figures (selects 10 ∷ h) 0 chosen room) in
    let done = operated_then p square figures (round_pad at ∷ []) (selects 10 ∷ h) x y at Flash chosen e in
    as_read (Stands p square (figures ++ round_pad at ∷ [])) (told (word (codes "D10")) ∷ h) (word (operation_text x y (codes "D03"))) (at_place x y Flash) (reads_flash x y a.across a.up)
    (as_read (λ (g : List Command). Stands p square (figures ++ round_pad at ∷ []) (at_place x y Flash ∷ g)) h (word (codes "D10")) (selects 10) reads_ten done)

square_then : (p : Place) (figures : List Figure) (h : List Command) (x y c r : ℕ) → c < 100 → r < 100 → IsAt x y (record { x = pos (25_000_000 * c + 12_000_000); y = pos (25_000_000 * r) }) → length figures < p.room.pieces → edges_in figures + 4 ≤ p.room.edges → Stands p (Some (standard (Rectangle (pos 8_000_000) (pos 8_000_000)))) figures h
    → Stands p (Some (standard (Rectangle (pos 8_000_000) (pos 8_000_000)))) (figures ++ square_pad (record { x = pos (25_000_000 * c + 12_000_000); y = pos (25_000_000 * r) }) ∷ []) (behind h (pad_lines (codes "D11") x y))
square_then p figures h x y c r low few a f room s =
    let tool : Tool = standard (Rectangle (pos 8_000_000) (pos 8_000_000)) in
    let at : Spot = record { x = pos (25_000_000 * c + 12_000_000); y = pos (25_000_000 * r) } in
    let chosen = selected_then p (Some tool) figures h 11 tool s.eleven s in
    let k : Known = known_before p (selects 11 ∷ h) in
    let set = is_set p (Some tool) figures (selects 11 ∷ h) chosen in
    let e : effect k (at_place x y Flash) ≡ Ok (performs at (square_pad at ∷ [])) = performed k x y at Flash set (leads_to k x y at set a)
    ∙ flashes_square k at chosen.eleven (squared c r low few) (room_left p (Some tool) figures (selects 11 ∷ h) chosen f) (edges_left p (Some tool) figures (selects 11 ∷ h) 4 chosen room) in
    let done = operated_then p (Some tool) figures (square_pad at ∷ []) (selects 11 ∷ h) x y at Flash chosen e in
    as_read (Stands p (Some tool) (figures ++ square_pad at ∷ [])) (told (word (codes "D11")) ∷ h) (word (operation_text x y (codes "D03"))) (at_place x y Flash) (reads_flash x y a.across a.up)
    (as_read (λ (g : List Command). Stands p (Some tool) (figures ++ square_pad at ∷ []) (at_place x y Flash ∷ g)) h (word (codes "D11")) (selects 11) reads_eleven done)

track_then : (p : Place) (square : Option Tool) (figures : List Figure) (h : List Command) (x y to_x : ℕ) (from to : Spot) → IsAt x y from → IsAt to_x y to → length figures < p.room.pieces → Stands p square figures h → Stands p square (figures ++ track_between from to ∷ []) (behind h (track_lines x y to_x))
track_then p square figures h x y to_x from to a b f s =
    let chosen = selected_then p square figures h 12 (standard (Circle (pos 2_000_000))) s.twelve s in
    let k : Known = known_before p (selects 12 ∷ h) in
    let set = is_set p square figures (selects 12 ∷ h) chosen in
    let e : effect k (at_place x y Move) ≡ Ok (performs from []) = performed k x y from Move set (leads_to k x y from set a) ∙ moves_to k from in
    let g : List Command = at_place x y Move ∷ selects 12 ∷ h in
    let moved : Stands p square figures g = subst (λ (fs : List Figure). Stands p square fs g) (append-nil figures) (operated_then p square figures [] (selects 12 ∷ h) x y from Move chosen e) in
    let m : Known = known_before p g in
    let ready = is_set p square figures g moved in
    let here : m.settings.at ≡ from = point_then p square figures (selects 12 ∷ h) x y from Move chosen a in
    let d : effect m (at_place to_x y Draw) ≡ Ok (performs to (track_between from to ∷ [])) = performed m to_x y to Draw ready (leads_to m to_x y to ready b) ∙ (draws_track m to moved.twelve (room_left p square figures g moved f)
    ∙ ap (λ (at : Spot). Ok (performs to (track_between at to ∷ []))) here) in
    let done = operated_then p square figures (track_between from to ∷ []) g to_x y to Draw moved d in
    let fs : List Figure = figures ++ track_between from to ∷ [] in
    as_read (Stands p square fs) (told (word (operation_text x y (codes "D02"))) ∷ told (word (codes "D12")) ∷ h) (word (operation_text to_x y (codes "D01"))) (at_place to_x y Draw) (reads_draw to_x y b.across b.up)
    (as_read (λ (g : List Command). Stands p square fs (at_place to_x y Draw ∷ g)) (told (word (codes "D12")) ∷ h) (word (operation_text x y (codes "D02"))) (at_place x y Move) (reads_move x y a.across a.up)
    (as_read (λ (g : List Command). Stands p square fs (at_place to_x y Draw ∷ at_place x y Move ∷ g)) h (word (codes "D12")) (selects 12) reads_twelve done))

-- ---- The lines of a file

-- one of the two copper files
abbrev IsCopper : Part → Type 0
IsCopper Top = Unit {0}
IsCopper Bottom = Unit {0}
IsCopper Holes = ⊥
IsCopper Points = ⊥

abbrev square_in : Part → Option Tool
square_in Top = Some (standard (Rectangle (pos 8_000_000) (pos 8_000_000)))
square_in other = None

abbrev head_lines : Part → List Line
head_lines Top = extended (codes "FSLAX46Y46") ∷ extended (codes "MOMM") ∷ extended (codes "ADD10C,1.0") ∷ extended (codes "ADD11R,0.8X0.8") ∷ extended (codes "ADD12C,0.2") ∷ []
head_lines other = extended (codes "FSLAX46Y46") ∷ extended (codes "MOMM") ∷ extended (codes "ADD10C,1.0") ∷ extended (codes "ADD12C,0.2") ∷ []

abbrev pad_at : List ℕ → ℕ → List Line
pad_at aperture i = pad_lines aperture (2_500_000 * column i) (2_500_000 * row i)

abbrev cell_lines : Part → ℕ → ℕ → ℕ → List Line
cell_lines Top seed size i = pad_at (codes "D10") i ++ (pad_lines (codes "D11") (2_500_000 * column i + 1_200_000) (2_500_000 * row i)
    ++ (if is_broken seed i then [] else track_lines (2_500_000 * column i) (2_500_000 * row i) (2_500_000 * column i + 1_200_000)))
cell_lines other seed size i = pad_at (codes "D10") i ++ (if is_bridged seed size i then track_lines (2_500_000 * column i) (2_500_000 * row i) (2_500_000 * column i + 2_500_000) else [])

abbrev lines_to : Part → ℕ → ℕ → ℕ → List Line
lines_to part seed size zero = head_lines part
lines_to part seed size (suc i) = lines_to part seed size i ++ cell_lines part seed size i

operation_spelled : (x y a b c : ℕ) → made_operation x y (a ∷ b ∷ c ∷ []) ≡ spelled (word (operation_text x y (a ∷ b ∷ c ∷ [])))
operation_spelled x y a b c =
    let code : List ℕ = a ∷ b ∷ c ∷ [] in
    ap (λ (t : List ℕ). 88 ∷ (decimal x ++ 89 ∷ t)) (sym (append_assoc (decimal y) code (42 ∷ 10 ∷ []))) ∙ ap (λ (t : List ℕ). 88 ∷ t) (sym (append_assoc (decimal x) (89 ∷ (decimal y ++ code)) (42 ∷ 10 ∷ [])))

pad_spelled : (aperture : List ℕ) (x y : ℕ) → made_flash aperture x y ≡ flat_map spelled (pad_lines aperture x y)
pad_spelled aperture x y =
    sym (append_assoc aperture (42 ∷ 10 ∷ []) (made_operation x y (codes "D03")))
    ∙ ap (λ (t : List ℕ). (aperture ++ 42 ∷ 10 ∷ []) ++ t) (operation_spelled x y 68 48 51 ∙ sym (append-nil (spelled (word (operation_text x y (codes "D03"))))))

track_spelled : (x y to_x : ℕ) → made_track (codes "D12") x y to_x ≡ flat_map spelled (track_lines x y to_x)
track_spelled x y to_x =
    ap (λ (t : List ℕ). codes "D12*\n" ++ (t ++ made_operation to_x y (codes "D01"))) (operation_spelled x y 68 48 50)
    ∙ ap (λ (t : List ℕ). codes "D12*\n" ++ (spelled (word (operation_text x y (codes "D02"))) ++ t)) (operation_spelled to_x y 68 48 49 ∙ sym (append-nil (spelled (word (operation_text to_x y (codes "D01"))))))

either_spelled : (b : Bool) (one other : List ℕ) (ls ks : List Line) → one ≡ flat_map spelled ls → other ≡ flat_map spelled ks → (if b then one else other) ≡ flat_map spelled (if b then ls else ks)
either_spelled true one other ls ks h k = h
either_spelled false one other ls ks h k = k

cell_spelled : (part : Part) → IsCopper part → (seed size i : ℕ) → cell_of part seed size i ≡ flat_map spelled (cell_lines part seed size i)
cell_spelled Top is seed size i =
    let x : ℕ = 2_500_000 * column i in
    let y : ℕ = 2_500_000 * row i in
    let track : List Line = if is_broken seed i then [] else track_lines x y (x + 1_200_000) in
    let tail : (if is_broken seed i then [] else made_track (codes "D12") x y (x + 1_200_000)) ≡ flat_map spelled track = either_spelled (is_broken seed i) [] (made_track (codes "D12") x y (x + 1_200_000)) [] (track_lines x y (x + 1_200_000)) refl (track_spelled x y (x + 1_200_000)) in
    ap (λ (t : List ℕ). t ++ (made_flash (codes "D11") (x + 1_200_000) y ++ (if is_broken seed i then [] else made_track (codes "D12") x y (x + 1_200_000)))) (pad_spelled (codes "D10") x y)
    ∙ (ap (λ (t : List ℕ). flat_map spelled (pad_lines (codes "D10") x y) ++ (t ++ (if is_broken seed i then [] else made_track (codes "D12") x y (x + 1_200_000)))) (pad_spelled (codes "D11") (x + 1_200_000) y)
    ∙ (ap (λ (t : List ℕ). flat_map spelled (pad_lines (codes "D10") x y) ++ (flat_map spelled (pad_lines (codes "D11") (x + 1_200_000) y) ++ t)) tail
    ∙ (ap (λ (t : List ℕ). flat_map spelled (pad_lines (codes "D10") x y) ++ t) (sym (flat_map-append spelled (pad_lines (codes "D11") (x + 1_200_000) y) track))
    ∙ sym (flat_map-append spelled (pad_lines (codes "D10") x y) (pad_lines (codes "D11") (x + 1_200_000) y ++ track)))))
cell_spelled Bottom is seed size i =
    let x : ℕ = 2_500_000 * column i in
    let y : ℕ = 2_500_000 * row i in
    let track : List Line = if is_bridged seed size i then track_lines x y (x + 2_500_000) else [] in
    let tail : (if is_bridged seed size i then made_track (codes "D12") x y (x + 2_500_000) else []) ≡ flat_map spelled track = either_spelled (is_bridged seed size i) (made_track (codes "D12") x y (x + 2_500_000)) [] (track_lines x y (x + 2_500_000)) [] (track_spelled x y (x + 2_500_000)) refl in
    ap (λ (t : List ℕ). t ++ (if is_bridged seed size i then made_track (codes "D12") x y (x + 2_500_000) else [])) (pad_spelled (codes "D10") x y)
    ∙ (ap (λ (t : List ℕ). flat_map spelled (pad_lines (codes "D10") x y) ++ t) tail ∙ sym (flat_map-append spelled (pad_lines (codes "D10") x y) track))
cell_spelled Holes is seed size i = absurd is
cell_spelled Points is seed size i = absurd is

head_spelled : (part : Part) → IsCopper part → head_of part ≡ flat_map spelled (head_lines part)
head_spelled Top is = refl
head_spelled Bottom is = refl
head_spelled Holes is = absurd is
head_spelled Points is = absurd is

end_spelled : (part : Part) → IsCopper part → end_of part ≡ flat_map spelled (word (codes "M02") ∷ [])
end_spelled Top is = refl
end_spelled Bottom is = refl
end_spelled Holes is = absurd is
end_spelled Points is = absurd is

cells_spelled : (part : Part) → IsCopper part → (seed size n : ℕ) → head_of part ++ cells (cell_of part seed size) n ≡ flat_map spelled (lines_to part seed size n)
unfolding cells
cells_spelled part is seed size zero = append-nil (head_of part) ∙ head_spelled part is
cells_spelled part is seed size (suc i) =
    sym (append_assoc (head_of part) (cells (cell_of part seed size) i) (cell_of part seed size i))
    ∙ (ap (λ (t : List ℕ). t ++ cell_of part seed size i) (cells_spelled part is seed size i)
    ∙ (ap (λ (t : List ℕ). flat_map spelled (lines_to part seed size i) ++ t) (cell_spelled part is seed size i) ∙ sym (flat_map-append spelled (lines_to part seed size i) (cell_lines part seed size i))))

text_spelled : (part : Part) → IsCopper part → (seed n : ℕ) → part_text part seed n ≡ flat_map spelled (lines_to part seed n n ++ word (codes "M02") ∷ [])
text_spelled part is seed n = ap (λ (t : List ℕ). t ++ end_of part) (cells_spelled part is seed n n)
    ∙ (ap (λ (t : List ℕ). flat_map spelled (lines_to part seed n n) ++ t) (end_spelled part is) ∙ sym (flat_map-append spelled (lines_to part seed n n) (word (codes "M02") ∷ [])))

-- ---- Each line is a word

digit_plain : (c : ℕ) → is_decimal_digit c ≡ true → is_plain c ≡ true
digit_plain c h = rw (digit_is_not 42 c refl h, digit_is_not 37 c refl h, digit_is_not 10 c refl h, digit_is_not 13 c refl h) refl

number_plain : (n : ℕ) → n ≤ 300_000_000 → list_all is_plain (decimal n) ≡ true
number_plain n low = wider is_decimal_digit is_plain digit_plain (decimal n) (written n (omega (arith, low))).digits

operation_word : (x y : ℕ) (code : List ℕ) → x ≤ 300_000_000 → y ≤ 300_000_000 → list_all is_plain code ≡ true → IsWord (operation_text x y code)
operation_word x y code left low h =
    let tail : list_all is_plain (decimal y ++ code) ≡ true = list_all-append is_plain (decimal y) code ∙ rw (number_plain y low, h) refl in
    let whole : list_all is_plain (decimal x ++ 89 ∷ (decimal y ++ code)) ≡ true = list_all-append is_plain (decimal x) (89 ∷ (decimal y ++ code)) ∙ rw (number_plain x left, tail) refl in
    (refl, whole)

words_either : (b : Bool) (xs ys : List Line) → AreWords xs → AreWords ys → AreWords (if b then xs else ys)
words_either true xs ys h k = h
words_either false xs ys h k = k

pad_words : (aperture : List ℕ) (x y : ℕ) → IsWord aperture → x ≤ 300_000_000 → y ≤ 300_000_000 → AreWords (pad_lines aperture x y)
pad_words aperture x y is left low = (is, (operation_word x y (codes "D03") left low refl, tt))

track_words : (x y to_x : ℕ) → x ≤ 300_000_000 → y ≤ 300_000_000 → to_x ≤ 300_000_000 → AreWords (track_lines x y to_x)
track_words x y to_x left low right = ((refl, refl), (operation_word x y (codes "D02") left low refl, (operation_word to_x y (codes "D01") right low refl, tt)))

cell_words : (part : Part) → IsCopper part → (seed size i : ℕ) → i < 10_000 → AreWords (cell_lines part seed size i)
cell_words Top is seed size i low =
    let x : ℕ = 2_500_000 * column i in
    let y : ℕ = 2_500_000 * row i in
    let track : List Line = if is_broken seed i then [] else track_lines x y (x + 1_200_000) in
    are_words-append (pad_at (codes "D10") i) (pad_lines (codes "D11") (x + 1_200_000) y ++ track) (pad_words (codes "D10") x y (refl, refl) (omega arith) (omega (arith, low)))
    (are_words-append (pad_lines (codes "D11") (x + 1_200_000) y) track (pad_words (codes "D11") (x + 1_200_000) y (refl, refl) (omega arith) (omega (arith, low)))
    (words_either (is_broken seed i) [] (track_lines x y (x + 1_200_000)) tt (track_words x y (x + 1_200_000) (omega arith) (omega (arith, low)) (omega arith))))
cell_words Bottom is seed size i low =
    let x : ℕ = 2_500_000 * column i in
    let y : ℕ = 2_500_000 * row i in
    are_words-append (pad_at (codes "D10") i) (if is_bridged seed size i then track_lines x y (x + 2_500_000) else []) (pad_words (codes "D10") x y (refl, refl) (omega arith) (omega (arith, low)))
    (words_either (is_bridged seed size i) (track_lines x y (x + 2_500_000)) [] (track_words x y (x + 2_500_000) (omega arith) (omega (arith, low)) (omega arith)) tt)
cell_words Holes is seed size i low = absurd is
cell_words Points is seed size i low = absurd is

head_words : (part : Part) → IsCopper part → AreWords (head_lines part)
head_words Top is = ((refl, refl), ((refl, refl), ((refl, refl), ((refl, refl), ((refl, refl), tt)))))
head_words Bottom is = ((refl, refl), ((refl, refl), ((refl, refl), ((refl, refl), tt))))
head_words Holes is = absurd is
head_words Points is = absurd is

lines_words_to : (part : Part) → IsCopper part → (seed size n : ℕ) → n ≤ 10_000 → AreWords (lines_to part seed size n)
lines_words_to part is seed size zero few = head_words part is
lines_words_to part is seed size (suc i) few = are_words-append (lines_to part seed size i) (cell_lines part seed size i) (lines_words_to part is seed size i (omega (arith, few))) (cell_words part is seed size i (omega (arith, few)))

-- ---- How much copper there is

few_in_cell : (part : Part) (seed size i : ℕ) → (length (copper_of part seed size i) ≤ 3) × (edges_in (copper_of part seed size i) ≤ 4)
few_in_cell Top seed size i = by (is_broken seed i)
  where
    by : (b : Bool) → (length (round_pad (cell_at i) ∷ square_pad (beside i) ∷ (if b then [] else track_between (cell_at i) (beside i) ∷ [])) ≤ 3) × (edges_in (round_pad (cell_at i) ∷ square_pad (beside i) ∷ (if b then [] else track_between (cell_at i) (beside i) ∷ [])) ≤ 4)
    by true = (omega arith, omega arith)
    by false = (omega arith, omega arith)
few_in_cell Bottom seed size i = by (is_bridged seed size i)
  where
    by : (b : Bool) → (length (round_pad (cell_at i) ∷ (if b then track_between (cell_at i) (next_to i) ∷ [] else [])) ≤ 3) × (edges_in (round_pad (cell_at i) ∷ (if b then track_between (cell_at i) (next_to i) ∷ [] else [])) ≤ 4)
    by true = (omega arith, omega arith)
    by false = (omega arith, omega arith)
few_in_cell Holes seed size i = (omega arith, omega arith)
few_in_cell Points seed size i = (omega arith, omega arith)

pub few_so_far : (part : Part) (seed size n : ℕ) → (length (copper part seed size n) ≤ 3 * n) × (edges_in (copper part seed size n) ≤ 4 * n)
few_so_far part seed size zero = (omega arith, omega arith)
few_so_far part seed size (suc i) =
    let more = few_so_far part seed size i in
    let a = more.0 in
    let b = more.1 in
    let here = few_in_cell part seed size i in
    let d = here.0 in
    let e = here.1 in
    let long = length-append (copper part seed size i) (copper_of part seed size i) in
    let sum = sum_by-append figure_edges (copper part seed size i) (copper_of part seed size i) in
    (omega (arith, a, d, long), omega (arith, b, e, sum))

-- ---- What stands behind the head, and behind each cell

top_head : (p : Place) → Stands p (square_in Top) [] (defines (codes "ADD12C,0.2") ∷ defines (codes "ADD11R,0.8X0.8") ∷ defines (codes "ADD10C,1.0") ∷ counts_in Mm ∷ formats six ∷ [])
unfolding effect row_of define image_by aperture_at numbered_at solid_by circle_at last_behind diameter_at size_at size_of sides_at sides_in side_at
top_head p = record { clean = (refl, (refl, (refl, (refl, (refl, tt))))); format = refl; unit = refl; block = refl; ended = refl; outside = refl; ten = refl; eleven = refl; twelve = refl; are = refl }

bottom_head : (p : Place) → Stands p None [] (defines (codes "ADD12C,0.2") ∷ defines (codes "ADD10C,1.0") ∷ counts_in Mm ∷ formats six ∷ [])
unfolding effect row_of define image_by aperture_at numbered_at solid_by circle_at last_behind diameter_at size_at size_of
bottom_head p = record { clean = (refl, (refl, (refl, (refl, tt)))); format = refl; unit = refl; block = refl; ended = refl; outside = refl; ten = refl; eleven = refl; twelve = refl; are = refl }

head_told : (part : Part) → IsCopper part → (p : Place) → Stands p (square_in part) [] (behind [] (head_lines part))
head_told Top is p = subst (λ (h : List Command). Stands p (square_in Top) [] h) (sym heads) (top_head p)
  where
    heads : behind [] (head_lines Top) ≡ defines (codes "ADD12C,0.2") ∷ defines (codes "ADD11R,0.8X0.8") ∷ defines (codes "ADD10C,1.0") ∷ counts_in Mm ∷ formats six ∷ []
    heads = rw (reads_definition (codes "D12C,0.2"), reads_definition (codes "D11R,0.8X0.8"), reads_definition (codes "D10C,1.0"), reads_unit, reads_format) refl
head_told Bottom is p = subst (λ (h : List Command). Stands p None [] h) (sym heads) (bottom_head p)
  where
    heads : behind [] (head_lines Bottom) ≡ defines (codes "ADD12C,0.2") ∷ defines (codes "ADD10C,1.0") ∷ counts_in Mm ∷ formats six ∷ []
    heads = rw (reads_definition (codes "D12C,0.2"), reads_definition (codes "D10C,1.0"), reads_unit, reads_format) refl
head_told Holes is p = absurd is
head_told Points is p = absurd is

-- the places of a cell by its coordinates
at_cell : (i : ℕ) → i < 10_000 → IsAt (2_500_000 * column i) (2_500_000 * row i) (cell_at i)
at_cell i low = record {
  across = coordinate_is (2_500_000 * column i) (omega arith);
  up = coordinate_is (2_500_000 * row i) (omega (arith, low));
  spot = spot_is (10 * (2_500_000 * column i)) (25_000_000 * column i) (10 * (2_500_000 * row i)) (25_000_000 * row i) (omega arith) (omega arith);
}

at_beside : (i : ℕ) → i < 10_000 → IsAt (2_500_000 * column i + 1_200_000) (2_500_000 * row i) (beside i)
at_beside i low = record {
  across = coordinate_is (2_500_000 * column i + 1_200_000) (omega arith);
  up = coordinate_is (2_500_000 * row i) (omega (arith, low));
  spot = spot_is (10 * (2_500_000 * column i + 1_200_000)) (25_000_000 * column i + 12_000_000) (10 * (2_500_000 * row i)) (25_000_000 * row i) (omega arith) (omega arith);
}

at_next : (i : ℕ) → i < 10_000 → IsAt (2_500_000 * column i + 2_500_000) (2_500_000 * row i) (next_to i)
at_next i low = record {
  across = coordinate_is (2_500_000 * column i + 2_500_000) (omega arith);
  up = coordinate_is (2_500_000 * row i) (omega (arith, low));
  spot = spot_is (10 * (2_500_000 * column i + 2_500_000)) (25_000_000 * column i + 25_000_000) (10 * (2_500_000 * row i)) (25_000_000 * row i) (omega arith) (omega arith);
}

-- a track that may be missing
track_if : (b : Bool) (p : Place) (square : Option Tool) (figures : List Figure) (h : List Command) (x y to_x : ℕ) (from to : Spot) → IsAt x y from → IsAt to_x y to → length figures < p.room.pieces → Stands p square figures h
    → Stands p square (figures ++ (if b then track_between from to ∷ [] else [])) (behind h (if b then track_lines x y to_x else []))
track_if true p square figures h x y to_x from to a b f s = track_then p square figures h x y to_x from to a b f s
track_if false p square figures h x y to_x from to a b f s = subst (λ (fs : List Figure). Stands p square fs h) (sym (append-nil figures)) s

track_unless : (b : Bool) (p : Place) (square : Option Tool) (figures : List Figure) (h : List Command) (x y to_x : ℕ) (from to : Spot) → IsAt x y from → IsAt to_x y to → length figures < p.room.pieces → Stands p square figures h
    → Stands p square (figures ++ (if b then [] else track_between from to ∷ [])) (behind h (if b then [] else track_lines x y to_x))
track_unless false p square figures h x y to_x from to a b f s = track_then p square figures h x y to_x from to a b f s
track_unless true p square figures h x y to_x from to a b f s = subst (λ (fs : List Figure). Stands p square fs h) (sym (append-nil figures)) s

cell_then : (part : Part) → IsCopper part → (p : Place) (seed size i : ℕ) (figures : List Figure) (h : List Command) → i < 10_000 → length figures + 3 ≤ p.room.pieces → edges_in figures + 4 ≤ p.room.edges → Stands p (square_in part) figures h
    → Stands p (square_in part) (figures ++ copper_of part seed size i) (behind h (cell_lines part seed size i))
cell_then Top is p seed size i figures h low room edges s =
    let x : ℕ = 2_500_000 * column i in
    let y : ℕ = 2_500_000 * row i in
    let one = round_then p (square_in Top) figures h x y (cell_at i) (at_cell i low) (omega (arith, room)) (omega (arith, edges)) s in
    let fs : List Figure = figures ++ round_pad (cell_at i) ∷ [] in
    let long : length fs ≡ length figures + 1 = length-append figures (round_pad (cell_at i) ∷ []) in
    let sum : edges_in fs ≡ edges_in figures + 0 = sum_by-append figure_edges figures (round_pad (cell_at i) ∷ []) in
    let two = square_then p fs (behind h (pad_lines (codes "D10") x y)) (x + 1_200_000) y (column i) (row i) (omega arith) (omega (arith, low)) (at_beside i low) (omega (arith, room, long)) (omega (arith, edges, sum)) one in
    let gs : List Figure = fs ++ square_pad (beside i) ∷ [] in
    let more : length gs ≡ length fs + 1 = length-append fs (square_pad (beside i) ∷ []) in
    let track : List Figure = if is_broken seed i then [] else track_between (cell_at i) (beside i) ∷ [] in
    let three = track_unless (is_broken seed i) p (square_in Top) gs (behind (behind h (pad_lines (codes "D10") x y)) (pad_lines (codes "D11") (x + 1_200_000) y)) x y (x + 1_200_000) (cell_at i) (beside i) (at_cell i low) (at_beside i low) (omega (arith, room, long, more)) two in
    let joined : gs ++ track ≡ figures ++ copper_of Top seed size i = append_assoc fs (square_pad (beside i) ∷ []) track ∙ append_assoc figures (round_pad (cell_at i) ∷ []) (square_pad (beside i) ∷ track) in
    subst (λ (k : List Figure). Stands p (square_in Top) k (behind h (cell_lines Top seed size i))) joined three
cell_then Bottom is p seed size i figures h low room edges s =
    let x : ℕ = 2_500_000 * column i in
    let y : ℕ = 2_500_000 * row i in
    let one = round_then p None figures h x y (cell_at i) (at_cell i low) (omega (arith, room)) (omega (arith, edges)) s in
    let fs : List Figure = figures ++ round_pad (cell_at i) ∷ [] in
    let long : length fs ≡ length figures + 1 = length-append figures (round_pad (cell_at i) ∷ []) in
    let track : List Figure = if is_bridged seed size i then track_between (cell_at i) (next_to i) ∷ [] else [] in
    let two = track_if (is_bridged seed size i) p None fs (behind h (pad_lines (codes "D10") x y)) x y (x + 2_500_000) (cell_at i) (next_to i) (at_cell i low) (at_next i low) (omega (arith, room, long)) one in
    subst (λ (k : List Figure). Stands p None k (behind h (cell_lines Bottom seed size i))) (append_assoc figures (round_pad (cell_at i) ∷ []) track) two
cell_then Holes is p seed size i figures h low room edges s = absurd is
cell_then Points is p seed size i figures h low room edges s = absurd is

standing : (part : Part) → IsCopper part → (p : Place) (seed size n : ℕ) → n ≤ size → size ≤ MOST_CELLS → HasRoom size p → Stands p (square_in part) (copper part seed size n) (behind [] (lines_to part seed size n))
standing part is p seed size zero below few room = head_told part is p
standing part is p seed size (suc i) below few room =
    let so_far = few_so_far part seed size i in
    let many = so_far.0 in
    let edges = so_far.1 in
    let free = room.pieces in
    let left = room.edges in
    let s = standing part is p seed size i (omega (arith, below)) few room in
    let next = cell_then part is p seed size i (copper part seed size i) (behind [] (lines_to part seed size i)) (omega (arith, below, few)) (omega (arith, many, free, below)) (omega (arith, edges, left, below)) s in
    subst (λ (h : List Command). Stands p (square_in part) (copper part seed size (suc i)) h) (sym (behind-append [] (lines_to part seed size i) (cell_lines part seed size i))) next

-- ---- The whole

behind_is : (h : List Command) (lines : List Line) → behind h lines ≡ reverse (map told lines) ++ h
behind_is h [] = refl
behind_is h (l ∷ lines) = behind_is (told l ∷ h) lines ∙ (sym (append_assoc (reverse (map told lines)) (told l ∷ []) h) ∙ ap (λ (cs : List Command). cs ++ h) (sym (reverse-append (told l ∷ []) (map told lines))))

said_entries : (at : ℕ) (lines : List Line) → said (map (word_item command_of) (entries_of at lines)) ≡ map told lines
unfolding command_of
said_entries at [] = refl
said_entries at (word text ∷ lines) = ap (λ (cs : List Command). told (word text) ∷ cs) (said_entries (at + length text + 1 + 1) lines)
said_entries at (extended text ∷ lines) = ap (λ (cs : List Command). told (extended text) ∷ cs) (said_entries (at + 1 + length text + 1 + 1 + 1) lines)

reverse_said : (is : List (Item Command)) → said (reverse is) ≡ reverse (said is)
reverse_said [] = refl
reverse_said (i ∷ is) =
    ap said (reverse-append (i ∷ []) is) ∙ (map-append (λ (j : Item Command). j.says) (reverse is) (i ∷ [])
    ∙ (ap (λ (cs : List Command). cs ++ i.says ∷ []) (reverse_said is) ∙ sym (reverse-append (i.says ∷ []) (said is))))

abbrev all_items : ℕ → List Line → List (Item Command)
all_items size lines = items_with command_of stop_command size (entries_of 0 lines) ended

history : (size : ℕ) (lines : List Line) → said (reverse (all_items size lines)) ≡ finishes ∷ behind [] lines
history size lines =
    let words : List (Item Command) = map (word_item command_of) (entries_of 0 lines) in
    let last : Item Command = stop_item stop_command size ended in
    let whole : said (all_items size lines) ≡ map told lines ++ finishes ∷ [] = map-append (λ (j : Item Command). j.says) words (last ∷ []) ∙ ap (λ (cs : List Command). cs ++ finishes ∷ []) (said_entries 0 lines) in
    reverse_said (all_items size lines) ∙ (ap reverse whole ∙ (reverse-append (map told lines) (finishes ∷ []) ∙ ap (λ (cs : List Command). finishes ∷ cs) (sym (behind_is [] lines ∙ append-nil (reverse (map told lines))))))

-- lines that end leave the copper as it stands
lines_read : (p : Place) (square : Option Tool) (figures : List Figure) (lines : List Line) → AreWords (lines ++ word (codes "M02") ∷ []) → Stands p square figures (behind [] lines) → IsReadAs (flat_map spelled (lines ++ word (codes "M02") ∷ [])) p figures
lines_read p square figures lines words s =
    let file : List ℕ = flat_map spelled (lines ++ word (codes "M02") ∷ []) in
    let h : List Command = behind [] lines in
    let all : List Line = lines ++ word (codes "M02") ∷ [] in
    let ending = ends_all (known_before p h) (is_set p square figures h s) in
    let finishing = finishes_all (known_before p (ends ∷ h)) refl in
    let over : behind [] all ≡ ends ∷ h = behind-append [] lines (word (codes "M02") ∷ []) ∙ ap (λ (c : Command). c ∷ h) reads_end in
    let are : said (reverse (all_items (length file) all)) ≡ finishes ∷ ends ∷ h = history (length file) all ∙ ap (λ (cs : List Command). finishes ∷ cs) over in
    let clean : Clean (effect_before p) (finishes ∷ ends ∷ h) = clean_then p (ends ∷ h) finishes stays (clean_then p h ends (concludes (pieces_of p h)) s.clean ending) finishing in
    let one : pieces_of p (ends ∷ h) ≡ pieces_of p h = pieces_then p h ends (concludes (pieces_of p h)) ending in
    let two : pieces_of p (finishes ∷ ends ∷ h) ≡ pieces_of p h = pieces_then p (ends ∷ h) finishes stays finishing ∙ one in
    record {
      pieces = pieces_of p h;
      read = (
        all_items (length file) all,
        record { words = entries_of 0 all; stop = ended; cut = lines_words all words; are = refl },
        record {
          earlier = reverse (all_items (length file) all);
          whole = record { split = sym (append-nil (reverse (reverse (all_items (length file) all))) ∙ reverse-reverse (all_items (length file) all)); clean = subst (Clean (effect_before p)) (sym are) clean };
          is = sym (ap (pieces_of p) are ∙ two);
        },
      );
      are = s.are;
    }

copper_read : (part : Part) → IsCopper part → (seed size : ℕ) (p : Place) → size ≤ MOST_CELLS → HasRoom size p → IsReadAs (part_text part seed size) p (copper part seed size size)
copper_read part is seed size p few room =
    let lines : List Line = lines_to part seed size size in
    let words = are_words-append lines (word (codes "M02") ∷ []) (lines_words_to part is seed size size few) ((refl, refl), tt) in
    subst (λ (t : List ℕ). IsReadAs t p (copper part seed size size)) (sym (text_spelled part is seed size)) (lines_read p (square_in part) (copper part seed size size) lines words (standing part is p seed size size (omega arith) few room))

pub made_copper_is_read : MadeCopperIsRead
made_copper_is_read = record {
  top = λ seed size p few room. copper_read Top tt seed size p few room;
  bottom = λ seed size p few room. copper_read Bottom tt seed size p few room;
}
