-- What a command does, or its fault, by what is known before it.
use Rattle.std.specs.Prelude.{ℕ, ◌+◌, ◌-◌, ◌/◌, ◌%◌, Bool, true, false, ◌&&◌, ◌||◌, not, ◌==◌, nat_le, nat_lt, if◌then◌else◌, List, [], ◌∷◌, ◌++◌, length, take, drop, sum_by, codes, ℤ, Option, Some, None, is_some, Result, Ok, Err}
use Rattle.planar.specs.declared.Spot.{Spot}
use Rattle.lengths.specs.Decimal.{over_power}
use Rattle.lengths.specs.Grid.{position_of}
use Rattle.lengths.specs.declared.decimal.Unit.{Unit as Measure}
use Rattle.lengths.specs.declared.decimal.GridFault.{GridFault}
use Rattle.lengths.specs.declared.decimal.GridFault.TheVariants as grid
use Rattle.area_contact.specs.declared.TheConstants.{MOST_CONTOUR_EDGES}
use Rattle.board_shapes.specs.Pieces.{PieceOf}
use Rattle.board_shapes.specs.declared.placed.Room.{Room}
use Rattle.apertures.specs.declared.fault.ApertureFault.{ApertureFault}
use Rattle.apertures.specs.declared.fault.ApertureFault.TheVariants as aperture
use Rattle.gerber_words.specs.Attributes.{is_field}
use Rattle.gerber_words.specs.declared.fault.WordFault.{WordFault}
use Rattle.gerber_words.specs.declared.fault.WordFault.TheVariants as word
use Rattle.gerber_reading.specs.Command.{Command, finishes}
use Rattle.step_repeat.specs.Copies.{Refusal, copies_by, edges_by, out_of_range, too_many_edges, too_many_pieces}
use Rattle.step_repeat.specs.Figures.{Handling}
use Rattle.step_repeat.specs.Repeats.{repeat_at}
use Rattle.step_repeat.specs.declared.repeat.Repeat.{Repeat}
use Rattle.step_repeat.specs.declared.fault.RepeatFault.{RepeatFault}
use Rattle.step_repeat.specs.declared.fault.RepeatFault.TheVariants as stepping
use Rattle.texts.specs.Words.{is_word}
use Rattle.aperture_macros.specs.BodyWord.{PlainPrimitive}
use Rattle.aperture_macros.specs.declared.fault.MacroFault.{MacroFault}
use Rattle.gerber_reading.specs.Tools.{Macros, Tool, standard}
use Rattle.gerber_reading.specs.declared.TheConstants.{MOST_APERTURES}
use Rattle.gerber_reading.specs.declared.kind.GerberKind.{GerberKind}
use Rattle.gerber_reading.specs.declared.kind.GerberKind.TheVariants as kind
use Rattle.gerber_reading.specs.declared.command.Code.{Code}
use Rattle.gerber_reading.specs.declared.command.Code.TheVariants.{Draw}
use Rattle.gerber_reading.specs.declared.command.Format.{Format}
use Rattle.gerber_reading.specs.declared.settings.Settings.{Settings}
pub use Rattle.file_reading.specs.Conditions.{◌>>=◌, unless, needed}
pub use Rattle.regions.specs.Contours.{Leg, Outline}
pub use Rattle.gerber_reading.specs.declared.place.Place.{Place}

-- what is known before a command: the settings, the aperture dictionary, the macros, the contour of the open region, the
-- pieces so far, and how many of them stand before the open block
pub record Known (G E A : Type 0) : Type 0 where
  pub settings : Settings
  pub defined : ℕ → Option (Tool A)
  -- how many apertures are defined
  pub definitions : ℕ
  pub macros : Macros
  pub contour : Option (Outline E)
  pub pieces : List (PieceOf G)
  pub start : ℕ
  pub place : Place

-- What a command does besides its settings: nothing; it makes an aperture; it begins a macro, or gives it a primitive; it
-- performs an operation outside a region, which may make pieces; it extends the contour, or closes it and moves; it opens a
-- region, or leaves it; it ends the open block, and the pieces are these then, and may open another; it ends the file, with
-- these pieces.
pub data Effect (G E A : Type 0) : Type 0 where
  stays : (Effect G E A)
  makes : ℕ → Tool A → (Effect G E A)
  begins_macro : List ℕ → (Effect G E A)
  fills_macro : PlainPrimitive → (Effect G E A)
  performs : Spot → List G → (Effect G E A)
  extends : Spot → E → (Effect G E A)
  closes : Spot → Option G → (Effect G E A)
  opens : (Effect G E A)
  leaves : Option G → (Effect G E A)
  steps : Option Repeat → List (PieceOf G) → (Effect G E A)
  concludes : List (PieceOf G) → (Effect G E A)

-- What the words mean that the reader looks back at: what an edge of a contour keeps beside its end, by what is in force (the dialects with
-- arcs have its bend, the others nothing); the standard aperture that an `AD` word defines, and its number; and the primitive that a word in
-- the body of a macro is.
pub record Meaning (E A : Type 0) : Type 0 where
  pub edge : Settings → Command → E
  pub aperture : List ℕ → Measure → Result (ℕ × A) ApertureFault
  pub primitive : List ℕ → Result (Option PlainPrimitive) MacroFault

-- What a command does, or how it is refused, by what is known before it: the table of commands that files are read by; and what its words mean.
pub record Profile (G E A W : Type 0) : Type 0 where
  pub does : Known G E A → Command → Result (Effect G E A) W
  pub means : Meaning E A

-- how a fault of an aperture's definition is refused
abbrev pub kind_of_aperture : ApertureFault → GerberKind
kind_of_aperture aperture.BadText = kind.BadWord
kind_of_aperture aperture.Hole = kind.Hole
kind_of_aperture aperture.Polygon = kind.Polygon
kind_of_aperture aperture.Macro = kind.Macro
kind_of_aperture aperture.OffGrid = kind.OffGrid
kind_of_aperture aperture.OutOfRange = kind.OutOfRange
kind_of_aperture aperture.Number = kind.BadWord

-- how a word that is broken is refused
abbrev pub kind_of_word : WordFault → GerberKind
kind_of_word word.LineBreakInWord = kind.LineBreakInWord
kind_of_word word.NotEnded = kind.NotEnded
kind_of_word word.PercentAmiss = kind.BadWord

-- another format was set
abbrev pub other_format : Option Format → Format → Bool
other_format None format = false
other_format (Some first) format = not (first.integers == format.integers && first.decimals == format.decimals)

-- what a definition defines, or its refusal
abbrev pub read : {A : Type 0} → Result (ℕ × A) ApertureFault → Result (ℕ × A) GerberKind
read (Ok definition) = Ok definition
read (Err fault) = Err (kind_of_aperture fault)

-- the aperture of this number is new, and there is room for it
abbrev pub number_judged : {A : Type 0} → (ℕ → Option (Tool A)) → ℕ → ℕ → Result (Unit {0}) GerberKind
number_judged defined definitions n = unless (is_some (defined n)) kind.ApertureTwice (unless (nat_le MOST_APERTURES definitions) kind.TooManyApertures (Ok tt))

abbrev pub define_as : {G E A : Type 0} → Known G E A → ℕ × A → Result (Effect G E A) GerberKind
define_as k made = unless (is_some (k.defined made.0)) kind.ApertureTwice (unless (nat_le MOST_APERTURES k.definitions) kind.TooManyApertures (Ok (makes made.0 (standard made.1))))

-- the row of a definition of a standard aperture (Gerber Layer Format Specification, 4.3)
abbrev pub define_by : {G E A : Type 0} → (List ℕ → Measure → Result (ℕ × A) ApertureFault) → Known G E A → List ℕ → Result (Effect G E A) GerberKind
define_by aperture k text = needed kind.MissingUnit k.settings.unit >>= λ unit. read (aperture text unit) >>= λ made. define_as k made

-- the operation of a word without `D` counts as `D01`
abbrev pub code_of : Option Code → Code
code_of None = Draw
code_of (Some code) = code

-- the last operation is `D01`
abbrev pub is_drawing : Option Code → Bool
is_drawing (Some Draw) = true
is_drawing other = false

-- a position, or how it is refused
abbrev pub gridded : Result ℤ GridFault → Result ℤ GerberKind
gridded (Ok u) = Ok u
gridded (Err grid.OffGrid) = Err kind.OffGrid
gridded (Err grid.OutOfRange) = Err kind.OutOfRange

-- where a coordinate leads from `here`
unfoldable pub coordinate : Format → Measure → ℤ → Option (List ℕ) → Result ℤ GerberKind
coordinate format unit here None = Ok here
coordinate format unit here (Some digits) = gridded (position_of (over_power digits format.decimals) unit)

-- where an operation word leads
unfoldable pub target : Settings → Option (List ℕ) → Option (List ℕ) → Result Spot GerberKind
target s x y = do
  format ← needed kind.MissingFormat s.format
  unit ← needed kind.MissingUnit s.unit
  to_x ← coordinate format unit s.at.x x
  to_y ← coordinate format unit s.at.y y
  Ok (record { x = to_x; y = to_y })

-- the aperture of a number, if there is one
abbrev pub lookup : {A : Type 0} → Option ℕ → (ℕ → Option (Tool A)) → Option (Tool A)
lookup None defined = None
lookup (Some n) defined = defined n

-- the current aperture
abbrev pub selected : {G E A : Type 0} → Known G E A → Option (Tool A)
selected k = lookup k.settings.selected k.defined

-- ---- Room

-- a figure, if there is room for one more piece
unfoldable pub room_for : {G E A : Type 0} → Known G E A → Option G → Result (Option G) GerberKind
room_for k None = Ok None
room_for k (Some figure) = unless (nat_le k.place.room.pieces (length k.pieces)) kind.TooManyPieces (Ok (Some figure))

-- the edges of the contour so far
abbrev pub edges_in : {E : Type 0} → Option (Outline E) → ℕ
edges_in None = 0
edges_in (Some o) = length o.legs

-- that many edges more are too many
abbrev pub exceed : {G E A : Type 0} → Handling G → Known G E A → ℕ → Bool
exceed h k more = nat_lt k.place.room.edges (edges_by h k.pieces + more)

-- a figure, if there is room for its edges
unfoldable pub edges_for : {G E A : Type 0} → Handling G → Known G E A → Option G → Result (Option G) GerberKind
edges_for h k None = Ok None
edges_for h k (Some figure) = unless (exceed h k (h.edges figure)) kind.TooManyVertices (Ok (Some figure))

-- what there is no room for, of so many pieces with so many edges in all
unfoldable pub lacks_room : {G E A : Type 0} → Handling G → Known G E A → ℕ → ℕ → Option GerberKind
lacks_room h k pieces edges =
    if pieces == 0 then None
    else (if nat_lt k.place.room.pieces (length k.pieces + pieces) then Some kind.TooManyPieces
    else (if exceed h k edges then Some kind.TooManyVertices
    else None))

-- figures, unless there is no room for something
abbrev pub room_or : {G : Type 0} → Option GerberKind → List G → Result (List G) GerberKind
room_or None figures = Ok figures
room_or (Some kind) figures = Err kind

-- figures, if there is room for all of them
abbrev pub room_for_all : {G E A : Type 0} → Handling G → Known G E A → List G → Result (List G) GerberKind
room_for_all h k figures = room_or (lacks_room h k (length figures) (sum_by h.edges figures)) figures

-- a `D01` in a region adds an edge to the contour
unfoldable pub extend_by : {G E A : Type 0} → Handling G → Known G E A → Spot → E → Result (Effect G E A) GerberKind
extend_by h k to e =
    unless (nat_le MOST_CONTOUR_EDGES (edges_in k.contour) || exceed h k (edges_in k.contour + 1)) kind.TooManyVertices (Ok (extends to e))

-- a figure, if there is one
abbrev pub listed : {G : Type 0} → Option G → List G
listed None = []
listed (Some figure) = figure ∷ []

-- how a fault of a step and repeat word is refused
abbrev pub kind_of_repeat : RepeatFault → GerberKind
kind_of_repeat stepping.BadText = kind.BadWord
kind_of_repeat stepping.OffGrid = kind.OffGrid
kind_of_repeat stepping.OutOfRange = kind.OutOfRange

-- the repeat that a word says, or its refusal
abbrev pub as_repeat : Result (Option Repeat) RepeatFault → Result (Option Repeat) GerberKind
as_repeat (Ok next) = Ok next
as_repeat (Err fault) = Err (kind_of_repeat fault)

-- the block that a step and repeat word opens; `SR` alone has no parameters
unfoldable pub next_block : Option Measure → List ℕ → Result (Option Repeat) GerberKind
next_block unit text =
    if is_word text (codes "SR") then Ok None
    else (needed kind.MissingUnit unit >>= λ unit. as_repeat (repeat_at text unit))

-- the room that the pieces before the open block leave
abbrev pub left_by : {G E A : Type 0} → Handling G → Known G E A → Room
left_by h k = record {
  pieces = k.place.room.pieces - k.start;
  edges = k.place.room.edges - edges_by h (take k.start k.pieces);
}

-- how a block that has no copies is refused
abbrev pub kind_of_copy : Refusal → GerberKind
kind_of_copy too_many_pieces = kind.TooManyPieces
kind_of_copy too_many_edges = kind.TooManyVertices
kind_of_copy out_of_range = kind.OutOfRange

-- the pieces before a block and then its copies, or their refusal
abbrev pub as_copies : {G : Type 0} → List (PieceOf G) → Result (List (PieceOf G)) Refusal → Result (List (PieceOf G)) GerberKind
as_copies before (Ok copies) = Ok (before ++ copies)
as_copies before (Err why) = Err (kind_of_copy why)

-- the pieces where a block ends, if one is open: its own are replaced by its copies
abbrev pub with_copies_by : {G E A : Type 0} → Handling G → Known G E A → Option Repeat → Result (List (PieceOf G)) GerberKind
with_copies_by h k None = Ok k.pieces
with_copies_by h k (Some block) = as_copies (take k.start k.pieces) (copies_by h block (left_by h k) (drop k.start k.pieces))

-- the pieces where the open block ends
unfoldable pub ended_block_by : {G E A : Type 0} → Handling G → Known G E A → Result (List (PieceOf G)) GerberKind
ended_block_by h k = with_copies_by h k k.settings.block

-- how a file's function names its layer: `L` and its decimal number, which has at most two digits
abbrev pub layer_text : ℕ → List ℕ
layer_text n = if nat_lt n 10 then 76 ∷ (48 + n) ∷ [] else 76 ∷ (48 + n / 10) ∷ (48 + n % 10) ∷ []

-- the file's function is copper of this layer (Gerber Layer Format Specification, 5.6.3)
abbrev pub is_of_layer : Option (List ℕ) → Option (List ℕ) → ℕ → Bool
is_of_layer function layer n = is_field function (codes "Copper") && is_field layer (layer_text n)

-- the file's end after its last word
abbrev pub is_finish : Command → Bool
is_finish finishes = true
is_finish other = false
