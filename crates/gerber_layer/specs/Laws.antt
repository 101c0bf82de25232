-- Laws of copper files: what the contour and the pieces before a block are by looking back over the commands, and that a file
-- that is cut off is refused.
use Rattle.std.specs.Prelude.{◌≡◌, ℕ, ◌≤◌, Bool, true, false, if◌then◌else◌, List, [], ◌∷◌, ◌++◌, length, map, take, drop}
use Rattle.planar.specs.declared.Spot.{Spot}
use Rattle.file_reading.specs.Reading.{Clean}
use Rattle.gerber_reading.specs.Command.{Command, opens_region, operates, repeats}
use Rattle.gerber_reading.specs.declared.command.Code.{Code}
use Rattle.gerber_reading.specs.declared.command.Code.TheVariants.{Move}
use Rattle.gerber_reading.specs.declared.kind.GerberKind.TheVariants as kind
use Rattle.gerber_layer.specs.declared.macro_kind.FlattenKind.{FlattenKind}
use Rattle.gerber_layer.specs.declared.macro_kind.FlattenKind.TheVariants.{Gerber}
use Rattle.file_reading.specs.Kinds.{HaveOwnNumbers}
use Rattle.gerber_reading.specs.Kinds.{row_of}
use Rattle.gerber_layer.specs.MacroKinds.{flatten_row}
use Rattle.gerber_layer.specs.CommandEffects.{Place, code_of, exact_meaning, is_drawing}
use Rattle.gerber_reading.specs.Settings.{code_in, contour_before, point_before, region_open, spots_of}
use Rattle.gerber_layer.specs.Image.{effect_before, image_of, pieces_of}
pub use Rattle.gerber_reading.specs.Laws.{EndsAtBy, PrefixesAreRefusedBy}
use Rattle.gerber_layer.specs.Layer.{standard}
use Rattle.gerber_layer.specs.MacroLayer.{flat_place, with_macros}

-- ---- The contour by looking back (Gerber Layer Format Specification, 4.10)

-- a `D02`
abbrev pub is_move : Code → Bool
is_move Move = true
is_move other = false

-- a command that begins a contour anew: the opening of a region, or a move
abbrev pub begins_contour : Command → Bool
begins_contour opens_region = true
begins_contour (operates x y code b) = is_move (code_of code)
begins_contour other = false

-- the commands since the later of the last opening of a region and the last move, of which the last is first
abbrev pub since_begun : List Command → List Command
since_begun [] = []
since_begun (c ∷ earlier) = if begins_contour c then [] else c ∷ since_begun earlier

-- the history up to that one
abbrev pub up_to_begun : List Command → List Command
up_to_begun [] = []
up_to_begun (c ∷ earlier) = if begins_contour c then c ∷ earlier else up_to_begun earlier

-- the histories that end with each draw among these commands, behind those before; that of the first draw is first
abbrev pub draws_in : List Command → List Command → List (List Command)
draws_in [] before = []
draws_in (c ∷ since) before = draws_in since before ++ (if is_drawing (code_in c) then (c ∷ since ++ before) ∷ [] else [])

-- the current point before the first draw, and then where each leads
abbrev pub points_along : List (List Command) → List Spot
points_along [] = []
points_along (first ∷ others) = point_before (drop 1 first) ∷ map point_before (first ∷ others)

-- In an open region the contour that the next command may close is that of the draws since it was begun.
abbrev pub LooksBackToItsContour : List Command → Type 0
LooksBackToItsContour earlier = region_open earlier ≡ true → spots_of (contour_before exact_meaning.edge earlier) ≡ points_along (draws_in (since_begun earlier) (up_to_begun earlier))

-- ---- The pieces before a block by looking back (Gerber Layer Format Specification, 4.12)

-- a step and repeat word
abbrev pub is_repeat : Command → Bool
is_repeat (repeats text) = true
is_repeat other = false

-- the history up to the beginning of the block: the last step and repeat word
abbrev pub up_to_block : List Command → List Command
up_to_block [] = []
up_to_block (c ∷ earlier) = if is_repeat c then c ∷ earlier else up_to_block earlier

-- Before the block stand as many pieces as the history up to its beginning makes, and they are these.
pub record AreBeforeBlock (p : Place) (earlier : List Command) : Type 0 where
  pub counted : (image_of p earlier).start ≡ length (pieces_of p (up_to_block earlier))
  pub pieces : take (image_of p earlier).start (pieces_of p earlier) ≡ pieces_of p (up_to_block earlier)

-- Where no command has a fault, the pieces before the block are those of the history up to its beginning.
abbrev pub LooksBackToItsBlock : Place → List Command → Type 0
LooksBackToItsBlock p earlier = Clean (effect_before p) earlier → AreBeforeBlock p earlier

-- ---- A file that is cut off

-- by the standard apertures alone, and with macros
abbrev pub PrefixesAreRefused : List ℕ → Place → Type 0
PrefixesAreRefused file p = PrefixesAreRefusedBy standard kind.NotEnded file p

abbrev pub MacroPrefixesAreRefused : List ℕ → Type 0
MacroPrefixesAreRefused file = PrefixesAreRefusedBy with_macros (Gerber kind.NotEnded) file flat_place

-- ---- Kinds of refusal

-- Each kind of both tables of copper files has a number of its own, from 1 to 37; those without macros keep theirs where there may
-- be some.
abbrev pub KindsHaveOwnNumbers : Type 0
KindsHaveOwnNumbers = HaveOwnNumbers flatten_row × HaveOwnNumbers row_of × ((a : FlattenKind) → (1 ≤ (flatten_row a).number) × ((flatten_row a).number ≤ 37))
