-- What the commands of a flattened text do.
use Rattle.std.proofs.Common.{◌≡◌, ℕ, ◌+◌, ◌*◌, ◌/◌, ◌<◌, ◌≤◌, nat_lt, Bool, true, false, cond, eqb, List, [], ◌∷◌, length, pos, Some, None, Ok, refl, ◌∙◌, arith}
use Rattle.std.proofs.lemmas.Bool.{eqb-true}
use Rattle.std.specs.Fmt.{signed_decimal}
use Rattle.std.proofs.lemmas.Bool.{lt-leb}
use borrow.Author.Tests.{le-ltb}
use Rattle.planar.specs.Plane.{IsPlaced}
use Rattle.planar.specs.declared.Spot.{Spot}
use Rattle.planar.proofs.Spots.{spot_same}
use Rattle.area_contact.specs.Contour.{end_from, IsContour}
use Rattle.board_shapes.specs.Figures.{round, filled}
use Rattle.lengths.specs.declared.decimal.Unit.TheVariants.{Mm}
use Rattle.apertures.specs.Definition.{aperture_at}
use Rattle.apertures.specs.declared.aperture.Aperture.{Aperture}
use Rattle.apertures.specs.declared.aperture.Aperture.TheVariants.{Circle}
use Rattle.regions.specs.Contours.{close_of}
use Rattle.gerber_reading.specs.Command.{no_bending, Command, formats, counts_in, defines, selects, operates, opens_region, closes_region, ends, finishes}
use Rattle.gerber_reading.specs.declared.command.Code.{Code}
use Rattle.gerber_reading.specs.declared.command.Code.TheVariants.{Draw, Move}
use Rattle.gerber_layer.specs.CommandEffects.{Known, stays, makes, performs, extends, closes, opens, leaves, concludes, selected, edges_of, edges_in, draw, closing, contour_closed, perform, perform_in_region, operate, leave, define, row, effect}
use Rattle.gerber_layer.specs.Tools.{Tool, standard}
use Rattle.macro_flatten.proofs.Operations.{seven, coordinate_is}
use Rattle.area_contact.specs.declared.TheConstants.{MOST_CONTOUR_EDGES}
use Rattle.gerber_reading.specs.declared.TheConstants.{MOST_APERTURES}
use Rattle.gerber_reading.specs.CommandEffects.{ended_block_by, extend_by, room_for, target}

-- the settings of the text are in force, and it has not ended
pub record IsSet (k : Known) : Type 0 where
  pub format : k.settings.format ≡ Some seven
  pub unit : k.settings.unit ≡ Some Mm
  pub block : k.settings.block ≡ None
  pub ended : k.settings.ended ≡ false

-- an operation at a spot
abbrev pub at_spot : Spot → Code → Command
at_spot to code = operates (Some (signed_decimal to.x)) (Some (signed_decimal to.y)) (Some code) no_bending

leads : (k : Known) (to : Spot) → IsSet k → IsPlaced to → target k.settings (Some (signed_decimal to.x)) (Some (signed_decimal to.y)) ≡ Ok to
unfolding target
leads k to s h = rw (s.format, s.unit, (coordinate_is to.x h.0).value k.settings.at.x, (coordinate_is to.y h.1).value k.settings.at.y) refl

operated : (k : Known) (to : Spot) (code : Code) → IsSet k → IsPlaced to → effect k (at_spot to code) ≡ cond k.settings.region (perform_in_region k code to) (perform k code to)
unfolding effect row operate
operated k to code s h = rw (leads k to s h, s.ended) refl

-- ---- Outside a region

not_none : (r : ℕ) → 1 ≤ r → eqb (2 * r) 0 ≡ false
not_none r some = by (eqb (2 * r) 0) refl
  where
    by : (b : Bool) → eqb (2 * r) 0 ≡ b → eqb (2 * r) 0 ≡ false
    by true e = let none : 2 * r ≡ 0 = eqb-true _ _ e in absurd (omega (arith, none, some))
    by false e = e

pub draws : (k : Known) (to : Spot) (r : ℕ) → IsSet k → IsPlaced to → k.settings.region ≡ false → selected k ≡ Some (standard (Circle (pos (2 * r)))) → 1 ≤ r → length k.pieces < k.place.room.pieces → effect k (at_spot to Draw) ≡ Ok (performs to (round (record { a = k.settings.at; b = to; r = pos r }) ∷ []))
unfolding perform draw room_for
draws k to r s h outside pen some room =
    let halved : 2 * r / 2 ≡ r = omega arith in
    operated k to Draw s h ∙ rw (outside, pen, not_none r some, lt-leb _ _ room, halved) refl

pub moves : (k : Known) (to : Spot) → IsSet k → IsPlaced to → k.settings.region ≡ false → effect k (at_spot to Move) ≡ Ok (performs to [])
unfolding perform
moves k to s h outside = operated k to Move s h ∙ rw outside refl

pub selects_one : (k : Known) (n : ℕ) (a : Tool) → IsSet k → k.defined n ≡ Some a → effect k (selects n) ≡ Ok stays
unfolding effect row
selects_one k n a s d = rw (s.ended, d) refl

-- ---- Regions

pub opens_one : (k : Known) → IsSet k → k.settings.region ≡ false → effect k opens_region ≡ Ok opens
unfolding effect row
opens_one k s outside = rw (s.ended, outside) refl

pub begins_at : (k : Known) (to : Spot) → IsSet k → IsPlaced to → k.settings.region ≡ true → k.contour ≡ None → effect k (at_spot to Move) ≡ Ok (closes to None)
unfolding perform_in_region closing close_of room_for
begins_at k to s h inside none = operated k to Move s h ∙ rw (inside, none) refl

pub extends_to : (k : Known) (to : Spot) → IsSet k → IsPlaced to → k.settings.region ≡ true → edges_in k.contour < MOST_CONTOUR_EDGES → edges_of k.pieces + (edges_in k.contour + 1) ≤ k.place.room.edges → effect k (at_spot to Draw) ≡ Ok (extends to tt)
unfolding perform_in_region extend_by
extends_to k to s h inside few room = operated k to Draw s h ∙ rw (inside, lt-leb _ _ few, le-ltb _ _ room) refl

contour_closes : (points : List Spot) → IsContour points → close_of points ≡ Ok (Some points)
unfolding close_of
contour_closes [] c = let few = c.enough in absurd (omega (arith, few))
contour_closes (a ∷ []) c = let few = c.enough in absurd (omega (arith, few))
contour_closes (a ∷ b ∷ rest) c =
    let few = c.enough in
    let closed : end_from b rest ≡ a = c.closed in
    let long : nat_lt (length rest) 2 ≡ false = le-ltb _ _ (omega (arith, few)) in
    rw (spot_same (end_from b rest) a closed, long) refl

pub leaves_one : (k : Known) (points : List Spot) → IsSet k → k.settings.region ≡ true → contour_closed k.contour ≡ close_of points → IsContour points → length k.pieces < k.place.room.pieces → effect k closes_region ≡ Ok (leaves (Some (filled points)))
unfolding effect row leave closing room_for
leaves_one k points s inside is c room = rw (s.ended, inside, is, contour_closes points c, lt-leb _ _ room) refl

-- ---- The head and the end

pub sets_format : (k : Known) → k.settings.ended ≡ false → k.settings.format ≡ None → effect k (formats seven) ≡ Ok stays
unfolding effect row
sets_format k on none = rw (on, none) refl

pub sets_unit : (k : Known) → k.settings.ended ≡ false → k.settings.unit ≡ None → effect k (counts_in Mm) ≡ Ok stays
unfolding effect row
sets_unit k on none = rw (on, none) refl

pub makes_one : (k : Known) (text : List ℕ) (n : ℕ) (a : Aperture) → IsSet k → aperture_at text Mm ≡ Ok (n, a) → k.defined n ≡ None → k.definitions < MOST_APERTURES → effect k (defines text) ≡ Ok (makes n (standard a))
unfolding effect row define
makes_one k text n a s is fresh few = rw (s.ended, s.unit, is, fresh, lt-leb _ _ few) refl

pub ends_all : (k : Known) → IsSet k → k.settings.region ≡ false → effect k ends ≡ Ok (concludes k.pieces)
unfolding effect row ended_block_by
ends_all k s outside = rw (s.ended, outside, s.block) refl

pub finishes_all : (k : Known) → k.settings.ended ≡ true → effect k finishes ≡ Ok stays
unfolding effect
finishes_all k over = rw over refl
