-- The copper and the holes of a made board fit in a frame.
use Rattle.std.proofs.Common.{ℕ, zero, suc, ◌+◌, ◌*◌, ◌<◌, ◌≤◌, ◌≤ℤ◌, Bool, true, false, if◌then◌else◌, List, [], ◌∷◌, ◌++◌, map, ℤ, pos, arith}
use Rattle.std.proofs.lemmas.Int.{clamps, ints}
use Rattle.std.specs.Prelude.{◌+ℤ◌}
use Rattle.area_contact.specs.Contour.{area_box, box_of_spot}
use Rattle.board_maker.specs.MadeBoard.{column, is_bridged, is_broken, row}
use Rattle.board_maker.specs.declared.files.Part.{Part}
use Rattle.board_maker.specs.declared.files.Part.TheVariants.{Top, Bottom, Holes, Points}
use Rattle.board_shapes.specs.CommonBox.{Fits, FitsFrame, box_around, common_box}
use Rattle.board_shapes.specs.Figures.{Figure, figure_box}
use Rattle.board_shapes.specs.Pieces.{PlainPiece}
use Rattle.board_shapes.specs.Rectangles.{lower, rectangle, upper}
use Rattle.contact.specs.Round.{box_of}
use Rattle.contact.specs.Solid.{joined}
use Rattle.contact.specs.declared.Bounds.{Bounds}
use Rattle.planar.specs.declared.Spot.{Spot}
use Rattle.made_files.specs.MadeFiles.{beside, bore, bores, cell_at, copper, copper_of, next_to, square_pad, track_between}

-- a box between -10 mm and 260 mm
pub record IsNear (b : Bounds) : Type 0 where
  left : pos 0 ≤ℤ (b.left +ℤ pos 100_000_000)
  low : pos 0 ≤ℤ (b.low +ℤ pos 100_000_000)
  right : b.right ≤ℤ pos 2_600_000_000
  high : b.high ≤ℤ pos 2_600_000_000

-- a place of a made board: between 0 and 250 mm
record IsOver (p : Spot) : Type 0 where
  left : pos 0 ≤ℤ p.x
  low : pos 0 ≤ℤ p.y
  right : p.x ≤ℤ pos 2_500_000_000
  high : p.y ≤ℤ pos 2_500_000_000

near_joined : (b c : Bounds) → IsNear b → IsNear c → IsNear (joined b c)
near_joined b c h k = record {
  left = omega (arith, ints, clamps, h.left, k.left);
  low = omega (arith, ints, clamps, h.low, k.low);
  right = omega (arith, ints, clamps, h.right, k.right);
  high = omega (arith, ints, clamps, h.high, k.high);
}

near_round : (a b : Spot) (r : ℤ) → IsOver a → IsOver b → pos 0 ≤ℤ r → r ≤ℤ pos 5_000_000 → IsNear (box_of a b r)
near_round a b r h k low high = record {
  left = omega (arith, ints, clamps, h.left, k.left);
  low = omega (arith, ints, clamps, h.low, k.low);
  right = omega (arith, ints, clamps, h.right, k.right);
  high = omega (arith, ints, clamps, h.high, k.high);
}

-- a corner of the square pad
record IsCorner (p : Spot) : Type 0 where
  left : pos 0 ≤ℤ (p.x +ℤ pos 4_000_000)
  low : pos 0 ≤ℤ (p.y +ℤ pos 4_000_000)
  right : p.x ≤ℤ pos 2_504_000_000
  high : p.y ≤ℤ pos 2_504_000_000

near_spot : (p : Spot) → IsCorner p → IsNear (box_of_spot p)
near_spot p h = record {
  left = omega (arith, ints, h.left);
  low = omega (arith, ints, h.low);
  right = omega (arith, ints, h.right);
  high = omega (arith, ints, h.high);
}

near_corners : (low high : Spot) → IsCorner low → IsCorner high → IsNear (area_box (rectangle low high))
near_corners low high h k =
    let right : Spot = record { x = high.x; y = low.y } in
    let left : Spot = record { x = low.x; y = high.y } in
    let first = near_spot low h in
    let second = near_spot right (record { left = k.left; low = h.low; right = k.right; high = h.high }) in
    let third = near_spot high k in
    let fourth = near_spot left (record { left = h.left; low = k.low; right = h.right; high = k.high }) in
    let two : Bounds = joined (box_of_spot low) (box_of_spot right) in
    let three : Bounds = joined two (box_of_spot high) in
    let four : Bounds = joined three (box_of_spot left) in
    near_joined four (box_of_spot low) (near_joined three (box_of_spot left) (near_joined two (box_of_spot high) (near_joined (box_of_spot low) (box_of_spot right) first second) third) fourth) first

near_square : (p : Spot) → IsOver p → IsNear (figure_box (square_pad p))
near_square p h = near_corners (lower p 8_000_000 8_000_000) (upper p 8_000_000 8_000_000)
    (record { left = omega (arith, ints, h.left); low = omega (arith, ints, h.low); right = omega (arith, ints, h.right); high = omega (arith, ints, h.high) })
    (record { left = omega (arith, ints, h.left); low = omega (arith, ints, h.low); right = omega (arith, ints, h.right); high = omega (arith, ints, h.high) })

-- ---- Every figure

abbrev pub AreNear : List Figure → Type 0
AreNear [] = Unit {0}
AreNear (f ∷ fs) = IsNear (figure_box f) × AreNear fs

pub near_both : (fs gs : List Figure) → AreNear fs → AreNear gs → AreNear (fs ++ gs)
near_both [] gs h k = k
near_both (f ∷ fs) gs h k = (h.0, near_both fs gs h.1 k)

near_if : (b : Bool) (fs gs : List Figure) → AreNear fs → AreNear gs → AreNear (if b then fs else gs)
near_if true fs gs h k = h
near_if false fs gs h k = k

over_is : (x y : ℕ) → x ≤ 2_500_000_000 → y ≤ 2_500_000_000 → IsOver (record { x = pos x; y = pos y })
over_is x y h k = record { left = omega (arith, ints); low = omega (arith, ints); right = omega (arith, ints, h); high = omega (arith, ints, k) }

over_cell : (i : ℕ) → i < 10_000 → IsOver (cell_at i)
over_cell i low = over_is (25_000_000 * column i) (25_000_000 * row i) (omega arith) (omega (arith, low))

over_beside : (i : ℕ) → i < 10_000 → IsOver (beside i)
over_beside i low = over_is (25_000_000 * column i + 12_000_000) (25_000_000 * row i) (omega arith) (omega (arith, low))

over_next : (i : ℕ) → i < 10_000 → IsOver (next_to i)
over_next i low = over_is (25_000_000 * column i + 25_000_000) (25_000_000 * row i) (omega arith) (omega (arith, low))

near_stroke : (a b : Spot) (r : ℕ) → r ≤ 5_000_000 → IsOver a → IsOver b → IsNear (box_of a b (pos r))
near_stroke a b r few h k = near_round a b (pos r) h k (omega (arith, ints)) (omega (arith, ints, few))

near_cell : (part : Part) (seed size i : ℕ) → i < 10_000 → AreNear (copper_of part seed size i)
near_cell Top seed size i low =
    let at = over_cell i low in
    let aside = over_beside i low in (
      near_stroke (cell_at i) (cell_at i) _ (omega arith) at at,
      (
        near_square (beside i) aside,
        near_if (is_broken seed i) [] (track_between (cell_at i) (beside i) ∷ []) tt (near_stroke (cell_at i) (beside i) _ (omega arith) at aside, tt),
      ),
    )
near_cell Bottom seed size i low =
    let at = over_cell i low in (
      near_stroke (cell_at i) (cell_at i) _ (omega arith) at at,
      near_if (is_bridged seed size i) (track_between (cell_at i) (next_to i) ∷ []) [] (near_stroke (cell_at i) (next_to i) _ (omega arith) at (over_next i low), tt) tt,
    )
near_cell Holes seed size i low = tt
near_cell Points seed size i low = tt

pub near_copper : (part : Part) (seed size n : ℕ) → n ≤ 10_000 → AreNear (copper part seed size n)
near_copper part seed size zero few = tt
near_copper part seed size (suc i) few = near_both (copper part seed size i) (copper_of part seed size i) (near_copper part seed size i (omega (arith, few))) (near_cell part seed size i (omega (arith, few)))

pub near_bores : (n : ℕ) → n ≤ 10_000 → AreNear (bores n)
near_bores zero few = tt
near_bores (suc i) few = near_both (bores i) (bore i ∷ []) (near_bores i (omega (arith, few))) (near_stroke (cell_at i) (cell_at i) _ (omega arith) (over_cell i (omega (arith, few))) (over_cell i (omega (arith, few))), tt)

-- ---- The frame

near_around : (b : Bounds) (pieces : List PlainPiece) → IsNear b → AreNear (map (λ p. p.figure) pieces) → IsNear (box_around b pieces)
near_around b [] h k = h
near_around b (p ∷ rest) h k = near_around (joined b (figure_box p.figure)) rest (near_joined b (figure_box p.figure) h k.0) k.1

fits_near : (b : Bounds) → IsNear b → FitsFrame b
fits_near b h = record { across = omega (arith, ints, h.left, h.right); up = omega (arith, ints, h.low, h.high) }

-- pieces near the board have a frame
pub near_fits : (pieces : List PlainPiece) → AreNear (map (λ p. p.figure) pieces) → Fits (common_box pieces)
near_fits [] h = tt
near_fits (p ∷ rest) h = fits_near (box_around (figure_box p.figure) rest) (near_around (figure_box p.figure) rest h.0 h.1)
