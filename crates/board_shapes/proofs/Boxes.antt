-- The common box has each piece's box in it.
use Rattle.std.proofs.Common.{◌≤ℤ◌, ◌≡◌, ◌↔◌, Bool, IsTrue, List, [], ◌∷◌, All, Some, None, arith, subst, sym}
use Rattle.std.proofs.lemmas.Int.{ints, clamps}
use Rattle.std.proofs.lemmas.List.Elements.{All-nil, All-cons, All-weaker}
use Rattle.planar.specs.declared.Frame.{Frame}
use Rattle.contact.specs.declared.Bounds.{Bounds}
use Rattle.contact.specs.Solid.{IsInside, joined}
use Rattle.board_shapes.specs.declared.shape.Shape.{Shape}
use Rattle.board_shapes.specs.declared.placed.Placed.{Placed}
use Rattle.board_shapes.specs.CommonBox.{box_around, common_box, FitsFrame, frame_over}
use Rattle.board_shapes.specs.Lawful.{IsInsideFrame}
use Rattle.board_shapes.specs.Pieces.{PlainPiece, plain_pieces}
use Rattle.board_shapes.specs.Figures.{figure_box}
use Rattle.board_shapes.specs.Shapes.{shape_box}

-- b lies within c
pub record LiesWithin (b c : Bounds) : Type 0 where
  pub left : c.left ≤ℤ b.left
  pub low : c.low ≤ℤ b.low
  pub right : b.right ≤ℤ c.right
  pub high : b.high ≤ℤ c.high

pub first_joined : (b c : Bounds) → LiesWithin b (joined b c)
first_joined b c = record { left = omega (arith, ints, clamps); low = omega (arith, ints, clamps); right = omega (arith, ints, clamps); high = omega (arith, ints, clamps) }

pub second_joined : (b c : Bounds) → LiesWithin c (joined b c)
second_joined b c = record { left = omega (arith, ints, clamps); low = omega (arith, ints, clamps); right = omega (arith, ints, clamps); high = omega (arith, ints, clamps) }

pub onward : (b c d : Bounds) → LiesWithin b c → LiesWithin c d → LiesWithin b d
onward b c d h k = record { left = omega (arith, ints, h.left, k.left); low = omega (arith, ints, h.low, k.low); right = omega (arith, ints, h.right, k.right); high = omega (arith, ints, h.high, k.high) }

grows : (b : Bounds) (pieces : List PlainPiece) → LiesWithin b (box_around b pieces)
grows b [] = record { left = omega (arith, ints); low = omega (arith, ints); right = omega (arith, ints); high = omega (arith, ints) }
grows b (p ∷ rest) = onward b (joined b (figure_box p.figure)) (box_around (joined b (figure_box p.figure)) rest) (first_joined b (figure_box p.figure)) (grows (joined b (figure_box p.figure)) rest)

around : (b : Bounds) (pieces : List (Placed Shape)) → All (λ p. LiesWithin (shape_box p.shape) (box_around b (plain_pieces pieces))) pieces
around b [] = All-nil (λ p. LiesWithin (shape_box p.shape) b)
around b (p ∷ rest) =
    let next : Bounds = joined b (shape_box p.shape) in
    All-cons (λ q. LiesWithin (shape_box q.shape) (box_around next (plain_pieces rest))) p rest (onward (shape_box p.shape) next (box_around next (plain_pieces rest)) (second_joined b (shape_box p.shape)) (grows next (plain_pieces rest))) (around next rest)

pub none_inside : (pieces : List (Placed Shape)) (f : Frame) → common_box (plain_pieces pieces) ≡ None → All (IsInsideFrame f) pieces
none_inside [] f e = All-nil (IsInsideFrame f)
none_inside (p ∷ rest) f e = cc

pub all_inside : (pieces : List (Placed Shape)) (b : Bounds) (f : Frame) → common_box (plain_pieces pieces) ≡ Some b → FitsFrame b → f ≡ frame_over (Some b) → All (IsInsideFrame f) pieces
all_inside [] b f e fits corner = cc
all_inside (p ∷ rest) b f e fits corner = All-weaker (λ q. LiesWithin (shape_box q.shape) b) (IsInsideFrame f) (λ q h. inside q h) (p ∷ rest) (All-cons (λ q. LiesWithin (shape_box q.shape) b) p rest first others)
  where
    same : box_around (shape_box p.shape) (plain_pieces rest) ≡ b
    same = cc

    first : LiesWithin (shape_box p.shape) b
    first = subst (λ (c : Bounds). LiesWithin (shape_box p.shape) c) same (grows (shape_box p.shape) (plain_pieces rest))

    others : All (λ q. LiesWithin (shape_box q.shape) b) rest
    others = subst (λ (c : Bounds). All (λ q. LiesWithin (shape_box q.shape) c) rest) same (around (shape_box p.shape) rest)

    inside : (q : Placed Shape) → LiesWithin (shape_box q.shape) b → IsInsideFrame f q
    inside q h = subst (λ (g : Frame). IsInsideFrame g q) (sym corner) ((h.left, omega (arith, ints, h.right, fits.across)), (h.low, omega (arith, ints, h.high, fits.up)))

-- a box lies in the frame from its own corner exactly where its sides are short enough
pub inside_fits : (b : Bounds) (f : Frame) (t : Bool) → f ≡ frame_over (Some b) → IsTrue t ↔ IsInside b f → IsTrue t ↔ FitsFrame b
inside_fits b f t e h =
    let own = subst (λ (g : Frame). IsTrue t ↔ IsInside b g) e h in
    (λ told. fits (own.0 told), λ short. own.1 (inside short))
  where
    fits : IsInside b (frame_over (Some b)) → FitsFrame b
    fits (across, up) = record { across = omega (arith, ints, across.1); up = omega (arith, ints, up.1) }

    inside : FitsFrame b → IsInside b (frame_over (Some b))
    inside short = ((omega (arith, ints), omega (arith, ints, short.across)), (omega (arith, ints), omega (arith, ints, short.up)))
