-- The common box of grown pieces has each grown piece's box in it.
use Rattle.std.proofs.Common.{ℤ, List, [], ◌∷◌, All, Some, None, arith}
use Rattle.std.proofs.lemmas.Int.{ints}
use Rattle.std.proofs.lemmas.List.Elements.{All-nil, All-cons, All-weaker}
use Rattle.contact.specs.declared.Bounds.{Bounds}
use Rattle.contact.specs.Solid.{IsInside, joined}
use Rattle.board_shapes.specs.CommonBox.{Fits, FitsFrame, frame_over}
use Rattle.board_shapes.specs.Pieces.{PlainPiece}
use Rattle.board_shapes.proofs.Boxes.{LiesWithin, onward, first_joined, second_joined}
use Rattle.gaps.specs.GrownBox.{grown_around, grown_box, grown_common}

grows : (g : ℤ) (b : Bounds) (pieces : List PlainPiece) → LiesWithin b (grown_around g b pieces)
grows g b [] = record { left = omega (arith, ints); low = omega (arith, ints); right = omega (arith, ints); high = omega (arith, ints) }
grows g b (p ∷ rest) = onward b (joined b (grown_box g p)) (grown_around g (joined b (grown_box g p)) rest) (first_joined b (grown_box g p)) (grows g (joined b (grown_box g p)) rest)

around : (g : ℤ) (b : Bounds) (pieces : List PlainPiece) → All (λ p. LiesWithin (grown_box g p) (grown_around g b pieces)) pieces
around g b [] = All-nil (λ p. LiesWithin (grown_box g p) b)
around g b (p ∷ rest) =
    let next : Bounds = joined b (grown_box g p) in
    All-cons (λ q. LiesWithin (grown_box g q) (grown_around g next rest)) p rest (onward (grown_box g p) next (grown_around g next rest) (second_joined b (grown_box g p)) (grows g next rest)) (around g next rest)

within : (b c : Bounds) → FitsFrame c → LiesWithin b c → IsInside b (frame_over (Some c))
within b c fits h = ((h.left, omega (arith, ints, h.right, fits.across)), (h.low, omega (arith, ints, h.high, fits.up)))

-- where the common box fits, each grown piece lies in the frame over it
pub all_grown : (g : ℤ) (pieces : List PlainPiece) → Fits (grown_common g pieces) → All (λ p. IsInside (grown_box g p) (frame_over (grown_common g pieces))) pieces
all_grown g [] fits = All-nil (λ p. IsInside (grown_box g p) (frame_over None))
all_grown g (p ∷ rest) fits =
    let all : Bounds = grown_around g (grown_box g p) rest in
    All-weaker (λ q. LiesWithin (grown_box g q) all) (λ q. IsInside (grown_box g q) (frame_over (Some all))) (λ q h. within (grown_box g q) all fits h) (p ∷ rest)
    (All-cons (λ q. LiesWithin (grown_box g q) all) p rest (grows g (grown_box g p) rest) (around g (grown_box g p) rest))
