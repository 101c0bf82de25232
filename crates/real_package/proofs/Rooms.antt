-- The pieces of a file have the room that is left.
use Rattle.std.proofs.Common.{◌≡◌, ℕ, ◌+◌, ◌≤◌, List, length, ap, sym, ◌∙◌, arith}
use Rattle.std.proofs.lemmas.List.{length-map}
use Rattle.real_copper.specs.Shapes.{plain_real, plain_reals}
use Rattle.board_shapes.specs.Pieces.{plain_piece, plain_pieces}
use Rattle.board_shapes.specs.declared.TheConstants.{MOST_PIECES}
use Rattle.board_shapes.specs.declared.placed.Placed.{Placed}
use Rattle.board_shapes.specs.declared.placed.Room.{Room}
use Rattle.board_shapes.specs.declared.shape.Shape.{Shape}
use Rattle.real_shapes.specs.declared.RealShape.{RealShape}
use Rattle.real_package.specs.RealBoards.{as_real, as_reals, room_left}

pub few_more : (pieces seen : List (Placed RealShape)) (room : Room) (more : ℕ) → seen ≡ pieces → room ≡ room_left (plain_reals seen) → length pieces ≤ MOST_PIECES → more ≤ room.pieces → length pieces + more ≤ MOST_PIECES
few_more pieces seen room more same left few within =
    let size = length-map seen plain_real in
    let kept = ap length same in
    let most = ap (λ (r : Room). r.pieces) left in
    omega arith

-- there are as many real pieces as figures
pub as_many : (figures : List (Placed Shape)) (reals : List (Placed RealShape)) → plain_reals reals ≡ as_reals (plain_pieces figures) → length reals ≡ length figures
as_many figures reals same = sym (length-map reals plain_real) ∙ ap length same ∙ length-map (plain_pieces figures) as_real ∙ length-map figures plain_piece
