-- What parts are, seen by a function of each piece.
use Rattle.std.proofs.Common.{◌≡◌, ℕ, List, [], ◌++◌, map, refl}
use Rattle.std.proofs.lemmas.List.{map-append}
use Rattle.board_shapes.specs.Pieces.{PlainPiece, plain_piece, plain_pieces}
use Rattle.board_shapes.specs.Plain.{PlainBoard}
use Rattle.board_shapes.specs.declared.placed.Placed.{Placed}
use Rattle.board_shapes.specs.declared.probe.Probe.{Probe}
use Rattle.board_shapes.specs.declared.shape.Shape.{Shape}
use Rattle.board_package.specs.Parts.{Has, board_so_far, empty_board, with_pieces}
use Rattle.board_package.specs.declared.parts.Parts.{Parts}

pub seen : {S Q B : Type 0} (whole : List Q → List Probe → List (List ℕ) → ℕ → B) (each : Placed S → Q) (p : Parts S) (front pieces : List (Placed S)) (probes : List Probe) (names : List (List ℕ)) (layers : ℕ) → Has p (front ++ pieces) probes names layers
    → whole (map each p.pieces.items) p.probes p.names p.layers ≡ whole (map each front ++ map each pieces) probes names layers
seen whole each p front pieces probes names layers h = rw (h.pieces_are, h.probes_are, h.names_are, h.layers_are, map-append each front pieces) refl

-- ---- As a board

abbrev board_of : List PlainPiece → List Probe → List (List ℕ) → ℕ → PlainBoard
board_of pieces probes names layers = record { pieces = pieces; probes = probes; names = names; layers = layers }

pub is_empty : (p : Parts Shape) (layers : ℕ) → Has p [] [] [] layers → board_so_far p ≡ empty_board layers
is_empty p layers h = seen board_of plain_piece p [] [] [] [] layers h

pub has_more : (old new : Parts Shape) (pieces : List (Placed Shape)) → Has new (old.pieces.items ++ pieces) old.probes old.names old.layers → board_so_far new ≡ with_pieces (board_so_far old) (plain_pieces pieces)
has_more old new pieces h = seen board_of plain_piece new old.pieces.items pieces old.probes old.names old.layers h
