-- What a file that is read adds to the parts.
use Rattle.std.proofs.Common.{◌≡◌, ℕ, ◌+◌, ◌≤◌, List, length, All, sym, ap, subst, ◌++◌, arith}
use Rattle.std.proofs.lemmas.List.{length-append, length-map}
use Rattle.std.proofs.lemmas.List.Elements.{All-append}
use Rattle.board_shapes.specs.Pieces.{plain_piece, plain_pieces}
use Rattle.board_shapes.specs.Plain.{PlainBoard, PlainPiece}
use Rattle.board_shapes.specs.declared.TheConstants.{MOST_PIECES}
use Rattle.board_shapes.specs.declared.placed.Placed.{Placed}
use Rattle.board_shapes.specs.declared.placed.Room.{Room}
use Rattle.board_shapes.specs.declared.shape.Shape.{Shape}
use Rattle.xnc.specs.DrillFile as drill_file
use Rattle.board_shapes.specs.LawfulBoard.{IsLawfulBoard}
use Rattle.board_package.specs.Contents.{Reads}
use Rattle.board_package.specs.PackageBoard.{IsWithinLimits}
use Rattle.board_package.specs.Parts.{Has, IsLawfulParts, StandsOn, board_so_far, room_left, with_pieces}
use Rattle.board_package.specs.declared.entry.Entry.{Entry}
use Rattle.board_package.specs.declared.entry.Role.{Role}
use Rattle.board_package.specs.declared.entry.Role.TheVariants as role
use Rattle.board_package.specs.declared.parts.Parts.{Parts}

-- the pieces of a file have the room that is left
pub few_more : (pieces seen : List (Placed Shape)) (room : Room) (more : ℕ) → seen ≡ pieces → room ≡ room_left (plain_pieces seen) → length pieces ≤ MOST_PIECES → more ≤ room.pieces → length pieces + more ≤ MOST_PIECES
few_more pieces seen room more same left few within =
    let size = length-map seen plain_piece in
    let kept = ap length same in
    let most = ap (λ (r : Room). r.pieces) left in
    omega arith

-- a drill file that is read takes the board on
pub drill_reads : (e : Entry) (from to : ℕ) (bytes : List ℕ) (before after : PlainBoard) (room : Room) (pieces : List PlainPiece) → e.role ≡ role.Drill from to → room ≡ room_left before.pieces
    → drill_file.IsRead bytes (record { from = from; to = to; file = e.number; room = room.pieces }) pieces → after ≡ with_pieces before pieces → Reads e.role e.number bytes before after
drill_reads e from to bytes before after room pieces is left read made =
    subst (λ (x : Role). Reads x e.number bytes before after) (sym is) (pieces, subst (λ (q : Room). drill_file.IsRead bytes (record { from = from; to = to; file = e.number; room = q.pieces }) pieces) left read, made)

-- lawful parts with more pieces are lawful
pub added_lawful : {S : Type 0} (old new : Parts S) (more : List (Placed S)) → Has new (old.pieces.items ++ more) old.probes old.names old.layers → IsLawfulParts old → length old.pieces.items + length more ≤ MOST_PIECES → All (StandsOn old.layers) more → IsLawfulParts new
added_lawful {S} old new more has lawful few spans = record {
  some_layer = rw has.layers_are lawful.some_layer;
  few_layers = rw has.layers_are lawful.few_layers;
  few_pieces = rw has.pieces_are (omega (arith, length-append old.pieces.items more));
  few_probes = rw has.probes_are lawful.few_probes;
  few_names = rw has.names_are lawful.few_names;
  spans = rw (has.pieces_are, has.layers_are) (All-append (StandsOn old.layers) old.pieces.items more lawful.spans spans);
  known = rw (has.probes_are, has.names_are, has.layers_are) lawful.known;
}

-- a board of lawful parts is within its limits
pub within_limits : (parts : Parts Shape) (board : PlainBoard) → IsLawfulBoard board → IsLawfulParts parts → board ≡ board_so_far parts → IsWithinLimits board
within_limits parts board lawful few same = record {
  lawful = lawful;
  few_pieces = (let most = few.few_pieces in let size = length-map parts.pieces.items plain_piece in let count = ap (λ (b : PlainBoard). length b.pieces) same in omega arith);
  few_layers = (let most = few.few_layers in let count = ap (λ (b : PlainBoard). b.layers) same in omega arith);
}
