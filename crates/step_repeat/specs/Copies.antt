-- The copies of a block.
use Rattle.std.specs.Prelude.{◌≡◌, ℕ, ◌+◌, ◌*◌, Bool, true, false, nat_lt, if◌then◌else◌, List, ◌++◌, length, map, sum_by, ℤ, pos, ◌*ℤ◌, Option, Some, None, Result, Ok, Err}
use Rattle.std.specs.List.{flat_map, list_all, range_with_len}
use Rattle.board_shapes.specs.declared.placed.Room.{Room}
use Rattle.board_shapes.specs.Pieces.{PieceOf, PlainPiece}
use Rattle.board_shapes.specs.declared.placed.Placed.{Placed}
use Rattle.step_repeat.specs.Figures.{Handling, shape_handling}
use Rattle.step_repeat.specs.declared.repeat.Repeat.{Repeat}
use Rattle.step_repeat.specs.declared.fault.CopyFault.{CopyFault}
use Rattle.step_repeat.specs.declared.fault.CopyFault.TheVariants.{TooManyPieces, TooManyEdges, OutOfRange, NoMemory}

-- a piece of a figure seen as plain data, and each of a list
abbrev pub piece_by : {F G : Type 0} → (F → G) → Placed F → PieceOf G
piece_by plain p = record { figure = plain p.shape; top = p.top; bottom = p.bottom; origin = p.origin }

abbrev pub pieces_by : {F G : Type 0} → (F → G) → List (Placed F) → List (PieceOf G)
pieces_by plain pieces = map (piece_by plain) pieces

-- how many edges the pieces count for the room
abbrev pub edges_by : {G : Type 0} → Handling G → List (PieceOf G) → ℕ
edges_by h pieces = sum_by (λ p. h.edges p.figure) pieces

-- the piece shifted, as that copy, and each of a block
abbrev pub shifted_piece : {G : Type 0} → Handling G → ℤ → ℤ → ℕ → PieceOf G → PieceOf G
shifted_piece h dx dy copy p = record p { figure = h.shifted dx dy p.figure; origin = record (p.origin) { copy = copy } }

abbrev pub moved_block : {G : Type 0} → Handling G → ℤ → ℤ → ℕ → List (PieceOf G) → List (PieceOf G)
moved_block h dx dy copy block = map (shifted_piece h dx dy copy) block

-- the block in this column and this row, counted from 0
abbrev pub block_at : {G : Type 0} → Handling G → Repeat → List (PieceOf G) → ℕ → ℕ → List (PieceOf G)
block_at h r block column row = moved_block h (pos column *ℤ r.dx) (pos row *ℤ r.dy) (column * r.up + row) block

-- a column, row by row
abbrev pub column_of : {G : Type 0} → Handling G → Repeat → List (PieceOf G) → ℕ → List (PieceOf G)
column_of h r block column = flat_map (block_at h r block column) (range_with_len 0 r.up)

-- the pieces that stand for a block (Gerber Layer Format Specification, step and repeat): column by column, and in each row
-- by row
unfoldable pub copies_of : {G : Type 0} → Handling G → Repeat → List (PieceOf G) → List (PieceOf G)
copies_of h r block = flat_map (column_of h r block) (range_with_len 0 r.across)

-- each end or corner of the piece is at most 1 m from 0 in x and y
abbrev pub is_placed_piece : {G : Type 0} → Handling G → PieceOf G → Bool
is_placed_piece h p = h.within p.figure

-- and of each piece
abbrev pub are_placed : {G : Type 0} → Handling G → List (PieceOf G) → Bool
are_placed h pieces = list_all (is_placed_piece h) pieces

-- why a block has no copies
pub data Refusal : Type 0 where
  too_many_pieces : Refusal
  too_many_edges : Refusal
  out_of_range : Refusal

-- what the room has no place for, pieces before edges
unfoldable pub room_fault : {G : Type 0} → Handling G → Repeat → Room → List (PieceOf G) → Option Refusal
room_fault h r room block =
    if nat_lt room.pieces (r.across * r.up * length block) then Some too_many_pieces
    else (if nat_lt room.edges (r.across * r.up * edges_by h block) then Some too_many_edges
    else None)

-- the copies, unless they have no room or one leaves the range of 1 m
abbrev pub placed_copies : {G : Type 0} → Handling G → List (PieceOf G) → Option Refusal → Result (List (PieceOf G)) Refusal
placed_copies h copies (Some why) = Err why
placed_copies h copies None = if are_placed h copies then Ok copies else Err out_of_range

-- the copies of a block, or why it has none; want of room is told before the range
unfoldable pub copies_by : {G : Type 0} → Handling G → Repeat → Room → List (PieceOf G) → Result (List (PieceOf G)) Refusal
copies_by h r room block = placed_copies h (copies_of h r block) (room_fault h r room block)

-- of shapes
abbrev pub copies_at : Repeat → Room → List PlainPiece → Result (List PlainPiece) Refusal
copies_at r room block = copies_by shape_handling r room block

-- how a call refuses then
abbrev pub refused_as : Refusal → CopyFault
refused_as too_many_pieces = TooManyPieces
refused_as too_many_edges = TooManyEdges
refused_as out_of_range = OutOfRange

-- the fault is that of the copies, unless memory is wanted
abbrev pub IsCopyFault : {G : Type 0} → Result (List (PieceOf G)) Refusal → CopyFault → Type 0
IsCopyFault copies TooManyPieces = copies ≡ Err too_many_pieces
IsCopyFault copies TooManyEdges = copies ≡ Err too_many_edges
IsCopyFault copies OutOfRange = copies ≡ Err out_of_range
IsCopyFault copies NoMemory = Unit {0}

-- More was added at the end, each piece within 1 m; or some piece of it is not, or memory is wanted.
abbrev pub Adds : {G : Type 0} → Handling G → List (PieceOf G) → Result (Unit {0}) CopyFault → List (PieceOf G) → List (PieceOf G) → Type 0
Adds h old (Ok done) new more = (new ≡ old ++ more) × (are_placed h more ≡ true)
Adds h old (Err TooManyPieces) new more = ⊥
Adds h old (Err TooManyEdges) new more = ⊥
Adds h old (Err OutOfRange) new more = are_placed h more ≡ false
Adds h old (Err NoMemory) new more = Unit {0}
