-- What the files of a package give, one after another.
use Rattle.std.specs.Prelude.{◌≡◌, ℕ, ◌-◌, ◌*◌, ◌≤◌, List, [], ◌++◌, length, All}
use Rattle.board_shapes.specs.Lawful.{IsProbe, IsSpan}
use Rattle.board_shapes.specs.Pieces.{edges_in}
use Rattle.board_shapes.specs.Plain.{PlainBoard, PlainPiece, plain_parts}
use Rattle.board_shapes.specs.declared.placed.Placed.{Placed}
use Rattle.board_shapes.specs.declared.placed.Room.{Room}
use Rattle.board_shapes.specs.declared.probe.Probe.{Probe}
use Rattle.board_shapes.specs.declared.shape.Shape.{Shape}
use Rattle.board_package.specs.declared.parts.Parts.{Parts}
use Rattle.board_package.specs.declared.parts.TheConstants.{MOST_EDGES}
use Rattle.board_shapes.specs.declared.TheConstants.{MOST_LAYERS, MOST_PIECES}
use Rattle.ipc356_records.specs.declared.TheConstants.{MOST_RECORDS}

-- a board of so many layers with nothing on it
abbrev pub empty_board : ℕ → PlainBoard
empty_board layers = record { pieces = []; probes = []; names = []; layers = layers }

-- the board with more pieces behind its own
abbrev pub with_pieces : PlainBoard → List PlainPiece → PlainBoard
with_pieces b pieces = record { pieces = b.pieces ++ pieces; probes = b.probes; names = b.names; layers = b.layers }

-- the pieces and edges that may still come behind so many: a board has at most MOST_PIECES pieces, and their contours MOST_EDGES edges
abbrev pub room_for : ℕ → ℕ → Room
room_for pieces edges = record { pieces = MOST_PIECES - pieces; edges = MOST_EDGES - edges }

abbrev pub room_left : List PlainPiece → Room
room_left pieces = room_for (length pieces) (edges_in pieces)

-- the board of what the files so far give
abbrev pub board_so_far : Parts Shape → PlainBoard
board_so_far p = plain_parts p.pieces.items p.probes p.names p.layers

-- these are the parts
pub record Has {S : Type 0} (p : Parts S) (pieces : List (Placed S)) (probes : List Probe) (names : List (List ℕ)) (layers : ℕ) : Type 0 where
  pub pieces_are : p.pieces.items ≡ pieces
  pub probes_are : p.probes ≡ probes
  pub names_are : p.names ≡ names
  pub layers_are : p.layers ≡ layers

-- the piece is on layers of the board
abbrev pub StandsOn : {S : Type 0} → ℕ → Placed S → Type 0
StandsOn layers p = IsSpan layers p.top p.bottom

-- 1 to MOST_LAYERS layers, with each piece on them; at most as many pieces, test points and names as a package may give; each test point with one of the names, on
-- one of the layers, within one metre
pub record IsLawfulParts {S : Type 0} (p : Parts S) : Type 0 where
  pub some_layer : 1 ≤ p.layers
  pub few_layers : p.layers ≤ MOST_LAYERS
  pub few_pieces : length p.pieces.items ≤ MOST_PIECES
  pub few_probes : length p.probes ≤ 2 * MOST_RECORDS
  pub few_names : length p.names ≤ MOST_RECORDS
  pub spans : All (StandsOn p.layers) p.pieces.items
  pub known : All (IsProbe (length p.names) p.layers) p.probes
