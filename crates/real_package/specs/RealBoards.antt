-- Boards of real copper as plain data, and what such a board keeps.
use Rattle.std.specs.Prelude.{◌≡◌, ℕ, ◌-◌, ◌^◌, nat_lt, if◌then◌else◌, List, [], ◌++◌, map, sum_by, length}
use Rattle.real_copper.specs.Figures.{exact, real_edges}
use Rattle.real_copper.specs.Shapes.{PlainReal, plain_reals}
use Rattle.real_shapes.specs.declared.RealShape.{RealShape}
use Rattle.board_shapes.specs.Pieces.{PlainPiece}
use Rattle.board_shapes.specs.Plain.{PlainBoard}
use Rattle.board_shapes.specs.declared.placed.Room.{Room}
use Rattle.board_shapes.specs.declared.probe.Probe.{Probe}
use Rattle.board_package.specs.Parts.{room_for}
use Rattle.board_package.specs.declared.parts.Parts.{Parts}

-- pieces that are figures or other copper, the test points, the texts of their names, how many layers there are
pub record PlainRealBoard : Type 0 where
  pub pieces : List PlainReal
  pub probes : List Probe
  pub names : List (List ℕ)
  pub layers : ℕ

-- a board without where its points lie in memory
abbrev pub plain_real_board : Parts RealShape → PlainRealBoard
plain_real_board b = record { pieces = plain_reals b.pieces.items; probes = b.probes; names = b.names; layers = b.layers }

-- nothing on so many layers
abbrev pub empty_real : ℕ → PlainRealBoard
empty_real layers = record { pieces = []; probes = []; names = []; layers = layers }

-- the board with more pieces behind its own
abbrev pub with_reals : PlainRealBoard → List PlainReal → PlainRealBoard
with_reals b pieces = record { pieces = b.pieces ++ pieces; probes = b.probes; names = b.names; layers = b.layers }

-- the board with these test points and names
abbrev pub with_points : PlainRealBoard → List Probe → List (List ℕ) → PlainRealBoard
with_points b probes names = record { pieces = b.pieces; probes = probes; names = names; layers = b.layers }

-- a piece that is a figure, and each of a list
abbrev pub as_real : PlainPiece → PlainReal
as_real p = record { figure = exact p.figure; top = p.top; bottom = p.bottom; origin = p.origin }

abbrev pub as_reals : List PlainPiece → List PlainReal
as_reals pieces = map as_real pieces

-- ---- Room

-- a number as far as 32 bits tell it
abbrev pub counted : ℕ → ℕ
counted n = if nat_lt n (2 ^ 32) then n else 2 ^ 32 - 1

abbrev pub edges_in : List PlainReal → ℕ
edges_in pieces = sum_by (λ (p : PlainReal). counted (real_edges p.figure)) pieces

-- the pieces and edges that may still come behind these
abbrev pub room_left : List PlainReal → Room
room_left pieces = room_for (length pieces) (edges_in pieces)

-- ---- The netlist

-- A board of figures alone has the test points, names and layers of the real one.
pub record HasNetlistOf (real : PlainRealBoard) (b : PlainBoard) : Type 0 where
  pub probes : b.probes ≡ real.probes
  pub names : b.names ≡ real.names
  pub layers : b.layers ≡ real.layers
