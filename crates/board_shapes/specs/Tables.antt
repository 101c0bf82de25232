-- The tables of a board.
use Rattle.std.specs.Prelude.{ℕ, ◌≡◌, ◌≢◌, length, map}
use Rattle.tables.specs.Lists.{AreRows}
use Rattle.tables.specs.Tables.{Source, Tables, TestPoint}
use Rattle.board_shapes.specs.declared.probe.Probe.{Probe}
use Rattle.board_shapes.specs.Plain.{PlainBoard, PlainPiece}
use Rattle.board_shapes.specs.Touching.{TouchAt, UnderAt}

-- piece j is another than piece i, and touches it
abbrev pub IsNear : PlainBoard → ℕ → ℕ → Type 0
IsNear b i j = (j ≢ i) × TouchAt b i j

-- the record, the place, the layer and the name of the probe
abbrev pub point_of : Probe → TestPoint
point_of probe = record { number = probe.number; x = probe.at.x; y = probe.at.y; layer = probe.layer; name = probe.name }

-- the origin and the span of the piece
abbrev pub source_of : PlainPiece → Source
source_of piece = record { file = piece.origin.file; command = piece.origin.command; copy = piece.origin.copy; top = piece.top; bottom = piece.bottom }

-- `near` lists for each piece the other pieces that touch it, `beneath` for each probe the pieces under it, and the probes,
-- the pieces' sources and the names are the board's
pub record IsTables (b : PlainBoard) (t : Tables) : Type 0 where
  pub near : AreRows (length b.pieces) (IsNear b) t.near
  pub beneath : AreRows (length b.probes) (UnderAt b) t.beneath
  pub points : t.points ≡ map point_of b.probes
  pub sources : t.sources ≡ map source_of b.pieces
  pub names : t.names ≡ b.names
