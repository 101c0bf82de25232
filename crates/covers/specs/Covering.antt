-- When the copper of one board covers that of another.
use Rattle.std.specs.Prelude.{ℕ, ◌≡◌, List, Some, slice_get, Contains}
use Rattle.planar.specs.Plane.{Point}
use Rattle.board_shapes.specs.Spans.{InSpan}
use Rattle.covers.specs.Boards.{Joined, Layout, Span}

-- piece i has copper on the layer at point p
pub record HasAt (holds : ℕ → Point → Type 0) (b : Layout) (i layer : ℕ) (p : Point) : Type 0 where
  pub span : Span
  pub span_is : slice_get b.spans i ≡ Some span
  pub layers : InSpan span.top span.bottom layer
  pub place : holds i p

-- Some pieces of board c have all copper of piece i of board b, layer by layer, and are joined with one another on c.
pub record IsCovered (holds : ℕ → Point → Type 0) (b : Layout) (holds' : ℕ → Point → Type 0) (c : Layout) (i : ℕ) : Type 0 where
  pub cover : List ℕ
  pub covers : (layer : ℕ) (p : Point) → HasAt holds b i layer p → (j : ℕ) × Contains cover j × HasAt holds' c j layer p
  pub joined : (j k : ℕ) → Contains cover j → Contains cover k → Joined holds' c j k

-- Board c has the test points, names and layers of board b, and covers each of its pieces.
pub record Covers (holds : ℕ → Point → Type 0) (b : Layout) (holds' : ℕ → Point → Type 0) (c : Layout) : Type 0 where
  pub probes : c.probes ≡ b.probes
  pub names : c.names ≡ b.names
  pub layers : c.layers ≡ b.layers
  pub pieces : (i : ℕ) → IsCovered holds b holds' c i
