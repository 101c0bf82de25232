-- Boards whose copper is any set of points: `holds i p` says that point p lies in piece i.
use Rattle.std.specs.Prelude.{ℕ, ◌≡◌, List, Some, slice_get}
use Rattle.planar.specs.Plane.{Point, at}
use Rattle.contact.specs.Solid.{SharePoint}
use Rattle.tables.specs.Chains.{AreJoined}
use Rattle.board_shapes.specs.Spans.{CommonLayer, InSpan}
use Rattle.board_shapes.specs.declared.probe.Probe.{Probe}

-- the layers of a piece
pub record Span : Type 0 where
  pub top : ℕ
  pub bottom : ℕ

-- a board but for its copper: the span of each piece, the test points, the texts of their names, how many layers there are
pub record Layout : Type 0 where
  pub spans : List Span
  pub probes : List Probe
  pub names : List (List ℕ)
  pub layers : ℕ

-- pieces i and j touch: their spans have a common layer, and some point lies in both
pub record TouchAt (holds : ℕ → Point → Type 0) (b : Layout) (i j : ℕ) : Type 0 where
  pub first : Span
  pub second : Span
  pub first_is : slice_get b.spans i ≡ Some first
  pub second_is : slice_get b.spans j ≡ Some second
  pub layer : CommonLayer first.top first.bottom second.top second.bottom
  pub share : SharePoint (holds i) (holds j)

-- piece i is under test point k: its span has the point's layer, and the point's place lies in it
pub record UnderAt (holds : ℕ → Point → Type 0) (b : Layout) (k i : ℕ) : Type 0 where
  pub span : Span
  pub probe : Probe
  pub span_is : slice_get b.spans i ≡ Some span
  pub probe_is : slice_get b.probes k ≡ Some probe
  pub layer : InSpan span.top span.bottom probe.layer
  pub place : holds i (at probe.at)

-- a chain of pieces, each of which touches the next, leads from piece i to piece j
abbrev pub Joined : (ℕ → Point → Type 0) → Layout → ℕ → ℕ → Type 0
Joined holds b i j = AreJoined (TouchAt holds b) i j

-- two test points are joined: a piece under the one and a piece under the other are
pub record PointsJoined (holds : ℕ → Point → Type 0) (b : Layout) (k l : ℕ) : Type 0 where
  pub i : ℕ
  pub j : ℕ
  pub first : UnderAt holds b k i
  pub last : UnderAt holds b l j
  pub joined : Joined holds b i j

-- some piece is under the test point
abbrev pub HasCopper : (ℕ → Point → Type 0) → Layout → ℕ → Type 0
HasCopper holds b k = (i : ℕ) × UnderAt holds b k i
