-- What a board keeps.
use Rattle.std.specs.Prelude.{ℕ, ◌<◌, ◌≤◌}
use Rattle.planar.specs.Plane.{IsPlaced}
use Rattle.planar.specs.declared.Frame.{Frame}
use Rattle.contact.specs.Solid.{IsInside}
use Rattle.board_shapes.specs.declared.shape.Shape.{Shape}
use Rattle.board_shapes.specs.declared.placed.Placed.{Placed}
use Rattle.board_shapes.specs.declared.probe.Probe.{Probe}
use Rattle.board_shapes.specs.Shapes.{shape_box}

-- a span of the layers from 1 on
abbrev pub IsSpan : ℕ → ℕ → ℕ → Type 0
IsSpan layers top bottom = (1 ≤ top) × (top ≤ bottom) × (bottom ≤ layers)

-- the piece's span is one of the layers
abbrev pub IsOnLayers : ℕ → Placed Shape → Type 0
IsOnLayers layers p = IsSpan layers p.top p.bottom

-- the piece's box is inside the frame
abbrev pub IsInsideFrame : Frame → Placed Shape → Type 0
IsInsideFrame frame p = IsInside (shape_box p.shape) frame

-- the probe's name is one of the names, its layer one of the layers, and its place within one metre
pub record IsProbe (names layers : ℕ) (probe : Probe) : Type 0 where
  pub named : probe.name < names
  pub from_top : 1 ≤ probe.layer
  pub to_bottom : probe.layer ≤ layers
  pub placed : IsPlaced probe.at
