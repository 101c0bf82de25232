-- Figures of any kind, as the copies of a block want them.
use Rattle.std.specs.Prelude.{ℕ, ℤ, Bool}
use Rattle.std.specs.List.{list_all}
use Rattle.planar.specs.Plane.{is_placed}
use Rattle.board_shapes.specs.Figures.{Figure, figure_edges}
use Rattle.board_shapes.specs.Moved.{corners, shifted_figure}

-- how many edges a figure counts for the room, the figure so much further to the right and up, and whether each of its ends and corners
-- is at most 1 m from 0 in x and y
pub record Handling (G : Type 0) : Type 0 where
  pub edges : G → ℕ
  pub shifted : ℤ → ℤ → G → G
  pub within : G → Bool

-- of a stroke or a contour
abbrev pub shape_handling : Handling Figure
shape_handling = record { edges = figure_edges; shifted = shifted_figure; within = λ f. list_all is_placed (corners f) }
