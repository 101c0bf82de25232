-- How many edges an outline has, and how many corners a polygon.
use Rattle.std.specs.Prelude.{ℕ, ◌≤◌}
use Rattle.aperture_macros.specs.declared.TheConstants.{MOST_OUTLINE_EDGES}
use Rattle.aperture_macros.specs.declared.primitive.Form.{Form}
use Rattle.aperture_macros.specs.declared.primitive.Form.TheVariants.{Outline, Polygon}

-- the edges of an outline; three for what is none
abbrev pub outline_edges : Form → ℕ
outline_edges (Outline n) = n
outline_edges other = 3

-- the corners of a polygon; three for what is none
abbrev pub corners_of : Form → ℕ
corners_of (Polygon n) = n
corners_of other = 3

-- an outline has from 3 to MOST_OUTLINE_EDGES edges, a polygon from 3 to 12 corners
abbrev pub IsSized : Form → Type 0
IsSized form = (3 ≤ outline_edges form) × (outline_edges form ≤ MOST_OUTLINE_EDGES) × (3 ≤ corners_of form) × (corners_of form ≤ 12)
