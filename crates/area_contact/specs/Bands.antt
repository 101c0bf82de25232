-- The bands of a contour: its box is cut into strips of one height, from its low side up. An edge stands in each strip from
-- that of its lower end to that of its upper end; an edge that would stand in more than 8 is tall, and stands in none.
use Rattle.std.specs.Prelude.{ℕ, ◌+◌, ◌-◌, ◌*◌, ◌/◌, ◌≤◌, ◌<◌, ◌≡◌, Bool, not, ◌&&◌, cond, nat_le, nat_lt, List, map, filter, take, drop, length, get_or, slice_index, slice_range, ℤ, pos, ◌-ℤ◌, ◌≤ℤ◌, nat_abs, All, ◌==◌}
use Rattle.std.specs.Int.{int_min, int_max}
use Rattle.std.specs.List.{list_any, range_with_len}
use Rattle.planar.specs.Plane.{IsReached}
use Rattle.planar.specs.declared.Spot.{Spot}
use Rattle.contact.specs.Round.{IsLawful, box_of}
use Rattle.contact.specs.Solid.{InBox, SharePoint}
use Rattle.contact.specs.declared.Bounds.{Bounds}
use Rattle.area_contact.specs.declared.Edge.{Edge}
use Rattle.area_contact.specs.declared.TheConstants.{MOST_CONTOUR_POINTS}
use Rattle.area_contact.specs.Contour.{Reaches, SomeEdge, area_box}

-- ---- edges by their numbers, from 0 on

-- the edge from the point of that number to the next, where there are both
abbrev pub edge_at : List Spot → ℕ → Edge
edge_at points i = record { start = get_or points i (record { x = pos 0; y = pos 0 }); end = get_or points (i + 1) (record { x = pos 0; y = pos 0 }) }

-- the numbers of all edges, rising: one fewer than there are points
abbrev pub all_numbers : List Spot → List ℕ
all_numbers points = range_with_len 0 (length points - 1)

-- ---- the bands, from 0 on

-- one band for fewer than 64 edges, else 64
abbrev pub band_count : ℕ → ℕ
band_count edges = cond (nat_lt edges 64) 1 64

-- how high a band of that many edges in the box is: the box's height over the number of bands, rounded down, and 1
unfoldable pub height_of : Bounds → ℕ → ℕ
height_of b edges = nat_abs (b.high -ℤ b.low) / band_count edges + 1

-- where the bands of an area begin, and how high they are
abbrev pub lowest : List Spot → ℤ
lowest points = (area_box points).low

abbrev pub band_height : List Spot → ℕ
band_height points = height_of (area_box points) (length points - 1)

-- the band of y, which is not below low, where bands of that height begin at low: how far y is above low over the height,
-- rounded down
unfoldable pub band_of : ℤ → ℕ → ℤ → ℕ
band_of low height y = nat_abs (y -ℤ low) / height

-- the bands of an edge's lower and upper end
abbrev pub first_band : ℤ → ℕ → Edge → ℕ
first_band low height e = band_of low height (int_min e.start.y e.end.y)

abbrev pub last_band : ℤ → ℕ → Edge → ℕ
last_band low height e = band_of low height (int_max e.start.y e.end.y)

-- the edge would stand in more than 8 bands
abbrev pub is_tall : ℤ → ℕ → Edge → Bool
is_tall low height e = nat_le (first_band low height e + 8) (last_band low height e)

-- the edge stands in band k
abbrev pub stands : ℤ → ℕ → ℕ → Edge → Bool
stands low height k e = not (is_tall low height e) && (nat_le (first_band low height e) k && nat_le k (last_band low height e))

-- the numbers of the edges that stand in band k, rising
abbrev pub banded_numbers : List Spot → ℤ → ℕ → ℕ → List ℕ
banded_numbers points low height k = filter (λ i. stands low height k (edge_at points i)) (all_numbers points)

-- the numbers of the tall edges, rising
abbrev pub tall_numbers : List Spot → ℤ → ℕ → List ℕ
tall_numbers points low height = filter (λ i. is_tall low height (edge_at points i)) (all_numbers points)

-- the edges of an area's contour that stand in the band of y, and those that are tall
abbrev pub banded_at : List Spot → ℤ → List ℕ
banded_at points y = banded_numbers points (lowest points) (band_height points) (band_of (lowest points) (band_height points) y)

abbrev pub tall_of : List Spot → List ℕ
tall_of points = tall_numbers points (lowest points) (band_height points)

-- ---- what only contracts inside the crate say

-- the edges of these numbers
abbrev pub edges_at : List Spot → List ℕ → List Edge
edges_at points numbers = map (edge_at points) numbers

-- each is the number of an edge
abbrev pub AreEdges : List Spot → List ℕ → Type 0
AreEdges points numbers = All (λ i. i + 1 < length points) numbers

-- the lower side of the box is not above the upper one, and both are at most one metre from 0
abbrev pub IsShallow : Bounds → Type 0
IsShallow b = IsReached b.low × IsReached b.high × (b.low ≤ℤ b.high)

-- the height of the box that is nearest to y
abbrev pub nearest : Bounds → ℤ → ℤ
nearest b y = int_min (int_max y b.low) b.high

-- cut k of the numbers, from one start to the next, is these
abbrev pub IsCut : List ℕ → List ℕ → ℕ → List ℕ → Type 0
IsCut starts numbers k xs =
    (slice_index starts k ≤ slice_index starts (k + 1)) × (slice_index starts (k + 1) ≤ length numbers) ×
    (slice_range numbers (slice_index starts k) (slice_index starts (k + 1)) ≡ xs)

-- each cut is the band of its number
abbrev pub IsTable : List Spot → ℤ → ℕ → List ℕ → List ℕ → Type 0
IsTable points low height starts numbers = (k : ℕ) → k < 64 → IsCut starts numbers k (banded_numbers points low height k)

-- no point is below low
abbrev pub AllFrom : ℤ → List Spot → Type 0
AllFrom low points = All (λ p. low ≤ℤ p.y) points

-- no capsule whose box does not meet this one holds a point of one of the edges of these numbers
abbrev pub IsAbout : List Spot → Bounds → List ℕ → Type 0
IsAbout points b numbers = (u v : Spot) (r : ℤ) → IsLawful u v r → (SharePoint (InBox b) (InBox (box_of u v r)) → ⊥) → SomeEdge (Reaches u v r) (edges_at points numbers) → ⊥

-- each box is about its run of that many of the edges
abbrev pub AreAbout : ℕ → List Spot → List ℕ → List Bounds → Type 0
AreAbout size points numbers boxes = (k : ℕ) (d : Bounds) → k < length boxes → IsAbout points (get_or boxes k d) (take size (drop (size * k) numbers))

-- and each edge is in a run; there are no more boxes than a contour has points
abbrev pub AreRuns : ℕ → List Spot → List ℕ → List Bounds → Type 0
AreRuns size points numbers boxes = AreAbout size points numbers boxes × (length numbers ≤ size * length boxes) × (length boxes ≤ MOST_CONTOUR_POINTS)

-- the number is one of these
abbrev pub has_number : ℕ → List ℕ → Bool
has_number i numbers = list_any (λ n. n == i) numbers

-- the numbers are those of all edges, in whatever order and however often
abbrev pub AreAllEdges : List Spot → List ℕ → Type 0
AreAllEdges points numbers = (i : ℕ) → has_number i numbers ≡ has_number i (all_numbers points)
