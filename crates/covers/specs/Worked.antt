-- Half discs whose radius is the square root of 2, between discs of radius 1 and 2.
use Rattle.std.specs.Prelude.{ℕ, zero, suc, pos, negsuc, ℤ, ◌+ℤ◌, ◌*ℤ◌, ◌≤ℤ◌, List, [], ◌∷◌, codes}
use Rattle.planar.specs.Plane.{Point, square}
use Rattle.planar.specs.declared.Spot.{Spot}
use Rattle.board_shapes.specs.declared.probe.Probe.{Probe}
use Rattle.covers.specs.Boards.{Layout, Span}

-- the square of the point's distance from (0, 0) is at most s
abbrev pub InDisc : ℤ → Point → Type 0
InDisc s p = (square p.x +ℤ square p.y) ≤ℤ (s *ℤ square p.n)

-- each piece is the disc of radius 1 about (0, 0)
abbrev pub inner : ℕ → Point → Type 0
inner i p = InDisc (pos 1) p

-- the left half, the right half, and a disc
abbrev pub halves : ℕ → Point → Type 0
halves zero p = InDisc (pos 2) p × (p.x ≤ℤ pos 0)
halves (suc zero) p = InDisc (pos 2) p × (pos 0 ≤ℤ p.x)
halves (suc (suc i)) p = InDisc (pos 2) p

-- and that of radius 2
abbrev pub outer : ℕ → Point → Type 0
outer i p = InDisc (pos 4) p

abbrev on_layer : ℕ → Span
on_layer layer = record { top = layer; bottom = layer }

abbrev spot : ℤ → ℤ → Spot
spot x y = record { x = x; y = y }

-- two test points of the name A on layer 1, one of the name B on layer 2
abbrev pub probes : List Probe
probes = record { number = 1; at = spot (negsuc 0) (pos 0); layer = 1; name = 0 }
    ∷ record { number = 2; at = spot (pos 1) (pos 0); layer = 1; name = 0 }
    ∷ record { number = 3; at = spot (pos 0) (pos 0); layer = 2; name = 1 } ∷ []

abbrev on_spans : List Span → Layout
on_spans spans = record { spans = spans; probes = probes; names = codes "A" ∷ codes "B" ∷ []; layers = 2 }

-- one piece on each layer
abbrev pub whole : Layout
whole = on_spans (on_layer 1 ∷ on_layer 2 ∷ [])

-- two on the first, one on the second
abbrev pub discs : Layout
discs = on_spans (on_layer 1 ∷ on_layer 1 ∷ on_layer 2 ∷ [])
