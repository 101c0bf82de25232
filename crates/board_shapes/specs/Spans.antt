-- Spans of layers, from a top to a bottom.
use Rattle.std.specs.Prelude.{ℕ, ◌≤◌, max, min}

-- the spans have a common layer
abbrev pub CommonLayer : ℕ → ℕ → ℕ → ℕ → Type 0
CommonLayer top bottom top' bottom' = max top top' ≤ min bottom bottom'

-- the layer is in the span
abbrev pub InSpan : ℕ → ℕ → ℕ → Type 0
InSpan top bottom layer = (top ≤ layer) × (layer ≤ bottom)
