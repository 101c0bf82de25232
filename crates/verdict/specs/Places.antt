-- The place of each piece in its net.
use Rattle.std.specs.Prelude.{◌≡◌, ℕ, ◌<◌, List, length, slice_index_or, None}
use Rattle.verdict.specs.declared.verdict.Twig.{Twig}

-- twig k of a net, which past the last is one of piece 0 without a parent
abbrev pub twig_at : List Twig → ℕ → Twig
twig_at net k = slice_index_or net k (record { piece = 0; parent = None })

-- The table has the place of each piece of the net.
abbrev pub HasPlaces : List Twig → List ℕ → Type 0
HasPlaces net places = (k : ℕ) → k < length net → ((twig_at net k).piece < length places) × (slice_index_or places (twig_at net k).piece 0 ≡ k)
