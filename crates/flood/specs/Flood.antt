-- How far a search of nets has come.
use Rattle.std.specs.Prelude.{◌≡◌, ◌≢◌, ◌⊎◌, ℕ, ◌+◌, ◌<◌, Bool, true, false, if◌then◌else◌, List, [], ◌∷◌, length, slice_index_or, AllPairs, Contains}
use Rattle.verdict.specs.declared.verdict.Twig.{Twig}
use Rattle.verdict.specs.Forest.{IsTree, pieces_of, first_piece}

-- The piece was seen.
abbrev pub IsSeen : List Bool → ℕ → Type 0
IsSeen seen q = slice_index_or seen q false ≡ true

-- the sum of w over the pieces that were not seen, numbered from k
abbrev pub unseen : (ℕ → ℕ) → ℕ → List Bool → ℕ
unseen w k [] = 0
unseen w k (s ∷ rest) = (if s then 0 else w k) + unseen w (k + 1) rest

-- the sum of w over the pieces of a net
abbrev pub weight : (ℕ → ℕ) → List Twig → ℕ
weight w [] = 0
weight w (t ∷ rest) = w t.piece + weight w rest

-- A net grows from its first piece, the least that was not seen at first. `base` says what was seen then.
pub record IsGrown (near : ℕ → ℕ → Type 0) (base : List Bool) (first : ℕ) (net : List Twig) (seen : List Bool) : Type 0 where
  pub long : length seen ≡ length base
  pub below : (q : ℕ) → q < first → IsSeen base q
  pub root : first_piece net ≡ first
  pub tree : IsTree near net
  pub fresh : (q : ℕ) → Contains (pieces_of net) q → IsSeen base q → ⊥
  pub marked : (q : ℕ) → Contains (pieces_of net) q → IsSeen seen q
  pub kept : (q : ℕ) → IsSeen base q → IsSeen seen q
  pub known : (q : ℕ) → IsSeen seen q → IsSeen base q ⊎ Contains (pieces_of net) q
  pub once : AllPairs (λ p q. p ≢ q) (pieces_of net)

-- A whole net: what is near a piece of it was seen.
pub record IsWhole (near : ℕ → ℕ → Type 0) (base : List Bool) (first : ℕ) (net : List Twig) (seen : List Bool) : Type 0 where
  pub grown : IsGrown near base first net seen
  pub closed : (p q : ℕ) → Contains (pieces_of net) p → near p q → IsSeen seen q
