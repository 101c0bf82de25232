-- What the tests of nets tell.
use Rattle.std.specs.Prelude.{◌≡◌, ◌≢◌, ◌⊎◌, ℕ, ◌+◌, ◌<◌, ◌≤◌, List, [], ◌∷◌, length, slice_index_or, AllPairs, Contains, Some}
use Rattle.verdict.specs.declared.verdict.Twig.{Twig}
use Rattle.verdict.specs.Forest.{Holds, IsTree, StandOnce, net_at, pieces_of}
use Rattle.verdict.specs.Places.{HasPlaces}

-- a tree of pieces of the board
pub record IsKnownTree (count : ℕ) (near : ℕ → ℕ → Type 0) (net : List Twig) : Type 0 where
  pub known : (p : ℕ) → Contains (pieces_of net) p → p < count
  pub tree : IsTree near net

-- The twig hangs on a piece with the stamp, and is no less than the first piece.
pub record HangsByStamp (count : ℕ) (near : ℕ → ℕ → Type 0) (stamps : List ℕ) (stamp first : ℕ) (t : Twig) : Type 0 where
  pub known : t.piece < count
  pub least : first ≤ t.piece
  pub parent : ℕ
  pub named : t.parent ≡ Some parent
  pub within : parent < count
  pub stamped : slice_index_or stamps parent 0 ≡ stamp
  pub touches : near parent t.piece

-- ---- Where pieces stand

-- The pieces of the net are different, and each has the value that says that it has no number.
abbrev pub AreNew : ℕ → List Twig → List ℕ → Type 0
AreNew none net numbers = AllPairs (λ p q. p ≢ q) (pieces_of net) × ((p : ℕ) → Contains (pieces_of net) p → slice_index_or numbers p 0 ≡ none)

-- The pieces of the net have its number and their places, and the other pieces have what they had.
pub record IsStood (number : ℕ) (net : List Twig) (numbers places newer_numbers newer_places : List ℕ) : Type 0 where
  pub inside : (p : ℕ) → Contains (pieces_of net) p → slice_index_or newer_numbers p 0 ≡ number
  pub placed : HasPlaces net newer_places
  pub outside : (p : ℕ) → ((slice_index_or newer_numbers p 0 ≡ slice_index_or numbers p 0) × (slice_index_or newer_places p 0 ≡ slice_index_or places p 0)) ⊎ Contains (pieces_of net) p

-- Each piece stands once in one net, and the tables have the number of its net and its place there.
pub record HasStanding (count : ℕ) (nets : List (List Twig)) (numbers places : List ℕ) : Type 0 where
  pub once : StandOnce count nets
  pub long : length numbers ≡ count
  pub numbered : (i piece : ℕ) → Holds nets i piece → slice_index_or numbers piece 0 ≡ i
  pub placed : (i : ℕ) → i < length nets → HasPlaces (net_at nets i) places

-- ---- How many twigs there are

-- the twigs of all nets
abbrev pub twig_count : List (List Twig) → ℕ
twig_count [] = 0
twig_count (net ∷ rest) = length net + twig_count rest
