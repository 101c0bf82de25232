-- Nets as trees. A board is here a number of pieces and a relation: `near p q` says that q is another piece that
-- touches p.
use Rattle.std.specs.Prelude.{◌≡◌, ◌≢◌, ℕ, ◌<◌, ◌≤◌, List, [], ◌∷◌, ◌++◌, map, slice_index_or, All, AllPairs, Contains, Some, None}
use Rattle.verdict.specs.declared.verdict.Twig.{Twig}

-- the piece of a twig, and the pieces of a net in the order of its twigs
abbrev pub piece_of : Twig → ℕ
piece_of t = t.piece

abbrev pub pieces_of : List Twig → List ℕ
pieces_of net = map piece_of net

-- net i, and the empty one past the last
abbrev pub net_at : List (List Twig) → ℕ → List Twig
net_at nets i = slice_index_or nets i []

-- Net i holds the piece.
abbrev pub Holds : List (List Twig) → ℕ → ℕ → Type 0
Holds nets i piece = Contains (pieces_of (net_at nets i)) piece

-- the piece of the first twig of a net that has one
abbrev pub first_piece : List Twig → ℕ
first_piece [] = 0
first_piece (t ∷ rest) = t.piece

-- A twig hangs on an earlier piece, to which it is near.
pub record HangsOn (near : ℕ → ℕ → Type 0) (earlier : List ℕ) (t : Twig) : Type 0 where
  pub parent : ℕ
  pub named : t.parent ≡ Some parent
  pub stands : Contains earlier parent
  pub touches : near parent t.piece

-- So does each twig of a list, the pieces of those before it being earlier.
abbrev pub Hang : (ℕ → ℕ → Type 0) → List ℕ → List Twig → Type 0
Hang near earlier [] = Unit {0}
Hang near earlier (t ∷ rest) = HangsOn near earlier t × Hang near (earlier ++ t.piece ∷ []) rest

-- A net is not empty. Its first piece is its least and has no parent, and each other twig hangs on one before it.
abbrev pub IsTree : (ℕ → ℕ → Type 0) → List Twig → Type 0
IsTree near [] = ⊥
IsTree near (t ∷ rest) = (t.parent ≡ None) × All (λ s. t.piece ≤ s.piece) rest × Hang near (t.piece ∷ []) rest

-- Clause 1. Each net is a tree of pieces of the board, and the nets stand in rising order of their first pieces.
pub record AreTrees (count : ℕ) (near : ℕ → ℕ → Type 0) (nets : List (List Twig)) : Type 0 where
  pub known : (i piece : ℕ) → Holds nets i piece → piece < count
  pub trees : All (IsTree near) nets
  pub rising : AllPairs (λ net later. first_piece net < first_piece later) nets

-- Clause 2. Every piece stands exactly once in exactly one net.
pub record StandOnce (count : ℕ) (nets : List (List Twig)) : Type 0 where
  pub held : (piece : ℕ) → piece < count → (i : ℕ) × Holds nets i piece
  pub one_net : (i j piece : ℕ) → Holds nets i piece → Holds nets j piece → i ≡ j
  pub one_place : All (λ net. AllPairs (λ p q. p ≢ q) (pieces_of net)) nets

-- Clause 3. No piece of one net is near a piece of another.
abbrev pub StandApart : (ℕ → ℕ → Type 0) → List (List Twig) → Type 0
StandApart near nets = (i j p q : ℕ) → Holds nets i p → Holds nets j q → near p q → i ≡ j

-- The nets are spanning trees of the classes of touching pieces: clauses 1 to 3.
pub record IsForest (count : ℕ) (near : ℕ → ℕ → Type 0) (nets : List (List Twig)) : Type 0 where
  pub trees : AreTrees count near nets
  pub covers : StandOnce count nets
  pub apart : StandApart near nets
