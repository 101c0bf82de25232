-- Chains of pieces. A board is here a relation alone: `near p q` says that p touches q.
use Rattle.std.specs.Prelude.{ℕ, ◌≡◌, List, [], ◌∷◌}

-- from a piece through the others to a last one, each near the one before
abbrev pub IsChain : (ℕ → ℕ → Type 0) → ℕ → List ℕ → ℕ → Type 0
IsChain near p [] q = p ≡ q
IsChain near p (next ∷ rest) q = near p next × IsChain near next rest q

-- a chain leads from p to q
abbrev pub AreJoined : (ℕ → ℕ → Type 0) → ℕ → ℕ → Type 0
AreJoined near p q = (chain : List ℕ) × IsChain near p chain q
