-- What holds of the tables of every board, and what its test points join.
use Rattle.std.specs.Prelude.{ℕ, ◌≡◌, ◌<◌, ◌⊎◌, length}
use Rattle.tables.specs.Chains.{AreJoined}
use Rattle.tables.specs.Tables.{Tables, Stands}

-- `near` has pieces of the board and lists each pair both ways; `beneath` has pieces of the board, and of two under one test
-- point each is near the other
pub record AreConsistent (t : Tables) : Type 0 where
  pub known : (p q : ℕ) → Stands t.near p q → q < length t.near
  pub both : (p q : ℕ) → Stands t.near p q → Stands t.near q p
  pub under : (k p : ℕ) → Stands t.beneath k p → p < length t.near
  pub close : (k p q : ℕ) → Stands t.beneath k p → Stands t.beneath k q → (p ≡ q) ⊎ Stands t.near p q

-- a chain joins a piece under the one test point to a piece under the other
pub record ArePointsJoined (t : Tables) (a b : ℕ) : Type 0 where
  pub p : ℕ
  pub q : ℕ
  pub first : Stands t.beneath a p
  pub last : Stands t.beneath b q
  pub joined : AreJoined (Stands t.near) p q
