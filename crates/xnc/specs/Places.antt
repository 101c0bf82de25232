-- Which layers and which file barrels are of, and how many more there may be.
use Rattle.std.specs.Prelude.{ℕ}

-- the span of layers and the file that barrels are of, and the room for them
pub record Place : Type 0 where
  pub from : ℕ
  pub to : ℕ
  pub file : ℕ
  pub room : ℕ
