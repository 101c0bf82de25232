-- The copper of a layer by the order of its objects.
-- Source, cited as docs/FORMATS.md says: Gerber Layer Format Specification, 4.9 (load polarity: a dark object adds to the image, a clear one erases what was there before it)
-- Objects count from 0 in the order of the file; `marks i p` says that object i, dark or clear, has point p
use Rattle.std.specs.Prelude.{ℕ, zero, suc, ◌<◌, ◌≡◌, ◌⊎◌, List, Option, Some, None, slice_get}
use Rattle.planar.specs.Plane.{Point}
use Rattle.clear_polarity.specs.declared.Polarity.{Polarity}
use Rattle.clear_polarity.specs.declared.Polarity.TheVariants.{Dark, Clear}

-- A point is copper of the layer where some dark object has it that no later clear object has
pub record IsCopper (order : List Polarity) (marks : ℕ → Point → Type 0) (p : Point) : Type 0 where
  pub object : ℕ
  pub dark : slice_get order object ≡ Some Dark
  pub marked : marks object p
  pub kept : (j : ℕ) → object < j → slice_get order j ≡ Some Clear → ¬ marks j p

-- ---- the same in the standard's words, object by object

-- a dark object adds the points that it has to those before, a clear one takes them away
abbrev pub After : Option Polarity → Type 0 → Type 0 → Type 0
After None marked before = before
After (Some Dark) marked before = before ⊎ marked
After (Some Clear) marked before = before × ¬ marked

-- the point is dark after the first n objects: before the first nothing is
abbrev pub IsDarkAfter : List Polarity → (ℕ → Point → Type 0) → ℕ → Point → Type 0
IsDarkAfter order marks zero p = ⊥
IsDarkAfter order marks (suc n) p = After (slice_get order n) (marks n p) (IsDarkAfter order marks n p)

-- object i is the last that has the point
pub record IsLast (order : List Polarity) (marks : ℕ → Point → Type 0) (i : ℕ) (polarity : Polarity) (p : Point) : Type 0 where
  pub is : slice_get order i ≡ Some polarity
  pub marked : marks i p
  pub none_later : (j : ℕ) (other : Polarity) → i < j → slice_get order j ≡ Some other → ¬ marks j p
