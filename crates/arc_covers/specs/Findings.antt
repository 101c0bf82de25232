-- Findings that a real board has, whatever copper it has of those that its pieces may have.
use Rattle.std.specs.Prelude.{ℕ, ◌≡◌, ◌<◌, ◌≤◌, false, List, length, Some, slice_get, All, Contains}
use Rattle.planar.specs.Plane.{Point}
use Rattle.verdict.specs.Right.{is_unconnected}
use Rattle.verdict.specs.declared.verdict.Branch.{Branch}
use Rattle.verdict.specs.declared.verdict.Open.{Open}
use Rattle.verdict.specs.declared.verdict.Short.{Short}
use Rattle.covers.specs.Agreeing.{HasName}
use Rattle.covers.specs.Boards.{HasCopper, Layout, PointsJoined}

-- The point of the open has its name, not `N/C`; an earlier point has that name too, and none such is joined with it. It, or all of these, may have no copper.
pub record HasOpen (holds : ℕ → Point → Type 0) (real : Layout) (o : Open) : Type 0 where
  pub text : List ℕ
  pub text_is : slice_get real.names o.name ≡ Some text
  pub connected : is_unconnected text ≡ false
  pub named : HasName real o.probe o.name
  pub earlier : (k : ℕ) × (k < o.probe) × HasName real k o.name
  pub apart : (k : ℕ) → k < o.probe → HasName real k o.name → PointsJoined holds real k o.probe → ⊥

-- the board has the short: its branches are of two names or more, which rise; their points have these, and any two are joined
pub record HasShort (holds : ℕ → Point → Type 0) (real : Layout) (s : Short) : Type 0 where
  pub several : 2 ≤ length s.branches
  pub rise : (i j : ℕ) (x y : Branch) → i < j → slice_get s.branches i ≡ Some x → slice_get s.branches j ≡ Some y → x.name < y.name
  pub named : All (λ x. HasName real x.probe x.name) s.branches
  pub joined : (x y : Branch) → Contains s.branches x → Contains s.branches y → PointsJoined holds real x.probe y.probe

-- the board has the test point, and no copper there
abbrev pub IsWithoutCopper : (ℕ → Point → Type 0) → Layout → ℕ → Type 0
IsWithoutCopper holds real k = (k < length real.probes) × (HasCopper holds real k → ⊥)
