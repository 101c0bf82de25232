-- When the copper of a board agrees with the names of its test points.
use Rattle.std.specs.Prelude.{ℕ, ◌≡◌, ◌≢◌, ◌<◌, false, List, Some, length, slice_get}
use Rattle.planar.specs.Plane.{Point}
use Rattle.board_shapes.specs.declared.probe.Probe.{Probe}
use Rattle.verdict.specs.Right.{is_unconnected}
use Rattle.covers.specs.Boards.{HasCopper, Layout, PointsJoined}

-- test point k has the name
abbrev pub HasName : Layout → ℕ → ℕ → Type 0
HasName b k name = (probe : Probe) × (slice_get b.probes k ≡ Some probe) × (probe.name ≡ name)

-- each test point has copper
abbrev pub NoneMissing : (ℕ → Point → Type 0) → Layout → Type 0
NoneMissing holds b = (k : ℕ) → k < length b.probes → HasCopper holds b k

-- of a name other than `N/C`, test points with copper are joined
abbrev pub NoneOpen : (ℕ → Point → Type 0) → Layout → Type 0
NoneOpen holds b = (k l name : ℕ) (text : List ℕ) → slice_get b.names name ≡ Some text → is_unconnected text ≡ false → HasName b k name → HasName b l name
    → HasCopper holds b k → HasCopper holds b l → PointsJoined holds b k l

-- no test points of two names are joined
abbrev pub NoneShort : (ℕ → Point → Type 0) → Layout → Type 0
NoneShort holds b = (k l name other : ℕ) → HasName b k name → HasName b l other → name ≢ other → PointsJoined holds b k l → ⊥

-- the board agrees with its names
pub record AgreesWithNames (holds : ℕ → Point → Type 0) (b : Layout) : Type 0 where
  pub missing : NoneMissing holds b
  pub opens : NoneOpen holds b
  pub shorts : NoneShort holds b
