-- The pieces under the test points of a board.
use Rattle.std.specs.Prelude.{◌≡◌, ℕ, List, Some, slice_get}
use Rattle.board_shapes.specs.declared.probe.Probe.{Probe}
use Rattle.planar.specs.declared.Spot.{Spot}

-- The piece is under probe k of the list.
pub record UnderProbe (under : Spot → ℕ → ℕ → Type 0) (probes : List Probe) (k piece : ℕ) : Type 0 where
  pub probe : Probe
  pub probe_is : slice_get probes k ≡ Some probe
  pub is_under : under probe.at probe.layer piece
