-- The lines of points by their homes and by the numbers of the pieces' nets.
use Rattle.std.specs.Prelude.{◌≡◌, ℕ, ◌<◌, List, length, slice_get, slice_index_or, Option, Some, None}
use Rattle.board_shapes.specs.declared.probe.Probe.{Probe}
use Rattle.verdict.specs.declared.verdict.PointLine.{PointLine}
use Rattle.verdict.specs.Seats.{net_by}

-- The line of a probe: its record, its layer and its name, with the net of its home, or without one where it has no home.
pub record IsLineBy (numbers : List ℕ) (probe : Probe) (home : Option ℕ) (line : PointLine) : Type 0 where
  pub number : line.number ≡ probe.number
  pub layer : line.layer ≡ probe.layer
  pub name : line.name ≡ probe.name
  pub net : line.net ≡ net_by numbers home

-- Line k is that of probe k.
abbrev pub IsLineAt : List ℕ → List Probe → List (Option ℕ) → List PointLine → ℕ → Type 0
IsLineAt numbers probes homes lines k = (probe : Probe) (line : PointLine) → slice_get probes k ≡ Some probe → slice_get lines k ≡ Some line → IsLineBy numbers probe (slice_index_or homes k None) line

-- One line for each probe, in order.
pub record AreLinesBy (numbers : List ℕ) (probes : List Probe) (homes : List (Option ℕ)) (lines : List PointLine) : Type 0 where
  pub many : length lines ≡ length probes
  pub each : (k : ℕ) → k < length probes → IsLineAt numbers probes homes lines k
