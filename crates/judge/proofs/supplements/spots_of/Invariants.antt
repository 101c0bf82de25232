use Rattle.std.proofs.Common.{◌≡◌, map, take}
use Rattle.board_shapes.specs.Tables.{point_of}
use Rattle.verdict.specs.Right.{spot_of}
use Rattle.judge.proofs.supplements.spots_of.Given as goal

abbrev pub invariant-loop-probe : goal.invariant-loop-probe
invariant-loop-probe l = l.spots ≡ map spot_of (map point_of (take l.probe-index l.probes))
