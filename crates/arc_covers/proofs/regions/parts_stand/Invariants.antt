use Rattle.std.proofs.Common.{◌↔◌, drop}
use Rattle.board_shapes.specs.Pieces.{plain_pieces}
use Rattle.arc_covers.specs.Bounds.{figures_of}
use Rattle.arc_covers.specs.Regions.{StandAlong}
use Rattle.arc_covers.proofs.regions.parts_stand.Given as goal

abbrev pub invariant-loop-part : goal.invariant-loop-part
invariant-loop-part l = StandAlong l.start l.from (drop l.part-index l.parts) l.spots (figures_of (plain_pieces l.rest)) ↔ StandAlong l.start l.start l.parts l.corners (figures_of (plain_pieces l.pieces))
