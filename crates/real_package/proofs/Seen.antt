-- What the parts of a real board are, seen as plain data.
use Rattle.std.proofs.Common.{◌≡◌, ℕ, List, [], ◌++◌}
use Rattle.real_copper.specs.Shapes.{PlainReal, plain_real, plain_reals}
use Rattle.real_shapes.specs.declared.RealShape.{RealShape}
use Rattle.board_package.proofs.Seen.{seen}
use Rattle.board_package.specs.Parts.{Has}
use Rattle.board_package.specs.declared.parts.Parts.{Parts}
use Rattle.board_shapes.specs.declared.placed.Placed.{Placed}
use Rattle.board_shapes.specs.declared.probe.Probe.{Probe}
use Rattle.real_package.specs.RealBoards.{PlainRealBoard, empty_real, plain_real_board, with_reals}

abbrev real_of : List PlainReal → List Probe → List (List ℕ) → ℕ → PlainRealBoard
real_of pieces probes names layers = record { pieces = pieces; probes = probes; names = names; layers = layers }

pub is_empty : (p : Parts RealShape) (layers : ℕ) → Has p [] [] [] layers → plain_real_board p ≡ empty_real layers
is_empty p layers h = seen real_of plain_real p [] [] [] [] layers h

pub has_more : (old new : Parts RealShape) (pieces : List (Placed RealShape)) → Has new (old.pieces.items ++ pieces) old.probes old.names old.layers → plain_real_board new ≡ with_reals (plain_real_board old) (plain_reals pieces)
has_more old new pieces h = seen real_of plain_real new old.pieces.items pieces old.probes old.names old.layers h
