-- The end of a block.
use Rattle.std.proofs.Common.{◌≡◌, List, ◌++◌, take, drop, refl, Some, Result, Ok}
use Rattle.board_shapes.specs.Pieces.{PieceOf}
use Rattle.step_repeat.specs.Copies.{Refusal, copies_by, IsCopyFault}
use Rattle.step_repeat.specs.Figures.{Handling}
use Rattle.step_repeat.specs.declared.repeat.Repeat.{Repeat}
use Rattle.step_repeat.specs.declared.fault.CopyFault.{CopyFault}
use Rattle.step_repeat.specs.declared.fault.CopyFault.TheVariants as copy
use Rattle.gerber_reading.specs.Reader.{Stops, halt_of_copy}
use Rattle.gerber_reading.specs.CommandEffects.{Known, as_copies, ended_block_by, left_by}

-- what stops the copies stops the reader
pub stops_copies : {G : Type 0} (before : List (PieceOf G)) (copies : Result (List (PieceOf G)) Refusal) (fault : CopyFault) → IsCopyFault copies fault → Stops (as_copies before copies) (halt_of_copy fault)
stops_copies before copies copy.TooManyPieces e = rw e refl
stops_copies before copies copy.TooManyEdges e = rw e refl
stops_copies before copies copy.OutOfRange e = rw e refl
stops_copies before copies copy.NoMemory e = tt

-- the pieces where the open block ends
pub ended : {G E A : Type 0} (h : Handling G) (k : Known G E A) (block : Repeat) (copies : List (PieceOf G)) → k.settings.block ≡ Some block → copies_by h block (left_by h k) (drop k.start k.pieces) ≡ Ok copies → ended_block_by h k ≡ Ok (take k.start k.pieces ++ copies)
unfolding ended_block_by
ended h k block copies a b = rw (a, b) refl
