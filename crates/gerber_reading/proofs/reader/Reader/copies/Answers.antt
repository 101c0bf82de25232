use Rattle.std.proofs.Common.{take, drop, arith}
use Rattle.step_repeat.specs.Copies.{copies_by, pieces_by}
use Rattle.gerber_reading.specs.Reader.{known_of}
use Rattle.gerber_reading.specs.CommandEffects.{left_by}
use Rattle.gerber_reading.proofs.Copies.{stops_copies}
use Rattle.gerber_reading.proofs.reader.Reader.copies.Goals as goal

pub returns-in-Ok-clause-ok : goal.returns-in-Ok-clause-ok
returns-in-Ok-clause-ok g c =
    rw (c.block.ensures.pieces, c.left.ensures) at c.in-Ok.ensures.ok

pub returns-in-Ok-clause-few : goal.returns-in-Ok-clause-few
returns-in-Ok-clause-few g c = let few = rw c.left.ensures at c.in-Ok.ensures.few in omega (arith, few)

pub returns-in-Err-clause-halt : goal.returns-in-Err-clause-halt
returns-in-Err-clause-halt g c =
    let fault = rw (c.block.ensures.pieces, c.left.ensures) at c.in-Err.ensures.fault in
    rw c.halt_of_copy.ensures (stops_copies (take c.args.self.now.start (pieces_by g.F.Figure.plain c.args.self.now.pieces.items)) (copies_by g.F.Figure.handling c.args.block (left_by g.F.Figure.handling (known_of g.F.Figure.plain c.args.self.now)) (drop c.args.self.now.start (pieces_by g.F.Figure.plain c.args.self.now.pieces.items))) c.in-Err.fault fault)
