use Rattle.std.proofs.Common.{arith}
use Rattle.gerber_reading.proofs.Edges.{edges_few}
use Rattle.gerber_reading.proofs.reader.Reader.exceeds.Goals as goal

pub overflow_add-result : goal.overflow_add-result
overflow_add-result g c = let few = edges_few g.F.Figure.plain g.F.Figure.handling g.met.F.Figure.few c.args.self.now.pieces.items in omega (arith, few)
