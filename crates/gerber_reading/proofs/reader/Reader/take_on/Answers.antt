use Rattle.std.proofs.Common.{arith}
use Rattle.gerber_reading.proofs.Edges.{edges_few}
use Rattle.gerber_reading.proofs.reader.Reader.take_on.Goals as goal

pub overflow_add-self : goal.overflow_add-self
overflow_add-self g c =
    let few = edges_few g.F.Figure.plain g.F.Figure.handling g.met.F.Figure.few c.args.self.now.pieces.items in
    let more = edges_few g.F.Figure.plain g.F.Figure.handling g.met.F.Figure.few c.args.more.items in
    let counted = rw c.deref.ensures.value at c.edges_of-edges.ensures in
    omega (arith, few, more, counted)
