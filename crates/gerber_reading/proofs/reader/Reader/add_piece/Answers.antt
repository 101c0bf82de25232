use Rattle.std.proofs.Common.{arith}
use Rattle.gerber_reading.proofs.Edges.{edges_few}
use Rattle.gerber_reading.proofs.reader.Reader.add_piece.Goals as goal

pub overflow_add-self : goal.overflow_add-self
overflow_add-self g c =
    let few = edges_few g.F.Figure.plain g.F.Figure.handling g.met.F.Figure.few c.args.self.now.pieces.items in
    let more = g.met.F.Figure.few c.args.figure in
    omega (arith, few, more, c.from-edges.ensures, c.edges.ensures)
