use Rattle.gerber_reading.proofs.Edges.{plain_rest, rest_few}
use Rattle.gerber_reading.proofs.reader.Reader.block.Goals as goal

pub returns-clause-pieces : goal.returns-clause-pieces
returns-clause-pieces g c = rw c.deref.ensures.value (plain_rest g.F.Figure.plain c.args.self.now.pieces.items c.args.self.now.start)

pub returns-clause-few : goal.returns-clause-few
returns-clause-few g c = rw c.deref.ensures.value (rest_few c.args.self.now.pieces.items c.args.self.now.start)
