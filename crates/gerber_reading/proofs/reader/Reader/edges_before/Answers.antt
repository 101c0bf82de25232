use Rattle.std.proofs.Common.{ap, ◌∙◌, arith}
use Rattle.step_repeat.specs.Copies.{edges_by, pieces_by}
use Rattle.gerber_reading.proofs.Edges.{edges_split}
use Rattle.gerber_reading.proofs.reader.Reader.edges_before.Goals as goal

pub overflow_sub-result : goal.overflow_sub-result
overflow_sub-result g c =
    let split = edges_split g.F.Figure.handling (pieces_by g.F.Figure.plain c.args.self.now.pieces.items) c.args.self.now.start in
    let block = c.edges_of.ensures ∙ ap (edges_by g.F.Figure.handling) c.block.ensures.pieces in
    omega (arith, split, block)

pub returns : goal.returns
returns g c =
    let split = edges_split g.F.Figure.handling (pieces_by g.F.Figure.plain c.args.self.now.pieces.items) c.args.self.now.start in
    let block = c.edges_of.ensures ∙ ap (edges_by g.F.Figure.handling) c.block.ensures.pieces in
    omega (arith, split, block)
