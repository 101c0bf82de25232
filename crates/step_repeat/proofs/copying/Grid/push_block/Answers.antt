use Rattle.std.proofs.Common.{◌*◌, ◌+◌, pos, ◌*ℤ◌}
use Rattle.step_repeat.proofs.Placing.{far}
use Rattle.step_repeat.proofs.copying.Grid.push_block.Goals as goal

pub returns-in-None : goal.returns-in-None
returns-in-None g c =
    let r = c.args.self.now.repeat in
    let dx = pos c.args.column *ℤ r.dx in
    let dy = pos c.args.row *ℤ r.dy in
    far g.F.Figure.plain g.F.Figure.handling dx dy (c.args.column * r.up + c.args.row) c.args.self.now.block.now c.args.self.now.some (λ f. g.met.F.Figure.leaves f dx dy c.in-None.ensures)
