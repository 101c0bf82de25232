use Rattle.std.proofs.Common.{length, subst, arith}
use Rattle.cell_index.specs.Cells.{cell_of}
use Rattle.cell_index.specs.Finding.{Finds}
use Rattle.cell_index.specs.Stretched.{corner}
use Rattle.cell_index.proofs.Found.{finds_kept, grows_then, more}
use Rattle.cell_index.proofs.finer.Finer.in_line.Goals as goal

pub loop-across-preserved : goal.loop-across-preserved
loop-across-preserved g c =
    let grows = c.in_ok-gather.ensures.grows in (
      grows_then (length c.args.self.now.copies.items) c.args.into.now.items c.loop-across.into.items c.gather.new.into.items c.loop-across.invariant.0 grows,
      more (λ j. Finds (g.W.Wanted.wanted c.args.wanted.now) c.args.self.now.copies.items c.args.bounds c.args.patch.now j c.args.up (cell_of (λ s. s.bounds) corner c.args.self.now.copies.items 1 j c.args.up) c.gather.new.into.items) c.args.patch.now.left c.loop-across.across
          (λ j h l. finds_kept (g.W.Wanted.wanted c.args.wanted.now) c.args.self.now.copies.items c.args.bounds c.args.patch.now j c.args.up (cell_of (λ s. s.bounds) corner c.args.self.now.copies.items 1 j c.args.up) c.loop-across.into.items c.gather.new.into.items grows.kept (c.loop-across.invariant.1 j h l))
          (subst (λ xs. Finds (g.W.Wanted.wanted c.args.wanted.now) c.args.self.now.copies.items c.args.bounds c.args.patch.now c.loop-across.across c.args.up xs c.gather.new.into.items) c.cell.ensures.cell c.in_ok-gather.ensures.finds),
    )

pub returns-clause-cells : goal.returns-clause-cells
returns-clause-cells g c across h l = c.loop-across.invariant.1 across h (omega arith)
