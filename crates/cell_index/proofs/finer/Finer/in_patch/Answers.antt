use Rattle.std.proofs.Common.{length, arith}
use Rattle.cell_index.specs.Cells.{cell_of}
use Rattle.cell_index.specs.Finding.{Finds}
use Rattle.cell_index.specs.Stretched.{corner}
use Rattle.cell_index.proofs.Found.{finds_kept, grows_then, more}
use Rattle.cell_index.proofs.finer.Finer.in_patch.Goals as goal

pub loop-up-preserved : goal.loop-up-preserved
loop-up-preserved g c =
    let grows = c.in_ok-in_line.ensures.grows in (
      grows_then (length c.args.self.now.copies.items) c.args.into.now.items c.loop-up.into.items c.in_line.new.into.items c.loop-up.invariant.0 grows,
      λ across up f h k l. more (λ j. Finds (g.W.Wanted.wanted c.args.wanted.now) c.args.self.now.copies.items c.args.bounds c.args.patch.now across j (cell_of (λ s. s.bounds) corner c.args.self.now.copies.items 1 across j) c.in_line.new.into.items) c.args.patch.now.low c.loop-up.up
          (λ j m n. finds_kept (g.W.Wanted.wanted c.args.wanted.now) c.args.self.now.copies.items c.args.bounds c.args.patch.now across j (cell_of (λ s. s.bounds) corner c.args.self.now.copies.items 1 across j) c.loop-up.into.items c.in_line.new.into.items grows.kept (c.loop-up.invariant.1 across j f h m n))
          (c.in_ok-in_line.ensures.cells across f h) up k l,
    )

pub returns-clause-cells : goal.returns-clause-cells
returns-clause-cells g c across up f h k l = c.loop-up.invariant.1 across up f h k (omega arith)
