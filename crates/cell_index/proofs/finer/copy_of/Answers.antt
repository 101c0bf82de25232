use Rattle.std.proofs.Common.{◌≤ℤ◌, sym, subst}
use Rattle.contact.specs.declared.Bounds.{Bounds}
use Rattle.cell_index.proofs.Sides.{ordered}
use Rattle.cell_index.proofs.Stretching.{over_ordered}
use Rattle.cell_index.proofs.finer.copy_of.Goals as goal

pub invariant_of-result : goal.invariant_of-result
invariant_of-result g c =
    let some = g.met.S.Closed.not_empty c.args.item.now.shape c.bounds-bounds.ensures.lawful in
    let order = ordered c.bounds-bounds.result (g.S.Closed.extent c.args.item.now.shape) some.0 c.bounds-bounds.ensures.value (g.met.S.Closed.boxed c.args.item.now.shape some.0 c.bounds-bounds.ensures.lawful some.1) in
    record { ordered = subst (λ (b : Bounds). (b.left ≤ℤ b.right) × (b.low ≤ℤ b.high)) (sym c.bounds.ensures) (over_ordered c.args.stretch c.bounds-bounds.result order) }
