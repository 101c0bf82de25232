use Rattle.std.proofs.Common.{◌≡◌, true, List, ℕ, Some, length, slice_get, refl, sym, subst, ◌∙◌}
use Rattle.std.proofs.lemmas.Option.{slice_get_read}
use Rattle.contact.specs.Solid.{IsInside}
use Rattle.contact.specs.declared.Bounds.{Bounds}
use Rattle.cell_index.specs.Field.{boxes_meet}
use Rattle.cell_index.specs.Finding.{Finds}
use Rattle.cell_index.specs.Stretched.{copy_in, corner}
use Rattle.cell_index.specs.Cells.{wide_of}
use Rattle.cell_index.proofs.Found.{finds_kept}
use Rattle.cell_index.proofs.Standing.{all_at}
use Rattle.cell_index.proofs.Whole.{ext_at, finds_met, known_same}
use Rattle.cell_index.proofs.finer.Finer.met.Goals as goal

pub returns-clause-known : goal.returns-clause-known
returns-clause-known g c = known_same (length c.args.self.now.copies.items) c.put_in_order.new.into.items c.in_patch.new.into.items c.put_in_order.ensures.same c.in_ok-in_patch.ensures.grows.known

pub returns-clause-met : goal.returns-clause-met
returns-clause-met g c q below asked met =
    let here : slice_get c.args.self.now.copies.items c.args.i ≡ Some c.index.result.now = slice_get_read c.args.self.now.copies.items (length c.args.self.now.copies.items) c.args.i c.index.result.now refl c.requires.piece c.index.ensures in
    let box : copy_in c.args.self.now.copies.items c.args.i ≡ c.bounds-bounds.result = ext_at (λ s. s.bounds) c.args.self.now.copies.items c.args.i c.index.result.now here ∙ sym c.bounds-bounds.ensures.value in
    let within : IsInside c.bounds-bounds.result corner = subst (λ (b : Bounds). IsInside b corner) (sym c.bounds-bounds.ensures.value) (all_at (λ c. IsInside c.shape.bounds corner) c.args.self.now.copies.items c.args.i c.index.result.now c.args.self.now.inside here) in
    let wide : Finds (g.W.Wanted.wanted c.args.wanted.now) c.args.self.now.copies.items c.bounds-bounds.result c.of-patch.result c.of-patch.result.left c.of-patch.result.low (wide_of (λ s. s.bounds) corner c.args.self.now.copies.items 1) c.gather.new.into.items = subst (λ (xs : List ℕ). Finds (g.W.Wanted.wanted c.args.wanted.now) c.args.self.now.copies.items c.bounds-bounds.result c.of-patch.result c.of-patch.result.left c.of-patch.result.low xs c.gather.new.into.items) c.wide.ensures.wide c.in_ok-gather.ensures.finds in
    (c.put_in_order.ensures.same q).1 (finds_met (g.W.Wanted.wanted c.args.wanted.now) c.args.self.now.copies.items c.bounds-bounds.result c.of-patch.result c.in_patch.new.into.items c.args.self.now.inside c.args.self.now.flat within c.of-patch.ensures.patch
    (finds_kept (g.W.Wanted.wanted c.args.wanted.now) c.args.self.now.copies.items c.bounds-bounds.result c.of-patch.result c.of-patch.result.left c.of-patch.result.low (wide_of (λ s. s.bounds) corner c.args.self.now.copies.items 1) c.gather.new.into.items c.in_patch.new.into.items c.in_ok-in_patch.ensures.grows.kept wide) c.in_ok-in_patch.ensures.cells q below asked (subst (λ (b : Bounds). boxes_meet b (copy_in c.args.self.now.copies.items q) ≡ true) box met))
