use Rattle.std.proofs.Common.{◌≡◌, ◌+◌, ◌++◌, ◌∷◌, [], List, ℕ, Some, length, slice_get, sym, subst}
use Rattle.cell_index.specs.Rows.{IsSheet}
use Rattle.cell_index.specs.declared.bins.Bins.{Bins}
use Rattle.cell_index.proofs.Standing.{sheets_more}
use Rattle.cell_index.proofs.filing.Plan.sheets.Goals as goal

pub loop-layer-preserved : goal.loop-layer-preserved
loop-layer-preserved g c =
    let more : c.push.new.self.items ≡ c.loop-layer.sheets.items ++ c.in_ok-next.next ∷ [] = c.in_ok-push.ensures.items in
    subst (λ (xs : List Bins). (length xs ≡ c.loop-layer.layer + 1) × ((k : ℕ) (b : Bins) → slice_get xs k ≡ Some b → IsSheet g.S.Closed.extent c.args.self.now.frame c.args.self.now.items.now (k + 1) b)) (sym more)
    (sheets_more (λ k b. IsSheet g.S.Closed.extent c.args.self.now.frame c.args.self.now.items.now (k + 1) b) c.loop-layer.sheets.items c.in_ok-next.next c.loop-layer.layer c.loop-layer.invariant.0 c.loop-layer.invariant.1 c.in_ok-next.ensures)
