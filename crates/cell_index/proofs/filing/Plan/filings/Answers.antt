use Rattle.std.proofs.Common.{◌≡◌, ◌<◌, ◌+◌, All, List, Some, arith, slice_get, ◌∙◌, sym, ap, subst}
use Rattle.std.proofs.lemmas.Option.{slice_get-get_or}
use Rattle.cell_index.specs.declared.bins.Filing.{Filing}
use Rattle.cell_index.proofs.Rows.{AreFiled, filed_all, filed_skip, filed_step, layer_off_above, layer_off_below}
use Rattle.cell_index.proofs.filing.Plan.filings.Goals.{then-item-layer+then-layer-item+in_ok-file, else-item-layer, else-item-layer-via-then-item-layer+else-layer-item, else-item-layer-via-else-item-layer}
use Rattle.cell_index.proofs.filing.Plan.filings.Goals as goal

pub loop-p-preserved : goal.loop-p-preserved
loop-p-preserved g c =
    let here : slice_get c.args.self.now.items.now c.loop-p.p ≡ Some c.index-items-p.result = slice_get-get_or c.args.self.now.items.now c.loop-p.p c.index-items-p.result c.loop-p-test.true ∙ ap (λ x. Some x) (sym c.index-items-p.is) in
    elim c.if-item-layer.branch [
      | then-item-layer+then-layer-item+in_ok-file w ↦ (
        subst (λ (xs : List Filing). All (λ f. f.row < 16385) xs) (sym (ap (λ v. v.items) w.filings-is)) w.in_ok-file.ensures.rows,
        subst (λ (xs : List Filing). AreFiled g.S.Closed.extent c.args.self.now.frame c.args.self.now.items.now c.args.layer (c.loop-p.p + 1) xs) (sym (ap (λ v. v.items) w.filings-is))
            (filed_step g.S.Closed.extent c.args.self.now.frame c.args.self.now.items.now c.args.layer c.loop-p.p c.index-items-p.result c.loop-p.filings.items w.file.new.into.items here w.if-item-layer.true w.if-layer-item.true c.loop-p.invariant.1 w.in_ok-file.ensures.files),
      )
      | else-item-layer w ↦ (
        subst (λ (xs : List Filing). All (λ f. f.row < 16385) xs) (sym (ap (λ v. v.items) w.filings-is)) c.loop-p.invariant.0,
        subst (λ (xs : List Filing). AreFiled g.S.Closed.extent c.args.self.now.frame c.args.self.now.items.now c.args.layer (c.loop-p.p + 1) xs) (sym (ap (λ v. v.items) w.filings-is))
            (elim w.else-item-layer.branch [
              | else-item-layer-via-then-item-layer+else-layer-item w' ↦ filed_skip g.S.Closed.extent c.args.self.now.frame c.args.self.now.items.now c.args.layer c.loop-p.p c.index-items-p.result c.loop-p.filings.items here (layer_off_above c.index-items-p.result.top c.index-items-p.result.bottom c.args.layer w'.if-layer-item.false) c.loop-p.invariant.1
              | else-item-layer-via-else-item-layer w' ↦ filed_skip g.S.Closed.extent c.args.self.now.frame c.args.self.now.items.now c.args.layer c.loop-p.p c.index-items-p.result c.loop-p.filings.items here (layer_off_below c.index-items-p.result.top c.index-items-p.result.bottom c.args.layer w'.if-item-layer.false) c.loop-p.invariant.1
            ]),
      )
    ]

pub returns-clause-each : goal.returns-clause-each
returns-clause-each g c row below = filed_all g.S.Closed.extent c.args.self.now.frame c.args.self.now.items.now c.args.layer c.loop-p.p c.loop-p.filings.items (omega arith) c.loop-p.invariant.1 row below
