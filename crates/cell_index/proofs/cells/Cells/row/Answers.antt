use Rattle.std.proofs.Common.{◌≡◌, ◌+◌, ◌-◌, length, refl, ap, arith, subst, sym, ◌∙◌}
use Rattle.std.proofs.lemmas.Option.{slice_get_read}
use Rattle.cell_index.specs.Rows.{row_of}
use Rattle.cell_index.specs.declared.bins.Bins.{Bins}
use Rattle.cell_index.proofs.cells.Cells.row.Goals as goal

pub row-requires : goal.row-requires
row-requires g c =
    let s = c.args.self.now in
    let long : length c.index-sheet.result.now.starts.items ≡ 16386 = subst (λ (b : Bins). length b.starts.items ≡ 16386) (sym c.index-sheet.ensures) (s.long (c.args.layer - 1) c.index-sheet.result.now (omega (arith, s.many, c.requires.layer))) in
    omega (arith, long, c.requires.row)

pub returns : goal.returns
returns g c =
    let s = c.args.self.now in
    let sheet = slice_get_read s.sheets.items (length s.sheets.items) (c.args.layer - 1) c.index-sheet.result.now refl (omega (arith, s.many, c.requires.layer)) c.index-sheet.ensures in
    let layer : c.args.layer - 1 + 1 ≡ c.args.layer = omega (arith, c.requires.layer) in
    c.row.ensures ∙ (s.filed (c.args.layer - 1) c.args.row c.index-sheet.result.now sheet c.requires.row ∙ ap (λ n. row_of g.S.Closed.extent s.frame s.items.now n c.args.row) layer)
