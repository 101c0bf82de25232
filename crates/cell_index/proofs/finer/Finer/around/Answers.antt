use Rattle.cell_index.proofs.Whole.{HasPlace, held_around, natural_place}
use Rattle.cell_index.specs.Stretched.{corner}
use Rattle.cell_index.specs.Cells.{wide_of}
use Rattle.std.proofs.Common.{rules, ◌⊎◌, subst, sym, Contains, List, ℕ}
use Rattle.cell_index.proofs.finer.Finer.around.Goals as goal

pub returns-clause-held : goal.returns-clause-held
returns-clause-held c q below held =
    let x : HasPlace corner.left c.args.place.x c.cell_at.result = natural_place c.args.place.x c.cell_at.result (search rules) c.requires.across.0 c.cell_at.ensures.cell c.cell_at.ensures.begun c.cell_at.ensures.reached in
    let y : HasPlace corner.low c.args.place.y c.cell_at-2.result = natural_place c.args.place.y c.cell_at-2.result (search rules) c.requires.up.0 c.cell_at-2.ensures.cell c.cell_at-2.ensures.begun c.cell_at-2.ensures.reached in
    subst (λ (xs : List ℕ). Contains xs q ⊎ Contains (wide_of (λ s. s.bounds) corner c.args.self.now.copies.items 1) q) (sym c.cell.ensures.cell) (held_around c.args.self.now.copies.items c.args.place c.cell_at.result c.cell_at-2.result c.args.self.now.flat x y q below held)
