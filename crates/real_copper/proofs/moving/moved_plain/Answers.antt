use Rattle.std.proofs.Common.{ℤ, rules, to_z, of_z, subst}
use Rattle.std.proofs.lemmas.Int.{to_z-of_z}
use mir.Val.{SFits}
use Rattle.std.specs.Int.{w64}
use Rattle.std.specs.Prelude.{IfErr}
use Rattle.board_shapes.specs.Figures.{figure_of}
use Rattle.board_shapes.specs.Moved.{IsMoveFault}
use Rattle.step_repeat.proofs.Placing.{leaves_if}
use Rattle.real_copper.proofs.moving.moved_plain.Goals as goal

pub returns-clause-fault : goal.returns-clause-fault
returns-clause-fault c =
    let dx = c.args.by.x in
    let dy = c.args.by.y in
    let f = figure_of c.args.shape.now in
    let r = c.moved.result in
    let fits_x : SFits w64 dx = search rules in
    let fits_y : SFits w64 dy = search rules in
    let x_is = subst (λ (x : ℤ). IfErr r (IsMoveFault x (to_z w64 (of_z w64 dy)) f)) (to_z-of_z w64 dx fits_x) c.moved.ensures.fault in
    leaves_if r dx dy f (subst (λ (y : ℤ). IfErr r (IsMoveFault dx y f)) (to_z-of_z w64 dy fits_y) x_is)
