use Rattle.std.proofs.Common.{ℤ, rules, to_z, of_z, subst}
use Rattle.std.proofs.lemmas.Int.{to_z-of_z}
use mir.Val.{SFits}
use Rattle.std.specs.Int.{w64}
use Rattle.std.specs.Prelude.{IfErr, IfOk}
use Rattle.board_shapes.specs.Figures.{figure_of}
use Rattle.board_shapes.specs.Moved.{IsMoveFault, StaysPlaced}
use Rattle.step_repeat.proofs.Placing.{stays_if, leaves_if}
use Rattle.step_repeat.proofs.figure.ShapeFigure.shifted.Goals as goal

pub returns-clause-within : goal.returns-clause-within
returns-clause-within c =
    let dx = c.args.dx in
    let dy = c.args.dy in
    let f = figure_of c.args.self.now in
    let r = c.moved.result in
    let fits_x : SFits w64 dx = search rules in
    let fits_y : SFits w64 dy = search rules in
    let x_is = subst (λ (x : ℤ). IfOk r (λ _. StaysPlaced x (to_z w64 (of_z w64 dy)) f)) (to_z-of_z w64 dx fits_x) c.moved.ensures.placed in
    stays_if r dx dy f (subst (λ (y : ℤ). IfOk r (λ _. StaysPlaced dx y f)) (to_z-of_z w64 dy fits_y) x_is)

pub returns-clause-fault : goal.returns-clause-fault
returns-clause-fault c =
    let dx = c.args.dx in
    let dy = c.args.dy in
    let f = figure_of c.args.self.now in
    let r = c.moved.result in
    let fits_x : SFits w64 dx = search rules in
    let fits_y : SFits w64 dy = search rules in
    let x_is = subst (λ (x : ℤ). IfErr r (IsMoveFault x (to_z w64 (of_z w64 dy)) f)) (to_z-of_z w64 dx fits_x) c.moved.ensures.fault in
    leaves_if r dx dy f (subst (λ (y : ℤ). IfErr r (IsMoveFault dx y f)) (to_z-of_z w64 dy fits_y) x_is)
