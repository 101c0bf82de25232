use Rattle.std.proofs.Common.{◌≡◌, ℤ, false, true, refl, rules, to_z, of_z, subst}
use Rattle.std.proofs.lemmas.Int.{to_z-of_z}
use mir.Val.{SFits}
use Rattle.std.specs.Int.{w64}
use Rattle.step_repeat.specs.Copies.{piece_by, shifted_piece}
use Rattle.step_repeat.proofs.Placing.{leaves_alone, pushed, stays}
use Rattle.step_repeat.proofs.copying.push_moved.Goals as goal

pub returns-in-Err-OutOfRange : goal.returns-in-Err-OutOfRange
returns-in-Err-OutOfRange g c =
    let by = c.args.by in
    let h = g.F.Figure.handling in
    let f = g.F.Figure.plain c.args.piece.now.shape in
    let fits_x : SFits w64 by.x = search rules in
    let fits_y : SFits w64 by.y = search rules in
    let leaves = c.in-Err-OutOfRange.ensures.fault c.in-Err-OutOfRange.field-0-is in
    let x_is = subst (λ (x : ℤ). h.within (h.shifted x (to_z w64 (of_z w64 by.y)) f) ≡ false) (to_z-of_z w64 by.x fits_x) leaves in
    leaves_alone h by.x by.y by.copy (piece_by g.F.Figure.plain c.args.piece.now) (subst (λ (y : ℤ). h.within (h.shifted by.x y f) ≡ false) (to_z-of_z w64 by.y fits_y) x_is)

pub returns : goal.returns
returns g c =
    let by = c.args.by in
    let h = g.F.Figure.handling in
    let plain = g.F.Figure.plain in
    let piece = piece_by plain c.args.piece.now in
    let fits_x : SFits w64 by.x = search rules in
    let fits_y : SFits w64 by.y = search rules in
    let stay_x = subst (λ (x : ℤ). h.within (h.shifted x (to_z w64 (of_z w64 by.y)) piece.figure) ≡ true) (to_z-of_z w64 by.x fits_x) c.in-Ok.ensures.within in
    let stay_y = subst (λ (y : ℤ). h.within (h.shifted by.x y piece.figure) ≡ true) (to_z-of_z w64 by.y fits_y) stay_x in
    let is_x = subst (λ (x : ℤ). plain c.in-Ok.shape ≡ h.shifted x (to_z w64 (of_z w64 by.y)) piece.figure) (to_z-of_z w64 by.x fits_x) c.in-Ok.ensures.ok in
    let is_y = subst (λ (y : ℤ). plain c.in-Ok.shape ≡ h.shifted by.x y piece.figure) (to_z-of_z w64 by.y fits_y) is_x in
    (pushed plain c.args.copies.now.items c.push.new.self.items _ (shifted_piece h by.x by.y by.copy piece) c.in-Ok-push.ensures.items (rw is_y refl), stays h by.x by.y by.copy piece stay_y)
