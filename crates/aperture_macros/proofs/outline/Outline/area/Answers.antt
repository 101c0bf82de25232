use Rattle.std.proofs.Common.{◌∙◌, ap, arith, sym, subst}
use Rattle.std.specs.List.{list_all}
use Rattle.planar.specs.Plane.{is_placed}
use Rattle.aperture_macros.specs.Images as spec
use Rattle.aperture_macros.specs.Seen.{Makes}
use Rattle.aperture_macros.proofs.Closings.{outline_placed, outline_unplaced, outlined_by, points_refused}
use Rattle.aperture_macros.proofs.outline.Outline.area.Goals as goal

pub returns-then-not-are_placed : goal.returns-then-not-are_placed
returns-then-not-are_placed c =
    let o = outlined_by (spec.set_down c.args.by.rotation c.args.by.at) c.args.self.now.edges c.args.self.now.text.now c.args.self.now.parameters.now c.args.self.now.unit c.in-Ok.points.items c.requires.judged c.in-Ok.ensures.ok in
    let test = ap (list_all is_placed) (sym c.deref.ensures.value) ∙ (sym c.are_placed.ensures.value ∙ c.if-not-are_placed.true) in
    sym (outline_unplaced (spec.set_down c.args.by.rotation c.args.by.at) c.args.self.now.edges c.args.self.now.text.now c.args.self.now.parameters.now c.args.self.now.unit c.in-Ok.points.items o test)

pub bounded-requires-clause-closed : goal.bounded-requires-clause-closed
bounded-requires-clause-closed c =
    let o = outlined_by (spec.set_down c.args.by.rotation c.args.by.at) c.args.self.now.edges c.args.self.now.text.now c.args.self.now.parameters.now c.args.self.now.unit c.in-Ok.points.items c.requires.judged c.in-Ok.ensures.ok in
    o.closed

pub bounded-requires-clause-enough : goal.bounded-requires-clause-enough
bounded-requires-clause-enough c =
    let o = outlined_by (spec.set_down c.args.by.rotation c.args.by.at) c.args.self.now.edges c.args.self.now.text.now c.args.self.now.parameters.now c.args.self.now.unit c.in-Ok.points.items c.requires.judged c.in-Ok.ensures.ok in
    omega (arith, o.long, c.requires.sized.0)

pub bounded-requires-clause-not_many : goal.bounded-requires-clause-not_many
bounded-requires-clause-not_many c =
    let o = outlined_by (spec.set_down c.args.by.rotation c.args.by.at) c.args.self.now.edges c.args.self.now.text.now c.args.self.now.parameters.now c.args.self.now.unit c.in-Ok.points.items c.requires.judged c.in-Ok.ensures.ok in
    omega (arith, o.long, c.requires.sized.1)

pub returns-in-Err : goal.returns-in-Err
returns-in-Err c = points_refused c.args.by.rotation c.args.by.at c.args.self.now.edges c.args.self.now.text.now c.args.self.now.parameters.now c.args.self.now.unit c.in-Err.fault c.in-Err.ensures.fault

pub returns-else-not-are_placed : goal.returns-else-not-are_placed
returns-else-not-are_placed c =
    let o = outlined_by (spec.set_down c.args.by.rotation c.args.by.at) c.args.self.now.edges c.args.self.now.text.now c.args.self.now.parameters.now c.args.self.now.unit c.in-Ok.points.items c.requires.judged c.in-Ok.ensures.ok in
    let test = ap (list_all is_placed) (sym c.deref.ensures.value) ∙ sym c.if-not-are_placed.ensures.value in
    subst (λ x. Makes c.bounded.result x) (sym (outline_placed (spec.set_down c.args.by.rotation c.args.by.at) c.args.self.now.edges c.args.self.now.text.now c.args.self.now.parameters.now c.args.self.now.unit c.in-Ok.points.items o test)) c.bounded.ensures
