use Rattle.std.proofs.Common.{ℕ, ◌+◌, ◌/◌, ◌∙◌, ap, subst, sym}
use Rattle.planar.specs.Plane.{IsPlaced}
use Rattle.slants.specs.Polygons.{quartered, reach_of}
use Rattle.slants.specs.declared.cones.TheConstants.{RIGHT_ANGLE}
use Rattle.slants.proofs.Reach.{out_is, out_overflow, out_read, placed_out, way_within}
use Rattle.slants.proofs.polygons.set_out.Goals as goal

pub overflow_add-result : goal.overflow_add-result
overflow_add-result c =
    let near = way_within (reach_of c.args.g.now + 1) _ c.args.p c.quartered-q.result c.quartered-q.ensures c.requires.across c.requires.up in
    out_overflow c.args.g.now.centre.x c.quartered-q.result.x (reach_of c.args.g.now) c.requires.regular.across near.0

pub overflow_add-result-2 : goal.overflow_add-result-2
overflow_add-result-2 c =
    let near = way_within (reach_of c.args.g.now + 1) _ c.args.p c.quartered-q.result c.quartered-q.ensures c.requires.across c.requires.up in
    out_overflow c.args.g.now.centre.y c.quartered-q.result.y (reach_of c.args.g.now) c.requires.regular.up near.1

pub returns-clause-value : goal.returns-clause-value
returns-clause-value c =
    let near = way_within (reach_of c.args.g.now + 1) _ c.args.p c.quartered-q.result c.quartered-q.ensures c.requires.across c.requires.up in
    out_is c.args.g.now.centre c.quartered-q.result _ _ _
    (out_read c.args.g.now.centre.x c.quartered-q.result.x (reach_of c.args.g.now) c.requires.regular.across near.0)
    (out_read c.args.g.now.centre.y c.quartered-q.result.y (reach_of c.args.g.now) c.requires.regular.up near.1)
    (c.quartered-q.ensures ∙ ap (λ (d : ℕ). quartered (d / RIGHT_ANGLE) c.args.p) c.direction.ensures)

pub returns-clause-placed : goal.returns-clause-placed
returns-clause-placed c = subst IsPlaced (sym (returns-clause-value c)) (placed_out c.args.g.now c.args.h c.args.p c.requires.regular (c.requires.across, c.requires.up))
