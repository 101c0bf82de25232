use Rattle.std.proofs.Common.{arith, refl}
use Rattle.real_copper.proofs.Edges.{as_many, parts_near}
use Rattle.real_copper.proofs.Near.{placed_is}
use Rattle.real_copper.proofs.contours.curved_area.Goals as goal

pub invariant_of-result : goal.invariant_of-result
invariant_of-result c =
    let edges = c.args.contour.now.legs.items in
    let first = placed_is c.args.contour.now.first c.args.contour.now.begun in
    let more = parts_near edges c.args.contour.now.placed c.requires.bends in
    let are = rw c.deref.ensures.value at c.in_ok-parts.ensures in
    let many = as_many edges c.in_ok-parts.parts.items are in
    let few = c.args.contour.now.few in
    record { near = rw (are, first, more) refl; settled = refl; few = omega (arith, many, few) }
