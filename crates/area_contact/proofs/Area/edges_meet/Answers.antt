use Rattle.std.proofs.Common.{◌≡◌, ◌↔◌, IsTrue, pos, suc, List, ◌∷◌, All, arith, subst, sym}
use Rattle.area_contact.specs.Contour.{Reaches, SomeEdge, edges_of}
use Rattle.planar.specs.declared.Spot.{Spot}
use Rattle.planar.specs.Plane.{IsPlaced}
use Rattle.area_contact.proofs.Ladders.{framed_parts, points_in_frame}
use Rattle.area_contact.proofs.Area.edges_meet.Goals as goal

placed_parts : (points : List Spot) (start : Spot) (rest : List Spot) → points ≡ start ∷ rest → All IsPlaced points → IsPlaced start × All IsPlaced rest
placed_parts points start rest is h =
    let all : All IsPlaced (start ∷ rest) = subst (λ (ps : List Spot). All IsPlaced ps) is h in
    (all 0 start (omega arith), λ k d below. all (suc k) d (omega (arith, below)))

pub meets_line-requires-clause-inside : goal.meets_line-requires-clause-inside
meets_line-requires-clause-inside c = c.requires.other_inside

pub meets_line-requires-clause-start_placed : goal.meets_line-requires-clause-start_placed
meets_line-requires-clause-start_placed c = (placed_parts c.args.self.now.points.items c.line.result.0 c.line.result.1.now c.line.ensures c.args.self.now.placed).0

pub meets_line-requires-clause-rest_placed : goal.meets_line-requires-clause-rest_placed
meets_line-requires-clause-rest_placed c = (placed_parts c.args.self.now.points.items c.line.result.0 c.line.result.1.now c.line.ensures c.args.self.now.placed).1

pub returns : goal.returns
returns c = subst (λ (ps : List Spot). IsTrue c.meets_line.result ↔ SomeEdge (λ e. SomeEdge (Reaches e.start e.end (pos 0)) (edges_of c.args.other.now.points.items)) (edges_of ps)) (sym c.line.ensures) c.meets_line.ensures

pub meets_line-requires-clause-start_in_frame : goal.meets_line-requires-clause-start_in_frame
meets_line-requires-clause-start_in_frame c = (framed_parts c.args.self.now.points.items c.line.result.0 c.line.result.1.now c.args.frame c.line.ensures (points_in_frame c.args.self.now.points.items c.args.frame c.requires.inside)).0

pub meets_line-requires-clause-rest_in_frame : goal.meets_line-requires-clause-rest_in_frame
meets_line-requires-clause-rest_in_frame c = (framed_parts c.args.self.now.points.items c.line.result.0 c.line.result.1.now c.args.frame c.line.ensures (points_in_frame c.args.self.now.points.items c.args.frame c.requires.inside)).1
