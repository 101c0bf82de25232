use Rattle.std.proofs.Common.{ap, subst, sym, ℕ, List}
use Rattle.planar.specs.declared.Spot.{Spot}
use Rattle.area_contact.specs.Bands.{AreAllEdges, AreEdges, has_number}
use Rattle.area_contact.specs.Indexes.{IsIndexed}
use Rattle.area_contact.specs.declared.index.Index.{Index}
use Rattle.area_contact.proofs.Ladders.{number_in}
use Rattle.area_contact.proofs.RunBoxes.{all_reach}
use Rattle.area_contact.proofs.Area.is_found.Goals as goal

pub among-requires : goal.among-requires
among-requires c =
    subst (λ (ps : List Spot). AreEdges ps c.all_edges.result.now) (sym c.requires) (subst (λ (ns : List ℕ). AreEdges c.args.self.now.points.items ns) (sym c.all_edges.ensures) (number_in c.args.self.now.points.items))

pub returns-in-None : goal.returns-in-None
returns-in-None c =
    all_reach c.args.self.now.points.items c.args.search.now.points.now c.all_edges.result.now c.args.search.now.capsule.now.a c.args.search.now.capsule.now.b c.args.search.now.capsule.now.r c.among.result c.requires (λ i. ap (has_number i) c.all_edges.ensures) c.among.ensures

pub returns-in-Some : goal.returns-in-Some
returns-in-Some c =
    let lent : IsIndexed c.args.self.now.points.items c.in-Some.index.value = rw c.in-Some.is at c.args.self.now.indexed in
    let indexed : IsIndexed c.args.self.now.points.items c.deref.result.now = subst (λ (i : Index). IsIndexed c.args.self.now.points.items i) (sym c.deref.ensures) lent in
    all_reach c.args.self.now.points.items c.args.search.now.points.now c.deref-in-Some.result.now c.args.search.now.capsule.now.a c.args.search.now.capsule.now.b c.args.search.now.capsule.now.r c.in_groups.result c.requires
    (subst (λ (ns : List ℕ). AreAllEdges c.args.self.now.points.items ns) (sym c.deref-in-Some.ensures.value) indexed.0.3) c.in_groups.ensures
