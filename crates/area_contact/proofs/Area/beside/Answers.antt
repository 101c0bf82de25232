use Rattle.std.proofs.Common.{FitsSigned, w64, to_z-of_z, ap, arith, rules, ℕ, List, ◌≤◌, length, subst, sym, ◌∙◌, ◌≡◌}
use Rattle.area_contact.specs.Bands.{AreEdges, band_height, band_of, banded_numbers, lowest, nearest}
use Rattle.area_contact.specs.Contour.{area_box}
use Rattle.area_contact.specs.Indexes.{IsIndexed}
use Rattle.area_contact.specs.declared.index.Index.{Index}
use Rattle.area_contact.proofs.Ladders.{all_stand, banded_in, cut_stands, near_few, number_in}
use Rattle.area_contact.proofs.Area.beside.Goals as goal

pub returns-in-None-clause-numbers : goal.returns-in-None-clause-numbers
returns-in-None-clause-numbers c =
    let few : length c.args.self.now.points.items ≤ 64 = rw c.in-None.is at c.args.self.now.indexed in
    c.all_edges.ensures ∙ all_stand c.args.self.now.points.items (band_of (lowest c.args.self.now.points.items) (band_height c.args.self.now.points.items) (nearest (area_box c.args.self.now.points.items) c.args.y)) few (near_few c.args.self.now.points.items c.args.y (omega (arith, c.args.self.now.enough)) c.args.self.now.placed)

pub returns-in-None-clause-edges : goal.returns-in-None-clause-edges
returns-in-None-clause-edges c = subst (λ (l : List ℕ). AreEdges c.args.self.now.points.items l) (sym c.all_edges.ensures) (number_in c.args.self.now.points.items)

pub returns-in-Some-clause-numbers : goal.returns-in-Some-clause-numbers
returns-in-Some-clause-numbers c =
    let indexed : IsIndexed c.args.self.now.points.items c.in-Some.index.value = rw c.in-Some.is at c.args.self.now.indexed in
    let f : FitsSigned w64 c.args.y = search rules in
    let k : c.band_near-k.result ≡ band_of (lowest c.args.self.now.points.items) (band_height c.args.self.now.points.items) (nearest (area_box c.args.self.now.points.items) c.args.y) = simp to_z-of_z at c.band_near-k.ensures.value in
    c.cut.ensures
    ∙ (cut_stands c.args.self.now.points.items (lowest c.args.self.now.points.items) (band_height c.args.self.now.points.items) c.in-Some.index.value.table.starts.items c.in-Some.index.value.table.numbers.items c.deref-in-Some-2.result.now c.deref-in-Some-4.result.now c.band_near-k.result
    indexed.1.3 c.band_near-k.ensures.few (c.deref-in-Some-2.ensures.value ∙ ap (λ (i : Index). i.table.starts.items) c.deref-in-Some.ensures) (c.deref-in-Some-4.ensures.value ∙ ap (λ (i : Index). i.table.numbers.items) c.deref-in-Some-3.ensures)).2
    ∙ ap (λ (n : ℕ). banded_numbers c.args.self.now.points.items (lowest c.args.self.now.points.items) (band_height c.args.self.now.points.items) n) k

pub returns-in-Some-clause-edges : goal.returns-in-Some-clause-edges
returns-in-Some-clause-edges c =
    subst (λ (l : List ℕ). AreEdges c.args.self.now.points.items l) (sym (returns-in-Some-clause-numbers c))
    (banded_in c.args.self.now.points.items (lowest c.args.self.now.points.items) (band_height c.args.self.now.points.items) (band_of (lowest c.args.self.now.points.items) (band_height c.args.self.now.points.items) (nearest (area_box c.args.self.now.points.items) c.args.y)))
