use Rattle.std.proofs.Common.{ℕ, ◌<◌, ◌≤◌, List, pos, arith, length, get_or, subst, sym}
use Rattle.contact.specs.declared.Bounds.{Bounds}
use Rattle.area_contact.specs.Bands.{IsAbout}
use Rattle.area_contact.specs.Contour.{Reaches}
use Rattle.area_contact.proofs.RunBoxes.{group_runs, run_edges, run_few, run_found, run_nowhere, run_past}
use Rattle.area_contact.proofs.search.Search.in_groups.Goals as goal

below_most : (k n most : ℕ) → k < n → n ≤ most → k ≤ most
below_most k n most h few = omega arith

pub part-edges-requires-clause-known : goal.part-edges-requires-clause-known
part-edges-requires-clause-known c = below_most c.loop-k.k (length c.args.groups.now) _ c.loop-k-test.true c.requires.groups.2

pub part-runs-requires-clause-known : goal.part-runs-requires-clause-known
part-runs-requires-clause-known c = below_most c.loop-k.k (length c.args.groups.now) _ c.loop-k-test.true c.requires.groups.2

pub part-runs-requires-clause-few : goal.part-runs-requires-clause-few
part-runs-requires-clause-few c = c.requires.runs.2

pub in_group-requires-clause-edges : goal.in_group-requires-clause-edges
in_group-requires-clause-edges c = run_edges c.args.self.now.points.now c.args.numbers.now c.part-edges.result.now 1_024 c.loop-k.k c.part-edges.ensures c.requires.edges

pub in_group-requires-clause-about : goal.in_group-requires-clause-about
in_group-requires-clause-about c =
    let none : Bounds = record { left = pos 0; low = pos 0; right = pos 0; high = pos 0 } in
    subst (λ (ns : List ℕ). IsAbout c.args.self.now.points.now (get_or c.args.groups.now c.loop-k.k none) ns) (sym c.part-edges.ensures) (c.requires.groups.0 c.loop-k.k none c.loop-k-test.true)

pub in_group-requires-clause-few : goal.in_group-requires-clause-few
in_group-requires-clause-few c = run_few c.args.numbers.now c.part-edges.result.now 1_024 c.loop-k.k _ c.part-edges.ensures c.requires.few

pub in_group-requires-clause-runs : goal.in_group-requires-clause-runs
in_group-requires-clause-runs c = group_runs c.args.self.now.points.now c.args.numbers.now c.part-edges.result.now c.args.boxes.now c.part-runs.result.now c.loop-k.k c.part-edges.ensures c.part-runs.ensures c.requires.runs

pub returns-then-in_group : goal.returns-then-in_group
returns-then-in_group c = run_found (Reaches c.args.self.now.capsule.now.a c.args.self.now.capsule.now.b c.args.self.now.capsule.now.r) c.args.self.now.points.now c.args.numbers.now 1_024 c.loop-k.k c.part-edges.result.now c.in_group.result c.part-edges.ensures c.in_group.ensures c.if-in_group.true c.loop-k.invariant

pub loop-k-preserved : goal.loop-k-preserved
loop-k-preserved c = run_past (Reaches c.args.self.now.capsule.now.a c.args.self.now.capsule.now.b c.args.self.now.capsule.now.r) c.args.self.now.points.now c.args.numbers.now 1_024 c.loop-k.k c.part-edges.result.now c.in_group.result c.part-edges.ensures c.in_group.ensures c.if-in_group.false c.loop-k.invariant

pub returns : goal.returns
returns c = run_nowhere (Reaches c.args.self.now.capsule.now.a c.args.self.now.capsule.now.b c.args.self.now.capsule.now.r) c.args.self.now.points.now c.args.numbers.now 1_024 c.loop-k.k (omega (arith, c.requires.groups.1)) c.loop-k.invariant
