use Rattle.std.proofs.Common.{ℕ, List, ◌≤◌, length, subst, sym, arith}
use Rattle.area_contact.specs.Bands.{AreEdges}
use Rattle.area_contact.proofs.RunBoxes.{put_all, put_edges, put_few}
use Rattle.area_contact.proofs.runs.make_runs.Goals as goal

pub run_boxes-requires-clause-edges : goal.run_boxes-requires-clause-edges
run_boxes-requires-clause-edges c = subst (λ (ns : List ℕ). AreEdges c.args.points.now ns) (sym c.deref.ensures.value) (put_edges c.args.points.now c.in_ok-numbers.numbers.items c.put_near.new.numbers.items c.in_ok-numbers.ensures c.put_near.ensures)

pub run_boxes-requires-clause-few : goal.run_boxes-requires-clause-few
run_boxes-requires-clause-few c =
    subst (λ (ns : List ℕ). length ns ≤ _) (sym c.deref.ensures.value) (let few = put_few c.args.points.now c.in_ok-numbers.numbers.items c.put_near.new.numbers.items c.in_ok-numbers.ensures c.put_near.ensures in omega (arith, c.requires.few))

pub run_boxes-requires-clause-few_boxes : goal.run_boxes-requires-clause-few_boxes
run_boxes-requires-clause-few_boxes c = let few = put_few c.args.points.now c.in_ok-numbers.numbers.items c.put_near.new.numbers.items c.in_ok-numbers.ensures c.put_near.ensures in omega (arith, c.requires.few, c.len-edges.ensures)

pub run_boxes-requires-2-clause-edges : goal.run_boxes-requires-2-clause-edges
run_boxes-requires-2-clause-edges c = subst (λ (ns : List ℕ). AreEdges c.args.points.now ns) (sym c.deref-2.ensures.value) (put_edges c.args.points.now c.in_ok-numbers.numbers.items c.put_near.new.numbers.items c.in_ok-numbers.ensures c.put_near.ensures)

pub run_boxes-requires-2-clause-few : goal.run_boxes-requires-2-clause-few
run_boxes-requires-2-clause-few c =
    subst (λ (ns : List ℕ). length ns ≤ _) (sym c.deref-2.ensures.value) (let few = put_few c.args.points.now c.in_ok-numbers.numbers.items c.put_near.new.numbers.items c.in_ok-numbers.ensures c.put_near.ensures in omega (arith, c.requires.few))

pub returns-clause-edges : goal.returns-clause-edges
returns-clause-edges c = put_edges c.args.points.now c.in_ok-numbers.numbers.items c.put_near.new.numbers.items c.in_ok-numbers.ensures c.put_near.ensures

pub returns-clause-each : goal.returns-clause-each
returns-clause-each c = put_all c.args.points.now c.in_ok-numbers.numbers.items c.put_near.new.numbers.items c.in_ok-numbers.ensures c.put_near.ensures

pub returns-clause-few : goal.returns-clause-few
returns-clause-few c = let few = put_few c.args.points.now c.in_ok-numbers.numbers.items c.put_near.new.numbers.items c.in_ok-numbers.ensures c.put_near.ensures in omega (arith, c.requires.few)
