use Rattle.std.proofs.Common.{◌≢◌, rules, tests}
use Rattle.std.proofs.lemmas.Iterator.{YieldsList-from_slice, YieldsList-from_zip, cases_from_all}
use Rattle.board_shapes.specs.Tables.{point_of}
use Rattle.board_shapes.specs.declared.probe.Probe.{Probe}
use Rattle.verdict.specs.Right.{spot_of}
use Rattle.witness_check.proofs.Mapped.{IsMade, all_tell, both_maps}
use Rattle.witness_check.proofs.supplements.spots_hold.Goals as goal

pub returns-then-probes-spots : goal.returns-then-probes-spots
returns-then-probes-spots c =
    let made = λ (p : Probe). spot_of (point_of p) in
    all_tell made c.args.probes.now c.args.spots.now _ c.all.result (both_maps spot_of point_of c.args.probes.now) c.if-probes-spots.true
    (cases_from_all c.all.new.self _ c.all.result (IsMade made) (λ p. p.1 ≢ made p.0) c.all.ensures.ran (YieldsList-from_zip (YieldsList-from_slice c.args.probes.now cc) (YieldsList-from_slice c.args.spots.now cc)) (λ x q k. search (rules, tests)) (λ x q k. search (rules, tests)))
