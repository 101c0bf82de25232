use Rattle.std.proofs.Common.{◌*◌, arith, drop, refl, take}
use Rattle.area_contact.specs.Contour.{Reaches}
use Rattle.area_contact.proofs.RunBoxes.{run_found, run_nowhere, run_past}
use Rattle.area_contact.proofs.search.Search.in_runs.Goals as goal

pub returns-then-in_run : goal.returns-then-in_run
returns-then-in_run c = run_found (Reaches c.args.self.now.capsule.now.a c.args.self.now.capsule.now.b c.args.self.now.capsule.now.r) c.args.self.now.points.now c.args.numbers.now 16 c.loop-k.k (take 16 (drop (16 * c.loop-k.k) c.args.numbers.now)) c.in_run.result refl c.in_run.ensures c.if-in_run.true c.loop-k.invariant

pub loop-k-preserved : goal.loop-k-preserved
loop-k-preserved c = run_past (Reaches c.args.self.now.capsule.now.a c.args.self.now.capsule.now.b c.args.self.now.capsule.now.r) c.args.self.now.points.now c.args.numbers.now 16 c.loop-k.k (take 16 (drop (16 * c.loop-k.k) c.args.numbers.now)) c.in_run.result refl c.in_run.ensures c.if-in_run.false c.loop-k.invariant

pub returns : goal.returns
returns c = run_nowhere (Reaches c.args.self.now.capsule.now.a c.args.self.now.capsule.now.b c.args.self.now.capsule.now.r) c.args.self.now.points.now c.args.numbers.now 16 c.loop-k.k (omega (arith, c.requires.runs.1)) c.loop-k.invariant
