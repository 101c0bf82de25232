use Rattle.std.proofs.Common.{◌≡◌, ◌∙◌, ◌+◌, ◌-◌, arith, sym}
use Rattle.aperture_macros.specs.Images.{set_down}
use Rattle.aperture_macros.proofs.Steps.{moved_bad, moved_more, moved_none}
use Rattle.aperture_macros.proofs.outline.Outline.points.Goals as goal

pub returns-in-Err-clause-fault : goal.returns-in-Err-clause-fault
returns-in-Err-clause-fault c =
    sym c.loop.invariant ∙ moved_bad (set_down c.args.by.rotation c.args.by.at) c.loop.points.items (c.args.self.now.edges + 1) c.loop.counter c.in-Err.fault c.loop.rest.now c.args.self.now.parameters.now c.args.self.now.unit c.loop-test.true (sym c.in-Err.ensures.value)

pub loop-preserved : goal.loop-preserved
loop-preserved c =
    let f = set_down c.args.by.rotation c.args.by.at in
    let more = moved_more f c.loop.points.items (c.args.self.now.edges + 1) c.loop.counter c.in-Ok.p c.loop.rest.now c.args.self.now.parameters.now c.args.self.now.unit c.loop-test.true (sym c.in-Ok.ensures.value) in
    rw (c.in-Ok-push.ensures.items, c.moved.ensures, c.past-rest.ensures) (sym more ∙ c.loop.invariant)

pub returns-clause-ok : goal.returns-clause-ok
returns-clause-ok c =
    let end : c.args.self.now.edges + 1 - c.loop.counter ≡ 0 = omega arith in
    sym (rw end at c.loop.invariant) ∙ moved_none (set_down c.args.by.rotation c.args.by.at) c.loop.points.items c.loop.rest.now c.args.self.now.parameters.now c.args.self.now.unit
