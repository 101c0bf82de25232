use Rattle.std.proofs.Common.{◌∙◌, ◌+◌, ◌-◌, ap, sym}
use Rattle.aperture_macros.specs.BodyWord as spec
use Rattle.aperture_macros.proofs.Steps.{past_more}
use Rattle.aperture_macros.proofs.body_word.past.Goals as goal

pub loop-preserved : goal.loop-preserved
loop-preserved c =
    ap (λ x. spec.past (c.args.n - (c.loop.counter + 1)) x) c.after_byte-rest.ensures ∙ (sym (past_more c.args.n c.loop.counter c.loop.rest.now c.loop-test.true) ∙ c.loop.invariant)
