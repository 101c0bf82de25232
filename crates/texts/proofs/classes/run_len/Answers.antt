use Rattle.std.proofs.Common.{◌≡◌, ◌∙◌, length, sym, arith}
use Rattle.texts.proofs.Runs.{prefix_len_at}
use Rattle.texts.proofs.classes.run_len.Goals as goal

pub returns-then-not-has-clause-value : goal.returns-then-not-has-clause-value
returns-then-not-has-clause-value g c =
    sym (prefix_len_at g.C.ByteClass.member c.args.text.now c.loop-i.i c.loop-i.invariant (omega arith) (λ below. sym c.has.ensures ∙ c.if-not-has.true))

pub returns-clause-value : goal.returns-clause-value
returns-clause-value g c =
    let end : c.loop-i.i ≡ length c.args.text.now = omega arith in
    sym (prefix_len_at g.C.ByteClass.member c.args.text.now (length c.args.text.now) (rw end at c.loop-i.invariant) (omega arith) (λ below. absurd (omega arith)))
