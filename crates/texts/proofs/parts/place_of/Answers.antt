use Rattle.std.proofs.Common.{◌≡◌, length, sym, arith}
use Rattle.texts.proofs.Runs.{place_at}
use Rattle.texts.proofs.parts.place_of.Goals as goal

pub returns-then-b-byte-clause-value : goal.returns-then-b-byte-clause-value
returns-then-b-byte-clause-value c =
    sym (place_at c.args.byte c.args.text.now c.loop-i.i c.loop-i.invariant (omega arith) (λ below. c.if-b-byte.true))

pub returns-clause-value : goal.returns-clause-value
returns-clause-value c =
    let end : c.loop-i.i ≡ length c.args.text.now = omega arith in
    sym (place_at c.args.byte c.args.text.now (length c.args.text.now) (rw end at c.loop-i.invariant) (omega arith) (λ below. absurd (omega arith)))
