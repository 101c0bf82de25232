use Rattle.std.proofs.Common.{◌+◌, arith, subst, sym, ℕ}
use Rattle.witness_check.proofs.Bare.{IsBareTo, bare_more, bare_skip, bare_stops, none_when, some_when}
use Rattle.witness_check.proofs.Told.{refuted, denied, told}
use Rattle.witness_check.proofs.points.bare_holds.Goals.{then-is_none+else-not-stands_at, else-is_none}
use Rattle.witness_check.proofs.points.bare_holds.Goals as goal

pub returns-then-not-stands_at : goal.returns-then-not-stands_at
returns-then-not-stands_at c =
    refuted _ (bare_stops c.args.bare.now c.args.lines.now c.loop-i.at c.loop-i.i _ c.loop-i.invariant (omega arith) (none_when _ c.is_none.result c.is_none.ensures c.if-is_none.true) (denied c.stands_at.result _ c.stands_at.ensures c.if-not-stands_at.true))

pub loop-i-preserved : goal.loop-i-preserved
loop-i-preserved c = elim c.if-is_none.branch [
  | then-is_none+else-not-stands_at w ↦
      subst (λ (at : ℕ). IsBareTo c.args.bare.now c.args.lines.now at (c.loop-i.i + 1)) (sym w.at-is)
      (bare_more c.args.bare.now c.args.lines.now c.loop-i.at c.loop-i.i _ c.loop-i.invariant (omega arith) (none_when _ c.is_none.result c.is_none.ensures w.if-is_none.true) (told w.stands_at.result _ w.stands_at.ensures w.if-not-stands_at.false))
  | else-is_none w ↦
      subst (λ (at : ℕ). IsBareTo c.args.bare.now c.args.lines.now at (c.loop-i.i + 1)) (sym w.at-is)
      (let some = some_when _ c.is_none.result c.is_none.ensures w.if-is_none.false in bare_skip c.args.bare.now c.args.lines.now c.loop-i.at c.loop-i.i some.0 _ c.loop-i.invariant (omega arith) some.1)
]
