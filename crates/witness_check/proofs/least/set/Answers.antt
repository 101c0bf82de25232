use Rattle.std.proofs.Common.{◌+◌, arith, refl, subst, sym}
use Rattle.std.proofs.lemmas.Int.{ints}
use Rattle.board_shapes.specs.Plain.{plain_board}
use Rattle.witness_check.specs.Strips.{AreSet}
use Rattle.witness_check.proofs.Filing.{set_less, set_more}
use Rattle.witness_check.proofs.least.set.Goals.{else-away-via-then-away+else-away-2, else-away-via-else-away}
use Rattle.witness_check.proofs.least.set.Goals as goal

pub returns-in_ok-push : goal.returns-in_ok-push
returns-in_ok-push c = λ were. subst (AreSet (plain_board c.args.board.now) c.args.height (c.args.k + 1)) (sym c.in_ok-push.ensures.items) (set_more (plain_board c.args.board.now) c.args.height c.args.k c.away_at-away.result c.args.points.now.items _ (rw c.place_of-place.ensures refl) c.away_at-away.ensures were)

pub returns-else-away : goal.returns-else-away
returns-else-away c = λ were. set_less (plain_board c.args.board.now) c.args.height c.args.k c.away_at-away.result c.args.points.now.items (λ short flat. elim c.else-away.branch [
  | else-away-via-then-away+else-away-2 v ↦ let far = v.if-away-2.false in omega (arith, ints, flat)
  | else-away-via-else-away v ↦ let far = v.if-away.false in omega (arith, ints, short)
]) c.away_at-away.ensures were
