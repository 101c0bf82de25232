use Rattle.std.proofs.Common.{◌≡◌, ℕ, ◌-◌, ◌↔◌, length, arith, subst, sym, ◌∙◌}
use Rattle.verdict.specs.Right.{IsPath}
use Rattle.witness_check.proofs.Told.{some_left, refuted, told, denied, tested, through}
use Rattle.witness_check.proofs.Walking.{IsWalked, walk_done, walk_ended, walk_inside, walk_more, walk_strays}
use Rattle.witness_check.proofs.branches.is_path.Goals.{then-value_of-stamp-via-then-value_of-stamp, then-value_of-stamp-via-else-value_of-stamp+then-not-has_parent}
use Rattle.witness_check.proofs.branches.is_path.Goals as goal

pub returns-then-value_of-stamp-clause-path : goal.returns-then-value_of-stamp-clause-path
returns-then-value_of-stamp-clause-path c = λ ends are. refuted _ (λ path. elim c.then-value_of-stamp.branch [
  | then-value_of-stamp-via-then-value_of-stamp w ↦ walk_ended c.args.net.now c.args.stamp c.args.stamps.now c.args.pieces.now c.loop-i.i (omega arith) (let e = c.value_of.ensures in let f = w.if-value_of-stamp.true in omega arith) c.loop-i.invariant ends are path
  | then-value_of-stamp-via-else-value_of-stamp+then-not-has_parent w ↦ walk_strays c.args.net.now c.args.stamp c.args.stamps.now c.args.pieces.now c.loop-i.i (omega arith) (denied w.has_parent.result _ w.has_parent.ensures w.if-not-has_parent.true) c.loop-i.invariant ends are path
])

pub loop-i-preserved : goal.loop-i-preserved
loop-i-preserved c =
    walk_more c.args.net.now c.args.places.now c.args.stamp c.args.stamps.now c.args.pieces.now c.loop-i.i c.requires.places c.requires.room (omega arith) (λ on. let e = c.value_of.ensures in let f = c.if-value_of-stamp.false in omega arith)
    (told c.has_parent.result _ c.has_parent.ensures c.if-not-has_parent.false) c.loop-i.invariant

pub returns-clause-path : goal.returns-clause-path
returns-clause-path c = λ ends are.
    let last : ℕ = length c.args.pieces.now - 1 in
    let some = some_left (length c.args.pieces.now) c.is_empty.result c.is_empty.ensures c.if-is_empty.false in
    let at : c.loop-i.i ≡ last = omega arith in
    let walked : IsWalked c.args.net.now c.args.stamp c.args.stamps.now c.args.pieces.now last = subst (IsWalked c.args.net.now c.args.stamp c.args.stamps.now c.args.pieces.now) at c.loop-i.invariant in
    through _ _ _ (tested c.value_of-2.result c.args.stamp)
    (subst (λ (x : ℕ). (x ≡ c.args.stamp) ↔ IsPath c.args.net.now ends c.args.pieces.now) (sym c.value_of-2.ensures) (walk_done c.args.net.now c.args.stamp c.args.stamps.now c.args.pieces.now last (omega arith) walked ends are))

pub returns-clause-inside : goal.returns-clause-inside
returns-clause-inside c = λ yes.
    let last : ℕ = length c.args.pieces.now - 1 in
    let some = some_left (length c.args.pieces.now) c.is_empty.result c.is_empty.ensures c.if-is_empty.false in
    let at : c.loop-i.i ≡ last = omega arith in
    let walked : IsWalked c.args.net.now c.args.stamp c.args.stamps.now c.args.pieces.now last = subst (IsWalked c.args.net.now c.args.stamp c.args.stamps.now c.args.pieces.now) at c.loop-i.invariant in
    walk_inside c.args.net.now c.args.stamp c.args.stamps.now c.args.pieces.now last c.requires.some (omega arith) (sym c.value_of-2.ensures ∙ (tested c.value_of-2.result c.args.stamp).0 yes) walked
