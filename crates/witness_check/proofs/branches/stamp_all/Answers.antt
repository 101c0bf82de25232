use Rattle.std.proofs.Common.{ℕ, ◌<◌, ◌++◌, List, length, get_or, set, take, arith, sym, subst}
use Rattle.std.proofs.lemmas.List.{take_all, take_more}
use Rattle.std.proofs.lemmas.List.Elements.{All-get_or}
use Rattle.witness_check.specs.Marked.{AreStamped}
use Rattle.witness_check.proofs.Stamping.{AreStampedTo, stamping_more}
use Rattle.witness_check.proofs.branches.stamp_all.Goals as goal

pub loop-piece-preserved : goal.loop-piece-preserved
loop-piece-preserved c =
    let i : ℕ = c.loop-piece.piece-index in
    let q : ℕ = get_or c.args.pieces.now i 0 in
    subst (λ (xs : List ℕ). AreStampedTo c.args.stamp c.args.stamps.now xs (set c.loop-piece.stamps q c.args.stamp)) (sym (take_more c.args.pieces.now i 0 (omega arith)))
    (stamping_more c.args.stamp c.args.stamps.now (take i c.args.pieces.now) c.loop-piece.stamps q (All-get_or (λ piece. piece < length c.args.stamps.now) c.args.pieces.now i 0 (omega arith) c.requires.inside) c.loop-piece.invariant)

pub returns-clause-stamped : goal.returns-clause-stamped
returns-clause-stamped c = λ ends are. subst (λ (xs : List ℕ). AreStamped (ends ++ xs) c.args.stamp c.loop-piece.stamps) (take_all c.loop-piece.piece-index c.args.pieces.now (omega arith)) (c.loop-piece.invariant.stamped ends are)
