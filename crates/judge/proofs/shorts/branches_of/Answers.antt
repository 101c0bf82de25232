use Rattle.std.proofs.Common.{ℕ, ◌++◌, List, All, Contains, arith, sym, subst}
use Rattle.verdict.specs.Forest.{pieces_of}
use Rattle.judge.specs.Judged.{AreFlags}
use Rattle.judge.proofs.Branches.{branched_root, branched_more}
use Rattle.judge.proofs.shorts.branches_of.Goals as goal

pub path_of-requires-clause-root : goal.path_of-requires-clause-root
path_of-requires-clause-root c = branched_root c.args.net.now c.args.homes.now c.args.marks.now _ _ _ c.loop-mark.invariant c.requires.some

pub flag_path-requires-clause-inside : goal.flag_path-requires-clause-inside
flag_path-requires-clause-inside c = subst (λ (xs : List ℕ). All (λ piece. Contains (pieces_of c.args.net.now) piece) xs) (sym c.as_slice.ensures) c.in_ok-pieces.ensures.inside

pub loop-mark-preserved : goal.loop-mark-preserved
loop-mark-preserved c =
    branched_more c.args.net.now c.args.homes.now c.args.marks.now c.loop-mark.mark-index (record { name = 0; probe = 0 }) c.loop-mark.branches c.push.new.self c.loop-mark.flags c.flag_path.new.flags c.home_of.result c.in_ok-pieces.pieces (omega arith) c.loop-mark.invariant (omega arith)
    c.home_of.ensures c.in_ok-pieces.ensures.start c.in_ok-pieces.ensures.path
    (λ ends a. subst (λ (xs : List ℕ). AreFlags c.args.net.now (ends ++ xs) c.flag_path.new.flags) c.as_slice.ensures (c.flag_path.ensures ends a)) c.in_ok-push.ensures.ok
