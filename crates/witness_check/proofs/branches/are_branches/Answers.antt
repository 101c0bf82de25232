use Rattle.std.proofs.Common.{ℕ, ◌++◌, List, arith, subst}
use Rattle.witness_check.specs.Marked.{AreStamped}
use Rattle.witness_check.proofs.Told.{refuted, told, denied}
use Rattle.witness_check.proofs.Naming.{name_at, named_long}
use Rattle.witness_check.proofs.Branching.{branched_more, branched_stops}
use Rattle.witness_check.proofs.branches.are_branches.Goals as goal

pub is_branch-requires-clause-name : goal.is_branch-requires-clause-name
is_branch-requires-clause-name c = name_at c.args.branches.now c.args.marks.now c.loop-i.i c.index-branches-i.result (record { name = 0; probe = 0 }) c.requires.names (omega arith) c.index-branches-i.is

pub returns-then-not-is_branch-clause-right : goal.returns-then-not-is_branch-clause-right
returns-then-not-is_branch-clause-right c = λ number lines firsts.
    let long = named_long c.args.branches.now c.args.marks.now c.requires.names in
    refuted _ (branched_stops c.args.net.now c.args.homes.now c.args.marks.now c.args.branches.now c.args.stamp _ c.loop-i.i c.loop-i.stamps c.index-branches-i.result (record { name = 0; probe = 0 }) (omega arith) (omega arith) c.index-branches-i.is
    (λ k ls ends first are. denied c.is_branch.result _ (c.is_branch.ensures.right k ls ends first are) c.if-not-is_branch.true) c.loop-i.invariant number lines firsts)

pub loop-i-preserved : goal.loop-i-preserved
loop-i-preserved c =
    let long = named_long c.args.branches.now c.args.marks.now c.requires.names in
    branched_more c.args.net.now c.args.homes.now c.args.marks.now c.args.branches.now c.args.stamp _ c.loop-i.i c.loop-i.stamps c.stamp_all.new.stamps c.index-branches-i.result (record { name = 0; probe = 0 }) (omega arith) (omega arith) c.index-branches-i.is (omega arith)
    c.stamp_all.ensures.highest (λ k ls ends first are. told c.is_branch.result _ (c.is_branch.ensures.right k ls ends first are) c.if-not-is_branch.false)
    (λ ends are. subst (λ (xs : List ℕ). AreStamped (ends ++ xs) c.args.stamp c.stamp_all.new.stamps) c.as_slice.ensures (c.stamp_all.ensures.stamped ends are)) c.loop-i.invariant
