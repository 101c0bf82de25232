use Rattle.board_shapes.specs.Plain.{plain_board}
use Rattle.board_shapes.specs.Tables.{IsNear}
use Rattle.std.proofs.Common.{length, ◌≡◌, ℕ, ◌+◌, ◌≤◌, List, [], arith, sym, ap, ◌∙◌, subst}
use Rattle.std.proofs.lemmas.List.{get_or_read}
use Rattle.verdict.specs.declared.verdict.Twig.{Twig}
use Rattle.verdict.specs.Forest.{first_piece, net_at}
use Rattle.verdict.proofs.Holding.{held_within}
use Rattle.witness_check.specs.Nets.{IsKnownTree}
use Rattle.witness_check.proofs.Trees.{AreJudged, judged_more, judged_all, tree_at, twigs_more, twigs_most}
use Rattle.witness_check.proofs.Told.{refuted, proved, told, denied}
use Rattle.witness_check.proofs.nets.all_trees.Goals as goal

pub returns-then-not-is_tree-clause-trees : goal.returns-then-not-is_tree-clause-trees
returns-then-not-is_tree-clause-trees g c =
    let size : ℕ = length (plain_board c.args.board.now).pieces in
    let near : ℕ → ℕ → Type 0 = IsNear (plain_board c.args.board.now) in
    let same : c.as_slice-net.result.now ≡ net_at c.args.nets.now c.loop-i.i = c.as_slice-net.ensures ∙ get_or_read c.args.nets.now c.loop-i.i c.index-nets-i.result (omega arith) c.index-nets-i.is [] in
    refuted _ (λ t. denied c.is_tree.result _ c.is_tree.ensures.tree c.if-not-is_tree.true (subst (λ (n : List Twig). IsKnownTree size near n) (sym same) (tree_at size near c.args.nets.now c.loop-i.i t (omega arith))))

pub returns-then-not-is_tree-clause-tests : goal.returns-then-not-is_tree-clause-tests
returns-then-not-is_tree-clause-tests g c =
    let same : c.as_slice-net.result.now ≡ net_at c.args.nets.now c.loop-i.i = c.as_slice-net.ensures ∙ get_or_read c.args.nets.now c.loop-i.i c.index-nets-i.result (omega arith) c.index-nets-i.is [] in
    let more = twigs_more c.args.nets.now c.loop-i.i (omega arith) in
    let most = twigs_most c.args.nets.now (c.loop-i.i + 1) in
    let long = ap (λ (n : List Twig). length n) same in
    let tests = c.is_tree.ensures.tests in
    let sofar = c.loop-i.invariant.1 in
    omega arith

pub returns-then-first-floor-clause-tests : goal.returns-then-first-floor-clause-tests
returns-then-first-floor-clause-tests g c =
    let same : c.as_slice-net.result.now ≡ net_at c.args.nets.now c.loop-i.i = c.as_slice-net.ensures ∙ get_or_read c.args.nets.now c.loop-i.i c.index-nets-i.result (omega arith) c.index-nets-i.is [] in
    let more = twigs_more c.args.nets.now c.loop-i.i (omega arith) in
    let most = twigs_most c.args.nets.now (c.loop-i.i + 1) in
    let long = ap (λ (n : List Twig). length n) same in
    let tests = c.is_tree.ensures.tests in
    let sofar = c.loop-i.invariant.1 in
    omega arith

pub loop-i-preserved : goal.loop-i-preserved
loop-i-preserved g c =
    let size : ℕ = length (plain_board c.args.board.now).pieces in
    let near : ℕ → ℕ → Type 0 = IsNear (plain_board c.args.board.now) in
    let same : c.as_slice-net.result.now ≡ net_at c.args.nets.now c.loop-i.i = c.as_slice-net.ensures ∙ get_or_read c.args.nets.now c.loop-i.i c.index-nets-i.result (omega arith) c.index-nets-i.is [] in
    let first : c.first_of-first.result ≡ first_piece (net_at c.args.nets.now c.loop-i.i) = c.first_of-first.ensures.value ∙ ap first_piece same in
    let tree : IsKnownTree size near (net_at c.args.nets.now c.loop-i.i) = subst (λ (n : List Twig). IsKnownTree size near n) same (told c.is_tree.result _ c.is_tree.ensures.tree c.if-not-is_tree.false) in
    let above : c.loop-i.floor ≤ first_piece (net_at c.args.nets.now c.loop-i.i) = omega arith in
    let more = twigs_more c.args.nets.now c.loop-i.i (omega arith) in
    let long = ap (λ (n : List Twig). length n) same in
    let tests = c.is_tree.ensures.tests in
    let sofar = c.loop-i.invariant.1 in (
      subst (λ (f : ℕ). AreJudged size near c.args.nets.now (c.loop-i.i + 1) (f + 1) c.is_tree.new.stamps) (sym first)
          (judged_more size near c.args.nets.now c.loop-i.i c.loop-i.floor c.loop-i.stamps c.is_tree.new.stamps c.loop-i.invariant.0 tree above (omega arith) c.is_tree.ensures.stamps),
      omega arith,
    )

pub returns-clause-trees : goal.returns-clause-trees
returns-clause-trees g c = proved _ (judged_all (length (plain_board c.args.board.now).pieces) (IsNear (plain_board c.args.board.now)) c.args.nets.now c.loop-i.i c.loop-i.floor c.loop-i.stamps c.loop-i.invariant.0 (omega arith) (held_within c.args.nets.now))

pub returns-clause-tests : goal.returns-clause-tests
returns-clause-tests g c =
    let most = twigs_most c.args.nets.now c.loop-i.i in
    let sofar = c.loop-i.invariant.1 in
    omega arith
