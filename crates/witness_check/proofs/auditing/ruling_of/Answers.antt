use Rattle.std.proofs.Common.{◌<◌, ◌^◌, List, length, subst, sym}
use Rattle.board_shapes.specs.Plain.{plain_board}
use Rattle.verdict.specs.declared.verdict.Twig.{Twig}
use Rattle.witness_check.specs.Nets.{HasStanding}
use Rattle.witness_check.proofs.Parts.{few_in, known_in, none_told, once_denied, some_told, stood_told, tested_after, trees_denied, trees_told}
use Rattle.witness_check.proofs.Clauses.{trees_fail, covers_fail}
use Rattle.witness_check.proofs.auditing.ruling_of.Goals as goal

pub returns-then-not-branch-clause-rules : goal.returns-then-not-branch-clause-rules
returns-then-not-branch-clause-rules g c =
    λ t is. trees_fail (plain_board c.args.board.now) t c.args.v.now is (trees_denied (plain_board c.args.board.now) c.as_slice-nets.result.now c.args.v.now.nets c.in_ok-are_trees.field-0 c.as_slice-nets.ensures c.in_ok-are_trees.ensures.trees c.if-not-branch.true)

pub standing_of-requires-clause-known : goal.standing_of-requires-clause-known
standing_of-requires-clause-known g c =
    let trees = trees_told (plain_board c.args.board.now) c.as_slice-nets.result.now c.args.v.now.nets c.in_ok-are_trees.field-0 c.as_slice-nets.ensures c.in_ok-are_trees.ensures.trees c.if-not-branch.false in
    known_in (plain_board c.args.board.now) c.pieces-pieces.result.now c.as_slice-nets.result.now c.args.v.now.nets c.pieces-pieces.ensures.plain c.as_slice-nets.ensures trees

pub returns-in_default-clause-rules : goal.returns-in_default-clause-rules
returns-in_default-clause-rules g c =
    let trees = trees_told (plain_board c.args.board.now) c.as_slice-nets.result.now c.args.v.now.nets c.in_ok-are_trees.field-0 c.as_slice-nets.ensures c.in_ok-are_trees.ensures.trees c.if-not-branch.false in
    λ t is. covers_fail (plain_board c.args.board.now) t c.args.v.now is trees (once_denied (plain_board c.args.board.now) c.pieces-pieces.result.now c.as_slice-nets.result.now c.args.v.now.nets c.pieces-pieces.ensures.plain c.as_slice-nets.ensures (none_told c.in_ok-standing.field-0 _ _ c.in_default.is c.in_ok-standing.ensures))

pub standing_of-requires-clause-few : goal.standing_of-requires-clause-few
standing_of-requires-clause-few g c =
    let trees = trees_told (plain_board c.args.board.now) c.as_slice-nets.result.now c.args.v.now.nets c.in_ok-are_trees.field-0 c.as_slice-nets.ensures c.in_ok-are_trees.ensures.trees c.if-not-branch.false in
    subst (λ (n : List (List Twig)). length n < 2 ^ 32) (sym c.as_slice-nets.ensures) (few_in (plain_board c.args.board.now) c.pieces-pieces.result.now c.args.v.now.nets c.pieces-pieces.ensures.plain c.pieces-pieces.ensures.few trees)

pub apart_ruling-requires-clause-trees : goal.apart_ruling-requires-clause-trees
apart_ruling-requires-clause-trees g c = trees_told (plain_board c.args.board.now) c.as_slice-nets.result.now c.args.v.now.nets c.in_ok-are_trees.field-0 c.as_slice-nets.ensures c.in_ok-are_trees.ensures.trees c.if-not-branch.false

pub apart_ruling-requires-clause-stood : goal.apart_ruling-requires-clause-stood
apart_ruling-requires-clause-stood g c =
    let stood : HasStanding (length c.pieces-pieces.result.now) c.as_slice-nets.result.now c.in-Some.standing.numbers.items c.in-Some.standing.places.items = some_told c.in_ok-standing.field-0 c.in-Some.standing _ _ c.in-Some.is c.in_ok-standing.ensures in
    stood_told (plain_board c.args.board.now) c.pieces-pieces.result.now c.as_slice-nets.result.now c.args.v.now.nets _ _ c.pieces-pieces.ensures.plain c.as_slice-nets.ensures stood

pub returns-clause-tests : goal.returns-clause-tests
returns-clause-tests g c = tested_after (plain_board c.args.board.now) c.as_slice-nets.result.now c.args.v.now.nets _ _ _ c.as_slice-nets.ensures c.in_ok-are_trees.ensures.tests c.apart_ruling.ensures.tests
