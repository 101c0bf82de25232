use Rattle.std.proofs.Common.{◌*◌, ◌+◌, ◌≤◌, ◌∙◌, List, subst}
use Rattle.board_shapes.specs.Plain.{plain_board}
use Rattle.board_shapes.specs.declared.placed.Placed.{Placed}
use Rattle.board_shapes.specs.declared.shape.Shape.{Shape}
use Rattle.reports.specs.Right.{rival_pairs}
use Rattle.reports.proofs.OnBoard.{trees_on, homes_on, right_on}
use Rattle.reports.proofs.judged.verdict_of.Goals as goal

pub judge-requires-clause-trees : goal.judge-requires-clause-trees
judge-requires-clause-trees g c =
    trees_on c.nets_are_of_the_board.ensures (plain_board c.args.board.now) c.pieces.result.now c.in_ok-pieces.pieces.items.now c.in_ok-trees.trees c.in_ok-pieces.ensures.items c.pieces.ensures.plain c.in_ok-trees.ensures.nets

pub judge-requires-clause-homes : goal.judge-requires-clause-homes
judge-requires-clause-homes g c =
    homes_on c.homes_are_of_the_board.ensures (plain_board c.args.board.now) c.pieces.result.now c.in_ok-pieces.pieces.items.now c.probes.result.now c.in_ok-least.least c.in_ok-pieces.ensures.items c.pieces.ensures.plain c.probes.ensures.items c.in_ok-least.ensures.least

pub returns-clause-right : goal.returns-clause-right
returns-clause-right g c =
    right_on (plain_board c.args.board.now) c.judge.result (c.tables_are_unique.ensures.unique (plain_board c.args.board.now) (c.boards_are_lawful.ensures c.args.board.now)) c.tables_tell_joins.ensures.consistent c.tables_tell_joins.ensures.joins c.net_numbers_are_joins.ensures c.judge.ensures.right

pub returns-clause-pairs : goal.returns-clause-pairs
returns-clause-pairs g c =
    subst (λ (xs : List (Placed Shape)). c.flood.new.tests ≤ c.args.tests.now + 2 * rival_pairs xs) (c.in_ok-pieces.ensures.items ∙ c.pieces.ensures.items) c.flood.ensures.pairs
