use Rattle.std.proofs.Common.{List, length, ap, subst, arith}
use Rattle.std.proofs.lemmas.List.{length-map}
use Rattle.board_shapes.specs.Pieces.{plain_piece}
use Rattle.board_shapes.specs.Plain.{plain_board}
use Rattle.board_shapes.specs.Tables.{IsNear}
use Rattle.verdict.specs.declared.verdict.Twig.{Twig}
use Rattle.verdict.specs.Forest.{Holds}
use Rattle.netlist_writer.proofs.Nets.{few_nets}
use Rattle.netlist_writer.proofs.netlist.write_netlist.Goals as goal

pub push_places-requires-clause-few_pieces : goal.push_places-requires-clause-few_pieces
push_places-requires-clause-few_pieces c =
    let most = (c.boards_are_lawful.ensures c.args.board.now).few_pieces in
    let plain = ap length c.pieces.ensures.plain in
    let long = length-map c.pieces.result.now plain_piece in
    omega (arith, most, plain, long)

pub push_places-requires-clause-few_nets : goal.push_places-requires-clause-few_nets
push_places-requires-clause-few_nets c =
    let few = few_nets (length (plain_board c.args.board.now).pieces) (IsNear (plain_board c.args.board.now)) c.args.nets.now c.requires.nets.trees in
    let same = ap length c.as_slice.ensures in
    let most = (c.boards_are_lawful.ensures c.args.board.now).few_pieces in
    omega (arith, few, same, most)

pub push_places-requires-clause-known : goal.push_places-requires-clause-known
push_places-requires-clause-known c = λ i p h. (
    let below = c.requires.nets.trees.known i p (subst (λ (nets : List (List Twig)). Holds nets i p) c.as_slice.ensures h) in
    let plain = ap length c.pieces.ensures.plain in
    let long = length-map c.pieces.result.now plain_piece in
    omega (arith, below, plain, long)
    )
