use Rattle.std.proofs.lemmas.Option.{slice_get_read}
use Rattle.board_shapes.specs.Plain.{plain_board, plain_piece}
use Rattle.witness_check.proofs.Touching.{near_is, piece_there, long_as}
use Rattle.witness_check.proofs.contacts.are_joined.Goals as goal

pub returns-clause-near : goal.returns-clause-near
returns-clause-near g c =
    let items = c.pieces-pieces.result.now in
    let long = long_as (plain_board c.args.board.now) items c.pieces-pieces.ensures.plain in
    let one = piece_there (plain_board c.args.board.now) items c.args.p c.index-pieces-p.result c.pieces-pieces.ensures.plain (slice_get_read items _ c.args.p c.index-pieces-p.result long c.requires.first c.index-pieces-p.is) in
    let two = piece_there (plain_board c.args.board.now) items c.args.q c.index-pieces-q.result c.pieces-pieces.ensures.plain (slice_get_read items _ c.args.q c.index-pieces-q.result long c.requires.second c.index-pieces-q.is) in
    near_is (plain_board c.args.board.now) c.args.p c.args.q (plain_piece c.index-pieces-p.result) (plain_piece c.index-pieces-q.result) c.are_joined_pieces.result one two c.if-q-p.false c.are_joined_pieces.ensures.touch
