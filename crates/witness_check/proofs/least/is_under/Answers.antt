use Rattle.std.proofs.lemmas.Option.{slice_get_read}
use Rattle.board_shapes.specs.Plain.{plain_board, plain_piece}
use Rattle.witness_check.proofs.Touching.{under_is, piece_there, probe_there, long_as}
use Rattle.witness_check.proofs.least.is_under.Goals as goal

pub returns : goal.returns
returns c =
    let items = c.pieces.result.now in
    let long = long_as (plain_board c.args.board.now) items c.pieces.ensures.plain in
    under_is (plain_board c.args.board.now) c.args.k c.args.p (plain_piece c.index-pieces-p.result) _ c.under.result
    (piece_there (plain_board c.args.board.now) items c.args.p c.index-pieces-p.result c.pieces.ensures.plain (slice_get_read items _ c.args.p c.index-pieces-p.result long c.requires.piece c.index-pieces-p.is))
    (probe_there (plain_board c.args.board.now) c.probes.result.now c.args.k _ c.probes.ensures.items c.requires.probe) c.under.ensures.under
