use Rattle.board_shapes.specs.Plain.{plain_board}
use Rattle.witness_check.proofs.Filing.{away_there}
use Rattle.witness_check.proofs.extent.away_at.Goals as goal

pub returns : goal.returns
returns c = away_there (plain_board c.args.board.now) c.probes.result.now c.args.k _ c.frame.result c.away_of.result c.probes.ensures.items c.requires c.frame.ensures c.away_of.ensures
