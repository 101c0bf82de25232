use Rattle.board_shapes.specs.Plain.{plain_board}
use Rattle.reports.proofs.OnBoard.{forest_on}
use Rattle.reports.proofs.netlist.netlist_on.Goals as goal

pub write_netlist-requires : goal.write_netlist-requires
write_netlist-requires c = record { nets = forest_on (plain_board c.args.board.now) c.in_ok-verdict.verdict c.in_ok-verdict.ensures.right }
