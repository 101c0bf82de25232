use Rattle.boardnet.proofs.Netlists.{written_netlists_pass}
use Rattle.boardnet.proofs.laws.written_netlists_pass.Goals as goal

pub returns : goal.returns
returns c = written_netlists_pass c.one_outcome.ensures c.boards_are_writable.ensures c.written_netlist_reads.ensures c.written_netlists_are_short.ensures c.written_netlist_agrees.ensures
