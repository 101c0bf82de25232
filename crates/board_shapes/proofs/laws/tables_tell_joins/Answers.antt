use Rattle.board_shapes.proofs.BoardTables.{tables_are_consistent, tables_join_probes}
use Rattle.board_shapes.proofs.laws.tables_tell_joins.Goals as goal

pub returns : goal.returns
returns c = record { consistent = tables_are_consistent; joins = tables_join_probes }
