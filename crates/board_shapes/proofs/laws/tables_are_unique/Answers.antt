use Rattle.std.proofs.Common.{inr}
use Rattle.board_shapes.proofs.BoardTables.{tables_are_unique, under_one}
use Rattle.board_shapes.proofs.laws.tables_are_unique.Goals as goal

pub returns : goal.returns
returns c = record { unique = tables_are_unique; close = λ b k i j u v. inr (under_one b k i j u v) }
