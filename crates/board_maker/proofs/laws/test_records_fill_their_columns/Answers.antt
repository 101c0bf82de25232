use Rattle.board_maker.proofs.Shortness.{length-test_record}
use Rattle.board_maker.proofs.laws.test_records_fill_their_columns.Goals as goal

pub returns : goal.returns
returns c = length-test_record
