-- A right verdict with the supplement of its board.
use Rattle.board_shapes.specs.Plain.{PlainBoard}
use Rattle.board_shapes.specs.Tables.{IsTables}
use Rattle.reports.specs.Right.{IsRightOn}
use Rattle.judge.specs.Supplied.{with_supplement}
use Rattle.tables.specs.Tables.{Tables}
use Rattle.verdict.specs.Right.{IsRight}
use Rattle.verdict.specs.declared.verdict.Supplement.{Supplement}
use Rattle.verdict.specs.declared.verdict.Verdict.{Verdict}

pub supplemented_on : (b : PlainBoard) (v : Verdict) (more : Supplement) → IsRightOn b v → ((t : Tables) (w : Verdict) → IsTables b t → IsRight t w → IsRight t (with_supplement w more)) → IsRightOn b (with_supplement v more)
supplemented_on b v more is h = record {
  tables = is.tables;
  tables_are = is.tables_are;
  right = h is.tables v is.tables_are is.right;
  joins = is.joins;
}
