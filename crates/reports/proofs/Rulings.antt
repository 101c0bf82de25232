-- The answer that says a ruling.
use Rattle.std.proofs.Common.{inl, inr, ℕ, List, ap}
use Rattle.board_shapes.specs.Laws.{HasOneTables}
use Rattle.board_shapes.specs.Plain.{PlainBoard}
use Rattle.reports.specs.Notes.{line_of, status_of}
use Rattle.reports.specs.Rulings.{Answers, HasRuling, IsRuledOn, IsRulingOn}
use Rattle.reports.specs.declared.answer.Answer.{Answer}
use Rattle.tables.specs.Tables.{Tables}
use Rattle.verdict.specs.declared.verdict.Verdict.{Verdict}
use Rattle.witness_check.specs.Ruled.{Rules}
use Rattle.witness_check.specs.declared.auditing.Ruling.{Ruling}
use Rattle.witness_check.specs.declared.auditing.Ruling.TheVariants.{True, Untrue}

has_ruling : (tables : Tables) (v : Verdict) (ruling : Ruling) (answer : Answer) → Rules tables v ruling → Answers ruling answer → HasRuling tables v answer.text.items (status_of answer.note) (line_of answer.note)
has_ruling tables v True answer rules (text, said) = inl (rules, text, ap status_of said, ap line_of said)
has_ruling tables v (Untrue n) answer rules (text, said) = inr (n, rules, text, ap status_of said, ap line_of said)

pub ruling_on : (board : PlainBoard) (bytes : List ℕ) (ruling : Ruling) (answer : Answer) → HasOneTables board → IsRuledOn board bytes ruling → Answers ruling answer → IsRulingOn board bytes answer
ruling_on board bytes ruling answer one r said = record {
  tables = one.tables;
  tables_are = one.are;
  verdict = r.verdict;
  text = r.text;
  ruling = has_ruling one.tables r.verdict ruling answer (r.rules one.tables one.are) said;
}
