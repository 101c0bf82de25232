-- What an audit says of a verdict.
use Rattle.tables.specs.Tables.{Tables}
use Rattle.verdict.specs.declared.verdict.Verdict.{Verdict}
use Rattle.verdict.specs.Right.{FailsFirst, IsRight}
use Rattle.witness_check.specs.declared.auditing.Ruling.{Ruling}
use Rattle.witness_check.specs.declared.auditing.Ruling.TheVariants.{True, Untrue}

-- The verdict is right, or clause n is the first that does not hold.
abbrev pub Rules : Tables → Verdict → Ruling → Type 0
Rules t v True = IsRight t v
Rules t v (Untrue n) = FailsFirst t v n
