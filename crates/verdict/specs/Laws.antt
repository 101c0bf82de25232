-- The laws of verdicts.
use Rattle.std.specs.Prelude.{◌≡◌, ◌≤◌, ℕ, List, [], ◌++◌, length, None}
use Rattle.tables.specs.Tables.{Tables}
use Rattle.texts.specs.declared.TheConstants.{MOST_BYTES}
use Rattle.verdict.specs.declared.verdict.Verdict.{Verdict}
use Rattle.verdict.specs.Lawful.{IsVerdict}
use Rattle.verdict.specs.Limits.{HasCountsOf, HasFewParts, HasSmallParts}
use Rattle.verdict.specs.ReportText.{report_text}
use Rattle.verdict.specs.Right.{IsRight}

-- two verdicts with the same text are equal
abbrev pub ReportTextIsInjective : Type 0
ReportTextIsInjective = (v w : Verdict) → IsVerdict v → IsVerdict w → report_text v ≡ report_text w → v ≡ w

-- a report that another begins with is that whole report: so a report without its end is no report
abbrev pub NoReportIsAFront : Type 0
NoReportIsAFront = (v w : Verdict) (rest : List ℕ) → IsVerdict v → IsVerdict w → report_text v ++ rest ≡ report_text w → rest ≡ []

-- the report of version 1 of a verdict with few parts and small numbers is short enough to be a file
abbrev pub ReportsAreShort : Type 0
ReportsAreShort = (v : Verdict) → HasSmallParts v → HasFewParts v → v.more ≡ None → length (report_text v) ≤ MOST_BYTES

-- a right verdict lists no more than its board has points and pieces for
abbrev pub RightVerdictsAreFew : Type 0
RightVerdictsAreFew = (board : Tables) (v : Verdict) → IsRight board v → HasCountsOf board v
