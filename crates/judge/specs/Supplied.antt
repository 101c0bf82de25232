-- A verdict with a supplement.
use Rattle.std.specs.Prelude.{Some}
use Rattle.verdict.specs.declared.verdict.Supplement.{Supplement}
use Rattle.verdict.specs.declared.verdict.Verdict.{Verdict}

-- the verdict, and the supplement with it
abbrev pub with_supplement : Verdict → Supplement → Verdict
with_supplement v more = record v { more = Some more }
