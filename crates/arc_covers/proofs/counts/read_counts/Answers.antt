use Rattle.std.proofs.Common.{List, ℕ, ap, subst, sym, ◌∙◌, IfErr, IfOk}
use Rattle.verdict.specs.ReportReading.{behind}
use Rattle.verdict.proofs.Steps.{behind_again, behind_takes}
use Rattle.arc_covers.specs.Counts.{AreCounts, IsCountsFault, first_line}
use Rattle.arc_covers.proofs.Counted.{none_some}
use Rattle.arc_covers.proofs.counts.read_counts.Goals as goal

pub returns-in-Some-clause-ok : goal.returns-in-Some-clause-ok
returns-in-Some-clause-ok c = subst (λ (t : List ℕ). IfOk c.read_lines.result (λ counts. AreCounts t counts.lower counts.upper)) (sym (behind_takes first_line c.args.bytes.now c.in-Some.lines.now (sym c.in-Some.ensures))) c.read_lines.ensures.ok

pub returns-in-Some-clause-fault : goal.returns-in-Some-clause-fault
returns-in-Some-clause-fault c = subst (λ (t : List ℕ). IfErr c.read_lines.result (IsCountsFault t)) (sym (behind_takes first_line c.args.bytes.now c.in-Some.lines.now (sym c.in-Some.ensures))) c.read_lines.ensures.fault

pub returns-in-None-clause-fault : goal.returns-in-None-clause-fault
returns-in-None-clause-fault c = λ more e. none_some more (c.in-None.ensures ∙ (ap (behind first_line) e ∙ behind_again first_line more))
