use Rattle.std.proofs.Common.{sym, subst}
use Rattle.boardnet.proofs.Trials.{trial_works}
use Rattle.boardnet.specs.Command.{asked}
use Rattle.boardnet.specs.HandedOutcome.{WorksOn}
use Rattle.boardnet.specs.Outcome.{HandedOver}
use Rattle.boardnet.specs.declared.commands.Command.{Command as Given}
use Rattle.boardnet.proofs.commands.answer_to.Goals as goal

pub returns-in-Trial-clause-work : goal.returns-in-Trial-clause-work
returns-in-Trial-clause-work g c =
    let here = g.P.Package.handed c.args.package.now in
    let count = g.P.Package.faults c.args.package.now in
    subst (λ (z : Given). WorksOn g.P.Package.handed g.P.Package.faults g.P.Package.lost (asked z) c.args.package.now c.args.package.now c.summary.result) (sym c.in-Trial.is)
    (trial_works c.in-Trial.seed c.in-Trial.size (HandedOver here here) count count (g.P.Package.lost c.args.package.now) c.summary.result c.summary.ensures.ok c.summary.ensures.reason)

pub returns-in-Check-clause-work : goal.returns-in-Check-clause-work
returns-in-Check-clause-work g c =
    subst (λ (z : Given). WorksOn g.P.Package.handed g.P.Package.faults g.P.Package.lost (asked z) c.args.package.now c.report.new.package c.report.result) (sym c.in-Check.is) c.report.ensures.work

pub returns-in-Audit-clause-work : goal.returns-in-Audit-clause-work
returns-in-Audit-clause-work g c =
    subst (λ (z : Given). WorksOn g.P.Package.handed g.P.Package.faults g.P.Package.lost (asked z) c.args.package.now c.ruling.new.package c.ruling.result) (sym c.in-Audit.is) c.ruling.ensures.work

pub returns-in-Write-clause-work : goal.returns-in-Write-clause-work
returns-in-Write-clause-work g c =
    subst (λ (z : Given). WorksOn g.P.Package.handed g.P.Package.faults g.P.Package.lost (asked z) c.args.package.now c.netlist.new.package c.netlist.result) (sym c.in-Write.is) c.netlist.ensures.work

pub returns-in-Gaps-clause-work : goal.returns-in-Gaps-clause-work
returns-in-Gaps-clause-work g c =
    subst (λ (z : Given). WorksOn g.P.Package.handed g.P.Package.faults g.P.Package.lost (asked z) c.args.package.now c.gap_list.new.package c.gap_list.result) (sym c.in-Gaps.is) c.gap_list.ensures.work

pub returns-in-X2-clause-work : goal.returns-in-X2-clause-work
returns-in-X2-clause-work g c =
    subst (λ (z : Given). WorksOn g.P.Package.handed g.P.Package.faults g.P.Package.lost (asked z) c.args.package.now c.labelled_report.new.package c.labelled_report.result) (sym c.in-X2.is) c.labelled_report.ensures.work

pub returns-in-Flatten-clause-work : goal.returns-in-Flatten-clause-work
returns-in-Flatten-clause-work g c =
    subst (λ (z : Given). WorksOn g.P.Package.handed g.P.Package.faults g.P.Package.lost (asked z) c.args.package.now c.flat_text.new.package c.flat_text.result) (sym c.in-Flatten.is) c.flat_text.ensures.work

pub returns-in-Between-clause-work : goal.returns-in-Between-clause-work
returns-in-Between-clause-work g c =
    subst (λ (z : Given). WorksOn g.P.Package.handed g.P.Package.faults g.P.Package.lost (asked z) c.args.package.now c.decision.new.package c.decision.result) (sym c.in-Between.is) c.decision.ensures.work
