use Rattle.std.proofs.Common.{IfErr, OnOk, sym, subst}
use Rattle.board_package.specs.Causes.{KeepsFaultsBy}
use Rattle.board_package.specs.HandedBoard.{course}
use Rattle.board_package.specs.LabelledBoard.{Lists}
use Rattle.board_package.specs.LabelledCauses.{IsMislabelling, labelled_faults, labelled_so_far}
use Rattle.board_package.specs.Parts.{board_so_far}
use Rattle.board_package.specs.declared.fault.LabelledFault.TheVariants as fault
use Rattle.board_package.proofs.Lift.{climbs, if_err, kept_by, on_ok, spared}
use Rattle.board_package.proofs.LabelStaging.{file_handed, label_handed, walked_handed}
use Rattle.board_package.proofs.stages.take_needed.Goals as goal

pub returns-in_err-take_entry-clause-spared : goal.returns-in_err-take_entry-clause-spared
returns-in_err-take_entry-clause-spared g c = climbs _ _ c.from_residual.result (fault.Build c.in_err-take_entry.field-0.0) c.from_residual.ensures.1 c.in_err-take_entry.ensures.spared

pub returns-clause-spared : goal.returns-clause-spared
returns-clause-spared g c = spared (KeepsFaultsBy labelled_faults) _ _ _ _ c.list_labels.result (λ why. kept_by labelled_faults _ _ _ _ why c.in_ok-take_entry.ensures.spared) c.in_ok-take_entry.ensures.spared

pub returns-in_err-take_entry-clause-handed_cause : goal.returns-in_err-take_entry-clause-handed_cause
returns-in_err-take_entry-clause-handed_cause g c =
    climbs _ _ c.from_residual.result (fault.Build c.in_err-take_entry.field-0.0) c.from_residual.ensures.1
    (file_handed c.args.naming c.args.entry.now (course (g.P.Package.handed c.args.package.now) (labelled_so_far c.args.parts.now c.args.tables.now)) (g.P.Package.handed c.take_entry.new.package) (g.P.Package.faults c.args.package.now) (g.P.Package.faults c.take_entry.new.package) (g.P.Package.lost c.take_entry.new.package) c.in_err-take_entry.field-0.0 (sym c.if-not-takes.ensures) c.in_err-take_entry.ensures.handed_cause)

pub returns-clause-handed : goal.returns-clause-handed
returns-clause-handed g c =
    on_ok c.list_labels.result _ _ (λ lists. walked_handed c.args.naming c.args.entry.now (course (g.P.Package.handed c.args.package.now) (labelled_so_far c.args.parts.now c.args.tables.now)) (course (g.P.Package.handed c.take_entry.new.package) (labelled_so_far c.take_entry.new.parts c.list_labels.new.tables)) c.take_entry.new.file.items (sym c.if-not-takes.ensures) c.in_ok-take_entry.ensures.read c.in_ok-take_entry.ensures.handed lists)
    (subst (λ bytes. OnOk c.list_labels.result (Lists c.args.naming c.args.entry.now.role bytes c.args.tables.now c.list_labels.new.tables)) c.as_slice.ensures.value c.list_labels.ensures.listed)

pub returns-clause-handed_cause : goal.returns-clause-handed_cause
returns-clause-handed_cause g c =
    if_err c.list_labels.result _ _ (λ why h. label_handed c.args.naming c.args.entry.now (course (g.P.Package.handed c.args.package.now) (labelled_so_far c.args.parts.now c.args.tables.now)) (g.P.Package.handed c.take_entry.new.package) (board_so_far c.take_entry.new.parts) c.take_entry.new.file.items (g.P.Package.faults c.args.package.now) (g.P.Package.faults c.take_entry.new.package) (g.P.Package.lost c.take_entry.new.package) why (sym c.if-not-takes.ensures) c.in_ok-take_entry.ensures.read c.in_ok-take_entry.ensures.handed h)
    (subst (λ bytes. IfErr c.list_labels.result (IsMislabelling c.args.naming c.args.entry.now.role c.args.entry.now.name bytes)) c.as_slice.ensures.value c.list_labels.ensures.fault)
