use Rattle.std.proofs.Common.{List, Ok, refl, subst, ap, ◌∙◌}
use Rattle.std.specs.List.{filter}
use Rattle.board_io.specs.Package.{IsFaultless}
use Rattle.board_package.specs.Causes.{HandedCauseBy}
use Rattle.board_package.proofs.LabelStaging.{frame_of_pieces, needed, nothing_yet}
use Rattle.board_package.proofs.Staging.{files_handed, framed_handed, made_handed, manifest_handed}
use Rattle.board_shapes.specs.Plain.{Fits, PlainBoard, common_box}
use Rattle.board_package.specs.HandedBoard.{ComesAlongHanded, GoesHanded, StopsAmongHanded, course}
use Rattle.board_package.specs.HandedLabelled.{as_labelled}
use Rattle.board_package.specs.LabelledBoard.{labelled_board_of, unbuilt}
use Rattle.board_package.specs.LabelledCauses.{labelled_faults, labelled_so_far}
use Rattle.board_package.specs.PackageBoard.{StopsAtFrame, WalksBy}
use Rattle.board_package.specs.Parts.{board_so_far}
use Rattle.board_package.specs.declared.entry.Naming.TheVariants.{ByLabels}
use Rattle.board_package.specs.declared.fault.BuildFault.TheVariants as build
use Rattle.board_package.specs.declared.fault.LabelledFault.TheVariants as fault
use Rattle.x2_nets.specs.declared.label_table.Label.{Label}
use Rattle.board_package.proofs.Lift.{climbs, faultless_both, kept_after_by, kept_by, leaves_on}
use Rattle.board_package.proofs.Telling.{labelled}
use Rattle.board_package.proofs.stages.build_labelled.Goals as goal

-- ---- The manifest

pub returns-in_err-listed-clause-spared : goal.returns-in_err-listed-clause-spared
returns-in_err-listed-clause-spared g c = climbs _ _ c.from_residual.result (fault.Build c.in_err-listed.field-0.0) c.from_residual.ensures.1 c.in_err-listed.ensures.spared

-- ---- The files

pub returns-in_err-take_files-clause-spared : goal.returns-in_err-take_files-clause-spared
returns-in_err-take_files-clause-spared g c =
    climbs _ _ c.from_residual-in_err-take_files.result c.in_err-take_files.field-0.0 c.from_residual-in_err-take_files.ensures.1
    (kept_after_by labelled_faults _ _ _ _ _ _ c.in_err-take_files.field-0.0 c.in_ok-listed.ensures.spared c.in_err-take_files.ensures.spared)

-- ---- The labels

pub returns-in_err-name_pieces-clause-spared : goal.returns-in_err-name_pieces-clause-spared
returns-in_err-name_pieces-clause-spared g c = climbs _ _ c.from_residual-in_err-name_pieces.result (fault.Build build.NoMemory) c.from_residual-in_err-name_pieces.ensures.1 tt

-- ---- The frame

pub returns-in_err-board-clause-spared : goal.returns-in_err-board-clause-spared
returns-in_err-board-clause-spared g c =
    let whole : IsFaultless (g.P.Package.faults c.args.package.now) (g.P.Package.lost c.args.package.now) (g.P.Package.faults c.take_files.new.package) (g.P.Package.lost c.take_files.new.package) = faultless_both _ _ _ _ _ _ c.in_ok-listed.ensures.spared c.in_ok-take_files.ensures.spared in
    climbs _ _ c.from_residual-in_err-board.result (fault.Build c.in_err-board.field-0.0) c.from_residual-in_err-board.ensures.1 (kept_by labelled_faults _ _ _ _ (fault.Build c.in_err-board.field-0.0) whole)

-- ---- The board

pub returns-clause-spared : goal.returns-clause-spared
returns-clause-spared g c = faultless_both _ _ _ _ _ _ c.in_ok-listed.ensures.spared c.in_ok-take_files.ensures.spared

-- ---- Of what was handed over

pub returns-in_err-listed-clause-handed : goal.returns-in_err-listed-clause-handed
returns-in_err-listed-clause-handed g c =
    climbs _ _ c.from_residual.result (fault.Build c.in_err-listed.field-0.0) c.from_residual.ensures.1
    (manifest_handed (as_labelled ByLabels) (λ stop. unbuilt stop) (λ stop. refl) (g.P.Package.handed c.args.package.now) (g.P.Package.handed c.take_manifest.new.package) c.args.manifest.now (g.P.Package.faults c.args.package.now) (g.P.Package.faults c.take_manifest.new.package) (g.P.Package.lost c.take_manifest.new.package) c.in_err-listed.field-0.0 c.in_err-listed.ensures.handed_cause)

pub returns-in_err-take_files-clause-handed : goal.returns-in_err-take_files-clause-handed
returns-in_err-take_files-clause-handed g c =
    let start = labelled_so_far c.new-parts.result c.new-tables.result in
    let mid = g.P.Package.handed c.take_manifest.new.package in
    let after = g.P.Package.handed c.take_files.new.package in
    let why = c.in_err-take_files.field-0.0 in
    let cause = subst (λ entries. HandedCauseBy labelled_faults (λ stop. StopsAmongHanded (as_labelled ByLabels) (filter (needed ByLabels) entries) (course mid start) after stop) (λ name. ComesAlongHanded (as_labelled ByLabels) (filter (needed ByLabels) entries) (course mid start) after name)
    (g.P.Package.faults c.take_manifest.new.package) (g.P.Package.faults c.take_files.new.package) (g.P.Package.lost c.take_files.new.package) why) c.as_slice-entries.ensures c.in_err-take_files.ensures.handed_cause in
    climbs _ _ c.from_residual-in_err-take_files.result why c.from_residual-in_err-take_files.ensures.1
    (files_handed (as_labelled ByLabels) labelled_faults (g.P.Package.handed c.args.package.now) mid after c.args.manifest.now c.in_ok-listed.listed start
    (g.P.Package.faults c.args.package.now) (g.P.Package.faults c.take_manifest.new.package) (g.P.Package.faults c.take_files.new.package) (g.P.Package.lost c.take_files.new.package) why
    (nothing_yet c.new-parts.result c.new-tables.result c.in_ok-listed.listed.layers c.new-parts.ensures.empty c.new-tables.ensures) c.take_manifest.ensures.leaves.later c.in_ok-listed.ensures.handed cause)

pub returns-in_err-name_pieces-clause-handed : goal.returns-in_err-name_pieces-clause-handed
returns-in_err-name_pieces-clause-handed g c = climbs _ _ c.from_residual-in_err-name_pieces.result (fault.Build build.NoMemory) c.from_residual-in_err-name_pieces.ensures.1 tt

pub returns-in_err-board-clause-handed : goal.returns-in_err-board-clause-handed
returns-in_err-board-clause-handed g c =
    let start = labelled_so_far c.new-parts.result c.new-tables.result in
    let end = labelled_so_far c.take_files.new.parts c.take_files.new.tables in
    let mid = g.P.Package.handed c.take_manifest.new.package in
    let after = g.P.Package.handed c.take_files.new.package in
    let walked = subst (λ entries. WalksBy (GoesHanded (as_labelled ByLabels)) (filter (needed ByLabels) entries) (course mid start) (course after end)) c.as_slice-entries.ensures c.in_ok-take_files.ensures.handed in
    let named = c.in_ok-name_pieces.ensures.ok ∙ ap (λ (t : List (List Label)). labelled_board_of t (board_so_far c.take_files.new.parts)) c.as_slice.ensures in
    climbs _ _ c.from_residual-in_err-board.result (fault.Build c.in_err-board.field-0.0) c.from_residual-in_err-board.ensures.1
    (framed_handed (as_labelled ByLabels) (λ stop. unbuilt stop) (λ stop. refl) (g.P.Package.handed c.args.package.now) mid after c.args.manifest.now c.in_ok-listed.listed start end (board_so_far c.name_pieces.new.parts)
    (g.P.Package.faults c.args.package.now) (g.P.Package.faults c.take_files.new.package) (g.P.Package.lost c.take_files.new.package) c.in_err-board.field-0.0
    (nothing_yet c.new-parts.result c.new-tables.result c.in_ok-listed.listed.layers c.new-parts.ensures.empty c.new-tables.ensures) c.in_ok-listed.ensures.handed walked
    (λ stop s. frame_of_pieces end.tables end.board stop (subst (λ x. StopsAtFrame x stop) named s)) c.in_err-board.ensures.fault)

pub returns-clause-handed : goal.returns-clause-handed
returns-clause-handed g c =
    let start = labelled_so_far c.new-parts.result c.new-tables.result in
    let end = labelled_so_far c.take_files.new.parts c.take_files.new.tables in
    let mid = g.P.Package.handed c.take_manifest.new.package in
    let after = g.P.Package.handed c.take_files.new.package in
    let walked = subst (λ entries. WalksBy (GoesHanded (as_labelled ByLabels)) (filter (needed ByLabels) entries) (course mid start) (course after end)) c.as_slice-entries.ensures c.in_ok-take_files.ensures.handed in
    let named = c.in_ok-name_pieces.ensures.ok ∙ ap (λ (t : List (List Label)). labelled_board_of t (board_so_far c.take_files.new.parts)) c.as_slice.ensures in
    made_handed (as_labelled ByLabels) (g.P.Package.handed c.args.package.now) mid after c.args.manifest.now c.in_ok-listed.listed start end _
    (nothing_yet c.new-parts.result c.new-tables.result c.in_ok-listed.listed.layers c.new-parts.ensures.empty c.new-tables.ensures) c.in_ok-listed.ensures.handed walked
    (c.in_ok-board.ensures.ok ∙ named, subst (λ (x : PlainBoard). Fits (common_box x.pieces)) named c.in_ok-board.ensures.fits)

-- ---- What is left

pub returns-in_err-take_files-clause-leaves : goal.returns-in_err-take_files-clause-leaves
returns-in_err-take_files-clause-leaves g c = leaves_on c.take_manifest.ensures.leaves c.take_files.ensures.leaves

pub returns-in_err-name_pieces-clause-leaves : goal.returns-in_err-name_pieces-clause-leaves
returns-in_err-name_pieces-clause-leaves g c = leaves_on c.take_manifest.ensures.leaves c.take_files.ensures.leaves

pub returns-in_err-board-clause-leaves : goal.returns-in_err-board-clause-leaves
returns-in_err-board-clause-leaves g c = leaves_on c.take_manifest.ensures.leaves c.take_files.ensures.leaves

pub returns-clause-leaves : goal.returns-clause-leaves
returns-clause-leaves g c = leaves_on c.take_manifest.ensures.leaves c.take_files.ensures.leaves

-- ---- What is told

pub returns-in_err-listed-clause-told : goal.returns-in_err-listed-clause-told
returns-in_err-listed-clause-told g c =
    labelled g.P.Package.held g.P.Package.handed g.P.Package.faults g.P.Package.lost c.args.manifest.now c.args.package.now c.take_manifest.new.package c.from_residual.result c.take_manifest.ensures.leaves (returns-in_err-listed-clause-handed g c)

pub returns-in_err-take_files-clause-told : goal.returns-in_err-take_files-clause-told
returns-in_err-take_files-clause-told g c =
    labelled g.P.Package.held g.P.Package.handed g.P.Package.faults g.P.Package.lost c.args.manifest.now c.args.package.now c.take_files.new.package c.from_residual-in_err-take_files.result (returns-in_err-take_files-clause-leaves g c) (returns-in_err-take_files-clause-handed g c)

pub returns-in_err-name_pieces-clause-told : goal.returns-in_err-name_pieces-clause-told
returns-in_err-name_pieces-clause-told g c =
    labelled g.P.Package.held g.P.Package.handed g.P.Package.faults g.P.Package.lost c.args.manifest.now c.args.package.now c.take_files.new.package c.from_residual-in_err-name_pieces.result (returns-in_err-name_pieces-clause-leaves g c) (returns-in_err-name_pieces-clause-handed g c)

pub returns-in_err-board-clause-told : goal.returns-in_err-board-clause-told
returns-in_err-board-clause-told g c =
    labelled g.P.Package.held g.P.Package.handed g.P.Package.faults g.P.Package.lost c.args.manifest.now c.args.package.now c.take_files.new.package c.from_residual-in_err-board.result (returns-in_err-board-clause-leaves g c) (returns-in_err-board-clause-handed g c)

pub returns-clause-told : goal.returns-clause-told
returns-clause-told g c =
    labelled g.P.Package.held g.P.Package.handed g.P.Package.faults g.P.Package.lost c.args.manifest.now c.args.package.now c.take_files.new.package (Ok c.in_ok-board.board) (returns-clause-leaves g c) (returns-clause-handed g c)
