use Rattle.std.proofs.Common.{◌∙◌, List, refl, subst, arith}
use lib.Seq.{take_all}
use Rattle.std.specs.List.{filter}
use Rattle.board_package.specs.HandedBoard.{GoesHanded, course}
use Rattle.board_package.specs.HandedLabelled.{as_labelled}
use Rattle.board_package.specs.LabelledCauses.{labelled_faults, labelled_so_far}
use Rattle.board_package.specs.PackageBoard.{WalksBy}
use Rattle.board_package.specs.declared.entry.Entry.{Entry}
use Rattle.board_package.proofs.LabelStaging.{files_more_handed, needed}
use Rattle.board_package.proofs.Lift.{climbs, faultless_both, kept_after_by, leaves_on}
use Rattle.board_package.proofs.OneTake.{leaves_none, not_ok}
use Rattle.board_package.proofs.Walking.{passing_walk_more}
use Rattle.board_package.proofs.stages.take_files.Goals as goal

pub loop-entry-preserved : goal.loop-entry-preserved
loop-entry-preserved g c = record {
  leaves = leaves_on c.loop-entry.invariant.leaves c.take_needed.ensures.leaves;
  faultless = faultless_both _ _ _ _ _ _ c.loop-entry.invariant.faultless c.in_ok-take_needed.ensures.spared;
  handed = passing_walk_more (GoesHanded (as_labelled c.args.naming)) (needed c.args.naming) c.args.entries.now c.loop-entry.entry-index c.entry-item.result (course (g.P.Package.handed c.args.package.now) (labelled_so_far c.args.parts.now c.args.tables.now)) (course (g.P.Package.handed c.loop-entry.package) (labelled_so_far c.loop-entry.parts c.loop-entry.tables)) (course (g.P.Package.handed c.take_needed.new.package) (labelled_so_far c.take_needed.new.parts c.take_needed.new.tables))
      c.loop-entry-test.true c.entry-item.is c.loop-entry.invariant.handed c.in_ok-take_needed.ensures.handed;
  parts = c.in_ok-take_needed.ensures.parts;
  layers = c.in_ok-take_needed.ensures.layers ∙ c.loop-entry.invariant.layers;
  rise = c.in_ok-take_needed.ensures.rise;
}

pub returns-in_err-take_needed-clause-spared : goal.returns-in_err-take_needed-clause-spared
returns-in_err-take_needed-clause-spared g c =
    climbs _ _ c.from_residual.result c.in_err-take_needed.field-0.0 c.from_residual.ensures.1
    (kept_after_by labelled_faults _ _ _ _ _ _ c.in_err-take_needed.field-0.0 c.loop-entry.invariant.faultless c.in_err-take_needed.ensures.spared)

pub returns-in_err-take_needed-clause-handed_cause : goal.returns-in_err-take_needed-clause-handed_cause
returns-in_err-take_needed-clause-handed_cause g c =
    climbs _ _ c.from_residual.result c.in_err-take_needed.field-0.0 c.from_residual.ensures.1
    (files_more_handed c.args.naming c.args.entries.now c.loop-entry.entry-index c.entry-item.result (course (g.P.Package.handed c.args.package.now) (labelled_so_far c.args.parts.now c.args.tables.now)) (course (g.P.Package.handed c.loop-entry.package) (labelled_so_far c.loop-entry.parts c.loop-entry.tables)) (g.P.Package.handed c.take_needed.new.package)
    (g.P.Package.faults c.args.package.now) (g.P.Package.faults c.loop-entry.package) (g.P.Package.faults c.take_needed.new.package) (g.P.Package.lost c.take_needed.new.package) c.in_err-take_needed.field-0.0
    c.loop-entry-test.true c.entry-item.is c.loop-entry.invariant.leaves.later c.loop-entry.invariant.handed c.in_err-take_needed.ensures.handed_cause)

pub returns-in_err-take_needed-clause-leaves : goal.returns-in_err-take_needed-clause-leaves
returns-in_err-take_needed-clause-leaves g c = leaves_on c.loop-entry.invariant.leaves c.take_needed.ensures.leaves

pub loop-entry-init : goal.loop-entry-init
loop-entry-init g c = record {
  leaves = leaves_none g.P.Package.held g.P.Package.handed g.P.Package.faults c.args.package.now c.args.package.now refl refl (omega arith);
  faultless = record { count_stays = refl; lost_stays = refl };
  handed = refl;
  parts = c.requires.lawful;
  layers = refl;
  rise = c.requires.rise;
}

pub returns-in_err-take_needed-clause-handed : goal.returns-in_err-take_needed-clause-handed
returns-in_err-take_needed-clause-handed g c = not_ok _ c.from_residual.result c.in_err-take_needed.field-0.0 c.from_residual.ensures.1

pub returns-in_err-take_needed-clause-parts : goal.returns-in_err-take_needed-clause-parts
returns-in_err-take_needed-clause-parts g c = not_ok _ c.from_residual.result c.in_err-take_needed.field-0.0 c.from_residual.ensures.1

pub returns-in_err-take_needed-clause-rise : goal.returns-in_err-take_needed-clause-rise
returns-in_err-take_needed-clause-rise g c = not_ok _ c.from_residual.result c.in_err-take_needed.field-0.0 c.from_residual.ensures.1

pub returns-clause-handed : goal.returns-clause-handed
returns-clause-handed g c =
    subst (λ (xs : List Entry). WalksBy (GoesHanded (as_labelled c.args.naming)) (filter (needed c.args.naming) xs) (course (g.P.Package.handed c.args.package.now) (labelled_so_far c.args.parts.now c.args.tables.now)) (course (g.P.Package.handed c.loop-entry.package) (labelled_so_far c.loop-entry.parts c.loop-entry.tables)))
    (take_all c.loop-entry.entry-index c.args.entries.now c.loop-entry-test.false) c.loop-entry.invariant.handed
