use Rattle.std.proofs.Common.{◌∙◌, List, refl, subst, arith}
use lib.Seq.{take_all}
use Rattle.real_package.specs.RealCauses.{real_faults}
use Rattle.board_package.proofs.Lift.{climbs, faultless_both, kept_after_by, leaves_on}
use Rattle.board_package.proofs.OneTake.{leaves_none, not_ok}
use Rattle.board_package.specs.PackageBoard.{WalksBy}
use Rattle.board_package.specs.declared.entry.Entry.{Entry}
use Rattle.board_package.specs.HandedBoard.{GoesHanded, course}
use Rattle.real_package.specs.HandedReal.{as_real_board}
use Rattle.real_package.specs.RealBoards.{plain_real_board}
use Rattle.real_package.proofs.Staged.{more_handed}
use Rattle.real_package.proofs.Walked.{walk_more}
use Rattle.real_package.proofs.stages.take_files.Goals as goal

pub loop-entry-preserved : goal.loop-entry-preserved
loop-entry-preserved g c = record {
  leaves = leaves_on c.loop-entry.invariant.leaves c.take_entry.ensures.leaves;
  faultless = faultless_both _ _ _ _ _ _ c.loop-entry.invariant.faultless c.in_ok-take_entry.ensures.spared;
  handed = walk_more (GoesHanded as_real_board) c.args.entries.now c.loop-entry.entry-index c.entry-item.result (course (g.P.Package.handed c.args.package.now) (plain_real_board c.args.board.now)) (course (g.P.Package.handed c.loop-entry.package) (plain_real_board c.loop-entry.board)) (course (g.P.Package.handed c.take_entry.new.package) (plain_real_board c.take_entry.new.board))
      c.loop-entry-test.true c.entry-item.is c.loop-entry.invariant.handed c.in_ok-take_entry.ensures.handed;
  lawful = c.in_ok-take_entry.ensures.lawful;
  layers = c.in_ok-take_entry.ensures.layers ∙ c.loop-entry.invariant.layers;
}

pub returns-in_err-take_entry-clause-spared : goal.returns-in_err-take_entry-clause-spared
returns-in_err-take_entry-clause-spared g c =
    climbs _ _ c.from_residual.result c.in_err-take_entry.field-0.0 c.from_residual.ensures.1
    (kept_after_by real_faults _ _ _ _ _ _ c.in_err-take_entry.field-0.0 c.loop-entry.invariant.faultless c.in_err-take_entry.ensures.spared)

pub returns-in_err-take_entry-clause-leaves : goal.returns-in_err-take_entry-clause-leaves
returns-in_err-take_entry-clause-leaves g c = leaves_on c.loop-entry.invariant.leaves c.take_entry.ensures.leaves

pub returns-in_err-take_entry-clause-handed_cause : goal.returns-in_err-take_entry-clause-handed_cause
returns-in_err-take_entry-clause-handed_cause g c =
    climbs _ _ c.from_residual.result c.in_err-take_entry.field-0.0 c.from_residual.ensures.1
    (more_handed c.args.entries.now c.loop-entry.entry-index c.entry-item.result (course (g.P.Package.handed c.args.package.now) (plain_real_board c.args.board.now)) (course (g.P.Package.handed c.loop-entry.package) (plain_real_board c.loop-entry.board)) (g.P.Package.handed c.take_entry.new.package)
    (g.P.Package.faults c.args.package.now) (g.P.Package.faults c.loop-entry.package) (g.P.Package.faults c.take_entry.new.package) (g.P.Package.lost c.take_entry.new.package) c.in_err-take_entry.field-0.0
    c.loop-entry-test.true c.entry-item.is c.loop-entry.invariant.leaves.later c.loop-entry.invariant.handed c.in_err-take_entry.ensures.handed_cause)

pub loop-entry-init : goal.loop-entry-init
loop-entry-init g c = record {
  leaves = leaves_none g.P.Package.held g.P.Package.handed g.P.Package.faults c.args.package.now c.args.package.now refl refl (omega arith);
  faultless = record { count_stays = refl; lost_stays = refl };
  handed = refl;
  lawful = c.requires.lawful;
  layers = refl;
}

pub returns-in_err-take_entry-clause-handed : goal.returns-in_err-take_entry-clause-handed
returns-in_err-take_entry-clause-handed g c = not_ok _ c.from_residual.result c.in_err-take_entry.field-0.0 c.from_residual.ensures.1

pub returns-in_err-take_entry-clause-lawful : goal.returns-in_err-take_entry-clause-lawful
returns-in_err-take_entry-clause-lawful g c = not_ok _ c.from_residual.result c.in_err-take_entry.field-0.0 c.from_residual.ensures.1

pub returns-clause-handed : goal.returns-clause-handed
returns-clause-handed g c =
    subst (λ (xs : List Entry). WalksBy (GoesHanded as_real_board) xs (course (g.P.Package.handed c.args.package.now) (plain_real_board c.args.board.now)) (course (g.P.Package.handed c.loop-entry.package) (plain_real_board c.loop-entry.board)))
    (take_all c.loop-entry.entry-index c.args.entries.now c.loop-entry-test.false) c.loop-entry.invariant.handed
