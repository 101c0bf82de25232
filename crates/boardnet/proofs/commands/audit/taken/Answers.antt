use Rattle.std.proofs.Common.{ℕ, List, subst}
use Rattle.board_package.proofs.Lift.{climbs, leaves_on}
use Rattle.board_package.specs.HandedBoard.{IsHanded}
use Rattle.boardnet.proofs.Audits.{package_handed, report_handed}
use Rattle.board_shapes.specs.Plain.{plain_board}
use Rattle.boardnet.proofs.commands.audit.taken.Goals as goal

pub returns-in_err-board-clause-handed_cause : goal.returns-in_err-board-clause-handed_cause
returns-in_err-board-clause-handed_cause g c =
    climbs _ _ c.from_residual-in_err-board.result c.in_err-board.field-0.0 c.from_residual-in_err-board.ensures.1
    (package_handed (g.P.Package.handed c.args.package.now) (g.P.Package.handed c.board_of.new.package) c.args.manifest.now c.args.report.now (g.P.Package.faults c.args.package.now) (g.P.Package.faults c.board_of.new.package) (g.P.Package.lost c.board_of.new.package) c.in_err-board.field-0.0 c.in_err-board.ensures.handed)

pub returns-in_err-take_file-clause-handed_cause : goal.returns-in_err-take_file-clause-handed_cause
returns-in_err-take_file-clause-handed_cause g c =
    climbs _ _ c.from_residual-in_err-take_file.result c.in_err-take_file.field-0.0 c.from_residual-in_err-take_file.ensures.1
    (report_handed (g.P.Package.handed c.args.package.now) (g.P.Package.handed c.board_of.new.package) (g.P.Package.handed c.take_file.new.package) c.args.manifest.now c.args.report.now c.in_ok-report.report (plain_board c.in_ok-board.board)
    (g.P.Package.faults c.args.package.now) (g.P.Package.faults c.board_of.new.package) (g.P.Package.faults c.take_file.new.package) (g.P.Package.lost c.take_file.new.package) c.in_err-take_file.field-0.0
    c.in_ok-report.ensures.ok c.board_of.ensures.leaves.later c.board_of.ensures.leaves.grows c.take_file.ensures.leaves.grows c.in_ok-board.ensures.handed c.in_err-take_file.ensures.handed_cause)

pub returns-clause-handed : goal.returns-clause-handed
returns-clause-handed g c = (
  g.P.Package.handed c.board_of.new.package,
  (c.board_of.ensures.leaves.grows, c.take_file.ensures.leaves.grows),
  c.in_ok-board.ensures.handed,
  subst (λ (m : List ℕ). IsHanded (g.P.Package.handed c.board_of.new.package) (g.P.Package.handed c.take_file.new.package) m c.take_file.new.file.items) c.in_ok-report.ensures.ok c.in_ok-take_file.ensures.handed,
)

pub returns-in_err-take_file-clause-leaves : goal.returns-in_err-take_file-clause-leaves
returns-in_err-take_file-clause-leaves g c = leaves_on c.board_of.ensures.leaves c.take_file.ensures.leaves

pub returns-clause-leaves : goal.returns-clause-leaves
returns-clause-leaves g c = leaves_on c.board_of.ensures.leaves c.take_file.ensures.leaves
