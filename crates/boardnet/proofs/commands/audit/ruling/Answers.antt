use Rattle.board_package.proofs.Lift.{climbs}
use Rattle.board_shapes.specs.Plain.{plain_board}
use Rattle.boardnet.proofs.Audits.{ruled, unruled_handed, unruled_left}
use Rattle.boardnet.specs.Outcome.{HandedOver}
use Rattle.boardnet.proofs.commands.audit.ruling.Goals as goal

pub returns-in_err-ruling-clause-spared : goal.returns-in_err-ruling-clause-spared
returns-in_err-ruling-clause-spared g c =
    climbs _ _ c.from_residual-in_err-ruling.result c.in_err-ruling.field-0.0 c.from_residual-in_err-ruling.ensures.1
    (unruled_left (g.P.Package.faults c.args.package.now) (g.P.Package.lost c.args.package.now) (g.P.Package.faults c.taken.new.package) (g.P.Package.lost c.taken.new.package) c.as_slice.result.now c.in_err-ruling.field-0.0
    c.in_ok-board.ensures.spared c.in_err-ruling.ensures.fault)

pub returns-in_err-ruling-clause-work : goal.returns-in_err-ruling-clause-work
returns-in_err-ruling-clause-work g c =
    climbs _ _ c.from_residual-in_err-ruling.result c.in_err-ruling.field-0.0 c.from_residual-in_err-ruling.ensures.1
    (unruled_handed (g.P.Package.handed c.args.package.now) (g.P.Package.handed c.taken.new.package) c.args.manifest.now c.args.report.now (plain_board c.in_ok-board.board) c.taken.new.file.items c.as_slice.result.now
    (g.P.Package.faults c.args.package.now) (g.P.Package.faults c.taken.new.package) (g.P.Package.lost c.taken.new.package) c.in_err-ruling.field-0.0
    c.in_ok-board.ensures.handed c.as_slice.ensures.value c.in_err-ruling.ensures.fault)

pub returns-clause-work : goal.returns-clause-work
returns-clause-work g c =
    ruled (HandedOver (g.P.Package.handed c.args.package.now) (g.P.Package.handed c.taken.new.package)) c.args.manifest.now c.args.report.now (plain_board c.in_ok-board.board) c.taken.new.file.items c.as_slice.result.now c.in_ok-ruling.ruling
    c.in_ok-board.ensures.handed c.as_slice.ensures.value c.in_ok-ruling.ensures.ok
