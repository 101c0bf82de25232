use Rattle.std.proofs.Common.{sym, subst}
use Rattle.board_package.specs.HandedBoard.{ComesHanded, IsFirstStopHanded}
use Rattle.boardnet.proofs.Readings.{behind_reason, left_behind}
use Rattle.boardnet.specs.Kept.{LeftBy}
use Rattle.boardnet.specs.Unbounded.{IsBehindReason}
use Rattle.boardnet.proofs.commands.between.bound.Goals as goal

pub returns-in-Err-clause-spared : goal.returns-in-Err-clause-spared
returns-in-Err-clause-spared g c =
    subst (LeftBy (g.P.Package.faults c.args.package.now) (g.P.Package.lost c.args.package.now) (g.P.Package.faults c.build.new.package) (g.P.Package.lost c.build.new.package)) (sym c.behind.ensures)
    (left_behind c.args.name _ _ _ _ c.in-Err.fault c.in-Err.ensures.spared)

pub returns-in-Err-clause-reason : goal.returns-in-Err-clause-reason
returns-in-Err-clause-reason g c =
    let a = g.P.Package.handed c.args.package.now in
    let b = g.P.Package.handed c.build.new.package in
    subst (IsBehindReason c.args.name (λ stop. IsFirstStopHanded a b c.args.name stop) (λ other. ComesHanded a b c.args.name other) (g.P.Package.faults c.args.package.now) (g.P.Package.faults c.build.new.package) (g.P.Package.lost c.build.new.package)) (sym c.behind.ensures)
    (behind_reason a b c.args.name _ _ _ c.in-Err.fault c.in-Err.ensures.handed)
