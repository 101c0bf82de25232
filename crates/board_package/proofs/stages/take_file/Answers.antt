use Rattle.board_package.proofs.OneTake.{leaves_taking}
use Rattle.board_package.proofs.stages.take_file.Goals as goal

pub returns-in_err-clone-in-Longer-clause-leaves : goal.returns-in_err-clone-in-Longer-clause-leaves
returns-in_err-clone-in-Longer-clause-leaves g c =
    leaves_taking g.P.Package.held g.P.Package.handed g.P.Package.faults g.P.Package.lost c.args.package.now c.take.new.self c.take.result _ _ _ c.take.ensures.told c.take.ensures.cause c.take.ensures.held c.take.ensures.handed

pub returns-in_err-clone-in-Failed-clause-leaves : goal.returns-in_err-clone-in-Failed-clause-leaves
returns-in_err-clone-in-Failed-clause-leaves g c =
    leaves_taking g.P.Package.held g.P.Package.handed g.P.Package.faults g.P.Package.lost c.args.package.now c.take.new.self c.take.result _ _ _ c.take.ensures.told c.take.ensures.cause c.take.ensures.held c.take.ensures.handed

pub returns-in-Whole-clause-leaves : goal.returns-in-Whole-clause-leaves
returns-in-Whole-clause-leaves g c =
    leaves_taking g.P.Package.held g.P.Package.handed g.P.Package.faults g.P.Package.lost c.args.package.now c.take.new.self c.take.result _ _ _ c.take.ensures.told c.take.ensures.cause c.take.ensures.held c.take.ensures.handed

pub returns-in_ok-clone-in-Longer-clause-leaves : goal.returns-in_ok-clone-in-Longer-clause-leaves
returns-in_ok-clone-in-Longer-clause-leaves g c =
    leaves_taking g.P.Package.held g.P.Package.handed g.P.Package.faults g.P.Package.lost c.args.package.now c.take.new.self c.take.result _ _ _ c.take.ensures.told c.take.ensures.cause c.take.ensures.held c.take.ensures.handed

pub returns-in_ok-clone-in-Failed-clause-leaves : goal.returns-in_ok-clone-in-Failed-clause-leaves
returns-in_ok-clone-in-Failed-clause-leaves g c =
    leaves_taking g.P.Package.held g.P.Package.handed g.P.Package.faults g.P.Package.lost c.args.package.now c.take.new.self c.take.result _ _ _ c.take.ensures.told c.take.ensures.cause c.take.ensures.held c.take.ensures.handed

pub returns-in-NoMemory-clause-leaves : goal.returns-in-NoMemory-clause-leaves
returns-in-NoMemory-clause-leaves g c =
    leaves_taking g.P.Package.held g.P.Package.handed g.P.Package.faults g.P.Package.lost c.args.package.now c.take.new.self c.take.result _ _ _ c.take.ensures.told c.take.ensures.cause c.take.ensures.held c.take.ensures.handed
