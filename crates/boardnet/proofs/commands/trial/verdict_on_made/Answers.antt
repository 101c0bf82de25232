use Rattle.std.proofs.Common.{◌≤◌, rules, subst, Some}
use Rattle.board_maker.specs.declared.TheConstants.{MOST_CELLS}
use Rattle.board_io.specs.Memory.{faults_of, lost_of}
use Rattle.board_io.specs.Package.{Files}
use Rattle.board_package.specs.Causes.{HasCause}
use Rattle.board_package.specs.PackageBoard.{Comes, IsFirstStop}
use Rattle.boardnet.specs.Outcome.{made_manifest}
use Rattle.boardnet.proofs.Trials.{unlost_cause}
use Rattle.boardnet.proofs.commands.trial.verdict_on_made.Goals as goal

pub returns-clause-reason : goal.returns-clause-reason
returns-clause-reason c =
    let small : c.args.size ≤ MOST_CELLS = search rules in
    unlost_cause c.args.seed c.args.size (faults_of c.in_ok-made.made) (faults_of c.board_of.new.package) (lost_of c.board_of.new.package) c.in-Err.fault c.unlost.result small
    (subst (λ (z : Files). HasCause (Some z) (λ files stop. IsFirstStop files made_manifest stop) (λ files name. Comes files made_manifest name) (faults_of c.in_ok-made.made) (faults_of c.board_of.new.package) (lost_of c.board_of.new.package) c.in-Err.fault) c.in_ok-made.ensures.ok.files c.in-Err.ensures.told) c.unlost.ensures
