use Rattle.std.proofs.Common.{subst}
use Rattle.board_io.specs.Handed.{AgreeWith}
use Rattle.board_package.specs.Manifest.{IsManifestFault, IsNotJson}
use Rattle.board_package.specs.PackageBoard.{IsHeldWith}
use Rattle.board_package.proofs.Agreed.{held_with}
use Rattle.board_package.proofs.Lift.{climbs, told_of}
use Rattle.board_package.proofs.Staging.{handed_with, taking_manifest}
use Rattle.board_package.proofs.stages.take_manifest.Goals as goal

pub returns-in_err-take_file-clause-handed_cause : goal.returns-in_err-take_file-clause-handed_cause
returns-in_err-take_file-clause-handed_cause g c =
    climbs _ _ c.from_residual.result c.in_err-take_file.field-0.0 c.from_residual.ensures.1
    (taking_manifest (g.P.Package.handed c.args.package.now) (g.P.Package.handed c.take_file.new.package) c.args.manifest.now (g.P.Package.faults c.args.package.now) (g.P.Package.faults c.take_file.new.package) (g.P.Package.lost c.take_file.new.package) c.in_err-take_file.field-0.0 c.in_err-take_file.ensures.handed_cause)

pub returns-in-Err-NotJson-clause-handed_cause : goal.returns-in-Err-NotJson-clause-handed_cause
returns-in-Err-NotJson-clause-handed_cause g c =
    let fault = subst (λ f. IsManifestFault c.as_slice.result.now f) c.in-Err-NotJson.field-0-is c.in-Err-NotJson.ensures.fault in
    handed_with (g.P.Package.handed c.args.package.now) (g.P.Package.handed c.take_file.new.package) c.args.manifest.now c.take_file.new.file.items c.as_slice.result.now IsNotJson c.in_ok-take_file.ensures.handed c.as_slice.ensures.value fault

pub returns-in-Err-NotJson-clause-cause : goal.returns-in-Err-NotJson-clause-cause
returns-in-Err-NotJson-clause-cause g c =
    let a = g.P.Package.handed c.args.package.now in
    let b = g.P.Package.handed c.take_file.new.package in
    told_of (g.P.Package.held c.args.package.now) (λ f. AgreeWith f a b) (λ f. IsHeldWith f c.args.manifest.now IsNotJson) (λ f w. held_with f a b c.args.manifest.now IsNotJson w (returns-in-Err-NotJson-clause-handed_cause g c)) c.take_file.ensures.leaves.consistent
