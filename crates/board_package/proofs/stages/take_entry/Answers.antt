use Rattle.std.proofs.Common.{refl}
use Rattle.board_package.specs.Causes.{Halts, HandedCause, KeepsFaults}
use Rattle.board_package.specs.HandedBoard.{ComesNext, StopsAtHanded, as_board, course}
use Rattle.board_package.specs.Parts.{board_so_far}
use Rattle.board_package.proofs.Lift.{climbs, if_err, kept, spared}
use Rattle.board_package.proofs.Staging.{halted_handed, taking_entry}
use Rattle.board_package.proofs.stages.take_entry.Goals as goal

pub returns-clause-spared : goal.returns-clause-spared
returns-clause-spared g c = spared KeepsFaults _ _ _ _ c.read_file.result (λ why. kept _ _ _ _ why c.in_ok-take_file.ensures.spared) c.in_ok-take_file.ensures.spared

pub returns-clause-handed_cause : goal.returns-clause-handed_cause
returns-clause-handed_cause g c =
    let before = course (g.P.Package.handed c.args.package.now) (board_so_far c.args.parts.now) in
    let after = g.P.Package.handed c.take_file.new.package in
    if_err c.read_file.result (Halts c.args.entry.now c.as_slice.result.now before.so_far)
    (HandedCause (λ stop. StopsAtHanded as_board c.args.entry.now before after stop) (λ name. ComesNext before.handed after c.args.entry.now.name name) (g.P.Package.faults c.args.package.now) (g.P.Package.faults c.take_file.new.package) (g.P.Package.lost c.take_file.new.package))
    (λ why h. halted_handed c.args.entry.now before after c.take_file.new.file.items c.as_slice.result.now _ _ _ why c.in_ok-take_file.ensures.handed c.as_slice.ensures.value h)
    c.read_file.ensures.fault

pub returns-in_err-take_file-clause-handed_cause : goal.returns-in_err-take_file-clause-handed_cause
returns-in_err-take_file-clause-handed_cause g c =
    climbs _ _ c.from_residual.result c.in_err-take_file.field-0.0 c.from_residual.ensures.1
    (taking_entry as_board (λ stop. stop) (λ stop. refl) c.args.entry.now (course (g.P.Package.handed c.args.package.now) (board_so_far c.args.parts.now)) (g.P.Package.handed c.take_file.new.package) (g.P.Package.faults c.args.package.now) (g.P.Package.faults c.take_file.new.package) (g.P.Package.lost c.take_file.new.package) c.in_err-take_file.field-0.0 c.in_err-take_file.ensures.handed_cause)
