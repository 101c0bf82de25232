use Rattle.std.proofs.Common.{All, List, length, subst, sym}
use Rattle.std.proofs.lemmas.List.Elements.{All-nil}
use Rattle.board_package.specs.Manifest.{IsOnBoard}
use Rattle.board_package.specs.declared.entry.Entry.{Entry}
use Rattle.board_package.proofs.Entries.{more_lawful}
use Rattle.board_package.proofs.Lift.{climbs}
use Rattle.board_package.proofs.Listing.{all_listed, drills_missed}
use Rattle.board_package.proofs.manifest.files_of.Goals as goal

pub returns-clause-ok : goal.returns-clause-ok
returns-clause-ok c =
    all_listed c.args.copper.now c.args.drills.now c.args.netlist c.new-files.result c.add_copper.new.files c.add_drills.new.files _ c.new-files.ensures c.in_ok-add_copper.ensures.ok c.in_ok-add_drills.ensures.ok c.in_ok-push.ensures.ok

pub returns-in_err-add_drills-clause-fault : goal.returns-in_err-add_drills-clause-fault
returns-in_err-add_drills-clause-fault c =
    climbs _ _ c.from_residual-in_err-add_drills.result c.in_err-add_drills.field-0.0 c.from_residual-in_err-add_drills.ensures.1
    (drills_missed c.args.copper.now c.args.drills.now c.args.netlist c.new-files.result c.add_copper.new.files c.in_err-add_drills.field-0.0 c.in_ok-add_copper.ensures.ok c.in_err-add_drills.ensures.fault)

pub returns-clause-lawful : goal.returns-clause-lawful
returns-clause-lawful c =
    let on_board = λ (e : Entry). IsOnBoard (length c.args.copper.now) e.role in
    more_lawful on_board c.new-files.result c.add_drills.new.files _ _ c.in_ok-push.ensures.ok tt (λ h. c.in_ok-add_drills.ensures.lawful (c.in_ok-add_copper.ensures.lawful h)) (subst (λ (xs : List Entry). All on_board xs) (sym c.new-files.ensures) (All-nil on_board))
