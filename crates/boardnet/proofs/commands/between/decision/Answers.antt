use Rattle.std.proofs.Common.{subst}
use Rattle.board_package.proofs.Lift.{climbs}
use Rattle.board_shapes.specs.Plain.{plain_board}
use Rattle.boardnet.proofs.Readings.{decided_is, left_calm, unbounded_reason}
use Rattle.reports.specs.Notes.{line_of, status_of}
use Rattle.boardnet.specs.Command.{BoundNames}
use Rattle.boardnet.specs.HandedOutcome.{HasHandedReason}
use Rattle.boardnet.specs.Outcome.{HandedOver}
use Rattle.boardnet.specs.Words.{Between, bound_names}
use Rattle.boardnet.specs.commands.Between.{AreRead}
use Rattle.real_package.specs.RealBoards.{plain_real_board}
use Rattle.boardnet.proofs.commands.between.decision.Goals as goal

pub returns-in_err-boards-clause-work : goal.returns-in_err-boards-clause-work
returns-in_err-boards-clause-work g c =
    climbs _ _ c.from_residual-in_err-boards.result c.in_err-boards.field-0.0 c.from_residual-in_err-boards.ensures.1
    (subst (λ (n : BoundNames). HasHandedReason (HandedOver (g.P.Package.handed c.args.package.now) (g.P.Package.handed c.taken.new.package)) (Between n) (g.P.Package.faults c.args.package.now) (g.P.Package.faults c.taken.new.package) (g.P.Package.lost c.taken.new.package) c.in_err-boards.field-0.0)
    c.in_ok-names.ensures.ok c.in_err-boards.ensures.reason)

pub returns-in_err-bounded-clause-work : goal.returns-in_err-bounded-clause-work
returns-in_err-bounded-clause-work g c =
    let source = HandedOver (g.P.Package.handed c.args.package.now) (g.P.Package.handed c.taken.new.package) in
    let r = plain_real_board c.in_ok-boards.boards.real in
    let l = plain_board c.in_ok-boards.boards.lower in
    let u = plain_board c.in_ok-boards.boards.upper in
    climbs _ _ c.from_residual-in_err-bounded.result c.in_err-bounded.field-0.0 c.from_residual-in_err-bounded.ensures.1
    (unbounded_reason source (bound_names c.args.real.now c.args.lower.now c.args.upper.now c.args.counts.now) r l u c.taken.new.file.items c.as_slice.result.now
    (g.P.Package.faults c.args.package.now) (g.P.Package.faults c.taken.new.package) (g.P.Package.lost c.taken.new.package) c.in_err-bounded.field-0.0
    (subst (λ (n : BoundNames). AreRead source n r l u c.taken.new.file.items) c.in_ok-names.ensures.ok c.in_ok-boards.ensures.handed) c.as_slice.ensures.value c.in_err-bounded.ensures.fault)

pub returns-in_err-bounded-clause-spared : goal.returns-in_err-bounded-clause-spared
returns-in_err-bounded-clause-spared g c =
    climbs _ _ c.from_residual-in_err-bounded.result c.in_err-bounded.field-0.0 c.from_residual-in_err-bounded.ensures.1 (left_calm _ _ _ _ c.in_err-bounded.field-0.0 c.in_ok-boards.ensures.spared)

pub returns-clause-work : goal.returns-clause-work
returns-clause-work g c =
    let source = HandedOver (g.P.Package.handed c.args.package.now) (g.P.Package.handed c.taken.new.package) in
    let r = plain_real_board c.in_ok-boards.boards.real in
    let l = plain_board c.in_ok-boards.boards.lower in
    let u = plain_board c.in_ok-boards.boards.upper in
    decided_is source (bound_names c.args.real.now c.args.lower.now c.args.upper.now c.args.counts.now) r l u c.taken.new.file.items c.as_slice.result.now c.in_ok-decided.field-0.text.items (line_of c.in_ok-decided.field-0.note) (status_of c.in_ok-decided.field-0.note)
    (subst (λ (n : BoundNames). AreRead source n r l u c.taken.new.file.items) c.in_ok-names.ensures.ok c.in_ok-boards.ensures.handed) c.as_slice.ensures.value c.in_ok-bounded.ensures.ok c.in_ok-decided.ensures
