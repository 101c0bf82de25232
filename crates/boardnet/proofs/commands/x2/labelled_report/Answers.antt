use Rattle.std.proofs.Common.{ℕ, List, subst}
use Rattle.board_package.proofs.Lift.{climbs}
use Rattle.board_shapes.specs.Plain.{plain_board}
use Rattle.boardnet.proofs.ByLabels.{handed_reason, labelled_report_is, left_of}
use Rattle.boardnet.specs.Answers.{IsAnswerTo, unlabelled_of}
use Rattle.boardnet.specs.HandedOutcome.{WorksOn}
use Rattle.boardnet.specs.Outcome.{HandedOver}
use Rattle.boardnet.specs.Words.{X2}
use Rattle.boardnet.proofs.commands.x2.labelled_report.Goals as goal

pub returns-in_err-board-clause-spared : goal.returns-in_err-board-clause-spared
returns-in_err-board-clause-spared g c =
    climbs _ _ c.from_residual-in_err-board.result (unlabelled_of c.in_err-board.field-0.0) c.from_residual-in_err-board.ensures.1 (left_of _ _ _ _ c.in_err-board.field-0.0 c.in_err-board.ensures.spared)

pub returns-in_err-board-clause-work : goal.returns-in_err-board-clause-work
returns-in_err-board-clause-work g c =
    let here = g.P.Package.handed c.args.package.now in
    let after = g.P.Package.handed c.build_labelled.new.package in
    subst (λ (m : List ℕ). WorksOn g.P.Package.handed g.P.Package.faults g.P.Package.lost (X2 m) c.args.package.now c.build_labelled.new.package c.from_residual-in_err-board.result) c.in_ok-name.ensures.ok
    (climbs _ _ c.from_residual-in_err-board.result (unlabelled_of c.in_err-board.field-0.0) c.from_residual-in_err-board.ensures.1
    (handed_reason _ here after _ _ _ c.in_err-board.field-0.0 c.in_err-board.ensures.handed))

pub returns-clause-work : goal.returns-clause-work
returns-clause-work g c =
    let source = HandedOver (g.P.Package.handed c.args.package.now) (g.P.Package.handed c.build_labelled.new.package) in
    subst (λ (m : List ℕ). IsAnswerTo source (X2 m) c.in_ok-answer.answer) c.in_ok-name.ensures.ok
    (labelled_report_is c.labelled_pieces_are_under.ensures source _ (plain_board c.in_ok-board.board) c.in_ok-answer.answer
    c.in_ok-board.ensures.handed c.in_ok-board.ensures.limits.lawful c.in_ok-answer.ensures)
