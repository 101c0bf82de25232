use Rattle.std.proofs.Common.{ℕ, IfOk, ap, length, subst, sym, ◌∙◌}
use Rattle.std.proofs.lemmas.List.{length-map}
use Rattle.real_copper.specs.Shapes.{plain_real}
use Rattle.board_shapes.specs.Plain.{plain_board}
use Rattle.reports.specs.Decision.{IsDecisionOn}
use Rattle.reports.specs.Notes.{line_of, status_of}
use Rattle.boardnet.proofs.commands.between.decided.Goals as goal

pub returns : goal.returns
returns c =
    subst (λ (n : ℕ). IfOk c.decision_on.result (λ answer. IsDecisionOn n (plain_board c.args.boards.now.lower) (plain_board c.args.boards.now.upper) answer.text.items (status_of answer.note) (line_of answer.note)))
    (ap length c.as_slice-count.ensures.value ∙ sym (length-map c.args.boards.now.real.pieces.items plain_real)) c.decision_on.ensures
