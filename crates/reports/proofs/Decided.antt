-- The text of what two verdicts decide, and its status, of findings that are theirs.
use Rattle.std.proofs.Common.{◌≡◌, ℕ, List, Result, Ok, Err, IfOk, ◌++◌, ap, length, subst, ◌∙◌}
use Rattle.board_shapes.specs.LawfulBoard.{IsLawfulBoard}
use Rattle.board_shapes.specs.Plain.{PlainBoard}
use Rattle.board_shapes.specs.declared.probe.Probe.{Probe}
use Rattle.reports.specs.BetweenText.{IsDecision, IsDecisionBy, between_text, boards_part, decision_part}
use Rattle.reports.specs.Decision.{IsDecisionOn}
use Rattle.reports.specs.Findings.{Findings, certain, undecided}
use Rattle.reports.specs.Notes.{line_of, status_of}
use Rattle.reports.specs.Right.{IsRightOn}
use Rattle.reports.specs.declared.answer.Answer.{Answer}
use Rattle.verdict.specs.declared.verdict.Verdict.{Verdict}

pub text_alike : (n m : ℕ) (p q : List Probe) (a b : List (List ℕ)) (v w : Verdict) (sure unsure : Findings) → n ≡ m → p ≡ q → a ≡ b → sure ≡ certain v w → unsure ≡ undecided v w → boards_part n (length p) v w ++ decision_part p a sure unsure ≡ between_text m q b v w
text_alike n m p q a b v w sure unsure e f h c u =
    ap (λ (k : ℕ). boards_part k (length p) v w ++ decision_part p a sure unsure) e ∙ (ap (λ (k : List Probe). boards_part m (length k) v w ++ decision_part k a sure unsure) f ∙
    (ap (λ (k : List (List ℕ)). boards_part m (length q) v w ++ decision_part q k sure unsure) h ∙
    (ap (λ (k : Findings). boards_part m (length q) v w ++ decision_part q b k unsure) c ∙ ap (λ (k : Findings). boards_part m (length q) v w ++ decision_part q b (certain v w) k) u)))

pub decision_by : (v w : Verdict) (sure unsure : Findings) (status : ℕ) (line : List ℕ) → sure ≡ certain v w → unsure ≡ undecided v w → IsDecisionBy sure unsure status line → IsDecision v w status line
decision_by v w sure unsure status line c u h = subst (λ (k : Findings). IsDecisionBy (certain v w) k status line) u (subst (λ (k : Findings). IsDecisionBy k unsure status line) c h)

pub decided_on : (count : ℕ) (lower upper : PlainBoard) (below above : Verdict) → IsLawfulBoard lower → IsLawfulBoard upper → IsRightOn lower below → IsRightOn upper above → {E : Type 0} (r : Result Answer E)
    → IfOk r (λ answer. answer.text.items ≡ between_text count lower.probes lower.names below above) → IfOk r (λ answer. IsDecision below above (status_of answer.note) (line_of answer.note))
    → IfOk r (λ answer. IsDecisionOn count lower upper answer.text.items (status_of answer.note) (line_of answer.note))
decided_on count lower upper below above l u v w (Ok answer) text status = record { below = below; above = above; lower_lawful = l; upper_lawful = u; lower_right = v; upper_right = w; text_is = text; status_is = status }
decided_on count lower upper below above l u v w (Err why) text status = tt
