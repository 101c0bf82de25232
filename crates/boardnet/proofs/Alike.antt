-- What is the same in two outcomes: of right verdicts of one board, of refusals, of lists of gaps.
use Rattle.std.proofs.Common.{◌≡◌, ◌*◌, inl, inr, ℕ, pos, List, length, Some, codes, ap, refl, subst, sym, ◌∙◌, arith}
use Rattle.board_io.specs.Package.{Files}
use Rattle.board_package.specs.PackageBoard.{Stop, absent, longer, StopsTaking}
use Rattle.board_package.proofs.OneOutcome.{absent_not_longer}
use Rattle.board_shapes.proofs.BoardTables.{tables_are_consistent, tables_are_one}
use Rattle.board_shapes.specs.Plain.{PlainBoard}
use Rattle.boardnet.proofs.Sound.{Laws}
use Rattle.reports.specs.Gapped.{IsGapListOn, IsGapStatus, IsTooWide}
use Rattle.reports.specs.Lines.{counted_line, findings_line}
use Rattle.reports.specs.Right.{HasStatus}
use Rattle.boardnet.specs.Outcome.{IsLineOf}
use Rattle.reports.specs.Right.{IsReportOn, IsRightOn}
use Rattle.reports.specs.Summary.{IsStatusOf}
use Rattle.reports.specs.declared.judged.Version.{Version}
use Rattle.contact.specs.declared.Bounds.{Bounds}
use Rattle.gaps.specs.Gaps.{AreGaps, CloseAt}
use Rattle.gaps.specs.GrownBox.{grown_common}
use Rattle.tables.specs.Tables.{Tables}
use Rattle.verdict.specs.Right.{IsRight}
use Rattle.verdict.specs.declared.verdict.Verdict.{Verdict}
use Rattle.witness_check.specs.Laws.{DifferInWitnessesOnly}

-- ---- Verdicts

-- over the tables of the second, the first is right too
on_one : (b d : PlainBoard) (v w : Verdict) → b ≡ d → IsRightOn b v → (s : IsRightOn d w) → IsRight s.tables v
on_one b d v w e r s =
    let on : IsRightOn d v = subst (λ (z : PlainBoard). IsRightOn z v) e r in
    subst (λ (t : Tables). IsRight t v) (tables_are_one d on.tables s.tables on.tables_are s.tables_are) on.right

pub same_verdicts : Laws → (b d : PlainBoard) (v w : Verdict) → b ≡ d → IsRightOn b v → IsRightOn d w → DifferInWitnessesOnly v w
same_verdicts law b d v w e r s = law.witnesses s.tables v w (tables_are_consistent d s.tables s.tables_are) (on_one b d v w e r s) s.right

same_differs : (a b c x y z : ℕ) → a ≡ x → b ≡ y → c ≡ z → findings_line (codes "differs") a b c ≡ findings_line (codes "differs") x y z
same_differs a b c x y z p q r = rw (p, q, r) refl

pub same_status : (v w : Verdict) (s t : ℕ) (l k : List ℕ) → DifferInWitnessesOnly v w → HasStatus v s l → HasStatus w t k → (s ≡ t) × (l ≡ k)
same_status v w s t l k d (inl (agrees, is, said)) (inl (agrees', is', said')) = (is ∙ sym is', said ∙ sym said')
same_status v w s t l k d (inl (agrees, is, said)) (inr (differs, is', said')) = absurd (differs (d.status.0 agrees))
same_status v w s t l k d (inr (differs, is, said)) (inl (agrees', is', said')) = absurd (differs (d.status.1 agrees'))
same_status v w s t l k d (inr (differs, is, said)) (inr (differs', is', said')) =
    (is ∙ sym is', said ∙ (same_differs (length v.opens) (length v.shorts) (length v.bare) (length w.opens) (length w.shorts) (length w.bare) d.open_count d.short_count d.bare_count ∙ sym said'))

pub same_summary : (v w : Verdict) (s t : ℕ) → DifferInWitnessesOnly v w → IsStatusOf v s → IsStatusOf w t → s ≡ t
same_summary v w s t d (inl (agrees, is)) (inl (agrees', is')) = is ∙ sym is'
same_summary v w s t d (inl (agrees, is)) (inr (differs, is')) = absurd (differs (d.status.0 agrees))
same_summary v w s t d (inr (differs, is)) (inl (agrees', is')) = absurd (differs (d.status.1 agrees'))
same_summary v w s t d (inr (differs, is)) (inr (differs', is')) = is ∙ sym is'

pub same_reports : Laws → (b d : PlainBoard) (one other : Version) (text said : List ℕ) (s t : ℕ) (l k : List ℕ) → b ≡ d → IsReportOn b one text s l → IsReportOn d other said t k → (s ≡ t) × (l ≡ k)
same_reports law b d one other text said s t l k e x y = same_status x.verdict y.verdict s t l k (same_verdicts law b d x.verdict y.verdict e x.right y.right) x.status_is y.status_is

-- ---- Refusals

same_line : (subject : List ℕ) (stop : Stop) (l k : List ℕ) → IsLineOf subject stop l → IsLineOf subject stop k → l ≡ k
same_line subject (absent name) l k p q = absurd p
same_line subject stop l k p q = p ∙ sym q

pub line_of_one : (subject : List ℕ) (stop other : Stop) (l k : List ℕ) → stop ≡ other → IsLineOf subject stop l → IsLineOf subject other k → l ≡ k
line_of_one subject stop other l k e p q = same_line subject other l k (subst (λ (s : Stop). IsLineOf subject s l) e p) q

-- a file that is not there to be read has one stop
pub one_taking : (f : Files) (name : List ℕ) (stop other : Stop) → StopsTaking f name stop → StopsTaking f name other → stop ≡ other
one_taking f name (absent a) (absent b) s t = ap absent (s.0 ∙ sym t.0)
one_taking f name (absent a) (longer b) s t = absurd (absent_not_longer (f name) s.1 t.1)
one_taking f name (longer a) (absent b) s t = absurd (absent_not_longer (f name) t.1 s.1)
one_taking f name (longer a) (longer b) s t = ap longer (s.0 ∙ sym t.0)
one_taking f name (absent a) other s t = absurd t
one_taking f name (longer a) other s t = absurd t
one_taking f name stop other s t = absurd s

-- ---- Lists of gaps

pub same_gap_status : (n m s t : ℕ) (l k : List ℕ) → n ≡ m → IsGapStatus n s l → IsGapStatus m t k → (s ≡ t) × (l ≡ k)
same_gap_status n m s t l k e (inl (none, is, said)) (inl (none', is', said')) = (is ∙ sym is', said ∙ sym said')
same_gap_status n m s t l k e (inl (none, is, said)) (inr (some, is', said')) = absurd (omega (arith, e, none, some))
same_gap_status n m s t l k e (inr (some, is, said)) (inl (none, is', said')) = absurd (omega (arith, e, none, some))
same_gap_status n m s t l k e (inr (some, is, said)) (inr (some', is', said')) = (is ∙ sym is', said ∙ (ap (λ (x : ℕ). counted_line (codes "gaps ") x) e ∙ sym said'))

pub same_gaps : Laws → (b d : PlainBoard) (n : ℕ) (text said : List ℕ) (s t : ℕ) (l k : List ℕ) → b ≡ d → IsGapListOn b n text s l → IsGapListOn d n said t k → (s ≡ t) × (l ≡ k)
same_gaps law b d n text said s t l k e x y =
    let own : AreGaps (CloseAt d (pos (10 * n))) x.verdict.nets x.list = subst (λ (z : PlainBoard). AreGaps (CloseAt z (pos (10 * n))) x.verdict.nets x.list) e x.are in
    let same = law.gaps d (pos (10 * n)) y.right.tables x.verdict y.verdict x.list y.list y.right.tables_are (on_one b d x.verdict y.verdict e x.right y.right) y.right.right own y.are in
    same_gap_status (length x.list) (length y.list) s t l k (ap length same) x.status_is y.status_is

pub same_box : (b d : PlainBoard) (n : ℕ) (box other : Bounds) → b ≡ d → IsTooWide b n box → IsTooWide d n other → box ≡ other
same_box b d n box other e w z = let same : Some box ≡ Some other = sym w.common ∙ (ap (λ (x : PlainBoard). grown_common (pos (5 * n)) x.pieces) e ∙ z.common) in cc same
