-- From what the parts of an audit give to its outcome.
use Rattle.std.proofs.Common.{◌≡◌, ◌≤◌, ◌⊎◌, inl, inr, ℕ, List, Some, codes, ap, subst, sym, ◌∙◌, arith}
use Rattle.board_io.specs.Handed.{Grows, Handed}
use Rattle.board_io.specs.Package.{Files, IsFaultless}
use Rattle.board_package.proofs.OneOutcome.{held_not_absent, held_not_longer}
use Rattle.board_package.proofs.Staging.{carry}
use Rattle.board_package.specs.Causes.{HandedCause}
use Rattle.board_package.specs.HandedBoard.{ComesHanded, ComesNext, IsBoardHanded, IsFirstStopHanded, StopsHanding}
use Rattle.board_package.specs.Laws.{HasOneOutcome}
use Rattle.board_package.specs.PackageBoard.{IsBoardOf, IsHeld, StopsTaking, Stop, absent, longer}
use Rattle.board_package.specs.declared.fault.BuildFault.{BuildFault}
use Rattle.board_shapes.proofs.BoardTables.{tables_are_one}
use Rattle.board_shapes.specs.Plain.{PlainBoard}
use Rattle.board_shapes.specs.Tables.{IsTables}
use Rattle.reports.specs.Rulings.{IsRulingOn}
use Rattle.boardnet.specs.Answers.{IsAnswerTo, IsUnruled}
use Rattle.boardnet.specs.HandedOutcome.{HasHandedReason}
use Rattle.boardnet.specs.Kept.{LeftBy}
use Rattle.reports.specs.Lines.{counted_line}
use Rattle.boardnet.specs.Outcome.{ComesFor, HandedOver, HasRuling, Held, IsAnswer, IsAuditStop, IsNoReport, IsReadAs, IsTextOf, Source}
use Rattle.boardnet.specs.Source.{FitsBefore, IsFileBy, IsFileWith}
use Rattle.boardnet.specs.Words.{Audit}
use Rattle.boardnet.specs.commands.Audit.{IsNoText}
use Rattle.reports.specs.declared.answer.Answer.{Answer}
use Rattle.boardnet.specs.declared.answer.Unanswered.{Unanswered}
use Rattle.boardnet.specs.declared.answer.Unanswered.TheVariants.{Stopped, NotAReport}
use Rattle.tables.specs.Tables.{Tables}
use Rattle.verdict.proofs.Holding.{le_or_lt}
use Rattle.verdict.specs.Laws.{ReportTextIsInjective}
use Rattle.verdict.specs.Right.{FailsFirst}
use Rattle.verdict.specs.declared.verdict.Verdict.{Verdict}

-- ---- Rulings

pub one_file : (files : Files) (name a b : List ℕ) → files name ≡ Some a → files name ≡ Some b → a ≡ b
one_file files name a b p q = cc (p, q)

-- there is one clause that fails first
one_clause : (tables : Tables) (v : Verdict) (n m : ℕ) → FailsFirst tables v n → FailsFirst tables v m → n ≡ m
one_clause tables v n m x y = elim (le_or_lt n m) [
  | inl up ↦ elim (le_or_lt m n) [
    | inl down ↦ omega (arith, up, down)
    | inr less ↦ absurd (x.fails (y.before x.clause (let is = x.number in omega (arith, is, less))))
  ]
  | inr less ↦ absurd (y.fails (x.before y.clause (let is = y.number in omega (arith, is, less))))
]

same_ruling : (tables : Tables) (v : Verdict) (t l text line : List ℕ) (s status : ℕ) → HasRuling tables v t s l → HasRuling tables v text status line → (s ≡ status) × (l ≡ line)
same_ruling tables v t l text line s status (inl (right, a, b, c)) (inl (right', d, e, f)) = (b ∙ sym e, c ∙ sym f)
same_ruling tables v t l text line s status (inl (right, a, b, c)) (inr (n, fails, d, e, f)) = absurd (fails.fails (right fails.clause))
same_ruling tables v t l text line s status (inr (n, fails, a, b, c)) (inl (right, d, e, f)) = absurd (fails.fails (right fails.clause))
same_ruling tables v t l text line s status (inr (n, fails, a, b, c)) (inr (m, fails', d, e, f)) = (b ∙ sym e, c ∙ (ap (λ (k : ℕ). counted_line (codes "audit untrue ") k) (one_clause tables v n m fails fails') ∙ sym f))

-- an audit has one status and one line
pub one_answer : (files : Files) (manifest report t l text line : List ℕ) (s status : ℕ) → HasOneOutcome files manifest → ReportTextIsInjective
    → IsAnswer (Held files) manifest report t s l → IsAnswer (Held files) manifest report text status line → (s ≡ status) × (l ≡ line)
one_answer files manifest report t l text line s status law one a b =
    let boards : b.board ≡ a.board = law.one_board b.board a.board b.read.0 a.read.0 in
    let bytes : b.read.1.bytes ≡ a.read.1.bytes = one_file files report b.read.1.bytes a.read.1.bytes b.read.1.file.held a.read.1.file.held in
    let verdicts : a.verdict ≡ b.verdict = one a.verdict b.verdict a.read.1.good.lawful b.read.1.good.lawful (sym a.read.1.good.text_is ∙ (sym bytes ∙ b.read.1.good.text_is)) in
    let tables : a.tables ≡ b.tables = tables_are_one b.board a.tables b.tables (subst (λ (z : PlainBoard). IsTables z a.tables) (sym boards) a.tables_are) b.tables_are in
    same_ruling b.tables b.verdict t l text line s status (subst (λ (v : Verdict). HasRuling b.tables v t s l) verdicts (subst (λ (z : Tables). HasRuling z a.verdict t s l) tables a.ruling)) b.ruling

-- ---- Stops

-- a file that is held and not too long does not stop its taking
pub no_stop_taking : (files : Files) (name bytes : List ℕ) (stop : Stop) → IsHeld files name bytes → StopsTaking files name stop → ⊥
no_stop_taking files name bytes (absent other) h s = held_not_absent files name bytes h s.1
no_stop_taking files name bytes (longer other) h s = held_not_longer files name bytes h s.1
no_stop_taking files name bytes other h s = absurd s

-- an audit that reads a verdict has no stop
pub no_stop : (files : Files) (manifest report : List ℕ) (board : PlainBoard) (verdict : Verdict) (stop : Stop) → HasOneOutcome files manifest → IsReadAs (Held files) manifest report board verdict → IsAuditStop (Held files) manifest report stop → ⊥
no_stop files manifest report board verdict stop law read (inl first) = law.not_both board stop read.0 first
no_stop files manifest report board verdict stop law read (inr s) = no_stop_taking files report read.1.bytes stop read.1.file s.behind.1

-- Where the package fits and the report is the text of a verdict, a ruling follows, unless reading (A) or writing (B) fails or memory is wanted.
abbrev pub Ruled : Files → List ℕ → List ℕ → (A B : Type 0) → ℕ → Type 0
Ruled files manifest report A B status =
    (board : PlainBoard) (bytes : List ℕ) (verdict : Verdict) → IsBoardOf files manifest board → IsHeld files report bytes → IsTextOf bytes verdict → (A → ⊥) → (B → ⊥)
    → ((text line : List ℕ) × IsAnswer (Held files) manifest report text status line) ⊎ (status ≡ 6)

-- a report that is the text of no verdict is read as none
pub no_misread : (files : Files) (manifest report : List ℕ) (board : PlainBoard) (verdict : Verdict) → IsNoText (Held files) manifest report → IsReadAs (Held files) manifest report board verdict → ⊥
no_misread files manifest report board verdict h read =
    let bytes : read.1.bytes ≡ h.behind.1.bytes = one_file files report read.1.bytes h.behind.1.bytes read.1.file.held h.behind.1.file.held in
    h.behind.1.good verdict (subst (λ (z : List ℕ). IsTextOf z verdict) bytes read.1.good)

-- ---- The way to a ruling, by what is held or was handed over

behind : (source : Source) (manifest : List ℕ) (board : PlainBoard) (A B : Source → Type 0) → ((rest : Source) → A rest → B rest) → FitsBefore source manifest board A → FitsBefore source manifest board B
behind (Held files) manifest board A B f (is, x) = (is, f (Held files) x)
behind (HandedOver before after) manifest board A B f (built, g, is, x) = (built, g, is, f (HandedOver built after) x)

-- what is put for a ruling is the answer
pub ruled : (source : Source) (manifest report : List ℕ) (board : PlainBoard) (bytes text : List ℕ) (answer : Answer)
    → FitsBefore source manifest board (λ rest. IsFileBy rest report bytes) → text ≡ bytes → IsRulingOn board text answer → IsAnswerTo source (Audit manifest report) answer
ruled source manifest report board bytes text answer is e r = record {
  board = board;
  tables = r.tables;
  tables_are = r.tables_are;
  verdict = r.verdict;
  read = behind source manifest board (λ rest. IsFileBy rest report bytes) (λ rest. IsFileWith rest report (λ z. IsTextOf z r.verdict)) (λ rest h. record { bytes = bytes; file = h; good = subst (λ (z : List ℕ). IsTextOf z r.verdict) e r.text }) is;
  ruling = r.ruling;
}

-- a report that is the text of no verdict is misread
misread : (source : Source) (manifest report : List ℕ) (board : PlainBoard) (bytes text : List ℕ)
    → FitsBefore source manifest board (λ rest. IsFileBy rest report bytes) → text ≡ bytes → IsNoReport text → IsNoText source manifest report
misread source manifest report board bytes text is e none = record {
  board = board;
  behind = behind source manifest board (λ rest. IsFileBy rest report bytes) (λ rest. IsFileWith rest report IsNoReport) (λ rest h. record { bytes = bytes; file = h; good = subst (λ (z : List ℕ). IsNoReport z) e none }) is;
}

-- a report that is not ruled on leaves the package as its board left it
pub unruled_left : (count : ℕ) (lost : List ℕ) (count' : ℕ) (lost' : List ℕ) (text : List ℕ) (why : Unanswered) → IsFaultless count lost count' lost' → IsUnruled text why → LeftBy count lost count' lost' why
unruled_left count lost count' lost' text NotAReport calm unruled = calm
unruled_left count lost count' lost' text (Stopped why) calm unruled = subst (λ (w : BuildFault). LeftBy count lost count' lost' (Stopped w)) (sym unruled) tt
unruled_left count lost count' lost' text other calm unruled = absurd unruled

-- ---- By what was handed over

-- the causes of the parts are causes of the audit
abbrev pub AuditCause : (a b : List Handed) (manifest report : List ℕ) (before now : ℕ) (lost : List ℕ) → BuildFault → Type 0
AuditCause a b manifest report before now lost why = HandedCause (λ stop. IsAuditStop (HandedOver a b) manifest report stop) (λ name. ComesFor (HandedOver a b) (Audit manifest report) name) before now lost why

pub package_handed : (a b : List Handed) (manifest report : List ℕ) (before now : ℕ) (lost : List ℕ) (why : BuildFault)
    → HandedCause (λ stop. IsFirstStopHanded a b manifest stop) (λ name. ComesHanded a b manifest name) before now lost why → AuditCause a b manifest report before now lost why
package_handed a b manifest report before now lost why h =
    carry (λ stop. IsFirstStopHanded a b manifest stop) (λ stop. IsAuditStop (HandedOver a b) manifest report stop) (λ name. ComesHanded a b manifest name) (λ name. ComesFor (HandedOver a b) (Audit manifest report) name) before before now lost why
    (record { stops = λ stop s. inl s; comes = λ name s. inl s }) (omega arith) h

pub report_handed : (a built b : List Handed) (manifest report second : List ℕ) (board : PlainBoard) (before mid now : ℕ) (lost : List ℕ) (why : BuildFault) → second ≡ report → before ≤ mid → Grows a built → Grows built b
    → IsBoardHanded a built manifest board
    → HandedCause (λ stop. StopsHanding built b second stop) (λ name. ComesNext built b second name) mid now lost why → AuditCause a b manifest report before now lost why
report_handed a built b manifest report second board before mid now lost why two le front back is h =
    carry (λ stop. StopsHanding built b report stop) (λ stop. IsAuditStop (HandedOver a b) manifest report stop) (λ name. ComesNext built b report name) (λ name. ComesFor (HandedOver a b) (Audit manifest report) name) before mid now lost why
    (record { stops = λ stop s. inr (record { board = board; behind = (built, (front, back), is, s) }); comes = λ name s. inr (record { board = board; behind = (built, (front, back), is, s) }) })
    le (subst (λ (z : List ℕ). HandedCause (λ stop. StopsHanding built b z stop) (λ name. ComesNext built b z name) mid now lost why) two h)

-- why a report is not ruled on
pub unruled_handed : (a b : List Handed) (manifest report : List ℕ) (board : PlainBoard) (bytes text : List ℕ) (before now : ℕ) (lost : List ℕ) (why : Unanswered)
    → FitsBefore (HandedOver a b) manifest board (λ rest. IsFileBy rest report bytes) → text ≡ bytes → IsUnruled text why → HasHandedReason (HandedOver a b) (Audit manifest report) before now lost why
unruled_handed a b manifest report board bytes text before now lost NotAReport is e unruled = misread (HandedOver a b) manifest report board bytes text is e unruled
unruled_handed a b manifest report board bytes text before now lost (Stopped why) is e unruled =
    subst (λ (w : BuildFault). HasHandedReason (HandedOver a b) (Audit manifest report) before now lost (Stopped w)) (sym unruled) tt
unruled_handed a b manifest report board bytes text before now lost other is e unruled = absurd unruled
