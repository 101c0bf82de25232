-- Verdicts on labelled boards: no probe is bare, and net numbers tell what joins the labelled pieces.
use Rattle.std.proofs.Common.{◌≡◌, ℕ, ◌+◌, ◌-◌, ◌<◌, suc, List, [], ◌∷◌, ◌++◌, length, get_or, Contains, pos, Option, Some, None, MatchOption, refl, sym, subst, ◌∙◌, arith}
use Rattle.std.specs.Prelude.{slice_get}
use Rattle.std.specs.List.{AllByRecursion}
use Rattle.std.proofs.lemmas.Option.{slice_get-get_or}
use Rattle.board_io.specs.Handed.{Handed}
use Rattle.board_package.specs.Causes.{HandedCauseBy, KeepsFaultsBy}
use Rattle.board_package.specs.HandedLabelled.{IsFirstLabelledStopHanded, LabelledComesHanded}
use Rattle.board_package.specs.LabelledCauses.{labelled_faults}
use Rattle.board_package.specs.Laws.{LabelledPiecesAreUnder}
use Rattle.board_shapes.proofs.BoardTables.{under_one}
use Rattle.board_shapes.specs.LawfulBoard.{IsLawfulBoard}
use Rattle.board_shapes.specs.Plain.{PlainBoard}
use Rattle.board_shapes.specs.Touching.{TouchAt, UnderAt}
use Rattle.board_shapes.specs.declared.probe.Probe.{Probe}
use Rattle.board_package.specs.declared.fault.LabelledFault.{LabelledFault}
use Rattle.board_package.specs.declared.fault.LabelledFault.TheVariants as labelled
use Rattle.boardnet.specs.Answers.{IsAnswerTo, unlabelled_of}
use Rattle.reports.specs.Notes.{line_of, status_of}
use Rattle.boardnet.specs.HandedOutcome.{HasHandedReason}
use Rattle.boardnet.specs.Kept.{LeftBy}
use Rattle.boardnet.specs.Outcome.{HandedOver, Held, JoinsPieces, Source}
use Rattle.reports.specs.Right.{IsReportOn, IsRightOn}
use Rattle.boardnet.specs.Source.{IsLabelledBoardBy}
use Rattle.boardnet.specs.Words.{X2}
use Rattle.reports.specs.declared.answer.Answer.{Answer}
use Rattle.reports.specs.declared.judged.Version.TheVariants.{Two}
use Rattle.tables.specs.Chains.{IsChain}
use Rattle.tables.specs.Tables.{TestPoint}
use Rattle.verdict.specs.Forest.{Holds}
use Rattle.verdict.specs.Right.{AreLines, Bare, Points, bare_from}
use Rattle.verdict.specs.declared.verdict.PointLine.{PointLine}
use Rattle.verdict.specs.declared.verdict.Twig.{Twig}
use Rattle.verdict.specs.declared.verdict.Verdict.{Verdict}

-- each probe has a piece under it
abbrev AllUnder : PlainBoard → Type 0
AllUnder b = (k : ℕ) (probe : Probe) → slice_get b.probes k ≡ Some probe → UnderAt b k (probe.number - 1)

-- ---- No probe is bare

abbrev IsFull : List ℕ → Type 0
IsFull row = row ≡ [] → ⊥

full : (row : List ℕ) (q : ℕ) → Contains row q → IsFull row
full row q h e = let k = subst (λ (xs : List ℕ). Contains xs q) e h in absurd (omega (arith, k.1))

rows_full : (rows : List (List ℕ)) → ((i : ℕ) → i < length rows → IsFull (get_or rows i [])) → AllByRecursion IsFull rows
rows_full [] h = tt
rows_full (row ∷ rows) h = (h 0 (omega arith), rows_full rows (λ i below. h (suc i) (omega (arith, below))))

with_net : (nets : List (List Twig)) (beneath : List (List ℕ)) (points : List TestPoint) (lines : List PointLine) (n : ℕ) → AllByRecursion IsFull beneath → AreLines nets beneath points lines → bare_from n lines ≡ []
with_net nets [] [] [] n f h = refl
with_net nets [] [] (l ∷ lines) n f h = absurd h
with_net nets [] (p ∷ points) [] n f h = absurd h
with_net nets [] (p ∷ points) (l ∷ lines) n f h = absurd h
with_net nets (u ∷ beneath) [] [] n f h = absurd h
with_net nets (u ∷ beneath) [] (l ∷ lines) n f h = absurd h
with_net nets (u ∷ beneath) (p ∷ points) [] n f h = absurd h
with_net nets (u ∷ beneath) (p ∷ points) (l ∷ lines) n f h = by l.net refl h.0.net (with_net nets beneath points lines (n + 1) f.1 h.1)
  where
    by : (o : Option ℕ) → l.net ≡ o → MatchOption l.net (u ≡ []) (λ net. (piece : ℕ) × Contains u piece × Holds nets net piece) → bare_from (n + 1) lines ≡ [] → bare_from n (l ∷ lines) ≡ []
    by None e m rest = absurd (f.0 (rw e at m))
    by (Some net) e m rest = rw e rest

row_full : (b : PlainBoard) (v : Verdict) → IsRightOn b v → AllUnder b → (r : IsRightOn b v) → (i : ℕ) → i < length r.tables.beneath → IsFull (get_or r.tables.beneath i [])
row_full b v h all r i below =
    let many : length r.tables.beneath ≡ length b.probes = r.tables_are.beneath.many in
    let within : i < length b.probes = omega (arith, many, below) in
    let some : Probe = record { number = 0; at = record { x = pos 0; y = pos 0 }; layer = 0; name = 0 } in
    let probe : Probe = get_or b.probes i some in
    full (get_or r.tables.beneath i []) (probe.number - 1) ((r.tables_are.beneath.each i within).all (probe.number - 1) (all i probe (slice_get-get_or b.probes i some within)))

none_bare : (b : PlainBoard) (v : Verdict) → (r : IsRightOn b v) → AllUnder b → v.bare ≡ []
none_bare b v r all = r.right Bare ∙ with_net v.nets r.tables.beneath r.tables.points v.points 0 (rows_full r.tables.beneath (row_full b v r all r)) (r.right Points)

-- ---- Net numbers

chain_end : (near : ℕ → ℕ → Type 0) (p q r : ℕ) (chain : List ℕ) → IsChain near p chain q → near q r → IsChain near p (chain ++ r ∷ []) r
chain_end near p q r [] e n = (subst (λ (x : ℕ). near x r) (sym e) n, refl)
chain_end near p q r (x ∷ chain) h n = (h.0, chain_end near x q r chain h.1 n)

joins_pieces : (b : PlainBoard) (v : Verdict) → IsRightOn b v → AllUnder b → JoinsPieces b v
joins_pieces b v r all k l p q is is' = (
  (λ one.
      let j = (r.joins k l).0 one in
      let first : TouchAt b (p.number - 1) j.i = under_one b k (p.number - 1) j.i (all k p is) j.first in
      let last : TouchAt b j.j (q.number - 1) = under_one b l j.j (q.number - 1) j.last (all l q is') in
      (j.i ∷ j.joined.0 ++ (q.number - 1) ∷ [], (first, chain_end (TouchAt b) j.i j.j (q.number - 1) j.joined.0 j.joined.1 last))),
  (λ chain. (r.joins k l).1 (record { i = p.number - 1; j = q.number - 1; first = all k p is; last = all l q is'; joined = chain })),
)

-- ---- The report

all_under : LabelledPiecesAreUnder → (source : Source) (manifest : List ℕ) (b : PlainBoard) → IsLabelledBoardBy source manifest b → IsLawfulBoard b → AllUnder b
all_under law (Held files) manifest b is lawful = subst AllUnder (sym is.is) (law is.end.tables is.end.board (subst IsLawfulBoard is.is lawful))
all_under law (HandedOver before after) manifest b is lawful =
    let read = is.follows in
    subst AllUnder (sym read.good.0) (law read.end.tables read.end.board (subst IsLawfulBoard read.good.0 lawful))

pub labelled_report_is : LabelledPiecesAreUnder → (source : Source) (manifest : List ℕ) (b : PlainBoard) (answer : Answer) → IsLabelledBoardBy source manifest b → IsLawfulBoard b
    → IsReportOn b Two answer.text.items (status_of answer.note) (line_of answer.note) → IsAnswerTo source (X2 manifest) answer
labelled_report_is law source manifest b answer is lawful r =
    let all = all_under law source manifest b is lawful in
    record { board = b; board_is = is; report = r; none_bare = none_bare b r.verdict r.right all; joins = joins_pieces b r.verdict r.right all }

-- ---- Where there is no board

pub left_of : (before : ℕ) (was : List ℕ) (now : ℕ) (lost : List ℕ) (why : LabelledFault) → KeepsFaultsBy labelled_faults before was now lost why → LeftBy before was now lost (unlabelled_of why)
left_of before was now lost (labelled.Build why) h = h
left_of before was now lost (labelled.Label name number byte) h = h

pub handed_reason : (manifest : List ℕ) (a b : List Handed) (before now : ℕ) (lost : List ℕ) (why : LabelledFault)
    → HandedCauseBy labelled_faults (λ stop. IsFirstLabelledStopHanded a b manifest stop) (λ name. LabelledComesHanded a b manifest name) before now lost why → HasHandedReason (HandedOver a b) (X2 manifest) before now lost (unlabelled_of why)
handed_reason manifest a b before now lost (labelled.Build why) h = h
handed_reason manifest a b before now lost (labelled.Label name number byte) h = h
