-- What the tests have told, said of the board and the verdict and not of their slices.
use Rattle.std.proofs.Common.{◌≡◌, ◌↔◌, IsTrue, ℕ, ◌<◌, ◌≤◌, ◌+◌, ◌^◌, Bool, true, false, inl, inr, List, [], length, All, Option, Some, None, IfSome, MatchOption, sym, ap, subst, ◌∙◌, arith, refl}
use Rattle.board_shapes.specs.Lawful.{IsProbe}
use Rattle.board_shapes.specs.Plain.{PlainBoard, plain_pieces}
use Rattle.board_shapes.specs.Tables.{IsNear}
use Rattle.board_shapes.specs.Touching.{UnderAt}
use Rattle.board_shapes.specs.declared.placed.Placed.{Placed}
use Rattle.board_shapes.specs.declared.probe.Probe.{Probe}
use Rattle.board_shapes.specs.declared.shape.Shape.{Shape}
use Rattle.verdict.specs.declared.verdict.PointLine.{PointLine}
use Rattle.verdict.specs.declared.verdict.Short.{Short}
use Rattle.verdict.specs.declared.verdict.Twig.{Twig}
use Rattle.verdict.specs.declared.verdict.Verdict.{Verdict}
use Rattle.verdict.specs.Forest.{AreTrees, Holds, IsForest, StandApart, StandOnce}
use Rattle.verdict.specs.Right.{Clause, bare_from}
use Rattle.witness_check.specs.Asked.{AreTested}
use Rattle.witness_check.specs.Findings.{FindingsFail, FindingsRuled, FindingsSay}
use Rattle.witness_check.specs.Homes.{AreHomes}
use Rattle.witness_check.specs.Lines.{AreLinesBy}
use Rattle.witness_check.specs.Nets.{HasStanding, twig_count}
use Rattle.witness_check.proofs.Lines.{home_known, homes_known, lines_named, lines_netted}
use Rattle.witness_check.proofs.Clauses.{ArePointed}
use Rattle.witness_check.proofs.Touching.{long_as}
use Rattle.witness_check.proofs.Told.{denied, told}
use Rattle.verdict.proofs.Trees.{nets_few}

pub trees_told : (b : PlainBoard) (nets own : List (List Twig)) (test : Bool) → nets ≡ own → IsTrue test ↔ AreTrees (length b.pieces) (IsNear b) nets → test ≡ true → AreTrees (length b.pieces) (IsNear b) own
trees_told b nets own test same tells e = subst (λ (n : List (List Twig)). AreTrees (length b.pieces) (IsNear b) n) same (told test (AreTrees (length b.pieces) (IsNear b) nets) tells e)

pub trees_denied : (b : PlainBoard) (nets own : List (List Twig)) (test : Bool) → nets ≡ own → IsTrue test ↔ AreTrees (length b.pieces) (IsNear b) nets → test ≡ false → AreTrees (length b.pieces) (IsNear b) own → ⊥
trees_denied b nets own test same tells e trees = denied test (AreTrees (length b.pieces) (IsNear b) nets) tells e (subst (λ (n : List (List Twig)). AreTrees (length b.pieces) (IsNear b) n) (sym same) trees)

pub some_told : {X : Type 0} (found : Option X) (x : X) (none : Type 0) (some : X → Type 0) → found ≡ Some x → MatchOption found none some → some x
some_told found x none some e tells = subst (λ (o : Option _). MatchOption o none some) e tells

pub none_told : {X : Type 0} (found : Option X) (none : Type 0) (some : X → Type 0) → found ≡ None → MatchOption found none some → none
none_told found none some e tells = subst (λ (o : Option _). MatchOption o none some) e tells

pub once_denied : (b : PlainBoard) (items : List (Placed Shape)) (nets own : List (List Twig)) → plain_pieces items ≡ b.pieces → nets ≡ own → (StandOnce (length items) nets → ⊥) → StandOnce (length b.pieces) own → ⊥
once_denied b items nets own plain same not once = not (subst (λ (n : List (List Twig)). StandOnce (length items) n) (sym same) (subst (λ (n : ℕ). StandOnce n own) (long_as b items plain) once))

pub apart_told : (b : PlainBoard) (nets own : List (List Twig)) (test : Bool) → nets ≡ own → IsTrue test ↔ StandApart (IsNear b) nets → test ≡ true → StandApart (IsNear b) own
apart_told b nets own test same tells e = subst (λ (n : List (List Twig)). StandApart (IsNear b) n) same (told test (StandApart (IsNear b) nets) tells e)

pub apart_denied : (b : PlainBoard) (nets own : List (List Twig)) (test : Bool) → nets ≡ own → IsTrue test ↔ StandApart (IsNear b) nets → test ≡ false → StandApart (IsNear b) own → ⊥
apart_denied b nets own test same tells e apart = denied test (StandApart (IsNear b) nets) tells e (subst (λ (n : List (List Twig)). StandApart (IsNear b) n) (sym same) apart)

pub stood_told : (b : PlainBoard) (items : List (Placed Shape)) (nets own : List (List Twig)) (numbers places : List ℕ) → plain_pieces items ≡ b.pieces → nets ≡ own → HasStanding (length items) nets numbers places → HasStanding (length b.pieces) own numbers places
stood_told b items nets own numbers places plain same stood = subst (λ (n : ℕ). HasStanding n own numbers places) (sym (long_as b items plain)) (subst (λ (n : List (List Twig)). HasStanding (length items) n numbers places) same stood)

-- tests of twigs, and then those of a board's strips
pub tested_after : (b : PlainBoard) (nets own : List (List Twig)) (old mid new : ℕ) → nets ≡ own → mid ≤ old + twig_count nets → AreTested b [] mid new → AreTested b own old new
tested_after b nets own old mid new same few tested =
    let count = ap twig_count same in
    elim tested [
      | inl none ↦ inl (omega (arith, few, none, count))
      | inr asked ↦ inr (let more = asked.few in record { height = asked.height; intervals = asked.intervals; are = asked.are; few = omega (arith, few, more, count) })
    ]

pub known_in : (b : PlainBoard) (items : List (Placed Shape)) (nets own : List (List Twig)) → plain_pieces items ≡ b.pieces → nets ≡ own → AreTrees (length b.pieces) (IsNear b) own → (i p : ℕ) → Holds nets i p → p < length items
known_in b items nets own plain same trees i p held =
    let below = trees.known i p (subst (λ (n : List (List Twig)). Holds n i p) same held) in
    let long = long_as b items plain in
    omega arith

pub few_in : (b : PlainBoard) (items : List (Placed Shape)) (nets : List (List Twig)) → plain_pieces items ≡ b.pieces → length items < 2 ^ 32 → AreTrees (length b.pieces) (IsNear b) nets → length nets < 2 ^ 32
few_in b items nets plain few trees =
    let most = nets_few (length b.pieces) (IsNear b) nets trees (length nets) refl in
    let long = long_as b items plain in
    omega arith

-- ---- Points

pub lines_moved : (a c : List ℕ) (probes own_probes : List Probe) (rows homes : List (Option ℕ)) (lines own_lines : List PointLine) → a ≡ c → probes ≡ own_probes → rows ≡ homes → lines ≡ own_lines → AreLinesBy a probes rows lines → AreLinesBy c own_probes homes own_lines
lines_moved a c probes own_probes rows homes lines own_lines e f g h by =
    subst (λ (x : List PointLine). AreLinesBy c own_probes homes x) h
    (subst (λ (x : List (Option ℕ)). AreLinesBy c own_probes x lines) g
    (subst (λ (x : List Probe). AreLinesBy c x rows lines) f
    (subst (λ (x : List ℕ). AreLinesBy x probes rows lines) e by)))

pub pointed : (b : PlainBoard) (v : Verdict) (numbers places : List ℕ) (homes : List (Option ℕ)) → IsForest (length b.pieces) (IsNear b) v.nets → HasStanding (length b.pieces) v.nets numbers places → AreHomes (length b.probes) (UnderAt b) v.shorts homes → AreLinesBy numbers b.probes homes v.points → ArePointed b v numbers homes
pointed b v numbers places homes forest stood under lines = record { netted = record { forest = forest; numbered = stood.numbered }; under = under; lines = lines }

pub lines_told : (b : PlainBoard) (v : Verdict) (table numbers : List ℕ) (probes : List Probe) (rows homes : List (Option ℕ)) (lines : List PointLine) (test : Bool) → table ≡ numbers → probes ≡ b.probes → rows ≡ homes → lines ≡ v.points
    → IsTrue test ↔ AreLinesBy table probes rows lines → test ≡ true → AreLinesBy numbers b.probes homes v.points
lines_told b v table numbers probes rows homes lines test e f g h tells is = lines_moved table numbers probes b.probes rows homes lines v.points e f g h (told test (AreLinesBy table probes rows lines) tells is)

pub lines_denied : (b : PlainBoard) (v : Verdict) (table numbers : List ℕ) (probes : List Probe) (rows homes : List (Option ℕ)) (lines : List PointLine) (test : Bool) → table ≡ numbers → probes ≡ b.probes → rows ≡ homes → lines ≡ v.points
    → IsTrue test ↔ AreLinesBy table probes rows lines → test ≡ false → AreLinesBy numbers b.probes homes v.points → ⊥
lines_denied b v table numbers probes rows homes lines test e f g h tells is by =
    denied test (AreLinesBy table probes rows lines) tells is (lines_moved numbers table b.probes probes homes rows v.points lines (sym e) (sym f) (sym g) (sym h) by)

pub named_in : (b : PlainBoard) (v : Verdict) (numbers : List ℕ) (homes : List (Option ℕ)) (probes : List Probe) → AreLinesBy numbers b.probes homes v.points → probes ≡ b.probes → All (IsProbe (length b.names) b.layers) probes → All (λ line. line.name < length b.names) v.points
named_in b v numbers homes probes lines same known = lines_named (length b.names) b.layers numbers b.probes homes v.points lines (subst (λ (x : List Probe). All (IsProbe (length b.names) b.layers) x) same known)

pub netted_in : (b : PlainBoard) (v : Verdict) (numbers : List ℕ) (homes : List (Option ℕ)) → ArePointed b v numbers homes → All (λ line. IfSome line.net (λ net. net < length v.nets)) v.points
netted_in b v numbers homes p = lines_netted (length b.pieces) (IsNear b) v.nets numbers p.netted.forest p.netted.numbered b.probes homes v.points p.lines (home_known b v.shorts homes p.under)

-- ---- Findings, bare points and counts

pub homes_moved : (b : PlainBoard) (v : Verdict) (shorts : List Short) (homes rows : List (Option ℕ)) → shorts ≡ v.shorts → homes ≡ rows → AreHomes (length b.probes) (UnderAt b) shorts homes → AreHomes (length b.probes) (UnderAt b) v.shorts rows
homes_moved b v shorts homes rows e f under = subst (λ (x : List (Option ℕ)). AreHomes (length b.probes) (UnderAt b) v.shorts x) f (subst (λ (x : List Short). AreHomes (length b.probes) (UnderAt b) x homes) e under)

pub homes_in : (b : PlainBoard) (v : Verdict) (table numbers : List ℕ) (rows homes : List (Option ℕ)) → table ≡ numbers → length numbers ≡ length b.pieces → rows ≡ homes → AreHomes (length b.probes) (UnderAt b) v.shorts homes → All (λ home. IfSome home (λ p. p < length table)) rows
homes_in b v table numbers rows homes e long f under =
    let size : length b.pieces ≡ length table = sym long ∙ ap (λ (xs : List ℕ). length xs) (sym e) in
    subst (λ (n : ℕ). All (λ home. IfSome home (λ p. p < n)) rows) size (subst (λ (x : List (Option ℕ)). All (λ home. IfSome home (λ p. p < length b.pieces)) x) (sym f) (homes_known b v.shorts homes under))

pub found_fail : (names own : List (List ℕ)) (rows homes : List (Option ℕ)) (v : Verdict) (o : Option ℕ) (n : ℕ) → names ≡ own → rows ≡ homes → FindingsRuled names rows v o → o ≡ Some n → FindingsFail own homes v n
found_fail names own rows homes v o n e f ruled is =
    subst (λ (x : List (List ℕ)). FindingsFail x homes v n) e
    (subst (λ (x : List (Option ℕ)). FindingsFail names x v n) f
    (subst (λ (x : Option ℕ). FindingsRuled names rows v x) is ruled))

pub found_all : (names own : List (List ℕ)) (rows homes : List (Option ℕ)) (v : Verdict) (o : Option ℕ) → names ≡ own → rows ≡ homes → FindingsRuled names rows v o → o ≡ None → (clause : Clause) → FindingsSay own homes v clause
found_all names own rows homes v o e f ruled is clause =
    subst (λ (x : List (List ℕ)). FindingsSay x homes v clause) e
    (subst (λ (x : List (Option ℕ)). FindingsSay names x v clause) f
    (subst (λ (x : Option ℕ). FindingsRuled names rows v x) is ruled clause))

pub bare_told : (lines own_lines : List PointLine) (bare own : List ℕ) (test : Bool) → lines ≡ own_lines → bare ≡ own → IsTrue test ↔ bare ≡ bare_from 0 lines → test ≡ true → own ≡ bare_from 0 own_lines
bare_told lines own_lines bare own test e f tells is = sym f ∙ (told test (bare ≡ bare_from 0 lines) tells is ∙ ap (bare_from 0) e)

pub bare_denied : (lines own_lines : List PointLine) (bare own : List ℕ) (test : Bool) → lines ≡ own_lines → bare ≡ own → IsTrue test ↔ bare ≡ bare_from 0 lines → test ≡ false → own ≡ bare_from 0 own_lines → ⊥
bare_denied lines own_lines bare own test e f tells is same = denied test (bare ≡ bare_from 0 lines) tells is (f ∙ (same ∙ ap (bare_from 0) (sym e)))

pub counts_told : (b : PlainBoard) (items : List (Placed Shape)) (pieces : ℕ) (texts own names : List (List ℕ)) (test : Bool) → plain_pieces items ≡ b.pieces → texts ≡ own → names ≡ b.names → IsTrue test ↔ ((pieces ≡ length items) × (texts ≡ names)) → test ≡ true → (pieces ≡ length b.pieces) × (own ≡ b.names)
counts_told b items pieces texts own names test plain e f tells is = (let h = told test ((pieces ≡ length items) × (texts ≡ names)) tells is in (h.0 ∙ sym (long_as b items plain), sym e ∙ (h.1 ∙ f)))

pub counts_denied : (b : PlainBoard) (items : List (Placed Shape)) (pieces : ℕ) (texts own names : List (List ℕ)) (test : Bool) → plain_pieces items ≡ b.pieces → texts ≡ own → names ≡ b.names → IsTrue test ↔ ((pieces ≡ length items) × (texts ≡ names)) → test ≡ false → (pieces ≡ length b.pieces) × (own ≡ b.names) → ⊥
counts_denied b items pieces texts own names test plain e f tells is (many, same) = denied test ((pieces ≡ length items) × (texts ≡ names)) tells is (many ∙ long_as b items plain, e ∙ (same ∙ sym f))
