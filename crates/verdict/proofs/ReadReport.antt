-- The parts of a report, and the whole: what is read stood there, and what stands there is read.
use Rattle.std.proofs.Common.{◌≡◌, ℕ, ◌^◌, ◌<◌, Bool, true, false, cond, eqb, List, [], ◌∷◌, ◌++◌, length, Option, Some, None, Result, Ok, Err, codes, refl, sym, ap, subst, ◌∙◌, append_assoc, arith}
use Rattle.std.specs.Prelude.{IfOk, IfErr, IfSome}
use Rattle.std.specs.List.{AllByRecursion}
use Rattle.std.specs.Cmp.Lexicographic.{pointwise}
use Rattle.std.proofs.lemmas.List.{length-append}
use Rattle.std.proofs.lemmas.Slice.Eq.{bytes_eq-Decides}
use Rattle.lengths.specs.Text.{IsText}
use Rattle.verdict.specs.declared.report_reading.ReadFault.{ReadFault}
use Rattle.verdict.specs.declared.report_reading.ReadFault.TheVariants.{NotAReport, NoMemory}
use Rattle.verdict.specs.declared.verdict.Short.{Short}
use Rattle.verdict.specs.declared.verdict.Supplement.{Supplement}
use Rattle.verdict.specs.declared.verdict.Verdict.{Verdict}
use Rattle.verdict.specs.Lawful.{IsNumber, IsTwig, IsPointLine, IsOpen, IsBranchLine, IsShort, IsSpotLine, IsSourceLine, IsSupplement, IsVerdict}
use Rattle.verdict.specs.ReportReading.{Gives, behind, word_at, count_at, net_at, name_at, point_at, open_at, branch_at, items_at, short_at, bare_at, spot_at, source_at, section_at, titled_at, first_behind, first_line_at, supplement_at, more_at, ended, endings_at, findings_at, lists_at, report_at}
use Rattle.verdict.specs.ReportText.{word, end, count_line, numbered, line_of, section_text, net_line, name_line, point_line, open_line, branch_line, short_lines, bare_line, spot_line, source_line, last_line, nets_text, names_text, points_text, opens_text, shorts_text, bare_text, first_line, more_text, report_text}
use Rattle.verdict.proofs.Steps.{step, some_is, guard_some, front_then, behind_takes, behind_again, word_takes, word_again, count_takes, count_again}
use Rattle.verdict.proofs.ReadLists.{IsLine, items_take, items_again, items_few}
use Rattle.verdict.proofs.ReadLines.{bind_then, net_is, name_is, point_is, open_is, branch_is, bare_is, titled_takes, titled_again}
use Rattle.verdict.proofs.ReadSupplement.{spot_is, source_is}

-- what stands behind is no longer
rest_short : (m : ℕ) (a b : List ℕ) → length (a ++ b) < m → length b < m
rest_short m a b h = let long = length-append a b in omega (arith, long, h)

front_short : (m : ℕ) (a b : List ℕ) → length (a ++ b) < m → length a < m
front_short m a b h = let long = length-append a b in omega (arith, long, h)

-- ---- A count and so many items

counted_takes : {X : Type 0} (lawful : X → Type 0) (text : ℕ → X → List ℕ) (at : ℕ → List ℕ → Option (X × List ℕ)) → IsLine lawful text at → (bytes : List ℕ) (count : ℕ × List ℕ) (xs : List X × List ℕ)
    → count_at bytes ≡ Some count → items_at at count.0 0 count.1 ≡ Some xs → (bytes ≡ word (length xs.0) ++ (end ++ (numbered text 0 xs.0 ++ xs.1))) × AllByRecursion lawful xs.0
counted_takes lawful text at is bytes count xs h k =
    let items = items_take lawful text at is count.0 0 count.1 xs.0 xs.1 k in
    let whole : bytes ≡ word count.0 ++ (end ++ (numbered text 0 xs.0 ++ xs.1)) = count_takes bytes count.0 count.1 h ∙ ap (λ (t : List ℕ). word count.0 ++ (end ++ t)) items.0 in
    (whole ∙ ap (λ (n : ℕ). word n ++ (end ++ (numbered text 0 xs.0 ++ xs.1))) (sym items.1), items.2)

-- ---- Shorts

pub short_parts : (s : Short) (rest : List ℕ) → short_lines s ++ rest ≡ codes "short" ++ (word s.net ++ (word (length s.branches) ++ (end ++ (numbered (line_of branch_line) 0 s.branches ++ rest))))
short_parts s rest = simp append_assoc

short_takes : (n : ℕ) (bytes : List ℕ) (s : Short) (rest : List ℕ) → short_at n bytes ≡ Some (s, rest) → (bytes ≡ short_lines s ++ rest) × IsShort s
unfolding short_at
short_takes n bytes s rest e = bind_then (behind (codes "short") bytes) _ (s, rest) e (λ a ha e1. bind_then (word_at a) _ (s, rest) e1 (λ b hb e2. bind_then (count_at b.1) _ (s, rest) e2 (λ c hc e3. bind_then (items_at branch_at c.0 0 c.1) _ (s, rest) e3 (λ d hd e4.
    let net = word_takes a b.0 b.1 hb in
    let branches = counted_takes IsBranchLine (line_of branch_line) branch_at branch_is b.1 c d hc hd in
    let made : Short = record { net = b.0; branches = d.0 } in
    let whole : bytes ≡ short_lines made ++ d.1 = front_then bytes (codes "short") a _ (behind_takes (codes "short") bytes a ha) (front_then a (word b.0) b.1 _ net.0 branches.0) ∙ sym (short_parts made d.1) in
    subst (λ (y : Short × List ℕ). (bytes ≡ short_lines y.0 ++ y.1) × IsShort y.0) (some_is (made, d.1) (s, rest) e4) (whole, record { net = net.1; branches = branches.1 })))))

short_again : (n : ℕ) (s : Short) (rest : List ℕ) → IsShort s → length (short_lines s ++ rest) < 2 ^ 64 → short_at n (short_lines s ++ rest) ≡ Some (s, rest)
unfolding short_at
short_again n s rest h small =
    let t4 = numbered (line_of branch_line) 0 s.branches ++ rest in
    let t3 = end ++ t4 in
    let t2 = word (length s.branches) ++ t3 in
    let t1 = word s.net ++ t2 in
    let parts : short_lines s ++ rest ≡ codes "short" ++ t1 = short_parts s rest in
    let whole : length (codes "short" ++ t1) < 2 ^ 64 = subst (λ (t : List ℕ). length t < 2 ^ 64) parts small in
    let tail : length t4 < 2 ^ 64 = rest_short (2 ^ 64) end t4 (rest_short (2 ^ 64) (word (length s.branches)) t3 (rest_short (2 ^ 64) (word s.net) t2 (rest_short (2 ^ 64) (codes "short") t1 whole))) in
    let lines : length (numbered (line_of branch_line) 0 s.branches) < 2 ^ 64 = front_short (2 ^ 64) (numbered (line_of branch_line) 0 s.branches) rest tail in
    let few = items_few IsBranchLine (line_of branch_line) branch_at branch_is s.branches 0 in
    let count : length s.branches < 2 ^ 64 = omega (arith, few, lines) in
    ap (short_at n) parts
    ∙ step (behind (codes "short") (codes "short" ++ t1)) _ t1 (Some (s, rest)) (behind_again (codes "short") t1)
    (step (word_at t1) _ (s.net, t2) (Some (s, rest)) (word_again s.net t2 h.net refl)
    (step (count_at t2) _ (length s.branches, t4) (Some (s, rest)) (count_again (length s.branches) t4 count)
    (step (items_at branch_at (length s.branches) 0 t4) _ (s.branches, rest) (Some (s, rest)) (items_again IsBranchLine (line_of branch_line) branch_at branch_is s.branches 0 rest h.branches tail) refl)))

short_is : IsLine IsShort (λ n s. short_lines s) short_at
short_is = record {
  takes = short_takes;
  again = short_again;
  some = λ n x. omega arith;
}

-- ---- Sections

pub section_parts : {X : Type 0} (title : List ℕ) (text : ℕ → X → List ℕ) (xs : List X) (rest : List ℕ) → section_text title text xs ++ rest ≡ title ++ (word (length xs) ++ (end ++ (numbered text 0 xs ++ rest)))
section_parts title text xs rest = simp append_assoc

section_takes : {X : Type 0} (lawful : X → Type 0) (text : ℕ → X → List ℕ) (at : ℕ → List ℕ → Option (X × List ℕ)) → IsLine lawful text at → (title bytes : List ℕ) (xs : List X) (rest : List ℕ) → section_at at title bytes ≡ Some (xs, rest)
    → (bytes ≡ section_text title text xs ++ rest) × AllByRecursion lawful xs
unfolding section_at
section_takes lawful text at is title bytes xs rest e = bind_then (behind title bytes) _ (xs, rest) e (λ a ha e1. bind_then (count_at a) _ (xs, rest) e1 (λ b hb e2.
    let items = counted_takes lawful text at is a b (xs, rest) hb e2 in
    (front_then bytes title a _ (behind_takes title bytes a ha) items.0 ∙ sym (section_parts title text xs rest), items.1)))

section_again : {X : Type 0} (lawful : X → Type 0) (text : ℕ → X → List ℕ) (at : ℕ → List ℕ → Option (X × List ℕ)) → IsLine lawful text at → (title : List ℕ) (xs : List X) (rest : List ℕ) → AllByRecursion lawful xs
    → length (section_text title text xs ++ rest) < 2 ^ 64 → section_at at title (section_text title text xs ++ rest) ≡ Some (xs, rest)
unfolding section_at
section_again lawful text at is title xs rest h small =
    let t3 = numbered text 0 xs ++ rest in
    let t2 = end ++ t3 in
    let t1 = word (length xs) ++ t2 in
    let whole : length (title ++ t1) < 2 ^ 64 = subst (λ (t : List ℕ). length t < 2 ^ 64) (section_parts title text xs rest) small in
    let tail : length t3 < 2 ^ 64 = rest_short (2 ^ 64) end t3 (rest_short (2 ^ 64) (word (length xs)) t2 (rest_short (2 ^ 64) title t1 whole)) in
    let lines : length (numbered text 0 xs) < 2 ^ 64 = front_short (2 ^ 64) (numbered text 0 xs) rest tail in
    let few = items_few lawful text at is xs 0 in
    let count : length xs < 2 ^ 64 = omega (arith, few, lines) in
    ap (section_at at title) (section_parts title text xs rest)
    ∙ step (behind title (title ++ t1)) _ t1 (Some (xs, rest)) (behind_again title t1)
    (step (count_at t1) _ (length xs, t3) (Some (xs, rest)) (count_again (length xs) t3 count)
    (items_again lawful text at is xs 0 rest h tail))

-- ---- The first line and the supplement

-- whether there is a supplement
abbrev pub is_there : Option Supplement → Bool
is_there None = false
is_there (Some more) = true

abbrev headed : Bool → List ℕ
headed false = codes "boardnet 1" ++ 10 ∷ []
headed true = codes "boardnet 2" ++ 10 ∷ []

first_is : (more : Option Supplement) → first_line more ≡ headed (is_there more)
first_is None = refl
first_is (Some more) = refl

first_takes : (text : List ℕ) (told : Bool) (rest : List ℕ) → first_line_at text ≡ Some (told, rest) → text ≡ headed told ++ rest
unfolding first_line_at
first_takes text told rest e = by (behind (headed false) text) refl e
  where
    by : (o : Option (List ℕ)) → behind (headed false) text ≡ o → first_behind o text ≡ Some (told, rest) → text ≡ headed told ++ rest
    by (Some r) h k = subst (λ (x : Bool × List ℕ). text ≡ headed x.0 ++ x.1) (some_is (false, r) (told, rest) k) (behind_takes (headed false) text r h)
    by None h k = bind_then (behind (headed true) text) (λ r. Some (true, r)) (told, rest) k (λ r hr k1.
        subst (λ (x : Bool × List ℕ). text ≡ headed x.0 ++ x.1) (some_is (true, r) (told, rest) k1) (behind_takes (headed true) text r hr))

two_is_not_one : (rest : List ℕ) → behind (headed false) (headed true ++ rest) ≡ None
unfolding behind
two_is_not_one rest = refl

first_again : (more : Option Supplement) (rest : List ℕ) → first_line_at (first_line more ++ rest) ≡ Some (is_there more, rest)
unfolding first_line_at
first_again None rest = ap (λ (o : Option (List ℕ)). first_behind o (headed false ++ rest)) (behind_again (headed false) rest)
first_again (Some more) rest =
    ap (λ (o : Option (List ℕ)). first_behind o (headed true ++ rest)) (two_is_not_one rest)
    ∙ step (behind (headed true) (headed true ++ rest)) (λ r. Some (true, r)) rest (Some (true, rest)) (behind_again (headed true) rest) refl

supplement_takes : (bytes : List ℕ) (more : Supplement) (rest : List ℕ) → supplement_at bytes ≡ Some (more, rest) → (bytes ≡ more_text (Some more) ++ rest) × IsSupplement more
unfolding supplement_at
supplement_takes bytes more rest e = bind_then (section_at spot_at (codes "spots") bytes) _ (more, rest) e (λ a ha e1. bind_then (section_at source_at (codes "sources") a.1) _ (more, rest) e1 (λ b hb e2.
    let spots = section_takes IsSpotLine spot_line spot_at spot_is (codes "spots") bytes a.0 a.1 ha in
    let sources = section_takes IsSourceLine source_line source_at source_is (codes "sources") a.1 b.0 b.1 hb in
    let made : Supplement = record { spots = a.0; sources = b.0 } in
    let whole : bytes ≡ more_text (Some made) ++ b.1 = front_then bytes (section_text (codes "spots") spot_line a.0) a.1 _ spots.0 sources.0 ∙ sym (append_assoc (section_text (codes "spots") spot_line a.0) (section_text (codes "sources") source_line b.0) b.1) in
    subst (λ (x : Supplement × List ℕ). (bytes ≡ more_text (Some x.0) ++ x.1) × IsSupplement x.0) (some_is (made, b.1) (more, rest) e2) (whole, record { spots = spots.1; sources = sources.1 })))

more_takes : (told : Bool) (bytes : List ℕ) (more : Option Supplement) (rest : List ℕ) → more_at told bytes ≡ Some (more, rest) → (bytes ≡ more_text more ++ rest) × IfSome more IsSupplement × (is_there more ≡ told)
unfolding more_at
more_takes false bytes more rest e =
    subst (λ (x : Option Supplement × List ℕ). (bytes ≡ more_text x.0 ++ x.1) × IfSome x.0 IsSupplement × (is_there x.0 ≡ false)) (some_is (None, bytes) (more, rest) e) (refl, tt, refl)
more_takes true bytes more rest e = bind_then (supplement_at bytes) (λ m. Some (Some m.0, m.1)) (more, rest) e (λ a ha e1.
    let t = supplement_takes bytes a.0 a.1 ha in
    subst (λ (x : Option Supplement × List ℕ). (bytes ≡ more_text x.0 ++ x.1) × IfSome x.0 IsSupplement × (is_there x.0 ≡ true)) (some_is (Some a.0, a.1) (more, rest) e1) (t.0, t.1, refl))

more_again : (more : Option Supplement) (rest : List ℕ) → IfSome more IsSupplement → length (more_text more ++ rest) < 2 ^ 64 → more_at (is_there more) (more_text more ++ rest) ≡ Some (more, rest)
unfolding more_at supplement_at
more_again None rest h small = refl
more_again (Some more) rest h small =
    let spots = section_text (codes "spots") spot_line more.spots in
    let sources = section_text (codes "sources") source_line more.sources in
    let parts : (spots ++ sources) ++ rest ≡ spots ++ (sources ++ rest) = append_assoc spots sources rest in
    let s1 : length (spots ++ (sources ++ rest)) < 2 ^ 64 = subst (λ (t : List ℕ). length t < 2 ^ 64) parts small in
    let s2 : length (sources ++ rest) < 2 ^ 64 = rest_short (2 ^ 64) spots (sources ++ rest) s1 in
    let read : supplement_at (spots ++ (sources ++ rest)) ≡ Some (more, rest) =
    step (section_at spot_at (codes "spots") (spots ++ (sources ++ rest))) _ (more.spots, sources ++ rest) (Some (more, rest)) (section_again IsSpotLine spot_line spot_at spot_is (codes "spots") more.spots (sources ++ rest) h.spots s1)
    (step (section_at source_at (codes "sources") (sources ++ rest)) _ (more.sources, rest) (Some (more, rest)) (section_again IsSourceLine source_line source_at source_is (codes "sources") more.sources rest h.sources s2) refl) in
    ap (λ (t : List ℕ). more_at true t) parts
    ∙ step (supplement_at (spots ++ (sources ++ rest))) (λ m. Some (Some m.0, m.1)) (more, rest) (Some (Some more, rest)) read refl

-- ---- The whole

-- the last line of a verdict
abbrev pub last_of : Verdict → List ℕ
last_of v = last_line v.opens v.shorts v.bare

-- the text of a verdict from each of its parts on, as it is read, with what stands from the last line on
abbrev pub from_more : Verdict → List ℕ → List ℕ
from_more v tail = more_text v.more ++ tail

abbrev pub from_bare : Verdict → List ℕ → List ℕ
from_bare v tail = section_text (codes "missing") (line_of bare_line) v.bare ++ from_more v tail

abbrev pub from_shorts : Verdict → List ℕ → List ℕ
from_shorts v tail = section_text (codes "shorts") (line_of short_lines) v.shorts ++ from_bare v tail

abbrev pub from_opens : Verdict → List ℕ → List ℕ
from_opens v tail = section_text (codes "opens") (line_of open_line) v.opens ++ from_shorts v tail

abbrev pub from_points : Verdict → List ℕ → List ℕ
from_points v tail = section_text (codes "points") point_line v.points ++ from_opens v tail

abbrev pub from_names : Verdict → List ℕ → List ℕ
from_names v tail = section_text (codes "names") name_line v.names ++ from_points v tail

abbrev pub from_nets : Verdict → List ℕ → List ℕ
from_nets v tail = section_text (codes "nets") net_line v.nets ++ from_names v tail

abbrev pub from_pieces : Verdict → List ℕ → List ℕ
from_pieces v tail = count_line (codes "pieces") v.pieces ++ from_nets v tail

report_parts : (v : Verdict) → report_text v ≡ first_line v.more ++ from_pieces v (last_of v)
report_parts v = joined (first_line v.more) (count_line (codes "pieces") v.pieces) (nets_text v.nets) (names_text v.names) (points_text v.points) (opens_text v.opens) (shorts_text v.shorts) (bare_text v.bare) (more_text v.more) (last_of v)
  where
    joined : (head pieces nets names points opens shorts bare more last : List ℕ)
        → (((head ++ (((pieces ++ nets) ++ names) ++ points)) ++ ((opens ++ shorts) ++ bare)) ++ more) ++ last ≡ head ++ (pieces ++ (nets ++ (names ++ (points ++ (opens ++ (shorts ++ (bare ++ (more ++ last))))))))
    joined head pieces nets names points opens shorts bare more last = simp append_assoc

-- the same with something behind it
pub parts_before : (v : Verdict) (rest : List ℕ) → report_text v ++ rest ≡ first_line v.more ++ from_pieces v (last_of v ++ rest)
parts_before v rest =
    ap (λ (text : List ℕ). text ++ rest) (report_parts v)
    ∙ joined (first_line v.more) (count_line (codes "pieces") v.pieces) (nets_text v.nets) (names_text v.names) (points_text v.points) (opens_text v.opens) (shorts_text v.shorts) (bare_text v.bare) (more_text v.more) (last_of v) rest
  where
    joined : (head pieces nets names points opens shorts bare more last rest : List ℕ)
        → (head ++ (pieces ++ (nets ++ (names ++ (points ++ (opens ++ (shorts ++ (bare ++ (more ++ last))))))))) ++ rest ≡ head ++ (pieces ++ (nets ++ (names ++ (points ++ (opens ++ (shorts ++ (bare ++ (more ++ (last ++ rest)))))))))
    joined head pieces nets names points opens shorts bare more last rest = simp append_assoc

ended_takes : (v : Verdict) (rest : List ℕ) (w : Verdict) → ended v rest ≡ Some w → (rest ≡ last_of v) × (v ≡ w)
ended_takes v rest w e =
    let g = guard_some (pointwise eqb rest (last_of v)) (Some v) w e in
    ((bytes_eq-Decides rest (last_of v)).0 g.0, some_is v w g.1)

ended_again : (v : Verdict) → ended v (last_of v) ≡ Some v
ended_again v = let same : pointwise eqb (last_of v) (last_of v) ≡ true = (bytes_eq-Decides (last_of v) (last_of v)).1 refl in ap (λ (b : Bool). cond b (Some v) None) same

pub report_takes : (text : List ℕ) (v : Verdict) → report_at text ≡ Some v → IsVerdict v × (text ≡ report_text v)
unfolding report_at lists_at findings_at endings_at
report_takes text v e = bind_then (first_line_at text) _ v e (λ a ha e1. bind_then (titled_at (codes "pieces") a.1) _ v e1 (λ b hb e2.
    bind_then (section_at net_at (codes "nets") b.1) _ v e2 (λ c hc e3. bind_then (section_at name_at (codes "names") c.1) _ v e3 (λ d hd e4.
    bind_then (section_at point_at (codes "points") d.1) _ v e4 (λ f hf e5. bind_then (section_at open_at (codes "opens") f.1) _ v e5 (λ g hg e6.
    bind_then (section_at short_at (codes "shorts") g.1) _ v e6 (λ h hh e7. bind_then (section_at bare_at (codes "missing") h.1) _ v e7 (λ k hk e8.
    bind_then (more_at a.0 k.1) _ v e8 (λ m hm e9.
    let made : Verdict = record { pieces = b.0; names = d.0; nets = c.0; points = f.0; opens = g.0; shorts = h.0; bare = k.0; more = m.0 } in
    let t1 = titled_takes (codes "pieces") a.1 b.0 b.1 hb in
    let t2 = section_takes (AllByRecursion IsTwig) net_line net_at net_is (codes "nets") b.1 c.0 c.1 hc in
    let t3 = section_takes IsText name_line name_at name_is (codes "names") c.1 d.0 d.1 hd in
    let t4 = section_takes IsPointLine point_line point_at point_is (codes "points") d.1 f.0 f.1 hf in
    let t5 = section_takes IsOpen (line_of open_line) open_at open_is (codes "opens") f.1 g.0 g.1 hg in
    let t6 = section_takes IsShort (line_of short_lines) short_at short_is (codes "shorts") g.1 h.0 h.1 hh in
    let t7 = section_takes IsNumber (line_of bare_line) bare_at bare_is (codes "missing") h.1 k.0 k.1 hk in
    let t8 = more_takes a.0 k.1 m.0 m.1 hm in
    let last = ended_takes made m.1 v e9 in
    let lawful : IsVerdict made = record { pieces = t1.1; nets = t2.1; names = t3.1; points = t4.1; opens = t5.1; shorts = t6.1; bare = t7.1; more = t8.1 } in
    let u8 : k.1 ≡ from_more made (last_of made) = front_then k.1 (more_text m.0) m.1 (last_of made) t8.0 last.0 in
    let u7 : h.1 ≡ from_bare made (last_of made) = front_then h.1 (section_text (codes "missing") (line_of bare_line) k.0) k.1 (from_more made (last_of made)) t7.0 u8 in
    let u6 : g.1 ≡ from_shorts made (last_of made) = front_then g.1 (section_text (codes "shorts") (line_of short_lines) h.0) h.1 (from_bare made (last_of made)) t6.0 u7 in
    let u5 : f.1 ≡ from_opens made (last_of made) = front_then f.1 (section_text (codes "opens") (line_of open_line) g.0) g.1 (from_shorts made (last_of made)) t5.0 u6 in
    let u4 : d.1 ≡ from_points made (last_of made) = front_then d.1 (section_text (codes "points") point_line f.0) f.1 (from_opens made (last_of made)) t4.0 u5 in
    let u3 : c.1 ≡ from_names made (last_of made) = front_then c.1 (section_text (codes "names") name_line d.0) d.1 (from_points made (last_of made)) t3.0 u4 in
    let u2 : b.1 ≡ from_nets made (last_of made) = front_then b.1 (section_text (codes "nets") net_line c.0) c.1 (from_names made (last_of made)) t2.0 u3 in
    let u1 : a.1 ≡ from_pieces made (last_of made) = front_then a.1 (count_line (codes "pieces") b.0) b.1 (from_nets made (last_of made)) t1.0 u2 in
    let first : headed a.0 ≡ first_line m.0 = ap headed (sym t8.2) ∙ sym (first_is m.0) in
    let whole : text ≡ report_text made = front_then text (headed a.0) a.1 (from_pieces made (last_of made)) (first_takes text a.0 a.1 ha) u1 ∙ (ap (λ (t : List ℕ). t ++ from_pieces made (last_of made)) first ∙ sym (report_parts made)) in
    subst (λ (w : Verdict). IsVerdict w × (text ≡ report_text w)) last.1 (lawful, whole))))))))))

pub report_again : (v : Verdict) → IsVerdict v → length (report_text v) < 2 ^ 64 → report_at (report_text v) ≡ Some v
unfolding report_at lists_at findings_at endings_at
report_again v is small =
    let m = 2 ^ 64 in
    let s0 : length (first_line v.more ++ from_pieces v (last_of v)) < 2 ^ 64 = subst (λ (t : List ℕ). length t < 2 ^ 64) (report_parts v) small in
    let s1 : length (from_pieces v (last_of v)) < 2 ^ 64 = rest_short (2 ^ 64) (first_line v.more) (from_pieces v (last_of v)) s0 in
    let s2 : length (from_nets v (last_of v)) < 2 ^ 64 = rest_short (2 ^ 64) (count_line (codes "pieces") v.pieces) (from_nets v (last_of v)) s1 in
    let s3 : length (from_names v (last_of v)) < 2 ^ 64 = rest_short (2 ^ 64) (section_text (codes "nets") net_line v.nets) (from_names v (last_of v)) s2 in
    let s4 : length (from_points v (last_of v)) < 2 ^ 64 = rest_short (2 ^ 64) (section_text (codes "names") name_line v.names) (from_points v (last_of v)) s3 in
    let s5 : length (from_opens v (last_of v)) < 2 ^ 64 = rest_short (2 ^ 64) (section_text (codes "points") point_line v.points) (from_opens v (last_of v)) s4 in
    let s6 : length (from_shorts v (last_of v)) < 2 ^ 64 = rest_short (2 ^ 64) (section_text (codes "opens") (line_of open_line) v.opens) (from_shorts v (last_of v)) s5 in
    let s7 : length (from_bare v (last_of v)) < 2 ^ 64 = rest_short (2 ^ 64) (section_text (codes "shorts") (line_of short_lines) v.shorts) (from_bare v (last_of v)) s6 in
    let s8 : length (from_more v (last_of v)) < 2 ^ 64 = rest_short (2 ^ 64) (section_text (codes "missing") (line_of bare_line) v.bare) (from_more v (last_of v)) s7 in
    ap report_at (report_parts v)
    ∙ step (first_line_at (first_line v.more ++ from_pieces v (last_of v))) _ (is_there v.more, from_pieces v (last_of v)) (Some v) (first_again v.more (from_pieces v (last_of v)))
    (step (titled_at (codes "pieces") (from_pieces v (last_of v))) _ (v.pieces, from_nets v (last_of v)) (Some v) (titled_again (codes "pieces") v.pieces (from_nets v (last_of v)) is.pieces)
    (step (section_at net_at (codes "nets") (from_nets v (last_of v))) _ (v.nets, from_names v (last_of v)) (Some v) (section_again (AllByRecursion IsTwig) net_line net_at net_is (codes "nets") v.nets (from_names v (last_of v)) is.nets s2)
    (step (section_at name_at (codes "names") (from_names v (last_of v))) _ (v.names, from_points v (last_of v)) (Some v) (section_again IsText name_line name_at name_is (codes "names") v.names (from_points v (last_of v)) is.names s3)
    (step (section_at point_at (codes "points") (from_points v (last_of v))) _ (v.points, from_opens v (last_of v)) (Some v) (section_again IsPointLine point_line point_at point_is (codes "points") v.points (from_opens v (last_of v)) is.points s4)
    (step (section_at open_at (codes "opens") (from_opens v (last_of v))) _ (v.opens, from_shorts v (last_of v)) (Some v) (section_again IsOpen (line_of open_line) open_at open_is (codes "opens") v.opens (from_shorts v (last_of v)) is.opens s5)
    (step (section_at short_at (codes "shorts") (from_shorts v (last_of v))) _ (v.shorts, from_bare v (last_of v)) (Some v) (section_again IsShort (line_of short_lines) short_at short_is (codes "shorts") v.shorts (from_bare v (last_of v)) is.shorts s6)
    (step (section_at bare_at (codes "missing") (from_bare v (last_of v))) _ (v.bare, from_more v (last_of v)) (Some v) (section_again IsNumber (line_of bare_line) bare_at bare_is (codes "missing") v.bare (from_more v (last_of v)) is.bare s7)
    (step (more_at (is_there v.more) (from_more v (last_of v))) _ (v.more, last_of v) (Some v) (more_again v.more (last_of v) is.more s8)
    (ended_again v)))))))))

-- ---- The answers of the reader

pub found : (text : List ℕ) (r : Result Verdict ReadFault) → Gives (λ v. v) r (report_at text) → IfOk r (λ v. IsVerdict v × (text ≡ report_text v))
found text (Ok v) h = report_takes text v h
found text (Err fault) h = tt

pub refused : (text : List ℕ) (r : Result Verdict ReadFault) → length text < 2 ^ 64 → Gives (λ v. v) r (report_at text) → IfErr r (λ fault. fault ≡ NotAReport → (v : Verdict) → IsVerdict v → text ≡ report_text v → ⊥)
refused text (Ok v) small h = tt
refused text (Err NoMemory) small h = λ e v is same. absurd cc
refused text (Err NotAReport) small h = λ e v is same.
    let read : report_at text ≡ Some v = ap report_at same ∙ report_again v is (subst (λ (t : List ℕ). length t < 2 ^ 64) same small) in
    none_some v (sym h ∙ read)
  where
    none_some : (v : Verdict) → None ≡ Some v → ⊥
    none_some v e = absurd cc
