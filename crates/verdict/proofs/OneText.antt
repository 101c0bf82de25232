-- Of two texts of verdicts with something behind them that are the same bytes, the verdicts are equal, and so is what follows.
-- The titles tell where each list ends, so that no count is needed, and the last line where the text does.
use Rattle.std.proofs.Common.{◌≡◌, ℕ, zero, suc, ◌+◌, ◌/◌, ◌%◌, ◌<◌, Bool, true, false, not, cond, eqb, ltb, List, [], ◌∷◌, ◌++◌, length, get_or, Option, Some, None, codes, refl, sym, ap, ◌∙◌, append_assoc, arith}
use Rattle.std.specs.Prelude.{decimal, IfSome}
use Rattle.std.specs.Fmt.{digits, digits_onto, digit_glyph}
use Rattle.std.specs.List.{AllByRecursion, list_all, after_first}
use Rattle.std.proofs.lemmas.Bool.{eqb-true}
use Rattle.std.proofs.lemmas.List.{append-nil}
use Rattle.texts.specs.Digits.{is_decimal_digit}
use Rattle.lengths.specs.Text.{IsText}
use Rattle.verdict.specs.declared.verdict.Short.{Short}
use Rattle.verdict.specs.declared.verdict.Branch.{Branch}
use Rattle.verdict.specs.declared.verdict.SourceLine.{SourceLine}
use Rattle.verdict.specs.declared.verdict.SpotLine.{SpotLine}
use Rattle.verdict.specs.declared.verdict.Supplement.{Supplement}
use Rattle.verdict.specs.declared.verdict.Verdict.{Verdict}
use Rattle.verdict.specs.Lawful.{IsNumber, IsTwig, IsPointLine, IsOpen, IsBranchLine, IsShort, IsSpotLine, IsSourceLine, IsSupplement, IsVerdict}
use Rattle.verdict.specs.ReportReading.{is_feed, word_at, net_at, name_at, point_at, open_at, branch_at, bare_at, spot_at, source_at, starts}
use Rattle.verdict.specs.ReportText.{word, end, count_line, numbered, line_of, section_text, net_line, name_line, point_line, open_line, branch_line, short_lines, bare_line, spot_line, source_line, last_line, first_line, more_text, report_text}
use Rattle.verdict.proofs.Steps.{some_is, word_again, after_feed}
use Rattle.verdict.proofs.ReadLines.{net_again, name_again, point_again, open_again, branch_again, titled_again}
use Rattle.verdict.proofs.ReadSupplement.{spot_again, source_again}
use Rattle.verdict.proofs.ReadReport.{is_there, short_parts, section_parts, last_of, from_more, from_bare, from_shorts, from_opens, from_points, from_names, from_nets, from_pieces, parts_before}

-- ---- What stands in front of equal texts

pub cancel : (a r s : List ℕ) → a ++ r ≡ a ++ s → r ≡ s
cancel [] r s e = e
cancel (b ∷ a) r s e = cancel a r s cc

pub pair_parts : {A B : Type 0} (x y : A × B) → x ≡ y → (x.0 ≡ y.0) × (x.1 ≡ y.1)
pair_parts x y e = (ap (λ (p : _ × _). p.0) e, ap (λ (p : _ × _). p.1) e)

word_one : (m n : ℕ) (r s : List ℕ) → IsNumber m → IsNumber n → starts is_decimal_digit r ≡ false → starts is_decimal_digit s ≡ false → word m ++ r ≡ word n ++ s → (m ≡ n) × (r ≡ s)
word_one m n r s low few left right e =
    pair_parts (m, r) (n, s) (some_is (m, r) (n, s) (sym (word_again m r low left) ∙ (ap word_at e ∙ word_again n s few right)))

abbrev no_feed : ℕ → Bool
no_feed b = not (is_feed b)

glyph : (d : ℕ) → no_feed (digit_glyph false d) ≡ true
glyph d = by (ltb d 10) refl
  where
    high : (b : ℕ) → 48 < b + 1 → no_feed b ≡ true
    high b h = test (eqb b 10) refl
      where
        test : (t : Bool) → eqb b 10 ≡ t → not t ≡ true
        test false e = refl
        test true e = let same : b ≡ 10 = eqb-true b 10 e in absurd (omega (arith, same, h))

    by : (t : Bool) → ltb d 10 ≡ t → no_feed (cond t (48 + d) (87 + d)) ≡ true
    by true e = high (48 + d) (omega arith)
    by false e = high (87 + d) (omega arith)

digits_feedless : (k n : ℕ) (acc : List ℕ) → list_all no_feed acc ≡ true → list_all no_feed (digits_onto k 10 false n acc) ≡ true
digits_feedless zero n acc h = h
digits_feedless (suc k) n acc h = by (eqb (n / 10) 0) (digits_feedless k (n / 10) (digit_glyph false (n % 10) ∷ acc) first)
  where
    first : list_all no_feed (digit_glyph false (n % 10) ∷ acc) ≡ true
    first = let g : no_feed (digit_glyph false (n % 10)) ≡ true = glyph (n % 10) in rw (g, h) refl

    by : (t : Bool) → list_all no_feed (digits_onto k 10 false (n / 10) (digit_glyph false (n % 10) ∷ acc)) ≡ true
        → list_all no_feed (cond t (digit_glyph false (n % 10) ∷ acc) (digits_onto k 10 false (n / 10) (digit_glyph false (n % 10) ∷ acc))) ≡ true
    by true more = first
    by false more = more

decimal_feedless : (n : ℕ) → list_all no_feed (decimal n) ≡ true
unfolding digits
decimal_feedless n = digits_feedless 64 n [] refl

-- counts may differ, what follows their lines does not
count_one : (m n : ℕ) (r s : List ℕ) → word m ++ (end ++ r) ≡ word n ++ (end ++ s) → r ≡ s
count_one m n r s e =
    let bare : decimal m ++ (end ++ r) ≡ decimal n ++ (end ++ s) = cancel (32 ∷ []) (decimal m ++ (end ++ r)) (decimal n ++ (end ++ s)) e in
    sym (after_feed (decimal m) r (decimal_feedless m)) ∙ (ap (after_first is_feed) bare ∙ after_feed (decimal n) s (decimal_feedless n))

-- ---- Lists of lines

-- Lines have a key, which what follows the last of them has not, and follow tells what they need behind them.
record IsOne {X : Type 0} (lawful : X → Type 0) (text : ℕ → X → List ℕ) (key : List ℕ → Bool) (follow : List ℕ → Bool) : Type 0 where
  begins : (n : ℕ) (x : X) (r : List ℕ) → key (text n x ++ r) ≡ true
  goes : (n : ℕ) (x : X) (r : List ℕ) → follow (text n x ++ r) ≡ true
  one : (n : ℕ) (x y : X) (r s : List ℕ) → lawful x → lawful y → follow r ≡ true → follow s ≡ true → text n x ++ r ≡ text n y ++ s → (x ≡ y) × (r ≡ s)

follows : {X : Type 0} (lawful : X → Type 0) (text : ℕ → X → List ℕ) (key follow : List ℕ → Bool) → IsOne lawful text key follow → (xs : List X) (n : ℕ) (r : List ℕ) → follow r ≡ true → follow (numbered text n xs ++ r) ≡ true
follows lawful text key follow is [] n r h = h
follows lawful text key follow is (x ∷ xs) n r h = rw (append_assoc (text n x) (numbered text (n + 1) xs) r) (is.goes n x (numbered text (n + 1) xs ++ r))

no_key : (key : List ℕ → Bool) (r t : List ℕ) → key r ≡ false → key t ≡ true → r ≡ t → ⊥
no_key key r t h k e = absurd cc

items_one : {X : Type 0} (lawful : X → Type 0) (text : ℕ → X → List ℕ) (key follow : List ℕ → Bool) → IsOne lawful text key follow → (xs ys : List X) (n : ℕ) (r s : List ℕ) → AllByRecursion lawful xs → AllByRecursion lawful ys
    → key r ≡ false → key s ≡ false → follow r ≡ true → follow s ≡ true → numbered text n xs ++ r ≡ numbered text n ys ++ s → (xs ≡ ys) × (r ≡ s)
items_one lawful text key follow is [] [] n r s all each left right fr fs e = (refl, e)
items_one lawful text key follow is [] (y ∷ ys) n r s all each left right fr fs e =
    absurd (no_key key r (text n y ++ (numbered text (n + 1) ys ++ s)) left (is.begins n y (numbered text (n + 1) ys ++ s)) (e ∙ append_assoc (text n y) (numbered text (n + 1) ys) s))
items_one lawful text key follow is (x ∷ xs) [] n r s all each left right fr fs e =
    absurd (no_key key s (text n x ++ (numbered text (n + 1) xs ++ r)) right (is.begins n x (numbered text (n + 1) xs ++ r)) (sym e ∙ append_assoc (text n x) (numbered text (n + 1) xs) r))
items_one lawful text key follow is (x ∷ xs) (y ∷ ys) n r s all each left right fr fs e =
    let parts : text n x ++ (numbered text (n + 1) xs ++ r) ≡ text n y ++ (numbered text (n + 1) ys ++ s) = sym (append_assoc (text n x) (numbered text (n + 1) xs) r) ∙ (e ∙ append_assoc (text n y) (numbered text (n + 1) ys) s) in
    let first = is.one n x y (numbered text (n + 1) xs ++ r) (numbered text (n + 1) ys ++ s) all.0 each.0 (follows lawful text key follow is xs (n + 1) r fr) (follows lawful text key follow is ys (n + 1) s fs) parts in
    let others = items_one lawful text key follow is xs ys (n + 1) r s all.1 each.1 left right fr fs first.1 in
    (cons_is first.0 others.0, others.1)
  where
    cons_is : {A : Type 0} {a b : A} {xs ys : List A} → a ≡ b → xs ≡ ys → a ∷ xs ≡ b ∷ ys
    cons_is p q = cc

section_one : {X : Type 0} (lawful : X → Type 0) (text : ℕ → X → List ℕ) (key follow : List ℕ → Bool) → IsOne lawful text key follow → (title : List ℕ) (xs ys : List X) (r s : List ℕ) → AllByRecursion lawful xs → AllByRecursion lawful ys
    → key r ≡ false → key s ≡ false → follow r ≡ true → follow s ≡ true → section_text title text xs ++ r ≡ section_text title text ys ++ s → (xs ≡ ys) × (r ≡ s)
section_one lawful text key follow is title xs ys r s all each left right fr fs e =
    let parts : title ++ (word (length xs) ++ (end ++ (numbered text 0 xs ++ r))) ≡ title ++ (word (length ys) ++ (end ++ (numbered text 0 ys ++ s))) = sym (section_parts title text xs r) ∙ (e ∙ section_parts title text ys s) in
    let counted = cancel title _ _ parts in
    let lines = count_one (length xs) (length ys) (numbered text 0 xs ++ r) (numbered text 0 ys ++ s) counted in
    items_one lawful text key follow is xs ys 0 r s all each left right fr fs lines

-- ---- Each kind of line

-- the byte at a place
abbrev has_at : ℕ → ℕ → List ℕ → Bool
has_at place b bytes = eqb (get_or bytes place 0) b

abbrev any : List ℕ → Bool
any bytes = true

abbrev lacks_branch : List ℕ → Bool
lacks_branch bytes = not (has_at 0 98 bytes)

read_one : {X : Type 0} (at : List ℕ → Option (X × List ℕ)) (a b : List ℕ) (x y : X) (r s : List ℕ) → at a ≡ Some (x, r) → at b ≡ Some (y, s) → a ≡ b → (x ≡ y) × (r ≡ s)
read_one at a b x y r s h k e = pair_parts (x, r) (y, s) (some_is (x, r) (y, s) (sym h ∙ (ap at e ∙ k)))

net_one : IsOne (AllByRecursion IsTwig) net_line (has_at 1 101) any
net_one = record {
  begins = λ n x r. refl;
  goes = λ n x r. refl;
  one = λ n x y r s h k f g e. read_one (net_at n) _ _ x y r s (net_again n x r h) (net_again n y s k) e;
}

name_one : IsOne IsText name_line (has_at 0 110) any
name_one = record {
  begins = λ n x r. refl;
  goes = λ n x r. refl;
  one = λ n x y r s h k f g e. read_one (name_at n) _ _ x y r s (name_again n x r h) (name_again n y s k) e;
}

point_one : IsOne IsPointLine point_line (has_at 0 112) any
point_one = record {
  begins = λ n x r. refl;
  goes = λ n x r. refl;
  one = λ n x y r s h k f g e. read_one (point_at n) _ _ x y r s (point_again n x r h) (point_again n y s k) e;
}

open_one : IsOne IsOpen (line_of open_line) (has_at 0 111) any
open_one = record {
  begins = λ n x r. refl;
  goes = λ n x r. refl;
  one = λ n x y r s h k f g e. read_one (open_at n) _ _ x y r s (open_again n x r h) (open_again n y s k) e;
}

branch_one : IsOne IsBranchLine (line_of branch_line) (has_at 0 98) any
branch_one = record {
  begins = λ n x r. refl;
  goes = λ n x r. refl;
  one = λ n x y r s h k f g e. read_one (branch_at n) _ _ x y r s (branch_again n x r h) (branch_again n y s k) e;
}

bare_one : IsOne IsNumber (line_of bare_line) (has_at 0 98) any
bare_one = record {
  begins = λ n x r. refl;
  goes = λ n x r. refl;
  one = λ n x y r s h k f g e. read_one (bare_at n) _ _ x y r s (titled_again (codes "bare") x r h) (titled_again (codes "bare") y s k) e;
}

lacks : (t : Bool) → not t ≡ true → t ≡ false
lacks false e = refl
lacks true e = absurd cc

short_is : (s t : Short) → s.net ≡ t.net → s.branches ≡ t.branches → s ≡ t
short_is s t p q = ap (λ (n : ℕ). record { net = n; branches = s.branches }) p ∙ ap (λ (bs : List Branch). record { net = t.net; branches = bs }) q

shorts_one : (s t : Short) (r q : List ℕ) → IsShort s → IsShort t → lacks_branch r ≡ true → lacks_branch q ≡ true → short_lines s ++ r ≡ short_lines t ++ q → (s ≡ t) × (r ≡ q)
shorts_one s t r q h k f g e =
    let parts = sym (short_parts s r) ∙ (e ∙ short_parts t q) in
    let net = word_one s.net t.net _ _ h.net k.net refl refl (cancel (codes "short") _ _ parts) in
    let listed = count_one (length s.branches) (length t.branches) _ _ net.1 in
    let branches = items_one IsBranchLine (line_of branch_line) (has_at 0 98) any branch_one s.branches t.branches 0 r q h.branches k.branches (lacks (has_at 0 98 r) f) (lacks (has_at 0 98 q) g) refl refl listed in
    (short_is s t net.0 branches.0, branches.1)

short_one : IsOne IsShort (line_of short_lines) (has_at 0 115) lacks_branch
short_one = record {
  begins = λ n x r. refl;
  goes = λ n x r. refl;
  one = λ n x y r s h k f g e. shorts_one x y r s h k f g e;
}

spot_one : IsOne IsSpotLine spot_line (has_at 1 112) any
spot_one = record {
  begins = λ n x r. refl;
  goes = λ n x r. refl;
  one = λ n x y r s h k f g e. read_one (spot_at n) _ _ x y r s (spot_again n x r h) (spot_again n y s k) e;
}

source_one : IsOne IsSourceLine source_line (has_at 0 115) any
source_one = record {
  begins = λ n x r. refl;
  goes = λ n x r. refl;
  one = λ n x y r s h k f g e. read_one (source_at n) _ _ x y r s (source_again n x r h) (source_again n y s k) e;
}

-- ---- The supplement

-- the first line tells whether there is one
first_one : (m k : Option Supplement) (r s : List ℕ) → first_line m ++ r ≡ first_line k ++ s → (is_there m ≡ is_there k) × (r ≡ s)
first_one None None r s e = (refl, cancel (codes "boardnet 1" ++ end) r s e)
first_one (Some m) (Some k) r s e = (refl, cancel (codes "boardnet 2" ++ end) r s e)
first_one None (Some k) r s e = let digits : 49 ≡ 50 = ap (λ (t : List ℕ). get_or t 9 0) e in absurd (omega (arith, digits))
first_one (Some m) None r s e = let digits : 50 ≡ 49 = ap (λ (t : List ℕ). get_or t 9 0) e in absurd (omega (arith, digits))

supplement_is : (m k : Supplement) → m.spots ≡ k.spots → m.sources ≡ k.sources → m ≡ k
supplement_is m k p q = ap (λ (x : List SpotLine). record { spots = x; sources = m.sources }) p ∙ ap (λ (x : List SourceLine). record { spots = k.spots; sources = x }) q

more_one : (m k : Option Supplement) (r s : List ℕ) → is_there m ≡ is_there k → IfSome m IsSupplement → IfSome k IsSupplement → has_at 0 115 r ≡ false → has_at 0 115 s ≡ false → more_text m ++ r ≡ more_text k ++ s → (m ≡ k) × (r ≡ s)
more_one None None r s t h l f g e = (refl, e)
more_one (Some m) (Some k) r s t h l f g e =
    let parts : section_text (codes "spots") spot_line m.spots ++ (section_text (codes "sources") source_line m.sources ++ r) ≡ section_text (codes "spots") spot_line k.spots ++ (section_text (codes "sources") source_line k.sources ++ s) =
    sym (append_assoc (section_text (codes "spots") spot_line m.spots) (section_text (codes "sources") source_line m.sources) r) ∙ (e ∙ append_assoc (section_text (codes "spots") spot_line k.spots) (section_text (codes "sources") source_line k.sources) s) in
    let spots = section_one IsSpotLine spot_line (has_at 1 112) any spot_one (codes "spots") m.spots k.spots _ _ h.spots l.spots refl refl refl refl parts in
    let sources = section_one IsSourceLine source_line (has_at 0 115) any source_one (codes "sources") m.sources k.sources r s h.sources l.sources f g refl refl spots.1 in
    (ap (λ (x : Supplement). Some x) (supplement_is m k spots.0 sources.0), sources.1)
more_one None (Some k) r s t h l f g e = absurd cc
more_one (Some m) None r s t h l f g e = absurd cc

-- ---- The whole

-- the last line begins with neither of the two bytes
last_begins : {A B C : Type 0} (opens : List A) (shorts : List B) (bare : List C) (rest : List ℕ) → (has_at 0 98 (last_line opens shorts bare ++ rest) ≡ false) × (has_at 0 115 (last_line opens shorts bare ++ rest) ≡ false)
last_begins [] [] [] rest = (refl, refl)
last_begins [] [] (b ∷ bare) rest = (refl, refl)
last_begins [] (s ∷ shorts) bare rest = (refl, refl)
last_begins (o ∷ opens) shorts bare rest = (refl, refl)

more_is_no_bare : (v : Verdict) (rest : List ℕ) → has_at 0 98 (from_more v (last_of v ++ rest)) ≡ false
more_is_no_bare v rest = by v.more
  where
    by : (more : Option Supplement) → has_at 0 98 (more_text more ++ (last_of v ++ rest)) ≡ false
    by None = (last_begins v.opens v.shorts v.bare rest).0
    by (Some more) = refl

verdict_is : (v w : Verdict) → v.pieces ≡ w.pieces → v.names ≡ w.names → v.nets ≡ w.nets → v.points ≡ w.points → v.opens ≡ w.opens → v.shorts ≡ w.shorts → v.bare ≡ w.bare → v.more ≡ w.more → v ≡ w
verdict_is v w p1 p2 p3 p4 p5 p6 p7 p8 =
    ap (λ (x : _). record { pieces = x; names = v.names; nets = v.nets; points = v.points; opens = v.opens; shorts = v.shorts; bare = v.bare; more = v.more }) p1
    ∙ (ap (λ (x : _). record { pieces = w.pieces; names = x; nets = v.nets; points = v.points; opens = v.opens; shorts = v.shorts; bare = v.bare; more = v.more }) p2
    ∙ (ap (λ (x : _). record { pieces = w.pieces; names = w.names; nets = x; points = v.points; opens = v.opens; shorts = v.shorts; bare = v.bare; more = v.more }) p3
    ∙ (ap (λ (x : _). record { pieces = w.pieces; names = w.names; nets = w.nets; points = x; opens = v.opens; shorts = v.shorts; bare = v.bare; more = v.more }) p4
    ∙ (ap (λ (x : _). record { pieces = w.pieces; names = w.names; nets = w.nets; points = w.points; opens = x; shorts = v.shorts; bare = v.bare; more = v.more }) p5
    ∙ (ap (λ (x : _). record { pieces = w.pieces; names = w.names; nets = w.nets; points = w.points; opens = w.opens; shorts = x; bare = v.bare; more = v.more }) p6
    ∙ (ap (λ (x : _). record { pieces = w.pieces; names = w.names; nets = w.nets; points = w.points; opens = w.opens; shorts = w.shorts; bare = x; more = v.more }) p7
    ∙ ap (λ (x : _). record { pieces = w.pieces; names = w.names; nets = w.nets; points = w.points; opens = w.opens; shorts = w.shorts; bare = w.bare; more = x }) p8))))))

pub one_report : (v w : Verdict) (r s : List ℕ) → IsVerdict v → IsVerdict w → report_text v ++ r ≡ report_text w ++ s → (v ≡ w) × (r ≡ s)
one_report v w r s h k e =
    let tail = last_of v ++ r in
    let other = last_of w ++ s in
    let first = first_one v.more w.more (from_pieces v tail) (from_pieces w other) (sym (parts_before v r) ∙ (e ∙ parts_before w s)) in
    let counted : codes "pieces" ++ (word v.pieces ++ (end ++ from_nets v tail)) ≡ codes "pieces" ++ (word w.pieces ++ (end ++ from_nets w other)) = sym (pieces_parts v.pieces (from_nets v tail)) ∙ (first.1 ∙ pieces_parts w.pieces (from_nets w other)) in
    let pieces = word_one v.pieces w.pieces (end ++ from_nets v tail) (end ++ from_nets w other) h.pieces k.pieces refl refl (cancel (codes "pieces") (word v.pieces ++ (end ++ from_nets v tail)) (word w.pieces ++ (end ++ from_nets w other)) counted) in
    let nets = section_one (AllByRecursion IsTwig) net_line (has_at 1 101) any net_one (codes "nets") v.nets w.nets (from_names v tail) (from_names w other) h.nets k.nets refl refl refl refl (cancel end (from_nets v tail) (from_nets w other) pieces.1) in
    let names = section_one IsText name_line (has_at 0 110) any name_one (codes "names") v.names w.names (from_points v tail) (from_points w other) h.names k.names refl refl refl refl nets.1 in
    let points = section_one IsPointLine point_line (has_at 0 112) any point_one (codes "points") v.points w.points (from_opens v tail) (from_opens w other) h.points k.points refl refl refl refl names.1 in
    let opens = section_one IsOpen (line_of open_line) (has_at 0 111) any open_one (codes "opens") v.opens w.opens (from_shorts v tail) (from_shorts w other) h.opens k.opens refl refl refl refl points.1 in
    let shorts = section_one IsShort (line_of short_lines) (has_at 0 115) lacks_branch short_one (codes "shorts") v.shorts w.shorts (from_bare v tail) (from_bare w other) h.shorts k.shorts refl refl refl refl opens.1 in
    let bare = section_one IsNumber (line_of bare_line) (has_at 0 98) any bare_one (codes "missing") v.bare w.bare (from_more v tail) (from_more w other) h.bare k.bare (more_is_no_bare v r) (more_is_no_bare w s) refl refl shorts.1 in
    let more = more_one v.more w.more tail other first.0 h.more k.more (last_begins v.opens v.shorts v.bare r).1 (last_begins w.opens w.shorts w.bare s).1 bare.1 in
    let same = verdict_is v w pieces.0 names.0 nets.0 points.0 opens.0 shorts.0 bare.0 more.0 in
    (same, cancel (last_of v) r s (more.1 ∙ ap (λ (x : Verdict). last_of x ++ s) (sym same)))
  where
    pieces_parts : (n : ℕ) (rest : List ℕ) → count_line (codes "pieces") n ++ rest ≡ codes "pieces" ++ (word n ++ (end ++ rest))
    pieces_parts n rest = simp append_assoc

pub one_text : (v w : Verdict) → IsVerdict v → IsVerdict w → report_text v ≡ report_text w → v ≡ w
one_text v w h k e = (one_report v w [] [] h k (ap (λ (text : List ℕ). text ++ []) e)).0

pub no_front : (v w : Verdict) (rest : List ℕ) → IsVerdict v → IsVerdict w → report_text v ++ rest ≡ report_text w → rest ≡ []
no_front v w rest h k e = (one_report v w rest [] h k (e ∙ sym (append-nil (report_text w)))).1
