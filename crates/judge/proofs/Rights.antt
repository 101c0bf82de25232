-- The parts that `judge` makes are a right verdict.
use Rattle.std.proofs.Common.{◌≡◌, ℕ, zero, suc, ◌+◌, ◌<◌, ◌^◌, Bool, true, false, ◌==◌, ◌&&◌, if◌then◌else◌, inl, inr, List, [], ◌∷◌, length, map, get_or, Contains, All, Option, Some, None, MatchOption, IfSome, slice_get, refl, sym, ap, subst, ◌∙◌, arith}
use Rattle.std.proofs.lemmas.List.{get_or_past, length-map}
use Rattle.std.proofs.lemmas.List.Elements.{All-cons, All-from_get_or, All-get_or, All-head, All-nil, All-tail, All-weaker}
use Rattle.std.proofs.lemmas.Bool.{eqb-true}
use Rattle.std.proofs.lemmas.Option.{slice_get_within}
use Rattle.board_shapes.specs.Plain.{PlainBoard, plain_piece, plain_pieces}
use Rattle.board_shapes.specs.Tables.{IsNear, IsTables, point_of}
use Rattle.board_shapes.specs.Touching.{UnderAt}
use Rattle.board_shapes.specs.declared.placed.Placed.{Placed}
use Rattle.board_shapes.specs.declared.probe.Probe.{Probe}
use Rattle.board_shapes.specs.declared.shape.Shape.{Shape}
use Rattle.tables.specs.Lists.{AreLeast, IsLeast, Lists}
use Rattle.tables.specs.Tables.{Stands, Tables, TestPoint, row_at}
use Rattle.tables.proofs.Listing.{none_listed}
use Rattle.verdict.specs.declared.verdict.Twig.{Twig}
use Rattle.verdict.specs.declared.verdict.Short.{Short}
use Rattle.verdict.specs.declared.verdict.Open.{Open}
use Rattle.verdict.specs.declared.verdict.PointLine.{PointLine}
use Rattle.verdict.specs.declared.verdict.Mark.{Mark}
use Rattle.verdict.specs.Forest.{IsTree, IsForest, Holds, net_at, first_piece}
use Rattle.verdict.specs.Right.{IsRight, Trees, Covers, Apart, Points, Opens, Shorts, Branches, Bare, Counts, Spots, Sources, AreLines, bare_from, all_opens, all_shorts, outline, HasBranches, BeginsBeneath, IsLeastOf, first_from, marks, is_on, BeginsAtHome}
use Rattle.judge.specs.Judged.{AreLinesOn, line_by, lines_by, HasHome}
use Rattle.verdict.specs.Seats.{net_by}
use Rattle.judge.proofs.Along.{branches_along}
use Rattle.verdict.proofs.Holding.{held_within, le_or_lt}
use Rattle.verdict.specs.Seats.{IsFirst}
use Rattle.verdict.proofs.Trees.{nets_few, tree_along}

-- ---- Points

net_right : (size : ℕ) (near : ℕ → ℕ → Type 0) (nets : List (List Twig)) (numbers : List ℕ) → IsForest size near nets → ((i p : ℕ) → Holds nets i p → get_or numbers p 0 ≡ i) → (P : ℕ → Type 0) (row : List ℕ) (home : Option ℕ) → Lists P row → IsLeast P home → IfSome home (λ p. p < size) → MatchOption (net_by numbers home) (row ≡ []) (λ net. (piece : ℕ) × Contains row piece × Holds nets net piece)
net_right size near nets numbers lawful numbered P row None lists least known = none_listed P row lists least
net_right size near nets numbers lawful numbered P row (Some p) lists least known =
    let home = lawful.covers.held p known in
    (p, lists.all p least.0, subst (λ (i : ℕ). Holds nets i p) (sym (numbered home.0 p home.1)) home.1)

lines_right : (size : ℕ) (near : ℕ → ℕ → Type 0) (nets : List (List Twig)) (numbers : List ℕ) → IsForest size near nets → ((i p : ℕ) → Holds nets i p → get_or numbers p 0 ≡ i)
    → (R : ℕ → ℕ → Type 0) (probes : List Probe) (homes : List (Option ℕ)) (beneath : List (List ℕ)) → length homes ≡ length probes → length beneath ≡ length probes
    → ((k : ℕ) → k < length probes → IsLeast (R k) (get_or homes k None)) → ((k : ℕ) → k < length probes → Lists (R k) (row_at beneath k)) → All (λ home. IfSome home (λ p. p < size)) homes → AreLines nets beneath (map point_of probes) (lines_by numbers probes homes)
lines_right size near nets numbers lawful numbered R [] [] [] long many least rows known = tt
lines_right size near nets numbers lawful numbered R [] [] (r ∷ rs) long many least rows known = absurd (omega arith)
lines_right size near nets numbers lawful numbered R [] (h ∷ hs) beneath long many least rows known = absurd (omega arith)
lines_right size near nets numbers lawful numbered R (p ∷ ps) [] beneath long many least rows known = absurd (omega arith)
lines_right size near nets numbers lawful numbered R (p ∷ ps) (h ∷ hs) [] long many least rows known = absurd (omega arith)
lines_right size near nets numbers lawful numbered R (p ∷ ps) (h ∷ hs) (r ∷ rs) long many least rows known = (
  record { number = refl; layer = refl; name = refl; net = net_right size near nets numbers lawful numbered (R 0) r h (rows 0 (omega arith)) (least 0 (omega arith)) (All-head (λ home. IfSome home (λ p. p < size)) h hs known) },
  lines_right size near nets numbers lawful numbered (λ k. R (suc k)) ps hs rs (omega arith) (omega arith) (λ k below. least (suc k) (omega arith)) (λ k below. rows (suc k) (omega arith)) (All-tail (λ home. IfSome home (λ p. p < size)) h hs known),
)

least_of : (P : ℕ → Type 0) (row : List ℕ) (home : Option ℕ) (p : ℕ) → Lists P row → IsLeast P home → home ≡ Some p → IsLeastOf row p
least_of P row None p lists least same = cc
least_of P row (Some q) p lists least same = let e : q ≡ p = cc in subst (λ (x : ℕ). IsLeastOf row x) e (lists.all q least.0, λ r inside. least.1 r (lists.only r inside))

within_of : (homes : List (Option ℕ)) (k p : ℕ) → BeginsAtHome homes k p → k < length homes
within_of homes k p home = elim (le_or_lt (length homes) k) [
  | inl past ↦ (let none = get_or_past homes k None past in cc)
  | inr within ↦ within
]

home_least : (R : ℕ → ℕ → Type 0) (homes : List (Option ℕ)) (beneath : List (List ℕ)) → ((k : ℕ) → k < length homes → IsLeast (R k) (get_or homes k None)) → ((k : ℕ) → k < length homes → Lists (R k) (row_at beneath k)) → (k p : ℕ) → BeginsAtHome homes k p → BeginsBeneath beneath k p
home_least R homes beneath least rows k p home = let within = within_of homes k p home in least_of (R k) (row_at beneath k) (get_or homes k None) p (rows k within) (least k within) home

-- the piece of a home is a piece of the board
pub homes_known : (b : PlainBoard) (homes : List (Option ℕ)) → AreLeast (length b.probes) (UnderAt b) homes → All (λ home. IfSome home (λ p. p < length b.pieces)) homes
homes_known b homes least = All-from_get_or (λ home. IfSome home (λ p. p < length b.pieces)) homes None (λ k below. known k (get_or homes k None) (least.each k (let e = least.many in omega arith))) where
  known : (k : ℕ) (home : Option ℕ) → IsLeast (UnderAt b k) home → IfSome home (λ p. p < length b.pieces)
  known k None least = tt
  known k (Some p) least = slice_get_within b.pieces p least.0.piece least.0.piece_is

-- ---- Lines

pub lines_long : (numbers : List ℕ) (probes : List Probe) (homes : List (Option ℕ)) → length homes ≡ length probes → length (lines_by numbers probes homes) ≡ length probes
lines_long numbers [] homes e = refl
lines_long numbers (p ∷ ps) [] e = absurd (omega arith)
lines_long numbers (p ∷ ps) (h ∷ hs) e = let r = lines_long numbers ps hs (omega arith) in omega arith

pub lines_named : (names : ℕ) (numbers : List ℕ) (probes : List Probe) (homes : List (Option ℕ)) → All (λ p. p.name < names) probes → All (λ line. line.name < names) (lines_by numbers probes homes)
lines_named names numbers [] homes all = All-nil (λ line. line.name < names)
lines_named names numbers (p ∷ ps) [] all = All-nil (λ line. line.name < names)
lines_named names numbers (p ∷ ps) (h ∷ hs) all =
    All-cons (λ line. line.name < names) (line_by numbers p h) (lines_by numbers ps hs) (All-head (λ q. q.name < names) p ps all) (lines_named names numbers ps hs (All-tail (λ q. q.name < names) p ps all))

pub lines_netted : (size : ℕ) (near : ℕ → ℕ → Type 0) (nets : List (List Twig)) (numbers : List ℕ) → IsForest size near nets → ((i p : ℕ) → Holds nets i p → get_or numbers p 0 ≡ i) → (probes : List Probe) (homes : List (Option ℕ)) → All (λ home. IfSome home (λ p. p < size)) homes → All (λ line. IfSome line.net (λ net. net < length nets)) (lines_by numbers probes homes)
lines_netted size near nets numbers lawful numbered [] homes known = All-nil (λ line. IfSome line.net (λ net. net < length nets))
lines_netted size near nets numbers lawful numbered (p ∷ ps) [] known = All-nil (λ line. IfSome line.net (λ net. net < length nets))
lines_netted size near nets numbers lawful numbered (p ∷ ps) (h ∷ hs) known =
    All-cons (λ line. IfSome line.net (λ net. net < length nets)) (line_by numbers p h) (lines_by numbers ps hs) (netted h (All-head (λ home. IfSome home (λ p. p < size)) h hs known))
    (lines_netted size near nets numbers lawful numbered ps hs (All-tail (λ home. IfSome home (λ p. p < size)) h hs known))
  where
    netted : (home : Option ℕ) → IfSome home (λ p. p < size) → IfSome (net_by numbers home) (λ net. net < length nets)
    netted None below = tt
    netted (Some q) below = let held = lawful.covers.held q below in subst (λ (i : ℕ). i < length nets) (sym (numbered held.0 q held.1)) (held_within nets held.0 q held.1)

-- The first point of a name on a net is on the net.
abbrev Marked : ℕ → ℕ → ℕ → List PointLine → ℕ → Type 0
Marked net name n lines k = (j : ℕ) × (k ≡ n + j) × (line : PointLine) × (slice_get lines j ≡ Some line) × (marks net name line ≡ true)

marked_step : (net name n : ℕ) (line : PointLine) (lines : List PointLine) (k : ℕ) (b : Bool) → (first_from net name (n + 1) lines ≡ Some k → Marked net name (n + 1) lines k) → marks net name line ≡ b → (if b then Some n else first_from net name (n + 1) lines) ≡ Some k → Marked net name n (line ∷ lines) k
marked_step net name n line lines k true rest e found = let here : n ≡ k = cc in (0, omega arith, line, refl, e)
marked_step net name n line lines k false rest e found = let r = rest found in (suc r.0, (let f = r.1 in omega arith), r.2, r.3, r.4)

first_marked : (net name n : ℕ) (lines : List PointLine) (k : ℕ) → first_from net name n lines ≡ Some k → Marked net name n lines k
first_marked net name n [] k found = cc
first_marked net name n (line ∷ lines) k found = marked_step net name n line lines k (marks net name line) (first_marked net name (n + 1) lines k) refl found

and_right : (a b : Bool) → (a && b) ≡ true → b ≡ true
and_right true b e = e
and_right false b e = cc

is_on_some : (o : Option ℕ) (net : ℕ) → is_on o net ≡ true → o ≡ Some net
is_on_some None net e = cc
is_on_some (Some n) net e = ap Some (eqb-true n net e)

line_home : (numbers : List ℕ) (probes : List Probe) (homes : List (Option ℕ)) (j : ℕ) (line : PointLine) → slice_get (lines_by numbers probes homes) j ≡ Some line → (j < length homes) × (line.net ≡ net_by numbers (get_or homes j None))
line_home numbers [] homes j line there = cc
line_home numbers (p ∷ ps) [] j line there = cc
line_home numbers (p ∷ ps) (h ∷ hs) zero line there = let same : line_by numbers p h ≡ line = cc in (omega arith, ap (λ (l : PointLine). l.net) (sym same))
line_home numbers (p ∷ ps) (h ∷ hs) (suc j) line there = let r = line_home numbers ps hs j line there in ((let b = r.0 in omega arith), r.1)

home_of_net : (numbers : List ℕ) (home : Option ℕ) (net : ℕ) → net_by numbers home ≡ Some net → (p : ℕ) × (home ≡ Some p) × (get_or numbers p 0 ≡ net)
home_of_net numbers None net e = cc
home_of_net numbers (Some p) net e = (p, refl, cc)

pub homes_held : (size : ℕ) (near : ℕ → ℕ → Type 0) (nets : List (List Twig)) (numbers : List ℕ) (probes : List Probe) (homes : List (Option ℕ)) → IsForest size near nets → ((i p : ℕ) → Holds nets i p → get_or numbers p 0 ≡ i) → All (λ home. IfSome home (λ p. p < size)) homes → (number : ℕ) (m : Mark) → IsFirst number (lines_by numbers probes homes) m → HasHome (net_at nets number) homes m
homes_held size near nets numbers probes homes lawful numbered known number m first =
    let found = first_marked number m.name 0 (lines_by numbers probes homes) m.probe first in
    let on : found.2.net ≡ Some number = is_on_some found.2.net number (and_right (found.2.name == m.name) (is_on found.2.net number) found.4) in
    let home = line_home numbers probes homes found.0 found.2 found.3 in
    let piece = home_of_net numbers (get_or homes found.0 None) number (sym home.1 ∙ on) in
    let same : m.probe ≡ found.0 = let e = found.1 in omega arith in
    let below : piece.0 < size = known_at (get_or homes found.0 None) piece.0 (All-get_or (λ h. IfSome h (λ p. p < size)) homes found.0 None home.0 known) piece.1 in
    let held = lawful.covers.held piece.0 below in
    record {
      piece = piece.0;
      within = let b = home.0 in omega arith;
      home = ap (λ (k : ℕ). get_or homes k None) same ∙ piece.1;
      inside = subst (λ (i : ℕ). Holds nets i piece.0) (sym (numbered held.0 piece.0 held.1) ∙ piece.2) held.1;
    }
  where
    known_at : (h : Option ℕ) (p : ℕ) → IfSome h (λ q. q < size) → h ≡ Some p → p < size
    known_at None p k e = cc
    known_at (Some q) p k e = let s : q ≡ p = cc in subst (λ (x : ℕ). x < size) s k

along_branches : (nets : List (List Twig)) (starts more : ℕ → ℕ → Type 0) (lines : List PointLine) → ((probe p : ℕ) → starts probe p → more probe p) → (s : Short) → HasBranches nets starts lines s → HasBranches nets more lines s
along_branches nets starts more lines along s h = record { net = h.net; there = h.there; branches = branches_along h.net starts more along lines s.net (first_piece h.net ∷ []) s.branches h.branches }

near_within : (b : PlainBoard) (p q : ℕ) → IsNear b p q → p < length b.pieces
near_within b p q near = slice_get_within b.pieces p near.1.first near.1.first_is

pub judged_right : (b : PlainBoard) (homes : List (Option ℕ)) (nets : List (List Twig)) (numbers : List ℕ) (points : List PointLine) (opens : List Open) (shorts : List Short) (bare : List ℕ) (pieces : ℕ) (names : List (List ℕ))
    → pieces ≡ length b.pieces → names ≡ b.names → IsForest (length b.pieces) (IsNear b) nets → ((i p : ℕ) → Holds nets i p → get_or numbers p 0 ≡ i) → AreLeast (length b.probes) (UnderAt b) homes
    → points ≡ lines_by numbers b.probes homes → bare ≡ bare_from 0 points → opens ≡ all_opens 0 names points → map outline shorts ≡ all_shorts 0 nets names points → All (HasBranches nets (BeginsAtHome homes) points) shorts
    → (t : Tables) → IsTables b t → IsRight t (record { pieces = pieces; names = names; nets = nets; points = points; opens = opens; shorts = shorts; bare = bare; more = None })
judged_right b homes nets numbers points opens shorts bare pieces names all named lawful numbered least lines bared opened outlined branched t tables =
    let known = homes_known b homes least in
    let texts : names ≡ t.names = named ∙ sym tables.names in
    elim [
      | Trees ↦ record {
        known = λ i p h. subst (λ (n : ℕ). p < n) (sym tables.near.many) (lawful.trees.known i p h);
        trees = All-weaker (IsTree (IsNear b)) (IsTree (Stands t.near)) (λ net. tree_along (IsNear b) (Stands t.near) (λ p q h. (tables.near.each p (near_within b p q h)).all q h) net) nets lawful.trees.trees;
        rising = lawful.trees.rising;
      }
      | Covers ↦ record {
        held = λ p h. lawful.covers.held p (subst (λ (n : ℕ). p < n) tables.near.many h);
        one_net = lawful.covers.one_net;
        one_place = lawful.covers.one_place;
      }
      | Apart ↦ λ i j p q h k s. lawful.apart i j p q h k ((tables.near.each p (lawful.trees.known i p h)).only q s)
      | Points ↦ subst (λ (ps : List TestPoint). AreLines nets t.beneath ps points) (sym tables.points) (subst (λ (ls : List PointLine). AreLines nets t.beneath (map point_of b.probes) ls) (sym lines)
          (lines_right (length b.pieces) (IsNear b) nets numbers lawful numbered (UnderAt b) b.probes homes t.beneath least.many tables.beneath.many least.each tables.beneath.each known))
      | Opens ↦ opened ∙ ap (λ (ns : List (List ℕ)). all_opens 0 ns points) texts
      | Shorts ↦ outlined ∙ ap (λ (ns : List (List ℕ)). all_shorts 0 nets ns points) texts
      | Branches ↦ All-weaker (HasBranches nets (BeginsAtHome homes) points) (HasBranches nets (BeginsBeneath t.beneath) points)
          (along_branches nets (BeginsAtHome homes) (BeginsBeneath t.beneath) points (home_least (UnderAt b) homes t.beneath (λ k below. least.each k (let e = least.many in omega arith)) (λ k below. tables.beneath.each k (let e = least.many in omega arith)))) shorts branched
      | Bare ↦ bared
      | Counts ↦ (all ∙ sym tables.near.many, texts)
      | Spots ↦ tt
      | Sources ↦ tt
    ]

pub pieces_long : (b : PlainBoard) (items : List (Placed Shape)) → plain_pieces items ≡ b.pieces → length items ≡ length b.pieces
pieces_long b items same = sym (length-map items plain_piece) ∙ ap length same

pub lines_count : (numbers : List ℕ) (probes : List Probe) (homes : List (Option ℕ)) (lines : List PointLine) → lines ≡ lines_by numbers probes homes → length homes ≡ length probes → length lines ≡ length probes
lines_count numbers probes homes lines same long = ap length same ∙ lines_long numbers probes homes long

pub nets_short : (b : PlainBoard) (items : List (Placed Shape)) (nets trees : List (List Twig)) → plain_pieces items ≡ b.pieces → length items < 2 ^ 32 → nets ≡ trees → IsForest (length b.pieces) (IsNear b) trees → length nets < 2 ^ 32
nets_short b items nets trees same few now lawful =
    let e = nets_few (length b.pieces) (IsNear b) trees lawful.trees (length trees) refl in
    let s = ap length now in
    let k = pieces_long b items same in
    omega arith

pub pieces_within : (b : PlainBoard) (items : List (Placed Shape)) (nets trees : List (List Twig)) → plain_pieces items ≡ b.pieces → nets ≡ trees → IsForest (length b.pieces) (IsNear b) trees → (i p : ℕ) → Holds nets i p → p < length items
pieces_within b items nets trees same now lawful i p h =
    let e = lawful.trees.known i p (subst (λ (ns : List (List Twig)). Holds ns i p) now h) in
    let k = pieces_long b items same in
    omega arith

-- ---- Lines on a board

pub on_nets : (b : PlainBoard) (nets : List (List Twig)) (homes : List (Option ℕ)) (lines : List PointLine) → IsForest (length b.pieces) (IsNear b) nets → AreLeast (length b.probes) (UnderAt b) homes → AreLinesOn b nets homes lines → All (λ line. IfSome line.net (λ net. net < length nets)) lines
on_nets b nets homes lines lawful least on =
    subst (λ (ls : List PointLine). All (λ line. IfSome line.net (λ net. net < length nets)) ls) (sym on.made) (lines_netted (length b.pieces) (IsNear b) nets on.numbers lawful on.told b.probes homes (homes_known b homes least))

pub home_known : (b : PlainBoard) (nets : List (List Twig)) (homes : List (Option ℕ)) (lines : List PointLine) (number : ℕ) (m : Mark) → IsForest (length b.pieces) (IsNear b) nets → AreLeast (length b.probes) (UnderAt b) homes → AreLinesOn b nets homes lines → IsFirst number lines m → HasHome (net_at nets number) homes m
home_known b nets homes lines number m lawful least on first =
    homes_held (length b.pieces) (IsNear b) nets on.numbers b.probes homes lawful on.told (homes_known b homes least) number m (subst (λ (ls : List PointLine). IsFirst number ls m) on.made first)
