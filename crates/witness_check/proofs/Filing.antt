-- Extents of boxes, the intervals of pieces, and where those of two pieces that touch come together.
use Rattle.std.proofs.Common.{FitsSigned, w64, to_z, of_z, to_z-of_z, unsigned_abs, rules, ◌≡◌, ◌⊎◌, inl, inr, ℕ, ◌+◌, ◌/◌, ◌<◌, ◌≤◌, Bool, true, false, ◌==◌, ◌&&◌, ℤ, pos, ◌+ℤ◌, ◌-ℤ◌, ◌*ℤ◌, ◌≤ℤ◌, List, [], ◌∷◌, ◌++◌, length, get_or, All, Contains, Some, slice_get, refl, sym, ap, subst, ◌∙◌, arith}
use Rattle.std.proofs.Math.IntN.{nat_abs}
use Rattle.std.proofs.Math.Nat.{div-mul-le_self}
use Rattle.std.proofs.lemmas.Bool.{cases_eq, eq-eqb, eqb-true}
use Rattle.std.proofs.lemmas.Bool.Decides.{nat_tests}
use Rattle.std.proofs.lemmas.Int.{ints, clamps}
use Rattle.std.proofs.lemmas.Nat.{le-div}
use Rattle.std.proofs.lemmas.List.Elements.{All-get_or, All-push, All-tail, All-weaker, Contains-append_left, Contains-push}
use Rattle.std.proofs.lemmas.List.Sorted.{All-permutation, Contains-permutation}
use Rattle.std.proofs.lemmas.Option.{slice_get-get_or, slice_get_within}
use Rattle.std.proofs.lemmas.Map.Keys.{IsDistinct-IsPermutation, IsDistinct-push}
use Rattle.std.specs.Cmp.{IsEquivalence}
use Rattle.std.specs.List.{IsDistinct, list_any}
use Rattle.std.specs.List.Sorted.{IsNonDecreasingBy, IsPermutation}
use Rattle.planar.proofs.Ring.{times_cancel}
use Rattle.planar.specs.Plane.{Point, at}
use Rattle.planar.specs.declared.Frame.{Frame}
use Rattle.planar.specs.declared.TheConstants.{SIDE}
use Rattle.contact.proofs.Boxes.{box_holds, overlap_share}
use Rattle.contact.specs.Solid.{InBox, IsInside, Overlap, SharePoint}
use Rattle.contact.specs.declared.Bounds.{Bounds}
use Rattle.board_shapes.specs.Figures.{IsLawfulFigure, figure_box}
use Rattle.board_shapes.specs.LawfulBoard.{IsLawfulBoard}
use Rattle.board_shapes.specs.Plain.{PlainBoard, PlainPiece, frame_of}
use Rattle.board_shapes.specs.Shapes.{boxed, boxed_figure, lawful, not_empty, shape_box}
use Rattle.board_shapes.specs.Tables.{IsNear}
use Rattle.board_shapes.specs.Touching.{UnderAt}
use Rattle.board_shapes.specs.declared.probe.Probe.{Probe}
use Rattle.board_shapes.specs.declared.shape.Shape.{Shape}
use Rattle.verdict.proofs.Holding.{le_or_lt}
use Rattle.verdict.proofs.Steps.{and_both}
use Rattle.witness_check.specs.Extents.{IsAway, IsAwayAt, IsExtent, IsExtentAt}
use Rattle.witness_check.specs.Strips.{AreFiled, AreIntervals, ArePoints, AreSet, Files, IsFiled, IsOwn, IsSet, are_one, interval_in, place_in, point_in, strip_of}
use Rattle.witness_check.specs.declared.extent.Away.{Away}
use Rattle.witness_check.specs.declared.extent.Extent.{Extent}
use Rattle.witness_check.specs.declared.least.ProbePlace.{ProbePlace}
use Rattle.witness_check.specs.declared.strips.Interval.{Interval}
use Rattle.witness_check.specs.declared.strips.TheConstants.{LEAST_HEIGHT, STRIP}

-- ---- Extents

chain : (x y z : ℤ) → x ≤ℤ y → y ≤ℤ z → x ≤ℤ z
chain x y z f g = omega (arith, ints)

-- a box with a point in it
ordered : (b box : Bounds) (p : Point) → b ≡ box → InBox box p → (b.left ≤ℤ b.right) × (b.low ≤ℤ b.high)
ordered b box p same inside = subst (λ (x : Bounds). (x.left ≤ℤ x.right) × (x.low ≤ℤ x.high)) (sym same) (
  times_cancel p.n box.left box.right p.positive (chain (p.n *ℤ box.left) p.x (p.n *ℤ box.right) inside.not_left inside.not_right),
  times_cancel p.n box.low box.high p.positive (chain (p.n *ℤ box.low) p.y (p.n *ℤ box.high) inside.not_below inside.not_above),
)

pub box_ordered : (s : Shape) (b : Bounds) → b ≡ shape_box s → (b.left ≤ℤ b.right) × (b.low ≤ℤ b.high)
box_ordered s b same = let p = not_empty s (lawful s) in ordered b (shape_box s) p.0 same (boxed s p.0 (lawful s) p.1)

-- how far z lies from `from`, as the code takes it
pub apart_is : (from z : ℤ) (along : ℕ) → FitsSigned w64 from → FitsSigned w64 z → from ≤ℤ z → along ≡ unsigned_abs (to_z w64 (of_z w64 z) -ℤ to_z w64 (of_z w64 from)) → z ≡ from +ℤ pos along
apart_is from z along f g low is =
    let plain : along ≡ unsigned_abs (z -ℤ from) = is ∙ rw (to_z-of_z g, to_z-of_z f) refl in
    omega (arith, ints)

-- the same of a place of a side of the frame, which the code takes by a difference that fits
pub along_fits : (from z : ℤ) → FitsSigned w64 from → FitsSigned w64 z → from ≤ℤ z → z ≤ℤ (from +ℤ SIDE) → FitsSigned w64 (to_z w64 (of_z w64 z) -ℤ to_z w64 (of_z w64 from))
along_fits from z f g low high = let small : FitsSigned w64 (z -ℤ from) = search (rules, low, high) in rw (to_z-of_z g, to_z-of_z f) small

pub along_is : (from z : ℤ) → FitsSigned w64 from → FitsSigned w64 z → from ≤ℤ z → z ≤ℤ (from +ℤ SIDE) → z ≡ from +ℤ pos (nat_abs (to_z w64 (of_z w64 (to_z w64 (of_z w64 z) -ℤ to_z w64 (of_z w64 from)))))
along_is from z f g low high =
    let small : FitsSigned w64 (z -ℤ from) = search (rules, low, high) in
    let way : to_z w64 (of_z w64 (to_z w64 (of_z w64 z) -ℤ to_z w64 (of_z w64 from))) ≡ z -ℤ from = rw (to_z-of_z g, to_z-of_z f) (to_z-of_z small) in
    let size : pos (nat_abs (z -ℤ from)) ≡ z -ℤ from = omega (arith, ints) in
    let same = ap (λ (w : ℤ). pos (nat_abs w)) way in
    omega (arith, ints)

pub extent_is : (frame : Frame) (box : Bounds) (left right low high : ℕ) → IsInside box frame → box.left ≤ℤ box.right → box.low ≤ℤ box.high → box.left ≡ frame.left +ℤ pos left → box.right ≡ frame.left +ℤ pos right → box.low ≡ frame.low +ℤ pos low → box.high ≡ frame.low +ℤ pos high → IsExtent frame box (record { left = left; right = right; low = low; high = high })
extent_is frame box left right low high ((a, b), (c, d)) across up e f g h = record {
  left = e;
  right = f;
  low = g;
  high = h;
  across = omega (arith, ints);
  up = omega (arith, ints);
  short = omega (arith, ints);
  flat = omega (arith, ints);
}

pub extent_moved : (f f' : Frame) (b b' : Bounds) (e : Extent) → f ≡ f' → b ≡ b' → IsExtent f b e → IsExtent f' b' e
extent_moved f f' b b' e p q is = subst (λ (x : Frame). IsExtent x b' e) p (subst (λ (x : Bounds). IsExtent f x e) q is)

-- ---- Filing

pub flips : (x y : ℕ) → (x == y) ≡ (y == x)
flips x y = grind (arith, nat_tests)

one_turned : (x y : Interval) → are_one x y ≡ are_one y x
one_turned x y = rw (flips x.piece y.piece, flips x.start y.start) refl

-- the test is an equivalence
one_laws : IsEquivalence are_one
one_laws = record {
  refl = λ x. let a = eq-eqb x.piece x.piece refl in let b = eq-eqb x.start x.start refl in rw (a, b) refl;
  symm = one_turned;
  congr = λ x y z e.
      let both = and_both (x.piece == y.piece) (x.start == y.start) e in
      let p : x.piece ≡ y.piece = eqb-true x.piece y.piece both.0 in
      let q : x.start ≡ y.start = eqb-true x.start y.start both.1 in
      rw (p, q) refl;
}

differ : (x y : ℕ) → y < x → (x == y) ≡ false
differ x y less = grind (arith, nat_tests)

-- one of a lesser piece or that starts sooner is another
is_other : (one two : Interval) → (two.piece < one.piece) ⊎ (two.start < one.start) → are_one one two ≡ false
is_other one two (inl less) = let e : (one.piece == two.piece) ≡ false = differ one.piece two.piece less in rw e refl
is_other one two (inr sooner) = by (one.piece == two.piece) (differ one.start two.start sooner)
  where
    by : (t : Bool) → (one.start == two.start) ≡ false → (t && (one.start == two.start)) ≡ false
    by true e = e
    by false e = refl

none_one : (one : Interval) (xs : List Interval) → All (λ (two : Interval). (two.piece < one.piece) ⊎ (two.start < one.start)) xs → list_any (are_one one) xs ≡ false
none_one one [] all = refl
none_one one (two ∷ xs) all =
    let here : are_one one two ≡ false = is_other one two (all 0 two (omega arith)) in
    let more : list_any (are_one one) xs ≡ false = none_one one xs (All-tail (λ (x : Interval). (x.piece < one.piece) ⊎ (x.start < one.start)) two xs all) in
    rw (here, more) refl

pub files_more : (e : Extent) (height piece k : ℕ) (old new : List Interval) (s : Interval) → s ≡ interval_in e height piece k → e.left < STRIP → strip_of height e.low ≤ k → Files e height piece k old new → Files e height piece (k + 1) old (new ++ s ∷ [])
files_more e height piece k old new s is narrow low files = record {
  kept = λ x h. Contains-append_left new (s ∷ []) x (files.kept x h);
  only = λ n all below. All-push (λ (x : Interval). x.piece < n) new s (files.only n all below) (let same = of in omega arith);
  each = λ j from to. elim (cases_eq j k) [
    | inl same ↦ subst (λ (i : ℕ). Contains (new ++ s ∷ []) (interval_in e height piece i)) (sym same) (subst (λ (x : Interval). Contains (new ++ s ∷ []) x) is (Contains-push new s))
    | inr other ↦ Contains-append_left new (s ∷ []) (interval_in e height piece j) (files.each j from (omega arith))
  ];
  own = λ b there below all. All-push (IsOwn b height) new s (files.own b there (omega arith) all)
      (subst (IsOwn b height) (sym is) (record { extent = e; of = there; strip = k; from = low; to = omega arith; is = refl }));
  sooner = λ all. All-push (λ (x : Interval). (x.piece < piece) ⊎ (x.start < place_in (k + 1) 0)) new s
      (All-weaker (λ (x : Interval). (x.piece < piece) ⊎ (x.start < place_in k 0)) (λ (x : Interval). (x.piece < piece) ⊎ (x.start < place_in (k + 1) 0)) (λ x h. elim h [ inl less ↦ inl less | inr sooner ↦ inr (omega arith) ]) new (files.sooner all))
      (inr (let same = start in omega arith));
  once = λ all once. IsDistinct-push one_laws new s (files.once all once)
      (none_one s new (All-weaker (λ (x : Interval). (x.piece < piece) ⊎ (x.start < place_in k 0)) (λ (x : Interval). (x.piece < s.piece) ⊎ (x.start < s.start)) (λ x h. elim h [ inl less ↦ inl (let same = of in omega arith) | inr sooner ↦ inr (let same = start in omega arith) ]) new (files.sooner all)));
}
  where
    of : s.piece ≡ piece
    of = ap (λ (x : Interval). x.piece) is

    start : s.start ≡ place_in k e.left
    start = ap (λ (x : Interval). x.start) is

pub filed_none : (b : PlainBoard) (height : ℕ) (xs : List Interval) → xs ≡ [] → AreFiled b height 0 xs
unfolding IsDistinct
filed_none b height xs none = subst (AreFiled b height 0) (sym none) (record { known = λ k d below. absurd (omega arith); filed = λ p below. absurd (omega arith); own = λ k d below. absurd (omega arith); once = tt })

pub filed_more : (b : PlainBoard) (height p : ℕ) (e : Extent) (old new : List Interval) → AreFiled b height p old → IsExtentAt b p e → Files e height p (strip_of height e.high + 1) old new → AreFiled b height (p + 1) new
filed_more b height p e old new are is files = record {
  known = files.only (p + 1) (All-weaker (λ (s : Interval). s.piece < p) (λ (s : Interval). s.piece < p + 1) (λ s h. omega arith) old are.known) (omega arith);
  filed = λ q below. elim (cases_eq q p) [
    | inl same ↦ subst (λ (i : ℕ). IsFiled b height new i) (sym same) (record { extent = e; is = is; each = λ k from to. files.each k from (omega arith) })
    | inr other ↦ kept q (are.filed q (omega arith))
  ];
  own = files.own b is (omega arith) are.own;
  once = files.once are.known are.once;
}
  where
    kept : (q : ℕ) → IsFiled b height old q → IsFiled b height new q
    kept q f = record { extent = f.extent; is = f.is; each = λ k from to. files.kept (interval_in f.extent height q k) (f.each k from to) }

pub intervals_sorted : (b : PlainBoard) (height : ℕ) (xs ys : List Interval) → LEAST_HEIGHT ≤ height → AreFiled b height (length b.pieces) xs → IsPermutation xs ys → IsNonDecreasingBy (λ (s : Interval). s.start) ys → AreIntervals b height ys
intervals_sorted b height xs ys high are moved rising = record {
  high = high;
  known = All-permutation (λ (s : Interval). s.piece < length b.pieces) xs ys moved are.known;
  filed = λ p below. let f = are.filed p below in record { extent = f.extent; is = f.is; each = λ k from to. Contains-permutation xs ys (interval_in f.extent height p k) moved (f.each k from to) };
  own = All-permutation (IsOwn b height) xs ys moved are.own;
  once = IsDistinct-IsPermutation are_one one_turned xs ys moved are.once;
  rising = rising;
}

-- ---- Two pieces that touch

-- Intervales of p and q meet in the lowest strip of one of them.
pub record Comes (xs : List Interval) (p q : ℕ) : Type 0 where
  pub one : Interval
  pub two : Interval
  pub one_in : Contains xs one
  pub two_in : Contains xs two
  pub of_one : one.piece ≡ p
  pub of_two : two.piece ≡ q
  pub forth : two.start ≤ one.end
  pub back : one.start ≤ two.end
  pub lowest : (one.lowest ≡ true) ⊎ (two.lowest ≡ true)

some_one : {A : Type 0} (a b : A) → Some a ≡ Some b → a ≡ b
some_one a b e = cc

piece_at : (P : PlainPiece → Type 0) (items : List PlainPiece) (p : ℕ) (a : PlainPiece) → All P items → slice_get items p ≡ Some a → P a
piece_at P items p a all here =
    let below : p < length items = slice_get_within items p a here in
    let same : get_or items p a ≡ a = some_one (get_or items p a) a (sym (slice_get-get_or items p a below) ∙ here) in
    subst P same (All-get_or P items p a below all)

overlap_told : (from low high low' high' : ℤ) (a c a' c' : ℕ) → low ≡ from +ℤ pos a → high ≡ from +ℤ pos c → low' ≡ from +ℤ pos a' → high' ≡ from +ℤ pos c' → Overlap low high low' high' → (a' ≤ c) × (a ≤ c')
overlap_told from low high low' high' a c a' c' e f g h o = (omega (arith, ints, clamps), omega (arith, ints, clamps))

-- a higher place stands in no lower strip
pub strips_rise : (height low high : ℕ) → 0 < height → low ≤ high → strip_of height low ≤ strip_of height high
strips_rise height low high some rise = le-div (low / height) high height some (let below = div-mul-le_self low height in omega arith)

comes_in : (xs : List Interval) (height p q : ℕ) (e f : Extent) (k : ℕ) → Contains xs (interval_in e height p k) → Contains xs (interval_in f height q k) → f.left ≤ e.right → e.left ≤ f.right → (k ≡ strip_of height e.low) ⊎ (k ≡ strip_of height f.low) → Comes xs p q
comes_in xs height p q e f k here there forth back lowest = record {
  one = interval_in e height p k;
  two = interval_in f height q k;
  one_in = here;
  two_in = there;
  of_one = refl;
  of_two = refl;
  forth = omega arith;
  back = omega arith;
  lowest = elim lowest [ inl h ↦ inl (eq-eqb k (strip_of height e.low) h) | inr h ↦ inr (eq-eqb k (strip_of height f.low) h) ];
}

pub near_comes : (b : PlainBoard) (height p q : ℕ) (xs : List Interval) → IsLawfulBoard b → 0 < height → IsNear b p q → IsFiled b height xs p → IsFiled b height xs q → Comes xs p q
near_comes b height p q xs law some near one two =
    let t = near.1 in
    let same : t.first ≡ one.is.piece = some_one t.first one.is.piece (sym t.first_is ∙ one.is.is) in
    let alike : t.second ≡ two.is.piece = some_one t.second two.is.piece (sym t.second_is ∙ two.is.is) in
    let share : SharePoint (InBox (figure_box t.first.figure)) (InBox (figure_box t.second.figure)) = record {
      point = t.touch.1.point;
      in_first = boxed_figure t.first.figure t.touch.1.point (piece_at (λ x. IsLawfulFigure x.figure) b.pieces p t.first law.figures t.first_is) t.touch.1.in_first;
      in_second = boxed_figure t.second.figure t.touch.1.point (piece_at (λ x. IsLawfulFigure x.figure) b.pieces q t.second law.figures t.second_is) t.touch.1.in_second;
    } in
    let o = (overlap_share (figure_box t.first.figure) (figure_box t.second.figure)).0 share in
    let e : IsExtent (frame_of b) (figure_box t.first.figure) one.extent = subst (λ (x : PlainPiece). IsExtent (frame_of b) (figure_box x.figure) one.extent) (sym same) one.is.sides in
    let f : IsExtent (frame_of b) (figure_box t.second.figure) two.extent = subst (λ (x : PlainPiece). IsExtent (frame_of b) (figure_box x.figure) two.extent) (sym alike) two.is.sides in
    let across = overlap_told (frame_of b).left (figure_box t.first.figure).left (figure_box t.first.figure).right (figure_box t.second.figure).left (figure_box t.second.figure).right one.extent.left one.extent.right two.extent.left two.extent.right e.left e.right f.left f.right o.0 in
    let up = overlap_told (frame_of b).low (figure_box t.first.figure).low (figure_box t.first.figure).high (figure_box t.second.figure).low (figure_box t.second.figure).high one.extent.low one.extent.high two.extent.low two.extent.high e.low e.high f.low f.high o.1 in
    let own = strips_rise height one.extent.low one.extent.high some e.up in
    let other = strips_rise height two.extent.low two.extent.high some f.up in
    let forth = strips_rise height two.extent.low one.extent.high some up.0 in
    let back = strips_rise height one.extent.low two.extent.high some up.1 in
    elim (le_or_lt (strip_of height one.extent.low) (strip_of height two.extent.low)) [
      | inl le ↦ comes_in xs height p q one.extent two.extent (strip_of height two.extent.low) (one.each (strip_of height two.extent.low) le forth) (two.each (strip_of height two.extent.low) (omega arith) other) across.0 across.1 (inr refl)
      | inr less ↦ comes_in xs height p q one.extent two.extent (strip_of height one.extent.low) (one.each (strip_of height one.extent.low) (omega arith) own) (two.each (strip_of height one.extent.low) (omega arith) back) across.0 across.1 (inl refl)
    ]

-- ---- Points

pub away_there : (b : PlainBoard) (probes : List Probe) (k : ℕ) (d : Probe) (frame : Frame) (a : Away) → probes ≡ b.probes → k < length b.probes → frame ≡ frame_of b → IsAway frame (get_or probes k d).at a → IsAwayAt b k a
away_there b probes k d frame a same below corner stands = record {
  probe = get_or probes k d;
  is = subst (λ (ps : List Probe). slice_get b.probes k ≡ Some (get_or ps k d)) (sym same) (slice_get-get_or b.probes k d below);
  stands = subst (λ (f : Frame). IsAway f (get_or probes k d).at a) corner stands;
}

-- the point of one probe more
pub set_more : (b : PlainBoard) (height k : ℕ) (a : Away) (old : List ProbePlace) (s : ProbePlace) → s ≡ point_in a height k → IsAwayAt b k a → AreSet b height k old → AreSet b height (k + 1) (old ++ s ∷ [])
set_more b height k a old s is stands are = record {
  known = All-push (λ (x : ProbePlace). x.probe < k + 1) old s (All-weaker (λ (x : ProbePlace). x.probe < k) (λ (x : ProbePlace). x.probe < k + 1) (λ x h. omega arith) old are.known) (let same = ap (λ (x : ProbePlace). x.probe) is in omega arith);
  set = λ q below. elim (cases_eq q k) [
    | inl same ↦ subst (λ (i : ℕ). IsSet b height (old ++ s ∷ []) i) (sym same) (record { away = a; is = stands; listed = λ short flat. subst (λ (x : ProbePlace). Contains (old ++ s ∷ []) x) is (Contains-push old s) })
    | inr other ↦ kept q (are.set q (omega arith))
  ];
}
  where
    kept : (q : ℕ) → IsSet b height old q → IsSet b height (old ++ s ∷ []) q
    kept q f = record { away = f.away; is = f.is; listed = λ short flat. Contains-append_left old (s ∷ []) (point_in f.away height q) (f.listed short flat) }

-- a probe that stands further has none
pub set_less : (b : PlainBoard) (height k : ℕ) (a : Away) (old : List ProbePlace) → (pos a.along ≤ℤ SIDE → pos a.up ≤ℤ SIDE → ⊥) → IsAwayAt b k a → AreSet b height k old → AreSet b height (k + 1) old
set_less b height k a old far stands are = record {
  known = All-weaker (λ (x : ProbePlace). x.probe < k) (λ (x : ProbePlace). x.probe < k + 1) (λ x h. omega arith) old are.known;
  set = λ q below. elim (cases_eq q k) [
    | inl same ↦ subst (λ (i : ℕ). IsSet b height old i) (sym same) (record { away = a; is = stands; listed = λ short flat. absurd (far short flat) })
    | inr other ↦ are.set q (omega arith)
  ];
}

pub points_sorted : (b : PlainBoard) (height : ℕ) (xs ys : List ProbePlace) → AreSet b height (length b.probes) xs → IsPermutation xs ys → IsNonDecreasingBy (λ (s : ProbePlace). s.place) ys → ArePoints b height ys
points_sorted b height xs ys are moved rising = record {
  known = All-permutation (λ (s : ProbePlace). s.probe < length b.probes) xs ys moved are.known;
  set = λ k below. let f = are.set k below in record { away = f.away; is = f.is; listed = λ short flat. Contains-permutation xs ys (point_in f.away height k) moved (f.listed short flat) };
  rising = rising;
}

-- ---- A piece under a probe

-- An interval of piece p has the place.
pub record HasPlace (xs : List Interval) (place p : ℕ) : Type 0 where
  pub interval : Interval
  pub listed : Contains xs interval
  pub of_it : interval.piece ≡ p
  pub starts : interval.start ≤ place
  pub ends : place ≤ interval.end

-- where a place z between the ends of a box's side stands
place_told : (from low high z : ℤ) (a c along : ℕ) → low ≡ from +ℤ pos a → high ≡ from +ℤ pos c → (low ≤ℤ z) × (z ≤ℤ high) → (from ≤ℤ z → z ≡ from +ℤ pos along) → (a ≤ along) × (along ≤ c)
place_told from low high z a c along e h (l, r) is =
    let at_z : z ≡ from +ℤ pos along = is (omega (arith, ints)) in
    (omega (arith, ints), omega (arith, ints))

-- A spot in a box stands within its extent.
pub record StandsWithin (e : Extent) (a : Away) : Type 0 where
  pub not_left : e.left ≤ a.along
  pub not_right : a.along ≤ e.right
  pub not_below : e.low ≤ a.up
  pub not_above : a.up ≤ e.high
  pub along : pos a.along ≤ℤ SIDE
  pub up : pos a.up ≤ℤ SIDE

pub under_within : (b : PlainBoard) (height k p : ℕ) (xs : List Interval) (a : Away) → IsLawfulBoard b → (one : IsFiled b height xs p) → IsAwayAt b k a → UnderAt b k p → StandsWithin one.extent a
under_within b height k p xs a law one away u =
    let same : u.piece ≡ one.is.piece = some_one u.piece one.is.piece (sym u.piece_is ∙ one.is.is) in
    let spot : u.probe ≡ away.probe = some_one u.probe away.probe (sym u.probe_is ∙ away.is) in
    let inside : InBox (figure_box u.piece.figure) (at u.probe.at) = boxed_figure u.piece.figure (at u.probe.at) (piece_at (λ x. IsLawfulFigure x.figure) b.pieces p u.piece law.figures u.piece_is) u.under.1 in
    let held : InBox (figure_box u.piece.figure) (at away.probe.at) = subst (λ (x : Probe). InBox (figure_box u.piece.figure) (at x.at)) spot inside in
    let e : IsExtent (frame_of b) (figure_box u.piece.figure) one.extent = subst (λ (x : PlainPiece). IsExtent (frame_of b) (figure_box x.figure) one.extent) (sym same) one.is.sides in
    let between = (box_holds (figure_box u.piece.figure) away.probe.at).0 held in
    let x = place_told (frame_of b).left (figure_box u.piece.figure).left (figure_box u.piece.figure).right away.probe.at.x one.extent.left one.extent.right a.along e.left e.right between.0 away.stands.along in
    let y = place_told (frame_of b).low (figure_box u.piece.figure).low (figure_box u.piece.figure).high away.probe.at.y one.extent.low one.extent.high a.up e.low e.high between.1 away.stands.up in
    let short = e.short in
    let flat = e.flat in
    record { not_left = x.0; not_right = x.1; not_below = y.0; not_above = y.1; along = omega (arith, ints, x.1, short); up = omega (arith, ints, y.1, flat) }

pub has_place : (b : PlainBoard) (height p : ℕ) (xs : List Interval) (a : Away) → 0 < height → (one : IsFiled b height xs p) → StandsWithin one.extent a → HasPlace xs (place_in (strip_of height a.up) a.along) p
has_place b height p xs a some one within =
    let l = within.not_left in
    let r = within.not_right in
    record {
      interval = interval_in one.extent height p (strip_of height a.up);
      listed = one.each (strip_of height a.up) (strips_rise height one.extent.low a.up some within.not_below) (strips_rise height a.up one.extent.high some within.not_above);
      of_it = refl;
      starts = omega arith;
      ends = omega arith;
    }
