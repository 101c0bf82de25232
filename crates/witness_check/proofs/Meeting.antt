-- Two pieces come together at most once.
use Rattle.std.proofs.Common.{◌≡◌, ◌⊎◌, inl, inr, ℕ, suc, ◌+◌, ◌*◌, ◌<◌, ◌≤◌, Bool, true, false, cond, max, nat_le, Option, ◌==◌, ◌&&◌, ◌||◌, ℤ, pos, ◌+ℤ◌, List, [], ◌∷◌, length, All, Some, slice_get, refl, sym, ap, subst, ◌∙◌, arith}
use Rattle.std.proofs.lemmas.Bool.{and_parts, eqb-true, eq-eqb, leb-true}
use Rattle.std.proofs.lemmas.Option.{slice_get_within}
use Rattle.std.proofs.lemmas.Int.{ints}
use Rattle.std.proofs.lemmas.List.Elements.{All-tail}
use Rattle.std.proofs.lemmas.Map.Keys.{IsDistinct-head, IsDistinct-tail}
use Rattle.std.specs.List.{AllByRecursion, IsDistinct}
use Rattle.std.specs.List.Sorted.{IsNonDecreasingBy}
use Rattle.board_shapes.specs.Figures.{figure_box}
use Rattle.board_shapes.specs.Plain.{PlainBoard, PlainPiece, frame_of}
use Rattle.contact.specs.declared.Bounds.{Bounds}
use Rattle.verdict.proofs.Holding.{le_or_lt}
use Rattle.witness_check.specs.Extents.{IsExtentAt}
use Rattle.witness_check.specs.Strips.{AreIntervals, IsOwn, are_one, come_together, place_in, strip_of}
use Rattle.witness_check.specs.declared.extent.Extent.{Extent}
use Rattle.witness_check.specs.declared.strips.Interval.{Interval}
use Rattle.witness_check.specs.declared.strips.TheConstants.{STRIP}
use Rattle.witness_check.specs.Meetings.{PairsComeTogetherOnce, are_of, meetings, met_with}

-- ---- One strip

-- An interval of a piece that goes from `left` to `right` along a strip, of which `low` is its lowest.
record Lies (s : Interval) (left right low strip : ℕ) : Type 0 where
  start : s.start ≡ strip * STRIP + left
  end : s.end ≡ strip * STRIP + right
  lowest : s.lowest ≡ (strip == low)
  above : low ≤ strip
  order : left ≤ right
  short : right < STRIP

-- two that meet lie in one strip
one_strip : (s t : Interval) (a b c k d e f l : ℕ) → Lies s a b c k → Lies t d e f l → s.start ≤ t.start → t.start ≤ s.end → k ≡ l
one_strip s t a b c k d e f l h m up meet = omega (arith, h.start, h.end, h.order, h.short, m.start, m.end, m.order, m.short)

-- and where they come together it is the higher of their lowest
met_strip : (s t : Interval) (a b c k d e f l : ℕ) → Lies s a b c k → Lies t d e f l → s.start ≤ t.start → t.start ≤ s.end → (s.lowest || t.lowest) ≡ true → (k ≡ l) × ((k ≡ c) ⊎ (k ≡ f))
met_strip s t a b c k d e f l h m up meet low =
    let same = one_strip s t a b c k d e f l h m up meet in
    (same, by (k == c) (l == f) refl refl (subst (λ (x : Bool). (x || (l == f)) ≡ true) h.lowest (subst (λ (x : Bool). (s.lowest || x) ≡ true) m.lowest low)))
  where
    by : (x y : Bool) → (k == c) ≡ x → (l == f) ≡ y → (x || y) ≡ true → (k ≡ c) ⊎ (k ≡ f)
    by true y g n is = inl (eqb-true k c g)
    by false true g n is = inr (one_strip s t a b c k d e f l h m up meet ∙ eqb-true l f n)
    by false false g n is = cc

-- ---- Own intervals

lies : (b : PlainBoard) (height : ℕ) (s : Interval) (o : IsOwn b height s) → Lies s o.extent.left o.extent.right (strip_of height o.extent.low) o.strip
lies b height s o =
    let short = o.of.sides.short in
    record {
      start = ap (λ (x : Interval). x.start) o.is;
      end = ap (λ (x : Interval). x.end) o.is;
      lowest = ap (λ (x : Interval). x.lowest) o.is;
      above = o.from;
      order = o.of.sides.across;
      short = omega (arith, ints, short);
    }

-- a piece begins at one place, in one lowest strip
record Sits (b : PlainBoard) (height p left low : ℕ) : Type 0 where
  is : (e : Extent) → IsExtentAt b p e → (e.left ≡ left) × (strip_of height e.low ≡ low)

same_piece : (x y : PlainPiece) (o : Option PlainPiece) → o ≡ Some x → o ≡ Some y → x ≡ y
same_piece x y o e f = cc

one_extent : (b : PlainBoard) (p : ℕ) (e f : Extent) → IsExtentAt b p e → IsExtentAt b p f → (e.left ≡ f.left) × (e.low ≡ f.low)
one_extent b p e f h k =
    let same : h.piece ≡ k.piece = same_piece h.piece k.piece (slice_get b.pieces p) h.is k.is in
    let box : figure_box h.piece.figure ≡ figure_box k.piece.figure = ap (λ (x : PlainPiece). figure_box x.figure) same in
    let left : (figure_box h.piece.figure).left ≡ (figure_box k.piece.figure).left = ap (λ (x : Bounds). x.left) box in
    let low : (figure_box h.piece.figure).low ≡ (figure_box k.piece.figure).low = ap (λ (x : Bounds). x.low) box in
    (one_away (frame_of b).left _ _ e.left f.left h.sides.left k.sides.left left, one_away (frame_of b).low _ _ e.low f.low h.sides.low k.sides.low low)
  where
    one_away : (from x y : ℤ) (i j : ℕ) → x ≡ from +ℤ pos i → y ≡ from +ℤ pos j → x ≡ y → i ≡ j
    one_away from x y i j a c d = omega (arith, ints)

record Sitting (b : PlainBoard) (height p : ℕ) : Type 0 where
  left : ℕ
  low : ℕ
  sits : Sits b height p left low

sitting : (b : PlainBoard) (height : ℕ) (xs : List Interval) → AreIntervals b height xs → (p : ℕ) → Sitting b height p
sitting b height xs are p = elim (le_or_lt (length b.pieces) p) [
  | inl past ↦ record { left = 0; low = 0; sits = record { is = λ e h. absurd (let inside = slice_get_within b.pieces p h.piece h.is in omega (arith, inside, past)) } }
  | inr below ↦ (let f = are.filed p below in record { left = f.extent.left; low = strip_of height f.extent.low; sits = record { is = λ e h. (let one = one_extent b p e f.extent h f.is in (one.0, ap (strip_of height) one.1)) } })
]

-- two that come together begin where their pieces do, in the higher of the lowest strips
met_at : (b : PlainBoard) (height p q left low across up : ℕ) → Sits b height p left low → Sits b height q across up → (s t : Interval) → IsOwn b height s → IsOwn b height t → s.piece ≡ p → t.piece ≡ q → s.start ≤ t.start → come_together s t ≡ true
    → (s.start ≡ place_in (max low up) left) × (t.start ≡ place_in (max low up) across)
met_at b height p q left low across up h k s t o m sp tq rise come =
    let parts = and_parts (nat_le t.start s.end) (s.lowest || t.lowest) come in
    let a = lies b height s o in
    let c = lies b height t m in
    let r = met_strip s t o.extent.left o.extent.right (strip_of height o.extent.low) o.strip m.extent.left m.extent.right (strip_of height m.extent.low) m.strip a c rise (leb-true t.start s.end parts.0) parts.1 in
    let e = h.is o.extent (subst (λ (x : ℕ). IsExtentAt b x o.extent) sp o.of) in
    let f = k.is m.extent (subst (λ (x : ℕ). IsExtentAt b x m.extent) tq m.of) in
    let top : o.strip ≡ max low up = higher o.strip m.strip (strip_of height o.extent.low) (strip_of height m.extent.low) low up r.0 r.1 a.above c.above e.1 f.1 in
    (a.start ∙ (ap (λ (x : ℕ). place_in x o.extent.left) top ∙ ap (place_in (max low up)) e.0), c.start ∙ (ap (λ (x : ℕ). place_in x m.extent.left) (sym r.0 ∙ top) ∙ ap (place_in (max low up)) f.0))
  where
    higher : (k l c f low up : ℕ) → k ≡ l → (k ≡ c) ⊎ (k ≡ f) → c ≤ k → f ≤ l → c ≡ low → f ≡ up → k ≡ max low up
    higher k l c f low up same (inl x) above over e g = omega arith
    higher k l c f low up same (inr x) above over e g = omega arith

-- ---- How many stand there

abbrev at_place : ℕ → ℕ → Interval → Bool
at_place p start s = s.piece == p && s.start == start

abbrev count : (Interval → Bool) → List Interval → ℕ
count test [] = 0
count test (s ∷ xs) = cond (test s) 1 0 + count test xs

are_at : (p start : ℕ) (s t : Interval) → at_place p start s ≡ true → at_place p start t ≡ true → are_one s t ≡ true
are_at p start s t h k =
    let a = and_parts (s.piece == p) (s.start == start) h in
    let b = and_parts (t.piece == p) (t.start == start) k in
    let same : s.piece ≡ t.piece = eqb-true s.piece p a.0 ∙ sym (eqb-true t.piece p b.0) in
    let place : s.start ≡ t.start = eqb-true s.start start a.1 ∙ sym (eqb-true t.start start b.1) in
    rw (eq-eqb s.piece t.piece same, eq-eqb s.start t.start place) refl

none_at : (p start : ℕ) (s : Interval) (xs : List Interval) → at_place p start s ≡ true → AllByRecursion (λ (t : Interval). are_one s t ≡ false) xs → count (at_place p start) xs ≡ 0
none_at p start s [] h other = refl
none_at p start s (t ∷ xs) h other = by (at_place p start t) refl (none_at p start s xs h other.1)
  where
    by : (x : Bool) → at_place p start t ≡ x → count (at_place p start) xs ≡ 0 → cond x 1 0 + count (at_place p start) xs ≡ 0
    by true e rest = absurd (let one = are_at p start s t h e in let off = other.0 in true_false (are_one s t) one off)
      where
        true_false : (x : Bool) → x ≡ true → x ≡ false → ⊥
        true_false x f g = cc
    by false e rest = omega (arith, rest)

few_at : (p start : ℕ) (xs : List Interval) → IsDistinct are_one xs → count (at_place p start) xs ≤ 1
few_at p start [] once = omega arith
few_at p start (s ∷ xs) once = by (at_place p start s) refl (few_at p start xs (IsDistinct-tail are_one s xs once))
  where
    by : (x : Bool) → at_place p start s ≡ x → count (at_place p start) xs ≤ 1 → cond x 1 0 + count (at_place p start) xs ≤ 1
    by true e few = let none = none_at p start s xs e (IsDistinct-head are_one s xs once) in omega (arith, none)
    by false e few = omega (arith, few)

either_few : (f g : Interval → Bool) (xs : List Interval) → count (λ s. f s || g s) xs ≤ count f xs + count g xs
either_few f g [] = omega arith
either_few f g (s ∷ xs) = by (f s) (g s) (either_few f g xs)
  where
    by : (x y : Bool) → count (λ s. f s || g s) xs ≤ count f xs + count g xs → cond (x || y) 1 0 + count (λ s. f s || g s) xs ≤ (cond x 1 0 + count f xs) + (cond y 1 0 + count g xs)
    by true true few = omega arith
    by true false few = omega arith
    by false true few = omega arith
    by false false few = omega arith

both_few : (f : Interval → Bool) (xs : List Interval) → count (λ s. f s || f s) xs ≤ count f xs
both_few f [] = omega arith
both_few f (s ∷ xs) = by (f s) (both_few f xs)
  where
    by : (x : Bool) → count (λ s. f s || f s) xs ≤ count f xs → cond (x || x) 1 0 + count (λ s. f s || f s) xs ≤ cond x 1 0 + count f xs
    by true few = omega arith
    by false few = omega arith

-- ---- Meetings

-- of an interval with later ones only where both stand
module _ (p q : ℕ) (stands : Interval → Bool) where
  abbrev BothStand : Interval → Interval → Type 0
  BothStand s t = (come_together s t && are_of p q s t) ≡ true → (stands s ≡ true) × (stands t ≡ true)

  met_few : (s : Interval) (xs : List Interval) → AllByRecursion (BothStand s) xs → (met_with p q s xs ≤ count stands xs) × (stands s ≡ false → met_with p q s xs ≡ 0)
  met_few s [] both = (omega arith, λ off. refl)
  met_few s (t ∷ xs) both = by (come_together s t && are_of p q s t) refl (met_few s xs both.1)
    where
      by : (x : Bool) → (come_together s t && are_of p q s t) ≡ x → (met_with p q s xs ≤ count stands xs) × (stands s ≡ false → met_with p q s xs ≡ 0)
          → (cond x 1 0 + met_with p q s xs ≤ cond (stands t) 1 0 + count stands xs) × (stands s ≡ false → cond x 1 0 + met_with p q s xs ≡ 0)
      by true e rest = let two = both.0 e in let few = rest.0 in ((rw two.1 (omega (arith, few))), λ off. absurd (clash (stands s) two.0 off))
        where
          clash : (x : Bool) → x ≡ true → x ≡ false → ⊥
          clash x f g = cc
      by false e rest = let few = rest.0 in (omega (arith, few), λ off. (let none = rest.1 off in omega (arith, none)))

  abbrev AllStand : List Interval → Type 0
  AllStand [] = Unit {0}
  AllStand (s ∷ xs) = AllByRecursion (BothStand s) xs × AllStand xs

  meetings_few : (xs : List Interval) → AllStand xs → (count stands xs ≤ 1 → meetings p q xs ≡ 0) × (count stands xs ≤ 2 → meetings p q xs ≤ 1)
  meetings_few [] all = ((λ few. refl), λ few. omega arith)
  meetings_few (s ∷ xs) all = by (stands s) refl (met_few s xs all.0) (meetings_few xs all.1)
    where
      by : (x : Bool) → stands s ≡ x → (met_with p q s xs ≤ count stands xs) × (stands s ≡ false → met_with p q s xs ≡ 0) → (count stands xs ≤ 1 → meetings p q xs ≡ 0) × (count stands xs ≤ 2 → meetings p q xs ≤ 1)
          → (cond x 1 0 + count stands xs ≤ 1 → met_with p q s xs + meetings p q xs ≡ 0) × (cond x 1 0 + count stands xs ≤ 2 → met_with p q s xs + meetings p q xs ≤ 1)
      by true e met rest = (
        (λ few. (let one = met.0 in let none = rest.0 (omega (arith, few)) in omega (arith, few, one, none))),
        λ few. (let one = met.0 in let none = rest.0 (omega (arith, few)) in omega (arith, few, one, none)),
      )
      by false e met rest = (
        (λ few. (let off = met.1 e in let none = rest.0 (omega (arith, few)) in omega (arith, off, none))),
        λ few. (let off = met.1 e in let one = rest.1 (omega (arith, few)) in omega (arith, off, one)),
      )

-- ---- All intervals

either_way : (p q : ℕ) (s t : Interval) → are_of p q s t ≡ true → ((s.piece ≡ p) × (t.piece ≡ q)) ⊎ ((s.piece ≡ q) × (t.piece ≡ p))
either_way p q s t is = by (s.piece == p && t.piece == q) (s.piece == q && t.piece == p) refl refl is
  where
    both : (i j k l : ℕ) → (i == j && k == l) ≡ true → (i ≡ j) × (k ≡ l)
    both i j k l h = let parts = and_parts (i == j) (k == l) h in (eqb-true i j parts.0, eqb-true k l parts.1)

    by : (x y : Bool) → (s.piece == p && t.piece == q) ≡ x → (s.piece == q && t.piece == p) ≡ y → (x || y) ≡ true → ((s.piece ≡ p) × (t.piece ≡ q)) ⊎ ((s.piece ≡ q) × (t.piece ≡ p))
    by true y e f h = inl (both s.piece p t.piece q e)
    by false true e f h = inr (both s.piece q t.piece p f)
    by false false e f h = cc

abbrev stands_at : ℕ → ℕ → ℕ → ℕ → Interval → Bool
stands_at p start q other s = at_place p start s || at_place q other s

stands_first : (p start q other : ℕ) (s : Interval) → s.piece ≡ p → s.start ≡ start → stands_at p start q other s ≡ true
stands_first p start q other s e f = rw (eq-eqb s.piece p e, eq-eqb s.start start f) refl

stands_second : (p start q other : ℕ) (s : Interval) → s.piece ≡ q → s.start ≡ other → stands_at p start q other s ≡ true
stands_second p start q other s e f = by (at_place p start s) (rw (eq-eqb s.piece q e, eq-eqb s.start other f) refl)
  where
    by : (x : Bool) → at_place q other s ≡ true → (x || at_place q other s) ≡ true
    by true h = refl
    by false h = h

module _ (b : PlainBoard) (height p q left low across up : ℕ) (h : Sits b height p left low) (k : Sits b height q across up) where
  abbrev Stands : Interval → Bool
  Stands s = stands_at p (place_in (max low up) left) q (place_in (max low up) across) s

  both_stand : (s t : Interval) → IsOwn b height s → IsOwn b height t → s.start ≤ t.start → BothStand p q Stands s t
  both_stand s t o m rise is =
      let parts = and_parts (come_together s t) (are_of p q s t) is in
      elim (either_way p q s t parts.1) [
        | inl e ↦ (let at = met_at b height p q left low across up h k s t o m e.0 e.1 rise parts.0 in
            (stands_first p (place_in (max low up) left) q (place_in (max low up) across) s e.0 at.0, stands_second p (place_in (max low up) left) q (place_in (max low up) across) t e.1 at.1))
        | inr e ↦ (let at = met_at b height q p across up left low k h s t o m e.0 e.1 rise parts.0 in
            let same : max up low ≡ max low up = omega arith in
            (stands_second p (place_in (max low up) left) q (place_in (max low up) across) s e.0 (at.0 ∙ ap (λ (x : ℕ). place_in x across) same), stands_first p (place_in (max low up) left) q (place_in (max low up) across) t e.1 (at.1 ∙ ap (λ (x : ℕ). place_in x left) same)))
      ]

  later_stand : (s : Interval) (xs : List Interval) → IsOwn b height s → All (IsOwn b height) xs → All (λ (t : Interval). s.start ≤ t.start) xs → AllByRecursion (BothStand p q Stands s) xs
  later_stand s [] o own rise = tt
  later_stand s (t ∷ xs) o own rise = (both_stand s t o (own 0 t (omega arith)) (rise 0 t (omega arith)), later_stand s xs o (All-tail (IsOwn b height) t xs own) (All-tail (λ (u : Interval). s.start ≤ u.start) t xs rise))

  all_stand : (xs : List Interval) → All (IsOwn b height) xs → IsNonDecreasingBy (λ (s : Interval). s.start) xs → AllStand p q Stands xs
  all_stand [] own rise = tt
  all_stand (s ∷ xs) own rise = (
    later_stand s xs (own 0 s (omega arith)) (All-tail (IsOwn b height) s xs own) (λ i d below. rise 0 (suc i) d (omega arith) (omega arith)),
    all_stand xs (All-tail (IsOwn b height) s xs own) (λ i j d le below. rise (suc i) (suc j) d (omega arith) (omega arith)),
  )

pub pairs_come_together_once : PairsComeTogetherOnce
pairs_come_together_once b height xs are = record {
  once = λ p q.
      let one = sitting b height xs are p in
      let two = sitting b height xs are q in
      let top : ℕ = max one.low two.low in
      let stand = all_stand b height p q one.left one.low two.left two.low one.sits two.sits xs are.own are.rising in
      let either = either_few (at_place p (place_in top one.left)) (at_place q (place_in top two.left)) xs in
      let first = few_at p (place_in top one.left) xs are.once in
      let second = few_at q (place_in top two.left) xs are.once in
      (meetings_few p q (stands_at p (place_in top one.left) q (place_in top two.left)) xs stand).1 (omega (arith, either, first, second));
  none = λ p.
      let one = sitting b height xs are p in
      let top : ℕ = max one.low one.low in
      let stand = all_stand b height p p one.left one.low one.left one.low one.sits one.sits xs are.own are.rising in
      let both = both_few (at_place p (place_in top one.left)) xs in
      let first = few_at p (place_in top one.left) xs are.once in
      (meetings_few p p (stands_at p (place_in top one.left) p (place_in top one.left)) xs stand).0 (omega (arith, both, first));
}
