-- Two items of a list, and what a test of them tells.
use Rattle.std.proofs.Common.{◌≡◌, ◌≢◌, ◌⊎◌, inl, inr, ℕ, zero, suc, ◌+◌, ◌<◌, ◌≤◌, ◌-◌, add-one, add-zero, add-suc, Bool, true, false, ◌==◌, if◌then◌else◌, IsTrue, ◌↔◌, ℤ, pos, ◌*ℤ◌, ◌≤ℤ◌, int_le, max, min, List, length, Option, Some, slice_get, refl, ap, subst, arith}
use Rattle.std.proofs.lemmas.Bool.Decides.{nat_tests}
use Rattle.std.proofs.lemmas.Int.{ints, clamps}
use Rattle.std.proofs.lemmas.Option.{slice_get_within}
use Rattle.std.specs.Int.{int_max, int_min}
use Rattle.board_shapes.specs.Spans.{CommonLayer, InSpan}
use Rattle.board_shapes.specs.declared.placed.Placed.{Placed}
use Rattle.contact.specs.Solid.{InBox, SharePoint}
use Rattle.contact.specs.declared.Bounds.{Bounds}
use Rattle.planar.specs.Plane.{Point, at}
use Rattle.planar.specs.declared.Spot.{Spot}
use Rattle.planar.proofs.Ring.{times_cancel}
use Rattle.cell_index.specs.Among.{TouchAmong, UnderAmong, extent_in, top_in, bottom_in}
use Rattle.cell_index.specs.Field.{IsNear, boxes_meet, spans_meet, is_rival, sum_below, rivals_of}

some_same : {A : Type 0} (a b : A) (o : Option A) → o ≡ Some a → o ≡ Some b → a ≡ b
some_same a b o e f = cc

pub near_there : {A : Type 0} (holds : A → Point → Type 0) (items : List (Placed A)) (p q : ℕ) (a b : Placed A) → slice_get items p ≡ Some a → slice_get items q ≡ Some b → p ≢ q → CommonLayer a.top a.bottom b.top b.bottom × SharePoint (holds a.shape) (holds b.shape) → IsNear (length items) (TouchAmong holds items) p q
near_there holds items p q a b here there other (layer, share) = record {
  first = slice_get_within items p a here;
  second = slice_get_within items q b there;
  other = other;
  touch = record { first = a; second = b; here = here; there = there; layer = layer; share = share };
}

pub near_back : {A : Type 0} (holds : A → Point → Type 0) (items : List (Placed A)) (p q : ℕ) (a b : Placed A) → slice_get items p ≡ Some a → slice_get items q ≡ Some b → IsNear (length items) (TouchAmong holds items) p q → CommonLayer a.top a.bottom b.top b.bottom × SharePoint (holds a.shape) (holds b.shape)
near_back {A = A} holds items p q a b here there near =
    let t = near.touch in
    let one : t.first ≡ a = some_same t.first a (slice_get items p) t.here here in
    let two : t.second ≡ b = some_same t.second b (slice_get items q) t.there there in
    subst (λ (x : Placed A). CommonLayer x.top x.bottom b.top b.bottom × SharePoint (holds x.shape) (holds b.shape)) one
    (subst (λ (x : Placed A). CommonLayer t.first.top t.first.bottom x.top x.bottom × SharePoint (holds t.first.shape) (holds x.shape)) two (t.layer, t.share))

pub under_is : {A : Type 0} (holds : A → Point → Type 0) (items : List (Placed A)) (spot : Spot) (layer p : ℕ) (a : Placed A) (is : Bool) → slice_get items p ≡ Some a → IsTrue is ↔ (InSpan a.top a.bottom layer × holds a.shape (at spot)) → IsTrue is ↔ UnderAmong holds items spot layer p
under_is {A = A} holds items spot layer p a is there told = (
  λ h. (let k = told.0 h in record { item = a; there = there; in_span = k.0; inside = k.1 }),
  λ u. told.1 (subst (λ (x : Placed A). InSpan x.top x.bottom layer × holds x.shape (at spot)) (some_same u.item a (slice_get items p) u.there there) (u.in_span, u.inside)),
)

-- ---- Boxes

pub int_le_holds : (a b : ℤ) → a ≤ℤ b → int_le a b ≡ true
int_le_holds a b h = grind (arith, ints)

side : (n low high low' high' x : ℤ) → pos 1 ≤ℤ n → (n *ℤ low) ≤ℤ x → x ≤ℤ (n *ℤ high) → (n *ℤ low') ≤ℤ x → x ≤ℤ (n *ℤ high') → (int_max low low') ≤ℤ (int_min high high')
side n low high low' high' x some a b c d =
    let one : low ≤ℤ high = times_cancel n low high some (omega (arith, ints)) in
    let two : low ≤ℤ high' = times_cancel n low high' some (omega (arith, ints)) in
    let three : low' ≤ℤ high = times_cancel n low' high some (omega (arith, ints)) in
    let four : low' ≤ℤ high' = times_cancel n low' high' some (omega (arith, ints)) in
    omega (arith, ints, clamps)

pub shared_meet : (b c : Bounds) → SharePoint (InBox b) (InBox c) → boxes_meet b c ≡ true
shared_meet b c s =
    let p = s.point in
    let f = s.in_first in
    let g = s.in_second in
    let across = int_le_holds (int_max b.left c.left) (int_min b.right c.right) (side p.n b.left b.right c.left c.right p.x p.positive f.not_left f.not_right g.not_left g.not_right) in
    let up = int_le_holds (int_max b.low c.low) (int_min b.high c.high) (side p.n b.low b.high c.low c.high p.y p.positive f.not_below f.not_above g.not_below g.not_above) in
    rw (across, up) refl

pub le_or_lt : (m n : ℕ) → (m ≤ n) ⊎ (n < m)
le_or_lt zero n = inl (omega arith)
le_or_lt (suc m) zero = inr (omega arith)
le_or_lt (suc m) (suc n) = elim (le_or_lt m n) [ inl l ↦ inl (omega arith) | inr l ↦ inr (omega arith) ]

pub not_below : (m n : ℕ) → (m < n → ⊥) → n ≤ m
not_below m n none = elim (le_or_lt n m) [ inl l ↦ l | inr l ↦ absurd (none l) ]

-- ---- Ticks

-- Where the layers are common and the boxes meet, the other item is a rival.
pub rival_if : {A : Type 0} (box : A → Bounds) (items : List (Placed A)) (p q : ℕ) (a b : Placed A) → slice_get items p ≡ Some a → slice_get items q ≡ Some b → p ≢ q → CommonLayer a.top a.bottom b.top b.bottom → SharePoint (InBox (box a.shape)) (InBox (box b.shape)) → is_rival (extent_in box items) (top_in items) (bottom_in items) p q ≡ true
rival_if box items p q a b here there other layer share =
    let apart : (p == q) ≡ false = grind (arith, nat_tests) in
    let spans : spans_meet a.top a.bottom b.top b.bottom ≡ true = grind (arith, nat_tests) in
    let boxes = shared_meet (box a.shape) (box b.shape) share in
    rw (here, there, apart, spans, boxes) refl

-- A test that ticks only where the layers are common and the boxes meet ticks only for a rival.
pub ticks_of : {A : Type 0} (box : A → Bounds) (items : List (Placed A)) (p q : ℕ) (a b : Placed A) (old new : ℕ) → slice_get items p ≡ Some a → slice_get items q ≡ Some b → p ≢ q
    → new ≤ old + 1 → ((CommonLayer a.top a.bottom b.top b.bottom → ⊥) → new ≡ old) → ((SharePoint (InBox (box a.shape)) (InBox (box b.shape)) → ⊥) → new ≡ old)
    → new ≤ old + (if is_rival (extent_in box items) (top_in items) (bottom_in items) p q then 1 else 0)
ticks_of box items p q a b old new here there other one apart away = by_test (is_rival (extent_in box items) (top_in items) (bottom_in items) p q) refl where
  quiet : is_rival (extent_in box items) (top_in items) (bottom_in items) p q ≡ false → new ≡ old
  quiet e = elim (le_or_lt (max a.top b.top) (min a.bottom b.bottom)) [
    | inl layer ↦ away (λ share. let r = rival_if box items p q a b here there other layer share in cc)
    | inr none ↦ apart (λ layer. omega arith)
  ]

  by_test : (r : Bool) → is_rival (extent_in box items) (top_in items) (bottom_in items) p q ≡ r → new ≤ old + (if r then 1 else 0)
  by_test true e = one
  by_test false e = let same : new ≡ old = quiet e in omega arith

-- One item more was tested.
rivals_step : (box : ℕ → Bounds) (top bottom : ℕ → ℕ) (p q start old new : ℕ) → old ≤ start + rivals_of q box top bottom p → new ≤ old + (if is_rival box top bottom p q then 1 else 0) → new ≤ start + rivals_of (q + 1) box top bottom p
rivals_step box top bottom p q start old new before step = rw add-one (omega arith)

sum_rises : (w : ℕ → ℕ) (m n : ℕ) → sum_below w m ≤ sum_below w (m + n)
sum_rises w m zero = rw add-zero (omega arith)
sum_rises w m (suc n) = let e = sum_rises w m n in rw add-suc (omega arith)

pub rivals_within : (size : ℕ) (box : ℕ → Bounds) (top bottom : ℕ → ℕ) (p q start old new : ℕ) → old ≤ start + rivals_of q box top bottom p → new ≤ old + (if is_rival box top bottom p q then 1 else 0) → q < size → new ≤ start + rivals_of size box top bottom p
rivals_within size box top bottom p q start old new before step below =
    let one = rivals_step box top bottom p q start old new before step in
    let more = sum_rises (λ r. if is_rival box top bottom p r then 1 else 0) (q + 1) (size - (q + 1)) in
    let all : q + 1 + (size - (q + 1)) ≡ size = omega arith in
    let same : rivals_of (q + 1 + (size - (q + 1))) box top bottom p ≡ rivals_of size box top bottom p = ap (λ (n : ℕ). rivals_of n box top bottom p) all in
    omega arith
