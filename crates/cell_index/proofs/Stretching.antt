-- Stretched boxes meet where the boxes do, and hold the stretched spots.
use Rattle.std.proofs.Common.{All, ◌≤◌, FitsSigned, w64, to_z, of_z, to_z-of_z, ◌≡◌, inl, inr, ℕ, ◌+◌, ◌<◌, true, ℤ, pos, ◌+ℤ◌, ◌-ℤ◌, ◌*ℤ◌, ◌≤ℤ◌, ◌^◌, List, [], ◌∷◌, ◌++◌, length, Some, slice_get, refl, sym, ap, subst, ◌∙◌, arith}
use Rattle.std.proofs.lemmas.Bool.{cases_eq}
use Rattle.std.proofs.lemmas.Int.{ints, clamps}
use Rattle.std.proofs.lemmas.List.{get_or_append_left, get_or_push, length_push}
use Rattle.std.proofs.lemmas.List.Elements.{All-push}
use Rattle.std.proofs.lemmas.Option.{slice_get_within, slice_get-get_or}
use Rattle.std.specs.Int.{int_max, int_min}
use Rattle.board_shapes.specs.declared.placed.Placed.{Placed}
use Rattle.contact.proofs.Boxes.{box_holds}
use Rattle.contact.specs.Solid.{InBox, IsBetween, IsInside, Overlap}
use Rattle.contact.specs.declared.Bounds.{Bounds}
use Rattle.planar.proofs.Ring.{times_from_zero, times_mono_right}
use Rattle.planar.specs.Plane.{Point, at}
use Rattle.planar.specs.declared.Spot.{Spot}
use Rattle.planar.specs.declared.TheConstants.{SIDE}
use Rattle.cell_index.specs.Among.{TouchAmong, UnderAmong, extent_in}
use Rattle.cell_index.specs.Field.{boxes_meet}
use Rattle.cell_index.specs.Stretched.{AreCopies, box_over, copy_in, corner, place_of, spot_over}
use Rattle.cell_index.specs.declared.plate.Plate.{Plate}
use Rattle.cell_index.specs.declared.stretch.Side.{Side}
use Rattle.cell_index.specs.declared.stretch.Stretch.{Stretch}
use Rattle.cell_index.proofs.Found.{halves}
use Rattle.cell_index.proofs.Whole.{ext_at}
use Rattle.cell_index.proofs.Pairs.{int_le_holds}

from_zero : (z : ℤ) → pos 0 ≤ℤ int_max (pos 0) z
from_zero z = omega (arith, ints, clamps)

natural : (n : ℕ) → pos 0 ≤ℤ pos n
natural n = omega (arith, ints)

rise : (from a b : ℤ) → a ≤ℤ b → int_max (pos 0) (a -ℤ from) ≤ℤ int_max (pos 0) (b -ℤ from)
rise from a b h = omega (arith, ints, clamps)

capped : (m a b : ℤ) → a ≤ℤ b → int_min m a ≤ℤ int_min m b
capped m a b h = omega (arith, ints, clamps)

pub place_rises : (s : Side) (a b : ℤ) → a ≤ℤ b → place_of s a ≤ℤ place_of s b
place_rises s a b h = capped SIDE (int_max (pos 0) (a -ℤ s.from) *ℤ pos s.times) (int_max (pos 0) (b -ℤ s.from) *ℤ pos s.times) (times_mono_right (pos s.times) (int_max (pos 0) (a -ℤ s.from)) (int_max (pos 0) (b -ℤ s.from)) (natural s.times) (rise s.from a b h))

in_frame : (a : ℤ) → pos 0 ≤ℤ a → IsBetween (pos 0) SIDE (int_min SIDE a)
in_frame a h = (omega (arith, ints, clamps), omega (arith, ints, clamps))

pub place_within : (s : Side) (z : ℤ) → IsBetween (pos 0) SIDE (place_of s z)
place_within s z = in_frame (int_max (pos 0) (z -ℤ s.from) *ℤ pos s.times) (times_from_zero (int_max (pos 0) (z -ℤ s.from)) (pos s.times) (from_zero (z -ℤ s.from)) (natural s.times))

from_corner : (low high : ℤ) → IsBetween (pos 0) SIDE low → IsBetween (pos 0) SIDE high → (pos 0 ≤ℤ low) × (high ≤ℤ (pos 0 +ℤ SIDE))
from_corner low high f g = let h = g.1 in (f.0, omega (arith, ints))

pub over_inside : (s : Stretch) (b : Bounds) → IsInside (box_over s b) corner
over_inside s b = (from_corner (place_of s.across b.left) (place_of s.across b.right) (place_within s.across b.left) (place_within s.across b.right), from_corner (place_of s.up b.low) (place_of s.up b.high) (place_within s.up b.low) (place_within s.up b.high))

pub over_ordered : (s : Stretch) (b : Bounds) → (b.left ≤ℤ b.right) × (b.low ≤ℤ b.high) → ((box_over s b).left ≤ℤ (box_over s b).right) × ((box_over s b).low ≤ℤ (box_over s b).high)
over_ordered s b h = (place_rises s.across b.left b.right h.0, place_rises s.up b.low b.high h.1)

four : (a b c d : ℤ) → Overlap a b c d → (a ≤ℤ b) × (a ≤ℤ d) × (c ≤ℤ b) × (c ≤ℤ d)
four a b c d h = (omega (arith, ints, clamps), omega (arith, ints, clamps), omega (arith, ints, clamps), omega (arith, ints, clamps))

most : (a b c d : ℤ) → a ≤ℤ b → a ≤ℤ d → c ≤ℤ b → c ≤ℤ d → Overlap a b c d
most a b c d e f g h = omega (arith, ints, clamps)

over_side : (s : Side) (a b c d : ℤ) → Overlap a b c d → Overlap (place_of s a) (place_of s b) (place_of s c) (place_of s d)
over_side s a b c d h = let f = four a b c d h in most (place_of s a) (place_of s b) (place_of s c) (place_of s d) (place_rises s a b f.0) (place_rises s a d f.1) (place_rises s c b f.2) (place_rises s c d f.3)

pub over_meet : (s : Stretch) (b c : Bounds) → boxes_meet b c ≡ true → boxes_meet (box_over s b) (box_over s c) ≡ true
over_meet s b c h =
    let side = halves b c h in
    let across = int_le_holds (int_max (place_of s.across b.left) (place_of s.across c.left)) (int_min (place_of s.across b.right) (place_of s.across c.right)) (over_side s.across b.left b.right c.left c.right side.0) in
    let up = int_le_holds (int_max (place_of s.up b.low) (place_of s.up c.low)) (int_min (place_of s.up b.high) (place_of s.up c.high)) (over_side s.up b.low b.high c.low c.high side.1) in
    rw (across, up) refl

pub over_holds : (s : Stretch) (b : Bounds) (p : Spot) → InBox b (at p) → InBox (box_over s b) (at (spot_over s p))
over_holds s b p h =
    let w = (box_holds b p).0 h in
    (box_holds (box_over s b) (spot_over s p)).1 ((place_rises s.across b.left p.x w.0.0, place_rises s.across p.x b.right w.0.1), (place_rises s.up b.low p.y w.1.0, place_rises s.up p.y b.high w.1.1))

-- the box, as the code makes it
pub same_box : (l w r h : ℤ) (b : Bounds) → FitsSigned w64 l → FitsSigned w64 w → FitsSigned w64 r → FitsSigned w64 h → l ≡ b.left → w ≡ b.low → r ≡ b.right → h ≡ b.high
    → record { left = to_z w64 (of_z w64 l); low = to_z w64 (of_z w64 w); right = to_z w64 (of_z w64 r); high = to_z w64 (of_z w64 h) } ≡ b
same_box l w r h b e f g k at_l at_w at_r at_h = rw (to_z-of_z e, to_z-of_z f, to_z-of_z g, to_z-of_z k, at_l, at_w, at_r, at_h) refl

-- ---- Copies

push_at : {X : Type 0} (xs : List X) (x : X) (p : ℕ) → p ≡ length xs → slice_get (xs ++ x ∷ []) p ≡ Some x
push_at xs x p e = (let long = length_push xs x in slice_get-get_or (xs ++ x ∷ []) p x (omega arith) ∙ ap (λ y. Some y) (get_or_push xs x x p (sym e)))

push_before : {X : Type 0} (xs : List X) (x : X) (p : ℕ) → p < length xs → slice_get (xs ++ x ∷ []) p ≡ slice_get xs p
push_before xs x p h = (let long = length_push xs x in slice_get-get_or (xs ++ x ∷ []) p x (omega arith) ∙ (ap (λ y. Some y) (get_or_append_left xs (x ∷ []) x p h) ∙ sym (slice_get-get_or xs p x h)))

copy_before : (copies : List (Placed Plate)) (c : Placed Plate) (p : ℕ) → p < length copies → copy_in (copies ++ c ∷ []) p ≡ copy_in copies p
copy_before copies c p h = rw (push_before copies c p h) refl

pub copies_start : {A : Type 0} (box : A → Bounds) (s : Stretch) (items : List (Placed A)) (copies : List (Placed Plate)) → copies ≡ [] → AreCopies box s items 0 copies
copies_start box s items copies e = subst (λ (xs : List (Placed Plate)). AreCopies box s items 0 xs) (sym e) (record { long = refl; each = λ p h. absurd (omega arith); flat = λ k d h. absurd (omega arith); inside = λ k d h. absurd (omega arith) })

pub copies_more : {A : Type 0} (box : A → Bounds) (s : Stretch) (items : List (Placed A)) (n : ℕ) (copies : List (Placed Plate)) (c : Placed Plate) (a : Placed A) → slice_get items n ≡ Some a → c.shape.bounds ≡ box_over s (box a.shape) → (c.top ≡ 1) × (c.bottom ≡ 1) → AreCopies box s items n copies → AreCopies box s items (n + 1) (copies ++ c ∷ [])
copies_more box s items n copies c a here is flat k =
    let long = k.long in record {
      long = length_push copies c ∙ ap (λ (m : ℕ). m + 1) k.long;
      each = λ p h. elim (cases_eq p n) [
        | inl same ↦ ext_at (λ s. s.bounds) (copies ++ c ∷ []) p c (push_at copies c p (omega arith)) ∙ (is ∙ ap (λ (b : Bounds). box_over s b) (sym (ext_at box items p a (ap (λ (m : ℕ). slice_get items m) same ∙ here))))
        | inr other ↦ copy_before copies c p (omega arith) ∙ k.each p (omega arith)
      ];
      flat = All-push (λ c. (c.top ≡ 1) × (c.bottom ≡ 1)) copies c k.flat flat;
      inside = All-push (λ c. IsInside c.shape.bounds corner) copies c k.inside (subst (λ (b : Bounds). IsInside b corner) (sym is) (over_inside s (box a.shape)));
    }

-- the copies of what touches meet
pub copies_meet : {A : Type 0} (holds : A → Point → Type 0) (box : A → Bounds) (s : Stretch) (items : List (Placed A)) (copies : List (Placed Plate)) → AreCopies box s items (length items) copies → ((p q : ℕ) → TouchAmong holds items p q → boxes_meet (extent_in box items p) (extent_in box items q) ≡ true)
    → (p q : ℕ) → TouchAmong holds items p q → boxes_meet (copy_in copies p) (copy_in copies q) ≡ true
copies_meet holds box s items copies k met p q t =
    let over = over_meet s (extent_in box items p) (extent_in box items q) (met p q t) in
    let first = k.each p (slice_get_within items p t.first t.here) in
    let second = k.each q (slice_get_within items q t.second t.there) in
    subst (λ (b : Bounds). boxes_meet b (copy_in copies q) ≡ true) (sym first) (subst (λ (b : Bounds). boxes_meet (box_over s (extent_in box items p)) b ≡ true) (sym second) over)

-- the copy of what is under a spot holds the stretched spot
pub copies_hold : {A : Type 0} (holds : A → Point → Type 0) (box : A → Bounds) (s : Stretch) (items : List (Placed A)) (copies : List (Placed Plate)) → AreCopies box s items (length items) copies → ((spot : Spot) (layer p : ℕ) → UnderAmong holds items spot layer p → InBox (extent_in box items p) (at spot))
    → (spot : Spot) (layer p : ℕ) → UnderAmong holds items spot layer p → InBox (copy_in copies p) (at (spot_over s spot))
copies_hold holds box s items copies k held spot layer p u = subst (λ (b : Bounds). InBox b (at (spot_over s spot))) (sym (k.each p (slice_get_within items p u.item u.there))) (over_holds s (extent_in box items p) spot (held spot layer p u))

-- ---- The copies can be filed

pub copies_few : {A : Type 0} (box : A → Bounds) (s : Stretch) (items : List (Placed A)) (copies : List (Placed Plate)) → length items < 2 ^ 32 → AreCopies box s items (length items) copies → length copies < 2 ^ 32
copies_few box s items copies few a = rw a.long few

pub copies_spans : (copies : List (Placed Plate)) → All (λ c. (c.top ≡ 1) × (c.bottom ≡ 1)) copies → All (λ c. c.top ≤ c.bottom) copies
copies_spans copies flat k d h = let here = flat k d h in omega (arith, here.0, here.1)
