-- A search of the cells that a box meets finds every piece that touches.
use Rattle.std.proofs.Common.{◌<ℤ◌, ◌-◌, ◌%◌, to_z-of_z, ap, FitsSigned, w64, to_z, of_z, ◌≡◌, ◌⊎◌, inl, inr, ℕ, ◌+◌, ◌*◌, ◌/◌, ◌<◌, ◌≤◌, ◌↔◌, min, Bool, true, false, ℤ, pos, ◌+ℤ◌, ◌*ℤ◌, ◌≤ℤ◌, List, length, All, Contains, Option, None, Some, get_or, slice_get, refl, sym, subst, arith}
use Rattle.std.proofs.lemmas.Bool.{cases_eq, cases_lt}
use Rattle.std.proofs.lemmas.Int.{ints, clamps}
use Rattle.std.proofs.lemmas.Option.{slice_get_cases, slice_get_within}
use Rattle.std.proofs.lemmas.List.Elements.{All-contains, Contains-get_or}
use Rattle.tables.specs.Lists.{IsLeast, Lists}
use Rattle.contact.proofs.Boxes.{box_holds}
use Rattle.std.proofs.Math.IntN.{nat_abs}
use Rattle.std.specs.Int.{int_max, int_min}
use Rattle.board_shapes.specs.declared.placed.Placed.{Placed}
use Rattle.contact.specs.Solid.{InBox, IsInside, Overlap}
use Rattle.contact.specs.declared.Bounds.{Bounds}
use Rattle.planar.specs.Plane.{Point, at}
use Rattle.planar.specs.declared.Frame.{Frame}
use Rattle.planar.specs.declared.Spot.{Spot}
use Rattle.planar.specs.declared.TheConstants.{SIDE}
use Rattle.cell_index.specs.Among.{TouchAmong, bottom_in, extent_in, top_in}
use Rattle.cell_index.specs.Cells.{cell_of, is_in_cell, is_in_wide, is_wide, meets_side, wide_of}
use Rattle.cell_index.specs.Field.{IsNear, ListsWanted, boxes_meet}
use Rattle.cell_index.specs.Finding.{Begins, Finds, IsLesser}
use Rattle.cell_index.specs.Rows.{IsPatch}
use Rattle.cell_index.specs.Stretched.{copy_in, corner}
use Rattle.cell_index.specs.declared.plate.Plate.{Plate}
use Rattle.cell_index.specs.declared.patch.Patch.{Patch}
use Rattle.cell_index.specs.declared.patch.TheConstants.{CELL}
use Rattle.cell_index.proofs.Found.{halves, passing_has}
use Rattle.cell_index.proofs.Rows.{le_holds}
use Rattle.cell_index.proofs.Sides.{edge, int_le_told}
use Rattle.cell_index.proofs.Standing.{all_at}
use Rattle.cell_index.proofs.Pairs.{int_le_holds}

-- the cell k of a side has the place z
pub record HasPlace (from z : ℤ) (k : ℕ) : Type 0 where
  pub cell : k < 128
  pub begun : (from +ℤ pos CELL *ℤ pos k) ≤ℤ z
  pub reached : z ≤ℤ (from +ℤ pos CELL *ℤ pos (k + 1))

pub place_of : (from z : ℤ) (along k : ℕ) → z ≡ from +ℤ pos along → k < 128 → CELL * k ≤ along → along ≤ CELL * (k + 1) → HasPlace from z k
place_of from z along k is cell begun reached =
    let e = edge k in
    let f = edge (k + 1) in
    record { cell = cell; begun = omega (arith, ints); reached = omega (arith, ints) }

-- the same of a place from 0 on
pub natural_place : (z : ℤ) (k : ℕ) → FitsSigned w64 z → pos 0 ≤ℤ z → k < 128 → CELL * k ≤ nat_abs (to_z w64 (of_z w64 z)) → nat_abs (to_z w64 (of_z w64 z)) ≤ CELL * (k + 1) → HasPlace (pos 0) z k
natural_place z k fits low cell begun reached =
    let same : nat_abs (to_z w64 (of_z w64 z)) ≡ nat_abs z = ap (λ (w : ℤ). nat_abs w) (to_z-of_z fits) in
    place_of (pos 0) z (nat_abs z) k (omega (arith, ints)) cell (omega arith) (omega arith)

-- the first cell of a side from 0 on that has the place
pub record IsFirst (z : ℤ) (k : ℕ) : Type 0 where
  pub has : HasPlace (pos 0) z k
  pub first : (k ≡ 0) ⊎ (pos (CELL * k) <ℤ z)

-- each place has one
first_place : (z : ℤ) → pos 0 ≤ℤ z → z ≤ℤ SIDE → (k : ℕ) × IsFirst z k
first_place z low high =
    let is : z ≡ pos 0 +ℤ pos (nat_abs z) = omega (arith, ints) in
    let small : pos (nat_abs z) ≤ℤ SIDE = omega (arith, ints) in
    let whole : (nat_abs z - 1) ≡ CELL * ((nat_abs z - 1) / CELL) + (nat_abs z - 1) % CELL = omega arith in (
      (nat_abs z - 1) / CELL,
      record {
        has = place_of (pos 0) z (nat_abs z) ((nat_abs z - 1) / CELL) is (omega (arith, ints)) (omega arith) (omega arith);
        first = elim (cases_eq ((nat_abs z - 1) / CELL) 0) [ inl zero' ↦ inl zero' | inr more ↦ inr (omega (arith, ints)) ];
      },
    )

-- the first cell that has the greater of two places is the first of the patch, or the second place stands in none before
begins : (a b high : ℤ) (first k : ℕ) → IsFirst (int_max a b) k → first ≤ k → meets_side (pos 0) a high first ≡ true → Begins first k b
begins a b high first k is order met =
    let le = int_le_told (int_max a (pos 0 +ℤ pos CELL *ℤ pos first)) (int_min high (pos 0 +ℤ pos CELL *ℤ pos (first + 1))) met in
    let d = edge (first + 1) in
    let reached : a ≤ℤ pos (CELL * (first + 1)) = omega (arith, ints, clamps) in
    elim (cases_eq k first) [
      | inl same ↦ inl same
      | inr other ↦ elim is.first [
        | inl zero' ↦ absurd (omega arith)
        | inr less ↦ inr (omega (arith, ints, clamps))
      ]
    ]

-- a side with a place in a cell meets it
pub meets_place : (from low high z : ℤ) (k : ℕ) → low ≤ℤ z → z ≤ℤ high → HasPlace from z k → meets_side from low high k ≡ true
meets_place from low high z k f g h =
    let b = h.begun in
    let r = h.reached in
    let e = edge k in
    let d = edge (k + 1) in
    let four : (from +ℤ pos CELL *ℤ pos k) ≤ℤ (from +ℤ pos CELL *ℤ pos (k + 1)) = omega (arith, ints) in
    int_le_holds (int_max low (from +ℤ pos CELL *ℤ pos k)) (int_min high (from +ℤ pos CELL *ℤ pos (k + 1))) (most low (from +ℤ pos CELL *ℤ pos k) z high (from +ℤ pos CELL *ℤ pos (k + 1)) f b g r)
  where
    most : (a b z c d : ℤ) → a ≤ℤ z → b ≤ℤ z → z ≤ℤ c → z ≤ℤ d → int_max a b ≤ℤ int_min c d
    most a b z c d p q r s = omega (arith, ints, clamps)

pub in_cell : (frame : Frame) (box : ℕ → Bounds) (top bottom : ℕ → ℕ) (n layer across up q : ℕ) → q < n → top q ≤ layer → layer ≤ bottom q → is_wide frame (box q) (top q) (bottom q) ≡ false → meets_side frame.left (box q).left (box q).right across ≡ true → meets_side frame.low (box q).low (box q).high up ≡ true
    → is_in_cell frame (box q) (top q) (bottom q) layer across up ≡ true
in_cell frame box top bottom n layer across up q below a b narrow x y = rw (le_holds (top q) layer a, le_holds layer (bottom q) b, narrow, x, y) refl

pub in_wide : (frame : Frame) (box : ℕ → Bounds) (top bottom : ℕ → ℕ) (layer q : ℕ) → top q ≤ layer → layer ≤ bottom q → is_wide frame (box q) (top q) (bottom q) ≡ true → is_in_wide frame (box q) (top q) (bottom q) layer ≡ true
in_wide frame box top bottom layer q a b wide = rw (le_holds (top q) layer a, le_holds layer (bottom q) b, wide) refl

pub wide_or_not : (b : Bool) → (b ≡ true) ⊎ (b ≡ false)
wide_or_not true = inl refl
wide_or_not false = inr refl

lower : (from a b : ℤ) → from ≤ℤ a → from ≤ℤ int_max a b
lower from a b h = omega (arith, ints, clamps)

first_upper : (a b c d : ℤ) → Overlap a c b d → c ≤ℤ (pos 0 +ℤ SIDE) → int_max a b ≤ℤ SIDE
first_upper a b c d o h = omega (arith, ints, clamps)

below_last : (k last : ℕ) → k ≤ last → last < 128 → k < 128
below_last k last h l = omega arith

same : (k : ℕ) → k ≤ k
same k = omega arith

first_from : (a b : ℤ) → a ≤ℤ int_max a b
first_from a b = omega (arith, ints, clamps)

second_from : (a b : ℤ) → b ≤ℤ int_max a b
second_from a b = omega (arith, ints, clamps)

first_to : (a b c d : ℤ) → Overlap a c b d → int_max a b ≤ℤ c
first_to a b c d o = omega (arith, ints, clamps)

second_to : (a b c d : ℤ) → Overlap a c b d → int_max a b ≤ℤ d
second_to a b c d o = omega (arith, ints, clamps)

pub ext_at : {A : Type 0} (box : A → Bounds) (items : List (Placed A)) (q : ℕ) (b : Placed A) → slice_get items q ≡ Some b → extent_in box items q ≡ box b.shape
ext_at box items q b here = rw here refl

pub wide_at : {A : Type 0} (box : A → Bounds) (frame : Frame) (items : List (Placed A)) (layer q : ℕ) (b : Placed A) → slice_get items q ≡ Some b → b.top ≤ layer → layer ≤ b.bottom → is_wide frame (box b.shape) b.top b.bottom ≡ true → Contains (wide_of box frame items layer) q
wide_at box frame items layer q b here from to broad = passing_has (λ p. is_in_wide frame (extent_in box items p) (top_in items p) (bottom_in items p) layer) (length items) q (slice_get_within items q b here) (rw here (in_wide frame (λ p. box b.shape) (λ p. b.top) (λ p. b.bottom) layer q from to broad))

pub cell_at : {A : Type 0} (box : A → Bounds) (frame : Frame) (items : List (Placed A)) (layer across up q : ℕ) (b : Placed A) → slice_get items q ≡ Some b → b.top ≤ layer → layer ≤ b.bottom → is_wide frame (box b.shape) b.top b.bottom ≡ false → meets_side frame.left (box b.shape).left (box b.shape).right across ≡ true → meets_side frame.low (box b.shape).low (box b.shape).high up ≡ true → Contains (cell_of box frame items layer across up) q
cell_at box frame items layer across up q b here from to narrow x y = passing_has (λ p. is_in_cell frame (extent_in box items p) (top_in items p) (bottom_in items p) layer across up) (length items) q (slice_get_within items q b here) (rw here (in_cell frame (λ p. box b.shape) (λ p. b.top) (λ p. b.bottom) (length items) layer across up q (slice_get_within items q b here) from to narrow x y))

slice_get_some : {X : Type 0} (xs : List X) (i : ℕ) → i < length xs → (x : X) × (slice_get xs i ≡ Some x)
slice_get_some xs i below = elim (slice_get_cases xs i).1 [ inl w ↦ (w.0, w.2) | inr past ↦ (let e = past.0 in absurd (omega arith)) ]

-- where a copy stands on its one layer
on_layer : (copies : List (Placed Plate)) (q : ℕ) (c : Placed Plate) → slice_get copies q ≡ Some c → All (λ c. (c.top ≡ 1) × (c.bottom ≡ 1)) copies → (c.top ≤ 1) × (1 ≤ c.bottom)
on_layer copies q c here flat = let e = all_at (λ c. (c.top ≡ 1) × (c.bottom ≡ 1)) copies q c flat here in let top = e.0 in let bottom = e.1 in (omega arith, omega arith)

-- what was found has all whose copies meet the box
pub finds_met : (wanted : ℕ → Type 0) (copies : List (Placed Plate)) (bounds : Bounds) (patch : Patch) (found : List ℕ) → All (λ c. IsInside c.shape.bounds corner) copies → All (λ c. (c.top ≡ 1) × (c.bottom ≡ 1)) copies → IsInside bounds corner → IsPatch corner bounds patch
    → Finds wanted copies bounds patch patch.left patch.low (wide_of (λ s. s.bounds) corner copies 1) found
    → ((across up : ℕ) → patch.left ≤ across → across ≤ patch.right → patch.low ≤ up → up ≤ patch.high → Finds wanted copies bounds patch across up (cell_of (λ s. s.bounds) corner copies 1 across up) found)
    → (q : ℕ) → q < length copies → wanted q → boxes_meet bounds (copy_in copies q) ≡ true → Contains found q
finds_met wanted copies bounds patch found inside flat within is wide cells q below asked is_met =
    let some = slice_get_some copies q below in
    let here : slice_get copies q ≡ Some some.0 = some.1 in
    let on = on_layer copies q some.0 here flat in
    let eb : copy_in copies q ≡ some.0.shape.bounds = ext_at (λ s. s.bounds) copies q some.0 here in
    let boxes : boxes_meet bounds some.0.shape.bounds ≡ true = subst (λ (c : Bounds). boxes_meet bounds c ≡ true) eb is_met in
    let side = halves bounds some.0.shape.bounds boxes in
    let there : IsInside some.0.shape.bounds corner = all_at (λ c. IsInside c.shape.bounds corner) copies q some.0 inside here in
    elim (wide_or_not (is_wide corner some.0.shape.bounds some.0.top some.0.bottom)) [
      | inl broad ↦ wide q (wide_at (λ s. s.bounds) corner copies 1 q some.0 here on.0 on.1 broad) (asked, record { boxes = is_met; from_left = inl refl; from_low = inl refl })
      | inr narrow ↦ (
          let x = first_place (int_max bounds.left some.0.shape.bounds.left) (lower corner.left bounds.left some.0.shape.bounds.left within.0.0) (first_upper bounds.left some.0.shape.bounds.left bounds.right some.0.shape.bounds.right side.0 within.0.1) in
          let y = first_place (int_max bounds.low some.0.shape.bounds.low) (lower corner.low bounds.low some.0.shape.bounds.low within.1.0) (first_upper bounds.low some.0.shape.bounds.low bounds.high some.0.shape.bounds.high side.1 within.1.1) in
          let ax = meets_place corner.left bounds.left bounds.right (int_max bounds.left some.0.shape.bounds.left) x.0 (first_from bounds.left some.0.shape.bounds.left) (first_to bounds.left some.0.shape.bounds.left bounds.right some.0.shape.bounds.right side.0) x.1.has in
          let ay = meets_place corner.low bounds.low bounds.high (int_max bounds.low some.0.shape.bounds.low) y.0 (first_from bounds.low some.0.shape.bounds.low) (first_to bounds.low some.0.shape.bounds.low bounds.high some.0.shape.bounds.high side.1) y.1.has in
          let bx = meets_place corner.left some.0.shape.bounds.left some.0.shape.bounds.right (int_max bounds.left some.0.shape.bounds.left) x.0 (second_from bounds.left some.0.shape.bounds.left) (second_to bounds.left some.0.shape.bounds.left bounds.right some.0.shape.bounds.right side.0) x.1.has in
          let by' = meets_place corner.low some.0.shape.bounds.low some.0.shape.bounds.high (int_max bounds.low some.0.shape.bounds.low) y.0 (second_from bounds.low some.0.shape.bounds.low) (second_to bounds.low some.0.shape.bounds.low bounds.high some.0.shape.bounds.high side.1) y.1.has in
          let px = (is.across x.0 x.1.has.cell).0 ax in
          let py = (is.up y.0 y.1.has.cell).0 ay in
          let small = is.some_across in
          let few = is.some_up in
          let fx = (is.across patch.left (below_last patch.left patch.right small.0 small.1)).1 (same patch.left, small.0) in
          let fy = (is.up patch.low (below_last patch.low patch.high few.0 few.1)).1 (same patch.low, few.0) in
          cells x.0 y.0 px.0 px.1 py.0 py.1 q (cell_at (λ s. s.bounds) corner copies 1 x.0 y.0 q some.0 here on.0 on.1 narrow bx by') (
            asked,
            record {
              boxes = is_met;
              from_left = subst (λ (b : Bounds). Begins patch.left x.0 b.left) (sym eb) (begins bounds.left some.0.shape.bounds.left bounds.right patch.left x.0 x.1 px.0 fx);
              from_low = subst (λ (b : Bounds). Begins patch.low y.0 b.low) (sym eb) (begins bounds.low some.0.shape.bounds.low bounds.high patch.low y.0 y.1 py.0 fy);
            },
          ))
    ]

-- what touches is found, where the copies of what touches meet
pub finds_near : {A : Type 0} (wanted : ℕ → Type 0) (holds : A → Point → Type 0) (items : List (Placed A)) (copies : List (Placed Plate)) (i : ℕ) (found : List ℕ) → length copies ≡ length items
    → ((p q : ℕ) → TouchAmong holds items p q → boxes_meet (copy_in copies p) (copy_in copies q) ≡ true) → ((q : ℕ) → q < length copies → wanted q → boxes_meet (copy_in copies i) (copy_in copies q) ≡ true → Contains found q)
    → (q : ℕ) → wanted q → IsNear (length items) (TouchAmong holds items) i q → Contains found q
finds_near wanted holds items copies i found long met found_all q asked near = let below = near.second in found_all q (omega arith) asked (met i q near.touch)

-- ---- Around a spot

-- what holds a place of a cell stands in the cell, or is wide
pub held_around : (copies : List (Placed Plate)) (place : Spot) (across up : ℕ) → All (λ c. (c.top ≡ 1) × (c.bottom ≡ 1)) copies → HasPlace corner.left place.x across → HasPlace corner.low place.y up
    → (q : ℕ) → q < length copies → InBox (copy_in copies q) (at place) → Contains (cell_of (λ s. s.bounds) corner copies 1 across up) q ⊎ Contains (wide_of (λ s. s.bounds) corner copies 1) q
held_around copies place across up flat x y q below held =
    let some = slice_get_some copies q below in
    let here : slice_get copies q ≡ Some some.0 = some.1 in
    let on = on_layer copies q some.0 here flat in
    let there : InBox some.0.shape.bounds (at place) = subst (λ (b : Bounds). InBox b (at place)) (ext_at (λ s. s.bounds) copies q some.0 here) held in
    let inside = (box_holds some.0.shape.bounds place).0 there in
    elim (wide_or_not (is_wide corner some.0.shape.bounds some.0.top some.0.bottom)) [
      | inl broad ↦ inr (wide_at (λ s. s.bounds) corner copies 1 q some.0 here on.0 on.1 broad)
      | inr narrow ↦ inl (cell_at (λ s. s.bounds) corner copies 1 across up q some.0 here on.0 on.1 narrow
          (meets_place corner.left some.0.shape.bounds.left some.0.shape.bounds.right place.x across inside.0.0 inside.0.1 x) (meets_place corner.low some.0.shape.bounds.low some.0.shape.bounds.high place.y up inside.1.0 inside.1.1 y))
    ]

-- the lesser of the least of two lists that have all
pub lesser_is_least : (P : ℕ → Type 0) (xs ys : List ℕ) (a b r : Option ℕ) → IsLeast (λ q. P q × Contains xs q) a → IsLeast (λ q. P q × Contains ys q) b → IsLesser a b r → ((q : ℕ) → P q → Contains xs q ⊎ Contains ys q) → IsLeast P r
lesser_is_least P xs ys None None r f g is all = subst (λ (o : Option ℕ). IsLeast P o) (sym is) (λ q p. elim (all q p) [ inl h ↦ f q (p, h) | inr h ↦ g q (p, h) ])
lesser_is_least P xs ys None (Some y) r f g is all = subst (λ (o : Option ℕ). IsLeast P o) (sym is) (g.0.0, λ q p. elim (all q p) [ inl h ↦ absurd (f q (p, h)) | inr h ↦ g.1 q (p, h) ])
lesser_is_least P xs ys (Some x) None r f g is all = subst (λ (o : Option ℕ). IsLeast P o) (sym is) (f.0.0, λ q p. elim (all q p) [ inl h ↦ f.1 q (p, h) | inr h ↦ absurd (g q (p, h)) ])
lesser_is_least P xs ys (Some x) (Some y) r f g is all = subst (λ (o : Option ℕ). IsLeast P o) (sym is) (
  elim (cases_lt x y) [
    | inl less ↦ (let e : min x y ≡ x = omega arith in subst P (sym e) f.0.0)
    | inr over ↦ (let e : min x y ≡ y = omega arith in subst P (sym e) g.0.0)
  ],
  λ q p. elim (all q p) [ inl h ↦ (let l = f.1 q (p, h) in omega arith) | inr h ↦ (let l = g.1 q (p, h) in omega arith) ],
)

pub wanted_listed : (near wanted : ℕ → Type 0) (found xs : List ℕ) → ((q : ℕ) → wanted q → near q → Contains found q) → Lists (λ q. near q × Contains found q) xs → ListsWanted near wanted xs
wanted_listed near wanted found xs whole l = record { rising = l.rising; only = λ q h. (l.only q h).0; all = λ q n w. l.all q (n, whole q w n) }

-- where all are wanted
pub all_listed : (near : ℕ → Type 0) (xs : List ℕ) → ListsWanted near (λ q. Unit {0}) xs → Lists near xs
all_listed near xs l = record { rising = l.rising; only = l.only; all = λ q n. l.all q n tt }

pub near_listed : (near : ℕ → Type 0) (found xs : List ℕ) → ((q : ℕ) → near q → Contains found q) → Lists (λ q. near q × Contains found q) xs → Lists near xs
near_listed near found xs whole l = all_listed near xs (wanted_listed near (λ q. Unit {0}) found xs (λ q asked n. whole q n) l)

pub known_same : (n : ℕ) (sorted found : List ℕ) → ((q : ℕ) → Contains sorted q ↔ Contains found q) → All (λ q. q < n) found → All (λ q. q < n) sorted
known_same n sorted found same known k d below = All-contains (λ q. q < n) found (get_or sorted k d) known ((same (get_or sorted k d)).0 (Contains-get_or sorted k d below))
