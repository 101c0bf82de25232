-- Which cells of a side are met.
use Rattle.contact.specs.Solid.{InBox}
use Rattle.contact.specs.declared.Bounds.{Bounds}
use Rattle.planar.proofs.Ring.{times_cancel}
use Rattle.planar.specs.Plane.{Point}
use Rattle.std.proofs.Math.IntN.{nat_abs}
use Rattle.planar.specs.declared.TheConstants.{SIDE}
use Rattle.std.proofs.Common.{subst, rules, FitsSigned, to_z, of_z, to_z-of_z, w64, ◌≡◌, ◌⊎◌, inl, inr, ℕ, ◌+◌, ◌*◌, ◌<◌, ◌≤◌, ◌↔◌, true, ℤ, pos, ◌+ℤ◌, ◌-ℤ◌, ◌*ℤ◌, ◌≤ℤ◌, int_le, arith, sym, ap}
use Rattle.std.proofs.lemmas.Int.{ints, clamps}
use Rattle.std.specs.Int.{int_max, int_min}
use Rattle.cell_index.specs.Cells.{meets_side}
use Rattle.cell_index.specs.declared.patch.TheConstants.{CELL}
use Rattle.cell_index.proofs.Pairs.{int_le_holds}

pub int_le_told : (a b : ℤ) → int_le a b ≡ true → a ≤ℤ b
int_le_told a b h = grind (arith, ints)

-- the sides of a cell
pub edge : (k : ℕ) → pos CELL *ℤ pos k ≡ pos (CELL * k)
edge k = grind (arith, ints)

pub met_between : (from low high : ℤ) (a b first last k : ℕ) → low ≡ from +ℤ pos a → high ≡ from +ℤ pos b → a ≤ b → (first ≡ 0) ⊎ (CELL * first < a) → a ≤ CELL * (first + 1) → CELL * last ≤ b → (last ≡ 127) ⊎ (b < CELL * (last + 1)) → k < 128 → (meets_side from low high k ≡ true) ↔ ((first ≤ k) × (k ≤ last))
met_between from low high a b first last k at_low at_high order begin reached begun end cell = (there, back)
  where
    there : meets_side from low high k ≡ true → (first ≤ k) × (k ≤ last)
    there h =
        let le : int_max low (from +ℤ pos CELL *ℤ pos k) ≤ℤ int_min high (from +ℤ pos CELL *ℤ pos (k + 1)) = int_le_told (int_max low (from +ℤ pos CELL *ℤ pos k)) (int_min high (from +ℤ pos CELL *ℤ pos (k + 1))) h in
        let one : low ≤ℤ (from +ℤ pos CELL *ℤ pos (k + 1)) = omega (arith, ints, clamps) in
        let two : (from +ℤ pos CELL *ℤ pos k) ≤ℤ high = omega (arith, ints, clamps) in
        let e = edge k in
        let f = edge (k + 1) in
        let left : a ≤ CELL * (k + 1) = omega (arith, ints) in
        let right : CELL * k ≤ b = omega (arith, ints) in
        (elim begin [ inl z ↦ omega arith | inr less ↦ omega arith ], elim end [ inl z ↦ omega arith | inr less ↦ omega arith ])

    back : (first ≤ k) × (k ≤ last) → meets_side from low high k ≡ true
    back h =
        let e = edge k in
        let f = edge (k + 1) in
        let p = h.0 in
        let q = h.1 in
        let left : a ≤ CELL * (k + 1) = omega arith in
        let right : CELL * k ≤ b = omega arith in
        let one : low ≤ℤ (from +ℤ pos CELL *ℤ pos (k + 1)) = omega (arith, ints) in
        let two : (from +ℤ pos CELL *ℤ pos k) ≤ℤ high = omega (arith, ints) in
        let three : low ≤ℤ high = omega (arith, ints) in
        let four : (from +ℤ pos CELL *ℤ pos k) ≤ℤ (from +ℤ pos CELL *ℤ pos (k + 1)) = omega (arith, ints) in
        int_le_holds (int_max low (from +ℤ pos CELL *ℤ pos k)) (int_min high (from +ℤ pos CELL *ℤ pos (k + 1))) (omega (arith, ints, clamps))

-- ---- for the calls

-- how far z is along from `from`, as the code takes it
abbrev pub along : ℤ → ℤ → ℕ
along from z = nat_abs (to_z w64 (of_z w64 (to_z w64 (of_z w64 z) -ℤ to_z w64 (of_z w64 from))))

pub along_is : (from z : ℤ) → FitsSigned w64 from → FitsSigned w64 z → from ≤ℤ z → z ≤ℤ (from +ℤ SIDE) → z ≡ from +ℤ pos (along from z)
along_is from z f g low high =
    let small : FitsSigned w64 (z -ℤ from) = search (rules, low, high) in
    let way : to_z w64 (of_z w64 (to_z w64 (of_z w64 z) -ℤ to_z w64 (of_z w64 from))) ≡ z -ℤ from = rw (to_z-of_z g, to_z-of_z f) (to_z-of_z small) in
    let size : pos (nat_abs (z -ℤ from)) ≡ z -ℤ from = omega (arith, ints) in
    let same = ap (λ (w : ℤ). pos (nat_abs w)) way in
    omega (arith, ints)

pub met_read : (from low high : ℤ) (first last k : ℕ) → FitsSigned w64 from → FitsSigned w64 low → FitsSigned w64 high → from ≤ℤ low → high ≤ℤ (from +ℤ SIDE) → low ≤ℤ high → (first ≡ 0) ⊎ (CELL * first < along from low) → along from low ≤ CELL * (first + 1) → CELL * last ≤ along from high → (last ≡ 127) ⊎ (along from high < CELL * (last + 1)) → k < 128 → (meets_side from low high k ≡ true) ↔ ((first ≤ k) × (k ≤ last))
met_read from low high first last k e f g begins ends order begin reached begun end cell =
    let at_low = along_is from low e f begins (omega (arith, ints)) in
    let at_high = along_is from high e g (omega (arith, ints)) ends in
    let rising : along from low ≤ along from high = omega (arith, ints) in
    met_between from low high (along from low) (along from high) first last k at_low at_high rising begin reached begun end cell

pub some_met : (from low high : ℤ) (first last : ℕ) → FitsSigned w64 from → FitsSigned w64 low → FitsSigned w64 high → from ≤ℤ low → high ≤ℤ (from +ℤ SIDE) → low ≤ℤ high → (first ≡ 0) ⊎ (CELL * first < along from low) → (last ≡ 127) ⊎ (along from high < CELL * (last + 1)) → first < 128 → first ≤ last
some_met from low high first last e f g begins ends order begin end small =
    let at_low = along_is from low e f begins (omega (arith, ints)) in
    let at_high = along_is from high e g (omega (arith, ints)) ends in
    let rising : along from low ≤ along from high = omega (arith, ints) in
    elim end [ inl z ↦ omega arith | inr less ↦ elim begin [ inl z ↦ omega arith | inr more ↦ omega arith ] ]

-- a box with a point in it
pub ordered : (b box : Bounds) (p : Point) → b ≡ box → InBox box p → (b.left ≤ℤ b.right) × (b.low ≤ℤ b.high)
ordered b box p same inside = subst (λ (x : Bounds). (x.left ≤ℤ x.right) × (x.low ≤ℤ x.high)) (sym same) (
  times_cancel p.n box.left box.right p.positive (chain (p.n *ℤ box.left) p.x (p.n *ℤ box.right) inside.not_left inside.not_right),
  times_cancel p.n box.low box.high p.positive (chain (p.n *ℤ box.low) p.y (p.n *ℤ box.high) inside.not_below inside.not_above),
)
  where
    chain : (x y z : ℤ) → x ≤ℤ y → y ≤ℤ z → x ≤ℤ z
    chain x y z f g = omega (arith, ints)
