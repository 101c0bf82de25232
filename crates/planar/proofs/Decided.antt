-- Whether two segments share a point, and whether a spot lies in a capsule, is decided: one of the two holds.
use Rattle.std.proofs.Common.{Bool, true, false, IsTrue, refl, arith, ◌↔◌, ℤ, pos, ◌+ℤ◌, ◌*ℤ◌, ◌≤ℤ◌, ◌<ℤ◌, ◌⊎◌, inl, inr}
use Rattle.planar.specs.declared.Spot.{Spot}
use Rattle.planar.specs.Plane.{square, at, AnEnd, InCapsule, Share, cross_of, dot_of}
use Rattle.planar.proofs.Ring.{linear, le_or_lt}
use Rattle.planar.proofs.Share.{share_turned}
use Rattle.planar.proofs.SpotWithin.{spot_before, spot_after, spot_beside}
use Rattle.planar.proofs.Meet.{end_shared, other_end_shared, parallel_ends, radii_moved, reaches, turned_way, wider, within_ends}

-- ---- facts that are decided

abbrev pub Decided : Type 0 → Type 0
Decided P = P ⊎ (P → ⊥)

pub same_decided : {P Q : Type 0} → P ↔ Q → Decided Q → Decided P
same_decided e (inl h) = inl (e.1 h)
same_decided e (inr h) = inr (λ k. h (e.0 k))

pub either_decided : {P Q : Type 0} → Decided P → Decided Q → Decided (P ⊎ Q)
either_decided (inl h) e = inl (inl h)
either_decided (inr h) (inl k) = inl (inr k)
either_decided {P} {Q} (inr h) (inr k) = inr none
  where
    none : P ⊎ Q → ⊥
    none (inl l) = h l
    none (inr l) = k l

pub test_decided : (t : Bool) → Decided (IsTrue t)
test_decided true = inl refl
test_decided false = inr no
  where
    no : IsTrue false → ⊥
    no h = cc

pub le_decided : (a b : ℤ) → Decided (a ≤ℤ b)
le_decided a b = elim (le_or_lt a b) [ inl l ↦ inl l | inr g ↦ inr (λ l. omega (arith, linear, l, g)) ]

-- ---- a spot in a capsule

pub spot_decided : (a b : Spot) (r : ℤ) (p : Spot) → Decided (InCapsule a b r (at p))
spot_decided a b r p = elim (le_or_lt (dot_of a p b) (pos 0)) [
  | inl l ↦ same_decided (spot_before a b r p l) (le_decided (dot_of a p p) (square r))
  | inr g ↦ elim (le_or_lt (dot_of a b b) (dot_of a p b)) [
    | inl l ↦ same_decided (spot_after a b r p l) (le_decided (dot_of b p p) (square r))
    | inr k ↦ same_decided (spot_beside a b r p g (omega (arith, linear, k))) (le_decided (square (cross_of a b p)) (square r *ℤ dot_of a b b))
  ]
]

pub end_decided : (a b c d : Spot) (r : ℤ) → Decided (AnEnd a b c d r)
end_decided a b c d r = either_decided (spot_decided c d r a) (spot_decided c d r b)

-- ---- two segments

-- where the first crosses the line of the second from left to right
across_decided : (a b c d : Spot) → (cross_of c d b) <ℤ (cross_of c d a) → Decided (Share a b (pos 0) c d (pos 0))
across_decided a b c d turn = same_decided (reaches a b c d turn) (all (le_decided (cross_of c d b) (pos 0)) (le_decided (pos 0) (cross_of c d a)) (le_decided (cross_of a b c) (pos 0)) (le_decided (pos 0) (cross_of a b d)))
  where
    all : {P Q R S : Type 0} → Decided P → Decided Q → Decided R → Decided S → Decided (P × Q × R × S)
    all (inr n) q r s = inr (λ h. n h.0)
    all (inl h) (inr n) r s = inr (λ k. n k.1)
    all (inl h) (inl k) (inr n) s = inr (λ l. n l.2)
    all (inl h) (inl k) (inl l) (inr n) = inr (λ m. n m.3)
    all (inl h) (inl k) (inl l) (inl m) = inl (h, k, l, m)

ends_shared : (a b c d : Spot) (r : ℤ) → pos 0 ≤ℤ r → AnEnd a b c d r ⊎ AnEnd c d a b r → Share a b (pos 0) c d r
ends_shared a b c d r hr (inl h) = end_shared a b c d r h
ends_shared a b c d r hr (inr h) = other_end_shared a b c d r hr h

pub segments_decided : (a b c d : Spot) → Decided (Share a b (pos 0) c d (pos 0))
segments_decided a b c d = elim (le_or_lt (cross_of c d a) (cross_of c d b)) [
  | inr g ↦ across_decided a b c d g
  | inl l ↦ elim (le_or_lt (cross_of c d b) (cross_of c d a)) [
    | inr g ↦ same_decided ((λ h. share_turned h), (λ h. share_turned h)) (across_decided c d a b (omega (arith, linear, g, turned_way a b c d)))
    | inl k ↦ same_decided ((λ h. parallel_ends a b c d (omega (arith, linear, l, k)) h), (λ h. ends_shared a b c d (pos 0) record { le = tt } h)) (either_decided (end_decided a b c d (pos 0)) (end_decided c d a b (pos 0)))
  ]
]

pub within_decided : (a b c d : Spot) (r : ℤ) → pos 0 ≤ℤ r → Decided (Share a b (pos 0) c d r)
within_decided a b c d r hr =
    same_decided ((λ h. within_ends a b c d r hr h), back)
    (either_decided (segments_decided a b c d) (either_decided (end_decided a b c d r) (end_decided c d a b r)))
  where
    back : Share a b (pos 0) c d (pos 0) ⊎ (AnEnd a b c d r ⊎ AnEnd c d a b r) → Share a b (pos 0) c d r
    back (inl h) = wider a b c d r hr h
    back (inr h) = ends_shared a b c d r hr h

pub share_decided : (a b : Spot) (r : ℤ) (c d : Spot) (s : ℤ) → pos 0 ≤ℤ r → pos 0 ≤ℤ s → Decided (Share a b r c d s)
share_decided a b r c d s hr hs =
    let both : pos 0 ≤ℤ (r +ℤ s) = omega (arith, linear) in
    same_decided
    ((λ h. radii_moved a b c d r s (pos 0) (r +ℤ s) hr hs record { le = tt } both (omega (arith, linear)) h), (λ h. radii_moved a b c d (pos 0) (r +ℤ s) r s record { le = tt } both hr hs (omega (arith, linear)) h))
    (within_decided a b c d (r +ℤ s) both)
