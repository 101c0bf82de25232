-- What the code's numbers and answers tell.
use Rattle.std.proofs.Common.{◌≡◌, ◌↔◌, Bool, IsTrue, sym, FitsSigned, to_z, of_z, to_z-of_z, ℕ, ◌+◌, ◌*◌, ◌≤◌, ℤ, pos, negsuc, unsigned_abs, ◌+ℤ◌, ◌-ℤ◌, ◌*ℤ◌, ◌≤ℤ◌, ◌<ℤ◌, inl, inr, List, suc, arith, ap, subst, refl, ◌∙◌}
use Rattle.std.proofs.lemmas.Int.{ints}
use Rattle.std.specs.Int.{w128}
use Rattle.planar.specs.declared.Spot.{Spot}
use Rattle.planar.specs.declared.TheConstants.{TWO_METRES}
use Rattle.planar.specs.Plane.{IsPlaced, IsWithin, at, cross_of, dot_of, square}
use Rattle.planar.proofs.Ring.{ring, linear, le_or_lt, one-times, times_mono, square_mono, square-neg}
use Rattle.planar.proofs.Read.{from_abs}
use Rattle.area_contact.specs.Parity.{side_of}
use Rattle.slants.specs.Copper.{InSlant, along_of}
use Rattle.slants.specs.Taken.{HasRoot, Keeps, band, reach}
use Rattle.slants.specs.declared.measures.TheConstants.{FINE}
use Rattle.slants.specs.declared.Slant.{Slant}
use Rattle.slants.specs.Rounds.{GoesRound}
use Rattle.slants.proofs.Inside.{round_as}
use Rattle.slants.proofs.Sums.{dot_within}

-- ---- numbers of 128 bits

abs_read : (off : ℕ) (k : ℤ) → FitsSigned w128 k → off ≡ unsigned_abs (to_z w128 (of_z w128 k)) → off ≡ unsigned_abs k
abs_read off k f e = e ∙ ap unsigned_abs (to_z-of_z f)

abs_squared : (z : ℤ) → square (pos 2 *ℤ z) ≡ pos (2 * unsigned_abs z * (2 * unsigned_abs z))
abs_squared (pos n) = omega (arith, ints)
abs_squared (negsuc n) = square-neg (pos (2 * suc n)) ∙ omega (arith, ints)

-- an amount to the left of a line
pub off_read : (off least root : ℕ) (k z : ℤ) (t : Bool) → k ≡ z → pos 0 ≤ℤ k → FitsSigned w128 k → off ≡ unsigned_abs (to_z w128 (of_z w128 k)) → IsTrue t ↔ (least ≤ off * root) → IsTrue t ↔ ((pos 0 ≤ℤ z) × (pos least ≤ℤ (z *ℤ pos root)))
off_read off least root k z t same from f e told =
    let is : k ≡ pos off = from_abs off k from (abs_read off k f e) in
    subst (λ (z : ℤ). IsTrue t ↔ ((pos 0 ≤ℤ z) × (pos least ≤ℤ (z *ℤ pos root)))) (sym is ∙ same)
    (λ yes. (omega (arith, ints), omega (arith, ints, told.0 yes)), λ h. told.1 (omega (arith, ints, h.1)))

-- how far a corner is off the line
pub beside_read : (off most : ℕ) (k z b : ℤ) (t : Bool) → k ≡ z → FitsSigned w128 k → off ≡ unsigned_abs (to_z w128 (of_z w128 k)) → pos most ≡ b → IsTrue t ↔ (2 * off * (2 * off) ≤ most) → IsTrue t ↔ (square (pos 2 *ℤ z) ≤ℤ b)
beside_read off most k z b t same f e is told =
    let s : square (pos 2 *ℤ z) ≡ pos (2 * off * (2 * off)) = subst (λ (z : ℤ). square (pos 2 *ℤ z) ≡ pos (2 * off * (2 * off))) same (subst (λ (n : ℕ). square (pos 2 *ℤ k) ≡ pos (2 * n * (2 * n))) (sym (abs_read off k f e)) (abs_squared k)) in
    rw (s, ← is) (λ yes. omega (arith, ints, told.0 yes), λ h. told.1 (omega (arith, ints, h)))

-- ---- the length

within_abs : (n : ℕ) (z : ℤ) → IsWithin n z → unsigned_abs z ≤ n
within_abs n (pos m) h = omega (arith, ints, h)
within_abs n (negsuc m) h = omega (arith, ints, h)

pub length_small : (s e : Spot) (whole : ℕ) (d : ℤ) → IsPlaced s → IsPlaced e → d ≡ dot_of s e e → FitsSigned w128 d → whole ≡ unsigned_abs (to_z w128 (of_z w128 d)) → whole ≤ (2 * TWO_METRES * TWO_METRES)
length_small s e whole d h k is f from =
    let w : whole ≡ unsigned_abs (dot_of s e e) = abs_read whole d f from ∙ ap unsigned_abs is in
    rw w (within_abs (2 * TWO_METRES * TWO_METRES) (dot_of s e e) (dot_within s e e h k k))

-- ---- the rectangle

back_is : (sx sy ex ey qx qy : ℤ) → (sx -ℤ ex) *ℤ (qx -ℤ ex) +ℤ (sy -ℤ ey) *ℤ (qy -ℤ ey) ≡ ((ex -ℤ sx) *ℤ (ex -ℤ sx) +ℤ (ey -ℤ sy) *ℤ (ey -ℤ sy)) -ℤ ((ex -ℤ sx) *ℤ (qx -ℤ sx) +ℤ (ey -ℤ sy) *ℤ (qy -ℤ sy))
back_is sx sy ex ey qx qy = simp ring (omega (arith, linear))

along_spot : (dx dy qx qy sx sy : ℤ) → dx *ℤ (qx -ℤ pos 1 *ℤ sx) +ℤ dy *ℤ (qy -ℤ pos 1 *ℤ sy) ≡ dx *ℤ (qx -ℤ sx) +ℤ dy *ℤ (qy -ℤ sy)
along_spot dx dy qx qy sx sy = rw (one-times sx, one-times sy) refl

side_spot : (dx dy qx qy sx sy : ℤ) → pos 2 *ℤ (dx *ℤ (qy -ℤ pos 1 *ℤ sy) +ℤ (pos 1 *ℤ sx -ℤ qx) *ℤ dy) ≡ pos 2 *ℤ (dx *ℤ (qy -ℤ sy) -ℤ dy *ℤ (qx -ℤ sx))
side_spot dx dy qx qy sx sy = simp ring (omega (arith, linear))

band_one : (w d : ℤ) → square (pos 1 *ℤ w) *ℤ d ≡ square w *ℤ d
band_one w d = rw (one-times w) refl

module _ (a : Slant) (q : Spot) where
  along : along_of a.start a.end (at q) ≡ dot_of a.start a.end q
  along = along_spot (a.end.x -ℤ a.start.x) (a.end.y -ℤ a.start.y) q.x q.y a.start.x a.start.y

  back : dot_of a.end a.start q ≡ dot_of a.start a.end a.end -ℤ dot_of a.start a.end q
  back = back_is a.start.x a.start.y a.end.x a.end.y q.x q.y

  side : pos 2 *ℤ side_of a.start a.end q.x q.y (pos 1) ≡ pos 2 *ℤ cross_of a.start a.end q
  side = side_spot (a.end.x -ℤ a.start.x) (a.end.y -ℤ a.start.y) q.x q.y a.start.x a.start.y

  pub corner_read : (t : Bool) → pos 1 ≤ℤ dot_of a.start a.end a.end → IsTrue t ↔ ((pos 0 ≤ℤ dot_of a.start a.end q) × (pos 0 ≤ℤ dot_of a.end a.start q) × (square (pos 2 *ℤ cross_of a.start a.end q) ≤ℤ band a)) → IsTrue t ↔ InSlant a (at q)
  corner_read t some told = (
    λ yes. let l = told.0 yes in record {
      apart = some;
      from_start = omega (arith, linear, along, l.0);
      to_end = omega (arith, linear, along, back, one-times (dot_of a.start a.end a.end), l.1);
      beside = rw (side, band_one (pos a.width) (dot_of a.start a.end a.end)) l.2;
    },
    λ h. told.1 (
      omega (arith, linear, along, h.from_start),
      omega (arith, linear, along, back, one-times (dot_of a.start a.end a.end), h.to_end),
      rw (side, band_one (pos a.width) (dot_of a.start a.end a.end)) at h.beside,
    ),
  )

-- ---- a root that is rounded down is the greatest that serves

keeps_more : (a : Slant) (r s : ℤ) (b c : Spot) → r ≤ℤ s → Keeps a r b c → Keeps a s b c
keeps_more a r s b c h k = (k.0, (k.1.0, more (cross_of b c a.start) (pos (reach a b c)) k.1), (k.2.0, more (cross_of b c a.end) (pos (reach a b c)) k.2))
  where
    more : (z least : ℤ) → (pos 0 ≤ℤ z) × (least ≤ℤ (z *ℤ r)) → least ≤ℤ (z *ℤ s)
    more z least l = omega (arith, linear, l.1, times_mono z r s l.0 h)

not_under : (m : ℤ) (root : ℕ) (n : ℤ) → square m ≤ℤ n → n <ℤ square (pos (root + 1)) → m ≤ℤ pos root
not_under m root n h k = elim (le_or_lt m (pos root)) [
  | inl l ↦ l
  | inr l ↦ absurd (omega (arith, linear, h, k, square_mono (pos (root + 1)) m (omega (arith, ints)) (omega (arith, ints, l))))
]

pub root_read : (a : Slant) (points : List Spot) (root : ℕ) (t : Bool) → square (pos root) ≤ℤ (square (pos (2 * FINE)) *ℤ dot_of a.start a.end a.end) → (square (pos (2 * FINE)) *ℤ dot_of a.start a.end a.end) <ℤ square (pos (root + 1))
    → IsTrue t ↔ GoesRound (Keeps a (pos root)) points → IsTrue t ↔ HasRoot a points
root_read a points root t under over told = (
  λ yes. record { root = pos root; from_zero = omega (arith, ints); is = under; round = told.0 yes },
  λ h. let l : h.root ≤ℤ pos root = not_under h.root root (square (pos (2 * FINE)) *ℤ dot_of a.start a.end a.end) h.is over in told.1 (round_as (λ b c k. keeps_more a h.root (pos root) b c l k) points h.round),
)
