-- The least and the greatest distance that a curve of an arc may have.
use Rattle.std.proofs.Common.{◌≡◌, ℕ, ◌+◌, ◌-◌, ◌*◌, ◌/◌, ◌≤◌, negsuc, Bool, true, false, if◌then◌else◌, ℤ, pos, int_lt, unsigned_abs, FitsSigned, to_z, of_z, to_z-of_z, ◌+ℤ◌, ◌-ℤ◌, ◌*ℤ◌, ◌≤ℤ◌, ◌<ℤ◌, arith, refl, sym, ap, ◌∙◌}
use Rattle.std.specs.Int.{w128}
use Rattle.std.proofs.lemmas.Int.{ints, clamps}
use Rattle.std.specs.Int.{int_max, int_min}
use Rattle.planar.specs.Plane.{dot_of}
use Rattle.planar.proofs.Ring.{ring, linear, mul_comm, times_from_zero, times-zero, zero-times}
use Rattle.arcs.proofs.Vectors.{norm_some}
use Rattle.planar.proofs.SpotWithin.{whole_from_zero}
use Rattle.arcs.specs.declared.Arc.{Arc}
use Rattle.arcs.specs.Copper.{apart, greater, inmost, lesser, outmost, spread, swing, times, unlike}

from_either : (b : Bool) (d : ℤ) → pos 0 ≤ℤ d → pos 0 ≤ℤ (if b then d else pos 0)
from_either true d h = h
from_either false d h = omega (arith, ints)

pub spread_from : (a : Arc) → pos 0 ≤ℤ spread a
spread_from a = from_either (int_lt (swing a) (pos 0)) (unlike a *ℤ pos (times a)) (times_from_zero (unlike a) (pos (times a)) (omega (arith, ints, clamps)) (omega (arith, ints)))

pub lt_true : (z : ℤ) → z <ℤ pos 0 → int_lt z (pos 0) ≡ true
lt_true (pos n) h = absurd (omega (arith, ints, h))
lt_true (negsuc n) h = refl

pub spread_when : (a : Arc) → swing a <ℤ pos 0 → spread a ≡ unlike a *ℤ pos (times a)
spread_when a h = ap (λ (b : Bool). if b then unlike a *ℤ pos (times a) else pos 0) (lt_true (swing a) h)

pub lt_false : (z : ℤ) → pos 0 ≤ℤ z → int_lt z (pos 0) ≡ false
lt_false (pos n) h = grind (arith, ints)
lt_false (negsuc n) h = absurd (omega (arith, ints, h))

pub spread_none : (a : Arc) → pos 0 ≤ℤ swing a → spread a ≡ pos 0
spread_none a h = ap (λ (b : Bool). if b then unlike a *ℤ pos (times a) else pos 0) (lt_false (swing a) h)

-- ends on two sides of the centre's line are two spots
pub apart_some : (a : Arc) → swing a <ℤ pos 0 → pos 1 ≤ℤ apart a
apart_some a way = norm_some (a.end.x -ℤ a.start.x) (a.end.y -ℤ a.start.y) none
  where
    crossed : (ux uy sx sy ex ey cx cy : ℤ) → ux ≡ sx -ℤ cx → uy ≡ sy -ℤ cy → ux *ℤ (ey -ℤ cy) -ℤ uy *ℤ (ex -ℤ cx) ≡ ux *ℤ (ey -ℤ sy) -ℤ uy *ℤ (ex -ℤ sx)
    crossed ux uy sx sy ex ey cx cy hx hy =
        let e : ux *ℤ (ey -ℤ cy) -ℤ uy *ℤ (ex -ℤ cx) ≡ ux *ℤ (ey -ℤ sy) -ℤ uy *ℤ (ex -ℤ sx) +ℤ (ux *ℤ (sy -ℤ cy) -ℤ uy *ℤ (sx -ℤ cx)) = simp ring (omega (arith, linear)) in
        let f : ux *ℤ (sy -ℤ cy) -ℤ uy *ℤ (sx -ℤ cx) ≡ pos 0 = rw (← hx, ← hy) (omega (arith, linear, mul_comm ux uy)) in
        omega (arith, linear, e, f)

    none : a.end.x -ℤ a.start.x ≡ pos 0 → a.end.y -ℤ a.start.y ≡ pos 0 → ⊥
    none zx zy =
        let id : swing a ≡ (a.start.x -ℤ a.centre.x) *ℤ (a.end.y -ℤ a.start.y) -ℤ (a.start.y -ℤ a.centre.y) *ℤ (a.end.x -ℤ a.start.x) = crossed (a.start.x -ℤ a.centre.x) (a.start.y -ℤ a.centre.y) a.start.x a.start.y a.end.x a.end.y a.centre.x a.centre.y refl refl in
        let z : swing a ≡ (a.start.x -ℤ a.centre.x) *ℤ pos 0 -ℤ (a.start.y -ℤ a.centre.y) *ℤ pos 0 = rw (zx, zy) at id in
        omega (arith, linear, z, way, times-zero (a.start.x -ℤ a.centre.x), times-zero (a.start.y -ℤ a.centre.y))

-- the spread, by the numbers of the code
pub spread_read : (a : Arc) (near far k A : ℕ) (z : ℤ) → swing a <ℤ pos 0 → z ≡ swing a → FitsSigned w128 z → k ≡ unsigned_abs (to_z w128 (of_z w128 z)) → pos near ≡ lesser a → pos far ≡ greater a → near ≤ far → pos A ≡ apart a → pos ((far - near) * (k / A + 1)) ≡ spread a
spread_read a near far k A z way is fits e low high order gap =
    let kk : k ≡ unsigned_abs (swing a) = e ∙ (ap unsigned_abs (to_z-of_z fits) ∙ ap unsigned_abs is) in
    let aa : A ≡ unsigned_abs (apart a) = ap unsigned_abs gap in
    let u : pos (far - near) ≡ unlike a = omega (arith, ints, low, high, order) in
    let t : k / A + 1 ≡ times a = ap (λ (n : ℕ). n / A + 1) kk ∙ ap (λ (n : ℕ). unsigned_abs (swing a) / n + 1) aa in
    let p : pos ((far - near) * (k / A + 1)) ≡ pos (far - near) *ℤ pos (k / A + 1) = omega (arith, ints) in
    p ∙ (ap (λ (z : ℤ). z *ℤ pos (k / A + 1)) u ∙ (ap (λ (n : ℕ). unlike a *ℤ pos n) t ∙ sym (spread_when a way)))

pub inmost_from : (a : Arc) → pos 0 ≤ℤ inmost a
inmost_from a = omega (arith, ints, clamps)

below : (n s d : ℤ) → pos 0 ≤ℤ s → pos 0 ≤ℤ d → n ≤ℤ d → int_max (n -ℤ s) (pos 0) ≤ℤ d
below n s d hs hd h = omega (arith, ints, clamps)

above : (f s d : ℤ) → pos 0 ≤ℤ s → d ≤ℤ f → d ≤ℤ (f +ℤ s)
above f s d hs h = omega (arith, ints)

pub start_over : (a : Arc) → inmost a ≤ℤ dot_of a.centre a.start a.start
start_over a = below (lesser a) (spread a) (dot_of a.centre a.start a.start) (spread_from a) (whole_from_zero a.centre a.start) (omega (arith, ints, clamps))

pub end_over : (a : Arc) → inmost a ≤ℤ dot_of a.centre a.end a.end
end_over a = below (lesser a) (spread a) (dot_of a.centre a.end a.end) (spread_from a) (whole_from_zero a.centre a.end) (omega (arith, ints, clamps))

pub start_under : (a : Arc) → dot_of a.centre a.start a.start ≤ℤ outmost a
start_under a = above (greater a) (spread a) (dot_of a.centre a.start a.start) (spread_from a) (omega (arith, ints, clamps))

pub end_under : (a : Arc) → dot_of a.centre a.end a.end ≤ℤ outmost a
end_under a = above (greater a) (spread a) (dot_of a.centre a.end a.end) (spread_from a) (omega (arith, ints, clamps))

pub in_order : (a : Arc) → inmost a ≤ℤ outmost a
in_order a = omega (arith, linear, start_over a, start_under a)

pub over_outmost : (a : Arc) (z : ℤ) → z ≤ℤ spread a → z ≤ℤ outmost a
over_outmost a z h = by (greater a) (spread a) z (omega (arith, ints, clamps, whole_from_zero a.centre a.start)) h
  where
    by : (g s z : ℤ) → pos 0 ≤ℤ g → z ≤ℤ s → z ≤ℤ (g +ℤ s)
    by g s z hg hz = omega (arith, ints, hg, hz)

-- ---- ends at one distance: a curve has no other

module _ (a : Arc) (same : unlike a ≡ pos 0) where
  pub end_is : dot_of a.centre a.end a.end ≡ dot_of a.centre a.start a.start
  end_is = by (dot_of a.centre a.start a.start) (dot_of a.centre a.end a.end) same
    where
      by : (s e : ℤ) → int_max s e -ℤ int_min s e ≡ pos 0 → e ≡ s
      by s e o = omega (arith, ints, clamps, o)

  no_spread : spread a ≡ pos 0
  no_spread = none (int_lt (swing a) (pos 0)) (unlike a) (pos (times a)) same
    where
      none : (b : Bool) (u t : ℤ) → u ≡ pos 0 → (if b then u *ℤ t else pos 0) ≡ pos 0
      none true u t e = rw e (zero-times t)
      none false u t e = refl

  pub inmost_is : inmost a ≡ dot_of a.centre a.start a.start
  inmost_is = by (dot_of a.centre a.start a.start) (dot_of a.centre a.end a.end) (spread a) no_spread same (whole_from_zero a.centre a.start)
    where
      by : (s e d : ℤ) → d ≡ pos 0 → int_max s e -ℤ int_min s e ≡ pos 0 → pos 0 ≤ℤ s → int_max (int_min s e -ℤ d) (pos 0) ≡ s
      by s e d z o from = omega (arith, ints, clamps, z, o, from)

  pub outmost_is : outmost a ≡ dot_of a.centre a.start a.start
  outmost_is = by (dot_of a.centre a.start a.start) (dot_of a.centre a.end a.end) (spread a) no_spread same
    where
      by : (s e d : ℤ) → d ≡ pos 0 → int_max s e -ℤ int_min s e ≡ pos 0 → (int_max s e +ℤ d) ≡ s
      by s e d z o = omega (arith, ints, clamps, z, o)

-- equal squares are one distance
pub unlike_none : (a : Arc) → dot_of a.centre a.start a.start ≡ dot_of a.centre a.end a.end → unlike a ≡ pos 0
unlike_none a even = by (dot_of a.centre a.start a.start) (dot_of a.centre a.end a.end) even
  where
    by : (u v : ℤ) → u ≡ v → int_max u v -ℤ int_min u v ≡ pos 0
    by u v h = omega (arith, ints, clamps)
