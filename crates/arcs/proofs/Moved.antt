-- The circle through both ends whose centre is nearest to the given one keeps the distances that a curve may have.
use Rattle.std.proofs.Common.{◌≡◌, ◌⊎◌, inl, inr, ℕ, ◌+◌, ◌*◌, ◌/◌, ◌%◌, ◌<◌, negsuc, ℤ, pos, neg_ℤ, unsigned_abs, ◌+ℤ◌, ◌-ℤ◌, ◌*ℤ◌, ◌≤ℤ◌, ◌<ℤ◌, arith, refl, sym, ap, subst, ◌∙◌}
use Rattle.std.proofs.Math.Nat.{div-add-mod}
use Rattle.std.proofs.lemmas.Nat.{mod_below}
use Rattle.std.proofs.lemmas.Int.{ints, clamps}
use Rattle.std.specs.Int.{int_max, int_min}
use Rattle.planar.specs.declared.Spot.{Spot}
use Rattle.planar.specs.Plane.{Point, cross_of, dot_of, square}
use Rattle.planar.proofs.Ring.{ring, linear, le_or_lt, square_cancel, square_from_zero, times_cancel, times_from_zero, times_mono, times-zero, zero-times}
use Rattle.arcs.specs.declared.Arc.{Arc}
use Rattle.arcs.specs.Copper.{InTurn, IsMeant, apart, inmost, lesser, outmost, reach_of, side_of, spread, swing, times, unlike}
use Rattle.arcs.specs.Laws.{IsAsFar, IsMovedCentre, MovedCircleIsHeld, MovedTurnIsHeld}
use Rattle.arcs.proofs.Vectors.{norm, norm_from_zero}
use Rattle.arcs.proofs.Radii.{apart_some, spread_none, spread_when}
use Rattle.arcs.proofs.Turned.{flat, inside_by, turned}

-- ---- on the circle, with r from the start, d from end to end, n times

-- what is on the circle is at most |k| over A of the way past an end
module _ (n A k U W R X P : ℤ) (hn : pos 1 ≤ℤ n) (hA : pos 0 ≤ℤ A) (lengths : U *ℤ U +ℤ W *ℤ W ≡ A *ℤ R) (parts : A *ℤ X ≡ U *ℤ P -ℤ W *ℤ k) (on : A *ℤ (R +ℤ (n *ℤ X +ℤ n *ℤ X)) ≡ n *ℤ ((A +ℤ (P +ℤ P)) *ℤ U)) where
  circle : U *ℤ U +ℤ W *ℤ W -ℤ ((n *ℤ W) *ℤ k +ℤ (n *ℤ W) *ℤ k) ≡ (n *ℤ A) *ℤ U
  circle =
      let e : A *ℤ (R +ℤ (n *ℤ X +ℤ n *ℤ X)) ≡ A *ℤ R +ℤ (n *ℤ (A *ℤ X) +ℤ n *ℤ (A *ℤ X)) = simp ring (omega (arith, linear)) in
      let f : n *ℤ (A *ℤ X) ≡ n *ℤ (U *ℤ P) -ℤ (n *ℤ W) *ℤ k = rw parts (simp ring (omega (arith, linear))) in
      let g : n *ℤ ((A +ℤ (P +ℤ P)) *ℤ U) ≡ (n *ℤ A) *ℤ U +ℤ (n *ℤ (U *ℤ P) +ℤ n *ℤ (U *ℤ P)) = simp ring (omega (arith, linear)) in
      omega (arith, linear, e, f, g, on, lengths)

  squares : square ((U +ℤ U) -ℤ n *ℤ A) +ℤ square ((W +ℤ W) -ℤ (n *ℤ k +ℤ n *ℤ k)) ≡ square (n *ℤ A) +ℤ square (n *ℤ k +ℤ n *ℤ k)
  squares =
      let e : square ((U +ℤ U) -ℤ n *ℤ A) ≡ ((U *ℤ U +ℤ U *ℤ U) +ℤ (U *ℤ U +ℤ U *ℤ U)) -ℤ (((n *ℤ A) *ℤ U +ℤ (n *ℤ A) *ℤ U) +ℤ ((n *ℤ A) *ℤ U +ℤ (n *ℤ A) *ℤ U)) +ℤ square (n *ℤ A) = simp ring (omega (arith, linear)) in
      let f : square ((W +ℤ W) -ℤ (n *ℤ k +ℤ n *ℤ k)) ≡ ((W *ℤ W +ℤ W *ℤ W) +ℤ (W *ℤ W +ℤ W *ℤ W)) -ℤ ((((n *ℤ W) *ℤ k +ℤ (n *ℤ W) *ℤ k) +ℤ ((n *ℤ W) *ℤ k +ℤ (n *ℤ W) *ℤ k)) +ℤ (((n *ℤ W) *ℤ k +ℤ (n *ℤ W) *ℤ k) +ℤ ((n *ℤ W) *ℤ k +ℤ (n *ℤ W) *ℤ k))) +ℤ square (n *ℤ k +ℤ n *ℤ k) = simp ring (omega (arith, linear)) in
      omega (arith, linear, e, f, circle)

  module _ (h : ℤ) (hh : pos 0 ≤ℤ h) (same : square h ≡ square k) where
    n0 : pos 0 ≤ℤ n
    n0 = omega (arith, linear, hn)

    bound : square ((U +ℤ U) -ℤ n *ℤ A) ≤ℤ square (n *ℤ (A +ℤ (h +ℤ h)))
    bound =
        let e : square (n *ℤ (A +ℤ (h +ℤ h))) ≡ square (n *ℤ A) +ℤ (square n *ℤ (square h +ℤ square h +ℤ square h +ℤ square h) +ℤ square n *ℤ (A *ℤ h +ℤ A *ℤ h +ℤ A *ℤ h +ℤ A *ℤ h)) = simp ring (omega (arith, linear)) in
        let f : square (n *ℤ k +ℤ n *ℤ k) ≡ square n *ℤ (square h +ℤ square h +ℤ square h +ℤ square h) = rw same (simp ring (omega (arith, linear))) in
        let Ah = times_from_zero A h hA hh in
        let g : pos 0 ≤ℤ (square n *ℤ (A *ℤ h +ℤ A *ℤ h +ℤ A *ℤ h +ℤ A *ℤ h)) = times_from_zero (square n) (A *ℤ h +ℤ A *ℤ h +ℤ A *ℤ h +ℤ A *ℤ h) (square_from_zero n) (omega (arith, linear, Ah)) in
        omega (arith, linear, e, f, g, squares, square_from_zero ((W +ℤ W) -ℤ (n *ℤ k +ℤ n *ℤ k)))

    from : pos 0 ≤ℤ (n *ℤ (A +ℤ (h +ℤ h)))
    from = times_from_zero n (A +ℤ (h +ℤ h)) n0 (omega (arith, linear, hA, hh))

    spread_out : n *ℤ (A +ℤ (h +ℤ h)) ≡ n *ℤ A +ℤ (n *ℤ h +ℤ n *ℤ h)
    spread_out = simp ring (omega (arith, linear))

    pub not_past : U ≤ℤ (n *ℤ A +ℤ n *ℤ h)
    not_past = omega (arith, linear, spread_out, square_cancel ((U +ℤ U) -ℤ n *ℤ A) (n *ℤ (A +ℤ (h +ℤ h))) from bound)

    pub not_before : neg_ℤ (n *ℤ h) ≤ℤ U
    not_before =
        let t : square (neg_ℤ ((U +ℤ U) -ℤ n *ℤ A)) ≡ square ((U +ℤ U) -ℤ n *ℤ A) = simp ring (omega (arith, linear)) in
        omega (arith, linear, spread_out, square_cancel (neg_ℤ ((U +ℤ U) -ℤ n *ℤ A)) (n *ℤ (A +ℤ (h +ℤ h))) from (omega (arith, linear, t, bound)))

cancel : (m a b : ℤ) → pos 1 ≤ℤ m → m *ℤ a ≡ m *ℤ b → a ≡ b
cancel m a b some h = let f = times_cancel m a b some (omega (arith, linear, h)) in let g = times_cancel m b a some (omega (arith, linear, h)) in omega (arith, linear, f, g)

times_none : (z w : ℤ) → z ≡ pos 0 → z *ℤ w ≡ pos 0
times_none z w h = rw h (zero-times w)

-- ---- the moved centre, q from the given one, m times

reach_split : (n rx ry sx sy : ℤ) → square (rx +ℤ n *ℤ sx) +ℤ square (ry +ℤ n *ℤ sy) ≡ (norm rx ry +ℤ (n *ℤ (rx *ℤ sx +ℤ ry *ℤ sy) +ℤ n *ℤ (rx *ℤ sx +ℤ ry *ℤ sy))) +ℤ square n *ℤ norm sx sy
reach_split n rx ry sx sy = simp ring (omega (arith, linear))

module _ (m n qx qy sx sy dx dy rx ry : ℤ) (hm : pos 1 ≤ℤ m) (hn : pos 1 ≤ℤ n) (along : qx *ℤ dy ≡ qy *ℤ dx)
    (even : norm (qx -ℤ m *ℤ sx) (qy -ℤ m *ℤ sy) ≡ norm ((qx -ℤ m *ℤ sx) -ℤ m *ℤ dx) ((qy -ℤ m *ℤ sy) -ℤ m *ℤ dy))
    (as_far : norm (m *ℤ rx -ℤ n *ℤ (qx -ℤ m *ℤ sx)) (m *ℤ ry -ℤ n *ℤ (qy -ℤ m *ℤ sy)) ≡ square n *ℤ norm (qx -ℤ m *ℤ sx) (qy -ℤ m *ℤ sy)) where
  abbrev pub A : ℤ
  A = norm dx dy

  abbrev pub P : ℤ
  P = dx *ℤ sx +ℤ dy *ℤ sy

  abbrev pub X : ℤ
  X = rx *ℤ sx +ℤ ry *ℤ sy

  abbrev pub U : ℤ
  U = rx *ℤ dx +ℤ ry *ℤ dy

  abbrev pub T : ℤ
  T = qx *ℤ dx +ℤ qy *ℤ dy

  -- twice what the centre moves along d
  moves : T +ℤ T ≡ m *ℤ (A +ℤ (P +ℤ P))
  moves =
      let e : norm ((qx -ℤ m *ℤ sx) -ℤ m *ℤ dx) ((qy -ℤ m *ℤ sy) -ℤ m *ℤ dy) ≡ norm (qx -ℤ m *ℤ sx) (qy -ℤ m *ℤ sy) -ℤ (m *ℤ ((qx -ℤ m *ℤ sx) *ℤ dx +ℤ (qy -ℤ m *ℤ sy) *ℤ dy) +ℤ m *ℤ ((qx -ℤ m *ℤ sx) *ℤ dx +ℤ (qy -ℤ m *ℤ sy) *ℤ dy)) +ℤ m *ℤ (m *ℤ norm dx dy) = moved_norm m (qx -ℤ m *ℤ sx) (qy -ℤ m *ℤ sy) dx dy in
      let f : (qx -ℤ m *ℤ sx) *ℤ dx +ℤ (qy -ℤ m *ℤ sy) *ℤ dy ≡ (qx *ℤ dx +ℤ qy *ℤ dy) -ℤ m *ℤ (dx *ℤ sx +ℤ dy *ℤ sy) = simp ring (omega (arith, linear)) in
      let u : ℤ = (qx -ℤ m *ℤ sx) *ℤ dx +ℤ (qy -ℤ m *ℤ sy) *ℤ dy in
      let g : m *ℤ (u +ℤ u) ≡ m *ℤ (m *ℤ norm dx dy) = grouped ((qx -ℤ m *ℤ sx) *ℤ dx +ℤ (qy -ℤ m *ℤ sy) *ℤ dy) (omega (arith, linear, e, even)) in
      let h : u +ℤ u ≡ m *ℤ norm dx dy = cancel m (u +ℤ u) (m *ℤ norm dx dy) hm g in
      final ((qx -ℤ m *ℤ sx) *ℤ dx +ℤ (qy -ℤ m *ℤ sy) *ℤ dy) T P A f h
    where
      final : (u t p a : ℤ) → u ≡ t -ℤ m *ℤ p → u +ℤ u ≡ m *ℤ a → t +ℤ t ≡ m *ℤ (a +ℤ (p +ℤ p))
      final u t p a f h = let o : m *ℤ (a +ℤ (p +ℤ p)) ≡ m *ℤ a +ℤ (m *ℤ p +ℤ m *ℤ p) = simp ring (omega (arith, linear)) in omega (arith, linear, f, h, o)

      moved_norm : (m bx by dx dy : ℤ) → norm (bx -ℤ m *ℤ dx) (by -ℤ m *ℤ dy) ≡ norm bx by -ℤ (m *ℤ (bx *ℤ dx +ℤ by *ℤ dy) +ℤ m *ℤ (bx *ℤ dx +ℤ by *ℤ dy)) +ℤ m *ℤ (m *ℤ norm dx dy)
      moved_norm m bx by dx dy = simp ring (omega (arith, linear))

      grouped : (u : ℤ) → m *ℤ u +ℤ m *ℤ u ≡ m *ℤ (m *ℤ norm dx dy) → m *ℤ (u +ℤ u) ≡ m *ℤ (m *ℤ norm dx dy)
      grouped u h = let e : m *ℤ (u +ℤ u) ≡ m *ℤ u +ℤ m *ℤ u = simp ring (omega (arith, linear)) in omega (arith, linear, e, h)

  -- so the place is on the circle
  on : A *ℤ (norm rx ry +ℤ (n *ℤ X +ℤ n *ℤ X)) ≡ n *ℤ ((A +ℤ (P +ℤ P)) *ℤ U)
  on =
      let first : m *ℤ norm rx ry ≡ (n *ℤ (rx *ℤ (qx -ℤ m *ℤ sx) +ℤ ry *ℤ (qy -ℤ m *ℤ sy))) +ℤ (n *ℤ (rx *ℤ (qx -ℤ m *ℤ sx) +ℤ ry *ℤ (qy -ℤ m *ℤ sy))) = chords (qx -ℤ m *ℤ sx) (qy -ℤ m *ℤ sy) as_far in
      let second : rx *ℤ (qx -ℤ m *ℤ sx) +ℤ ry *ℤ (qy -ℤ m *ℤ sy) ≡ (rx *ℤ qx +ℤ ry *ℤ qy) -ℤ m *ℤ (rx *ℤ sx +ℤ ry *ℤ sy) = simp ring (omega (arith, linear)) in
      final A (norm rx ry) X (rx *ℤ qx +ℤ ry *ℤ qy) T U P (rx *ℤ (qx -ℤ m *ℤ sx) +ℤ ry *ℤ (qy -ℤ m *ℤ sy)) first second (turned qx qy dx dy rx ry along) moves
    where
      chords : (bx by : ℤ) → norm (m *ℤ rx -ℤ n *ℤ bx) (m *ℤ ry -ℤ n *ℤ by) ≡ square n *ℤ norm bx by → m *ℤ norm rx ry ≡ (n *ℤ (rx *ℤ bx +ℤ ry *ℤ by)) +ℤ (n *ℤ (rx *ℤ bx +ℤ ry *ℤ by))
      chords bx by h =
          let e : norm (m *ℤ rx -ℤ n *ℤ bx) (m *ℤ ry -ℤ n *ℤ by) ≡ m *ℤ (m *ℤ norm rx ry) -ℤ m *ℤ ((n *ℤ (rx *ℤ bx +ℤ ry *ℤ by)) +ℤ (n *ℤ (rx *ℤ bx +ℤ ry *ℤ by))) +ℤ square n *ℤ norm bx by = simp ring (omega (arith, linear)) in
          cancel m (m *ℤ norm rx ry) ((n *ℤ (rx *ℤ bx +ℤ ry *ℤ by)) +ℤ (n *ℤ (rx *ℤ bx +ℤ ry *ℤ by))) hm (omega (arith, linear, e, h))

      turned : (qx qy dx dy rx ry : ℤ) → qx *ℤ dy ≡ qy *ℤ dx → norm dx dy *ℤ (rx *ℤ qx +ℤ ry *ℤ qy) ≡ (qx *ℤ dx +ℤ qy *ℤ dy) *ℤ (rx *ℤ dx +ℤ ry *ℤ dy)
      turned qx qy dx dy rx ry h =
          let e : norm dx dy *ℤ (rx *ℤ qx +ℤ ry *ℤ qy) ≡ (qx *ℤ dx +ℤ qy *ℤ dy) *ℤ (rx *ℤ dx +ℤ ry *ℤ dy) +ℤ (qx *ℤ dy -ℤ qy *ℤ dx) *ℤ (rx *ℤ dy -ℤ ry *ℤ dx) = simp ring (omega (arith, linear)) in
          let z : qx *ℤ dy -ℤ qy *ℤ dx ≡ pos 0 = omega (arith, linear, h) in
          omega (arith, linear, e, times_none (qx *ℤ dy -ℤ qy *ℤ dx) (rx *ℤ dy -ℤ ry *ℤ dx) z)

      final : (a r x q t u p b : ℤ) → m *ℤ r ≡ n *ℤ b +ℤ n *ℤ b → b ≡ q -ℤ m *ℤ x → a *ℤ q ≡ t *ℤ u → t +ℤ t ≡ m *ℤ (a +ℤ (p +ℤ p)) → a *ℤ (r +ℤ (n *ℤ x +ℤ n *ℤ x)) ≡ n *ℤ ((a +ℤ (p +ℤ p)) *ℤ u)
      final a r x q t u p b one two three four = cancel m (a *ℤ (r +ℤ (n *ℤ x +ℤ n *ℤ x))) (n *ℤ ((a +ℤ (p +ℤ p)) *ℤ u)) hm (
          let e : m *ℤ (a *ℤ (r +ℤ (n *ℤ x +ℤ n *ℤ x))) ≡ a *ℤ (m *ℤ r) +ℤ (n *ℤ (a *ℤ (m *ℤ x)) +ℤ n *ℤ (a *ℤ (m *ℤ x))) = simp ring (omega (arith, linear)) in
          let f : a *ℤ (m *ℤ r) ≡ (n *ℤ (a *ℤ q) +ℤ n *ℤ (a *ℤ q)) -ℤ (n *ℤ (a *ℤ (m *ℤ x)) +ℤ n *ℤ (a *ℤ (m *ℤ x))) = rw (one, two) (simp ring (omega (arith, linear))) in
          let g : n *ℤ (a *ℤ q) +ℤ n *ℤ (a *ℤ q) ≡ n *ℤ ((t +ℤ t) *ℤ u) = rw three (simp ring (omega (arith, linear))) in
          let h : n *ℤ ((t +ℤ t) *ℤ u) ≡ m *ℤ (n *ℤ ((a +ℤ (p +ℤ p)) *ℤ u)) = rw four (simp ring) in
          omega (arith, linear, e, f, g, h))

  -- h is the length of k
  module _ (k h : ℤ) (hh : pos 0 ≤ℤ h) (same : square h ≡ square k) (k_is : k ≡ sx *ℤ (sy +ℤ dy) -ℤ sy *ℤ (sx +ℤ dx)) where
    lengths : U *ℤ U +ℤ (dx *ℤ ry -ℤ dy *ℤ rx) *ℤ (dx *ℤ ry -ℤ dy *ℤ rx) ≡ A *ℤ norm rx ry
    lengths = plain dx dy rx ry
      where
        plain : (dx dy rx ry : ℤ) → (rx *ℤ dx +ℤ ry *ℤ dy) *ℤ (rx *ℤ dx +ℤ ry *ℤ dy) +ℤ (dx *ℤ ry -ℤ dy *ℤ rx) *ℤ (dx *ℤ ry -ℤ dy *ℤ rx) ≡ norm dx dy *ℤ norm rx ry
        plain dx dy rx ry = simp ring (omega (arith, linear))

    parts : A *ℤ X ≡ U *ℤ P -ℤ (dx *ℤ ry -ℤ dy *ℤ rx) *ℤ k
    parts = rw k_is (plain dx dy rx ry sx sy)
      where
        plain : (dx dy rx ry sx sy : ℤ) → norm dx dy *ℤ (rx *ℤ sx +ℤ ry *ℤ sy) ≡ (rx *ℤ dx +ℤ ry *ℤ dy) *ℤ (dx *ℤ sx +ℤ dy *ℤ sy) -ℤ (dx *ℤ ry -ℤ dy *ℤ rx) *ℤ (sx *ℤ (sy +ℤ dy) -ℤ sy *ℤ (sx +ℤ dx))
        plain dx dy rx ry sx sy = simp ring (omega (arith, linear))

    A0 : pos 0 ≤ℤ A
    A0 = norm_from_zero dx dy

    past : U ≤ℤ (n *ℤ A +ℤ n *ℤ h)
    past = not_past n A k U (dx *ℤ ry -ℤ dy *ℤ rx) (norm rx ry) X P hn A0 lengths parts on h hh same

    before : neg_ℤ (n *ℤ h) ≤ℤ U
    before = not_before n A k U (dx *ℤ ry -ℤ dy *ℤ rx) (norm rx ry) X P hn A0 lengths parts on h hh same

    -- how far its square is from that of the start, A times
    pub reach_is : A *ℤ (norm (rx +ℤ n *ℤ sx) (ry +ℤ n *ℤ sy) -ℤ square n *ℤ norm sx sy) ≡ n *ℤ ((norm (sx +ℤ dx) (sy +ℤ dy) -ℤ norm sx sy) *ℤ U)
    reach_is =
        let e : norm (rx +ℤ n *ℤ sx) (ry +ℤ n *ℤ sy) -ℤ square n *ℤ norm sx sy ≡ norm rx ry +ℤ (n *ℤ X +ℤ n *ℤ X) = omega (arith, linear, reach_split n rx ry sx sy) in
        let f : norm (sx +ℤ dx) (sy +ℤ dy) -ℤ norm sx sy ≡ A +ℤ (P +ℤ P) = plain sx sy dx dy in
        rw (e, f) on
      where
        plain : (sx sy dx dy : ℤ) → norm (sx +ℤ dx) (sy +ℤ dy) -ℤ norm sx sy ≡ norm dx dy +ℤ ((dx *ℤ sx +ℤ dy *ℤ sy) +ℤ (dx *ℤ sx +ℤ dy *ℤ sy))
        plain sx sy dx dy = simp ring (omega (arith, linear))

    pub circled : (U *ℤ U +ℤ (dx *ℤ ry -ℤ dy *ℤ rx) *ℤ (dx *ℤ ry -ℤ dy *ℤ rx)) -ℤ ((n *ℤ (dx *ℤ ry -ℤ dy *ℤ rx)) *ℤ k +ℤ (n *ℤ (dx *ℤ ry -ℤ dy *ℤ rx)) *ℤ k) ≡ (n *ℤ A) *ℤ U
    circled = circle n A k U (dx *ℤ ry -ℤ dy *ℤ rx) (norm rx ry) X P hn A0 lengths parts on

    pub around : ((A *ℤ (norm (rx +ℤ n *ℤ sx) (ry +ℤ n *ℤ sy) -ℤ square n *ℤ norm sx sy) ≡ n *ℤ ((norm (sx +ℤ dx) (sy +ℤ dy) -ℤ norm sx sy) *ℤ U)) × (U ≤ℤ (n *ℤ A +ℤ n *ℤ h)) × (neg_ℤ (n *ℤ h) ≤ℤ U))
    around = (reach_is, past, before)

-- ---- between the distances

-- V is the square of a length, n times; its part along the way is from -h to A + h
module _ (n A h V S E U t : ℤ) (hn : pos 1 ≤ℤ n) (hA : pos 1 ≤ℤ A) (over : h ≤ℤ (A *ℤ t)) (is : A *ℤ (V -ℤ square n *ℤ S) ≡ n *ℤ ((E -ℤ S) *ℤ U)) (past : U ≤ℤ (n *ℤ A +ℤ n *ℤ h)) (before : neg_ℤ (n *ℤ h) ≤ℤ U) where
  -- where D, which is from 0, is the greater less the lesser
  within : (D F L W : ℤ) → pos 0 ≤ℤ D → F ≡ L +ℤ D → A *ℤ (V -ℤ square n *ℤ L) ≡ n *ℤ (D *ℤ W) → W ≤ℤ (n *ℤ A +ℤ n *ℤ h) → neg_ℤ (n *ℤ h) ≤ℤ W → ((square n *ℤ (L -ℤ D *ℤ t)) ≤ℤ V) × (V ≤ℤ (square n *ℤ (F +ℤ D *ℤ t)))
  within D F L W hD greatest seen most least =
      let nD : pos 0 ≤ℤ (n *ℤ D) = times_from_zero n D (omega (arith, linear, hn)) hD in
      let nnD : pos 0 ≤ℤ (square n *ℤ D) = times_from_zero (square n) D (square_from_zero n) hD in
      let a : ((n *ℤ D) *ℤ W) ≤ℤ ((n *ℤ D) *ℤ (n *ℤ A +ℤ n *ℤ h)) = times_mono (n *ℤ D) W (n *ℤ A +ℤ n *ℤ h) nD most in
      let b : ((n *ℤ D) *ℤ neg_ℤ (n *ℤ h)) ≤ℤ ((n *ℤ D) *ℤ W) = times_mono (n *ℤ D) (neg_ℤ (n *ℤ h)) W nD least in
      let c : ((square n *ℤ D) *ℤ h) ≤ℤ ((square n *ℤ D) *ℤ (A *ℤ t)) = times_mono (square n *ℤ D) h (A *ℤ t) nnD over in
      let d : n *ℤ (D *ℤ W) ≡ (n *ℤ D) *ℤ W = simp ring in
      let e : (n *ℤ D) *ℤ (n *ℤ A +ℤ n *ℤ h) ≡ A *ℤ (square n *ℤ D) +ℤ (square n *ℤ D) *ℤ h = simp ring (omega (arith, linear)) in
      let f : (n *ℤ D) *ℤ neg_ℤ (n *ℤ h) ≡ neg_ℤ ((square n *ℤ D) *ℤ h) = simp ring (omega (arith, linear)) in
      let g : A *ℤ (V -ℤ square n *ℤ L) ≡ A *ℤ V -ℤ A *ℤ (square n *ℤ L) = simp ring (omega (arith, linear)) in
      let i : A *ℤ (square n *ℤ (L -ℤ D *ℤ t)) ≡ A *ℤ (square n *ℤ L) -ℤ (square n *ℤ D) *ℤ (A *ℤ t) = simp ring (omega (arith, linear)) in
      let j : A *ℤ (square n *ℤ ((L +ℤ D) +ℤ D *ℤ t)) ≡ (A *ℤ (square n *ℤ L) +ℤ A *ℤ (square n *ℤ D)) +ℤ (square n *ℤ D) *ℤ (A *ℤ t) = simp ring (omega (arith, linear)) in
      (times_cancel A (square n *ℤ (L -ℤ D *ℤ t)) V hA (omega (arith, linear, seen, b, c, d, f, g, i)), rw greatest (times_cancel A V (square n *ℤ ((L +ℤ D) +ℤ D *ℤ t)) hA (omega (arith, linear, seen, a, c, d, e, g, j))))

  pub held : ((square n *ℤ (int_min S E -ℤ (int_max S E -ℤ int_min S E) *ℤ t)) ≤ℤ V) × (V ≤ℤ (square n *ℤ (int_max S E +ℤ (int_max S E -ℤ int_min S E) *ℤ t)))
  held = elim (le_or_lt S E) [
    | inl l ↦ rw (lesser_first S E l, greater_first S E l) (within (E -ℤ S) E S U (omega (arith, linear, l)) (omega (arith, linear)) is past before)
    | inr l ↦ rw (lesser_last S E l, greater_last S E l) (within (S -ℤ E) S E (n *ℤ A -ℤ U) (omega (arith, linear, l)) (omega (arith, linear)) (turned l) (omega (arith, linear, before)) (omega (arith, linear, past)))
  ]
    where
      lesser_first : (s e : ℤ) → s ≤ℤ e → int_min s e ≡ s
      lesser_first s e l = omega (arith, ints, clamps, l)

      greater_first : (s e : ℤ) → s ≤ℤ e → int_max s e ≡ e
      greater_first s e l = omega (arith, ints, clamps, l)

      lesser_last : (s e : ℤ) → e <ℤ s → int_min s e ≡ e
      lesser_last s e l = omega (arith, ints, clamps, l)

      greater_last : (s e : ℤ) → e <ℤ s → int_max s e ≡ s
      greater_last s e l = omega (arith, ints, clamps, l)

      turned : E <ℤ S → A *ℤ (V -ℤ square n *ℤ E) ≡ n *ℤ ((S -ℤ E) *ℤ (n *ℤ A -ℤ U))
      turned l =
          let e : A *ℤ (V -ℤ square n *ℤ E) ≡ A *ℤ (V -ℤ square n *ℤ S) +ℤ (A *ℤ (square n *ℤ S) -ℤ A *ℤ (square n *ℤ E)) = simp ring (omega (arith, linear)) in
          let f : n *ℤ ((S -ℤ E) *ℤ (n *ℤ A -ℤ U)) ≡ n *ℤ ((E -ℤ S) *ℤ U) +ℤ (A *ℤ (square n *ℤ S) -ℤ A *ℤ (square n *ℤ E)) = simp ring (omega (arith, linear)) in
          omega (arith, linear, e, f, is)

-- ---- the law

clamped : (n L V : ℤ) → pos 0 ≤ℤ V → (square n *ℤ L) ≤ℤ V → (square n *ℤ int_max L (pos 0)) ≤ℤ V
clamped n L V hV h = elim (le_or_lt (pos 0) L) [ inl l ↦ rw (stays L l) h | inr l ↦ rw (none L l) (omega (arith, linear, hV, times-zero (square n))) ]
  where
    stays : (L : ℤ) → pos 0 ≤ℤ L → int_max L (pos 0) ≡ L
    stays L l = omega (arith, ints, clamps, l)

    none : (L : ℤ) → L <ℤ pos 0 → int_max L (pos 0) ≡ pos 0
    none L l = omega (arith, ints, clamps, l)

from_start : (x m c s : ℤ) → (x -ℤ m *ℤ c) -ℤ m *ℤ (s -ℤ c) ≡ x -ℤ m *ℤ s
from_start x m c s = simp ring (omega (arith, linear))

from_end : (x m c s e : ℤ) → ((x -ℤ m *ℤ c) -ℤ m *ℤ (s -ℤ c)) -ℤ m *ℤ (e -ℤ s) ≡ x -ℤ m *ℤ e
from_end x m c s e = simp ring (omega (arith, linear))

from_moved : (x u m n c s : ℤ) → m *ℤ (x -ℤ n *ℤ s) -ℤ n *ℤ ((u -ℤ m *ℤ c) -ℤ m *ℤ (s -ℤ c)) ≡ m *ℤ x -ℤ n *ℤ u
from_moved x u m n c s = simp ring (omega (arith, linear))

from_centre : (x n c s : ℤ) → (x -ℤ n *ℤ s) +ℤ n *ℤ (s -ℤ c) ≡ x -ℤ n *ℤ c
from_centre x n c s = simp ring (omega (arith, linear))

to_end : (c s e : ℤ) → (s -ℤ c) +ℤ (e -ℤ s) ≡ e -ℤ c
to_end c s e = omega (arith, linear)

-- the quotient, rounded down, and one more
quotient : (b q r k : ℕ) → b * q + r ≡ k → r < b → pos k ≤ℤ (pos b *ℤ pos (q + 1))
quotient b q r k e l =
    let one : pos (q + 1) ≡ pos q +ℤ pos 1 = omega (arith, ints) in
    let d : pos b *ℤ (pos q +ℤ pos 1) ≡ pos b *ℤ pos q +ℤ pos b = simp ring (omega (arith, linear)) in
    let p : pos (b * q) ≡ pos b *ℤ pos q = omega (arith, ints) in
    let s : pos k ≡ pos (b * q) +ℤ pos r = omega (arith, ints, e) in
    let m : pos r <ℤ pos b = omega (arith, ints, l) in
    let c : pos b *ℤ pos (q + 1) ≡ pos b *ℤ (pos q +ℤ pos 1) = ap (λ (z : ℤ). pos b *ℤ z) one in
    omega (arith, linear, c, d, p, s, m)

length_of : (z : ℤ) → square (pos (unsigned_abs z)) ≡ square z
length_of (pos n) = refl
length_of (negsuc n) = refl

-- what the sides of a place, x and y from the centre and rx and ry from the start, and the ends have to do with its parts along and across the way d
seen_from : (n sx sy ex ey x y rx ry dx dy : ℤ) → x ≡ rx +ℤ n *ℤ sx → y ≡ ry +ℤ n *ℤ sy → ex ≡ sx +ℤ dx → ey ≡ sy +ℤ dy →
    (n *ℤ (sx *ℤ ey -ℤ sy *ℤ ex) ≡ (neg_ℤ (ex *ℤ y -ℤ ey *ℤ x) +ℤ (sx *ℤ y -ℤ sy *ℤ x)) +ℤ (dx *ℤ ry -ℤ dy *ℤ rx)) ×
    ((sx *ℤ ey -ℤ sy *ℤ ex) *ℤ (rx *ℤ dx +ℤ ry *ℤ dy) ≡ (dx *ℤ dx +ℤ dy *ℤ dy) *ℤ (sx *ℤ y -ℤ sy *ℤ x) -ℤ (dx *ℤ ry -ℤ dy *ℤ rx) *ℤ (dx *ℤ sx +ℤ dy *ℤ sy)) ×
    ((ex *ℤ ex +ℤ ey *ℤ ey) -ℤ (sx *ℤ sx +ℤ sy *ℤ sy) ≡ (dx *ℤ dx +ℤ dy *ℤ dy) +ℤ ((dx *ℤ sx +ℤ dy *ℤ sy) +ℤ (dx *ℤ sx +ℤ dy *ℤ sy)))
seen_from n sx sy ex ey x y rx ry dx dy hx hy hex hey = rw (hx, hy, hex, hey) (sides n sx sy rx ry dx dy, parts n sx sy rx ry dx dy, ends sx sy dx dy)
  where
    sides : (n sx sy rx ry dx dy : ℤ) → n *ℤ (sx *ℤ (sy +ℤ dy) -ℤ sy *ℤ (sx +ℤ dx)) ≡ (neg_ℤ ((sx +ℤ dx) *ℤ (ry +ℤ n *ℤ sy) -ℤ (sy +ℤ dy) *ℤ (rx +ℤ n *ℤ sx)) +ℤ (sx *ℤ (ry +ℤ n *ℤ sy) -ℤ sy *ℤ (rx +ℤ n *ℤ sx))) +ℤ (dx *ℤ ry -ℤ dy *ℤ rx)
    sides n sx sy rx ry dx dy = simp ring (omega (arith, linear))

    parts : (n sx sy rx ry dx dy : ℤ) → (sx *ℤ (sy +ℤ dy) -ℤ sy *ℤ (sx +ℤ dx)) *ℤ (rx *ℤ dx +ℤ ry *ℤ dy) ≡ (dx *ℤ dx +ℤ dy *ℤ dy) *ℤ (sx *ℤ (ry +ℤ n *ℤ sy) -ℤ sy *ℤ (rx +ℤ n *ℤ sx)) -ℤ (dx *ℤ ry -ℤ dy *ℤ rx) *ℤ (dx *ℤ sx +ℤ dy *ℤ sy)
    parts n sx sy rx ry dx dy = simp ring (omega (arith, linear))

    ends : (sx sy dx dy : ℤ) → ((sx +ℤ dx) *ℤ (sx +ℤ dx) +ℤ (sy +ℤ dy) *ℤ (sy +ℤ dy)) -ℤ (sx *ℤ sx +ℤ sy *ℤ sy) ≡ (dx *ℤ dx +ℤ dy *ℤ dy) +ℤ ((dx *ℤ sx +ℤ dy *ℤ sy) +ℤ (dx *ℤ sx +ℤ dy *ℤ sy))
    ends sx sy dx dy = simp ring (omega (arith, linear))

module _ (a : Arc) (q p : Point) (centre : IsMovedCentre a q) (as_far : IsAsFar a q p) where
  even : norm ((q.x -ℤ q.n *ℤ a.centre.x) -ℤ q.n *ℤ (a.start.x -ℤ a.centre.x)) ((q.y -ℤ q.n *ℤ a.centre.y) -ℤ q.n *ℤ (a.start.y -ℤ a.centre.y)) ≡ norm (((q.x -ℤ q.n *ℤ a.centre.x) -ℤ q.n *ℤ (a.start.x -ℤ a.centre.x)) -ℤ q.n *ℤ (a.end.x -ℤ a.start.x)) (((q.y -ℤ q.n *ℤ a.centre.y) -ℤ q.n *ℤ (a.start.y -ℤ a.centre.y)) -ℤ q.n *ℤ (a.end.y -ℤ a.start.y))
  even = rw (from_end q.x q.n a.centre.x a.start.x a.end.x, from_end q.y q.n a.centre.y a.start.y a.end.y, from_start q.x q.n a.centre.x a.start.x, from_start q.y q.n a.centre.y a.start.y) centre.even

  far : norm (q.n *ℤ (p.x -ℤ p.n *ℤ a.start.x) -ℤ p.n *ℤ ((q.x -ℤ q.n *ℤ a.centre.x) -ℤ q.n *ℤ (a.start.x -ℤ a.centre.x))) (q.n *ℤ (p.y -ℤ p.n *ℤ a.start.y) -ℤ p.n *ℤ ((q.y -ℤ q.n *ℤ a.centre.y) -ℤ q.n *ℤ (a.start.y -ℤ a.centre.y)))
      ≡ square p.n *ℤ norm ((q.x -ℤ q.n *ℤ a.centre.x) -ℤ q.n *ℤ (a.start.x -ℤ a.centre.x)) ((q.y -ℤ q.n *ℤ a.centre.y) -ℤ q.n *ℤ (a.start.y -ℤ a.centre.y))
  far = rw (from_moved p.x q.x q.n p.n a.centre.x a.start.x, from_moved p.y q.y q.n p.n a.centre.y a.start.y, from_start q.x q.n a.centre.x a.start.x, from_start q.y q.n a.centre.y a.start.y) as_far

  crossed : cross_of a.centre a.start a.end ≡ (a.start.x -ℤ a.centre.x) *ℤ ((a.start.y -ℤ a.centre.y) +ℤ (a.end.y -ℤ a.start.y)) -ℤ (a.start.y -ℤ a.centre.y) *ℤ ((a.start.x -ℤ a.centre.x) +ℤ (a.end.x -ℤ a.start.x))
  crossed = rw (to_end a.centre.x a.start.x a.end.x, to_end a.centre.y a.start.y a.end.y) refl

  -- the place's parts along the way from end to end, and across it
  abbrev along : ℤ
  along = (p.x -ℤ p.n *ℤ a.start.x) *ℤ (a.end.x -ℤ a.start.x) +ℤ (p.y -ℤ p.n *ℤ a.start.y) *ℤ (a.end.y -ℤ a.start.y)

  abbrev across : ℤ
  across = (a.end.x -ℤ a.start.x) *ℤ (p.y -ℤ p.n *ℤ a.start.y) -ℤ (a.end.y -ℤ a.start.y) *ℤ (p.x -ℤ p.n *ℤ a.start.x)

  reach_from : pos 0 ≤ℤ reach_of a.centre p
  reach_from = norm_from_zero (p.x -ℤ p.n *ℤ a.centre.x) (p.y -ℤ p.n *ℤ a.centre.y)

  is : apart a *ℤ (reach_of a.centre p -ℤ square p.n *ℤ dot_of a.centre a.start a.start) ≡ p.n *ℤ ((dot_of a.centre a.end a.end -ℤ dot_of a.centre a.start a.start) *ℤ along)
  is =
      let z = around q.n p.n (q.x -ℤ q.n *ℤ a.centre.x) (q.y -ℤ q.n *ℤ a.centre.y) (a.start.x -ℤ a.centre.x) (a.start.y -ℤ a.centre.y) (a.end.x -ℤ a.start.x) (a.end.y -ℤ a.start.y) (p.x -ℤ p.n *ℤ a.start.x) (p.y -ℤ p.n *ℤ a.start.y) q.positive p.positive centre.along even far
      (swing a) (pos (unsigned_abs (swing a))) (omega (arith, ints)) (length_of (swing a)) crossed in
      rw (from_centre p.x p.n a.centre.x a.start.x, from_centre p.y p.n a.centre.y a.start.y, to_end a.centre.x a.start.x a.end.x, to_end a.centre.y a.start.y a.end.y) at z.0

  by : (h t : ℤ) → pos 1 ≤ℤ apart a → spread a ≡ unlike a *ℤ t → h ≤ℤ (apart a *ℤ t) → along ≤ℤ (p.n *ℤ apart a +ℤ p.n *ℤ h) → neg_ℤ (p.n *ℤ h) ≤ℤ along → ((square p.n *ℤ inmost a) ≤ℤ reach_of a.centre p) × (reach_of a.centre p ≤ℤ (square p.n *ℤ outmost a))
  by h t some wide over past before =
      let z = held p.n (apart a) h (reach_of a.centre p) (dot_of a.centre a.start a.start) (dot_of a.centre a.end a.end) along t p.positive some over is past before in
      (rw wide (clamped p.n (lesser a -ℤ unlike a *ℤ t) (reach_of a.centre p) reach_from z.0), rw wide z.1)

  over : swing a <ℤ pos 0 → pos (unsigned_abs (swing a)) ≤ℤ (apart a *ℤ pos (times a))
  over way = quotients (apart a) (unsigned_abs (swing a)) (apart_some a way)
    where
      quotients : (z : ℤ) (k : ℕ) → pos 1 ≤ℤ z → pos k ≤ℤ (z *ℤ pos (k / unsigned_abs z + 1))
      quotients (pos A) k some = quotient A (k / A) (k % A) k (div-add-mod k A) (mod_below k A (omega (arith, ints, some)))
      quotients (negsuc A) k some = absurd (omega (arith, ints, some))

  past_half : swing a <ℤ pos 0 → ((square p.n *ℤ inmost a) ≤ℤ reach_of a.centre p) × (reach_of a.centre p ≤ℤ (square p.n *ℤ outmost a))
  past_half way =
      let z = around q.n p.n (q.x -ℤ q.n *ℤ a.centre.x) (q.y -ℤ q.n *ℤ a.centre.y) (a.start.x -ℤ a.centre.x) (a.start.y -ℤ a.centre.y) (a.end.x -ℤ a.start.x) (a.end.y -ℤ a.start.y) (p.x -ℤ p.n *ℤ a.start.x) (p.y -ℤ p.n *ℤ a.start.y) q.positive p.positive centre.along even far
      (swing a) (pos (unsigned_abs (swing a))) (omega (arith, ints)) (length_of (swing a)) crossed in
      by (pos (unsigned_abs (swing a))) (pos (times a)) (apart_some a way) (spread_when a way) (over way) z.1 z.2

  -- ---- up to a half turn

  on_circle : (along *ℤ along +ℤ across *ℤ across) -ℤ ((p.n *ℤ across) *ℤ swing a +ℤ (p.n *ℤ across) *ℤ swing a) ≡ (p.n *ℤ apart a) *ℤ along
  on_circle = circled q.n p.n (q.x -ℤ q.n *ℤ a.centre.x) (q.y -ℤ q.n *ℤ a.centre.y) (a.start.x -ℤ a.centre.x) (a.start.y -ℤ a.centre.y) (a.end.x -ℤ a.start.x) (a.end.y -ℤ a.start.y) (p.x -ℤ p.n *ℤ a.start.x) (p.y -ℤ p.n *ℤ a.start.y) q.positive p.positive centre.along even far
      (swing a) (pos (unsigned_abs (swing a))) (omega (arith, ints)) (length_of (swing a)) crossed

  -- the given centre's part along the way
  abbrev back : ℤ
  back = (a.end.x -ℤ a.start.x) *ℤ (a.start.x -ℤ a.centre.x) +ℤ (a.end.y -ℤ a.start.y) *ℤ (a.start.y -ℤ a.centre.y)

  seen : (p.n *ℤ swing a ≡ (neg_ℤ (side_of a.centre a.end p) +ℤ side_of a.centre a.start p) +ℤ across) × (swing a *ℤ along ≡ apart a *ℤ side_of a.centre a.start p -ℤ across *ℤ back) × (dot_of a.centre a.end a.end -ℤ dot_of a.centre a.start a.start ≡ apart a +ℤ (back +ℤ back))
  seen = seen_from p.n (a.start.x -ℤ a.centre.x) (a.start.y -ℤ a.centre.y) (a.end.x -ℤ a.centre.x) (a.end.y -ℤ a.centre.y) (p.x -ℤ p.n *ℤ a.centre.x) (p.y -ℤ p.n *ℤ a.centre.y) (p.x -ℤ p.n *ℤ a.start.x) (p.y -ℤ p.n *ℤ a.start.y) (a.end.x -ℤ a.start.x) (a.end.y -ℤ a.start.y)
      (sym (from_centre p.x p.n a.centre.x a.start.x)) (sym (from_centre p.y p.n a.centre.y a.start.y)) (sym (to_end a.centre.x a.start.x a.end.x)) (sym (to_end a.centre.y a.start.y a.end.y))

  module _ (way : pos 0 ≤ℤ swing a) (some : pos 1 ≤ℤ apart a) where
    not_same : a.start ≡ a.end → ⊥
    not_same one = omega (arith, linear, some, none (subst (λ (z : Spot). apart a ≡ dot_of a.start z z) (sym one) refl))
      where
        none : apart a ≡ dot_of a.start a.start a.start → apart a ≡ pos 0
        none e = e ∙ plain a.start.x a.start.y
          where
            plain : (x y : ℤ) → (x -ℤ x) *ℤ (x -ℤ x) +ℤ (y -ℤ y) *ℤ (y -ℤ y) ≡ pos 0
            plain x y = let f : x -ℤ x ≡ pos 0 = omega (arith, linear) in let g : y -ℤ y ≡ pos 0 = omega (arith, linear) in rw (f, g) (omega (arith, ints))

    inside : pos 1 ≤ℤ swing a → IsMeant a → pos 1 ≤ℤ (swing a *ℤ swing a -ℤ back *ℤ (back +ℤ apart a))
    inside more (inl none) = absurd (omega (arith, linear, more, none))
    inside more (inr meant) = inside_by (apart a) back (swing a) (unlike a) some more (omega (arith, linear, seen.2, most (dot_of a.centre a.start a.start) (dot_of a.centre a.end a.end))) (omega (arith, linear, seen.2, least (dot_of a.centre a.start a.start) (dot_of a.centre a.end a.end))) (kind meant)
      where
        most : (s e : ℤ) → (e -ℤ s) ≤ℤ (int_max s e -ℤ int_min s e)
        most s e = omega (arith, ints, clamps)

        least : (s e : ℤ) → neg_ℤ (int_max s e -ℤ int_min s e) ≤ℤ (e -ℤ s)
        least s e = omega (arith, ints, clamps)

        itself : (k : ℤ) → pos 1 ≤ℤ k → pos (unsigned_abs k) ≡ k
        itself (pos k) h = refl
        itself (negsuc k) h = absurd (omega (arith, ints, h))

        kind : (unlike a ≤ℤ apart a) ⊎ (unlike a ≤ℤ (pos (unsigned_abs (swing a)) +ℤ pos (unsigned_abs (swing a)))) → (unlike a ≤ℤ apart a) ⊎ (unlike a ≤ℤ (swing a +ℤ swing a))
        kind (inl l) = inl l
        kind (inr l) = inr (omega (arith, linear, l, itself (swing a) more))

    beside : IsMeant a → InTurn a.centre a.start a.end p → (pos 0 ≤ℤ along) × (along ≤ℤ (p.n *ℤ apart a))
    beside meant (inl (more, left, right)) = turned p.n (apart a) (swing a) along across back (neg_ℤ (side_of a.centre a.end p)) (side_of a.centre a.start p) p.positive some on_circle seen.0 seen.1 (omega (arith, linear, right)) left (inside (omega (arith, linear, more)) meant) way
    beside meant (inr (inl (less, other))) = absurd (omega (arith, linear, less, way))
    beside meant (inr (inr (inl (none, opposite, other)))) = flat p.n (apart a) (swing a) along across back (pos 0) (pos 0) p.positive some on_circle none
    beside meant (inr (inr (inr one))) = absurd (not_same one)

    up_to_half : IsMeant a → InTurn a.centre a.start a.end p → ((square p.n *ℤ inmost a) ≤ℤ reach_of a.centre p) × (reach_of a.centre p ≤ℤ (square p.n *ℤ outmost a))
    up_to_half meant turn =
        let l = beside meant turn in
        by (pos 0) (pos 0) some (spread_none a way ∙ sym (times-zero (unlike a))) (omega (arith, linear, times-zero (apart a))) (omega (arith, linear, l.1, times-zero p.n)) (omega (arith, linear, l.0, times-zero p.n))

pub moved_circle_is_held : MovedCircleIsHeld
moved_circle_is_held a q p way centre as_far = past_half a q p centre as_far way

pub moved_turn_is_held : MovedTurnIsHeld
moved_turn_is_held a q p way some meant turn centre as_far = up_to_half a q p centre as_far way some meant turn
