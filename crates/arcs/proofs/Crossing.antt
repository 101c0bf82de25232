-- Where the way from a place of the arc's turn to a point outside leaves the turn.
use Rattle.std.proofs.Common.{◌≡◌, ◌⊎◌, inl, inr, ℤ, pos, neg_ℤ, ◌+ℤ◌, ◌-ℤ◌, ◌*ℤ◌, ◌≤ℤ◌, ◌<ℤ◌, arith}
use Rattle.planar.specs.Plane.{square}
use Rattle.planar.proofs.Ring.{ring, linear, mul_assoc, mul_comm, neg-mul, mul-neg, le_or_lt, times_from_zero, square_mono, times_mono, times_cancel, times-zero, zero-times}
use Rattle.arcs.proofs.Vectors.{norm, norm_from_zero, norm_some, sum_within, part_over, scaled, scaled_over, unscaled}
use Rattle.arcs.proofs.Along.{apart_along}

-- h q + f p is a place of the ray from 0 through s
pub record Crossed (px py qx qy sx sy : ℤ) : Type 0 where
  pub f : ℤ
  pub h : ℤ
  pub from : pos 0 ≤ℤ f
  pub some : pos 1 ≤ℤ h
  pub line : sx *ℤ (h *ℤ qy +ℤ f *ℤ py) -ℤ sy *ℤ (h *ℤ qx +ℤ f *ℤ px) ≡ pos 0
  pub same : pos 0 ≤ℤ (sx *ℤ (h *ℤ qx +ℤ f *ℤ px) +ℤ sy *ℤ (h *ℤ qy +ℤ f *ℤ py))

-- ---- p is at most N v from q, whose length is from N near to N far, and s is from least to most long: then p is at most N (v + k) from N s

module _ (N px py qx qy sx sy near far least most k v : ℤ) (some : pos 1 ≤ℤ N) (hv : pos 0 ≤ℤ v) (hk : pos 0 ≤ℤ k) (hl : pos 0 ≤ℤ least) (hm : pos 0 ≤ℤ most) (hf : pos 0 ≤ℤ far)
    (near_is : most ≤ℤ (near +ℤ k)) (far_is : far ≤ℤ (least +ℤ k)) (s_over : square least ≤ℤ norm sx sy) (s_within : norm sx sy ≤ℤ square most)
    (apart : norm (px -ℤ qx) (py -ℤ qy) ≤ℤ square (N *ℤ v)) (q_within : norm qx qy ≤ℤ square (N *ℤ far)) (q_over : square (N *ℤ near) ≤ℤ norm qx qy) (f h : ℤ) (from : pos 0 ≤ℤ f) (more : pos 1 ≤ℤ h) where
  abbrev pub g : ℤ
  g = f +ℤ h

  hN : pos 0 ≤ℤ N
  hN = omega (arith, linear, some)

  hg : pos 0 ≤ℤ g
  hg = omega (arith, linear, from, more)

  abbrev pub G : ℤ
  G = (f +ℤ h) *ℤ N

  hG : pos 0 ≤ℤ G
  hG = times_from_zero g N hg hN

  -- how far the crossing is from q at most, and from p
  abbrev pub t : ℤ
  t = (f +ℤ h) *ℤ N *ℤ k +ℤ f *ℤ (N *ℤ v)

  fv : pos 0 ≤ℤ (f *ℤ (N *ℤ v))
  fv = times_from_zero f (N *ℤ v) from (times_from_zero N v hN hv)

  Gk : pos 0 ≤ℤ (G *ℤ k)
  Gk = times_from_zero G k hG hk

  split : (f h q p : ℤ) → h *ℤ q +ℤ f *ℤ p ≡ (f +ℤ h) *ℤ q +ℤ f *ℤ (p -ℤ q)
  split f h q p = simp ring (omega (arith, linear))

  joined : (f h q p : ℤ) → (h *ℤ q +ℤ f *ℤ p) +ℤ neg_ℤ f *ℤ (p -ℤ q) ≡ (f +ℤ h) *ℤ q
  joined f h q p = simp ring (omega (arith, linear))

  sum : (g least k : ℤ) → g *ℤ (least +ℤ k) ≡ g *ℤ least +ℤ g *ℤ k
  sum g least k = simp ring (omega (arith, linear))

  abbrev pub zx : ℤ
  zx = h *ℤ qx +ℤ f *ℤ px

  abbrev pub zy : ℤ
  zy = h *ℤ qy +ℤ f *ℤ py

  z_within : norm zx zy ≤ℤ square (G *ℤ least +ℤ t)
  z_within =
      let one : norm ((f +ℤ h) *ℤ qx) ((f +ℤ h) *ℤ qy) ≤ℤ square (G *ℤ far) = rw (mul_assoc (f +ℤ h) N far) (scaled (f +ℤ h) qx qy (N *ℤ far) q_within) in
      let both : norm ((f +ℤ h) *ℤ qx +ℤ f *ℤ (px -ℤ qx)) ((f +ℤ h) *ℤ qy +ℤ f *ℤ (py -ℤ qy)) ≤ℤ square (G *ℤ far +ℤ f *ℤ (N *ℤ v)) =
      sum_within ((f +ℤ h) *ℤ qx) ((f +ℤ h) *ℤ qy) (f *ℤ (px -ℤ qx)) (f *ℤ (py -ℤ qy)) (G *ℤ far) (f *ℤ (N *ℤ v)) (times_from_zero G far hG hf) fv one (scaled f (px -ℤ qx) (py -ℤ qy) (N *ℤ v) apart) in
      let m : (G *ℤ far) ≤ℤ (G *ℤ (least +ℤ k)) = times_mono G far (least +ℤ k) hG far_is in
      let w : square (G *ℤ far +ℤ f *ℤ (N *ℤ v)) ≤ℤ square (G *ℤ least +ℤ t) = square_mono (G *ℤ far +ℤ f *ℤ (N *ℤ v)) (G *ℤ least +ℤ t) (omega (arith, linear, fv, times_from_zero G far hG hf)) (omega (arith, linear, m, sum G least k)) in
      let d : norm zx zy ≤ℤ square (G *ℤ far +ℤ f *ℤ (N *ℤ v)) = rw (split f h qx px, split f h qy py) both in
      omega (arith, linear, w, d)

  z_over : ((G *ℤ most) ≤ℤ t) ⊎ (square (G *ℤ most -ℤ t) ≤ℤ norm zx zy)
  z_over = elim (le_or_lt (G *ℤ most) t) [ inl l ↦ inl l | inr l ↦ inr (over l) ]
    where
      over : t <ℤ (G *ℤ most) → square (G *ℤ most -ℤ t) ≤ℤ norm zx zy
      over l =
          let one : square (G *ℤ near) ≤ℤ norm ((f +ℤ h) *ℤ qx) ((f +ℤ h) *ℤ qy) = rw (mul_assoc (f +ℤ h) N near) (scaled_over (f +ℤ h) qx qy (N *ℤ near) q_over) in
          let m : (G *ℤ most) ≤ℤ (G *ℤ (near +ℤ k)) = times_mono G most (near +ℤ k) hG near_is in
          let w : square ((G *ℤ most -ℤ t) +ℤ f *ℤ (N *ℤ v)) ≤ℤ square (G *ℤ near) = square_mono ((G *ℤ most -ℤ t) +ℤ f *ℤ (N *ℤ v)) (G *ℤ near) (omega (arith, linear, l, fv)) (omega (arith, linear, m, sum G near k)) in
          let e : square (neg_ℤ f *ℤ (N *ℤ v)) ≡ square (f *ℤ (N *ℤ v)) = simp ring (omega (arith, linear)) in
          let d : norm (neg_ℤ f *ℤ (px -ℤ qx)) (neg_ℤ f *ℤ (py -ℤ qy)) ≤ℤ square (f *ℤ (N *ℤ v)) = rw (← e) (scaled (neg_ℤ f) (px -ℤ qx) (py -ℤ qy) (N *ℤ v) apart) in
          part_over zx zy (neg_ℤ f *ℤ (px -ℤ qx)) (neg_ℤ f *ℤ (py -ℤ qy)) (G *ℤ most -ℤ t) (f *ℤ (N *ℤ v)) (omega (arith, linear, l)) fv d (rw (joined f h qx px, joined f h qy py) (omega (arith, linear, w, one)))

  pub near_end : sx *ℤ (h *ℤ qy +ℤ f *ℤ py) -ℤ sy *ℤ (h *ℤ qx +ℤ f *ℤ px) ≡ pos 0 → pos 0 ≤ℤ (sx *ℤ (h *ℤ qx +ℤ f *ℤ px) +ℤ sy *ℤ (h *ℤ qy +ℤ f *ℤ py)) → norm (px -ℤ N *ℤ sx) (py -ℤ N *ℤ sy) ≤ℤ square (N *ℤ (v +ℤ k))
  near_end line same =
      let l : (G *ℤ sx) *ℤ zy -ℤ (G *ℤ sy) *ℤ zx ≡ pos 0 = rw (scaled_line G sx sy zx zy, line) (times-zero G) in
      let s : pos 0 ≤ℤ ((G *ℤ sx) *ℤ zx +ℤ (G *ℤ sy) *ℤ zy) = rw (scaled_dot G sx sy zx zy) (times_from_zero G (sx *ℤ zx +ℤ sy *ℤ zy) hG same) in
      let on : norm (zx -ℤ G *ℤ sx) (zy -ℤ G *ℤ sy) ≤ℤ square t =
      apart_along zx zy (G *ℤ sx) (G *ℤ sy) (G *ℤ least) (G *ℤ most) t (times_from_zero G least hG hl) (times_from_zero G most hG hm) (omega (arith, linear, fv, Gk)) (scaled_over G sx sy least s_over) (scaled G sx sy most s_within) z_within z_over l s in
      let both : norm ((zx -ℤ G *ℤ sx) +ℤ h *ℤ (px -ℤ qx)) ((zy -ℤ G *ℤ sy) +ℤ h *ℤ (py -ℤ qy)) ≤ℤ square (t +ℤ h *ℤ (N *ℤ v)) =
      sum_within (zx -ℤ G *ℤ sx) (zy -ℤ G *ℤ sy) (h *ℤ (px -ℤ qx)) (h *ℤ (py -ℤ qy)) t (h *ℤ (N *ℤ v)) (omega (arith, linear, fv, Gk)) (times_from_zero h (N *ℤ v) (omega (arith, linear, more)) (times_from_zero N v hN hv)) on (scaled h (px -ℤ qx) (py -ℤ qy) (N *ℤ v) apart) in
      unscaled (f +ℤ h) (px -ℤ N *ℤ sx) (py -ℤ N *ℤ sy) (N *ℤ (v +ℤ k)) (omega (arith, linear, from, more)) (rw (← (whole f h N px qx sx), ← (whole f h N py qy sy), ← (radius f h N k v)) both)
    where
      scaled_line : (l sx sy x y : ℤ) → (l *ℤ sx) *ℤ y -ℤ (l *ℤ sy) *ℤ x ≡ l *ℤ (sx *ℤ y -ℤ sy *ℤ x)
      scaled_line l sx sy x y = simp ring (omega (arith, linear))

      scaled_dot : (l sx sy x y : ℤ) → (l *ℤ sx) *ℤ x +ℤ (l *ℤ sy) *ℤ y ≡ l *ℤ (sx *ℤ x +ℤ sy *ℤ y)
      scaled_dot l sx sy x y = simp ring (omega (arith, linear))

      whole : (f h N p q s : ℤ) → ((h *ℤ q +ℤ f *ℤ p) -ℤ ((f +ℤ h) *ℤ N) *ℤ s) +ℤ h *ℤ (p -ℤ q) ≡ (f +ℤ h) *ℤ (p -ℤ N *ℤ s)
      whole f h N p q s = simp ring (omega (arith, linear))

      radius : (f h N k v : ℤ) → ((f +ℤ h) *ℤ N *ℤ k +ℤ f *ℤ (N *ℤ v)) +ℤ h *ℤ (N *ℤ v) ≡ (f +ℤ h) *ℤ (N *ℤ (v +ℤ k))
      radius f h N k v = simp ring (omega (arith, linear))

-- ---- which ray is crossed

-- on the line of s and, seen from it, as e is
onto : (sx sy ex ey zx zy : ℤ) → sx *ℤ zy -ℤ sy *ℤ zx ≡ pos 0 → pos 1 ≤ℤ (sx *ℤ ey -ℤ sy *ℤ ex) → pos 0 ≤ℤ (zx *ℤ ey -ℤ zy *ℤ ex) → pos 0 ≤ℤ (sx *ℤ zx +ℤ sy *ℤ zy)
onto sx sy ex ey zx zy line turn h =
    let id : (sx *ℤ ey -ℤ sy *ℤ ex) *ℤ (sx *ℤ zx +ℤ sy *ℤ zy) ≡ norm sx sy *ℤ (zx *ℤ ey -ℤ zy *ℤ ex) +ℤ (sx *ℤ zy -ℤ sy *ℤ zx) *ℤ (sx *ℤ ex +ℤ sy *ℤ ey) = simp ring (omega (arith, linear)) in
    let none : (sx *ℤ zy -ℤ sy *ℤ zx) *ℤ (sx *ℤ ex +ℤ sy *ℤ ey) ≡ pos 0 = rw line (zero-times (sx *ℤ ex +ℤ sy *ℤ ey)) in
    let f : pos 0 ≤ℤ (norm sx sy *ℤ (zx *ℤ ey -ℤ zy *ℤ ex)) = times_from_zero (norm sx sy) (zx *ℤ ey -ℤ zy *ℤ ex) (norm_from_zero sx sy) h in
    times_cancel (sx *ℤ ey -ℤ sy *ℤ ex) (pos 0) (sx *ℤ zx +ℤ sy *ℤ zy) turn (omega (arith, linear, id, none, f, times-zero (sx *ℤ ey -ℤ sy *ℤ ex)))

onto_back : (sx sy ex ey zx zy : ℤ) → sx *ℤ zy -ℤ sy *ℤ zx ≡ pos 0 → (sx *ℤ ey -ℤ sy *ℤ ex) <ℤ pos 0 → (zx *ℤ ey -ℤ zy *ℤ ex) ≤ℤ pos 0 → pos 0 ≤ℤ (sx *ℤ zx +ℤ sy *ℤ zy)
onto_back sx sy ex ey zx zy line turn h =
    let e : sx *ℤ neg_ℤ ey -ℤ sy *ℤ neg_ℤ ex ≡ neg_ℤ (sx *ℤ ey -ℤ sy *ℤ ex) = simp ring (omega (arith, linear)) in
    let d : zx *ℤ neg_ℤ ey -ℤ zy *ℤ neg_ℤ ex ≡ neg_ℤ (zx *ℤ ey -ℤ zy *ℤ ex) = simp ring (omega (arith, linear)) in
    onto sx sy (neg_ℤ ex) (neg_ℤ ey) zx zy line (omega (arith, linear, e, turn)) (omega (arith, linear, d, h))

-- the cross product of e and h q + f p
crosses : (f h qx qy px py ex ey : ℤ) → ex *ℤ (h *ℤ qy +ℤ f *ℤ py) -ℤ ey *ℤ (h *ℤ qx +ℤ f *ℤ px) ≡ h *ℤ (ex *ℤ qy -ℤ ey *ℤ qx) +ℤ f *ℤ (ex *ℤ py -ℤ ey *ℤ px)
crosses f h qx qy px py ex ey = simp ring (omega (arith, linear))

turned : (zx zy ex ey : ℤ) → zx *ℤ ey -ℤ zy *ℤ ex ≡ neg_ℤ (ex *ℤ zy -ℤ ey *ℤ zx)
turned zx zy ex ey = simp ring (omega (arith, linear))

both_ways : (a b : ℤ) → neg_ℤ b *ℤ a +ℤ a *ℤ b ≡ pos 0
both_ways a b = simp ring (omega (arith, linear))

both_ways' : (a b : ℤ) → b *ℤ a +ℤ neg_ℤ a *ℤ b ≡ pos 0
both_ways' a b = simp ring (omega (arith, linear))

module _ (px py qx qy sx sy ex ey : ℤ) where
  abbrev pub sp : ℤ
  sp = sx *ℤ py -ℤ sy *ℤ px

  abbrev pub sq : ℤ
  sq = sx *ℤ qy -ℤ sy *ℤ qx

  abbrev pub ep : ℤ
  ep = ex *ℤ py -ℤ ey *ℤ px

  abbrev pub eq : ℤ
  eq = ex *ℤ qy -ℤ ey *ℤ qx

  -- where the way from q to p crosses the line of s
  abbrev cx : ℤ
  cx = neg_ℤ (sx *ℤ py -ℤ sy *ℤ px) *ℤ qx +ℤ (sx *ℤ qy -ℤ sy *ℤ qx) *ℤ px

  abbrev cy : ℤ
  cy = neg_ℤ (sx *ℤ py -ℤ sy *ℤ px) *ℤ qy +ℤ (sx *ℤ qy -ℤ sy *ℤ qx) *ℤ py

  on_line : sx *ℤ cy -ℤ sy *ℤ cx ≡ pos 0
  on_line = rw (crosses sq (neg_ℤ sp) qx qy px py sx sy) (both_ways sq sp)

  -- by the ray through s: q is on its left or on it, p on its right
  by_first : pos 0 ≤ℤ sq → sp <ℤ pos 0 → ((pos 1 ≤ℤ (sx *ℤ ey -ℤ sy *ℤ ex)) × ((sq *ℤ ep) ≤ℤ (sp *ℤ eq))) ⊎ (((sx *ℤ ey -ℤ sy *ℤ ex) <ℤ pos 0) × ((sp *ℤ eq) ≤ℤ (sq *ℤ ep))) → Crossed px py qx qy sx sy
  by_first from right way = record { f = sq; h = neg_ℤ sp; from = from; some = omega (arith, linear, right); line = on_line; same = elim way [ inl w ↦ onto sx sy ex ey cx cy on_line w.0 (omega (arith, linear, e, seen, d, w.1)) | inr w ↦ onto_back sx sy ex ey cx cy on_line w.0 (omega (arith, linear, e, seen, d, w.1)) ] }
    where
      e : ex *ℤ cy -ℤ ey *ℤ cx ≡ neg_ℤ sp *ℤ eq +ℤ sq *ℤ ep
      e = crosses sq (neg_ℤ sp) qx qy px py ex ey

      seen : cx *ℤ ey -ℤ cy *ℤ ex ≡ neg_ℤ (ex *ℤ cy -ℤ ey *ℤ cx)
      seen = turned cx cy ex ey

      d : neg_ℤ sp *ℤ eq ≡ neg_ℤ (sp *ℤ eq)
      d = neg-mul sp eq

  -- by the ray through e: q is on its right or on it, p on its left
  by_last : eq ≤ℤ pos 0 → pos 0 <ℤ ep → ((pos 1 ≤ℤ (sx *ℤ ey -ℤ sy *ℤ ex)) × ((sp *ℤ eq) ≤ℤ (sq *ℤ ep))) ⊎ (((sx *ℤ ey -ℤ sy *ℤ ex) <ℤ pos 0) × ((sq *ℤ ep) ≤ℤ (sp *ℤ eq))) → Crossed px py qx qy ex ey
  by_last from left way = record { f = neg_ℤ eq; h = ep; from = omega (arith, linear, from); some = omega (arith, linear, left); line = line; same = elim way [ inl w ↦ onto_back ex ey sx sy zx zy line (omega (arith, linear, w.0, order)) (omega (arith, linear, e, seen, d, c, c', w.1)) | inr w ↦ onto ex ey sx sy zx zy line (omega (arith, linear, w.0, order)) (omega (arith, linear, e, seen, d, c, c', w.1)) ] }
    where
      zx : ℤ
      zx = (ex *ℤ py -ℤ ey *ℤ px) *ℤ qx +ℤ neg_ℤ (ex *ℤ qy -ℤ ey *ℤ qx) *ℤ px

      zy : ℤ
      zy = (ex *ℤ py -ℤ ey *ℤ px) *ℤ qy +ℤ neg_ℤ (ex *ℤ qy -ℤ ey *ℤ qx) *ℤ py

      order : ex *ℤ sy -ℤ ey *ℤ sx ≡ neg_ℤ (sx *ℤ ey -ℤ sy *ℤ ex)
      order = simp ring (omega (arith, linear))

      line : ex *ℤ zy -ℤ ey *ℤ zx ≡ pos 0
      line = rw (crosses (neg_ℤ eq) ep qx qy px py ex ey) (both_ways' eq ep)

      e : sx *ℤ zy -ℤ sy *ℤ zx ≡ ep *ℤ sq +ℤ neg_ℤ eq *ℤ sp
      e = crosses (neg_ℤ eq) ep qx qy px py sx sy

      seen : zx *ℤ sy -ℤ zy *ℤ sx ≡ neg_ℤ (sx *ℤ zy -ℤ sy *ℤ zx)
      seen = turned zx zy sx sy

      d : neg_ℤ eq *ℤ sp ≡ neg_ℤ (eq *ℤ sp)
      d = neg-mul eq sp

      c : eq *ℤ sp ≡ sp *ℤ eq
      c = mul_comm eq sp

      c' : ep *ℤ sq ≡ sq *ℤ ep
      c' = mul_comm ep sq

  -- ---- less than a half turn

  pub from_less : pos 0 <ℤ (sx *ℤ ey -ℤ sy *ℤ ex) → pos 0 ≤ℤ sq → eq ≤ℤ pos 0 → ((pos 0 ≤ℤ sp) × (ep ≤ℤ pos 0)) ⊎ (Crossed px py qx qy sx sy ⊎ Crossed px py qx qy ex ey)
  from_less turn hs he = elim (le_or_lt (pos 0) sp) [
    | inl s ↦ elim (le_or_lt ep (pos 0)) [
      | inl e ↦ inl (s, e)
      | inr e ↦ inr (inr (by_last he e (inl (omega (arith, linear, turn), omega (arith, linear, times_from_zero sp (neg_ℤ eq) s (omega (arith, linear, he)), mul-neg sp eq, times_from_zero sq ep hs (omega (arith, linear, e)))))))
    ]
    | inr s ↦ elim (le_or_lt ep (pos 0)) [
      | inl e ↦ inr (inl (by_first hs s (inl (omega (arith, linear, turn), omega (arith, linear, times_from_zero (neg_ℤ sp) (neg_ℤ eq) (omega (arith, linear, s)) (omega (arith, linear, he)), signs sp eq, times_from_zero sq (neg_ℤ ep) hs (omega (arith, linear, e)), mul-neg sq ep)))))
      | inr e ↦ elim (le_or_lt (sq *ℤ ep) (sp *ℤ eq)) [
        | inl l ↦ inr (inl (by_first hs s (inl (omega (arith, linear, turn), l))))
        | inr l ↦ inr (inr (by_last he e (inl (omega (arith, linear, turn), omega (arith, linear, l)))))
      ]
    ]
  ]
    where
      signs : (a b : ℤ) → neg_ℤ a *ℤ neg_ℤ b ≡ a *ℤ b
      signs a b = simp ring (omega (arith, linear))

  -- ---- more

  pub from_more : (sx *ℤ ey -ℤ sy *ℤ ex) <ℤ pos 0 → (pos 0 ≤ℤ sq) ⊎ (eq ≤ℤ pos 0) → ((pos 0 ≤ℤ sp) ⊎ (ep ≤ℤ pos 0)) ⊎ (Crossed px py qx qy sx sy ⊎ Crossed px py qx qy ex ey)
  from_more turn place = elim (le_or_lt (pos 0) sp) [
    | inl s ↦ inl (inl s)
    | inr s ↦ elim (le_or_lt ep (pos 0)) [
      | inl e ↦ inl (inr e)
      | inr e ↦ elim (le_or_lt (pos 0) sq) [
        | inr l ↦ elim place [ inl k ↦ absurd (omega (arith, linear, k, l)) | inr k ↦ inr (inr (by_last k e (inr (turn, before s e l k)))) ]
        | inl l ↦ elim (le_or_lt eq (pos 0)) [
          | inr k ↦ inr (inl (by_first l s (inr (turn, after s e l (omega (arith, linear, k))))))
          | inl k ↦ elim (le_or_lt (sq *ℤ ep) (sp *ℤ eq)) [
            | inl n ↦ inr (inr (by_last k e (inr (turn, n))))
            | inr n ↦ inr (inl (by_first l s (inr (turn, omega (arith, linear, n)))))
          ]
        ]
      ]
    ]
  ]
    where
      before : sp <ℤ pos 0 → pos 0 <ℤ ep → sq <ℤ pos 0 → eq ≤ℤ pos 0 → (sq *ℤ ep) ≤ℤ (sp *ℤ eq)
      before s e l k =
          let a : pos 0 ≤ℤ (neg_ℤ sq *ℤ ep) = times_from_zero (neg_ℤ sq) ep (omega (arith, linear, l)) (omega (arith, linear, e)) in
          let b : pos 0 ≤ℤ (neg_ℤ sp *ℤ neg_ℤ eq) = times_from_zero (neg_ℤ sp) (neg_ℤ eq) (omega (arith, linear, s)) (omega (arith, linear, k)) in
          omega (arith, linear, a, b, neg-mul sq ep, neg-mul sp (neg_ℤ eq), mul-neg sp eq)

      after : sp <ℤ pos 0 → pos 0 <ℤ ep → pos 0 ≤ℤ sq → pos 0 ≤ℤ eq → (sp *ℤ eq) ≤ℤ (sq *ℤ ep)
      after s e l k =
          let a : pos 0 ≤ℤ (sq *ℤ ep) = times_from_zero sq ep l (omega (arith, linear, e)) in
          let b : pos 0 ≤ℤ (neg_ℤ sp *ℤ eq) = times_from_zero (neg_ℤ sp) eq (omega (arith, linear, s)) k in
          omega (arith, linear, a, b, neg-mul sp eq)

  -- ---- a half turn

  pub from_half : sx *ℤ ey -ℤ sy *ℤ ex ≡ pos 0 → (sx *ℤ ex +ℤ sy *ℤ ey) <ℤ pos 0 → pos 0 ≤ℤ sq → (pos 0 ≤ℤ sp) ⊎ (Crossed px py qx qy sx sy ⊎ Crossed px py qx qy ex ey)
  from_half flat back hs = elim (le_or_lt (pos 0) sp) [
    | inl s ↦ inl s
    | inr s ↦ elim (le_or_lt (pos 0) (sx *ℤ cx +ℤ sy *ℤ cy)) [
      | inl k ↦ inr (inl (record { f = sq; h = neg_ℤ sp; from = hs; some = omega (arith, linear, s); line = on_line; same = k }))
      | inr k ↦ inr (inr (record { f = sq; h = neg_ℤ sp; from = hs; some = omega (arith, linear, s); line = other_line; same = other_same k }))
    ]
  ]
    where
      long : pos 1 ≤ℤ norm sx sy
      long = norm_some sx sy (λ zero_x zero_y. (let b : (pos 0 *ℤ ex +ℤ pos 0 *ℤ ey) <ℤ pos 0 = rw (zero_x, zero_y) at back in omega (arith, linear, b, zero-times ex, zero-times ey)))

      crossed : (sx sy ex ey zx zy : ℤ) → norm sx sy *ℤ (ex *ℤ zy -ℤ ey *ℤ zx) ≡ (sx *ℤ zy -ℤ sy *ℤ zx) *ℤ (sx *ℤ ex +ℤ sy *ℤ ey) -ℤ (sx *ℤ ey -ℤ sy *ℤ ex) *ℤ (sx *ℤ zx +ℤ sy *ℤ zy)
      crossed sx sy ex ey zx zy = simp ring (omega (arith, linear))

      dotted : (sx sy ex ey zx zy : ℤ) → norm sx sy *ℤ (ex *ℤ zx +ℤ ey *ℤ zy) ≡ (sx *ℤ ex +ℤ sy *ℤ ey) *ℤ (sx *ℤ zx +ℤ sy *ℤ zy) +ℤ (sx *ℤ ey -ℤ sy *ℤ ex) *ℤ (sx *ℤ zy -ℤ sy *ℤ zx)
      dotted sx sy ex ey zx zy = simp ring (omega (arith, linear))

      other_line : ex *ℤ cy -ℤ ey *ℤ cx ≡ pos 0
      other_line =
          let id : norm sx sy *ℤ (ex *ℤ cy -ℤ ey *ℤ cx) ≡ pos 0 *ℤ (sx *ℤ ex +ℤ sy *ℤ ey) -ℤ pos 0 *ℤ (sx *ℤ cx +ℤ sy *ℤ cy) = rw (on_line, flat) at (crossed sx sy ex ey cx cy) in
          let z : norm sx sy *ℤ (ex *ℤ cy -ℤ ey *ℤ cx) ≡ pos 0 = omega (arith, linear, id, zero-times (sx *ℤ ex +ℤ sy *ℤ ey), zero-times (sx *ℤ cx +ℤ sy *ℤ cy)) in
          let n = times-zero (norm sx sy) in
          let over : (ex *ℤ cy -ℤ ey *ℤ cx) ≤ℤ pos 0 = times_cancel (norm sx sy) (ex *ℤ cy -ℤ ey *ℤ cx) (pos 0) long (omega (arith, linear, z, n)) in
          let under : pos 0 ≤ℤ (ex *ℤ cy -ℤ ey *ℤ cx) = times_cancel (norm sx sy) (pos 0) (ex *ℤ cy -ℤ ey *ℤ cx) long (omega (arith, linear, z, n)) in
          omega (arith, linear, over, under)

      other_same : (sx *ℤ cx +ℤ sy *ℤ cy) <ℤ pos 0 → pos 0 ≤ℤ (ex *ℤ cx +ℤ ey *ℤ cy)
      other_same k =
          let id : norm sx sy *ℤ (ex *ℤ cx +ℤ ey *ℤ cy) ≡ (sx *ℤ ex +ℤ sy *ℤ ey) *ℤ (sx *ℤ cx +ℤ sy *ℤ cy) +ℤ pos 0 *ℤ (sx *ℤ cy -ℤ sy *ℤ cx) = rw flat at (dotted sx sy ex ey cx cy) in
          let f : pos 0 ≤ℤ (neg_ℤ (sx *ℤ ex +ℤ sy *ℤ ey) *ℤ neg_ℤ (sx *ℤ cx +ℤ sy *ℤ cy)) = times_from_zero (neg_ℤ (sx *ℤ ex +ℤ sy *ℤ ey)) (neg_ℤ (sx *ℤ cx +ℤ sy *ℤ cy)) (omega (arith, linear, back)) (omega (arith, linear, k)) in
          let a = neg-mul (sx *ℤ ex +ℤ sy *ℤ ey) (neg_ℤ (sx *ℤ cx +ℤ sy *ℤ cy)) in
          let b = mul-neg (sx *ℤ ex +ℤ sy *ℤ ey) (sx *ℤ cx +ℤ sy *ℤ cy) in
          times_cancel (norm sx sy) (pos 0) (ex *ℤ cx +ℤ ey *ℤ cy) long (omega (arith, linear, id, f, a, b, zero-times (sx *ℤ cy -ℤ sy *ℤ cx), times-zero (norm sx sy)))
