-- A point that is on the left of each edge of a contour that goes round once, or on the right of each, lies in its area.
use Rattle.std.proofs.Common.{Bool, true, false, not, ◌&&◌, ◌||◌, int_le, int_lt, ◌≡◌, ◌≤◌, ◌⊎◌, inl, inr, ℤ, pos, neg_ℤ, ◌+ℤ◌, ◌-ℤ◌, ◌*ℤ◌, ◌≤ℤ◌, ◌<ℤ◌, List, [], ◌∷◌, arith, refl, subst, sym, ◌∙◌}
use lib.Signed.{lt_z}
use Rattle.planar.specs.declared.Spot.{Spot}
use Rattle.planar.specs.Plane.{InCapsule, Point, cross_of, square, EachFrom}
use Rattle.planar.proofs.Ring.{ring, linear, le_or_lt, times_from_zero, times_mono, times_cancel, over_zero, mul_comm, mul-neg, times-zero, zero-times, one-times, times-one}
use Rattle.planar.proofs.EdgeLaw.{not_lt, not_le, is_lt, is_le}
use Rattle.area_contact.specs.Contour.{InArea, OnEdge, SomeEdge, edges_from, edges_of, end_from}
use Rattle.area_contact.specs.Parity.{crossed, odd, odd_is, passes, side_of}
use Rattle.area_contact.proofs.Hits.{on_turned}
use Rattle.slants.specs.Rounds.{GoesRound, IsFlat, changes, goes_up, on_way}
use Rattle.slants.specs.Taken.{Each}
use Rattle.slants.proofs.Corners.{each_as}
use Rattle.slants.proofs.Runs.{fallen, fallen_is, risen, told}

-- ---- lists

pub from_as : {P Q : Spot → Spot → Type 0} → ((b c : Spot) → P b c → Q b c) → (a : Spot) (rest : List Spot) → EachFrom P a rest → EachFrom Q a rest
from_as to a [] all = tt
from_as to a (b ∷ rest) all = (to a b all.0, from_as to b rest all.1)

way_as : {P Q : Spot → Spot → Type 0} → ((b c : Spot) → P b c → Q b c) → (back : Bool) (b c : Spot) → on_way back P b c → on_way back Q b c
way_as to false b c h = to b c h
way_as to true b c h = to c b h

pub round_as : {P Q : Spot → Spot → Type 0} → ((b c : Spot) → P b c → Q b c) → (points : List Spot) → GoesRound P points → GoesRound Q points
round_as to [] round = round
round_as to (a ∷ rest) round = (round.0, round.1, elim round.2 [ inl all ↦ inl (from_as (way_as to false) a rest all) | inr all ↦ inr (from_as (way_as to true) a rest all) ])

end_has : (P : Spot → Type 0) (a : Spot) (rest : List Spot) → P a → Each P rest → P (end_from a rest)
end_has P a [] one all = one
end_has P a (b ∷ rest) one all = end_has P b rest all.0 all.1

-- ---- a point on the line of an edge that comes to its height is on the edge

-- the point lies i/(k n) of the way, so to say
on_place : (k i x a v n : ℤ) → k *ℤ (x -ℤ n *ℤ a) -ℤ i *ℤ v ≡ pos 0 → (n *ℤ k) *ℤ x -ℤ n *ℤ ((n *ℤ k) *ℤ a +ℤ i *ℤ v) ≡ pos 0
on_place k i x a v n h =
    let e : (n *ℤ k) *ℤ x -ℤ n *ℤ ((n *ℤ k) *ℤ a +ℤ i *ℤ v) ≡ n *ℤ (k *ℤ (x -ℤ n *ℤ a) -ℤ i *ℤ v) = simp ring (omega (arith, linear)) in
    rw (e, h) (times-zero n)

nothing_off : (q m : ℤ) → (square (pos 0) +ℤ square (pos 0)) ≤ℤ square (q *ℤ m *ℤ pos 0)
nothing_off q m =
    let e : square (q *ℤ m *ℤ pos 0) ≡ pos 0 = simp ring in
    rw e record { le = tt }

on_by : (a b : Spot) (p : Point) (k i : ℤ) → pos 1 ≤ℤ k → pos 0 ≤ℤ i → i ≤ℤ (p.n *ℤ k) → k *ℤ (p.x -ℤ p.n *ℤ a.x) -ℤ i *ℤ (b.x -ℤ a.x) ≡ pos 0 → k *ℤ (p.y -ℤ p.n *ℤ a.y) -ℤ i *ℤ (b.y -ℤ a.y) ≡ pos 0 → InCapsule a b (pos 0) p
on_by a b p k i some from to across along = record {
  i = i;
  m = p.n *ℤ k;
  from_start = from;
  to_end = to;
  positive = over_zero p.n k p.positive some;
  near = rw (on_place k i p.x a.x (b.x -ℤ a.x) p.n across, on_place k i p.y a.y (b.y -ℤ a.y) p.n along) (nothing_off p.n (p.n *ℤ k));
}

spread : (n a b : ℤ) → n *ℤ (a -ℤ b) ≡ n *ℤ a -ℤ n *ℤ b
spread n a b = simp ring (omega (arith, linear))

higher : (n a b y : ℤ) → pos 1 ≤ℤ n → (n *ℤ a -ℤ y) ≤ℤ pos 0 → pos 0 <ℤ (n *ℤ b -ℤ y) → pos 1 ≤ℤ (b -ℤ a)
higher n a b y some low high = elim (le_or_lt b a) [
  | inl l ↦ absurd (omega (arith, linear, low, high, times_mono n b a (omega (arith, linear, some)) l))
  | inr l ↦ omega (arith, linear, l)
]

up_across : (n x y ax ay bx by : ℤ) → (by -ℤ ay) *ℤ (x -ℤ n *ℤ ax) -ℤ (y -ℤ n *ℤ ay) *ℤ (bx -ℤ ax) ≡ neg_ℤ ((bx -ℤ ax) *ℤ (y -ℤ n *ℤ ay) +ℤ (n *ℤ ax -ℤ x) *ℤ (by -ℤ ay))
up_across n x y ax ay bx by = simp ring (omega (arith, linear))

same_off : (a b : ℤ) → a *ℤ b -ℤ b *ℤ a ≡ pos 0
same_off a b = let e : a *ℤ b ≡ b *ℤ a = mul_comm a b in omega (arith, linear, e)

on_rising : (a b : Spot) (p : Point) → (p.n *ℤ a.y -ℤ p.y) ≤ℤ pos 0 → pos 0 <ℤ (p.n *ℤ b.y -ℤ p.y) → side_of a b p.x p.y p.n ≡ pos 0 → InCapsule a b (pos 0) p
on_rising a b p low high flat = on_by a b p (b.y -ℤ a.y) (p.y -ℤ p.n *ℤ a.y) (higher p.n a.y b.y p.y p.positive low high) (omega (arith, linear, low)) (omega (arith, linear, high, spread p.n b.y a.y))
    (omega (arith, linear, flat, up_across p.n p.x p.y a.x a.y b.x b.y)) (same_off (b.y -ℤ a.y) (p.y -ℤ p.n *ℤ a.y))

reversed : (ax ay bx by x y n : ℤ) → (ax -ℤ bx) *ℤ (y -ℤ n *ℤ by) +ℤ (n *ℤ bx -ℤ x) *ℤ (ay -ℤ by) ≡ neg_ℤ ((bx -ℤ ax) *ℤ (y -ℤ n *ℤ ay) +ℤ (n *ℤ ax -ℤ x) *ℤ (by -ℤ ay))
reversed ax ay bx by x y n = simp ring (omega (arith, linear))

-- where it is level, and the point not beyond its ends
level_up : (p : Point) (c : Spot) → p.n *ℤ c.y -ℤ p.y ≡ pos 0 → p.y -ℤ p.n *ℤ c.y ≡ pos 0
level_up p c e = omega (arith, linear, e)

level_same : (n a b y : ℤ) → pos 1 ≤ℤ n → n *ℤ a -ℤ y ≡ pos 0 → n *ℤ b -ℤ y ≡ pos 0 → b -ℤ a ≡ pos 0
level_same n a b y some e f =
    let g : b ≤ℤ a = times_cancel n b a some (omega (arith, linear, e, f)) in
    let h : a ≤ℤ b = times_cancel n a b some (omega (arith, linear, e, f)) in
    omega (arith, linear, g, h)

on_start : (a b : Spot) (p : Point) → p.x -ℤ p.n *ℤ a.x ≡ pos 0 → p.y -ℤ p.n *ℤ a.y ≡ pos 0 → InCapsule a b (pos 0) p
on_start a b p across along = on_by a b p (pos 1) (pos 0) record { le = tt } record { le = tt } (omega (arith, linear, times-one p.n, p.positive)) (there (p.x -ℤ p.n *ℤ a.x) (b.x -ℤ a.x) across) (there (p.y -ℤ p.n *ℤ a.y) (b.y -ℤ a.y) along)
  where
    there : (z v : ℤ) → z ≡ pos 0 → pos 1 *ℤ z -ℤ pos 0 *ℤ v ≡ pos 0
    there z v e = omega (arith, linear, e, one-times z, zero-times v)

on_level : (a b : Spot) (p : Point) → p.n *ℤ a.y -ℤ p.y ≡ pos 0 → p.n *ℤ b.y -ℤ p.y ≡ pos 0 → (p.n *ℤ a.x) ≤ℤ p.x → p.x ≤ℤ (p.n *ℤ b.x) → InCapsule a b (pos 0) p
on_level a b p low high left right = elim (le_or_lt b.x a.x) [
  | inl l ↦ on_start a b p (omega (arith, linear, left, right, times_mono p.n b.x a.x (omega (arith, linear, p.positive)) l)) (level_up p a low)
  | inr l ↦ on_by a b p (b.x -ℤ a.x) (p.x -ℤ p.n *ℤ a.x) (omega (arith, linear, l)) (omega (arith, linear, left)) (omega (arith, linear, right, spread p.n b.x a.x))
      (same_off (b.x -ℤ a.x) (p.x -ℤ p.n *ℤ a.x))
      (rw (level_up p a low, level_same p.n a.y b.y p.y p.positive low high) (omega (arith, linear, times-zero (b.x -ℤ a.x), times-zero (p.x -ℤ p.n *ℤ a.x))))
]

-- ---- the ray and an edge

up : ℤ → ℤ → Spot → Bool
up y n c = lt_z (pos 0) (n *ℤ c.y -ℤ y)

is_up : (y n : ℤ) (c : Spot) → up y n c ≡ true → pos 0 <ℤ (n *ℤ c.y -ℤ y)
unfolding up
is_up y n c h = elim (le_or_lt (n *ℤ c.y -ℤ y) (pos 0)) [ inl l ↦ (let e : lt_z (pos 0) (n *ℤ c.y -ℤ y) ≡ false = not_lt (pos 0) (n *ℤ c.y -ℤ y) l in cc) | inr l ↦ l ]

is_down : (y n : ℤ) (c : Spot) → up y n c ≡ false → (n *ℤ c.y -ℤ y) ≤ℤ pos 0
unfolding up
is_down y n c h = elim (le_or_lt (n *ℤ c.y -ℤ y) (pos 0)) [ inl l ↦ l | inr l ↦ (let e : lt_z (pos 0) (n *ℤ c.y -ℤ y) ≡ true = is_lt (pos 0) (n *ℤ c.y -ℤ y) l in cc) ]

none_up : (r : Bool) → (false || (r && false)) ≡ true → ⊥
none_up true h = cc
none_up false h = cc

not_down : (r : Bool) (a b : ℤ) → (int_lt a b || (r && int_le a b)) ≡ true → a ≤ℤ b
not_down r a b h = elim (le_or_lt a b) [
  | inl l ↦ l
  | inr l ↦ (let e : (false || (r && false)) ≡ true = rw (not_lt a b (omega (arith, linear, l)), not_le a b l) at h in absurd (none_up r e))
]

not_up : (r : Bool) (a b : ℤ) → (int_lt a b || (r && int_le a b)) ≡ false → b ≤ℤ a
not_up r a b h = elim (le_or_lt b a) [ inl l ↦ l | inr l ↦ (let e : (true || (r && int_le a b)) ≡ false = rw (is_lt a b l) at h in cc) ]

is_over : (y n : ℤ) (c : Spot) → pos 0 <ℤ (n *ℤ c.y -ℤ y) → up y n c ≡ true
unfolding up
is_over y n c h = is_lt (pos 0) (n *ℤ c.y -ℤ y) h

rise_up : (p : Point) (r : Bool) (a b : Spot) → goes_up r a b ≡ true → up p.y p.n a ≡ true → up p.y p.n b ≡ true
rise_up p r a b h k = is_over p.y p.n b (omega (arith, linear, is_up p.y p.n a k, times_mono p.n a.y b.y (omega (arith, linear, p.positive)) (not_down r a.y b.y h)))

fall_up : (p : Point) (r : Bool) (a b : Spot) → goes_up r a b ≡ false → up p.y p.n b ≡ true → up p.y p.n a ≡ true
fall_up p r a b h k = is_over p.y p.n a (omega (arith, linear, is_up p.y p.n b k, times_mono p.n b.y a.y (omega (arith, linear, p.positive)) (not_up r a.y b.y h)))

-- of an edge that it is not on the right of, the point is on it, or the ray crosses it exactly where it comes up
meets_left : (a b : Spot) (p : Point) → pos 0 ≤ℤ side_of a b p.x p.y p.n → InCapsule a b (pos 0) p ⊎ (crossed (record { start = a; end = b }) p.x p.y p.n ≡ (not (up p.y p.n a) && up p.y p.n b))
unfolding up
meets_left a b p left = elim (le_or_lt (p.n *ℤ a.y -ℤ p.y) (pos 0)) [
  | inl f ↦ elim (le_or_lt (p.n *ℤ b.y -ℤ p.y) (pos 0)) [
    | inl g ↦ inr (rw (is_le (p.n *ℤ a.y -ℤ p.y) (pos 0) f, not_lt (pos 0) (p.n *ℤ b.y -ℤ p.y) g, is_le (p.n *ℤ b.y -ℤ p.y) (pos 0) g, not_lt (pos 0) (p.n *ℤ a.y -ℤ p.y) f) refl)
    | inr g ↦ elim (le_or_lt (side_of a b p.x p.y p.n) (pos 0)) [
      | inl h ↦ inl (on_rising a b p f g (omega (arith, linear, left, h)))
      | inr h ↦ inr (rw (is_le (p.n *ℤ a.y -ℤ p.y) (pos 0) f, is_lt (pos 0) (p.n *ℤ b.y -ℤ p.y) g, is_lt (pos 0) (side_of a b p.x p.y p.n) h, not_lt (pos 0) (p.n *ℤ a.y -ℤ p.y) f) refl)
    ]
  ]
  | inr f ↦ elim (le_or_lt (p.n *ℤ b.y -ℤ p.y) (pos 0)) [
    | inl g ↦ elim (le_or_lt (side_of a b p.x p.y p.n) (pos 0)) [
      | inl h ↦ inl (on_turned a b (pos 0) p (on_rising b a p g f (omega (arith, linear, left, h, reversed a.x a.y b.x b.y p.x p.y p.n))))
      | inr h ↦ inr (rw (not_le (p.n *ℤ a.y -ℤ p.y) (pos 0) f, is_le (p.n *ℤ b.y -ℤ p.y) (pos 0) g, is_lt (pos 0) (p.n *ℤ a.y -ℤ p.y) f, not_lt (pos 0) (side_of b a p.x p.y p.n) (omega (arith, linear, h, reversed a.x a.y b.x b.y p.x p.y p.n))) refl)
    ]
    | inr g ↦ inr (rw (not_le (p.n *ℤ a.y -ℤ p.y) (pos 0) f, not_le (p.n *ℤ b.y -ℤ p.y) (pos 0) g, is_lt (pos 0) (p.n *ℤ a.y -ℤ p.y) f) refl)
  ]
]

either-comm : (s t : Bool) → (s || t) ≡ (t || s)
either-comm true true = refl
either-comm true false = refl
either-comm false true = refl
either-comm false false = refl

both-comm : (s t : Bool) → (s && t) ≡ (t && s)
both-comm true true = refl
both-comm true false = refl
both-comm false true = refl
both-comm false false = refl

-- of one that it is not on the left of, where it comes down
meets_right : (a b : Spot) (p : Point) → pos 0 ≤ℤ side_of b a p.x p.y p.n → InCapsule a b (pos 0) p ⊎ (crossed (record { start = a; end = b }) p.x p.y p.n ≡ (up p.y p.n a && not (up p.y p.n b)))
meets_right a b p right = elim (meets_left b a p right) [
  | inl h ↦ inl (on_turned a b (pos 0) p h)
  | inr h ↦ inr (either-comm (passes a b p.x p.y p.n) (passes b a p.x p.y p.n) ∙ h ∙ both-comm (not (up p.y p.n b)) (up p.y p.n a))
]

-- ---- and the edges of a contour

abbrev Left : Bool → Point → Spot → Spot → Type 0
Left back p = on_way back (λ b c. pos 0 ≤ℤ side_of b c p.x p.y p.n)

along_left : (p : Point) (a : Spot) (rest : List Spot) → EachFrom (Left false p) a rest → SomeEdge (OnEdge p) (edges_from a rest) ⊎ (odd (edges_from a rest) p.x p.y p.n ≡ risen (up p.y p.n) a rest)
along_left p a [] all = inr refl
along_left p a (b ∷ rest) all = elim (meets_left a b p all.0) [
  | inl h ↦ inl (inl h)
  | inr h ↦ elim (along_left p b rest all.1) [ inl k ↦ inl (inr k) | inr k ↦ inr (rw (h, k) refl) ]
]

along_right : (p : Point) (a : Spot) (rest : List Spot) → EachFrom (Left true p) a rest → SomeEdge (OnEdge p) (edges_from a rest) ⊎ (odd (edges_from a rest) p.x p.y p.n ≡ fallen (up p.y p.n) a rest)
along_right p a [] all = inr refl
along_right p a (b ∷ rest) all = elim (meets_right a b p all.0) [
  | inl h ↦ inl (inl h)
  | inr h ↦ elim (along_right p b rest all.1) [ inl k ↦ inl (inr k) | inr k ↦ inr (rw (h, k) refl) ]
]

along : (back : Bool) (p : Point) (a : Spot) (rest : List Spot) → end_from a rest ≡ a → EachFrom (Left back p) a rest → SomeEdge (OnEdge p) (edges_from a rest) ⊎ (odd (edges_from a rest) p.x p.y p.n ≡ risen (up p.y p.n) a rest)
along false p a rest closed all = along_left p a rest all
along true p a rest closed all = elim (along_right p a rest all) [ inl h ↦ inl h | inr h ↦ inr (h ∙ sym (fallen_is (up p.y p.n) a rest closed)) ]

-- ---- corners that are all on one side of the point's height: X and Y lead from the point to a corner, or mirrored

-- three of them weigh each other to nothing
weighed : (ax ay bx by cx cy : ℤ) → (ax *ℤ by -ℤ ay *ℤ bx) *ℤ cy +ℤ (bx *ℤ cy -ℤ by *ℤ cx) *ℤ ay ≡ (ax *ℤ cy -ℤ ay *ℤ cx) *ℤ by
weighed ax ay bx by cx cy = simp ring (omega (arith, linear))

flipped : (ax ay cx cy y : ℤ) → (cx *ℤ ay -ℤ cy *ℤ ax) *ℤ y ≡ neg_ℤ ((ax *ℤ cy -ℤ ay *ℤ cx) *ℤ y)
flipped ax ay cx cy y = simp ring (omega (arith, linear))

no_room : (u v w a b c : ℤ) → pos 0 ≤ℤ u → pos 0 ≤ℤ v → pos 0 ≤ℤ w → pos 1 ≤ℤ a → pos 1 ≤ℤ b → pos 1 ≤ℤ c → u *ℤ a +ℤ v *ℤ b +ℤ w *ℤ c ≡ pos 0 → u +ℤ v +ℤ w ≡ pos 0
no_room u v w a b c hu hv hw ha hb hc e = omega (arith, linear, e, hu, hv, hw, times_mono u (pos 1) a hu ha, times_mono v (pos 1) b hv hb, times_mono w (pos 1) c hw hc, times-one u, times-one v, times-one w)

module _ (X Y : Spot → ℤ) (flat : (a b c : Spot) → (X a *ℤ Y b -ℤ Y a *ℤ X b) +ℤ (X b *ℤ Y c -ℤ Y b *ℤ X c) +ℤ (X c *ℤ Y a -ℤ Y c *ℤ X a) ≡ pos 0 → IsFlat a b c) where
  abbrev turn : Spot → Spot → ℤ
  turn s t = X s *ℤ Y t -ℤ Y s *ℤ X t

  further : (z c d : Spot) → pos 1 ≤ℤ Y z → pos 1 ≤ℤ Y c → pos 1 ≤ℤ Y d → pos 0 ≤ℤ turn z c → pos 0 ≤ℤ turn c d → pos 0 ≤ℤ turn z d
  further z c d hz hc hd h k =
      let f : pos 0 ≤ℤ (turn z c *ℤ Y d) = times_from_zero (turn z c) (Y d) h (omega (arith, linear, hd)) in
      let g : pos 0 ≤ℤ (turn c d *ℤ Y z) = times_from_zero (turn c d) (Y z) k (omega (arith, linear, hz)) in
      let e : turn z c *ℤ Y d +ℤ turn c d *ℤ Y z ≡ turn z d *ℤ Y c = weighed (X z) (Y z) (X c) (Y c) (X d) (Y d) in
      times_cancel (Y c) (pos 0) (turn z d) hc (omega (arith, linear, f, g, e, mul_comm (Y c) (turn z d), times-zero (Y c)))

  carried : (z c : Spot) (rest : List Spot) → pos 1 ≤ℤ Y z → pos 1 ≤ℤ Y c → Each (λ q. pos 1 ≤ℤ Y q) rest → EachFrom (λ s t. pos 0 ≤ℤ turn s t) c rest → pos 0 ≤ℤ turn z c → pos 0 ≤ℤ turn z (end_from c rest)
  carried z c [] hz hc over left h = h
  carried z c (d ∷ rest) hz hc over left h = carried z d rest hz over.0 over.1 left.1 (further z c d hz hc over.0 h left.0)

  no_turn : (c : Spot) → pos 0 ≤ℤ turn c c
  no_turn c = omega (arith, linear, same_off (X c) (Y c))

  lined : (a b c : Spot) → pos 1 ≤ℤ Y a → pos 1 ≤ℤ Y b → pos 1 ≤ℤ Y c → pos 0 ≤ℤ turn a b → pos 0 ≤ℤ turn b c → pos 0 ≤ℤ turn c a → IsFlat a b c
  lined a b c ha hb hc h k l = flat a b c (no_room (turn a b) (turn b c) (turn c a) (Y c) (Y a) (Y b) h k l hc ha hb
      (omega (arith, linear, weighed (X a) (Y a) (X b) (Y b) (X c) (Y c), flipped (X a) (Y a) (X c) (Y c) (Y b))))

  -- on the left of each edge of a contour that comes back to a, all corners are on one line through it
  lines : (a b : Spot) (rest : List Spot) → pos 1 ≤ℤ Y a → pos 1 ≤ℤ Y b → Each (λ q. pos 1 ≤ℤ Y q) rest → EachFrom (λ s t. pos 0 ≤ℤ turn s t) b rest → pos 0 ≤ℤ turn a b → end_from b rest ≡ a → EachFrom (IsFlat a) b rest
  lines a b [] ha hb over left h closed = tt
  lines a b (c ∷ rest) ha hb over left h closed =
      let back : pos 0 ≤ℤ turn c a = subst (λ (s : Spot). pos 0 ≤ℤ turn c s) closed (carried c c rest over.0 over.0 over.1 left.1 (no_turn c)) in
      (lined a b c ha hb over.0 h left.0 back, lines a c rest ha over.0 over.1 left.1 (further a b c ha hb over.0 h left.0) closed)

  pub all_lined : (a : Spot) (rest : List Spot) → end_from a rest ≡ a → Each (λ q. pos 1 ≤ℤ Y q) (a ∷ rest) → EachFrom (λ s t. pos 0 ≤ℤ turn s t) a rest → EachFrom (IsFlat a) a rest
  all_lined a rest closed over left = lines a a rest over.0 over.0 over.1 left (no_turn a) closed

-- ---- a point at the height of the highest corners, or above

with_none : (a b c d : ℤ) → b ≡ pos 0 → pos 0 ≤ℤ (a *ℤ d -ℤ b *ℤ c) → pos 0 ≤ℤ (a *ℤ d)
with_none a b c d e h = let k : pos 0 ≤ℤ (a *ℤ d -ℤ pos 0 *ℤ c) = rw e at h in omega (arith, linear, k, zero-times c)

-- from a level corner to a lower one
not_right : (a b c d : ℤ) → b ≡ pos 0 → d <ℤ pos 0 → pos 0 ≤ℤ (a *ℤ d -ℤ b *ℤ c) → a ≤ℤ pos 0
not_right a b c d e low h = elim (le_or_lt a (pos 0)) [
  | inl l ↦ l
  | inr l ↦ absurd (omega (arith, linear, with_none a b c d e h, over_zero a (neg_ℤ d) (omega (arith, linear, l)) (omega (arith, linear, low)), mul-neg a d))
]

-- from a lower corner to a level one
not_left : (a b c d : ℤ) → d ≡ pos 0 → b <ℤ pos 0 → pos 0 ≤ℤ (a *ℤ d -ℤ b *ℤ c) → pos 0 ≤ℤ c
not_left a b c d e low h = elim (le_or_lt (pos 0) c) [
  | inl l ↦ l
  | inr l ↦ (let k : pos 0 ≤ℤ (a *ℤ pos 0 -ℤ b *ℤ c) = rw e at h in absurd (omega (arith, linear, k, times-zero a, over_zero (neg_ℤ b) (neg_ℤ c) (omega (arith, linear, low)) (omega (arith, linear, l)), neg_both b c)))
]
  where
    neg_both : (s t : ℤ) → neg_ℤ s *ℤ neg_ℤ t ≡ s *ℤ t
    neg_both s t = simp ring (omega (arith, linear))

module _ (X Y : Spot → ℤ) (p : Point) (ahead : (c d : Spot) → Y c ≡ pos 0 → Y d ≡ pos 0 → X c ≤ℤ pos 0 → pos 0 ≤ℤ X d → InCapsule c d (pos 0) p) (behind : (c d : Spot) → Y c ≡ pos 0 → Y d ≡ pos 0 → pos 0 ≤ℤ X c → X d ≤ℤ pos 0 → InCapsule c d (pos 0) p) (at_start : (c d : Spot) → Y c ≡ pos 0 → X c ≡ pos 0 → InCapsule c d (pos 0) p) where
  abbrev Around : Spot → Spot → Type 0
  Around s t = pos 0 ≤ℤ (X s *ℤ Y t -ℤ Y s *ℤ X t)

  abbrev Low : Spot → Type 0
  Low q = Y q ≤ℤ pos 0

  abbrev Level : Spot → Spot → Type 0
  Level s t = (Y s ≡ pos 0) × (Y t ≡ pos 0)

  abbrev On : Spot → List Spot → Type 0
  On c rest = SomeEdge (OnEdge p) (edges_from c rest)

  is_level : (d : Spot) → Y d ≤ℤ pos 0 → pos 0 ≤ℤ Y d → Y d ≡ pos 0
  is_level d h k = omega (arith, linear, h, k)

  -- from a level corner on the right, or at the point
  from_right : (c : Spot) (rest : List Spot) → Y c ≡ pos 0 → pos 0 ≤ℤ X c → Each Low rest → EachFrom Around c rest → On c rest ⊎ ((Y (end_from c rest) ≡ pos 0) × (pos 0 ≤ℤ X (end_from c rest)) × EachFrom Level c rest)
  from_right c [] level right low left = inr (level, right, tt)
  from_right c (d ∷ rest) level right low left = elim (le_or_lt (pos 0) (Y d)) [
    | inl l ↦ elim (le_or_lt (X d) (pos 0)) [
      | inl m ↦ inl (inl (behind c d level (is_level d low.0 l) right m))
      | inr m ↦ elim (from_right d rest (is_level d low.0 l) (omega (arith, linear, m)) low.1 left.1) [ inl s ↦ inl (inr s) | inr s ↦ inr (s.0, s.1, ((level, is_level d low.0 l), s.2)) ]
    ]
    | inr l ↦ inl (inl (at_start c d level (omega (arith, linear, right, not_right (X c) (Y c) (X d) (Y d) level l left.0))))
  ]

  abbrev Under : Spot → Type 0
  Under q = Y q <ℤ pos 0

  abbrev Right : Spot → Type 0
  Right q = (Y q ≡ pos 0) × (pos 0 ≤ℤ X q)

  -- from a lower one
  under_after : (c d : Spot) (rest : List Spot) → Under d → On d rest ⊎ Each Under rest ⊎ Right (end_from d rest) → On c (d ∷ rest) ⊎ Each Under (d ∷ rest) ⊎ Right (end_from d rest)
  under_after c d rest l (inl s) = inl (inr s)
  under_after c d rest l (inr (inl s)) = inr (inl (l, s))
  under_after c d rest l (inr (inr s)) = inr (inr s)

  from_under : (c : Spot) (rest : List Spot) → Under c → Each Low rest → EachFrom Around c rest → On c rest ⊎ Each Under rest ⊎ Right (end_from c rest)
  from_under c [] under low left = inr (inl tt)
  from_under c (d ∷ rest) under low left = elim (le_or_lt (pos 0) (Y d)) [
    | inl l ↦ elim (from_right d rest (is_level d low.0 l) (not_left (X c) (Y c) (X d) (Y d) (is_level d low.0 l) under left.0) low.1 left.1) [ inl s ↦ inl (inr s) | inr s ↦ inr (inr (s.0, s.1)) ]
    | inr l ↦ under_after c d rest l (from_under d rest l low.1 left.1)
  ]

  -- from a level one on the left
  abbrev Left_on : Spot → List Spot → Type 0
  Left_on c rest = On c rest ⊎ EachFrom Level c rest ⊎ Under (end_from c rest) ⊎ Right (end_from c rest)

  left_after : (c d : Spot) (rest : List Spot) → Level c d → Left_on d rest → Left_on c (d ∷ rest)
  left_after c d rest l (inl s) = inl (inr s)
  left_after c d rest l (inr (inl s)) = inr (inl (l, s))
  left_after c d rest l (inr (inr s)) = inr (inr s)

  left_under : (c d : Spot) (rest : List Spot) → Under d → On d rest ⊎ Each Under rest ⊎ Right (end_from d rest) → Left_on c (d ∷ rest)
  left_under c d rest l (inl s) = inl (inr s)
  left_under c d rest l (inr (inl s)) = inr (inr (inl (end_has Under d rest l s)))
  left_under c d rest l (inr (inr s)) = inr (inr (inr s))

  from_left : (c : Spot) (rest : List Spot) → Y c ≡ pos 0 → X c <ℤ pos 0 → Each Low rest → EachFrom Around c rest → Left_on c rest
  from_left c [] level on_left low left = inr (inl tt)
  from_left c (d ∷ rest) level on_left low left = elim (le_or_lt (pos 0) (Y d)) [
    | inl l ↦ elim (le_or_lt (pos 0) (X d)) [
      | inl m ↦ inl (inl (ahead c d level (is_level d low.0 l) (omega (arith, linear, on_left)) m))
      | inr m ↦ left_after c d rest (level, is_level d low.0 l) (from_left d rest (is_level d low.0 l) m low.1 left.1)
    ]
    | inr l ↦ left_under c d rest l (from_under d rest l low.1 left.1)
  ]

  -- ---- the way comes back

  under_back : (a : Spot) (rest : List Spot) → end_from a rest ≡ a → Under a → On a rest ⊎ Each Under rest ⊎ Right (end_from a rest) → On a rest ⊎ Each Under (a ∷ rest) ⊎ EachFrom Level a rest
  under_back a rest closed u (inl s) = inl s
  under_back a rest closed u (inr (inl s)) = inr (inl (u, s))
  under_back a rest closed u (inr (inr s)) = absurd (let e : Y a ≡ pos 0 = rw closed at s.0 in omega (arith, linear, e, u))

  left_back : (a : Spot) (rest : List Spot) → end_from a rest ≡ a → Y a ≡ pos 0 → X a <ℤ pos 0 → Left_on a rest → On a rest ⊎ Each Under (a ∷ rest) ⊎ EachFrom Level a rest
  left_back a rest closed level on_left (inl s) = inl s
  left_back a rest closed level on_left (inr (inl s)) = inr (inr s)
  left_back a rest closed level on_left (inr (inr (inl s))) = absurd (let e : Y a <ℤ pos 0 = rw closed at s in omega (arith, linear, e, level))
  left_back a rest closed level on_left (inr (inr (inr s))) = absurd (let e : pos 0 ≤ℤ X a = rw closed at s.1 in omega (arith, linear, e, on_left))

  -- the point is on an edge, or over all corners, or at the height of all
  pub over : (a : Spot) (rest : List Spot) → end_from a rest ≡ a → Each Low (a ∷ rest) → EachFrom Around a rest → On a rest ⊎ Each Under (a ∷ rest) ⊎ EachFrom Level a rest
  over a rest closed low left = elim (le_or_lt (pos 0) (Y a)) [
    | inl l ↦ elim (le_or_lt (pos 0) (X a)) [
      | inl m ↦ elim (from_right a rest (is_level a low.0 l) m low.1 left) [ inl s ↦ inl s | inr s ↦ inr (inr s.2) ]
      | inr m ↦ left_back a rest closed (is_level a low.0 l) m (from_left a rest (is_level a low.0 l) m low.1 left)
    ]
    | inr l ↦ under_back a rest closed l (from_under a rest l low.1 left)
  ]

-- ---- the law

-- n times the side by the ways from the point, and from the point in a mirror
led : (ax ay bx by x y n : ℤ) → (n *ℤ ax -ℤ x) *ℤ (n *ℤ by -ℤ y) -ℤ (n *ℤ ay -ℤ y) *ℤ (n *ℤ bx -ℤ x) ≡ n *ℤ ((bx -ℤ ax) *ℤ (y -ℤ n *ℤ ay) +ℤ (n *ℤ ax -ℤ x) *ℤ (by -ℤ ay))
led ax ay bx by x y n = simp ring (omega (arith, linear))

led_back : (ax ay bx by x y n : ℤ) → (x -ℤ n *ℤ ax) *ℤ (n *ℤ by -ℤ y) -ℤ (n *ℤ ay -ℤ y) *ℤ (x -ℤ n *ℤ bx) ≡ n *ℤ ((ax -ℤ bx) *ℤ (y -ℤ n *ℤ by) +ℤ (n *ℤ bx -ℤ x) *ℤ (ay -ℤ by))
led_back ax ay bx by x y n = simp ring (omega (arith, linear))

-- three sides of a place make the turn of three corners
sides : (ax ay bx by cx cy x y n : ℤ) → ((bx -ℤ ax) *ℤ (y -ℤ n *ℤ ay) +ℤ (n *ℤ ax -ℤ x) *ℤ (by -ℤ ay)) +ℤ ((cx -ℤ bx) *ℤ (y -ℤ n *ℤ by) +ℤ (n *ℤ bx -ℤ x) *ℤ (cy -ℤ by)) +ℤ ((ax -ℤ cx) *ℤ (y -ℤ n *ℤ cy) +ℤ (n *ℤ cx -ℤ x) *ℤ (ay -ℤ cy))
    ≡ n *ℤ ((bx -ℤ ax) *ℤ (cy -ℤ ay) -ℤ (by -ℤ ay) *ℤ (cx -ℤ ax))
sides ax ay bx by cx cy x y n = simp ring (omega (arith, linear))

no_factor : (n z : ℤ) → pos 1 ≤ℤ n → n *ℤ z ≡ pos 0 → z ≡ pos 0
no_factor n z some e =
    let f : z ≤ℤ pos 0 = times_cancel n z (pos 0) some (omega (arith, linear, e, times-zero n)) in
    let g : pos 0 ≤ℤ z = times_cancel n (pos 0) z some (omega (arith, linear, e, times-zero n)) in
    omega (arith, linear, f, g)

added : (n a b c : ℤ) → n *ℤ (a +ℤ b +ℤ c) ≡ n *ℤ a +ℤ n *ℤ b +ℤ n *ℤ c
added n a b c = simp ring (omega (arith, linear))

neg_turn : (a b c d : ℤ) → neg_ℤ a *ℤ neg_ℤ b -ℤ neg_ℤ c *ℤ neg_ℤ d ≡ a *ℤ b -ℤ c *ℤ d
neg_turn a b c d = simp ring (omega (arith, linear))

module _ (p : Point) where
  abbrev x_of : Bool → Spot → ℤ
  x_of false c = p.n *ℤ c.x -ℤ p.x
  x_of true c = p.x -ℤ p.n *ℤ c.x

  abbrev y_of : Spot → ℤ
  y_of c = p.n *ℤ c.y -ℤ p.y

  abbrev turn_of : Bool → Spot → Spot → ℤ
  turn_of back s t = x_of back s *ℤ y_of t -ℤ y_of s *ℤ x_of back t

  turns_left : (back : Bool) (s t : Spot) → Left back p s t → pos 0 ≤ℤ turn_of back s t
  turns_left false s t h = rw (led s.x s.y t.x t.y p.x p.y p.n) (times_from_zero p.n (side_of s t p.x p.y p.n) (omega (arith, linear, p.positive)) h)
  turns_left true s t h = rw (led_back s.x s.y t.x t.y p.x p.y p.n) (times_from_zero p.n (side_of t s p.x p.y p.n) (omega (arith, linear, p.positive)) h)

  is_flat : (back : Bool) (a b c : Spot) → turn_of back a b +ℤ turn_of back b c +ℤ turn_of back c a ≡ pos 0 → IsFlat a b c
  is_flat false a b c e =
      let f : p.n *ℤ (side_of a b p.x p.y p.n +ℤ side_of b c p.x p.y p.n +ℤ side_of c a p.x p.y p.n) ≡ pos 0 =
      omega (arith, linear, e, led a.x a.y b.x b.y p.x p.y p.n, led b.x b.y c.x c.y p.x p.y p.n, led c.x c.y a.x a.y p.x p.y p.n, added p.n (side_of a b p.x p.y p.n) (side_of b c p.x p.y p.n) (side_of c a p.x p.y p.n)) in
      no_factor p.n (cross_of a b c) p.positive (sym (sides a.x a.y b.x b.y c.x c.y p.x p.y p.n) ∙ no_factor p.n _ p.positive f)
  is_flat true a b c e =
      let f : p.n *ℤ (side_of b a p.x p.y p.n +ℤ side_of c b p.x p.y p.n +ℤ side_of a c p.x p.y p.n) ≡ pos 0 =
      omega (arith, linear, e, led_back a.x a.y b.x b.y p.x p.y p.n, led_back b.x b.y c.x c.y p.x p.y p.n, led_back c.x c.y a.x a.y p.x p.y p.n, added p.n (side_of b a p.x p.y p.n) (side_of c b p.x p.y p.n) (side_of a c p.x p.y p.n)) in
      let g : side_of b a p.x p.y p.n +ℤ side_of c b p.x p.y p.n +ℤ side_of a c p.x p.y p.n ≡ pos 0 = no_factor p.n _ p.positive f in
      no_factor p.n (cross_of a b c) p.positive (omega (arith, linear, g, sides a.x a.y b.x b.y c.x c.y p.x p.y p.n, reversed a.x a.y b.x b.y p.x p.y p.n, reversed b.x b.y c.x c.y p.x p.y p.n, reversed c.x c.y a.x a.y p.x p.y p.n))

  -- a level edge on both sides of the point
  ahead : (back : Bool) (c d : Spot) → y_of c ≡ pos 0 → y_of d ≡ pos 0 → x_of back c ≤ℤ pos 0 → pos 0 ≤ℤ x_of back d → InCapsule c d (pos 0) p
  ahead false c d h k l m = on_level c d p h k (omega (arith, linear, l)) (omega (arith, linear, m))
  ahead true c d h k l m = on_turned c d (pos 0) p (on_level d c p k h (omega (arith, linear, m)) (omega (arith, linear, l)))

  behind : (back : Bool) (c d : Spot) → y_of c ≡ pos 0 → y_of d ≡ pos 0 → pos 0 ≤ℤ x_of back c → x_of back d ≤ℤ pos 0 → InCapsule c d (pos 0) p
  behind false c d h k l m = on_turned c d (pos 0) p (on_level d c p k h (omega (arith, linear, m)) (omega (arith, linear, l)))
  behind true c d h k l m = on_level c d p h k (omega (arith, linear, l)) (omega (arith, linear, m))

  at_start : (back : Bool) (c d : Spot) → y_of c ≡ pos 0 → x_of back c ≡ pos 0 → InCapsule c d (pos 0) p
  at_start false c d h k = on_start c d p (omega (arith, linear, k)) (omega (arith, linear, h))
  at_start true c d h k = on_start c d p k (omega (arith, linear, h))

  -- ---- the three cases

  module _ (back : Bool) (a : Spot) (rest : List Spot) (closed : end_from a rest ≡ a) (wide : ¬ EachFrom (IsFlat a) a rest) (left : EachFrom (Left back p) a rest) where
    turning : EachFrom (λ s t. pos 0 ≤ℤ turn_of back s t) a rest
    turning = from_as (turns_left back) a rest left

    not_all_up : Each (λ q. up p.y p.n q ≡ true) (a ∷ rest) → ⊥
    not_all_up all = wide (all_lined (x_of back) y_of (is_flat back) a rest closed (each_as (λ q h. omega (arith, linear, is_up p.y p.n q h)) (a ∷ rest) all) turning)

    not_all_under : Each (λ q. y_of q <ℤ pos 0) (a ∷ rest) → ⊥
    not_all_under all = wide (all_lined (λ q. neg_ℤ (x_of back q)) (λ q. neg_ℤ (y_of q)) flat_back a rest closed (each_as (λ q h. omega (arith, linear, h)) (a ∷ rest) all) (from_as turned_back a rest turning))
      where
        turned_back : (s t : Spot) → pos 0 ≤ℤ turn_of back s t → pos 0 ≤ℤ (neg_ℤ (x_of back s) *ℤ neg_ℤ (y_of t) -ℤ neg_ℤ (y_of s) *ℤ neg_ℤ (x_of back t))
        turned_back s t h = omega (arith, linear, h, neg_turn (x_of back s) (y_of t) (y_of s) (x_of back t))

        flat_back : (a b c : Spot) → (neg_ℤ (x_of back a) *ℤ neg_ℤ (y_of b) -ℤ neg_ℤ (y_of a) *ℤ neg_ℤ (x_of back b)) +ℤ (neg_ℤ (x_of back b) *ℤ neg_ℤ (y_of c) -ℤ neg_ℤ (y_of b) *ℤ neg_ℤ (x_of back c)) +ℤ (neg_ℤ (x_of back c) *ℤ neg_ℤ (y_of a) -ℤ neg_ℤ (y_of c) *ℤ neg_ℤ (x_of back a)) ≡ pos 0 → IsFlat a b c
        flat_back a b c e = is_flat back a b c (omega (arith, linear, e, neg_turn (x_of back a) (y_of b) (y_of a) (x_of back b), neg_turn (x_of back b) (y_of c) (y_of b) (x_of back c), neg_turn (x_of back c) (y_of a) (y_of c) (x_of back a)))

    level_flat : (s t : Spot) → y_of a ≡ pos 0 → (y_of s ≡ pos 0) × (y_of t ≡ pos 0) → IsFlat a s t
    level_flat s t h k = is_flat back a s t (omega (arith, linear, none (x_of back a) (y_of s) (y_of a) (x_of back s) k.0 h, none (x_of back s) (y_of t) (y_of s) (x_of back t) k.1 k.0, none (x_of back t) (y_of a) (y_of t) (x_of back a) h k.1))
      where
        none : (u v w z : ℤ) → v ≡ pos 0 → w ≡ pos 0 → u *ℤ v -ℤ w *ℤ z ≡ pos 0
        none u v w z e f = rw (e, f) (omega (arith, linear, times-zero u, zero-times z))

    first_level : (rest : List Spot) → ¬ EachFrom (IsFlat a) a rest → EachFrom (λ s t. (y_of s ≡ pos 0) × (y_of t ≡ pos 0)) a rest → y_of a ≡ pos 0
    first_level [] wide all = absurd (wide tt)
    first_level (b ∷ rest) wide all = all.0.0

    not_all_level : EachFrom (λ s t. (y_of s ≡ pos 0) × (y_of t ≡ pos 0)) a rest → ⊥
    not_all_level all = wide (from_as (λ s t k. level_flat s t (first_level rest wide all) k) a rest all)

    abbrev Inside : Type 0
    Inside = InArea (edges_from a rest) p

    under : SomeEdge (OnEdge p) (edges_from a rest) ⊎ Each (λ q. y_of q <ℤ pos 0) (a ∷ rest) ⊎ EachFrom (λ s t. (y_of s ≡ pos 0) × (y_of t ≡ pos 0)) a rest → Inside
    under (inl s) = inl s
    under (inr (inl all)) = absurd (not_all_under all)
    under (inr (inr all)) = absurd (not_all_level all)

    crossing : risen (up p.y p.n) a rest ≡ true → SomeEdge (OnEdge p) (edges_from a rest) ⊎ (odd (edges_from a rest) p.x p.y p.n ≡ risen (up p.y p.n) a rest) → Inside
    crossing e (inl s) = inl s
    crossing e (inr h) = inr ((odd_is (edges_from a rest) p).0 (h ∙ e))

    by_height : Each (λ q. up p.y p.n q ≡ true) (a ∷ rest) ⊎ Each (λ q. up p.y p.n q ≡ false) (a ∷ rest) ⊎ (risen (up p.y p.n) a rest ≡ true) → Inside
    by_height (inl all) = absurd (not_all_up all)
    by_height (inr (inl all)) = under (over (x_of back) y_of p (ahead back) (behind back) (at_start back) a rest closed (each_as (is_down p.y p.n) (a ∷ rest) all) turning)
    by_height (inr (inr e)) = crossing e (along back p a rest closed left)

    inside : (r : Bool) → changes r a rest ≤ 2 → Inside
    inside r few = by_height (told (up p.y p.n) (rise_up p) (fall_up p) r a rest closed few)

pub lies_left : (points : List Spot) (p : Point) → GoesRound (λ b c. pos 0 ≤ℤ side_of b c p.x p.y p.n) points → InArea (edges_of points) p
lies_left [] p round = absurd round
lies_left (a ∷ rest) p round = elim round.2 [ inl all ↦ at false all | inr all ↦ at true all ]
  where
    at : (back : Bool) → EachFrom (Left back p) a rest → InArea (edges_from a rest) p
    at back left = elim round.1.once [ inl few ↦ inside p back a rest round.0 round.1.wide left true few | inr few ↦ inside p back a rest round.0 round.1.wide left false few ]

-- where what is said of the edges puts the point there
pub lies_inside : {P : Spot → Spot → Type 0} → (points : List Spot) (p : Point) → ((b c : Spot) → P b c → pos 0 ≤ℤ side_of b c p.x p.y p.n) → GoesRound P points → InArea (edges_of points) p
lies_inside points p to round = lies_left points p (round_as to points round)
