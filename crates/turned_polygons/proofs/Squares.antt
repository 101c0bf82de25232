-- A linear number that is 0 or over at the four corners of a square is so in it.
use Rattle.std.proofs.Common.{◌≡◌, ◌⊎◌, inl, inr, ℤ, pos, neg_ℤ, ◌+ℤ◌, ◌-ℤ◌, ◌*ℤ◌, ◌≤ℤ◌, arith, refl}
use Rattle.planar.specs.Plane.{square}
use Rattle.planar.proofs.Ring.{ring, linear, le_or_lt, times_mono, times_from_zero, square_cancel, square_from_zero, square-neg}

-- one of both ends of a side
abbrev pub IsEnd : ℤ → ℤ → Type 0
IsEnd f s = (s ≡ f) ⊎ (s ≡ neg_ℤ f)

-- at one of both the multiple of a is the most
pub record Furthest (a f n d : ℤ) : Type 0 where
  pub at : ℤ
  pub is : IsEnd f at
  pub most : (a *ℤ d) ≤ℤ (n *ℤ (a *ℤ at))

pub furthest : (a f n d : ℤ) → d ≤ℤ (n *ℤ f) → neg_ℤ d ≤ℤ (n *ℤ f) → Furthest a f n d
furthest a f n d h k = elim (le_or_lt (pos 0) a) [
  | inl l ↦ record { at = f; is = inl refl; most = let g : (a *ℤ d) ≤ℤ (a *ℤ (n *ℤ f)) = times_mono a d (n *ℤ f) l h in omega (arith, linear, g, swapped a n f) }
  | inr l ↦ record {
    at = neg_ℤ f;
    is = inr refl;
    most =
        let g : (neg_ℤ a *ℤ neg_ℤ d) ≤ℤ (neg_ℤ a *ℤ (n *ℤ f)) = times_mono (neg_ℤ a) (neg_ℤ d) (n *ℤ f) (omega (arith, linear, l)) k in
        omega (arith, linear, g, both a d, turned a n f);
  }
]
  where
    swapped : (a n f : ℤ) → a *ℤ (n *ℤ f) ≡ n *ℤ (a *ℤ f)
    swapped a n f = simp ring

    both : (a d : ℤ) → neg_ℤ a *ℤ neg_ℤ d ≡ a *ℤ d
    both a d = simp ring (omega (arith, linear))

    turned : (a n f : ℤ) → neg_ℤ a *ℤ (n *ℤ f) ≡ n *ℤ (a *ℤ neg_ℤ f)
    turned a n f = simp ring (omega (arith, linear))

-- a number whose square is at most that of another lies between both
pub within : (d e r : ℤ) → pos 0 ≤ℤ r → (square d +ℤ square e) ≤ℤ square r → (d ≤ℤ r) × (neg_ℤ d ≤ℤ r)
within d e r some h = (
  square_cancel d r some (omega (arith, linear, h, square_from_zero e)),
  square_cancel (neg_ℤ d) r some (omega (arith, linear, h, square_from_zero e, square-neg d)),
)

-- ---- a line that a place of the square is moved by: m times the place is d and e from its middle

module _ (a b z n m f d e : ℤ) (some : pos 0 ≤ℤ n) (m_some : pos 0 ≤ℤ m) (corner : (s u : ℤ) → IsEnd f s → IsEnd f u → pos 0 ≤ℤ (z -ℤ n *ℤ (a *ℤ s +ℤ b *ℤ u))) where
  pub in_square : d ≤ℤ (m *ℤ f) → neg_ℤ d ≤ℤ (m *ℤ f) → e ≤ℤ (m *ℤ f) → neg_ℤ e ≤ℤ (m *ℤ f) → pos 0 ≤ℤ (m *ℤ z -ℤ n *ℤ (a *ℤ d +ℤ b *ℤ e))
  in_square h k l o =
      let s = furthest a f m d h k in
      let u = furthest b f m e l o in
      let g : pos 0 ≤ℤ (m *ℤ (z -ℤ n *ℤ (a *ℤ s.at +ℤ b *ℤ u.at))) = times_from_zero m (z -ℤ n *ℤ (a *ℤ s.at +ℤ b *ℤ u.at)) m_some (corner s.at u.at s.is u.is) in
      let i : (n *ℤ (a *ℤ d +ℤ b *ℤ e)) ≤ℤ (n *ℤ (m *ℤ (a *ℤ s.at) +ℤ m *ℤ (b *ℤ u.at))) = times_mono n (a *ℤ d +ℤ b *ℤ e) (m *ℤ (a *ℤ s.at) +ℤ m *ℤ (b *ℤ u.at)) some (omega (arith, linear, s.most, u.most)) in
      omega (arith, linear, g, i, parted m z n (a *ℤ s.at) (b *ℤ u.at))
    where
      parted : (m z n p q : ℤ) → m *ℤ (z -ℤ n *ℤ (p +ℤ q)) ≡ m *ℤ z -ℤ n *ℤ (m *ℤ p +ℤ m *ℤ q)
      parted m z n p q = simp ring (omega (arith, linear))

-- ---- a line itself

-- m w is at least what it is at some corner, less what is over there
pub in_line : (a b w n m f d e : ℤ) → pos 0 ≤ℤ n → ((s u : ℤ) → IsEnd f s → IsEnd f u → pos 0 ≤ℤ (m *ℤ w +ℤ n *ℤ (a *ℤ (m *ℤ u -ℤ e) -ℤ b *ℤ (m *ℤ s -ℤ d))))
    → d ≤ℤ (m *ℤ f) → neg_ℤ d ≤ℤ (m *ℤ f) → e ≤ℤ (m *ℤ f) → neg_ℤ e ≤ℤ (m *ℤ f) → pos 0 ≤ℤ (m *ℤ w)
in_line a b w n m f d e some corner h k l o =
    let s = furthest b f m d h k in
    let u = furthest (neg_ℤ a) f m e l o in
    let g = corner s.at u.at s.is u.is in
    let i : (n *ℤ (a *ℤ (m *ℤ u.at -ℤ e) -ℤ b *ℤ (m *ℤ s.at -ℤ d))) ≤ℤ (n *ℤ pos 0) =
    times_mono n (a *ℤ (m *ℤ u.at -ℤ e) -ℤ b *ℤ (m *ℤ s.at -ℤ d)) (pos 0) some (omega (arith, linear, s.most, u.most, left a m u.at e, right b m s.at d)) in
    omega (arith, linear, g, i, none n)
  where
    left : (a m u e : ℤ) → a *ℤ (m *ℤ u -ℤ e) ≡ neg_ℤ (m *ℤ (neg_ℤ a *ℤ u)) +ℤ neg_ℤ a *ℤ e
    left a m u e = simp ring (omega (arith, linear))

    right : (b m s d : ℤ) → b *ℤ (m *ℤ s -ℤ d) ≡ m *ℤ (b *ℤ s) -ℤ b *ℤ d
    right b m s d = simp ring (omega (arith, linear))

    none : (n : ℤ) → n *ℤ pos 0 ≡ pos 0
    none n = simp ring
