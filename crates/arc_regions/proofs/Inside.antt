-- An area that shares no point with the edges of a contour lies inside it where its first corner does.
use Rattle.std.proofs.Common.{false, IsTrue, arith, sym, ℤ, pos, List, [], ◌∷◌, ◌*ℤ◌, ◌<ℤ◌, ◌∙◌, ◌≡◌, ◌≤ℤ◌, inl, inr}
use Rattle.planar.specs.declared.Spot.{Spot}
use Rattle.planar.specs.Plane.{Point, Share}
use Rattle.planar.proofs.Ring.{ring, linear, over_zero, mul_comm, one-times, times-one, le_or_lt}
use Rattle.area_contact.specs.declared.Edge.{Edge}
use Rattle.area_contact.specs.Contour.{edges_from, end_from, SomeEdge, OnEdge, InArea}
use Rattle.area_contact.specs.Parity.{odd, odd_is}
use Rattle.area_contact.proofs.Ways.{place, some_edge}
use Rattle.area_contact.proofs.Paths.{walk, capsule-scaled}
use Rattle.area_contact.proofs.Hits.{Hit, Never, Before, first_hit}
use Rattle.area_contact.proofs.Areas.{told_anew}

-- a point on an edge of each list
record Meeting (es fs : List Edge) : Type 0 where
  point : Point
  first : SomeEdge (OnEdge point) es
  second : SomeEdge (OnEdge point) fs

meeting_of : (e : Edge) (fs : List Edge) → SomeEdge (λ f. Share e.start e.end (pos 0) f.start f.end (pos 0)) fs → Meeting (e ∷ []) fs
meeting_of e [] h = absurd h
meeting_of e (f ∷ fs) (inl h) = record { point = h.point; first = inl h.in_first; second = inl h.in_second }
meeting_of e (f ∷ fs) (inr h) = let m = meeting_of e fs h in record { point = m.point; first = m.first; second = inr m.second }

meeting : (es fs : List Edge) → SomeEdge (λ e. SomeEdge (λ f. Share e.start e.end (pos 0) f.start f.end (pos 0)) fs) es → Meeting es fs
meeting [] fs h = absurd h
meeting (e ∷ es) fs (inl h) = let m = meeting_of e fs h in record { point = m.point; first = elim m.first [ inl k ↦ inl k | inr k ↦ absurd k ]; second = m.second }
meeting (e ∷ es) fs (inr h) = let m = meeting es fs h in record { point = m.point; first = inr m.first; second = m.second }

module _ (a : Spot) (rest : List Spot) (b : Spot) (rest' : List Spot) (closed : end_from a rest ≡ a) (closed' : end_from b rest' ≡ b)
    (apart : (p : Point) → SomeEdge (OnEdge p) (edges_from a rest) → InArea (edges_from b rest') p → ⊥) (inside : IsTrue (odd (edges_from a rest) b.x b.y (pos 1))) where
  -- a place on the area's contour
  on_contour : (p : Point) → SomeEdge (OnEdge p) (edges_from b rest') → IsTrue (odd (edges_from a rest) p.x p.y p.n)
  on_contour p on = walk a rest b rest' p closed on (λ h. (let m = meeting (edges_from b rest') (edges_from a rest) h in apart m.point m.second (inl m.first))) ∙ inside

  module _ (x y n : ℤ) (some : pos 1 ≤ℤ n) (odd_here : IsTrue (odd (edges_from b rest') x y n)) where
    here : (es : List Edge) → odd es x (pos 1 *ℤ y) (pos 1 *ℤ n) ≡ odd es x y n
    here es = rw (one-times y, one-times n)

    start : (N M : ℤ) → (x *ℤ M) <ℤ N → Before x N M x (pos 1)
    start N M h = (record { le = tt }, omega (arith, linear, times-one x), omega (arith, linear, times-one N))

    never : (es : List Edge) → Never (λ X D. odd es X (D *ℤ y) (D *ℤ n)) x → IsTrue (odd es x y n) → ⊥
    never es h k = let l : odd es x (pos 1 *ℤ y) (pos 1 *ℤ n) ≡ false = h x (pos 1) record { le = tt } (omega (arith, linear, times-one x)) in let m : odd es x (pos 1 *ℤ y) (pos 1 *ℤ n) ≡ odd es x y n = here es in cc

    -- the first place of the area's contour to the right is inside. Up to there no edge stands
    module _ (h : Hit (λ X D. odd (edges_from b rest') X (D *ℤ y) (D *ℤ n)) (λ p. SomeEdge (OnEdge p) (edges_from b rest')) x y n) where
      there : IsTrue (odd (edges_from a rest) h.N (h.M *ℤ y) (h.M *ℤ n))
      there = on_contour (place h.N (h.M *ℤ y) (h.M *ℤ n) h.somewhere) h.on

      by_none : Never (λ X D. odd (edges_from a rest) X (D *ℤ y) (D *ℤ n)) x → ⊥
      by_none k = let l : odd (edges_from a rest) h.N (h.M *ℤ y) (h.M *ℤ n) ≡ false = k h.N h.M h.positive (omega (arith, linear, h.beyond)) in let m = there in cc

      by_hit : Hit (λ X D. odd (edges_from a rest) X (D *ℤ y) (D *ℤ n)) (λ p. SomeEdge (OnEdge p) (edges_from a rest)) x y n → IsTrue (odd (edges_from a rest) x y n)
      by_hit k = elim (le_or_lt (k.N *ℤ h.M) (h.N *ℤ k.M)) [
        | inl o ↦ elim (le_or_lt (h.N *ℤ k.M) (k.N *ℤ h.M)) [ inl i ↦ absurd (together (omega (arith, linear, o, i))) | inr i ↦ absurd (before i) ]
        | inr i ↦ after i
      ]
        where
          before : (k.N *ℤ h.M) <ℤ (h.N *ℤ k.M) → ⊥
          before i = apart (place k.N (k.M *ℤ y) (k.M *ℤ n) k.somewhere) k.on
              (inr ((odd_is (edges_from b rest') (place k.N (k.M *ℤ y) (k.M *ℤ n) k.somewhere)).0 (h.steady k.N k.M (k.positive, omega (arith, linear, k.beyond), i) ∙ sym (h.steady x (pos 1) (start h.N h.M h.beyond)) ∙ here (edges_from b rest') ∙ odd_here)))

          after : (h.N *ℤ k.M) <ℤ (k.N *ℤ h.M) → IsTrue (odd (edges_from a rest) x y n)
          after i = sym (here (edges_from a rest)) ∙ k.steady x (pos 1) (start k.N k.M k.beyond) ∙ sym (k.steady h.N h.M (h.positive, omega (arith, linear, h.beyond), i)) ∙ there

          together : h.N *ℤ k.M ≡ k.N *ℤ h.M → ⊥
          together e = apart (place (k.M *ℤ h.N) (k.M *ℤ (h.M *ℤ y)) (k.M *ℤ (h.M *ℤ n)) (over_zero k.M (h.M *ℤ n) k.positive h.somewhere))
              (some_edge (λ f l. told_anew f.start f.end (h.M *ℤ k.N) (k.M *ℤ h.N) (h.M *ℤ (k.M *ℤ y)) (k.M *ℤ (h.M *ℤ y)) (h.M *ℤ (k.M *ℤ n)) (k.M *ℤ (h.M *ℤ n)) (over_zero h.M (k.M *ℤ n) h.positive k.somewhere) (over_zero k.M (h.M *ℤ n) k.positive h.somewhere)
              (mul_comm h.M k.N ∙ sym e ∙ mul_comm h.N k.M) (simp ring) (simp ring)
              (capsule-scaled f.start f.end (pos 0) h.M k.N (k.M *ℤ y) (k.M *ℤ n) k.somewhere (over_zero h.M (k.M *ℤ n) h.positive k.somewhere) l)) (edges_from a rest) k.on)
              (inl (some_edge (λ f l. capsule-scaled f.start f.end (pos 0) k.M h.N (h.M *ℤ y) (h.M *ℤ n) h.somewhere (over_zero k.M (h.M *ℤ n) k.positive h.somewhere) l) (edges_from b rest') h.on))

    within : IsTrue (odd (edges_from a rest) x y n)
    within = elim (first_hit (edges_from b rest') x y n some) [
      | inl h ↦ absurd (never (edges_from b rest') h odd_here)
      | inr h ↦ elim (first_hit (edges_from a rest) x y n some) [ inl k ↦ absurd (by_none h k) | inr k ↦ by_hit h k ]
    ]

  -- all of the area is inside
  pub all_inside : (p : Point) → InArea (edges_from b rest') p → IsTrue (odd (edges_from a rest) p.x p.y p.n)
  all_inside p (inl on) = on_contour p on
  all_inside p (inr o) = within p.x p.y p.n p.positive ((odd_is (edges_from b rest') p).1 o)
