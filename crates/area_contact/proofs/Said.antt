-- The two laws, in the words of the definitions.
use Rattle.std.proofs.Common.{Bool, IsTrue, ◌≡◌, ◌↔◌, inl, inr, ℤ, pos, ◌*ℤ◌, ◌+ℤ◌, ◌-ℤ◌, ◌≤ℤ◌, List, [], ◌∷◌, sym, subst, ◌∙◌, arith}
use Rattle.planar.specs.declared.Spot.{Spot}
use Rattle.planar.specs.Plane.{RayCrosses, Point}
use Rattle.planar.proofs.EdgeLaw.{xor}
use Rattle.planar.proofs.Ring.{ring, linear}
use Rattle.area_contact.specs.declared.Edge.{Edge}
use Rattle.area_contact.specs.Contour.{edges_from, edges_of, ExactlyOne, InArea, IsClosed, MeetsWay, OddCrossed, OnEdge, OnWay, SomeEdge, Swept}
use Rattle.area_contact.specs.Parity.{crossed, crossed_is, odd, odd_is, one_is}
use Rattle.area_contact.proofs.Ways.{edge_upward, place, some_edge, sweeps, sweeps_is}
use Rattle.area_contact.proofs.Ways.{parity_law as parity}

-- q told with the n of p
abbrev beside : Point → Point → Point
beside p q = place q.x q.y p.n p.positive

meets_beside : (p q : Point) (e : Edge) → MeetsWay p (beside p q) e → MeetsWay p q e
meets_beside p q e m = record {
  point = m.point;
  on_edge = m.on_edge;
  on_way = record { i = m.on_way.i; m = m.on_way.m; from_start = m.on_way.from_start; to_end = m.on_way.to_end; positive = m.on_way.positive; across = m.on_way.across; up = m.on_way.up };
}

-- equal tests decide equal facts
through : {P Q : Type 0} (s t : Bool) → s ≡ t → IsTrue s ↔ P → IsTrue t ↔ Q → P ↔ Q
through s t e f g = (λ h. g.0 (sym e ∙ f.1 h), λ h. f.0 (e ∙ g.1 h))

pub edge_law : (e : Edge) (p q : Point) → p.n ≡ q.n → p.y ≤ℤ q.y → (MeetsWay p q e → ⊥) → ExactlyOne (RayCrosses e.start e.end p) (RayCrosses e.start e.end q) ↔ ExactlyOne (Swept p q e.start) (Swept p q e.end)
edge_law e p q same climb apart =
    let l : xor (crossed e p.x p.y p.n) (crossed e q.x q.y p.n) ≡ xor (sweeps p.x p.y q.x q.y p.n e.start) (sweeps p.x p.y q.x q.y p.n e.end) = edge_upward e p.x p.y q.x q.y p.n p.positive climb (λ m. apart (meets_beside p q e m)) in
    let f : IsTrue (crossed e q.x q.y p.n) ↔ RayCrosses e.start e.end q = subst (λ (n : ℤ). IsTrue (crossed e q.x q.y n) ↔ RayCrosses e.start e.end q) (sym same) (crossed_is e q) in
    let g : IsTrue (sweeps p.x p.y q.x q.y p.n e.start) ↔ Swept p q e.start = sweeps_is p.x p.y q.x q.y p.n p.positive e.start in
    let h : IsTrue (sweeps p.x p.y q.x q.y p.n e.end) ↔ Swept p q e.end = sweeps_is p.x p.y q.x q.y p.n p.positive e.end in
    through (xor (crossed e p.x p.y p.n) (crossed e q.x q.y p.n)) (xor (sweeps p.x p.y q.x q.y p.n e.start) (sweeps p.x p.y q.x q.y p.n e.end)) l
    (one_is (crossed e p.x p.y p.n) (crossed e q.x q.y p.n) (crossed_is e p) f)
    (one_is (sweeps p.x p.y q.x q.y p.n e.start) (sweeps p.x p.y q.x q.y p.n e.end) g h)

-- the ends of the way lie on it
at_first : (p q : Point) → OnWay p q p
at_first p q = record { i = pos 0; m = pos 1; from_start = record { le = tt }; to_end = record { le = tt }; positive = record { le = tt }; across = start_is p.n p.x (q.x -ℤ p.x); up = start_is p.n p.y (q.y -ℤ p.y) }
  where
    start_is : (n x v : ℤ) → (pos 1 *ℤ n) *ℤ x ≡ n *ℤ (pos 1 *ℤ x +ℤ pos 0 *ℤ v)
    start_is n x v = simp ring (omega (arith, linear))

at_last : (p q : Point) → p.n ≡ q.n → OnWay p q q
at_last p q same = record { i = pos 1; m = pos 1; from_start = record { le = tt }; to_end = record { le = tt }; positive = record { le = tt }; across = end_is p.n q.n p.x q.x same; up = end_is p.n q.n p.y q.y same }
  where
    end_is : (n m x y : ℤ) → n ≡ m → (pos 1 *ℤ n) *ℤ y ≡ m *ℤ (pos 1 *ℤ x +ℤ pos 1 *ℤ (y -ℤ x))
    end_is n m x y e = rw e (simp ring (omega (arith, linear)))

off_edges : (p q z : Point) (es : List Edge) → OnWay p q z → (SomeEdge (MeetsWay p q) es → ⊥) → SomeEdge (OnEdge z) es → ⊥
off_edges p q z es w none h = none (some_edge (λ e k. record { point = z; on_edge = k; on_way = w }) es h)

pub parity_law : (points : List Spot) (p q : Point) → IsClosed points → p.n ≡ q.n → (SomeEdge (MeetsWay p q) (edges_of points) → ⊥) → InArea (edges_of points) p ↔ InArea (edges_of points) q
parity_law [] p q closed same none = (λ h. h, λ h. h)
parity_law (a ∷ rest) p q closed same none = (there, back)
  where
    l : odd (edges_from a rest) p.x p.y p.n ≡ odd (edges_from a rest) q.x q.y p.n
    l = parity a rest p.x p.y q.x q.y p.n p.positive closed (λ m. none (some_edge (meets_beside p q) (edges_from a rest) m))

    same_parity : OddCrossed (edges_from a rest) p ↔ OddCrossed (edges_from a rest) q
    same_parity = through (odd (edges_from a rest) p.x p.y p.n) (odd (edges_from a rest) q.x q.y p.n) l (odd_is (edges_from a rest) p) (subst (λ (n : ℤ). IsTrue (odd (edges_from a rest) q.x q.y n) ↔ OddCrossed (edges_from a rest) q) (sym same) (odd_is (edges_from a rest) q))

    there : InArea (edges_from a rest) p → InArea (edges_from a rest) q
    there (inl h) = absurd (off_edges p q p (edges_from a rest) (at_first p q) none h)
    there (inr h) = inr (same_parity.0 h)

    back : InArea (edges_from a rest) q → InArea (edges_from a rest) p
    back (inl h) = absurd (off_edges p q q (edges_from a rest) (at_last p q same) none h)
    back (inr h) = inr (same_parity.1 h)
