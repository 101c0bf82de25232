-- A figure that touches no edge of a contour, and whose first spot lies in it, lies in it.
use Rattle.std.proofs.Common.{◌≡◌, inl, inr, IsTrue, false, ℤ, pos, ◌*ℤ◌, ◌≤ℤ◌, ◌<ℤ◌, List, [], ◌∷◌, sym, subst, ◌∙◌, arith}
use Rattle.planar.specs.declared.Frame.{Frame}
use Rattle.planar.specs.declared.Spot.{Spot}
use Rattle.planar.specs.Plane.{EachFrom, InCapsule, Point, Share, at}
use Rattle.planar.proofs.Meet.{holds_start}
use Rattle.planar.proofs.Ring.{ring, linear, le_or_lt, mul_comm, one-times, times-one, over_zero}
use Rattle.contact.specs.Solid.{SharePoint}
use Rattle.area_contact.specs.declared.Edge.{Edge}
use Rattle.area_contact.specs.Contour.{InArea, IsContour, OnEdge, SomeEdge, edges_from, end_from}
use Rattle.area_contact.specs.Parity.{odd, odd_is}
use Rattle.area_contact.proofs.Areas.{MeetsSome, told_anew}
use Rattle.area_contact.proofs.Hits.{Before, Hit, Never, first_hit}
use Rattle.area_contact.proofs.Paths.{capsule-scaled, pulled, walk}
use Rattle.area_contact.proofs.Ways.{place, some_edge}
use Rattle.board_shapes.specs.Figures.{Figure, InFigure, IsLawfulFigure, filled, round}
use Rattle.clear_polarity.specs.Taken.{AreApart, LiesIn, LiesInside, edge_from}

-- no edge of the line shares a point with the figure
no_edge : (frame : Frame) (f : Figure) (a : Spot) (rest : List Spot) → EachFrom (λ u v. AreApart frame (edge_from u v) f) a rest → SomeEdge (λ e. SharePoint (λ p. OnEdge p e) (InFigure f)) (edges_from a rest) → ⊥
no_edge frame f a [] each some = absurd some
no_edge frame f a (b ∷ rest) each (inl s) = each.0.apart s
no_edge frame f a (b ∷ rest) each (inr s) = no_edge frame f b rest each.1 s

-- ---- strokes

stroke_inside : (frame : Frame) (a : Spot) (rest : List Spot) (u v : Spot) (r : ℤ) (p : Point) → end_from a rest ≡ a → pos 0 ≤ℤ r → EachFrom (λ c d. AreApart frame (edge_from c d) (round (record { a = u; b = v; r = r }))) a rest → InArea (edges_from a rest) (at u) → InCapsule u v r p → InArea (edges_from a rest) p
stroke_inside frame a rest u v r p closed hr each first h = by first
  where
    none : SomeEdge (λ e. Share e.start e.end (pos 0) u v r) (edges_from a rest) → ⊥
    none s = no_edge frame (round (record { a = u; b = v; r = r })) a rest each (some_edge (λ e k. record { point = k.point; in_first = k.in_first; in_second = k.in_second }) (edges_from a rest) s)

    by : InArea (edges_from a rest) (at u) → InArea (edges_from a rest) p
    by (inl on) = absurd (none (some_edge (λ e k. record { point = at u; in_first = k; in_second = holds_start u v r }) (edges_from a rest) on))
    by (inr k) = inr ((odd_is (edges_from a rest) p).0 (pulled a rest u v r p closed hr h none ∙ (odd_is (edges_from a rest) (at u)).1 k))

-- ---- contours

-- an edge of the one that meets some of the other
on_other : (es fs : List Edge) → SomeEdge (MeetsSome fs) es → SomeEdge (λ f. SharePoint (λ p. OnEdge p f) (λ p. SomeEdge (OnEdge p) es)) fs
on_other [] fs h = absurd h
on_other (e ∷ es) fs (inl h) = some_edge (λ f k. record { point = k.point; in_first = k.in_second; in_second = inl k.in_first }) fs h
on_other (e ∷ es) fs (inr h) = some_edge (λ f k. record { point = k.point; in_first = k.in_first; in_second = inr k.in_second }) fs (on_other es fs h)

meet_at : (p : Point) (es fs : List Edge) → SomeEdge (OnEdge p) es → SomeEdge (OnEdge p) fs → SomeEdge (MeetsSome fs) es
meet_at p es fs h k = some_edge (λ e l. some_edge (λ f m. record { point = p; in_first = l; in_second = m }) fs k) es h

-- the line from b lies inside the contour from a, whose edges share no point with what the line bounds
module _ (a : Spot) (rest : List Spot) (b : Spot) (more : List Spot) (closed : end_from a rest ≡ a)
    (none : SomeEdge (λ e. SharePoint (λ p. OnEdge p e) (InArea (edges_from b more))) (edges_from a rest) → ⊥) (start_in : IsTrue (odd (edges_from a rest) b.x b.y (pos 1))) where
  no_meeting : SomeEdge (MeetsSome (edges_from a rest)) (edges_from b more) → ⊥
  no_meeting h = none (some_edge (λ e k. record { point = k.point; in_first = k.in_first; in_second = inl k.in_second }) (edges_from a rest) (on_other (edges_from b more) (edges_from a rest) h))

  on_line : (p : Point) → SomeEdge (OnEdge p) (edges_from b more) → IsTrue (odd (edges_from a rest) p.x p.y p.n)
  on_line p h = walk a rest b more p closed h no_meeting ∙ start_in

  -- a place inside the line, and where the ray to its right first comes to the line, and to the contour
  module _ (x y n : ℤ) (some : pos 1 ≤ℤ n) (inside : IsTrue (odd (edges_from b more) x y n)) where
    here : (es : List Edge) → odd es x (pos 1 *ℤ y) (pos 1 *ℤ n) ≡ odd es x y n
    here es = rw (one-times y, one-times n)

    start : (N M : ℤ) → (x *ℤ M) <ℤ N → Before x N M x (pos 1)
    start N M h = (record { le = tt }, omega (arith, linear, times-one x), omega (arith, linear, times-one N))

    never : (es : List Edge) → Never (λ X D. odd es X (D *ℤ y) (D *ℤ n)) x → IsTrue (odd es x y n) → ⊥
    never es h k = let l : odd es x (pos 1 *ℤ y) (pos 1 *ℤ n) ≡ false = h x (pos 1) record { le = tt } (omega (arith, linear, times-one x)) in let m : odd es x (pos 1 *ℤ y) (pos 1 *ℤ n) ≡ odd es x y n = here es in cc

    module _ (h : Hit (λ X D. odd (edges_from b more) X (D *ℤ y) (D *ℤ n)) (λ p. SomeEdge (OnEdge p) (edges_from b more)) x y n) where
      at_hit : IsTrue (odd (edges_from a rest) h.N (h.M *ℤ y) (h.M *ℤ n))
      at_hit = on_line (place h.N (h.M *ℤ y) (h.M *ℤ n) h.somewhere) h.on

      alone : Never (λ X D. odd (edges_from a rest) X (D *ℤ y) (D *ℤ n)) x → ⊥
      alone l = let m : odd (edges_from a rest) h.N (h.M *ℤ y) (h.M *ℤ n) ≡ false = l h.N h.M h.positive (omega (arith, linear, h.beyond)) in let k = at_hit in cc

      module _ (k : Hit (λ X D. odd (edges_from a rest) X (D *ℤ y) (D *ℤ n)) (λ p. SomeEdge (OnEdge p) (edges_from a rest)) x y n) where
        -- the line comes first
        first : (h.N *ℤ k.M) <ℤ (k.N *ℤ h.M) → IsTrue (odd (edges_from a rest) x y n)
        first i = sym (here (edges_from a rest)) ∙ k.steady x (pos 1) (start k.N k.M k.beyond) ∙ sym (k.steady h.N h.M (h.positive, omega (arith, linear, h.beyond), i)) ∙ at_hit

        -- the contour does: it would be inside the line
        second : (k.N *ℤ h.M) <ℤ (h.N *ℤ k.M) → ⊥
        second i =
            let z : Point = place k.N (k.M *ℤ y) (k.M *ℤ n) k.somewhere in
            let l : IsTrue (odd (edges_from b more) k.N (k.M *ℤ y) (k.M *ℤ n)) = h.steady k.N k.M (k.positive, omega (arith, linear, k.beyond), i) ∙ sym (h.steady x (pos 1) (start h.N h.M h.beyond)) ∙ here (edges_from b more) ∙ inside in
            none (some_edge (λ e m. record { point = z; in_first = m; in_second = inr ((odd_is (edges_from b more) z).0 l) }) (edges_from a rest) k.on)

        -- both at once
        together : h.N *ℤ k.M ≡ k.N *ℤ h.M → ⊥
        together e = no_meeting (meet_at (place (k.M *ℤ h.N) (k.M *ℤ (h.M *ℤ y)) (k.M *ℤ (h.M *ℤ n)) (over_zero k.M (h.M *ℤ n) k.positive h.somewhere)) (edges_from b more) (edges_from a rest)
            (some_edge (λ f l. capsule-scaled f.start f.end (pos 0) k.M h.N (h.M *ℤ y) (h.M *ℤ n) h.somewhere (over_zero k.M (h.M *ℤ n) k.positive h.somewhere) l) (edges_from b more) h.on)
            (some_edge (λ f l. told_anew f.start f.end (h.M *ℤ k.N) (k.M *ℤ h.N) (h.M *ℤ (k.M *ℤ y)) (k.M *ℤ (h.M *ℤ y)) (h.M *ℤ (k.M *ℤ n)) (k.M *ℤ (h.M *ℤ n)) (over_zero h.M (k.M *ℤ n) h.positive k.somewhere) (over_zero k.M (h.M *ℤ n) k.positive h.somewhere)
            (mul_comm h.M k.N ∙ sym e ∙ mul_comm h.N k.M) (simp ring) (simp ring)
            (capsule-scaled f.start f.end (pos 0) h.M k.N (k.M *ℤ y) (k.M *ℤ n) k.somewhere (over_zero h.M (k.M *ℤ n) h.positive k.somewhere) l)) (edges_from a rest) k.on))

        hits : IsTrue (odd (edges_from a rest) x y n)
        hits = elim (le_or_lt (k.N *ℤ h.M) (h.N *ℤ k.M)) [
          | inl o ↦ elim (le_or_lt (h.N *ℤ k.M) (k.N *ℤ h.M)) [ inl i ↦ absurd (together (omega (arith, linear, o, i))) | inr i ↦ absurd (second i) ]
          | inr i ↦ first i
        ]

    inside_both : IsTrue (odd (edges_from a rest) x y n)
    inside_both = elim (first_hit (edges_from b more) x y n some) [
      | inl h ↦ absurd (never (edges_from b more) h inside)
      | inr h ↦ elim (first_hit (edges_from a rest) x y n some) [ inl k ↦ absurd (alone h k) | inr k ↦ hits h k ]
    ]

  contained : (p : Point) → InArea (edges_from b more) p → InArea (edges_from a rest) p
  contained p (inl h) = inr ((odd_is (edges_from a rest) p).0 (on_line p h))
  contained p (inr h) = inr ((odd_is (edges_from a rest) p).0 (inside_both p.x p.y p.n p.positive ((odd_is (edges_from b more) p).1 h)))

contour_inside : (frame : Frame) (a : Spot) (rest : List Spot) (b c : Spot) (more : List Spot) (p : Point) → end_from a rest ≡ a → EachFrom (λ u v. AreApart frame (edge_from u v) (filled (b ∷ c ∷ more))) a rest → InArea (edges_from a rest) (at b) → InArea (edges_from b (c ∷ more)) p → InArea (edges_from a rest) p
contour_inside frame a rest b c more p closed each first h = by first
  where
    none : SomeEdge (λ e. SharePoint (λ q. OnEdge q e) (InArea (edges_from b (c ∷ more)))) (edges_from a rest) → ⊥
    none s = no_edge frame (filled (b ∷ c ∷ more)) a rest each s

    by : InArea (edges_from a rest) (at b) → InArea (edges_from a rest) p
    by (inl on) = absurd (none (some_edge (λ e k. record { point = at b; in_first = k; in_second = inl (inl (holds_start b c (pos 0))) }) (edges_from a rest) on))
    by (inr k) = contained a rest b (c ∷ more) closed none ((odd_is (edges_from a rest) (at b)).1 k) p h

-- ---- any figure

lies_inside : (frame : Frame) (f : Figure) (points : List Spot) (p : Point) → IsLawfulFigure f → IsContour points → LiesInside frame f points → InFigure f p → InFigure (filled points) p
lies_inside frame f [] p lawful contour l h = absurd (omega (arith, contour.enough))
lies_inside frame (round s) (a ∷ rest) p lawful contour l h = stroke_inside frame a rest s.a s.b s.r p contour.closed lawful.2.0 l.edges l.first h
lies_inside frame (filled []) (a ∷ rest) p lawful contour l h = absurd (omega (arith, lawful.enough))
lies_inside frame (filled (b ∷ [])) (a ∷ rest) p lawful contour l h = absurd (omega (arith, lawful.enough))
lies_inside frame (filled (b ∷ c ∷ more)) (a ∷ rest) p lawful contour l h = contour_inside frame a rest b c more p contour.closed l.edges l.first h

pub lies_in : (frame : Frame) (f g : Figure) (p : Point) → IsLawfulFigure f → IsLawfulFigure g → LiesIn frame f g → InFigure f p → InFigure g p
lies_in frame f g p lawful lawful' (inl same) h = subst (λ (x : Figure). InFigure x p) same h
lies_in frame f (round s) p lawful lawful' (inr l) h = absurd l
lies_in frame f (filled points) p lawful lawful' (inr l) h = lies_inside frame f points p lawful lawful' l h
