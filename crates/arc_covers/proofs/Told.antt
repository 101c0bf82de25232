-- What stands for a region above it holds it.
use Rattle.std.proofs.Common.{◌≡◌, ◌⊎◌, inl, inr, ℕ, pos, List, [], ◌∷◌, ◌++◌, reverse, All, Bool, true, false, if◌then◌else◌, refl, sym, ap, ◌∙◌, subst}
use Rattle.std.proofs.lemmas.List.{reverse-append, reverse-reverse}
use Rattle.std.proofs.lemmas.List.Elements.{All-append, All-cons, All-nil, All-same, All-weaker}
use Rattle.planar.specs.Plane.{InCapsule, Point, at}
use Rattle.planar.specs.declared.Spot.{Spot}
use Rattle.planar.proofs.Meet.{holds_start, holds_end}
use Rattle.contact.specs.Solid.{SharePoint}
use Rattle.area_contact.specs.Contour.{OnEdge, SomeEdge, edges_from, end_from}
use Rattle.arcs.specs.Copper.{InChain, InFrom}
use Rattle.board_shapes.specs.Figures.{Figure, InFigure, filled, round}
use Rattle.arc_regions.specs.Copper.{PossiblyIn, end_of}
use Rattle.arc_regions.specs.Laws.{TakenHolds}
use Rattle.arc_regions.specs.Taken.{AreStretches, Chained, InCapsules, InLinks, StandsAs, behind_first, corners_behind, corners_by, parts_of}
use Rattle.arc_regions.specs.declared.Bend.{Bend}
use Rattle.arc_regions.specs.declared.Part.{Part}
use Rattle.arc_regions.specs.declared.Part.TheVariants.{Straight, Curved}
use Rattle.arc_regions.proofs.Edges.{some_before, some_behind}
use Rattle.arc_covers.specs.Bounds.{HoldTogether, InSome, capsules_from, capsules_of}
use Rattle.arc_covers.specs.Regions.{RegionAbove, StandAlong, StandsHere, chain_of}

-- ---- points in one of several figures

some_first : (fs gs : List Figure) (p : Point) → InSome fs p → InSome (fs ++ gs) p
some_first [] gs p h = absurd h
some_first (f ∷ fs) gs p (inl h) = inl h
some_first (f ∷ fs) gs p (inr h) = inr (some_first fs gs p h)

some_last : (fs gs : List Figure) (p : Point) → InSome gs p → InSome (fs ++ gs) p
some_last [] gs p h = h
some_last (f ∷ fs) gs p h = inr (some_last fs gs p h)

along : (a : Spot) (rest : List Spot) (r : ℕ) (p : Point) → InFrom a rest (pos r) p → InSome (capsules_from a rest (pos r)) p
along a [] r p h = absurd h
along a (b ∷ rest) r p (inl h) = inl h
along a (b ∷ rest) r p (inr h) = inr (along b rest r p h)

pub in_chain : (chain : List Spot) (r : ℕ) (p : Point) → InChain chain (pos r) p → InSome (capsules_of chain (pos r)) p
in_chain [] r p h = absurd h
in_chain (a ∷ rest) r p h = along a rest r p h

-- ---- figures that touch a line of edges

abbrev pub Has : List Spot → Spot → Type 0
Has [] s = ⊥
Has (b ∷ rest) s = (b ≡ s) ⊎ Has rest s

has_of : (xs ys : List Spot) (s : Spot) → Has (xs ++ ys) s → Has xs s ⊎ Has ys s
has_of [] ys s h = inr h
has_of (x ∷ xs) ys s (inl h) = inl (inl h)
has_of (x ∷ xs) ys s (inr h) = elim (has_of xs ys s h) [ inl k ↦ inl (inr k) | inr k ↦ inr k ]

has_back : (xs : List Spot) (s : Spot) → Has (reverse xs) s → Has xs s
has_back [] s h = absurd h
has_back (x ∷ xs) s h = elim (has_of (reverse xs) (x ∷ []) s (subst (λ (zs : List Spot). Has zs s) (reverse-append (x ∷ []) xs) h)) [
  | inl k ↦ inr (has_back xs s k)
  | inr k ↦ elim k [ inl same ↦ inl same | inr none ↦ absurd none ]
]

-- the figure has a spot of one of the edges
abbrev pub Touches : Spot → List Spot → Figure → Type 0
Touches a corners f = (s : Spot) × InFigure f (at s) × SomeEdge (OnEdge (at s)) (edges_from a corners)

pub on_edge : (a b : Spot) (rest : List Spot) (s : Spot) → Has (a ∷ b ∷ rest) s → SomeEdge (OnEdge (at s)) (edges_from a (b ∷ rest))
on_edge a b rest s (inl h) = inl (subst (λ (z : Spot). InCapsule a b (pos 0) (at z)) h (holds_start a b (pos 0)))
on_edge a b rest s (inr (inl h)) = inl (subst (λ (z : Spot). InCapsule a b (pos 0) (at z)) h (holds_end a b (pos 0)))
on_edge a b [] s (inr (inr h)) = absurd h
on_edge a b (c ∷ rest) s (inr (inr h)) = inr (on_edge b c rest s (inr h))

touch_from : (a : Spot) (corners : List Spot) (c : Spot) (chain : List Spot) (r : ℕ) → ((s : Spot) → Has (c ∷ chain) s → SomeEdge (OnEdge (at s)) (edges_from a corners)) → All (Touches a corners) (capsules_from c chain (pos r))
touch_from a corners c [] r on = All-nil (Touches a corners)
touch_from a corners c (d ∷ chain) r on =
    All-cons (Touches a corners) (round (record { a = c; b = d; r = pos r })) (capsules_from d chain (pos r)) (c, holds_start c d (pos r), on c (inl refl)) (touch_from a corners d chain r (λ s h. on s (inr h)))

pub touch_chain : (a : Spot) (corners chain : List Spot) (r : ℕ) → ((s : Spot) → Has chain s → SomeEdge (OnEdge (at s)) (edges_from a corners)) → All (Touches a corners) (capsules_of chain (pos r))
touch_chain a corners [] r on = All-nil (Touches a corners)
touch_chain a corners (c ∷ chain) r on = touch_from a corners c chain r on

-- ---- one part

end_is : (a : Spot) (front : List Spot) (z : Spot) → end_from a (front ++ z ∷ []) ≡ z
end_is a [] z = refl
end_is a (b ∷ front) z = end_is b front z

corners_are : (a : Spot) (t : Bend) (b : Bool) (spots : List Spot) → behind_first (if b then (if b then a ∷ spots else reverse (a ∷ spots)) else reverse (if b then a ∷ spots else reverse (a ∷ spots))) ≡ spots
corners_are a t true spots = refl
corners_are a t false spots = ap behind_first (reverse-reverse (a ∷ spots))

in_arc : (a : Spot) (b : Bool) (spots : List Spot) (s : Spot) → Has (if b then a ∷ spots else reverse (a ∷ spots)) s → Has (a ∷ spots) s
in_arc a true spots s h = h
in_arc a false spots s h = has_back (a ∷ spots) s h

record HereTold (a : Spot) (x : Part) (spots : List Spot) (these : List Figure) : Type 0 where
  chain : List Spot
  radius : ℕ
  corners : corners_by x chain ≡ spots
  stands : StandsAs a x chain radius
  hold : (p : Point) → InLinks x chain radius p → InSome these p
  ends : end_from a spots ≡ end_of x
  touch : All (Touches a spots) these

here_told : (a : Spot) (x : Part) (spots : List Spot) (these : List Figure) → StandsHere a x spots these → HereTold a x spots these
here_told a (Straight b) spots these (s, f, placed) = record {
  chain = [];
  radius = 0;
  corners = sym s;
  stands = placed;
  hold = λ p h. absurd h;
  ends = ap (end_from a) s;
  touch = All-same (Touches a spots) these [] f (All-nil (Touches a spots));
}
here_told a (Curved t) spots these ((front, ends, off), (r, is, stands)) = record {
  chain = chain_of a t spots;
  radius = r;
  corners = corners_are a t t.counterclockwise spots;
  stands = stands;
  hold = λ p h. subst (λ (fs : List Figure). InSome fs p) (sym is) (in_chain (chain_of a t spots) r p h);
  ends = ap (end_from a) ends ∙ end_is a front t.end;
  touch = All-same (Touches a spots) these (capsules_of (chain_of a t spots) (pos r)) is (touch_chain a spots (chain_of a t spots) r (λ s h. on spots front ends s (in_arc a t.counterclockwise spots s h)));
}
  where
    on : (spots front : List Spot) → spots ≡ front ++ t.end ∷ [] → (s : Spot) → Has (a ∷ spots) s → SomeEdge (OnEdge (at s)) (edges_from a spots)
    on [] [] e s h = absurd cc
    on [] (f ∷ front) e s h = absurd cc
    on (b ∷ rest) front e s h = on_edge a b rest s h

-- ---- the parts, one after another

record AllTold (z a : Spot) (parts : List Part) (corners : List Spot) (figures : List Figure) : Type 0 where
  xs : List Chained
  parts_are : parts_of xs ≡ parts
  corners_so : corners_behind xs ≡ corners
  stretches : AreStretches z a xs
  hold : (p : Point) → InCapsules xs p → InSome figures p
  touch : All (Touches a corners) figures

all_told : (z a : Spot) (parts : List Part) (corners : List Spot) (figures : List Figure) → StandAlong z a parts corners figures → AllTold z a parts corners figures
all_told z a [] corners figures (e, c, f) = record {
  xs = [];
  parts_are = refl;
  corners_so = sym c;
  stretches = e;
  hold = λ p h. absurd h;
  touch = All-same (Touches a corners) figures [] f (All-nil (Touches a corners));
}
all_told z a (x ∷ rest) corners figures b = join (here_told a x b.spots b.these b.stands) (all_told z (end_of x) rest b.later b.more b.behind)
  where
    join : HereTold a x b.spots b.these → AllTold z (end_of x) rest b.later b.more → AllTold z a (x ∷ rest) corners figures
    join h t = record {
      xs = record { part = x; chain = h.chain; radius = h.radius } ∷ t.xs;
      parts_are = ap (λ (ps : List Part). x ∷ ps) t.parts_are;
      corners_so = ap (λ (cs : List Spot). cs ++ corners_behind t.xs) h.corners ∙ ap (λ (cs : List Spot). b.spots ++ cs) t.corners_so ∙ sym b.corners_are;
      stretches = (h.stands, t.stretches);
      hold = λ p k. subst (λ (fs : List Figure). InSome fs p) (sym b.figures_are) (holds p k);
      touch = All-same (Touches a corners) figures (b.these ++ b.more) b.figures_are (subst (λ (cs : List Spot). All (Touches a cs) (b.these ++ b.more)) (sym b.corners_are) both);
    }
      where
        holds : (p : Point) → InLinks x h.chain h.radius p ⊎ InCapsules t.xs p → InSome (b.these ++ b.more) p
        holds p (inl k) = some_first b.these b.more p (h.hold p k)
        holds p (inr k) = some_last b.these b.more p (t.hold p k)

        both : All (Touches a (b.spots ++ b.later)) (b.these ++ b.more)
        both =
            All-append (Touches a (b.spots ++ b.later)) b.these b.more
            (All-weaker (Touches a b.spots) (Touches a (b.spots ++ b.later)) (λ f (s, in_f, on). (s, in_f, some_before (OnEdge (at s)) a b.spots b.later on)) b.these h.touch)
            (All-weaker (Touches (end_of x) b.later) (Touches a (b.spots ++ b.later))
            (λ f (s, in_f, on). (s, in_f, some_behind (OnEdge (at s)) a b.spots b.later (subst (λ (e : Spot). SomeEdge (OnEdge (at s)) (edges_from e b.later)) (sym h.ends) on))) b.more t.touch)

pub held : (a : Spot) (parts : List Part) (figures : List Figure) → TakenHolds → RegionAbove a parts figures → HoldTogether (PossiblyIn a parts) figures
held a parts figures law h = by (all_told a a parts h.corners h.capsules h.along)
  where
    by : AllTold a a parts h.corners h.capsules → HoldTogether (PossiblyIn a parts) figures
    by t = record {
      first = filled (a ∷ h.corners);
      rest = h.capsules;
      are = h.are;
      meet = All-weaker (Touches a h.corners) (λ f. SharePoint (InFigure (filled (a ∷ h.corners))) (InFigure f)) (λ f (s, in_f, on). record { point = at s; in_first = inl on; in_second = in_f }) h.capsules t.touch;
      hold = λ p inside. subst (λ (fs : List Figure). InSome fs p) (sym h.are) (all p (law a t.xs p (record { start = h.start; parts = t.stretches }) (subst (λ (ps : List Part). PossiblyIn a ps p) (sym t.parts_are) inside)));
    }
      where
        all : (p : Point) → InFigure (filled (a ∷ corners_behind t.xs)) p ⊎ InCapsules t.xs p → InFigure (filled (a ∷ h.corners)) p ⊎ InSome h.capsules p
        all p (inl k) = inl (subst (λ (cs : List Spot). InFigure (filled (a ∷ cs)) p) t.corners_so k)
        all p (inr k) = inr (t.hold p k)
