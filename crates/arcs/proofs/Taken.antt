-- Chains that the checks take.
use Rattle.std.proofs.Common.{◌≡◌, ◌↔◌, ◌∙◌, All, Bool, false, IsTrue, Option, None, Some, refl, sym, subst, ap, length, [], ℕ, ◌+◌, ◌-◌, ◌/◌, ◌≤◌, ℤ, pos, ◌*ℤ◌, ◌≤ℤ◌, List, ◌∷◌, arith}
use Rattle.std.proofs.lemmas.Int.{ints}
use Rattle.planar.specs.declared.Spot.{Spot}
use Rattle.planar.specs.Plane.{IsPlaced, Point, dot_of, square, EachFrom}
use Rattle.planar.proofs.Ring.{linear, square_mono, times_mono_right}
use Rattle.planar.proofs.SpotWithin.{whole_from_zero}
use Rattle.arcs.specs.declared.Arc.{Arc}
use Rattle.arcs.specs.Chains.{EachIn, HasRoom, IsChord, IsInner, IsLink, IsRing, IsWidest, Leads}
use Rattle.arcs.specs.Copper.{InChain, IsMeant, Possibly, Surely, inmost, outmost}
use Rattle.arcs.specs.Taken.{IsJudged, IsPlacedArc, IsRingFor, TakenAbove, TakenBelow}
use Rattle.arcs.proofs.Chain.{below_read}
use Rattle.arcs.proofs.Closed.{above_read}

each_as : (P Q : Spot → Spot → Type 0) → ((a b : Spot) → P a b → Q a b) → (a : Spot) (rest : List Spot) → EachFrom P a rest → EachFrom Q a rest
each_as P Q to a [] all = tt
each_as P Q to a (b ∷ rest) all = (to a b all.0, each_as P Q to b rest all.1)

-- ---- what they say of curves

pub below_lies : (arc : Arc) (chain : List Spot) (r : ℕ) → TakenBelow arc chain r → (p : Point) → InChain chain (pos r) p → Surely arc p
below_lies arc chain r t = below_read arc chain r (arc.width / 2) t.near t.far t.first t.rest (omega arith) (omega (arith, t.pen)) t.room t.is t.judged.meant t.links

pub above_holds : (arc : Arc) (chain : List Spot) (r : ℕ) → TakenAbove arc chain r → (p : Point) → Possibly arc p → InChain chain (pos r) p
above_holds arc chain r t =
    above_read arc chain r (arc.width - arc.width / 2) t.near t.far t.second t.rest (omega arith) (omega (arith, t.pen)) t.room t.is t.judged.meant
    (each_as (IsLink arc.centre t.near t.far) (IsChord arc.centre t.near t.far) (λ a b link. link.0) arc.start (t.second ∷ t.rest) t.links) t.ends

-- ---- a chord of a ring is one of a wider ring

module _ (c : Spot) (near far n f : ℤ) (hn : pos 0 ≤ℤ near) (hf : pos 0 ≤ℤ f) (nearer : near ≤ℤ n) (further : f ≤ℤ far) where
  wider : (a b : Spot) → IsLink c n f a b → IsLink c near far a b
  wider a b (chord, measured) = (
    record {
      left = chord.left;
      first = omega (arith, linear, chord.first, grown);
      last = omega (arith, linear, chord.last, grown);
      line = omega (arith, linear, chord.line, lesser);
    },
    omega (arith, linear, measured, lesser),
  )
    where
      grown : square f ≤ℤ square far
      grown = square_mono f far hf further

      lesser : (square near *ℤ dot_of a b b) ≤ℤ (square n *ℤ dot_of a b b)
      lesser = times_mono_right (dot_of a b b) (square near) (square n) (whole_from_zero a b) (square_mono near n hn nearer)

-- ---- what the code answers

no_true : IsTrue false → ⊥
no_true t = cc

pub refused : (X : Type 0) → (X → ⊥) → IsTrue false ↔ X
refused X not = (λ t. absurd (no_true t), λ x. absurd (not x))

pub ring_read : (arc : Arc) (chain : List Spot) (k : ℤ) (ring : Option (ℕ × ℕ)) → IsMeant arc → IsPlacedArc arc → All IsPlaced chain → IsRing ring (inmost arc) (outmost arc) k → IsRingFor ring arc chain k
ring_read arc chain k None meant placed spots h = λ j. omega (arith, linear, h, j.fits)
ring_read arc chain k (Some ring) meant placed spots h = (record { meant = meant; placed = placed; spots = spots; fits = h.0 }, h.1)

module _ (arc : Arc) (chain : List Spot) (r near far : ℕ) (judged : IsJudged arc chain) (b : Bool) where
  -- a chord of another ring is one of the widest
  widest : (k n f : ℤ) → IsWidest (inmost arc) (outmost arc) (pos near) (pos far) k → HasRoom (inmost arc) (outmost arc) n f k → (a d : Spot) → IsLink arc.centre n f a d → IsLink arc.centre (pos near) (pos far) a d
  widest k n f wide room = wider arc.centre (pos near) (pos far) n f (omega (arith, ints)) room.room.far_from (wide.nearest n f room) (wide.furthest n f room)

  pub below_decided : IsWidest (inmost arc) (outmost arc) (pos near) (pos far) (pos (arc.width / 2 - r)) → r + r ≤ arc.width → IsTrue b ↔ EachIn (IsInner arc.centre arc.start arc.end (pos near) (pos far)) chain → IsTrue b ↔ TakenBelow arc chain r
  below_decided wide pen told = (λ yes. by chain refl (told.0 yes), λ t. told.1 (subst (EachIn (IsInner arc.centre arc.start arc.end (pos near) (pos far))) (sym t.is) (found t)))
    where
      by : (spots : List Spot) → chain ≡ spots → EachIn (IsInner arc.centre arc.start arc.end (pos near) (pos far)) spots → TakenBelow arc chain r
      by [] is none = absurd none
      by (first ∷ rest) is links = record { judged = judged; pen = pen; near = pos near; far = pos far; room = wide.room; first = first; rest = rest; is = is; links = links }

      found : (t : TakenBelow arc chain r) → EachFrom (IsInner arc.centre arc.start arc.end (pos near) (pos far)) t.first t.rest
      found t = each_as (IsInner arc.centre arc.start arc.end t.near t.far) (IsInner arc.centre arc.start arc.end (pos near) (pos far)) (λ a d inner. (widest (pos (arc.width / 2 - r)) t.near t.far wide t.room a d inner.0, inner.1)) t.first t.rest t.links

  pub above_decided : IsWidest (inmost arc) (outmost arc) (pos near) (pos far) (pos (r - (arc.width - arc.width / 2))) → arc.width ≤ r + r → 2 ≤ length chain → IsTrue b ↔ Leads (IsLink arc.centre (pos near) (pos far)) arc.start arc.end chain → IsTrue b ↔ TakenAbove arc chain r
  above_decided wide pen two told = (λ yes. by chain refl two (told.0 yes), λ t. told.1 (subst (Leads (IsLink arc.centre (pos near) (pos far)) arc.start arc.end) (sym t.is) (refl, found t, t.ends)))
    where
      by : (spots : List Spot) → chain ≡ spots → 2 ≤ length spots → Leads (IsLink arc.centre (pos near) (pos far)) arc.start arc.end spots → TakenAbove arc chain r
      by [] is two leads = absurd leads
      by (a ∷ []) is two leads = absurd (omega arith)
      by (a ∷ second ∷ rest) is two leads = record {
        judged = judged;
        pen = pen;
        near = pos near;
        far = pos far;
        room = wide.room;
        second = second;
        rest = rest;
        is = is ∙ ap (λ (z : Spot). z ∷ second ∷ rest) leads.0;
        links = subst (λ (z : Spot). EachFrom (IsLink arc.centre (pos near) (pos far)) z (second ∷ rest)) leads.0 leads.1;
        ends = leads.2;
      }

      found : (t : TakenAbove arc chain r) → EachFrom (IsLink arc.centre (pos near) (pos far)) arc.start (t.second ∷ t.rest)
      found t = each_as (IsLink arc.centre t.near t.far) (IsLink arc.centre (pos near) (pos far)) (widest (pos (r - (arc.width - arc.width / 2))) t.near t.far wide t.room) arc.start (t.second ∷ t.rest) t.links
