-- What surely lies in a region and what may, arc by arc.
use Rattle.std.proofs.Common.{Bool, true, false, if◌then◌else◌, List, [], ◌∷◌, ◌≡◌, inl, inr, ℤ, pos, ◌+ℤ◌, ◌-ℤ◌, ◌*ℤ◌, ◌≤ℤ◌, neg_ℤ, arith, sym, ap, ◌∙◌}
use Rattle.planar.specs.declared.Spot.{Spot}
use Rattle.planar.specs.Plane.{Point, dot_of, square}
use Rattle.planar.proofs.Ring.{ring, linear, le_or_lt, square_from_zero, square_cancel, times_mono, times-zero}
use Rattle.planar.proofs.SpotWithin.{whole_from_zero}
use Rattle.arcs.specs.Copper.{InTurn, inmost, outmost, reach_of, side_of, swing}
use Rattle.arcs.specs.declared.Arc.{Arc}
use Rattle.arcs.proofs.Radii.{in_order, inmost_is, outmost_is, unlike_none}
use Rattle.arcs.proofs.Vectors.{lagrange, norm, norm_none}
use Rattle.arc_regions.specs.Copper.{HasTurn, InBand, InSweep, IsRight, IsTold, OnEachCurve, OnSomeCurve, SomePart, arc_of, end_of}
use Rattle.arc_regions.specs.Laws.{AreEven, IsEven, PossiblyIsSurely, SectorOfEach, SurelyIsPossibly}
use Rattle.arc_regions.specs.declared.Part.{Part}
use Rattle.arc_regions.specs.declared.Part.TheVariants.{Straight, Curved}
use Rattle.planar.proofs.Spots.{one_spot}

-- ---- surely, possibly

each_some : (a : Spot) (x : Part) (p : Point) → OnEachCurve a x p → OnSomeCurve a x p
each_some a (Straight b) p on = on
each_some a (Curved t) p (told, (turn, from, to)) = λ known. (turn, omega (arith, linear, from, order), omega (arith, linear, to, order))
  where
    order : (square p.n *ℤ inmost (arc_of a t)) ≤ℤ (square p.n *ℤ outmost (arc_of a t))
    order = times_mono (square p.n) (inmost (arc_of a t)) (outmost (arc_of a t)) (square_from_zero p.n) (in_order (arc_of a t))

some_each : (a : Spot) (parts : List Part) (p : Point) → SomePart OnEachCurve a parts p → SomePart OnSomeCurve a parts p
some_each a [] p on = on
some_each a (x ∷ rest) p (inl on) = inl (each_some a x p on)
some_each a (x ∷ rest) p (inr on) = inr (some_each (end_of x) rest p on)

pub surely_is_possibly : SurelyIsPossibly
surely_is_possibly a parts p (inl on) = inl (some_each a parts p on)
surely_is_possibly a parts p (inr inside) = inr inside.0

-- ---- ends at one distance

-- two vectors as long as one another, in one direction
one_way : (sx sy ex ey : ℤ) → norm sx sy ≡ norm ex ey → sx *ℤ ey -ℤ sy *ℤ ex ≡ pos 0 → pos 0 ≤ℤ (sx *ℤ ex +ℤ sy *ℤ ey) → (sx ≡ ex) × (sy ≡ ey)
one_way sx sy ex ey even flat ahead = (omega (arith, linear, none.0), omega (arith, linear, none.1))
  where
    squares : (norm sx sy *ℤ norm sx sy) ≤ℤ square (sx *ℤ ex +ℤ sy *ℤ ey)
    squares =
        let f : square (sx *ℤ ex +ℤ sy *ℤ ey) +ℤ square (pos 0) ≡ norm sx sy *ℤ norm sx sy = rw (← even, flat) at (lagrange sx sy ex ey) in
        omega (arith, linear, f, times-zero (pos 0))

    apart_by : norm (sx -ℤ ex) (sy -ℤ ey) ≡ (norm sx sy +ℤ norm ex ey) -ℤ ((sx *ℤ ex +ℤ sy *ℤ ey) +ℤ (sx *ℤ ex +ℤ sy *ℤ ey))
    apart_by = simp ring (omega (arith, linear))

    none : (sx -ℤ ex ≡ pos 0) × (sy -ℤ ey ≡ pos 0)
    none = norm_none (sx -ℤ ex) (sy -ℤ ey) (omega (arith, linear, even, apart_by, square_cancel (norm sx sy) (sx *ℤ ex +ℤ sy *ℤ ey) ahead squares))

even_told : (arc : Arc) → dot_of arc.centre arc.start arc.start ≡ dot_of arc.centre arc.end arc.end → IsTold arc
even_told arc even = (inr (inl (omega (arith, linear, unlike_none arc even, whole_from_zero arc.start arc.end))), turn)
  where
    turn : HasTurn arc
    turn = record { one = met }
      where
        met : swing arc ≡ pos 0 → pos 0 ≤ℤ dot_of arc.centre arc.start arc.end → arc.start ≡ arc.end
        met flat ahead =
            let same = one_way (arc.start.x -ℤ arc.centre.x) (arc.start.y -ℤ arc.centre.y) (arc.end.x -ℤ arc.centre.x) (arc.end.y -ℤ arc.centre.y) even flat ahead in
            one_spot arc.start arc.end (omega (arith, linear, same.0)) (omega (arith, linear, same.1))

band_even : (arc : Arc) (p : Point) → dot_of arc.centre arc.start arc.start ≡ dot_of arc.centre arc.end arc.end → InBand (inmost arc) (outmost arc) arc p → InBand (outmost arc) (inmost arc) arc p
band_even arc p even (turn, from, to) = (turn, omega (arith, linear, from, same), omega (arith, linear, to, same))
  where
    same : square p.n *ℤ outmost arc ≡ square p.n *ℤ inmost arc
    same = ap (λ (z : ℤ). square p.n *ℤ z) (outmost_is arc (unlike_none arc even) ∙ sym (inmost_is arc (unlike_none arc even)))

both_ways : (a c b : Spot) (w : Bool) → dot_of c a a ≡ dot_of c b b → dot_of c (if w then a else b) (if w then a else b) ≡ dot_of c (if w then b else a) (if w then b else a)
both_ways a c b true even = even
both_ways a c b false even = sym even

even_each : (a : Spot) (x : Part) (p : Point) → IsEven a x → OnSomeCurve a x p → OnEachCurve a x p
even_each a (Straight b) p even on = on
even_each a (Curved t) p even on = (told, band_even (arc_of a t) p same (on told))
  where
    same : dot_of (arc_of a t).centre (arc_of a t).start (arc_of a t).start ≡ dot_of (arc_of a t).centre (arc_of a t).end (arc_of a t).end
    same = both_ways a t.centre t.end t.counterclockwise even

    told : IsTold (arc_of a t)
    told = even_told (arc_of a t) same

all_each : (a : Spot) (parts : List Part) (p : Point) → AreEven a parts → SomePart OnSomeCurve a parts p → SomePart OnEachCurve a parts p
all_each a [] p even on = on
all_each a (x ∷ rest) p even (inl on) = inl (even_each a x p even.0 on)
all_each a (x ∷ rest) p even (inr on) = inr (all_each (end_of x) rest p even.1 on)

pub possibly_is_surely : PossiblyIsSurely
possibly_is_surely a parts p even (inl on) = inl (all_each a parts p even on)
possibly_is_surely a parts p even (inr over) = inr (over, all_each a parts p even)

-- ---- each distance

right_is : (s e : Spot) (p : Point) → IsRight s e p → side_of s e p ≤ℤ pos 0
right_is s e p (inl h) = omega (arith, linear, h)
right_is s e p (inr h) = omega (arith, linear, h.0)

side_back : (s c : Spot) (p : Point) → side_of s c p ≡ neg_ℤ (side_of c s p)
side_back s c p = simp ring (omega (arith, linear))

sweep_turns : (arc : Arc) (p : Point) → HasTurn arc → InSweep arc.centre arc.start arc.end p → InTurn arc.centre arc.start arc.end p
sweep_turns arc p turn (inr (inr same)) = inr (inr (inr same))
sweep_turns arc p turn (inr (inl (more, inl first))) = inr (inl (more, inl (omega (arith, linear, right_is arc.start arc.centre p first, side_back arc.start arc.centre p))))
sweep_turns arc p turn (inr (inl (more, inr last))) = inr (inl (more, inr (right_is arc.centre arc.end p last)))
sweep_turns arc p turn (inl (most, (first, last))) = elim (le_or_lt (swing arc) (pos 0)) [
  | inr g ↦ inl (g, left, right_is arc.centre arc.end p last)
  | inl l ↦ elim (le_or_lt (pos 0) (dot_of arc.centre arc.start arc.end)) [
    | inl ahead ↦ inr (inr (inr (turn.one (omega (arith, linear, most, l)) ahead)))
    | inr back ↦ inr (inr (inl (omega (arith, linear, most, l), back, left)))
  ]
]
  where
    left : pos 0 ≤ℤ side_of arc.centre arc.start p
    left = omega (arith, linear, right_is arc.start arc.centre p first, side_back arc.start arc.centre p)

pub sector_of_each : SectorOfEach
sector_of_each arc f g p turn low high off (disc, sweep) = elim (le_or_lt (reach_of arc.centre p) (square p.n *ℤ g)) [
  | inl l ↦ (l, sweep)
  | inr o ↦ absurd (off (sweep_turns arc p turn sweep, omega (arith, linear, o, times_mono (square p.n) (inmost arc) g (square_from_zero p.n) high), omega (arith, linear, disc, times_mono (square p.n) f (outmost arc) (square_from_zero p.n) low)))
]
