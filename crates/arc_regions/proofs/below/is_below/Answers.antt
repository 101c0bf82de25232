use Rattle.std.proofs.Common.{◌≡◌, ◌↔◌, ◌+◌, ◌<◌, ℕ, Bool, true, false, not, cond, List, ◌∷◌, length, drop, get_or, suc, add-one, refl, sym, ap, subst, ◌∙◌}
use Rattle.std.proofs.Math.Seq.{drop-cons}
use mathlib.Core.Bool.{beq}
use Rattle.planar.specs.Plane.{IsPlaced}
use Rattle.planar.specs.declared.Frame.{Frame}
use Rattle.planar.specs.declared.Spot.{Spot}
use Rattle.planar.proofs.EdgeLaw.{xor}
use Rattle.area_contact.specs.Contour.{first_of}
use Rattle.arc_regions.specs.Copper.{end_of}
use Rattle.arc_regions.specs.Taken.{AreAround, IsPartClear, IsStretch, StandsAs, all_chained, chained, odd_part}
use Rattle.arc_regions.specs.declared.Part.{Part}
use Rattle.arc_regions.specs.declared.Part.TheVariants.{Straight, Curved}
use Rattle.arc_regions.specs.declared.Stretch.{Stretch}
use Rattle.arc_regions.proofs.below.is_below.Goals as goal

either : (b : Bool) (x y : Spot) → IsPlaced (cond b x y) → IsPlaced (cond b y x) → IsPlaced x
either true x y f g = f
either false x y f g = g

end_placed : (a : Spot) (part : Part) (chain : List Spot) (r : ℕ) → StandsAs a part chain r → IsPlaced (end_of part)
end_placed a (Straight b) chain r h = h
end_placed a (Curved t) chain r h = either t.counterclockwise t.end a h.above.judged.placed.end h.above.judged.placed.start

parted : (xs : List Stretch) (i : ℕ) (x : Stretch) → i < length xs → x ≡ get_or xs i x → drop i xs ≡ x ∷ drop (i + 1) xs
parted xs i x below is = rw add-one (drop-cons xs i x below ∙ ap (λ (y : Stretch). y ∷ drop (suc i) xs) (sym is))

unlike : (o t : Bool) → not (beq o t) ≡ xor o t
unlike true true = refl
unlike true false = refl
unlike false true = refl
unlike false false = refl

module _ (frame : Frame) (points : List Spot) (z q : Spot) (xs : List Stretch) (i : ℕ) (x : Stretch) (below : i < length xs) (is : x ≡ get_or xs i x) (a : Spot) (o : Bool) where
  -- the next stretch, and those behind it
  next : AreAround frame points z q o a (all_chained (drop i xs)) → (IsStretch a (chained x) × IsPartClear frame points a x.part x.chain.items x.radius) × AreAround frame points z q (xor o (odd_part q a x.part x.chain.items)) (end_of x.part) (all_chained (drop (i + 1) xs))
  next h = subst (λ (ys : List Stretch). AreAround frame points z q o a (all_chained ys)) (parted xs i x below is) h

  turn : (W : Type 0) (b p : Spot) (t : Bool) → b ≡ end_of x.part → p ≡ q → t ≡ odd_part p a x.part x.chain.items → IsStretch a (chained x) × IsPartClear frame points a x.part x.chain.items x.radius
      → AreAround frame points z q o a (all_chained (drop i xs)) ↔ W → AreAround frame points z q (not (beq o t)) b (all_chained (drop (i + 1) xs)) ↔ W
  turn W b p t end at crossed held told =
      let same : not (beq o t) ≡ xor o (odd_part q a x.part x.chain.items) = unlike o t ∙ ap (xor o) (crossed ∙ ap (λ (s : Spot). odd_part s a x.part x.chain.items) at) in
      rw (same, end) (
        λ h. told.0 (subst (λ (ys : List Stretch). AreAround frame points z q o a (all_chained ys)) (sym (parted xs i x below is)) (held, h)),
        λ w. (next (told.1 w)).1,
      )

pub part_odd-crossed-requires-clause-stretch : goal.part_odd-crossed-requires-clause-stretch
part_odd-crossed-requires-clause-stretch g c = (c.stands_clear.ensures.0 c.if-not-stands_clear.false).0

pub part_odd-crossed-requires-clause-start_placed : goal.part_odd-crossed-requires-clause-start_placed
part_odd-crossed-requires-clause-start_placed g c = c.loop-stretch.invariant.0

pub returns-then-not-stands_clear-clause-taken : goal.returns-then-not-stands_clear-clause-taken
returns-then-not-stands_clear-clause-taken g c = (
  λ t. absurd (let f = t in cc),
  λ h.
      let ahead = next c.args.frame c.args.area.now.points.items c.args.start (first_of c.args.area.now.points.items) c.args.stretches.now c.loop-stretch.stretch-index c.stretch-item.result c.loop-stretch-test.true c.stretch-item.is c.loop-stretch.from c.loop-stretch.odd (c.loop-stretch.invariant.1.1 h.parts) in
      let t = c.stands_clear.ensures.1 ahead.0 in
      let f = c.if-not-stands_clear.true in
      absurd cc,
)

pub loop-stretch-preserved : goal.loop-stretch-preserved
loop-stretch-preserved g c =
    let held = c.stands_clear.ensures.0 c.if-not-stands_clear.false in (
      subst IsPlaced (sym c.end_of-from.ensures) (end_placed c.loop-stretch.from c.stretch-item.result.part c.stretch-item.result.chain.items c.stretch-item.result.radius held.0),
      turn c.args.frame c.args.area.now.points.items c.args.start (first_of c.args.area.now.points.items) c.args.stretches.now c.loop-stretch.stretch-index c.stretch-item.result c.loop-stretch-test.true c.stretch-item.is c.loop-stretch.from c.loop-stretch.odd
          (AreAround c.args.frame c.args.area.now.points.items c.args.start (first_of c.args.area.now.points.items) false c.args.start (all_chained c.args.stretches.now))
          c.end_of-from.result c.first_corner-corner.result c.part_odd-crossed.result c.end_of-from.ensures c.first_corner-corner.ensures.first c.part_odd-crossed.ensures held c.loop-stretch.invariant.1,
    )
