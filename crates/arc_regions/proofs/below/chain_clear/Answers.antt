use Rattle.std.proofs.Common.{◌≡◌, ◌↔◌, ◌+◌, ◌-◌, ◌<◌, ◌≤◌, ℕ, pos, List, [], ◌∷◌, length, take, drop, get_or, add-one, arith, sym, subst}
use Rattle.std.proofs.Math.Seq.{drop-cons}
use Rattle.std.proofs.lemmas.List.{take_all}
use Rattle.planar.specs.declared.Frame.{Frame}
use Rattle.planar.specs.declared.Spot.{Spot}
use Rattle.planar.specs.Plane.{EachFrom}
use Rattle.arc_regions.specs.Taken.{AreClear, IsClear}
use Rattle.arc_regions.proofs.below.chain_clear.Goals as goal

begun : (frame : Frame) (points : List Spot) (r : ℕ) (chain : List Spot) (none : Spot) → 1 ≤ length chain → EachFrom (IsClear frame points r) (get_or chain 0 none) (take (length chain - 1) (drop 1 chain)) ↔ AreClear frame points r chain
begun frame points r [] none some = absurd (omega (arith, some))
begun frame points r (a ∷ rest) none some =
    let whole : take (length (a ∷ rest) - 1) rest ≡ rest = take_all (length (a ∷ rest) - 1) rest (omega arith) in
    subst (λ (xs : List Spot). EachFrom (IsClear frame points r) a xs ↔ EachFrom (IsClear frame points r) a rest) (sym whole) (λ h. h, λ h. h)

module _ (P : Spot → Spot → Type 0) (a : Spot) (rest : List Spot) (i : ℕ) (none : Spot) (below : i < length rest) where
  next : EachFrom P a (drop i rest) → P a (get_or rest i none) × EachFrom P (get_or rest i none) (drop (i + 1) rest)
  next h = rw add-one (subst (EachFrom P a) (drop-cons rest i none below) h)

  turn : (W : Type 0) → P a (get_or rest i none) → EachFrom P a (drop i rest) ↔ W → EachFrom P (get_or rest i none) (drop (i + 1) rest) ↔ W
  turn W held told = (λ h. told.0 (subst (EachFrom P a) (sym (drop-cons rest i none below)) (held, subst (λ (n : ℕ). EachFrom P (get_or rest i none) (drop n rest)) (add-one i) h)), λ w. (next (told.1 w)).1)

pub loop-to-init : goal.loop-to-init
loop-to-init g c = begun c.args.frame c.args.area.now.points.items c.args.r c.args.chain.now (record { x = pos 0; y = pos 0 }) c.in-len1-up.len_at_least

pub loop-to-preserved : goal.loop-to-preserved
loop-to-preserved g c =
    let rest : List Spot = take (length c.args.chain.now - 1) (drop 1 c.args.chain.now) in
    turn (IsClear c.args.frame c.args.area.now.points.items c.args.r) c.loop-to.from rest c.loop-to.to-index (record { x = pos 0; y = pos 0 }) c.loop-to-test.true (AreClear c.args.frame c.args.area.now.points.items c.args.r c.args.chain.now) (c.is_clear.ensures.0 c.if-not-is_clear.false) c.loop-to.invariant

pub returns-then-not-is_clear : goal.returns-then-not-is_clear
returns-then-not-is_clear g c = (
  λ t. absurd (let f = t in cc),
  λ w.
      let rest : List Spot = take (length c.args.chain.now - 1) (drop 1 c.args.chain.now) in
      let ahead = next (IsClear c.args.frame c.args.area.now.points.items c.args.r) c.loop-to.from rest c.loop-to.to-index (record { x = pos 0; y = pos 0 }) c.loop-to-test.true (c.loop-to.invariant.1 w) in
      let t = c.is_clear.ensures.1 ahead.0 in
      let f = c.if-not-is_clear.true in
      absurd cc,
)
