use Rattle.std.proofs.Common.{◌≡◌, ◌↔◌, ◌+◌, ◌-◌, ◌<◌, ◌≤◌, ℕ, pos, All, List, [], ◌∷◌, length, take, drop, get_or, add-one, arith, sym, subst}
use Rattle.std.proofs.Math.Seq.{drop-cons}
use Rattle.std.proofs.lemmas.List.{take_all}
use Rattle.std.proofs.lemmas.List.Elements.{All-head, All-tail}
use Rattle.planar.specs.declared.Frame.{Frame}
use Rattle.planar.specs.declared.Spot.{Spot}
use Rattle.planar.specs.Plane.{EachFrom, IsPlaced}
use Rattle.board_shapes.specs.Figures.{Figure, figure_of}
use Rattle.clear_polarity.specs.Taken.{AreApart, AreEdgesApart, edge_from}
use Rattle.clear_polarity.proofs.apart.are_edges_apart.Goals as goal

abbrev Pair : Frame → Figure → Spot → Spot → Type 0
Pair frame f u v = AreApart frame (edge_from u v) f

begun : (frame : Frame) (f : Figure) (points : List Spot) (none : Spot) → 1 ≤ length points → All IsPlaced points → IsPlaced (get_or points 0 none) × All IsPlaced (take (length points - 1) (drop 1 points)) × (EachFrom (Pair frame f) (get_or points 0 none) (take (length points - 1) (drop 1 points)) ↔ AreEdgesApart frame f points)
begun frame f [] none some placed = absurd (omega (arith, some))
begun frame f (a ∷ rest) none some placed =
    let whole : take (length (a ∷ rest) - 1) rest ≡ rest = take_all (length (a ∷ rest) - 1) rest (omega arith) in (
      All-head IsPlaced a rest placed,
      subst (λ (xs : List Spot). All IsPlaced xs) (sym whole) (All-tail IsPlaced a rest placed),
      subst (λ (xs : List Spot). EachFrom (Pair frame f) a xs ↔ EachFrom (Pair frame f) a rest) (sym whole) (λ h. h, λ h. h),
    )

module _ (P : Spot → Spot → Type 0) (a : Spot) (rest : List Spot) (i : ℕ) (none : Spot) (below : i < length rest) where
  next : EachFrom P a (drop i rest) → P a (get_or rest i none) × EachFrom P (get_or rest i none) (drop (i + 1) rest)
  next h = rw add-one (subst (EachFrom P a) (drop-cons rest i none below) h)

  turn : (W : Type 0) → P a (get_or rest i none) → EachFrom P a (drop i rest) ↔ W → EachFrom P (get_or rest i none) (drop (i + 1) rest) ↔ W
  turn W held told = (λ h. told.0 (subst (EachFrom P a) (sym (drop-cons rest i none below)) (held, subst (λ (n : ℕ). EachFrom P (get_or rest i none) (drop n rest)) (add-one i) h)), λ w. (next (told.1 w)).1)

pub loop-to-init : goal.loop-to-init
loop-to-init c = begun c.args.frame (figure_of c.args.shape.now) c.args.points.now (record { x = pos 0; y = pos 0 }) c.in-len1-up.len_at_least c.requires

pub loop-to-preserved : goal.loop-to-preserved
loop-to-preserved c =
    let rest : List Spot = take (length c.args.points.now - 1) (drop 1 c.args.points.now) in (
      c.loop-to.invariant.1 c.loop-to.to-index (record { x = pos 0; y = pos 0 }) c.loop-to-test.true,
      c.loop-to.invariant.1,
      turn (Pair c.args.frame (figure_of c.args.shape.now)) c.loop-to.from rest c.loop-to.to-index (record { x = pos 0; y = pos 0 }) c.loop-to-test.true (AreEdgesApart c.args.frame (figure_of c.args.shape.now) c.args.points.now) (c.is_edge_apart.ensures.0 c.if-not-is_edge_apart.false) c.loop-to.invariant.2,
    )

pub returns-then-not-is_edge_apart : goal.returns-then-not-is_edge_apart
returns-then-not-is_edge_apart c = (
  λ t. absurd (let f = t in cc),
  λ w.
      let rest : List Spot = take (length c.args.points.now - 1) (drop 1 c.args.points.now) in
      let ahead = next (Pair c.args.frame (figure_of c.args.shape.now)) c.loop-to.from rest c.loop-to.to-index (record { x = pos 0; y = pos 0 }) c.loop-to-test.true (c.loop-to.invariant.2.1 w) in
      let t = c.is_edge_apart.ensures.1 ahead.0 in
      let f = c.if-not-is_edge_apart.true in
      absurd cc,
)
