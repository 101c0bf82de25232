-- Exactly which chains the checks take.
use Rattle.std.specs.Prelude.{ℕ, Option, None, Some, ◌+◌, ◌-◌, ◌/◌, ◌≤◌, ℤ, pos, ◌<ℤ◌, ◌≡◌, List, ◌∷◌, All, ◌^◌}
use Rattle.planar.specs.Plane.{IsPlaced, EachFrom}
use Rattle.planar.specs.declared.Spot.{Spot}
use Rattle.arcs.specs.Chains.{EndsAt, HasRoom, IsInner, IsLink, IsWidest}
use Rattle.arcs.specs.Copper.{IsMeant, inmost, outmost}
use Rattle.arcs.specs.declared.Arc.{Arc}

-- the centre and both ends lie within a metre
pub record IsPlacedArc (a : Arc) : Type 0 where
  pub centre : IsPlaced a.centre
  pub start : IsPlaced a.start
  pub end : IsPlaced a.end

-- so do the spots of the chain, the arc is meant, and the square of the greatest distance that a curve may have has 128 bits
pub record IsJudged (a : Arc) (chain : List Spot) : Type 0 where
  pub meant : IsMeant a
  pub placed : IsPlacedArc a
  pub spots : All IsPlaced chain
  pub fits : outmost a <ℤ pos (2 ^ 128)

-- A chain with a first spot. Each link goes counterclockwise, lies in the turn, and leaves the distances that a curve may have by at most half the pen, rounded down, less r
pub record TakenBelow (a : Arc) (chain : List Spot) (r : ℕ) : Type 0 where
  pub judged : IsJudged a chain
  pub pen : r + r ≤ a.width
  pub near : ℤ
  pub far : ℤ
  pub room : HasRoom (inmost a) (outmost a) near far (pos (a.width / 2 - r))
  pub first : Spot
  pub rest : List Spot
  pub is : chain ≡ first ∷ rest
  pub links : EachFrom (IsInner a.centre a.start a.end near far) first rest

-- A chain from start to end. Each link goes counterclockwise, and leaves the distances that a curve may have by at most r less half the pen, rounded up
pub record TakenAbove (a : Arc) (chain : List Spot) (r : ℕ) : Type 0 where
  pub judged : IsJudged a chain
  pub pen : a.width ≤ r + r
  pub near : ℤ
  pub far : ℤ
  pub room : HasRoom (inmost a) (outmost a) near far (pos (r - (a.width - a.width / 2)))
  pub second : Spot
  pub rest : List Spot
  pub is : chain ≡ a.start ∷ second ∷ rest
  pub links : EachFrom (IsLink a.centre near far) a.start (second ∷ rest)
  pub ends : EndsAt a.end second rest

-- ---- words that only contracts want

-- the widest distances of chords that are at most k off; none where arc and chain are not judged
abbrev pub IsRingFor : Option (ℕ × ℕ) → Arc → List Spot → ℤ → Type 0
IsRingFor None a chain k = ¬ IsJudged a chain
IsRingFor (Some ring) a chain k = IsJudged a chain × IsWidest (inmost a) (outmost a) (pos ring.0) (pos ring.1) k
