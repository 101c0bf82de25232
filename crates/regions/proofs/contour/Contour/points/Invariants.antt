use Rattle.std.proofs.Common.{◌≡◌, ◌∷◌, map, take}
use Rattle.regions.proofs.contour.Contour.points.Given as goal

-- the points so far are the first and where each of the edges so far ends
abbrev pub invariant-loop-leg : goal.invariant-loop-leg
invariant-loop-leg g l = l.points.items ≡ l.self.first ∷ map (λ leg. leg.to) (take l.leg-index l.self.legs.items)
