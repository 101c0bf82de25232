-- What stands for a region above it: the polygon with chains in place of the arcs, and the capsules along these.
use Rattle.std.specs.Prelude.{ℕ, pos, ◌≡◌, ◌≢◌, if◌then◌else◌, List, [], ◌∷◌, ◌++◌, reverse, All}
use Rattle.planar.specs.Plane.{IsPlaced}
use Rattle.planar.specs.declared.Spot.{Spot}
use Rattle.board_shapes.specs.Figures.{Figure, filled}
use Rattle.arc_regions.specs.Copper.{end_of}
use Rattle.arc_regions.specs.Taken.{StandsAs}
use Rattle.arc_regions.specs.declared.Bend.{Bend}
use Rattle.arc_regions.specs.declared.Part.{Part}
use Rattle.arc_regions.specs.declared.Part.TheVariants.{Straight, Curved}
use Rattle.arc_covers.specs.Bounds.{capsules_of}

-- the spots end with z, which is none of those before
abbrev pub EndFirst : Spot → List Spot → Type 0
EndFirst z spots = (front : List Spot) × (spots ≡ front ++ z ∷ []) × All (λ s. s ≢ z) front

-- the chain of the arc from a, counterclockwise; the spots are those behind a as the contour goes
abbrev pub chain_of : Spot → Bend → List Spot → List Spot
chain_of a t spots = if t.counterclockwise then a ∷ spots else reverse (a ∷ spots)

-- the figures are the capsules of one radius along the chain, and `arc_regions` takes both for the arc from a
abbrev pub ArcStands : Spot → Bend → List Spot → List Figure → Type 0
ArcStands a t chain figures = (r : ℕ) × (figures ≡ capsules_of chain (pos r)) × StandsAs a (Curved t) chain r

-- For a straight part stands its end, for an arc the spots of its chain as the contour goes, which come to its end first at the last, and the capsules along it
abbrev pub StandsHere : Spot → Part → List Spot → List Figure → Type 0
StandsHere a (Straight b) spots figures = (spots ≡ b ∷ []) × (figures ≡ []) × IsPlaced b
StandsHere a (Curved t) spots figures = EndFirst t.end spots × ArcStands a t (chain_of a t spots) figures

-- the first of the corners and of the figures stand for the part from a, and of those behind them P holds
pub record Begin (a : Spot) (x : Part) (corners : List Spot) (figures : List Figure) (P : List Spot → List Figure → Type 0) : Type 0 where
  pub spots : List Spot
  pub later : List Spot
  pub these : List Figure
  pub more : List Figure
  pub corners_are : corners ≡ spots ++ later
  pub figures_are : figures ≡ these ++ more
  pub stands : StandsHere a x spots these
  pub behind : P later more

-- the corners behind a and the figures stand for the parts, from a to z, one after another
abbrev pub StandAlong : Spot → Spot → List Part → List Spot → List Figure → Type 0
StandAlong z a [] corners figures = (a ≡ z) × (corners ≡ []) × (figures ≡ [])
StandAlong z a (x ∷ rest) corners figures = Begin a x corners figures (StandAlong z (end_of x) rest)

-- a polygon, and the capsules in the order of the arcs
pub record RegionAbove (a : Spot) (parts : List Part) (figures : List Figure) : Type 0 where
  pub corners : List Spot
  pub capsules : List Figure
  pub are : figures ≡ filled (a ∷ corners) ∷ capsules
  pub start : IsPlaced a
  pub along : StandAlong a a parts corners capsules

-- ---- words that only contracts want

-- no first ones of the corners and of the figures stand for the part
abbrev pub NoneStands : Spot → Part → List Spot → List Figure → Type 0
NoneStands a x corners figures = (spots later : List Spot) (these more : List Figure) → corners ≡ spots ++ later → figures ≡ these ++ more → ¬ StandsHere a x spots these
