-- Spots of a frame that are within one metre.
use Rattle.planar.specs.Plane.{IsInFrame, IsPlaced}
use Rattle.planar.specs.declared.Frame.{Frame}
use Rattle.planar.specs.declared.Spot.{Spot}

-- the spot lies in the frame, and within one metre of 0
abbrev pub IsFramed : Frame → Spot → Type 0
IsFramed f p = IsPlaced p × IsInFrame f p

-- both spots do
abbrev pub AreFramed : Frame → Spot → Spot → Type 0
AreFramed f a b = IsFramed f a × IsFramed f b
