-- Corners that stand for those of a turned figure, and exactly which of them the checks take.
use Rattle.std.specs.Prelude.{ℕ, IsTrue, List, [], ◌∷◌, pos, ⊤}
use Rattle.planar.specs.declared.Frame.{Frame}
use Rattle.planar.specs.declared.Spot.{Spot}
use Rattle.area_contact.specs.Contour.{IsClosed, area_box, edges_of, first_of}
use Rattle.area_contact.specs.Parity.{odd}
use Rattle.contact.specs.Solid.{IsInside}
use Rattle.arc_regions.specs.Taken.{AreClear}
use Rattle.slants.specs.Discs.{DiscAbove}
use Rattle.slants.specs.declared.discs.TurnedDisc.{TurnedDisc}

-- a corner of a figure that is turned, as a disc of no radius
abbrev pub corner_of : Spot → Spot → ℕ → TurnedDisc
corner_of c about angle = record { centre = c; radius = 0; about = about; angle = angle }

-- two lists are as long, and what is said of two spots holds of the first of both, the second of both, and so on
abbrev pub EachOfBoth : (Spot → Spot → Type 0) → List Spot → List Spot → Type 0
EachOfBoth P [] [] = ⊤
EachOfBoth P [] (b ∷ ys) = ⊥
EachOfBoth P (a ∷ xs) [] = ⊥
EachOfBoth P (a ∷ xs) (b ∷ ys) = P a b × EachOfBoth P xs ys

-- The corners stand for those of the figure: both contours are closed, as many, and by the test of `slants` each corner of the figure stays at most r from its own at each turn of the cone
pub record StandFor (figure : List Spot) (about : Spot) (angle : ℕ) (corners : List Spot) (r : ℕ) : Type 0 where
  pub figure_closed : IsClosed figure
  pub corners_closed : IsClosed corners
  pub near : EachOfBoth (λ a b. DiscAbove (corner_of a about angle) b r) figure corners

-- Where they do, the polygon and capsules of radius r along it are taken above the turned figure
abbrev pub OutlineAbove : List Spot → Spot → ℕ → List Spot → ℕ → Type 0
OutlineAbove figure about angle corners r = StandFor figure about angle corners r

-- And an area below it, where it shares no point with any of these capsules, and its first corner is inside the polygon by even and odd. Area and capsules lie in the frame
pub record OutlineBelow (frame : Frame) (figure : List Spot) (about : Spot) (angle : ℕ) (corners : List Spot) (r : ℕ) (points : List Spot) : Type 0 where
  pub stand : StandFor figure about angle corners r
  pub framed : IsInside (area_box points) frame
  pub clear : AreClear frame points r corners
  pub inside : IsTrue (odd (edges_of corners) (first_of points).x (first_of points).y (pos 1))
