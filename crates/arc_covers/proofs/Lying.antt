-- What is taken below a region lies in it.
use Rattle.std.proofs.Common.{◌≡◌, ◌↔◌, inl, inr, List, [], ◌∷◌, All, Bool, true, false, IsTrue, if◌then◌else◌, refl, ap, subst}
use Rattle.std.proofs.lemmas.List.Elements.{All-cons, All-nil}
use Rattle.planar.specs.Plane.{IsPlaced, Point}
use Rattle.planar.specs.declared.Frame.{Frame}
use Rattle.planar.specs.declared.Spot.{Spot}
use Rattle.board_shapes.specs.Figures.{Figure, InFigure, filled}
use Rattle.arc_regions.specs.Copper.{SurelyIn}
use Rattle.arc_regions.specs.Laws.{TakenHolds, TakenLies}
use Rattle.arc_regions.specs.Taken.{AreAround, StandsAs, parts_of}
use Rattle.arc_regions.specs.declared.Part.{Part}
use Rattle.arc_regions.specs.declared.Part.TheVariants.{Straight, Curved}
use Rattle.arc_regions.specs.declared.Region.{Region as Contour}
use Rattle.arc_covers.specs.Bounds.{BoundRegion, ContourFor}
use Rattle.arc_covers.specs.Eighths.{IsPartPlaced, LiesBelow, by_eighths, frame_about, with_eighths}
use Rattle.arc_covers.specs.Taken.{RegionTaken}
use Rattle.arc_covers.specs.declared.side.Side.{Side}
use Rattle.arc_covers.specs.declared.side.Side.TheVariants.{Above, Below}
use Rattle.arc_covers.proofs.Told.{held}

parts_same : (a : Spot) (parts : List Part) → parts_of (by_eighths a parts) ≡ parts
parts_same a [] = refl
parts_same a (Straight b ∷ rest) = ap (λ (xs : List Part). Straight b ∷ xs) (parts_same b rest)
parts_same a (Curved t ∷ rest) = ap (λ (xs : List Part). Curved t ∷ xs) (parts_same t.end rest)

lying : (a : Spot) (parts : List Part) (figures : List Figure) → TakenLies → ContourFor Below (LiesBelow a parts) figures → ContourFor Below (λ points. (p : Point) → InFigure (filled points) p → SurelyIn a parts p) figures
lying a parts figures law (inl none) = inl none
lying a parts figures law (inr (points, same, (contour, taken))) = inr (points, same, λ p inside. subst (λ (xs : List Part). SurelyIn a xs p) (parts_same a parts) (law (frame_about a) a (by_eighths a parts) points p contour taken inside))

pub bounded : TakenHolds → TakenLies → (side : Side) (area : Contour) (figures : List Figure) → RegionTaken side area figures → BoundRegion side area figures
bounded holds lies Below area figures taken = lying area.start area.parts.items figures lies taken
bounded holds lies Above area figures taken = held area.start area.parts.items figures holds taken

-- ---- what is taken is within a metre

end_placed : (a e : Spot) (b : Bool) → IsPlaced (if b then a else e) → IsPlaced (if b then e else a) → IsPlaced e
end_placed a e true first last = last
end_placed a e false first last = first

part_placed : (a : Spot) (x : Part) → StandsAs a x (with_eighths a x).chain (with_eighths a x).radius → IsPartPlaced x
part_placed a (Straight b) h = h
part_placed a (Curved t) h = (h.above.judged.placed.centre, end_placed a t.end t.counterclockwise h.above.judged.placed.start h.above.judged.placed.end)

parts_placed : (frame : Frame) (points : List Spot) (z q : Spot) (parts : List Part) (o : Bool) (a : Spot) → AreAround frame points z q o a (by_eighths a parts) → All IsPartPlaced parts
parts_placed frame points z q [] o a h = All-nil IsPartPlaced
parts_placed frame points z q (Straight b ∷ rest) o a h = All-cons IsPartPlaced (Straight b) rest (part_placed a (Straight b) h.0.0) (parts_placed frame points z q rest _ b h.1)
parts_placed frame points z q (Curved t ∷ rest) o a h = All-cons IsPartPlaced (Curved t) rest (part_placed a (Curved t) h.0.0) (parts_placed frame points z q rest _ t.end h.1)

pub all_placed : (a : Spot) (parts : List Part) (points : List Spot) → LiesBelow a parts points → IsPlaced a × All IsPartPlaced parts
all_placed a parts points (contour, taken) = (taken.start, parts_placed (frame_about a) points _ _ parts _ a taken.parts)

pub not_reached : (a : Spot) (parts : List Part) (points : List Spot) (b : Bool) → b ≡ false → IsTrue b ↔ (IsPlaced a × All IsPartPlaced parts) → IsTrue false ↔ LiesBelow a parts points
not_reached a parts points b off told = (λ yes. absurd cc, λ h. absurd (let yes = told.1 (all_placed a parts points h) in cc))
