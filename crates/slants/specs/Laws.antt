-- Laws over the definitions.
use Rattle.std.specs.Prelude.{ℕ, ◌+◌, ◌≤◌, ◌<◌, List, ℤ, pos, ◌+ℤ◌, ◌-ℤ◌, ◌*ℤ◌, ◌≤ℤ◌, ◌<ℤ◌, ◌≡◌, ◌↔◌}
use Rattle.planar.specs.Plane.{Point, square}
use Rattle.planar.specs.declared.Spot.{Spot}
use Rattle.board_shapes.specs.Figures.{InFigure, filled}
use Rattle.board_shapes.specs.Rectangles.{rectangle}
use Rattle.slants.specs.Cones.{FigureAbove, FigureBelow, PossiblyTurned, SurelyTurned, cosine, sine, turns_by}
use Rattle.slants.specs.Copper.{InSlant}
use Rattle.slants.specs.Discs.{DiscAbove, DiscBelow, PossiblyInDisc, SurelyInDisc, disc_about}
use Rattle.slants.specs.Polygons.{InHull, IsPolygon, PolygonBelow, PolygonsAbove, PossiblyInPolygon, SurelyInPolygon}
use Rattle.slants.specs.Taken.{TakenAbove, TakenBelow}
use Rattle.slants.specs.Turned.{IsBetween, IsTurn, meet_of}
use Rattle.slants.specs.declared.Slant.{Slant}
use Rattle.slants.specs.declared.cones.TheConstants.{RIGHT_ANGLE}
use Rattle.slants.specs.declared.discs.TurnedDisc.{TurnedDisc}
use Rattle.slants.specs.declared.polygons.RegularPolygon.{RegularPolygon}
use Rattle.slants.specs.declared.turns.Motions.{Motions}
use Rattle.slants.specs.declared.turns.Turn.{Turn}

-- A contour that is taken below lies in the rectangle, and one that is taken above holds it
abbrev pub TakenIsBetween : Type 0
TakenIsBetween = (a : Slant) (points : List Spot) (p : Point) → (TakenBelow a points → InFigure (filled points) p → InSlant a p) × (TakenAbove a points → InSlant a p → InFigure (filled points) p)

-- What lies in a contour that is taken below lies in each that is taken above
abbrev pub BelowIsAbove : Type 0
BelowIsAbove = (a : Slant) (lower upper : List Spot) (p : Point) → TakenBelow a lower → TakenAbove a upper → InFigure (filled lower) p → InFigure (filled upper) p

-- The line from end to start has the same copper
abbrev pub OtherWayIsSame : Type 0
OtherWayIsSame = (a : Slant) (p : Point) → InSlant a p → InSlant (record { start = a.end; end = a.start; width = a.width }) p

-- A level line to the right whose width is 2 h has the copper of the rectangle between the lower left corner and the upper right one
abbrev pub LevelIsRectangle : Type 0
LevelIsRectangle = (a : Slant) (h : ℕ) (p : Point) → a.start.x <ℤ a.end.x → a.end.y ≡ a.start.y → a.width ≡ h + h → 1 ≤ h →
    InSlant a p ↔ InFigure (filled (rectangle (record { x = a.start.x; y = a.start.y -ℤ pos h }) (record { x = a.end.x; y = a.start.y +ℤ pos h }))) p

-- ---- turns

-- A turn has the cosine a/c and the sine b/c
pub record IsTold (a b c : ℤ) : Type 0 where
  pub turn : Turn
  pub some : IsTurn turn
  pub cosine : (meet_of turn turn).x *ℤ c ≡ a *ℤ (meet_of turn turn).n
  pub sine : (meet_of turn turn).y *ℤ c ≡ b *ℤ (meet_of turn turn).n

-- Each rational point (a/c, b/c) of the circle about 0 with radius 1 is a turn's
abbrev pub EachTurnIsTold : Type 0
EachTurnIsTold = (a b c : ℤ) → pos 1 ≤ℤ c → square a +ℤ square b ≡ square c → IsTold a b c

-- the cross product of two ways
abbrev pub crossed_of : Turn → Turn → ℤ
crossed_of u v = u.x *ℤ v.y -ℤ u.y *ℤ v.x

-- Of two ways, the last on the left of the first, a way that is not on the right of the first nor on the left of the last is in the cone
abbrev pub SidesTellCone : Type 0
SidesTellCone = (m : Motions) (t : Turn) → IsTurn t → pos 1 ≤ℤ crossed_of m.first m.last → pos 0 ≤ℤ crossed_of m.first t → pos 0 ≤ℤ crossed_of t m.last → IsBetween m t

-- ---- figures turned by an angle

-- A contour that is taken below lies in the figure at each turn by about the angle, and one that is taken above holds it at each
abbrev pub TurnedIsBetween : Type 0
TurnedIsBetween = (contour : List Spot) (about : Spot) (angle : ℕ) (points : List Spot) (p : Point) → (FigureBelow contour about angle points → InFigure (filled points) p → SurelyTurned contour about angle p) × (FigureAbove contour about angle points → PossiblyTurned contour about angle p → InFigure (filled points) p)

-- the way up or level is at most 1 off the cosine and the sine of half the angle, k times as long
pub record IsNear (angle : ℕ) (k : ℤ) (t : Turn) : Type 0 where
  pub some : pos 1 ≤ℤ k
  pub up : pos 0 ≤ℤ t.y
  pub x_from : (k *ℤ (pos (cosine angle) -ℤ pos 1)) ≤ℤ t.x
  pub x_to : t.x ≤ℤ (k *ℤ (pos (cosine angle) +ℤ pos 1))
  pub y_from : (k *ℤ (pos (sine angle) -ℤ pos 1)) ≤ℤ t.y
  pub y_to : t.y ≤ℤ (k *ℤ (pos (sine angle) +ℤ pos 1))

-- Such a way of an angle below a right one is in its cone
abbrev pub NearIsBetween : Type 0
NearIsBetween = (about : Spot) (angle : ℕ) (k : ℤ) (t : Turn) → angle < RIGHT_ANGLE → IsNear angle k t → IsBetween (turns_by about angle) t

-- What lies in the figure at each of these turns, by an angle below a right one, lies in it at one: there is a copper of it
abbrev pub SurelyIsPossibly : Type 0
SurelyIsPossibly = (contour : List Spot) (about : Spot) (angle : ℕ) (p : Point) → angle < RIGHT_ANGLE → SurelyTurned contour about angle p → PossiblyTurned contour about angle p

-- ---- discs turned by an angle

-- A disc about a spot that is taken below lies in the turned disc at each turn by about its angle, and one that is taken above holds it at each
abbrev pub DiscsAreBetween : Type 0
DiscsAreBetween = (a : TurnedDisc) (s : Spot) (r : ℕ) (p : Point) → (DiscBelow a s r → InFigure (disc_about s r) p → SurelyInDisc a p) × (DiscAbove a s r → PossiblyInDisc a p → InFigure (disc_about s r) p)

-- There is a copper of a disc that is turned by less than a right angle: what lies in it at each of these turns lies in it at one
abbrev pub DiscsHaveCopper : Type 0
DiscsHaveCopper = (a : TurnedDisc) (p : Point) → a.angle < RIGHT_ANGLE → SurelyInDisc a p → PossiblyInDisc a p

-- ---- regular polygons

-- A contour that is taken below lies in the polygon at all turns of its cones
abbrev pub PolygonBelowLies : Type 0
PolygonBelowLies = (g : RegularPolygon) (points : List Spot) (p : Point) → PolygonBelow g points → InFigure (filled points) p → SurelyInPolygon g p

-- One that is taken above polygons holds their hull at each
abbrev pub PolygonsAboveHold : Type 0
PolygonsAboveHold = (gs : List RegularPolygon) (points : List Spot) (p : Point) → PolygonsAbove gs points → InHull gs p → InFigure (filled points) p

abbrev pub PolygonIsBetween : Type 0
PolygonIsBetween = PolygonBelowLies × PolygonsAboveHold

-- There is a copper of each of 3 to 12 corners, wherever it lies: what lies on the left of each edge at all turns of its cone lies in the hull of the corners at theirs
abbrev pub PolygonsHaveCopper : Type 0
PolygonsHaveCopper = (g : RegularPolygon) (p : Point) → IsPolygon g → SurelyInPolygon g p → PossiblyInPolygon g p
