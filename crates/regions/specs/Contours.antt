-- A contour in the making is where it begins, and its edges.
use Rattle.std.specs.Prelude.{not, nat_lt, if◌then◌else◌, List, [], ◌∷◌, ◌++◌, length, map, Option, Some, None, Result, Ok, Err, ◌≡◌, ◌≤◌}
use Rattle.planar.specs.Plane.{same_spot}
use Rattle.planar.specs.declared.Spot.{Spot}
use Rattle.area_contact.specs.Contour.{end_from}
use Rattle.area_contact.specs.declared.Area.{Area}
use Rattle.area_contact.specs.declared.TheConstants.{MOST_CONTOUR_EDGES}
use Rattle.regions.specs.declared.contour.Contour.{Contour}
use Rattle.regions.specs.declared.contour.Leg.{Leg as Seen}
use Rattle.regions.specs.declared.contour.AddFault.{AddFault}
use Rattle.regions.specs.declared.contour.AddFault.TheVariants as add
use Rattle.regions.specs.declared.contour.CloseFault.{CloseFault}
use Rattle.regions.specs.declared.contour.CloseFault.TheVariants.{Open, Short, NoMemory}

-- an edge of a contour: where it ends, and what is kept of it besides
pub record Leg (E : Type 0) : Type 0 where
  pub to : Spot
  pub bend : E

-- a contour: where it begins, and its edges
pub record Outline (E : Type 0) : Type 0 where
  pub first : Spot
  pub legs : List (Leg E)

-- an edge, and a contour, without where they lie in memory
abbrev pub leg_of : {E : Type 0} → Seen E → Leg E
leg_of l = record { to = l.to; bend = l.bend }

abbrev pub outline_of : {E : Type 0} → Contour E → Outline E
outline_of c = record { first = c.first; legs = map leg_of c.legs.items }

-- where it begins, and where each of its edges ends
abbrev pub points_of : {E : Type 0} → Outline E → List Spot
points_of o = o.first ∷ map (λ l. l.to) o.legs

-- with an edge more
abbrev pub with_leg : {E : Type 0} → Outline E → Spot → E → Outline E
with_leg o to e = record { first = o.first; legs = o.legs ++ record { to = to; bend = e } ∷ [] }

-- why a contour bounds no area: its last point is not its first, or it is closed with one or two edges
pub data Flaw : Type 0 where
  stays_open : Flaw
  too_short : Flaw

-- what a contour through the points bounds: nothing where it has no edge, else the area through exactly these points
unfoldable pub close_of : List Spot → Result (Option (List Spot)) Flaw
close_of [] = Ok None
close_of (a ∷ []) = Ok None
close_of (a ∷ b ∷ rest) =
    if not (same_spot (end_from b rest) a) then Err stays_open
    else (if nat_lt (length rest) 2 then Err too_short else Ok (Some (a ∷ b ∷ rest)))

-- the points of the area, where there is one
abbrev pub points_if : Option Area → Option (List Spot)
points_if None = None
points_if (Some area) = Some (area.points.items)

-- the answer is what closing gives, unless memory is wanted
abbrev pub Closes : Result (Option Area) CloseFault → Result (Option (List Spot)) Flaw → Type 0
Closes (Ok area) closed = Ok (points_if area) ≡ closed
Closes (Err Open) closed = Err stays_open ≡ closed
Closes (Err Short) closed = Err too_short ≡ closed
Closes (Err NoMemory) closed = Unit {0}

-- the contour has an edge more, or stays; it is too long where it has MOST_CONTOUR_EDGES edges
abbrev pub Adds : {E : Type 0} → Outline E → Spot → E → Result (Unit {0}) AddFault → Outline E → Type 0
Adds old to e (Ok done) new = new ≡ with_leg old to e
Adds old to e (Err add.TooLong) new = (MOST_CONTOUR_EDGES ≤ length old.legs) × (new ≡ old)
Adds old to e (Err add.NoMemory) new = new ≡ old
