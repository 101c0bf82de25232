-- The edges of a contour, as they are kept and as plain data: where they end, and that each is within 1 m.
use Rattle.std.proofs.Common.{◌≡◌, ◌∙◌, ℕ, ◌<◌, ◌≤◌, ◌-◌, zero, suc, Bool, true, false, ◌&&◌, List, [], ◌∷◌, map, length, refl, ap, arith}
use Rattle.std.specs.Prelude.{All, nat_lt, Option, Some, None, slice_get, slice_index_or}
use Rattle.std.specs.List.{list_all}
use Rattle.std.proofs.lemmas.Bool.Decides.{nat_tests}
use Rattle.std.proofs.lemmas.List.{length-map}
use Rattle.planar.specs.Plane.{IsPlaced, same_spot}
use Rattle.planar.specs.declared.Spot.{Spot}
use Rattle.planar.proofs.Spots.{spot_is}
use Rattle.area_contact.specs.Contour.{IsClosed, end_from}
use Rattle.regions.specs.Contours.{Outline, leg_of}
use Rattle.gerber_reading.specs.Reader.{AllKeep}
use Rattle.gerber_reading.specs.Settings.{lengthened}
use Rattle.std.proofs.lemmas.List.Elements.{All-append, All-cons, All-nil}
use Rattle.regions.specs.declared.contour.Leg.{Leg as Seen}
use Rattle.arc_regions.specs.declared.Part.{Part}
use Rattle.real_copper.specs.Contours.{Edge, end_of, end_of_edge, is_too_short, is_straight, part_by, part_of}
use Rattle.real_copper.specs.Draws.{IsNearBend}
use Rattle.real_copper.specs.Figures.{is_part_placed}
use Rattle.real_copper.specs.declared.draw.Bend.{Bend}
use Rattle.real_copper.proofs.Near.{placed_is}

part_near : (to : Spot) (bend : Option Bend) → IsPlaced to → IsNearBend bend → is_part_placed (part_by to bend) ≡ true
part_near to None h k = placed_is to h
part_near to (Some b) h k = rw (placed_is b.centre k, placed_is to h) refl

pub parts_near : (ls : List (Seen (Option Bend))) → All (λ (l : Seen (Option Bend)). IsPlaced l.to) ls → All (λ (l : Edge). IsNearBend l.bend) (map leg_of ls) → list_all is_part_placed (map part_of (map leg_of ls)) ≡ true
parts_near [] h k = refl
parts_near (l ∷ ls) h k =
    let first : is_part_placed (part_by l.to l.bend) ≡ true = part_near l.to l.bend (h 0 l (omega arith)) (k 0 (leg_of l) (omega arith)) in
    let more : list_all is_part_placed (map part_of (map leg_of ls)) ≡ true = parts_near ls (λ i d below. h (suc i) d (omega arith)) (λ i d below. k (suc i) d (omega arith)) in
    rw (first, more) refl

pub as_many : (ls : List (Seen (Option Bend))) (parts : List Part) → parts ≡ map part_of (map leg_of ls) → length parts ≡ length ls
as_many ls parts e = ap length e ∙ simp length-map

-- where the spots of edges end
ends_as : (p : Spot) (es : List Edge) → end_from p (map end_of_edge es) ≡ end_of p es
ends_as p [] = refl
ends_as p (e ∷ es) = ends_as e.to es

pub closed_points : (first : Spot) (es : List Edge) (points : List Spot) → points ≡ first ∷ map end_of_edge es → same_spot (end_of first es) first ≡ true → IsClosed points
closed_points first es points e h = rw e (ends_as first es ∙ spot_is (end_of first es) first h)

all_first : (p : Spot) (ps : List Spot) → IsPlaced p → All IsPlaced ps → (k : ℕ) (d : Spot) → k < length (p ∷ ps) → IsPlaced (slice_index_or (p ∷ ps) k d)
all_first p ps h more zero d below = h
all_first p ps h more (suc k) d below = more k d (omega arith)

all_ends : (ls : List (Seen (Option Bend))) → All (λ (l : Seen (Option Bend)). IsPlaced l.to) ls → All IsPlaced (map end_of_edge (map leg_of ls))
all_ends [] h = λ k d below. absurd (omega arith)
all_ends (l ∷ ls) h = all_first l.to (map end_of_edge (map leg_of ls)) (h 0 l (omega arith)) (all_ends ls (λ i d below. h (suc i) d (omega arith)))

-- straight edges that are not too few have four points or more
not_both : (b : Bool) → (b && true) ≡ false → b ≡ false
not_both true h = h
not_both false h = refl

pub enough_points : (o : Outline (Option Bend)) (points : List Spot) → points ≡ o.first ∷ map end_of_edge o.legs → is_straight o.legs ≡ true → is_too_short o ≡ false → 4 ≤ length points
enough_points o points e straight h =
    let few : nat_lt (length o.legs) 3 ≡ false = not_both (nat_lt (length o.legs) 3) (rw straight at h) in
    let many : length (map end_of_edge o.legs) ≡ length o.legs = simp length-map in
    rw e (grind (arith, nat_tests, few, many))

pub placed_points : (first : Spot) (ls : List (Seen (Option Bend))) (points : List Spot) → points ≡ first ∷ map end_of_edge (map leg_of ls) → IsPlaced first → All (λ (l : Seen (Option Bend)). IsPlaced l.to) ls → All IsPlaced points
placed_points first ls points e h k = rw e (all_first first (map end_of_edge (map leg_of ls)) h (all_ends ls k))

-- the last of them ends where they end
pub last_end : (p : Spot) (ls : List (Seen (Option Bend))) (l : Seen (Option Bend)) → Some l ≡ slice_get ls (length ls - 1) → l.to ≡ end_of p (map leg_of ls)
last_end p [] l h = absurd cc
last_end p (a ∷ []) l h = let e : l ≡ a = cc in ap (λ (s : Seen (Option Bend)). s.to) e
last_end p (a ∷ (b ∷ ls)) l h =
    let e : length (a ∷ (b ∷ ls)) - 1 ≡ suc (length (b ∷ ls) - 1) = omega arith in
    last_end a.to (b ∷ ls) l (rw e at h)

-- bends are near, of a contour that is an edge longer too
pub bends_longer : (o : Option (Outline (Option Bend))) (from to : Spot) (bend : Option Bend) → AllKeep IsNearBend o → IsNearBend bend → AllKeep IsNearBend (lengthened o from to bend)
bends_longer None from to bend h k = All-cons (λ (l : Edge). IsNearBend l.bend) (record { to = to; bend = bend }) [] k (All-nil (λ (l : Edge). IsNearBend l.bend))
bends_longer (Some o) from to bend h k =
    All-append (λ (l : Edge). IsNearBend l.bend) o.legs (record { to = to; bend = bend } ∷ []) h
    (All-cons (λ (l : Edge). IsNearBend l.bend) (record { to = to; bend = bend }) [] k (All-nil (λ (l : Edge). IsNearBend l.bend)))
