-- Which centre an arc of a single quadrant means: its offsets have no signs (Gerber Layer Format Specification, 4.7, G74, in the revisions that have it).
use Rattle.std.specs.Prelude.{ℕ, ◌+◌, ◌*◌, ◌^◌, ◌≤◌, Bool, ◌&&◌, ◌||◌, not, ◌==◌, nat_le, nat_lt, int_lt, if◌then◌else◌, ℤ, pos, neg_ℤ, unsigned_abs, ◌+ℤ◌, ◌-ℤ◌, Option, Some, None}
use Rattle.std.specs.Int.{abs_diff}
use Rattle.planar.specs.Plane.{IsPlaced, cross_of, dot_of, same_spot}
use Rattle.planar.specs.declared.Spot.{Spot}
use Rattle.lengths.specs.Decimal.{units_in}
use Rattle.real_copper.specs.declared.centres.Draw.{Draw}

-- the spot this way from another
abbrev pub moved : Spot → Spot → Spot
moved a way = record { x = a.x +ℤ way.x; y = a.y +ℤ way.y }

-- the centre that lies this way from the start of a draw
abbrev pub centre_at : Draw → Spot → Spot
centre_at d way = moved d.start way

-- the turn about a centre from the start to the end, in the direction of the draw: above 0 up to a half turn
abbrev pub turn_about : Draw → Spot → ℤ
turn_about d c = if d.clockwise then cross_of c d.end d.start else cross_of c d.start d.end

-- the scalar product of the ways from a centre to both ends: below 0 over a right angle
abbrev pub opening : Draw → Spot → ℤ
opening d c = dot_of c d.start d.end

abbrev pub is_wide : Draw → Spot → Bool
is_wide d c = int_lt (opening d c) (pos 0)

-- how far both ends are from a centre, along the axes
abbrev pub span : Spot → Spot → ℕ
span a b = unsigned_abs (b.x -ℤ a.x) + unsigned_abs (b.y -ℤ a.y)

abbrev pub reach : Draw → Spot → ℕ
reach d c = span c d.start + span c d.end

-- how many steps of the file are a unit
abbrev pub steps_in : Draw → ℕ
steps_in d = 10 ^ d.decimals

-- so many square u are at most a step times the reach and one step, where a step is `units` over `steps`
abbrev pub is_little : ℕ → ℕ → ℕ → ℕ → Bool
is_little over steps units reach = nat_le (over * (steps * steps)) (units * (reach * steps + units))

-- over a right angle by no more than what a step of the file at both ends makes (own)
abbrev pub is_nearly_right : Draw → Spot → Bool
is_nearly_right d c = is_little (unsigned_abs (opening d c)) (steps_in d) (units_in d.unit) (reach d c)

abbrev pub is_quarter : Draw → Spot → Bool
is_quarter d c = not (is_wide d c) || is_nearly_right d c

-- A centre may be meant: the turn goes the way of the draw, and is at most a right angle, or nearly.
abbrev pub is_fit : Draw → Spot → Bool
is_fit d c = not (int_lt (turn_about d c) (pos 0)) && is_quarter d c

-- by how much the squares of the distances of both ends differ
abbrev pub unlike : Draw → Spot → ℕ
unlike d c = abs_diff (unsigned_abs (dot_of c d.start d.start)) (unsigned_abs (dot_of c d.end d.end))

-- a centre is better than another: its ends are less unlike, or as unlike and only the other's angle is over a right one
abbrev pub is_better : Draw → Spot → Spot → Bool
is_better d a b =
    if unlike d a == unlike d b then not (is_wide d a) && is_wide d b
    else nat_lt (unlike d a) (unlike d b)

-- the other is the same, may not be meant, or is not as good
abbrev pub beats : Draw → Spot → Spot → Bool
beats d a b = same_spot a b || (not (is_fit d b) || is_better d a b)

-- the way with other signs
abbrev pub flip_x : Spot → Spot
flip_x way = record { x = neg_ℤ way.x; y = way.y }

abbrev pub flip_y : Spot → Spot
flip_y way = record { x = way.x; y = neg_ℤ way.y }

-- the way leads to a centre that may be meant and beats those that lie the same way but for the signs
abbrev pub wins : Draw → Spot → Bool
wins d way =
    is_fit d (centre_at d way) &&
    (beats d (centre_at d way) (centre_at d (flip_x way)) &&
    (beats d (centre_at d way) (centre_at d (flip_y way)) && beats d (centre_at d way) (centre_at d (flip_x (flip_y way)))))

-- The way to the centre that is meant, if there is one.
unfoldable pub choice : Draw → Spot → Option Spot
choice d way =
    if wins d way then Some way
    else (if wins d (flip_x way) then Some (flip_x way)
    else (if wins d (flip_y way) then Some (flip_y way)
    else (if wins d (flip_x (flip_y way)) then Some (flip_x (flip_y way))
    else None)))

-- both ends are within a metre, and the format has at most 7 decimals
pub record IsLawfulDraw (d : Draw) : Type 0 where
  pub start : IsPlaced d.start
  pub end : IsPlaced d.end
  pub decimals : d.decimals ≤ 7
