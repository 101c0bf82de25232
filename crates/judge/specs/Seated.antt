-- Seats of names one by one, with the pairs of a name and a net that were met.
use Rattle.std.specs.Prelude.{◌≡◌, ◌≢◌, ℕ, Bool, false, ◌==◌, ◌&&◌, if◌then◌else◌, List, [], ◌∷◌, ◌++◌, drop, map, Option, None, Some}
use Rattle.std.specs.List.{list_any}
use Rattle.verdict.specs.declared.verdict.PointLine.{PointLine}
use Rattle.verdict.specs.declared.verdict.Seat.{Seat}
use Rattle.verdict.specs.Right.{net_of}
use Rattle.verdict.specs.Seats.{seats_at}

-- One of the seats is on the net.
abbrev pub has_seat : List Seat → ℕ → Bool
has_seat seats net = list_any (λ n. n == net) (map net_of seats)

-- The pairs of a name and a net are those of the seats behind the first of each name.
abbrev pub AreSeated : List (ℕ × ℕ) → List (List Seat) → Type 0
AreSeated pairs groups = (name net : ℕ) → list_any (λ p. name == p.0 && net == p.1) pairs ≡ has_seat (drop 1 (seats_at groups name)) net

-- There are seats, and the first is on another net than this one.
abbrev pub IsFurther : List Seat → Seat → Type 0
IsFurther seats s = (first : Seat) × (rest : List Seat) × (seats ≡ first ∷ rest) × ((first.net == s.net) ≡ false)

-- the seats, and one more where none of them is on its net
abbrev pub with_seat : List Seat → Seat → List Seat
with_seat seats s = if has_seat seats s.net then seats else seats ++ s ∷ []

-- the seats of a name before and after a point of it: one more where it is on a net
abbrev pub with_point : Option ℕ → ℕ → List Seat → List Seat
with_point None probe seats = seats
with_point (Some net) probe seats = with_seat seats (record { net = net; probe = probe })

-- the name has these seats now, and each other name those that it had
abbrev pub HasNow : ℕ → List Seat → List (List Seat) → List (List Seat) → Type 0
HasNow name seats old new = (seats_at new name ≡ seats) × ((other : ℕ) → other ≢ name → seats_at new other ≡ seats_at old other)

-- the point of that number got its seat, and no other name did
abbrev pub IsSeated : PointLine → ℕ → List (List Seat) → List (List Seat) → Type 0
IsSeated line probe old new = HasNow line.name (with_point line.net probe (seats_at old line.name)) old new
