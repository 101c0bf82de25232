-- Nets of homes, seats by names, and marks by nets.
use Rattle.std.specs.Prelude.{◌≡◌, ℕ, ◌+◌, ◌<◌, ◌==◌, if◌then◌else◌, List, [], ◌∷◌, ◌++◌, length, map, slice_index_or, All, Option, None, Some}
use Rattle.verdict.specs.declared.verdict.PointLine.{PointLine}
use Rattle.verdict.specs.declared.verdict.Branch.{Branch}
use Rattle.verdict.specs.declared.verdict.Seat.{Seat}
use Rattle.verdict.specs.declared.verdict.Mark.{Mark}
use Rattle.verdict.specs.Right.{first_on, fresh, names_on, seats_from}

-- the net of a home, by the number of each piece's net
abbrev pub net_by : List ℕ → Option ℕ → Option ℕ
net_by numbers None = None
net_by numbers (Some piece) = Some (slice_index_or numbers piece 0)

-- the name of a mark, and of a branch
abbrev pub mark_name : Mark → ℕ
mark_name m = m.name

abbrev pub branch_name : Branch → ℕ
branch_name b = b.name

-- The mark names the first point of its name on the net.
abbrev pub IsFirst : ℕ → List PointLine → Mark → Type 0
IsFirst number lines m = first_on number m.name lines ≡ Some m.probe

-- the seats of a name
abbrev pub seats_at : List (List Seat) → ℕ → List Seat
seats_at groups name = slice_index_or groups name []

-- the marks on a net
abbrev pub marks_at : List (List Mark) → ℕ → List Mark
marks_at marks net = slice_index_or marks net []

-- For each name its first seat on each net, in the order of the points.
abbrev pub AreFirstSeats : List (List Seat) → List PointLine → Type 0
AreFirstSeats groups lines = (name : ℕ) → name < length groups → seats_at groups name ≡ fresh [] (seats_from name 0 lines)

-- the mark that a seat of a name leaves on a net, if that is its net
abbrev pub mark_of : ℕ → ℕ → Seat → List Mark
mark_of name net s = if s.net == net then record { name = name; probe = s.probe } ∷ [] else []

-- the marks that seats of a name leave on a net
abbrev pub marks_of_seats : ℕ → ℕ → List Seat → List Mark
marks_of_seats name net [] = []
marks_of_seats name net (s ∷ rest) = mark_of name net s ++ marks_of_seats name net rest

-- the marks on a net of the seats of all names, numbered from n
abbrev pub marks_from : ℕ → ℕ → List (List Seat) → List Mark
marks_from net n [] = []
marks_from net n (seats ∷ rest) = marks_of_seats n net seats ++ marks_from net (n + 1) rest

-- The marks on each net are those of the names on it.
abbrev pub AreNamed : List (List ℕ) → List PointLine → List (List Mark) → Type 0
AreNamed names lines marks = (net : ℕ) → net < length marks → map mark_name (marks_at marks net) ≡ names_on net 0 names lines

-- Each mark on a net names the first point of its name there.
abbrev pub AreFirst : List PointLine → List (List Mark) → Type 0
AreFirst lines marks = (net : ℕ) → net < length marks → All (IsFirst net lines) (marks_at marks net)
