-- When a verdict on a board is right. A board is here its tables: for each piece the other pieces that touch it, for
-- each point the pieces under it, and the points and the names themselves.
use Rattle.std.specs.Prelude.{◌≡◌, ℕ, ◌+◌, ◌<◌, ◌≤◌, Bool, false, ◌==◌, ◌&&◌, if◌then◌else◌, List, [], ◌∷◌, ◌++◌, length, map, slice_get, slice_index_or, All, Contains, Option, Some, None, IfSome, MatchOption, codes}
use Rattle.std.specs.List.{list_any}
use Rattle.std.specs.Cmp.Lexicographic.{pointwise}
use Rattle.verdict.specs.declared.verdict.Twig.{Twig}
use Rattle.verdict.specs.declared.verdict.PointLine.{PointLine}
use Rattle.verdict.specs.declared.verdict.Open.{Open}
use Rattle.verdict.specs.declared.verdict.Branch.{Branch}
use Rattle.verdict.specs.declared.verdict.Seat.{Seat}
use Rattle.verdict.specs.declared.verdict.Short.{Short}
use Rattle.verdict.specs.declared.verdict.SpotLine.{SpotLine}
use Rattle.verdict.specs.declared.verdict.SourceLine.{SourceLine}
use Rattle.verdict.specs.declared.verdict.Verdict.{Verdict}
use Rattle.tables.specs.Tables.{TestPoint, Source, Tables, row_at, Stands}
use Rattle.verdict.specs.Forest.{AreTrees, StandOnce, StandApart, Holds, first_piece}

-- ---- Points

-- The line of a point: as the board has it, with the net of a piece under it, or without a net where none is.
pub record IsLineOf (nets : List (List Twig)) (beneath : List ℕ) (point : TestPoint) (line : PointLine) : Type 0 where
  pub number : line.number ≡ point.number
  pub layer : line.layer ≡ point.layer
  pub name : line.name ≡ point.name
  pub net : MatchOption line.net (beneath ≡ []) (λ net. (piece : ℕ) × Contains beneath piece × Holds nets net piece)

-- One line for each point, in order.
abbrev pub AreLines : List (List Twig) → List (List ℕ) → List TestPoint → List PointLine → Type 0
AreLines nets [] [] [] = Unit {0}
AreLines nets (under ∷ beneath) (point ∷ points) (line ∷ lines) = IsLineOf nets under point line × AreLines nets beneath points lines
AreLines nets beneath points lines = ⊥

-- the points without a net, numbered from n
abbrev pub bare_from : ℕ → List PointLine → List ℕ
bare_from n [] = []
bare_from n (line ∷ lines) = without line.net n ++ bare_from (n + 1) lines where
  without : Option ℕ → ℕ → List ℕ
  without None k = k ∷ []
  without (Some net) k = []

-- ---- Opens

-- the net of a seat
abbrev pub net_of : Seat → ℕ
net_of s = s.net

-- the seat of point n, where it is on a net
abbrev pub seat : Option ℕ → ℕ → List Seat
seat None n = []
seat (Some net) n = record { net = net; probe = n } ∷ []

-- the seats of a name, point by point from point n on
abbrev pub seats_from : ℕ → ℕ → List PointLine → List Seat
seats_from name n [] = []
seats_from name n (line ∷ lines) = (if line.name == name then seat line.net n else []) ++ seats_from name (n + 1) lines

-- the first seat on each net but those that were seen
abbrev pub fresh : List ℕ → List Seat → List Seat
fresh seen [] = []
fresh seen (s ∷ rest) = if list_any (λ net. net == s.net) seen then fresh seen rest else s ∷ fresh (seen ++ s.net ∷ []) rest

-- The first net of a name is its home. Each further net is open against it, with the first point there.
abbrev pub opens_against : ℕ → List Seat → List Open
opens_against name [] = []
opens_against name (home ∷ rest) = map (λ s. record { name = name; home = home.net; other = s.net; probe = s.probe }) rest

-- the opens of a name: one for each net of its points but the first
abbrev pub opens_of : ℕ → List PointLine → List Open
opens_of name lines = opens_against name (fresh [] (seats_from name 0 lines))

-- the name `N/C`, whose points are to be joined to nothing
abbrev pub is_unconnected : List ℕ → Bool
is_unconnected name = pointwise ◌==◌ name (codes "N/C")

-- the opens of all names from name n on, but for points that are to be joined to nothing
abbrev pub all_opens : ℕ → List (List ℕ) → List PointLine → List Open
all_opens n [] lines = []
all_opens n (name ∷ names) lines = (if is_unconnected name then [] else opens_of n lines) ++ all_opens (n + 1) names lines

-- ---- Shorts

-- a point is on the net
abbrev pub is_on : Option ℕ → ℕ → Bool
is_on None net = false
is_on (Some n) net = n == net

-- a point of the name on the net
abbrev pub marks : ℕ → ℕ → PointLine → Bool
marks net name line = (line.name == name) && is_on line.net net

-- the first point of a name on a net, from point n on
abbrev pub first_from : ℕ → ℕ → ℕ → List PointLine → Option ℕ
first_from net name n [] = None
first_from net name n (line ∷ lines) = if marks net name line then Some n else first_from net name (n + 1) lines

-- and from the first point on
abbrev pub first_on : ℕ → ℕ → List PointLine → Option ℕ
first_on net name lines = first_from net name 0 lines

-- the name, where there is a point
abbrev pub where_some : Option ℕ → ℕ → List ℕ
where_some None name = []
where_some (Some probe) name = name ∷ []

-- the names, from name n on, that have a point on a net
abbrev pub names_on : ℕ → ℕ → List (List ℕ) → List PointLine → List ℕ
names_on net n [] lines = []
names_on net n (name ∷ names) lines = where_some (first_on net n lines) n ++ names_on net (n + 1) names lines

-- a short without its paths: its net, and the name of each branch
pub record Outline : Type 0 where
  pub net : ℕ
  pub names : List ℕ

-- what is left of a short without its paths
abbrev pub outline : Short → Outline
outline s = record { net = s.net; names = map (λ b. b.name) s.branches }

-- a net with two names or more is short
abbrev pub short_of : ℕ → List ℕ → List Outline
short_of net (name ∷ other ∷ names) = record { net = net; names = name ∷ other ∷ names } ∷ []
short_of net names = []

-- the shorts of all nets from net n on
abbrev pub all_shorts : ℕ → List (List Twig) → List (List ℕ) → List PointLine → List Outline
all_shorts n [] names lines = []
all_shorts n (net ∷ nets) names lines = short_of n (names_on n 0 names lines) ++ all_shorts (n + 1) nets names lines

-- In a net the one piece has the other as its parent.
abbrev pub HasParent : List Twig → ℕ → ℕ → Type 0
HasParent net piece parent = Contains net (record { piece = piece; parent = Some parent })

-- A path goes from each piece to its parent, and ends at the first piece that is one of the ends.
abbrev pub IsPath : List Twig → List ℕ → List ℕ → Type 0
IsPath net ends [] = ⊥
IsPath net ends (piece ∷ []) = Contains ends piece
IsPath net ends (piece ∷ parent ∷ rest) = (Contains ends piece → ⊥) × HasParent net piece parent × IsPath net ends (parent ∷ rest)

-- the least of some pieces, one of them
abbrev pub IsLeastOf : List ℕ → ℕ → Type 0
IsLeastOf pieces least = Contains pieces least × ((piece : ℕ) → Contains pieces piece → least ≤ piece)

-- a path has a first piece, and that is a start
abbrev pub BeginsAt : (ℕ → Type 0) → List ℕ → Type 0
BeginsAt start [] = ⊥
BeginsAt start (piece ∷ rest) = start piece

-- A branch begins where its point has its start; `starts` says where that is.
pub record IsBranch (net : List Twig) (starts : ℕ → ℕ → Type 0) (lines : List PointLine) (number : ℕ) (ends : List ℕ) (b : Branch) : Type 0 where
  pub probe : first_on number b.name lines ≡ Some b.probe
  pub start : BeginsAt (starts b.probe) b.pieces
  pub path : IsPath net ends b.pieces

-- Each branch ends at the net's first piece, or before it where an earlier branch holds a piece of it.
abbrev pub AreBranches : List Twig → (ℕ → ℕ → Type 0) → List PointLine → ℕ → List ℕ → List Branch → Type 0
AreBranches net starts lines number ends [] = Unit {0}
AreBranches net starts lines number ends (b ∷ rest) = IsBranch net starts lines number ends b × AreBranches net starts lines number (ends ++ b.pieces) rest

-- The net of the short is there, and the branches are right.
pub record HasBranches (nets : List (List Twig)) (starts : ℕ → ℕ → Type 0) (lines : List PointLine) (s : Short) : Type 0 where
  pub net : List Twig
  pub there : slice_get nets s.net ≡ Some net
  pub branches : AreBranches net starts lines s.net (first_piece net ∷ []) s.branches

-- The branch of a point begins at the least piece under it.
abbrev pub BeginsBeneath : List (List ℕ) → ℕ → ℕ → Type 0
BeginsBeneath beneath probe piece = IsLeastOf (row_at beneath probe) piece

-- The branch of a point begins at its home.
abbrev pub BeginsAtHome : List (Option ℕ) → ℕ → ℕ → Type 0
BeginsAtHome homes probe piece = slice_index_or homes probe None ≡ Some piece

-- ---- The supplement

-- the place of a point
abbrev pub spot_of : TestPoint → SpotLine
spot_of point = record { x = point.x; y = point.y }

-- where a piece comes from, and its span
abbrev pub source_of : Source → SourceLine
source_of s = record { file = s.file; command = s.command; copy = s.copy; top = s.top; bottom = s.bottom }

-- ---- The verdict

-- The clauses of a right verdict.
pub data Clause : Type 0 where
  Trees Covers Apart Points Opens Shorts Branches Bare Counts Spots Sources : Clause

-- What a clause says.
abbrev pub Says : Tables → Verdict → Clause → Type 0
Says board v Trees = AreTrees (length board.near) (Stands board.near) v.nets
Says board v Covers = StandOnce (length board.near) v.nets
Says board v Apart = StandApart (Stands board.near) v.nets
Says board v Points = AreLines v.nets board.beneath board.points v.points
Says board v Opens = v.opens ≡ all_opens 0 board.names v.points
Says board v Shorts = map outline v.shorts ≡ all_shorts 0 v.nets board.names v.points
Says board v Branches = All (HasBranches v.nets (BeginsBeneath board.beneath) v.points) v.shorts
Says board v Bare = v.bare ≡ bare_from 0 v.points
Says board v Counts = (v.pieces ≡ length board.near) × (v.names ≡ board.names)
Says board v Spots = IfSome v.more (λ more. more.spots ≡ map spot_of board.points)
Says board v Sources = IfSome v.more (λ more. more.sources ≡ map source_of board.sources)

-- A verdict is right where all eleven clauses hold.
abbrev pub IsRight : Tables → Verdict → Type 0
IsRight board v = (clause : Clause) → Says board v clause

-- The number by which an audit names a clause.
abbrev pub number_of : Clause → ℕ
number_of Trees = 1
number_of Covers = 2
number_of Apart = 3
number_of Points = 4
number_of Opens = 5
number_of Shorts = 6
number_of Branches = 7
number_of Bare = 8
number_of Counts = 9
number_of Spots = 10
number_of Sources = 11

-- Clause n does not hold, and each clause before it does.
pub record FailsFirst (board : Tables) (v : Verdict) (n : ℕ) : Type 0 where
  pub clause : Clause
  pub number : number_of clause ≡ n
  pub fails : Says board v clause → ⊥
  pub before : (earlier : Clause) → number_of earlier < n → Says board v earlier

-- ---- Points that are joined

-- Point k is on the net.
abbrev pub IsOn : Verdict → ℕ → ℕ → Type 0
IsOn v k net = (line : PointLine) × (slice_get v.points k ≡ Some line) × (line.net ≡ Some net)

-- Two points have the same net number.
abbrev pub HaveOneNet : Verdict → ℕ → ℕ → Type 0
HaveOneNet v a b = (net : ℕ) × IsOn v a net × IsOn v b net
