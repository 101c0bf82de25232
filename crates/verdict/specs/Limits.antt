-- How much a verdict lists, and how long its report of version 1 may be: numbers and counts as boards within the limits of a
-- package have them.
use Rattle.std.specs.Prelude.{◌≡◌, ℕ, ◌<◌, ◌≤◌, List, length, IfSome}
use Rattle.std.specs.List.{AllByRecursion, sum_by}
use Rattle.tables.specs.Tables.{Tables}
use Rattle.verdict.specs.declared.verdict.Twig.{Twig}
use Rattle.verdict.specs.declared.verdict.PointLine.{PointLine}
use Rattle.verdict.specs.declared.verdict.Open.{Open}
use Rattle.verdict.specs.declared.verdict.Branch.{Branch}
use Rattle.verdict.specs.declared.verdict.Short.{Short}
use Rattle.verdict.specs.declared.verdict.Verdict.{Verdict}

-- a number of at most six digits, as those of a report of version 1 on a board within the limits should be
abbrev pub HasSixDigits : ℕ → Type 0
HasSixDigits n = n < 1_000_000

pub record IsSmallTwig (t : Twig) : Type 0 where
  pub piece : HasSixDigits t.piece
  pub parent : IfSome t.parent HasSixDigits

pub record IsSmallPointLine (p : PointLine) : Type 0 where
  pub number : HasSixDigits p.number
  pub layer : HasSixDigits p.layer
  pub name : HasSixDigits p.name
  pub net : IfSome p.net HasSixDigits

pub record IsSmallOpen (o : Open) : Type 0 where
  pub name : HasSixDigits o.name
  pub home : HasSixDigits o.home
  pub other : HasSixDigits o.other
  pub probe : HasSixDigits o.probe

pub record IsSmallBranch (b : Branch) : Type 0 where
  pub name : HasSixDigits b.name
  pub probe : HasSixDigits b.probe
  pub pieces : AllByRecursion HasSixDigits b.pieces

pub record IsSmallShort (s : Short) : Type 0 where
  pub net : HasSixDigits s.net
  pub branches : AllByRecursion IsSmallBranch s.branches

-- the name of a record of a netlist has 14 columns
abbrev pub IsRecordName : List ℕ → Type 0
IsRecordName name = length name ≤ 14

-- how many pieces the branch of a short lists, and all its branches
abbrev pub branch_length : Branch → ℕ
branch_length b = length b.pieces

abbrev pub branches_length : Short → ℕ
branches_length s = sum_by branch_length s.branches

abbrev pub branch_count : Short → ℕ
branch_count s = length s.branches

abbrev pub net_length : List Twig → ℕ
net_length net = length net

-- all numbers are small, and the names those of records
pub record HasSmallParts (v : Verdict) : Type 0 where
  pub pieces : HasSixDigits v.pieces
  pub names : AllByRecursion IsRecordName v.names
  pub nets : AllByRecursion (AllByRecursion IsSmallTwig) v.nets
  pub points : AllByRecursion IsSmallPointLine v.points
  pub opens : AllByRecursion IsSmallOpen v.opens
  pub shorts : AllByRecursion IsSmallShort v.shorts
  pub bare : AllByRecursion HasSixDigits v.bare

-- At most 200,000 pieces in at most as many nets, 200,000 names and shorts, and 400,000 points, opens, branches and points without
-- copper. In the paths of all branches together at most 600,000 pieces: those of a board, and one more for each branch.
pub record HasFewParts (v : Verdict) : Type 0 where
  pub nets : length v.nets ≤ 200_000
  pub twigs : sum_by net_length v.nets ≤ 200_000
  pub names : length v.names ≤ 200_000
  pub points : length v.points ≤ 400_000
  pub opens : length v.opens ≤ 400_000
  pub shorts : length v.shorts ≤ 200_000
  pub branches : sum_by branch_count v.shorts ≤ 400_000
  pub paths : sum_by branches_length v.shorts ≤ 600_000
  pub bare : length v.bare ≤ 400_000

-- What a right verdict lists, by the pieces and the points of its board: no more twigs and nets than pieces, a line for each point, no more
-- opens, branches and points without copper than points, and no more shorts than nets.
pub record HasCountsOf (board : Tables) (v : Verdict) : Type 0 where
  pub twigs : sum_by net_length v.nets ≤ length board.near
  pub nets : length v.nets ≤ length board.near
  pub names : length v.names ≡ length board.names
  pub points : length v.points ≡ length board.points
  pub opens : length v.opens ≤ length board.points
  pub shorts : length v.shorts ≤ length v.nets
  pub branches : sum_by branch_count v.shorts ≤ length board.points
  pub bare : length v.bare ≤ length board.points
