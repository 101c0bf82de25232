-- Laws of right verdicts: what a verdict that is right tells of its board.
use Rattle.std.specs.List.{flat_map}
use Rattle.std.specs.List.Sorted.{IsPermutation}
use Rattle.std.specs.Prelude.{◌≡◌, ◌≢◌, ◌⊎◌, ◌↔◌, ◌<◌, ℕ, false, List, ◌∷◌, length, map, All, Contains, None, Some, slice_get}
use Rattle.tables.specs.Chains.{IsChain}
use Rattle.tables.specs.Consistent.{ArePointsJoined}
use Rattle.tables.specs.Tables.{Tables, TestPoint, Stands, row_at}
use Rattle.verdict.specs.Forest.{Holds, first_piece, net_at, pieces_of}
use Rattle.verdict.specs.ReportText.{Agrees}
use Rattle.verdict.specs.Right.{BeginsAt, HaveOneNet, IsLeastOf, IsOn, first_on, is_unconnected}
use Rattle.verdict.specs.declared.verdict.Branch.{Branch}
use Rattle.verdict.specs.declared.verdict.Open.{Open}
use Rattle.verdict.specs.declared.verdict.PointLine.{PointLine}
use Rattle.verdict.specs.declared.verdict.Short.{Short}
use Rattle.verdict.specs.declared.verdict.Supplement.{Supplement}
use Rattle.verdict.specs.declared.verdict.Twig.{Twig}
use Rattle.verdict.specs.declared.verdict.Verdict.{Verdict}

-- ---- Net numbers

-- Point k has a line without a net.
abbrev pub IsWithoutNet : Verdict → ℕ → Type 0
IsWithoutNet v k = (line : PointLine) × (slice_get v.points k ≡ Some line) × (line.net ≡ None)

-- Net numbers tell what is joined.
pub record NetNumbersAreJoins (board : Tables) (v : Verdict) : Type 0 where
  -- Two points have the same net number exactly where a chain joins them.
  pub joined : (a b : ℕ) → HaveOneNet v a b ↔ ArePointsJoined board a b
  -- A point without a net is joined to none, not even to itself.
  pub unjoined : (a b : ℕ) → IsWithoutNet v a → ArePointsJoined board a b → ⊥

-- ---- Opens

-- Point k has the name and is on the net.
abbrev pub IsSeated : Verdict → ℕ → ℕ → ℕ → Type 0
IsSeated v k name net = (line : PointLine) × (slice_get v.points k ≡ Some line) × (line.name ≡ name) × (line.net ≡ Some net)

-- An open of the name is listed against the net.
pub record HasOther (v : Verdict) (name net : ℕ) : Type 0 where
  pub entry : Open
  pub listed : Contains v.opens entry
  pub named : entry.name ≡ name
  pub against : entry.other ≡ net

-- An open of the name is listed that has the net as its home or is against it.
pub record HasEnd (v : Verdict) (name net : ℕ) : Type 0 where
  pub entry : Open
  pub listed : Contains v.opens entry
  pub named : entry.name ≡ name
  pub end : (entry.home ≡ net) ⊎ (entry.other ≡ net)

-- Opens tell which names are split.
pub record OpensCoverSplitNames (board : Tables) (v : Verdict) : Type 0 where
  -- Of two points of a name other than `N/C` on different nets, one net at least is listed against, and both stand in an open.
  pub listed : (a b name n m : ℕ) (text : List ℕ) → slice_get board.names name ≡ Some text → is_unconnected text ≡ false → IsSeated v a name n → IsSeated v b name m → n ≢ m
      → (HasOther v name n ⊎ HasOther v name m) × HasEnd v name n × HasEnd v name m
  -- A piece that touches a piece of a net is in the net, so none outside a net touches it.
  pub apart : (i p q : ℕ) → Holds v.nets i p → Stands board.near q p → Holds v.nets i q

-- ---- Two right verdicts of one board

-- Two nets are the same but for parents and the order of the pieces after the first.
pub record AreOneNet (net other : List Twig) : Type 0 where
  -- They have the same first piece.
  pub first : first_piece net ≡ first_piece other
  -- The pieces of the one are those of the other in some order, so they are as many.
  pub order : IsPermutation (pieces_of net) (pieces_of other)

-- a branch without its pieces: its name and its point
pub record BranchPoint : Type 0 where
  pub name : ℕ
  pub probe : ℕ

-- a short without the pieces of its branches
pub record ShortPoints : Type 0 where
  pub net : ℕ
  pub branches : List BranchPoint

-- what is left of a branch, and of a short
abbrev pub branch_point : Branch → BranchPoint
branch_point b = record { name = b.name; probe = b.probe }

abbrev pub short_points : Short → ShortPoints
short_points s = record { net = s.net; branches = map branch_point s.branches }

-- Two verdicts differ at most in parents, in the order of a net's pieces after the first, in the pieces of branches, and in
-- whether there is a supplement.
pub record DifferInWitnessesOnly (v w : Verdict) : Type 0 where
  -- The count of pieces, the names, the lines of points, the opens and the points without a net are equal.
  pub pieces : v.pieces ≡ w.pieces
  pub names : v.names ≡ w.names
  pub points : v.points ≡ w.points
  pub opens : v.opens ≡ w.opens
  pub bare : v.bare ≡ w.bare
  -- There are as many nets, and those with the same number are one.
  pub net_count : length v.nets ≡ length w.nets
  pub nets : (i : ℕ) → AreOneNet (net_at v.nets i) (net_at w.nets i)
  -- So a net of the one holds a piece exactly where the net of that number in the other does.
  pub holds : (i piece : ℕ) → Holds v.nets i piece ↔ Holds w.nets i piece
  -- The shorts are the same but for the pieces of branches.
  pub shorts : map short_points v.shorts ≡ map short_points w.shorts
  -- So the status and the counts that are told of a verdict are the same.
  pub status : Agrees v ↔ Agrees w
  pub open_count : length v.opens ≡ length w.opens
  pub short_count : length v.shorts ≡ length w.shorts
  pub bare_count : length v.bare ≡ length w.bare
  -- Where both have a supplement it is the same one.
  pub more : (one other : Supplement) → v.more ≡ Some one → w.more ≡ Some other → one ≡ other

-- ---- Shorts

-- A chain from p to q that uses only pieces of a list.
pub record AreJoinedWithin (near : ℕ → ℕ → Type 0) (pieces : List ℕ) (p q : ℕ) : Type 0 where
  pub chain : List ℕ
  pub leads : IsChain near p chain q
  pub within : All (λ piece. Contains pieces piece) (p ∷ chain)

-- the pieces of all branches of a short
abbrev pub branch_pieces : Short → List ℕ
branch_pieces s = flat_map (λ b. b.pieces) s.branches

-- A short has a branch of the name, from the first point of the name on its net. It begins at the least piece under that
-- point, as `least_under` tells.
pub record HasBranch (least_under : ℕ → ℕ → Type 0) (v : Verdict) (s : Short) (name first : ℕ) : Type 0 where
  pub branch : Branch
  pub listed : Contains s.branches branch
  pub named : branch.name ≡ name
  pub probe : first_on s.net name v.points ≡ Some branch.probe
  pub begins : BeginsAt (λ piece. piece ≡ first) branch.pieces
  pub least : least_under branch.probe first

-- A short with a branch for each of two names is listed, and chains of touching pieces of its branches lead from the first
-- piece of each to that of the other.
pub record HasPathAlong (near least_under : ℕ → ℕ → Type 0) (v : Verdict) (net name other : ℕ) : Type 0 where
  pub short : Short
  pub listed : Contains v.shorts short
  pub number : short.net ≡ net
  pub first : ℕ
  pub last : ℕ
  pub one : HasBranch least_under v short name first
  pub two : HasBranch least_under v short other last
  pub forth : AreJoinedWithin near (branch_pieces short) first last
  pub back : AreJoinedWithin near (branch_pieces short) last first

-- A short has a branch of the name that begins at this piece, where the least piece under a point is the least in the point's
-- row of `beneath`.
abbrev pub HasBranchFrom : Tables → Verdict → Short → ℕ → ℕ → Type 0
HasBranchFrom board v s name first = HasBranch (λ probe piece. IsLeastOf (row_at board.beneath probe) piece) v s name first

-- A short of the net is listed with a path between two names, where the pieces that touch are those that `near` lists, and
-- the least piece under a point is the least in its row of `beneath`.
abbrev pub HasPath : Tables → Verdict → ℕ → ℕ → ℕ → Type 0
HasPath board v net name other = HasPathAlong (Stands board.near) (λ probe piece. IsLeastOf (row_at board.beneath probe) piece) v net name other

-- Point k of the board has the name, which is one of the board's.
abbrev pub IsNamed : Tables → ℕ → ℕ → Type 0
IsNamed board k name = (point : TestPoint) × (slice_get board.points k ≡ Some point) × (point.name ≡ name) × (name < length board.names)

-- Two joined points of different names are on one net, whose short is listed with a path.
abbrev pub ShortsHavePaths : Tables → Verdict → Type 0
ShortsHavePaths board v = (a b name other : ℕ) → IsNamed board a name → IsNamed board b other → name ≢ other → ArePointsJoined board a b → (net : ℕ) × IsOn v a net × IsOn v b net × HasPath board v net name other
