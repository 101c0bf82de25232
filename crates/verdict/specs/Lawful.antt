-- Verdicts whose numbers and texts are in the ranges of their types.
use Rattle.std.specs.Prelude.{ℕ, ◌<◌, ◌^◌, ℤ, pos, neg_ℤ, ◌≤ℤ◌, ◌<ℤ◌, IfSome}
use Rattle.std.specs.List.{AllByRecursion}
use Rattle.lengths.specs.Text.{IsText}
use Rattle.verdict.specs.declared.verdict.Twig.{Twig}
use Rattle.verdict.specs.declared.verdict.PointLine.{PointLine}
use Rattle.verdict.specs.declared.verdict.Open.{Open}
use Rattle.verdict.specs.declared.verdict.Branch.{Branch}
use Rattle.verdict.specs.declared.verdict.Short.{Short}
use Rattle.verdict.specs.declared.verdict.SpotLine.{SpotLine}
use Rattle.verdict.specs.declared.verdict.SourceLine.{SourceLine}
use Rattle.verdict.specs.declared.verdict.Supplement.{Supplement}
use Rattle.verdict.specs.declared.verdict.Verdict.{Verdict}

-- a number of 32 bits
abbrev pub IsNumber : ℕ → Type 0
IsNumber n = n < 2 ^ 32

-- a twig in range: its piece, and the parent where it has one
pub record IsTwig (t : Twig) : Type 0 where
  pub piece : IsNumber t.piece
  pub parent : IfSome t.parent IsNumber

-- the line of a test point in range: its record, its layer, its name, and its net where it has one
pub record IsPointLine (p : PointLine) : Type 0 where
  pub number : IsNumber p.number
  pub layer : p.layer < 2 ^ 8
  pub name : IsNumber p.name
  pub net : IfSome p.net IsNumber

-- an open in range: its name, its home, the other net, and the first point there
pub record IsOpen (o : Open) : Type 0 where
  pub name : IsNumber o.name
  pub home : IsNumber o.home
  pub other : IsNumber o.other
  pub probe : IsNumber o.probe

-- a branch in range: its name, its point and the pieces of its path
pub record IsBranchLine (b : Branch) : Type 0 where
  pub name : IsNumber b.name
  pub probe : IsNumber b.probe
  pub pieces : AllByRecursion IsNumber b.pieces

-- a short in range: its net and its branches
pub record IsShort (s : Short) : Type 0 where
  pub net : IsNumber s.net
  pub branches : AllByRecursion IsBranchLine s.branches

-- a signed number of 64 bits
pub record IsSigned (z : ℤ) : Type 0 where
  pub low : neg_ℤ (pos (2 ^ 63)) ≤ℤ z
  pub high : z <ℤ pos (2 ^ 63)

-- the place of a test point in range
pub record IsSpotLine (s : SpotLine) : Type 0 where
  pub x : IsSigned s.x
  pub y : IsSigned s.y

-- the origin of a piece in range: a file, a command, a copy, and the span of layers
pub record IsSourceLine (s : SourceLine) : Type 0 where
  pub file : IsNumber s.file
  pub command : IsNumber s.command
  pub copy : IsNumber s.copy
  pub top : s.top < 2 ^ 8
  pub bottom : s.bottom < 2 ^ 8

-- the places of the points and the origins of the pieces are in range
pub record IsSupplement (more : Supplement) : Type 0 where
  pub spots : AllByRecursion IsSpotLine more.spots
  pub sources : AllByRecursion IsSourceLine more.sources

-- The places of points are signed numbers of 64 bits, layers are below 2^8 and all other numbers below 2^32, and the names
-- are lawful texts.
pub record IsVerdict (v : Verdict) : Type 0 where
  pub pieces : IsNumber v.pieces
  pub nets : AllByRecursion (AllByRecursion IsTwig) v.nets
  pub names : AllByRecursion IsText v.names
  pub points : AllByRecursion IsPointLine v.points
  pub opens : AllByRecursion IsOpen v.opens
  pub shorts : AllByRecursion IsShort v.shorts
  pub bare : AllByRecursion IsNumber v.bare
  pub more : IfSome v.more IsSupplement
