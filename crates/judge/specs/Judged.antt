-- Lines by the numbers of nets, and paths in a net.
use Rattle.std.specs.Prelude.{◌≡◌, ◌↔◌, ℕ, ◌<◌, ◌^◌, All, Bool, true, false, List, [], ◌∷◌, length, slice_index_or, Contains, Option, Some, None}
use Rattle.verdict.specs.declared.verdict.Twig.{Twig}
use Rattle.board_shapes.specs.Plain.{PlainBoard}
use Rattle.board_shapes.specs.declared.probe.Probe.{Probe}
use Rattle.verdict.specs.declared.verdict.PointLine.{PointLine}
use Rattle.verdict.specs.declared.verdict.Mark.{Mark}
use Rattle.verdict.specs.Forest.{Holds, pieces_of}
use Rattle.verdict.specs.Seats.{net_by}
use Rattle.verdict.specs.Places.{twig_at}

-- the line of a probe with its home
abbrev pub line_by : List ℕ → Probe → Option ℕ → PointLine
line_by numbers p home = record { number = p.number; layer = p.layer; name = p.name; net = net_by numbers home }

-- a line for each probe and its home, by the numbers of the pieces' nets
abbrev pub lines_by : List ℕ → List Probe → List (Option ℕ) → List PointLine
lines_by numbers (p ∷ probes) (home ∷ homes) = line_by numbers p home ∷ lines_by numbers probes homes
lines_by numbers probes homes = []

-- The lines are those of the board's probes with these homes, by numbers that name the net of each piece.
pub record AreLinesOn (b : PlainBoard) (nets : List (List Twig)) (homes : List (Option ℕ)) (lines : List PointLine) : Type 0 where
  pub numbers : List ℕ
  pub told : (i p : ℕ) → Holds nets i p → slice_index_or numbers p 0 ≡ i
  pub made : lines ≡ lines_by numbers b.probes homes
  pub few : length lines < 2 ^ 32
  pub named : All (λ line. line.name < length b.names) lines

-- ---- Paths

-- The twig at place k has a parent before it.
pub record HasAbove (net : List Twig) (k : ℕ) : Type 0 where
  pub place : ℕ
  pub before : place < k
  pub named : (twig_at net k).parent ≡ Some (twig_at net place).piece

-- So has each twig but the first.
abbrev pub HangAbove : List Twig → Type 0
HangAbove net = (k : ℕ) → 0 < k → k < length net → HasAbove net k

-- The flags of a net's places say which pieces are ends.
abbrev pub AreFlags : List Twig → List ℕ → List Bool → Type 0
AreFlags net ends flags = (k : ℕ) → k < length net → Contains ends (twig_at net k).piece ↔ (slice_index_or flags k false ≡ true)

-- ---- Shorts

-- The point of a mark has a home in the net.
pub record HasHome (net : List Twig) (homes : List (Option ℕ)) (m : Mark) : Type 0 where
  pub piece : ℕ
  pub within : m.probe < length homes
  pub home : slice_index_or homes m.probe None ≡ Some piece
  pub inside : Contains (pieces_of net) piece
