-- The lines that a loop over pairs of pieces collects.
use Rattle.std.specs.Prelude.{ℕ, List, ◌+◌, ◌<◌, ◌≤◌, ◌≡◌, ◌⊎◌, ◌↔◌, Contains, max, min, slice_index_or}
use Rattle.gaps.specs.declared.found.Pair.{Pair}
use Rattle.gaps.specs.declared.meetings.Span.{Span}
use Rattle.cell_index.specs.Field.{IsNear}
use Rattle.gaps.specs.declared.gap.Gap.{Gap}
use Rattle.gaps.specs.Firsts.{IsBeside, IsWithLess}

-- the line is that of pieces i and j of the nets low and high, on a layer from `top` on and before `past`
pub record IsLineOf (low high i j top past : ℕ) (gap : Gap) : Type 0 where
  pub low_is : gap.low ≡ low
  pub high_is : gap.high ≡ high
  pub first_is : gap.first ≡ i
  pub second_is : gap.second ≡ j
  pub from_top : top ≤ gap.layer
  pub before_past : gap.layer < past

-- the new list has what the old one has and the lines that P says
abbrev pub GainsLines : (Gap → Type 0) → List Gap → List Gap → Type 0
GainsLines P old new = (gap : Gap) → Contains new gap ↔ (Contains old gap ⊎ P gap)

-- the number of the net of a piece, and its span
abbrev pub net_of : List ℕ → ℕ → ℕ
net_of numbers i = slice_index_or numbers i 0

abbrev pub span_of : List Span → ℕ → Span
span_of spans i = slice_index_or spans i (record { top = 0; bottom = 0 })

-- pieces i and j with their nets, and the layers of both spans
abbrev pub pair_in : List ℕ → List Span → ℕ → ℕ → Pair
pair_in numbers spans i j = record { low = net_of numbers i; high = net_of numbers j; first = i; second = j; top = max (span_of spans i).top (span_of spans j).top; bottom = min (span_of spans i).bottom (span_of spans j).bottom }

-- piece j stands in a higher net than piece i, and the line is theirs on a layer of both spans
pub record IsPairLine (numbers : List ℕ) (spans : List Span) (i j : ℕ) (gap : Gap) : Type 0 where
  pub order : net_of numbers i < net_of numbers j
  pub line : IsLineOf (net_of numbers i) (net_of numbers j) i j (max (span_of spans i).top (span_of spans j).top) (min (span_of spans i).bottom (span_of spans j).bottom + 1) gap

-- piece j stands in a net with a higher number than this net, and its span has a layer of this span
pub record IsOver (numbers : List ℕ) (spans : List Span) (net : ℕ) (span : Span) (j : ℕ) : Type 0 where
  pub order : net < net_of numbers j
  pub layer : max span.top (span_of spans j).top ≤ min span.bottom (span_of spans j).bottom

-- two pieces touch, the second stands in the higher net, and the line is theirs
pub record IsTouchLine (size : ℕ) (touch : ℕ → ℕ → Type 0) (pair : Pair) (gap : Gap) : Type 0 where
  pub near : IsNear size touch pair.first pair.second
  pub order : pair.low < pair.high
  pub line : IsLineOf pair.low pair.high pair.first pair.second pair.top (pair.bottom + 1) gap

-- the line is that of piece i and a piece of the list that touches it
pub record IsNearLine (size : ℕ) (touch : ℕ → ℕ → Type 0) (numbers : List ℕ) (spans : List Span) (i : ℕ) (list : List ℕ) (gap : Gap) : Type 0 where
  pub piece : ℕ
  pub stands : Contains list piece
  pub near : IsNear size touch i piece
  pub pair : IsPairLine numbers spans i piece gap

-- two other pieces of a field touch, the second stands in a higher net, and the line is theirs
pub record IsFieldLine (size : ℕ) (touch : ℕ → ℕ → Type 0) (numbers : List ℕ) (spans : List Span) (gap : Gap) : Type 0 where
  pub near : IsNear size touch gap.first gap.second
  pub pair : IsPairLine numbers spans gap.first gap.second gap

-- a line of the list that is beside the line and has no greater pieces
pub record Covered (lines : List Gap) (gap : Gap) : Type 0 where
  pub line : Gap
  pub stands : Contains lines line
  pub beside : IsBeside gap line
  pub less : IsWithLess line gap

-- the new list has what the old one has and some lines of P, and for each line of P one beside it that has no greater pieces
pub record CoversLines (P : Gap → Type 0) (old new : List Gap) : Type 0 where
  pub only : (gap : Gap) → Contains new gap → Contains old gap ⊎ P gap
  pub kept : (gap : Gap) → Contains old gap → Contains new gap
  pub each : (gap : Gap) → P gap → Covered new gap

-- the list has lines of P alone, and for each line of P one beside it that has no greater pieces
pub record Gathers (P : Gap → Type 0) (lines : List Gap) : Type 0 where
  pub only : (gap : Gap) → Contains lines gap → P gap
  pub each : (gap : Gap) → P gap → Covered lines gap
