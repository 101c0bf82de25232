-- Of lines in any order the least of each layer and two nets, in order.
use Rattle.std.specs.Prelude.{Bool, List, ◌<◌, ◌≤◌, ◌≡◌, ◌⊎◌, ◌==◌, ◌&&◌, AllPairs, Contains}
use Rattle.gaps.specs.declared.gap.Gap.{Gap}

-- by layer, then by the lower net, then by the higher
abbrev pub IsBefore : Gap → Gap → Type 0
IsBefore g h = (g.layer < h.layer) ⊎ ((g.layer ≡ h.layer) × ((g.low < h.low) ⊎ ((g.low ≡ h.low) × (g.high < h.high))))

-- both are of one layer and of the same nets
abbrev pub IsBeside : Gap → Gap → Type 0
IsBeside g h = (g.layer ≡ h.layer) × (g.low ≡ h.low) × (g.high ≡ h.high)

-- the same as a test
abbrev pub beside : Gap → Gap → Bool
beside g h = (g.layer == h.layer) && ((g.low == h.low) && (g.high == h.high))

-- no greater pieces: by that of the lower net, then by that of the higher
abbrev pub IsWithLess : Gap → Gap → Type 0
IsWithLess g h = (g.first < h.first) ⊎ ((g.first ≡ h.first) × (g.second ≤ h.second))

-- a line of the list that is beside the gap
pub record Beside (gaps : List Gap) (gap : Gap) : Type 0 where
  pub line : Gap
  pub stands : Contains gaps line
  pub beside : IsBeside gap line

-- the list has, for each layer and two nets of which P has lines, the least of them, in order
pub record AreFirsts (P : Gap → Type 0) (firsts : List Gap) : Type 0 where
  pub rising : AllPairs IsBefore firsts
  pub only : (gap : Gap) → Contains firsts gap → P gap
  pub least : (gap other : Gap) → Contains firsts gap → P other → IsBeside other gap → IsWithLess gap other
  pub all : (gap : Gap) → P gap → Beside firsts gap
