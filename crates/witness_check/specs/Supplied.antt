-- The clauses on the supplement of a verdict, said of the board.
use Rattle.std.specs.Prelude.{◌≡◌, ◌⊎◌, ℕ, map, Option, Some, None, IfSome}
use Rattle.board_shapes.specs.Plain.{PlainBoard}
use Rattle.board_shapes.specs.Tables.{point_of, source_of as source_on}
use Rattle.verdict.specs.declared.verdict.Supplement.{Supplement}
use Rattle.verdict.specs.Right.{source_of, spot_of}

-- where there is a supplement, its places are those of the board's probes
abbrev pub AreSpots : PlainBoard → Option Supplement → Type 0
AreSpots b more = IfSome more (λ m. m.spots ≡ map spot_of (map point_of b.probes))

-- where there is a supplement, its sources are those of the board's pieces
abbrev pub AreSources : PlainBoard → Option Supplement → Type 0
AreSources b more = IfSome more (λ m. m.sources ≡ map source_of (map source_on b.pieces))

-- None where both hold, else the number of the first that does not.
abbrev pub SupplementRuled : PlainBoard → Option Supplement → Option ℕ → Type 0
SupplementRuled b more None = AreSpots b more × AreSources b more
SupplementRuled b more (Some n) = ((n ≡ 10) × (AreSpots b more → ⊥)) ⊎ ((n ≡ 11) × AreSpots b more × (AreSources b more → ⊥))
