-- The text of a list of gaps.
use Rattle.std.specs.Prelude.{ℕ, List, ◌++◌, length, codes}
use Rattle.std.specs.List.{flat_map}
use Rattle.verdict.specs.ReportText.{end, word}
use Rattle.gaps.specs.declared.gap.Gap.{Gap}

-- the layer, the two nets and their pieces
abbrev pub gap_line : Gap → List ℕ
gap_line g = codes "gap" ++ word g.layer ++ word g.low ++ word g.high ++ word g.first ++ word g.second ++ end

-- the distance and how many gaps there are
abbrev pub head_line : ℕ → ℕ → List ℕ
head_line nanometres count = codes "gaps" ++ word nanometres ++ word count ++ end

-- that line, and one for each gap
abbrev pub gaps_text : ℕ → List Gap → List ℕ
gaps_text nanometres gaps = head_line nanometres (length gaps) ++ flat_map gap_line gaps
