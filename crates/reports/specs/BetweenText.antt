-- The text of `between`: what is certain of a board between two, and what is undecided.
use Rattle.std.specs.Prelude.{◌≡◌, ◌⊎◌, ℕ, List, [], ◌∷◌, ◌++◌, length, Option, Some, None, codes, slice_get, slice_index_or}
use Rattle.std.specs.List.{flat_map}
use Rattle.board_shapes.specs.declared.probe.Probe.{Probe}
use Rattle.planar.specs.declared.Spot.{Spot}
use Rattle.reports.specs.Findings.{Findings, NoneFound, certain, undecided}
use Rattle.reports.specs.Lines.{findings_line, plain_line}
use Rattle.verdict.specs.ReportText.{count_line, end, signed_word, word}
use Rattle.verdict.specs.declared.verdict.Verdict.{Verdict}

-- ---- Test points

-- a place in u
abbrev pub place_text : Spot → List ℕ
place_text at = signed_word at.x ++ signed_word at.y

-- a blank and a name
abbrev pub name_text : List (List ℕ) → ℕ → List ℕ
name_text names name = 32 ∷ slice_index_or names name []

-- the record of a test point, its layer, its place, and its name
abbrev pub probe_text : List (List ℕ) → Option Probe → List ℕ
probe_text names None = []
probe_text names (Some p) = word p.number ++ word p.layer ++ place_text p.at ++ name_text names p.name

-- a title and test point k
abbrev pub point_line : List ℕ → List Probe → List (List ℕ) → ℕ → List ℕ
point_line title probes names k = title ++ probe_text names (slice_get probes k) ++ end

-- ---- Findings

-- a count, and for each of these test points a line
abbrev pub list_part : (title item : List ℕ) → List Probe → List (List ℕ) → List ℕ → List ℕ
list_part title item probes names points = count_line title (length points) ++ flat_map (point_line item probes names) points

abbrev pub short_part : List Probe → List (List ℕ) → List ℕ → List ℕ
short_part probes names points = list_part (codes "short") (codes "point") probes names points

abbrev pub shorts_part : List Probe → List (List ℕ) → List (List ℕ) → List ℕ
shorts_part probes names shorts = count_line (codes "shorts") (length shorts) ++ flat_map (short_part probes names) shorts

abbrev pub findings_part : List Probe → List (List ℕ) → Findings → List ℕ
findings_part probes names found = list_part (codes "opens") (codes "open") probes names found.opens ++ shorts_part probes names found.shorts ++ list_part (codes "missing") (codes "bare") probes names found.missing

-- one text where there is no finding, another where there is one
abbrev pub where_none : {A B C : Type 0} → List A → List B → List C → List ℕ → List ℕ → List ℕ
where_none [] [] [] none some = none
where_none opens shorts missing none some = some

-- the last line says what is decided
abbrev pub last_part : (sure unsure : Findings) → List ℕ
last_part sure unsure = where_none sure.opens sure.shorts sure.missing (where_none unsure.opens unsure.shorts unsure.missing (codes "agrees" ++ end) (codes "undecided" ++ end)) (codes "differs" ++ end)

-- ---- The text

-- pieces, nets, opens, shorts and points without copper of a board
abbrev pub board_line : List ℕ → Verdict → List ℕ
board_line title v = title ++ word v.pieces ++ word (length v.nets) ++ word (length v.opens) ++ word (length v.shorts) ++ word (length v.bare) ++ end

-- so many pieces of the real board and test points of all three, and what is found on the other two
abbrev pub boards_part : (pieces points : ℕ) → (below above : Verdict) → List ℕ
boards_part pieces points below above = codes "boardnet-between 1" ++ end ++ count_line (codes "real") pieces ++ count_line (codes "points") points ++ board_line (codes "lower") below ++ board_line (codes "upper") above

-- what is certain, what is undecided, and what is decided
abbrev pub decision_part : List Probe → List (List ℕ) → (sure unsure : Findings) → List ℕ
decision_part probes names sure unsure = (codes "certain" ++ end) ++ findings_part probes names sure ++ ((codes "undecided" ++ end) ++ findings_part probes names unsure) ++ last_part sure unsure

-- of a real board of so many pieces, with these test points and names, between boards with these verdicts
abbrev pub between_text : ℕ → List Probe → List (List ℕ) → (below above : Verdict) → List ℕ
between_text count probes names below above = boards_part count (length probes) below above ++ decision_part probes names (certain below above) (undecided below above)

-- 0: nothing is certain and nothing undecided, so the board agrees. 1: something is certain, so it does not; or it is undecided. The line has the counts of
-- what is certain, or of what is undecided.
abbrev pub IsDecisionBy : (sure unsure : Findings) → ℕ → List ℕ → Type 0
IsDecisionBy sure unsure status line =
    (NoneFound sure × NoneFound unsure × (status ≡ 0) × (line ≡ plain_line (codes "agrees")))
    ⊎ ((NoneFound sure → ⊥) × (status ≡ 1) × (line ≡ findings_line (codes "differs") (length sure.opens) (length sure.shorts) (length sure.missing)))
    ⊎ (NoneFound sure × (NoneFound unsure → ⊥) × (status ≡ 1) × (line ≡ findings_line (codes "undecided") (length unsure.opens) (length unsure.shorts) (length unsure.missing)))

abbrev pub IsDecision : (below above : Verdict) → ℕ → List ℕ → Type 0
IsDecision below above = IsDecisionBy (certain below above) (undecided below above)
