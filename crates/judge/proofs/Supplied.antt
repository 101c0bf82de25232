-- A right verdict stays right with the board's supplement.
use Rattle.std.proofs.Common.{◌≡◌, map}
use Rattle.tables.specs.Tables.{Tables}
use Rattle.verdict.specs.declared.verdict.Supplement.{Supplement}
use Rattle.verdict.specs.declared.verdict.Verdict.{Verdict}
use Rattle.verdict.specs.Right.{IsRight, Trees, Covers, Apart, Points, Opens, Shorts, Branches, Bare, Counts, Spots, Sources, source_of, spot_of}
use Rattle.judge.specs.Supplied.{with_supplement}

pub right_with : (t : Tables) (v : Verdict) (more : Supplement) → more.spots ≡ map spot_of t.points → more.sources ≡ map source_of t.sources → IsRight t v → IsRight t (with_supplement v more)
right_with t v more spots sources right = elim [
  | Trees ↦ right Trees
  | Covers ↦ right Covers
  | Apart ↦ right Apart
  | Points ↦ right Points
  | Opens ↦ right Opens
  | Shorts ↦ right Shorts
  | Branches ↦ right Branches
  | Bare ↦ right Bare
  | Counts ↦ right Counts
  | Spots ↦ spots
  | Sources ↦ sources
]
