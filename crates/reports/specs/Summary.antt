-- The summary of a verdict.
use Rattle.std.specs.List.{concat}
use Rattle.std.specs.Prelude.{◌≡◌, ◌⊎◌, ℕ, List, [], ◌∷◌, length, codes, decimal}
use Rattle.reports.specs.Lines.{end}
use Rattle.verdict.specs.ReportText.{Agrees}
use Rattle.verdict.specs.declared.verdict.Verdict.{Verdict}

-- the summary of a verdict on a made board: its two numbers, and the count of each part of the verdict
abbrev pub summary_text : ℕ → ℕ → Verdict → List ℕ
summary_text seed size v = concat (codes "trial " ∷ decimal seed ∷ codes " " ∷ decimal size
    ∷ codes "\npieces " ∷ decimal v.pieces ∷ codes "\nnets " ∷ decimal (length v.nets) ∷ codes "\npoints " ∷ decimal (length v.points)
    ∷ codes "\nopens " ∷ decimal (length v.opens) ∷ codes "\nshorts " ∷ decimal (length v.shorts) ∷ codes "\nmissing " ∷ decimal (length v.bare) ∷ end ∷ [])

-- the status of a verdict, as for `check`
abbrev pub IsStatusOf : Verdict → ℕ → Type 0
IsStatusOf v status = (Agrees v × (status ≡ 0)) ⊎ ((Agrees v → ⊥) × (status ≡ 1))
