-- Reading a line of counts. Only private contracts cite this module.
use Rattle.std.specs.Prelude.{ℕ, List, [], ◌∷◌, Option, Some}
use Rattle.verdict.specs.ReportReading.{◌>>=◌, behind, number_at, word_at}

-- both counts of the line in front, and what stands behind it
unfoldable pub both_at : List ℕ → Option ((ℕ × ℕ) × List ℕ)
both_at bytes = do
  below ← number_at bytes
  above ← word_at below.1
  after ← behind (10 ∷ []) above.1
  Some ((below.0, above.0), after)
