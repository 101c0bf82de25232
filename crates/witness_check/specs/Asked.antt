-- How many contact tests an audit makes.
use Rattle.std.specs.Prelude.{ℕ, ◌+◌, ◌≤◌, ◌⊎◌, List}
use Rattle.board_shapes.specs.Plain.{PlainBoard}
use Rattle.verdict.specs.declared.verdict.Twig.{Twig}
use Rattle.witness_check.specs.Nets.{twig_count}
use Rattle.witness_check.specs.Strips.{AreIntervals, asked_pairs}
use Rattle.witness_check.specs.declared.strips.Interval.{Interval}

-- Where the board is cut into strips of some height, at most one test is made for each twig of the nets, and one for each
-- pair of intervals that come together.
pub record AreAsked (b : PlainBoard) (nets : List (List Twig)) (old new : ℕ) : Type 0 where
  pub height : ℕ
  pub intervals : List Interval
  pub are : AreIntervals b height intervals
  pub few : new ≤ old + (twig_count nets + asked_pairs intervals)

-- So it is, or at most one test is made for each twig.
abbrev pub AreTested : PlainBoard → List (List Twig) → ℕ → ℕ → Type 0
AreTested b nets old new = (new ≤ old + twig_count nets) ⊎ AreAsked b nets old new
