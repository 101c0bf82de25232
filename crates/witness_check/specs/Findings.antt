-- The clauses on opens, shorts and branches, where each point's branch begins at its home
use Rattle.std.specs.Prelude.{◌≡◌, ℕ, ◌<◌, List, map, All, Option, Some, None}
use Rattle.verdict.specs.declared.verdict.Verdict.{Verdict}
use Rattle.verdict.specs.Right.{Clause, Opens, Shorts, Branches, HasBranches, BeginsAtHome, all_opens, all_shorts, number_of, outline}

-- What a clause on opens, shorts or branches says; the others say nothing here.
abbrev pub FindingsSay : List (List ℕ) → List (Option ℕ) → Verdict → Clause → Type 0
FindingsSay names homes v Opens = v.opens ≡ all_opens 0 names v.points
FindingsSay names homes v Shorts = map outline v.shorts ≡ all_shorts 0 v.nets names v.points
FindingsSay names homes v Branches = All (HasBranches v.nets (BeginsAtHome homes) v.points) v.shorts
FindingsSay names homes v clause = Unit {0}

-- Clause n does not hold, and each of these clauses before it does.
pub record FindingsFail (names : List (List ℕ)) (homes : List (Option ℕ)) (v : Verdict) (n : ℕ) : Type 0 where
  pub clause : Clause
  pub number : number_of clause ≡ n
  pub fails : FindingsSay names homes v clause → ⊥
  pub before : (earlier : Clause) → number_of earlier < n → FindingsSay names homes v earlier

-- None where these clauses hold, else the number of the first that does not.
abbrev pub FindingsRuled : List (List ℕ) → List (Option ℕ) → Verdict → Option ℕ → Type 0
FindingsRuled names homes v None = (clause : Clause) → FindingsSay names homes v clause
FindingsRuled names homes v (Some n) = FindingsFail names homes v n
