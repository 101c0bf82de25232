-- The ruling on opens, shorts and branches.
use Rattle.std.proofs.Common.{◌≡◌, ◌↔◌, ℕ, ◌<◌, Bool, IsTrue, List, length, map, All, Option, refl, sym, ap, subst, ◌∙◌, arith}
use Rattle.verdict.specs.declared.verdict.Open.{Open}
use Rattle.verdict.specs.declared.verdict.PointLine.{PointLine}
use Rattle.verdict.specs.declared.verdict.Seat.{Seat}
use Rattle.verdict.specs.declared.verdict.Short.{Short}
use Rattle.verdict.specs.declared.verdict.Twig.{Twig}
use Rattle.verdict.specs.declared.verdict.Verdict.{Verdict}
use Rattle.verdict.specs.declared.verdict.Mark.{Mark}
use Rattle.verdict.specs.Right.{Clause, Trees, Covers, Apart, Points, Opens, Shorts, Branches, Bare, Counts, Spots, Sources, BeginsAtHome, HasBranches, all_opens, all_shorts, number_of, outline}
use Rattle.verdict.specs.Seats.{AreFirst, AreFirstSeats, AreNamed, marks_at, marks_from}
use Rattle.verdict.proofs.Marking.{table_first, table_named}
use Rattle.witness_check.specs.Findings.{FindingsFail, FindingsSay}
use Rattle.witness_check.specs.Marked.{outlines_from}
use Rattle.witness_check.proofs.Naming.{outlines_named}

-- ---- The first clause that fails

-- What clauses say where some condition holds of each: by opens, shorts and branches.
by_finding : (P : Clause → Type 0) (names : List (List ℕ)) (homes : List (Option ℕ)) (v : Verdict) → (P Opens → FindingsSay names homes v Opens) → (P Shorts → FindingsSay names homes v Shorts) → (P Branches → FindingsSay names homes v Branches)
    → (clause : Clause) → P clause → FindingsSay names homes v clause
by_finding P names homes v opens shorts branches Trees when = tt
by_finding P names homes v opens shorts branches Covers when = tt
by_finding P names homes v opens shorts branches Apart when = tt
by_finding P names homes v opens shorts branches Points when = tt
by_finding P names homes v opens shorts branches Opens when = opens when
by_finding P names homes v opens shorts branches Shorts when = shorts when
by_finding P names homes v opens shorts branches Branches when = branches when
by_finding P names homes v opens shorts branches Bare when = tt
by_finding P names homes v opens shorts branches Counts when = tt
by_finding P names homes v opens shorts branches Spots when = tt
by_finding P names homes v opens shorts branches Sources when = tt

pub fails_opens : (names : List (List ℕ)) (homes : List (Option ℕ)) (v : Verdict) → (FindingsSay names homes v Opens → ⊥) → FindingsFail names homes v 5
fails_opens names homes v not = record {
  clause = Opens;
  number = refl;
  fails = not;
  before = by_finding (λ c. number_of c < 5) names homes v (λ low. absurd (omega arith)) (λ low. absurd (omega arith)) (λ low. absurd (omega arith));
}

pub fails_shorts : (names : List (List ℕ)) (homes : List (Option ℕ)) (v : Verdict) → FindingsSay names homes v Opens → (FindingsSay names homes v Shorts → ⊥) → FindingsFail names homes v 6
fails_shorts names homes v opens not = record {
  clause = Shorts;
  number = refl;
  fails = not;
  before = by_finding (λ c. number_of c < 6) names homes v (λ low. opens) (λ low. absurd (omega arith)) (λ low. absurd (omega arith));
}

pub fails_branches : (names : List (List ℕ)) (homes : List (Option ℕ)) (v : Verdict) → FindingsSay names homes v Opens → FindingsSay names homes v Shorts → (FindingsSay names homes v Branches → ⊥) → FindingsFail names homes v 7
fails_branches names homes v opens shorts not = record {
  clause = Branches;
  number = refl;
  fails = not;
  before = by_finding (λ c. number_of c < 7) names homes v (λ low. opens) (λ low. shorts) (λ low. absurd (omega arith));
}

pub all_say : (names : List (List ℕ)) (homes : List (Option ℕ)) (v : Verdict) → FindingsSay names homes v Opens → FindingsSay names homes v Shorts → FindingsSay names homes v Branches → (clause : Clause) → FindingsSay names homes v clause
all_say names homes v opens shorts branches clause = by_finding (λ c. Unit {0}) names homes v (λ any. opens) (λ any. shorts) (λ any. branches) clause tt

-- ---- What the tests tell of the verdict

-- The rows of a table are the marks on the verdict's nets.
pub record HasRows (names : List (List ℕ)) (v : Verdict) (table : List (List Mark)) : Type 0 where
  pub long : length table ≡ length v.nets
  pub named : AreNamed names v.points table
  pub first : AreFirst v.points table

pub rows_made : (names : List (List ℕ)) (v : Verdict) (nets : List (List Twig)) (lines : List PointLine) (groups : List (List Seat)) (items table : List (List Mark)) → nets ≡ v.nets → lines ≡ v.points → length groups ≡ length names → AreFirstSeats groups lines
    → length items ≡ length nets → ((net : ℕ) → net < length nets → marks_at items net ≡ marks_from net 0 groups) → table ≡ items → HasRows names v table
rows_made names v nets lines groups items table has points grouped firsts long filled same =
    let many : length table ≡ length nets = ap length same ∙ long in
    let made : (net : ℕ) → net < length nets → marks_at table net ≡ marks_from net 0 groups = λ net below. ap (λ (xs : List (List Mark)). marks_at xs net) same ∙ filled net below in
    record {
      long = many ∙ ap length has;
      named = subst (λ (ls : List PointLine). AreNamed names ls table) points (table_named (length nets) table groups names lines many made grouped firsts);
      first = subst (λ (ls : List PointLine). AreFirst ls table) points (table_first (length nets) table groups lines many made firsts);
    }

pub opens_said : (names : List (List ℕ)) (homes : List (Option ℕ)) (v : Verdict) (listed : List Open) (lines : List PointLine) (groups : List (List Seat)) (test : Bool) → listed ≡ v.opens → lines ≡ v.points → AreFirstSeats groups lines
    → ((ls : List PointLine) → AreFirstSeats groups ls → IsTrue test ↔ (listed ≡ all_opens 0 names ls)) → IsTrue test ↔ FindingsSay names homes v Opens
opens_said names homes v listed lines groups test same points firsts tells =
    let t = tells lines firsts in
    ((λ yes. sym same ∙ (t.0 yes ∙ ap (all_opens 0 names) points)), λ says. t.1 (same ∙ (says ∙ sym (ap (all_opens 0 names) points))))

pub shorts_said : (names : List (List ℕ)) (homes : List (Option ℕ)) (v : Verdict) (table : List (List Mark)) (shorts : List Short) → shorts ≡ v.shorts → HasRows names v table → (map outline shorts ≡ outlines_from 0 table) ↔ FindingsSay names homes v Shorts
shorts_said names homes v table shorts same rows =
    let right : outlines_from 0 table ≡ all_shorts 0 v.nets names v.points = outlines_named table v.nets names v.points rows.long rows.named in
    ((λ e. sym (ap (map outline) same) ∙ (e ∙ right)), λ says. ap (map outline) same ∙ (says ∙ sym right))

pub branches_said : (names : List (List ℕ)) (homes : List (Option ℕ)) (v : Verdict) (nets : List (List Twig)) (shorts : List Short) → nets ≡ v.nets → shorts ≡ v.shorts → All (HasBranches nets (BeginsAtHome homes) v.points) shorts ↔ FindingsSay names homes v Branches
branches_said names homes v nets shorts has same = (
  (λ all. subst (λ (ns : List (List Twig)). All (HasBranches ns (BeginsAtHome homes) v.points) v.shorts) has (subst (All (HasBranches nets (BeginsAtHome homes) v.points)) same all)),
  λ says. subst (All (HasBranches nets (BeginsAtHome homes) v.points)) (sym same) (subst (λ (ns : List (List Twig)). All (HasBranches ns (BeginsAtHome homes) v.points) v.shorts) (sym has) says),
)
