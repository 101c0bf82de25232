-- The marks of the probes at which branches begin.
use Rattle.std.proofs.Common.{◌≡◌, ℕ, ◌+◌, ◌<◌, Bool, true, false, List, length, get_or, set, All, Option, inl, inr, refl, sym, ap, subst, ◌∙◌, arith}
use Rattle.std.proofs.lemmas.Bool.{cases_eq}
use Rattle.std.proofs.lemmas.List.{get_or-set_other, get_or-set_same, get_or_default}
use Rattle.verdict.specs.declared.verdict.Branch.{Branch}
use Rattle.verdict.specs.declared.verdict.Short.{Short}
use Rattle.witness_check.specs.Homes.{AreHomes, ArePicked, AreWanted, IsWanted}

-- One mark more is set.
pub mark_kept : (wanted : List Bool) (q : ℕ) → q < length wanted → (k : ℕ) → get_or wanted k false ≡ true → get_or (set wanted q true) k false ≡ true
mark_kept wanted q below k on = elim (cases_eq k q) [
  | inl same ↦ ap (λ (x : ℕ). get_or (set wanted q true) x false) same ∙ get_or-set_same wanted q true false below
  | inr other ↦ get_or-set_other wanted q k true false other ∙ on
]

-- The marks of the first n branches are set, and those that were.
pub record Marks (old : List Bool) (branches : List Branch) (n : ℕ) (wanted : List Bool) : Type 0 where
  pub long : length wanted ≡ length old
  pub kept : (k : ℕ) → get_or old k false ≡ true → get_or wanted k false ≡ true
  pub done : (i : ℕ) (d : Branch) → i < n → i < length branches → IsWanted wanted (get_or branches i d)

pub marks_none : (old : List Bool) (branches : List Branch) → Marks old branches 0 old
marks_none old branches = record { long = refl; kept = λ k on. on; done = λ i d none below. absurd (omega arith) }

-- A branch whose mark is set, if there is one, is done.
pub marks_more : (old : List Bool) (branches : List Branch) (n : ℕ) (b : Branch) (wanted next : List Bool) → n < length branches → get_or branches n b ≡ b → length next ≡ length wanted → ((k : ℕ) → get_or wanted k false ≡ true → get_or next k false ≡ true) → IsWanted next b
    → Marks old branches n wanted → Marks old branches (n + 1) next
marks_more old branches n b wanted next there is long kept one marks = record {
  long = long ∙ marks.long;
  kept = λ k on. kept k (marks.kept k on);
  done = λ i d low below. elim (cases_eq i n) [
    | inl same ↦ subst (λ (x : ℕ). IsWanted next (get_or branches x d)) (sym same) (subst (IsWanted next) (sym is ∙ get_or_default branches n b d there) one)
    | inr other ↦ λ within. kept (get_or branches i d).probe (let w = marks.long in marks.done i d (omega arith) below (omega (arith, within, long)))
  ];
}

pub marked_here : (wanted : List Bool) (b : Branch) (q : ℕ) → q ≡ b.probe → q < length wanted → IsWanted (set wanted q true) b
marked_here wanted b q is below within = ap (λ (k : ℕ). get_or (set wanted q true) k false) (sym is) ∙ get_or-set_same wanted q true false below

pub marked_past : (wanted : List Bool) (b : Branch) (q : ℕ) → q ≡ b.probe → (q < length wanted → ⊥) → IsWanted wanted b
marked_past wanted b q is past within = absurd (past (omega (arith, is, within)))

-- what was marked stays so
pub wanted_stays : (old next : List Bool) (branches : List Branch) → length next ≡ length old → ((k : ℕ) → get_or old k false ≡ true → get_or next k false ≡ true) → All (IsWanted old) branches → All (IsWanted next) branches
wanted_stays old next branches long kept all = λ i d below within. kept (get_or branches i d).probe (all i d below (omega (arith, within, long)))

-- The branches of the first n shorts are marked.
abbrev pub AreWantedTo : List Bool → List Short → ℕ → Type 0
AreWantedTo wanted shorts n = (i : ℕ) (d : Short) → i < n → i < length shorts → All (IsWanted wanted) (get_or shorts i d).branches

-- Picked for wanted probes, homes are right for the branches.
pub homes_picked : (count : ℕ) (R : ℕ → ℕ → Type 0) (wanted : List Bool) (shorts : List Short) (homes : List (Option ℕ)) → length wanted ≡ count → AreWanted wanted shorts → ArePicked count R wanted homes → AreHomes count R shorts homes
homes_picked count R wanted shorts homes long marked picked = record {
  many = picked.many;
  each = picked.each;
  least = λ k d below i e inside within. (
      let b : Branch = get_or (get_or shorts k d).branches i e in
      picked.least b.probe within (marked k d below i e inside (omega (arith, within, long)))
      );
}
