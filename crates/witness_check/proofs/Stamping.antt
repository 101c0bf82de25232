-- Pieces with a stamp.
use Rattle.std.proofs.Common.{◌≡◌, inl, inr, ℕ, ◌<◌, ◌≤◌, List, [], ◌∷◌, ◌++◌, length, get_or, set, Contains, sym, ap, subst, ◌∙◌, append_assoc, arith}
use Rattle.std.proofs.lemmas.List.{length-set, get_or-set_same, get_or-set_other, get_or_past}
use Rattle.std.proofs.lemmas.List.Elements.{Contains-append_left, Contains-push, Contains-push_cases}
use Rattle.std.proofs.lemmas.Bool.{cases_eq}
use Rattle.verdict.proofs.Holding.{le_or_lt}
use Rattle.witness_check.specs.Marked.{AreStamped, AreUpTo}

pub stamped_more : (ends : List ℕ) (stamp : ℕ) (stamps : List ℕ) (q : ℕ) → q < length stamps → AreStamped ends stamp stamps → AreStamped (ends ++ q ∷ []) stamp (set stamps q stamp)
stamped_more ends stamp stamps q below are p = (
  (λ held. elim (cases_eq p q) [
    | inl same ↦ ap (λ (x : ℕ). get_or (set stamps q stamp) x 0) same ∙ get_or-set_same stamps q stamp 0 below
    | inr other ↦ get_or-set_other stamps q p stamp 0 other ∙ (are p).0 (elim (Contains-push_cases ends q p held) [ inl old ↦ old | inr new ↦ absurd (other (sym new)) ])
  ]),
  λ on. elim (cases_eq p q) [
    | inl same ↦ subst (λ (x : ℕ). Contains (ends ++ q ∷ []) x) (sym same) (Contains-push ends q)
    | inr other ↦ Contains-append_left ends (q ∷ []) p ((are p).1 (sym (get_or-set_other stamps q p stamp 0 other) ∙ on))
  ],
)

pub up_more : (old stamp : ℕ) (stamps : List ℕ) (q : ℕ) → old ≤ stamp → q < length stamps → AreUpTo old stamps → AreUpTo stamp (set stamps q stamp)
up_more old stamp stamps q lower below up p = elim (cases_eq p q) [
  | inl same ↦ (let e = ap (λ (x : ℕ). get_or (set stamps q stamp) x 0) same ∙ get_or-set_same stamps q stamp 0 below in omega arith)
  | inr other ↦ (let e = get_or-set_other stamps q p stamp 0 other in let f = up p in omega arith)
]

-- A new stamp is nowhere before it is given.
pub stamped_first : (old stamp : ℕ) (stamps : List ℕ) (q : ℕ) → old < stamp → q < length stamps → AreUpTo old stamps → AreStamped (q ∷ []) stamp (set stamps q stamp)
stamped_first old stamp stamps q lower below up = stamped_more [] stamp stamps q below (λ p. ((λ held. absurd (let b = held.1 in omega arith)), λ on. absurd (let e = up p in omega arith)))

pub stamped_within : (stamp : ℕ) (stamps : List ℕ) (p : ℕ) → 0 < stamp → get_or stamps p 0 ≡ stamp → p < length stamps
stamped_within stamp stamps p some on = elim (le_or_lt (length stamps) p) [
  | inl past ↦ absurd (let e = get_or_past stamps p 0 past in omega arith)
  | inr within ↦ within
]

-- The pieces of `done` got the stamp.
pub record AreStampedTo (stamp : ℕ) (old : List ℕ) (done : List ℕ) (stamps : List ℕ) : Type 0 where
  pub long : length stamps ≡ length old
  pub highest : AreUpTo stamp stamps
  pub stamped : (ends : List ℕ) → AreStamped ends stamp old → AreStamped (ends ++ done) stamp stamps

pub stamping_more : (stamp : ℕ) (old done stamps : List ℕ) (q : ℕ) → q < length old → AreStampedTo stamp old done stamps → AreStampedTo stamp old (done ++ q ∷ []) (set stamps q stamp)
stamping_more stamp old done stamps q below to =
    let long = to.long in
    record {
      long = length-set stamps q stamp ∙ to.long;
      highest = up_more stamp stamp stamps q (omega arith) (omega arith) to.highest;
      stamped = λ ends are. subst (λ (xs : List ℕ). AreStamped xs stamp (set stamps q stamp)) (append_assoc ends done (q ∷ [])) (stamped_more (ends ++ done) stamp stamps q (omega arith) (to.stamped ends are));
    }
