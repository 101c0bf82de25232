-- Lines that are sorted, without those that are beside the one before.
use Rattle.std.proofs.Common.{◌≡◌, ◌⊎◌, inl, inr, Bool, true, false, ℕ, suc, ◌+◌, ◌<◌, ◌≤◌, List, [], ◌∷◌, get_or, AllPairs, Contains, refl, sym, subst, cond, arith, is_lt, nat_cmp, Ordering, Less, Equal, ◌∙◌}
use Rattle.std.proofs.lemmas.Bool.{cases_eq, cases_lt}
use Rattle.std.proofs.lemmas.List.Elements.{Contains-get_or}
use Rattle.std.proofs.lemmas.List.Kept.{AllPairs-cons, Contains-from_dedup}
use Rattle.std.proofs.lemmas.List.Sorted.{Contains-permutation, IsPermutation-sym}
use Rattle.std.specs.Cmp.{nat_cmp_is}
use Rattle.std.specs.List.{dedup, dedup_from}
use Rattle.std.specs.List.Sorted.{IsPermutation, IsSorted}
use Rattle.std.specs.Ordering.{ordering_then}
use Rattle.gaps.specs.declared.gap.Gap.{Gap}
use Rattle.gaps.specs.Firsts.{AreFirsts, Beside, beside, IsBefore, IsBeside, IsWithLess}
use Rattle.gaps.proofs.OneList.{at_head, cons_cases, in_tail}

-- ---- the order

-- by all five numbers
abbrev pub gap_cmp : Gap → Gap → Ordering
gap_cmp g h = ordering_then (nat_cmp g.layer h.layer) (ordering_then (nat_cmp g.low h.low) (ordering_then (nat_cmp g.high h.high) (ordering_then (nat_cmp g.first h.first) (nat_cmp g.second h.second))))

abbrev pub IsAtMost : Gap → Gap → Type 0
IsAtMost g h = IsBefore g h ⊎ (IsBeside g h × IsWithLess g h)

level : (a b : ℕ) (o : Ordering) → is_lt (ordering_then (nat_cmp a b) o) ≡ false → (b < a) ⊎ ((b ≡ a) × (is_lt o ≡ false))
level a b o h = elim (cases_lt a b) [
  | inl l ↦ (let e : Less ≡ nat_cmp a b = nat_cmp_is a b Less l in let f : is_lt (ordering_then Less o) ≡ false = subst (λ (z : Ordering). is_lt (ordering_then z o) ≡ false) (sym e) h in cc)
  | inr m ↦ elim (cases_eq a b) [
    | inl same ↦ (let e : Equal ≡ nat_cmp a b = nat_cmp_is a b Equal same in inr (sym same, subst (λ (z : Ordering). is_lt (ordering_then z o) ≡ false) (sym e) h))
    | inr other ↦ inl (omega arith)
  ]
]

last_level : (a b : ℕ) → is_lt (nat_cmp a b) ≡ false → b ≤ a
last_level a b h = elim (cases_lt a b) [
  | inl l ↦ (let e : Less ≡ nat_cmp a b = nat_cmp_is a b Less l in let f : is_lt Less ≡ false = subst (λ (z : Ordering). is_lt z ≡ false) (sym e) h in cc)
  | inr m ↦ m
]

pub at_most : (g h : Gap) → is_lt (gap_cmp h g) ≡ false → IsAtMost g h
at_most g h t = elim (level h.layer g.layer _ t) [
  | inl l ↦ inl (inl l)
  | inr p ↦ elim (level h.low g.low _ p.1) [
    | inl l ↦ inl (inr (p.0, inl l))
    | inr q ↦ elim (level h.high g.high _ q.1) [
      | inl l ↦ inl (inr (p.0, inr (q.0, l)))
      | inr r ↦ elim (level h.first g.first _ r.1) [
        | inl l ↦ inr ((p.0, q.0, r.0), inl l)
        | inr s ↦ inr ((p.0, q.0, r.0), inr (s.0, last_level h.second g.second s.1))
      ]
    ]
  ]
]

before_trans : (g h k : Gap) → IsBefore g h → IsBefore h k → IsBefore g k
before_trans g h k (inl p) (inl q) = inl (omega arith)
before_trans g h k (inl p) (inr q) = inl (omega (arith, q.0))
before_trans g h k (inr p) (inl q) = inl (omega (arith, p.0))
before_trans g h k (inr p) (inr q) = inr (omega (arith, p.0, q.0), by p.1 q.1)
  where
    by : (g.low < h.low) ⊎ ((g.low ≡ h.low) × (g.high < h.high)) → (h.low < k.low) ⊎ ((h.low ≡ k.low) × (h.high < k.high)) → (g.low < k.low) ⊎ ((g.low ≡ k.low) × (g.high < k.high))
    by (inl a) (inl b) = inl (omega arith)
    by (inl a) (inr b) = inl (omega (arith, b.0))
    by (inr a) (inl b) = inl (omega (arith, a.0))
    by (inr a) (inr b) = inr (omega (arith, a.0, b.0), omega (arith, a.1, b.1))

-- what is before a line is before those that are beside it, and what is beside a line is before what comes after it
before_beside : (g h k : Gap) → IsBefore g h → IsBeside h k → IsBefore g k
before_beside g h k p q = subst (λ (z : ℕ). (g.layer < z) ⊎ ((g.layer ≡ z) × ((g.low < k.low) ⊎ ((g.low ≡ k.low) × (g.high < k.high))))) q.0
    (subst (λ (z : ℕ). (g.layer < h.layer) ⊎ ((g.layer ≡ h.layer) × ((g.low < z) ⊎ ((g.low ≡ z) × (g.high < k.high))))) q.1
    (subst (λ (z : ℕ). (g.layer < h.layer) ⊎ ((g.layer ≡ h.layer) × ((g.low < h.low) ⊎ ((g.low ≡ h.low) × (g.high < z))))) q.2 p))

beside_before : (g h k : Gap) → IsBeside g h → IsBefore h k → IsBefore g k
beside_before g h k q p = subst (λ (z : ℕ). (z < k.layer) ⊎ ((z ≡ k.layer) × ((g.low < k.low) ⊎ ((g.low ≡ k.low) × (g.high < k.high))))) (sym q.0)
    (subst (λ (z : ℕ). (h.layer < k.layer) ⊎ ((h.layer ≡ k.layer) × ((z < k.low) ⊎ ((z ≡ k.low) × (g.high < k.high))))) (sym q.1)
    (subst (λ (z : ℕ). (h.layer < k.layer) ⊎ ((h.layer ≡ k.layer) × ((h.low < k.low) ⊎ ((h.low ≡ k.low) × (z < k.high))))) (sym q.2) p))

not_beside : (g h : Gap) → IsBefore g h → IsBeside g h → ⊥
not_beside g h (inl p) q = omega (arith, q.0)
not_beside g h (inr p) q = by p.1
  where
    by : (g.low < h.low) ⊎ ((g.low ≡ h.low) × (g.high < h.high)) → ⊥
    by (inl a) = omega (arith, q.1)
    by (inr a) = omega (arith, q.2, a.1)

beside_back : (g h : Gap) → IsBeside g h → IsBeside h g
beside_back g h q = (sym q.0, sym q.1, sym q.2)

beside_on : (g h k : Gap) → IsBeside g h → IsBeside h k → IsBeside g k
beside_on g h k p q = (omega (arith, p.0, q.0), omega (arith, p.1, q.1), omega (arith, p.2, q.2))

less_trans : (g h k : Gap) → IsWithLess g h → IsWithLess h k → IsWithLess g k
less_trans g h k (inl p) (inl q) = inl (omega arith)
less_trans g h k (inl p) (inr q) = inl (omega (arith, q.0))
less_trans g h k (inr p) (inl q) = inl (omega (arith, p.0))
less_trans g h k (inr p) (inr q) = inr (omega (arith, p.0, q.0), omega (arith, p.1, q.1))

pub at_most_trans : (g h k : Gap) → IsAtMost g h → IsAtMost h k → IsAtMost g k
at_most_trans g h k (inl p) (inl q) = inl (before_trans g h k p q)
at_most_trans g h k (inl p) (inr q) = inl (before_beside g h k p q.0)
at_most_trans g h k (inr p) (inl q) = inl (beside_before g h k p.0 q)
at_most_trans g h k (inr p) (inr q) = inr (beside_on g h k p.0 q.0, less_trans g h k p.1 q.1)

-- ---- the test

beside_true : (g h : Gap) → beside g h ≡ true → IsBeside g h
beside_true g h t = elim (cases_eq g.layer h.layer) [
  | inl p ↦ elim (cases_eq g.low h.low) [
    | inl q ↦ elim (cases_eq g.high h.high) [ inl r ↦ (p, q, r) | inr r ↦ absurd (grind (arith, t, r)) ]
    | inr q ↦ absurd (grind (arith, t, q))
  ]
  | inr p ↦ absurd (grind (arith, t, p))
]

beside_false : (g h : Gap) → beside g h ≡ false → IsBeside g h → ⊥
beside_false g h t q = grind (arith, t, q.0, q.1, q.2)

-- ---- the list

-- each line is at most the next
abbrev pub IsChain : Gap → List Gap → Type 0
IsChain g [] = Unit {0}
IsChain g (h ∷ rest) = IsAtMost g h × IsChain h rest

chain_past : (g h : Gap) (rest : List Gap) → IsAtMost g h → IsChain h rest → IsChain g rest
chain_past g h [] l c = tt
chain_past g h (k ∷ rest) l c = (at_most_trans g h k l c.0, c.1)

-- what is left: the first line is at most each, those after it are before one another, and each is the least of those beside it
pub record IsThinned (g : Gap) (rest firsts : List Gap) : Type 0 where
  pub after : (h : Gap) → Contains firsts h → (g ≡ h) ⊎ IsBefore g h
  pub rising : AllPairs IsBefore firsts
  pub least : (h other : Gap) → Contains firsts h → Contains (g ∷ rest) other → IsBeside other h → IsAtMost h other
  pub all : (other : Gap) → Contains (g ∷ rest) other → Beside firsts other

alone : (g h : Gap) → Contains (g ∷ []) h → g ≡ h
alone g h c = elim (cons_cases g [] h c) [ inl same ↦ same | inr later ↦ absurd (omega (arith, later.1)) ]

same_at_most : (g h : Gap) → g ≡ h → IsAtMost h g
same_at_most g h e = subst (λ (z : Gap). IsAtMost z g) e (inr ((refl, refl, refl), inr (refl, omega arith)))

at_most_beside : (g h : Gap) → IsAtMost g h → IsBeside h g → IsWithLess g h
at_most_beside g h (inl p) q = absurd (not_beside g h p (beside_back h g q))
at_most_beside g h (inr p) q = p.1

pub thinned : (g : Gap) (rest : List Gap) → IsChain g rest → IsThinned g rest (dedup_from beside g rest)
thinned g [] c = record {
  after = λ h k. inl (alone g h k);
  rising = λ i j d l m. absurd (omega arith);
  least = λ h other k l m. same_at_most other h (sym (alone g other l) ∙ alone g h k);
  all = λ other k. record { line = g; stands = at_head g []; beside = subst (λ (z : Gap). IsBeside z g) (alone g other k) (refl, refl, refl) };
}
thinned g (x ∷ rest) c = by (thinned g rest (chain_past g x rest c.0 c.1)) (thinned x rest c.1) (beside x g) refl
  where
    by : IsThinned g rest (dedup_from beside g rest) → IsThinned x rest (dedup_from beside x rest) → (t : Bool) → beside x g ≡ t → IsThinned g (x ∷ rest) (cond t (dedup_from beside g rest) (g ∷ dedup_from beside x rest))
    by s t true e =
        let same : IsBeside x g = beside_true x g e in
        record {
          after = s.after;
          rising = s.rising;
          least = λ h other k l m. elim (cons_cases g (x ∷ rest) other l) [
            | inl head ↦ s.least h other k (subst (λ (z : Gap). Contains (g ∷ rest) z) head (at_head g rest)) m
            | inr later ↦ elim (cons_cases x rest other later) [
              | inl next ↦ elim (s.after h k) [
                | inl is ↦ subst (λ (z : Gap). IsAtMost z other) is (subst (λ (z : Gap). IsAtMost g z) next c.0)
                | inr far ↦ absurd (not_beside g h far (beside_on g x h (beside_back x g same) (subst (λ (z : Gap). IsBeside z h) (sym next) m)))
              ]
              | inr last ↦ s.least h other k (in_tail g rest other last) m
            ]
          ];
          all = λ other k. elim (cons_cases g (x ∷ rest) other k) [
            | inl head ↦ s.all other (subst (λ (z : Gap). Contains (g ∷ rest) z) head (at_head g rest))
            | inr later ↦ elim (cons_cases x rest other later) [
              | inl next ↦ (let l : Beside (dedup_from beside g rest) g = s.all g (at_head g rest) in record { line = l.line; stands = l.stands; beside = subst (λ (z : Gap). IsBeside z l.line) next (beside_on x g l.line same l.beside) })
              | inr last ↦ s.all other (in_tail g rest other last)
            ]
          ];
        }
    by r s false e = apart c.0
      where
        apart : IsAtMost g x → IsThinned g (x ∷ rest) (g ∷ dedup_from beside x rest)
        apart (inr p) = absurd (beside_false x g e (beside_back g x p.0))
        apart (inl p) = record {
          after = λ h k. elim (cons_cases g (dedup_from beside x rest) h k) [ inl head ↦ inl head | inr later ↦ inr (beyond h later) ];
          rising = AllPairs-cons IsBefore g (dedup_from beside x rest) (λ i d l. beyond (get_or (dedup_from beside x rest) i d) (Contains-get_or (dedup_from beside x rest) i d l)) s.rising;
          least = λ h other k l m. elim (cons_cases g (dedup_from beside x rest) h k) [
            | inl head ↦ elim (cons_cases g (x ∷ rest) other l) [
              | inl is ↦ same_at_most other h (sym is ∙ head)
              | inr later ↦ absurd (far other later (subst (λ (z : Gap). IsBeside other z) (sym head) m))
            ]
            | inr kept ↦ elim (cons_cases g (x ∷ rest) other l) [
              | inl is ↦ absurd (not_beside g h (beyond h kept) (subst (λ (z : Gap). IsBeside z h) (sym is) m))
              | inr later ↦ s.least h other kept later m
            ]
          ];
          all = λ other k. elim (cons_cases g (x ∷ rest) other k) [
            | inl head ↦ record { line = g; stands = at_head g (dedup_from beside x rest); beside = subst (λ (z : Gap). IsBeside z g) head (refl, refl, refl) }
            | inr later ↦ (let l : Beside (dedup_from beside x rest) other = s.all other later in record { line = l.line; stands = in_tail g (dedup_from beside x rest) l.line l.stands; beside = l.beside })
          ];
        }
          where
            beyond : (h : Gap) → Contains (dedup_from beside x rest) h → IsBefore g h
            beyond h k = elim (s.after h k) [ inl is ↦ subst (λ (z : Gap). IsBefore g z) is p | inr q ↦ before_trans g x h p q ]

            far : (other : Gap) → Contains (x ∷ rest) other → IsBeside other g → ⊥
            far other k m =
                let l : Beside (dedup_from beside x rest) other = s.all other k in
                not_beside g l.line (beyond l.line l.stands) (beside_on g other l.line (beside_back other g m) l.beside)

-- ---- what the call leaves

chain_of : (g : Gap) (rest : List Gap) → IsSorted gap_cmp (g ∷ rest) → IsChain g rest
chain_of g [] up = tt
chain_of g (x ∷ rest) up = (at_most g x (up 0 g (omega arith) (omega arith)), chain_of x rest tail)
  where
    tail : IsSorted gap_cmp (x ∷ rest)
    tail k d l m =
        let e : suc k + 1 ≡ suc (k + 1) = omega arith in
        subst (λ (n : ℕ). is_lt (gap_cmp (get_or (g ∷ x ∷ rest) n d) (get_or (g ∷ x ∷ rest) (suc k) d)) ≡ false) e (up (suc k) d (omega arith) (omega arith))

pub firsts_told : (xs sorted ys : List Gap) → IsPermutation xs sorted → IsSorted gap_cmp sorted → ys ≡ dedup beside sorted → AreFirsts (Contains xs) ys
firsts_told xs [] ys moved up e = subst (λ (l : List Gap). AreFirsts (Contains xs) l) (sym e) none
  where
    nowhere : (gap : Gap) → Contains xs gap → ⊥
    nowhere gap k = let l : Contains [] gap = Contains-permutation xs [] gap moved k in omega (arith, l.1)

    none : AreFirsts (Contains xs) []
    none = record {
      rising = λ i j d l m. absurd (omega arith);
      only = λ gap k. absurd (omega (arith, k.1));
      least = λ gap other k l m. absurd (omega (arith, k.1));
      all = λ gap k. absurd (nowhere gap k);
    }
firsts_told xs (g ∷ rest) ys moved up e = subst (λ (l : List Gap). AreFirsts (Contains xs) l) (sym e) (by (thinned g rest (chain_of g rest up)))
  where
    there : (gap : Gap) → Contains xs gap → Contains (g ∷ rest) gap
    there gap k = Contains-permutation xs (g ∷ rest) gap moved k

    by : IsThinned g rest (dedup_from beside g rest) → AreFirsts (Contains xs) (dedup_from beside g rest)
    by s = record {
      rising = s.rising;
      only = λ gap k. Contains-permutation (g ∷ rest) xs gap (IsPermutation-sym xs (g ∷ rest) moved) (Contains-from_dedup beside (g ∷ rest) gap k);
      least = λ gap other k l m. at_most_beside gap other (s.least gap other k (there other l) m) m;
      all = λ gap k. s.all gap (there gap k);
    }
