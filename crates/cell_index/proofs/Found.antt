-- What a search of cells finds, step by step.
use Rattle.std.proofs.Common.{append-nil, int_le, ◌≡◌, inl, inr, ℕ, zero, suc, ◌+◌, ◌<◌, ◌≤◌, Bool, true, false, if◌then◌else◌, List, [], ◌∷◌, ◌++◌, length, get_or, set, take, All, Contains, Some, sym, ap, subst, ◌∙◌, arith, length-set}
use Rattle.std.proofs.lemmas.Bool.{cases_eq, cases_lt}
use Rattle.std.specs.Int.{int_max, int_min}
use Rattle.std.proofs.lemmas.List.{get_or-set_other, get_or_default, get_or_past, take_more_set}
use Rattle.std.proofs.lemmas.List.Elements.{All-contains, All-push, Contains-append_left, Contains-get_or, Contains-push, Contains-push_cases}
use Rattle.std.proofs.lemmas.List.Kept.{AllPairs-from_increasing}
use Rattle.std.specs.List.Sorted.{IsStrictlyIncreasing}
use Rattle.contact.specs.Solid.{InBox, Overlap, SharePoint}
use Rattle.contact.specs.declared.Bounds.{Bounds}
use Rattle.contact.proofs.Boxes.{overlap_share}
use Rattle.board_shapes.specs.declared.placed.Placed.{Placed}
use Rattle.tables.specs.Lists.{IsLeast, Lists}
use Rattle.tables.proofs.Listing.{rising_push}
use Rattle.cell_index.specs.Bins.{passing}
use Rattle.cell_index.specs.Field.{boxes_meet, is_rival, rivals_of}
use Rattle.cell_index.specs.Finding.{Finds, Grows, IsMet}
use Rattle.cell_index.specs.declared.patch.Patch.{Patch}
use Rattle.cell_index.specs.declared.plate.Plate.{Plate}
use Rattle.cell_index.proofs.Pairs.{rivals_within}
use Rattle.cell_index.proofs.Rows.{both_told}
use Rattle.cell_index.proofs.Sides.{int_le_told}

pub grows_then : (n : ℕ) (a b c : List ℕ) → Grows n a b → Grows n b c → Grows n a c
grows_then n a b c f g = record { known = g.known; kept = λ q h. g.kept q (f.kept q h) }

pub grows_push : (n : ℕ) (old xs : List ℕ) (q : ℕ) → Grows n old xs → q < n → Grows n old (xs ++ q ∷ [])
grows_push n old xs q g below = record { known = All-push (λ q. q < n) xs q g.known below; kept = λ p h. Contains-append_left xs (q ∷ []) p (g.kept p h) }

-- those of the first k of the list of which P holds were put in
pub record IsGathered (n : ℕ) (P : ℕ → Type 0) (list : List ℕ) (k : ℕ) (old now : List ℕ) : Type 0 where
  pub grows : Grows n old now
  pub found : (j : ℕ) → j < k → P (get_or list j 0) → Contains now (get_or list j 0)

pub gathered_push : (n : ℕ) (P : ℕ → Type 0) (list : List ℕ) (k q : ℕ) (old now : List ℕ) → q ≡ get_or list k 0 → q < n → IsGathered n P list k old now → IsGathered n P list (k + 1) old (now ++ q ∷ [])
gathered_push n P list k q old now is below g = record {
  grows = grows_push n old now q g.grows below;
  found = λ j h p. elim (cases_eq j k) [
    | inl same ↦ subst (λ (x : ℕ). Contains (now ++ q ∷ []) x) (is ∙ ap (λ (m : ℕ). get_or list m 0) (sym same)) (Contains-push now q)
    | inr other ↦ Contains-append_left now (q ∷ []) (get_or list j 0) (g.found j (omega arith) p)
  ];
}

pub gathered_skip : (n : ℕ) (P : ℕ → Type 0) (list : List ℕ) (k q : ℕ) (old now : List ℕ) → q ≡ get_or list k 0 → (P q → ⊥) → IsGathered n P list k old now → IsGathered n P list (k + 1) old now
gathered_skip n P list k q old now is not g = record {
  grows = g.grows;
  found = λ j h p. elim (cases_eq j k) [
    | inl same ↦ absurd (not (subst P (ap (λ (m : ℕ). get_or list m 0) same ∙ sym is) p))
    | inr other ↦ g.found j (omega arith) p
  ];
}

pub gathered_all : (n : ℕ) (P : ℕ → Type 0) (list : List ℕ) (k : ℕ) (old now : List ℕ) → length list ≤ k → IsGathered n P list k old now → (q : ℕ) → Contains list q → P q → Contains now q
gathered_all n P list k old now past g q h p =
    let j = h.0 in
    let below = h.1 in
    let is : get_or list h.0 0 ≡ q = get_or_default list h.0 0 q h.1 ∙ h.2 in
    subst (λ (x : ℕ). Contains now x) is (g.found h.0 (omega arith) (subst P (sym is) p))

-- ---- What is met

pub halves : (b c : Bounds) → boxes_meet b c ≡ true → Overlap b.left b.right c.left c.right × Overlap b.low b.high c.low c.high
halves b c e =
    let p = both_told (int_le (int_max b.left c.left) (int_min b.right c.right)) (int_le (int_max b.low c.low) (int_min b.high c.high)) e in
    (int_le_told (int_max b.left c.left) (int_min b.right c.right) p.0, int_le_told (int_max b.low c.low) (int_min b.high c.high) p.1)

pub met_boxes : (copy bounds : Bounds) (patch : Patch) (across up : ℕ) → IsMet copy bounds patch across up → SharePoint (InBox bounds) (InBox copy)
met_boxes copy bounds patch across up met = (overlap_share bounds copy).1 (halves bounds copy met.boxes)

-- ---- What is kept

-- of the first k of the old list those near were kept, in front
pub record IsKept (near : ℕ → Type 0) (old : List ℕ) (k kept : ℕ) (now : List ℕ) : Type 0 where
  pub long : length now ≡ length old
  pub order : kept ≤ k
  pub ahead : (j : ℕ) → k ≤ j → get_or now j 0 ≡ get_or old j 0
  pub rising : IsStrictlyIncreasing (take kept now)
  pub below : (x j : ℕ) → Contains (take kept now) x → k ≤ j → j < length old → x < get_or old j 0
  pub only : (x : ℕ) → Contains (take kept now) x → near x × Contains old x
  pub all : (j : ℕ) → j < k → near (get_or old j 0) → Contains (take kept now) (get_or old j 0)

kept_more : (near : ℕ → Type 0) (old : List ℕ) (k kept q : ℕ) (now : List ℕ) → IsStrictlyIncreasing old → k < length old → q ≡ get_or now k 0 → near q → IsKept near old k kept now → IsKept near old (k + 1) (kept + 1) (set now kept q)
kept_more near old k kept q now rises inside is holds s =
    let order = s.order in
    let long = s.long in
    let front : take (kept + 1) (set now kept q) ≡ take kept now ++ q ∷ [] = take_more_set now kept q (omega arith) in
    let at : q ≡ get_or old k 0 = is ∙ s.ahead k (omega arith) in
    let member : Contains old q = subst (λ (x : ℕ). Contains old x) (sym at) (Contains-get_or old k 0 inside) in record {
      long = length-set now kept q ∙ s.long;
      order = omega arith;
      ahead = λ j h. get_or-set_other now kept j q 0 (λ e. omega arith) ∙ s.ahead j (omega arith);
      rising = subst (λ (xs : List ℕ). IsStrictlyIncreasing xs) (sym front) (rising_push (take kept now) q s.rising (λ x h. let b = s.below x k h (omega arith) inside in omega arith));
      below = λ x j h m l. elim (Contains-push_cases (take kept now) q x (subst (λ (xs : List ℕ). Contains xs x) front h)) [
        | inl before ↦ s.below x j before (omega arith) l
        | inr same ↦ (let b = AllPairs-from_increasing old rises k j 0 (omega arith) l in omega arith)
      ];
      only = λ x h. elim (Contains-push_cases (take kept now) q x (subst (λ (xs : List ℕ). Contains xs x) front h)) [
        | inl before ↦ s.only x before
        | inr same ↦ (subst near same holds, subst (λ (y : ℕ). Contains old y) same member)
      ];
      all = λ j h m. subst (λ (xs : List ℕ). Contains xs (get_or old j 0)) (sym front) (elim (cases_eq j k) [
        | inl same ↦ subst (λ (x : ℕ). Contains (take kept now ++ q ∷ []) x) (at ∙ ap (λ (n : ℕ). get_or old n 0) (sym same)) (Contains-push (take kept now) q)
        | inr other ↦ Contains-append_left (take kept now) (q ∷ []) (get_or old j 0) (s.all j (omega arith) m)
      ]);
    }

kept_skip : (near : ℕ → Type 0) (old : List ℕ) (k kept q : ℕ) (now : List ℕ) → q ≡ get_or now k 0 → (near q → ⊥) → IsKept near old k kept now → IsKept near old (k + 1) kept now
kept_skip near old k kept q now is not s =
    let order = s.order in
    let at : q ≡ get_or old k 0 = is ∙ s.ahead k (omega arith) in record {
      long = s.long;
      order = omega arith;
      ahead = λ j h. s.ahead j (omega arith);
      rising = s.rising;
      below = λ x j h m l. s.below x j h (omega arith) l;
      only = s.only;
      all = λ j h m. elim (cases_eq j k) [
        | inl same ↦ absurd (not (subst near (ap (λ (n : ℕ). get_or old n 0) same ∙ sym at) m))
        | inr other ↦ s.all j (omega arith) m
      ];
    }

kept_all : (near : ℕ → Type 0) (old : List ℕ) (k kept : ℕ) (now : List ℕ) → length old ≤ k → IsKept near old k kept now → Lists (λ q. near q × Contains old q) (take kept now)
kept_all near old k kept now past s = record {
  rising = s.rising;
  only = s.only;
  all = λ q h. (
      let at = h.1 in
      let below = at.1 in
      let is : get_or old at.0 0 ≡ q = get_or_default old at.0 0 q at.1 ∙ at.2 in
      subst (λ (x : ℕ). Contains (take kept now) x) is (s.all at.0 (omega arith) (subst near (sym is) h.0)));
}

-- the same, where the loop tells the number and the list by equations
pub kept_more_told : (near : ℕ → Type 0) (old : List ℕ) (k kept m q : ℕ) (now after : List ℕ) → IsStrictlyIncreasing old → k < length old → q ≡ get_or now k 0 → near q → after ≡ set now kept q → m ≡ kept + 1 → IsKept near old k kept now → IsKept near old (k + 1) m after
kept_more_told near old k kept m q now after rises inside is holds e f s = rw (e, f) (kept_more near old k kept q now rises inside is holds s)

pub kept_skip_told : (near : ℕ → Type 0) (old : List ℕ) (k kept m q : ℕ) (now after : List ℕ) → q ≡ get_or now k 0 → (near q → ⊥) → after ≡ now → m ≡ kept → IsKept near old k kept now → IsKept near old (k + 1) m after
kept_skip_told near old k kept m q now after is not e f s = rw (e, f) (kept_skip near old k kept q now is not s)

pub kept_all_told : (near : ℕ → Type 0) (old : List ℕ) (k kept : ℕ) (now after : List ℕ) → length old ≤ k → after ≡ take kept now → IsKept near old k kept now → Lists (λ q. near q × Contains old q) after
kept_all_told near old k kept now after past e s = rw e (kept_all near old k kept now past s)

-- the number ahead, or n at the end
abbrev pub next_of : List ℕ → ℕ → ℕ → ℕ
next_of old n k = get_or old k n

pub ticks_turn : (box : ℕ → Bounds) (top bottom : ℕ → ℕ) (old : List ℕ) (n p k q start before after : ℕ) → IsStrictlyIncreasing old → All (λ q. q < n) old → k < length old → q ≡ get_or old k 0
    → before ≤ start + rivals_of (next_of old n k) box top bottom p → after ≤ before + (if is_rival box top bottom p q then 1 else 0) → after ≤ start + rivals_of (next_of old n (k + 1)) box top bottom p
ticks_turn box top bottom old n p k q start before after rises known inside is so_far step =
    let at : next_of old n k ≡ q = get_or_default old k n 0 inside ∙ sym is in
    let small : q < n = subst (λ (x : ℕ). x < n) (sym is) (known k 0 inside) in
    let below : q < next_of old n (k + 1) = elim (cases_lt (k + 1) (length old)) [
      | inl more ↦ (let r = rises k more in let e = get_or_default old (k + 1) n 0 more in omega arith)
      | inr last ↦ (let e : next_of old n (k + 1) ≡ n = get_or_past old (k + 1) n last in omega arith)
    ] in
    rivals_within (next_of old n (k + 1)) box top bottom p q start before after (subst (λ (m : ℕ). before ≤ start + rivals_of m box top bottom p) at so_far) step below

-- ---- The least

pub first_is_least : (P : ℕ → Type 0) (list : List ℕ) (k q : ℕ) → IsStrictlyIncreasing list → k < length list → q ≡ get_or list k 0 → ((j : ℕ) → j < k → P (get_or list j 0) → ⊥) → P q → IsLeast (λ x. P x × Contains list x) (Some q)
first_is_least P list k q rises inside is none holds = (
  (holds, subst (λ (x : ℕ). Contains list x) (sym is) (Contains-get_or list k 0 inside)),
  λ x h.
      (let at = h.1 in
      let below = at.1 in
      let here : get_or list at.0 0 ≡ x = get_or_default list at.0 0 x at.1 ∙ at.2 in
      elim (cases_lt at.0 k) [
        | inl before ↦ absurd (none at.0 before (subst P (sym here) h.0))
        | inr later ↦ elim (cases_eq at.0 k) [
          | inl same ↦ (let e = ap (λ (n : ℕ). get_or list n 0) same in omega arith)
          | inr after ↦ (let r = AllPairs-from_increasing list rises k at.0 0 (omega arith) at.1 in omega arith)
        ]
      ]),
)

pub none_is_least : (P : ℕ → Type 0) (list : List ℕ) (k : ℕ) → length list ≤ k → ((j : ℕ) → j < k → P (get_or list j 0) → ⊥) → (x : ℕ) → P x × Contains list x → ⊥
none_is_least P list k past none x h =
    let at = h.1 in
    let below = at.1 in
    let here : get_or list at.0 0 ≡ x = get_or_default list at.0 0 x at.1 ∙ at.2 in
    none at.0 (omega arith) (subst P (sym here) h.0)

-- ---- Lists of cells, one after the other

pub more : (P : ℕ → Type 0) (low k : ℕ) → ((j : ℕ) → low ≤ j → j < k → P j) → P k → (j : ℕ) → low ≤ j → j < k + 1 → P j
more P low k before now j h l = elim (cases_eq j k) [ inl same ↦ subst P (sym same) now | inr other ↦ before j h (omega arith) ]

pub finds_kept : (wanted : ℕ → Type 0) (copies : List (Placed Plate)) (bounds : Bounds) (patch : Patch) (across up : ℕ) (listed a b : List ℕ) → ((q : ℕ) → Contains a q → Contains b q) → Finds wanted copies bounds patch across up listed a → Finds wanted copies bounds patch across up listed b
finds_kept wanted copies bounds patch across up listed a b kept finds q h m = kept q (finds q h m)

known_more : (n m : ℕ) (xs : List ℕ) (b : Bool) → n < m → All (λ q. q < m) xs → All (λ q. q < m) (xs ++ (if b then n ∷ [] else []))
known_more n m xs true h known = All-push (λ q. q < m) xs n known h
known_more n m xs false h known = subst (λ (ys : List ℕ). All (λ q. q < m) ys) (sym (append-nil xs)) known

pub passing_known : (test : ℕ → Bool) (n m : ℕ) → n ≤ m → All (λ q. q < m) (passing test n)
passing_known test zero m h = λ k d below. absurd (omega arith)
passing_known test (suc n) m h = known_more n m (passing test n) (test n) (omega arith) (passing_known test n m (omega arith))

pub listed_known : (test : ℕ → Bool) (n : ℕ) (xs : List ℕ) → xs ≡ passing test n → All (λ q. q < n) xs
listed_known test n xs is = subst (λ (ys : List ℕ). All (λ q. q < n) ys) (sym is) (passing_known test n n (omega arith))

rises_more : (n : ℕ) (xs : List ℕ) (b : Bool) → IsStrictlyIncreasing xs → All (λ q. q < n) xs → IsStrictlyIncreasing (xs ++ (if b then n ∷ [] else []))
rises_more n xs true rises known = rising_push xs n rises (λ x h. All-contains (λ q. q < n) xs x known h)
rises_more n xs false rises known = subst (λ (ys : List ℕ). IsStrictlyIncreasing ys) (sym (append-nil xs)) rises

pub passing_rises : (test : ℕ → Bool) (n : ℕ) → IsStrictlyIncreasing (passing test n)
passing_rises test zero = λ k h. absurd (omega arith)
passing_rises test (suc n) = rises_more n (passing test n) (test n) (passing_rises test n) (passing_known test n n (omega arith))

pub passing_has : (test : ℕ → Bool) (n q : ℕ) → q < n → test q ≡ true → Contains (passing test n) q
passing_has test zero q h t = absurd (omega arith)
passing_has test (suc n) q h t = elim (cases_eq q n) [
  | inl same ↦ (let e : test n ≡ true = subst (λ (m : ℕ). test m ≡ true) same t in subst (λ (x : ℕ). Contains (passing test (suc n)) x) (sym same) (rw e (Contains-push (passing test n) n)))
  | inr other ↦ Contains-append_left (passing test n) (if test n then n ∷ [] else []) q (passing_has test n q (omega arith) t)
]

pub listed_rises : (test : ℕ → Bool) (n : ℕ) (xs : List ℕ) → xs ≡ passing test n → IsStrictlyIncreasing xs
listed_rises test n xs is = subst (λ (ys : List ℕ). IsStrictlyIncreasing ys) (sym is) (passing_rises test n)
