-- The rising list of the numbers of which something holds: it is there, and there is one alone.
use Rattle.std.proofs.Common.{◌≡◌, ◌⊎◌, inl, inr, ℕ, zero, suc, ◌+◌, ◌<◌, ◌≤◌, List, [], ◌∷◌, ◌++◌, length, get_or, Contains, refl, sym, ◌∙◌, ap, subst, arith, length-append}
use Rattle.std.proofs.lemmas.List.{get_or_append_left, get_or_at, get_or_past}
use Rattle.std.proofs.lemmas.List.Elements.{Contains-get_or, Contains-push, Contains-push_cases, Contains-append_left}
use Rattle.std.proofs.lemmas.List.Kept.{AllPairs-from_increasing}
use Rattle.std.proofs.lemmas.Bool.{cases_eq, cases_lt}
use Rattle.std.specs.List.Sorted.{IsStrictlyIncreasing}
use Rattle.tables.specs.Lists.{Lists, AreRows}

-- ---- Making it, number by number

-- the list of those below q
pub record IsListing (P : ℕ → Type 0) (q : ℕ) (xs : List ℕ) : Type 0 where
  pub rising : IsStrictlyIncreasing xs
  pub below : (x : ℕ) → Contains xs x → x < q
  pub only : (x : ℕ) → Contains xs x → P x
  pub all : (x : ℕ) → x < q → P x → Contains xs x

pub listing_start : (P : ℕ → Type 0) → IsListing P 0 []
listing_start P = record {
  rising = λ k h. absurd (omega arith);
  below = λ x h. (let b = h.1 in absurd (omega arith));
  only = λ x h. (let b = h.1 in absurd (omega arith));
  all = λ x h. absurd (omega arith);
}

pub rising_push : (xs : List ℕ) (y : ℕ) → IsStrictlyIncreasing xs → ((x : ℕ) → Contains xs x → x < y) → IsStrictlyIncreasing (xs ++ y ∷ [])
rising_push xs y rising below k h =
    let long = length-append xs (y ∷ []) in
    let here = get_or_append_left xs (y ∷ []) 0 k (omega arith) in
    elim (cases_eq (k + 1) (length xs)) [
      | inl last ↦ (let there : get_or (xs ++ y ∷ []) (k + 1) 0 ≡ y = get_or_at xs y [] 0 (k + 1) (sym last) in let b = below (get_or xs k 0) (Contains-get_or xs k 0 (omega arith)) in omega arith)
      | inr other ↦ (let there = get_or_append_left xs (y ∷ []) 0 (k + 1) (omega arith) in let r = rising k (omega arith) in omega arith)
    ]

pub listing_more : (P : ℕ → Type 0) (q : ℕ) (xs : List ℕ) → IsListing P q xs → P q → IsListing P (q + 1) (xs ++ q ∷ [])
listing_more P q xs l holds = record {
  rising = rising_push xs q l.rising l.below;
  below = λ x h. elim (Contains-push_cases xs q x h) [ inl old ↦ (let b = l.below x old in omega arith) | inr same ↦ omega arith ];
  only = λ x h. elim (Contains-push_cases xs q x h) [ inl old ↦ l.only x old | inr same ↦ subst P same holds ];
  all = λ x h p. elim (cases_eq x q) [
    | inl same ↦ subst (λ (y : ℕ). Contains (xs ++ q ∷ []) y) (sym same) (Contains-push xs q)
    | inr other ↦ Contains-append_left xs (q ∷ []) x (l.all x (omega arith) p)
  ];
}

pub listing_skip : (P : ℕ → Type 0) (q : ℕ) (xs : List ℕ) → IsListing P q xs → (P q → ⊥) → IsListing P (q + 1) xs
listing_skip P q xs l not = record {
  rising = l.rising;
  below = λ x h. (let b = l.below x h in omega arith);
  only = l.only;
  all = λ x h p. elim (cases_eq x q) [ inl same ↦ absurd (not (subst P same p)) | inr other ↦ l.all x (omega arith) p ];
}

-- the list of all, where none is from n on
pub listing_all : (P : ℕ → Type 0) (n : ℕ) (xs : List ℕ) → IsListing P n xs → ((q : ℕ) → P q → q < n) → Lists P xs
listing_all P n xs l within = record { rising = l.rising; only = l.only; all = λ q h. l.all q (within q h) h }

listing_of : (P : ℕ → Type 0) → ((q : ℕ) → P q ⊎ (P q → ⊥)) → (n : ℕ) → (xs : List ℕ) × IsListing P n xs
listing_of P decided zero = ([], listing_start P)
listing_of P decided (suc n) = go (listing_of P decided n) (decided n)
  where
    next : n + 1 ≡ suc n
    next = omega arith

    go : (xs : List ℕ) × IsListing P n xs → P n ⊎ (P n → ⊥) → (xs : List ℕ) × IsListing P (suc n) xs
    go (xs, l) (inl holds) = (xs ++ n ∷ [], subst (λ (m : ℕ). IsListing P m (xs ++ n ∷ [])) next (listing_more P n xs l holds))
    go (xs, l) (inr fails) = (xs, subst (λ (m : ℕ). IsListing P m xs) next (listing_skip P n xs l fails))

-- where each number is decided, and none is from n on, the list is there
pub list_of : (P : ℕ → Type 0) → ((q : ℕ) → P q ⊎ (P q → ⊥)) → (n : ℕ) → ((q : ℕ) → P q → q < n) → (xs : List ℕ) × Lists P xs
list_of P decided n within = (let l = listing_of P decided n in (l.0, listing_all P n l.0 l.1 within))

-- ---- There is one alone

after_head : (x : ℕ) (xs : List ℕ) → IsStrictlyIncreasing (x ∷ xs) → (q : ℕ) → Contains xs q → x < q
after_head x xs rising q (k, below, same) = (let f : x < get_or xs k q = AllPairs-from_increasing (x ∷ xs) rising 0 (suc k) q (omega arith) (omega arith) in omega arith)

cons_cases : (x : ℕ) (xs : List ℕ) (q : ℕ) → Contains (x ∷ xs) q → (x ≡ q) ⊎ Contains xs q
cons_cases x xs q (zero, below, same) = inl same
cons_cases x xs q (suc k, below, same) = inr (k, omega arith, same)

at_head : (x : ℕ) (xs : List ℕ) → Contains (x ∷ xs) x
at_head x xs = (0, omega arith, refl)

in_tail : (x : ℕ) (xs : List ℕ) (q : ℕ) → Contains xs q → Contains (x ∷ xs) q
in_tail x xs q (k, below, same) = (suc k, omega arith, same)

from_head : (x : ℕ) (xs : List ℕ) → IsStrictlyIncreasing (x ∷ xs) → (q : ℕ) → Contains (x ∷ xs) q → x ≤ q
from_head x xs rising q h = elim (cons_cases x xs q h) [ inl same ↦ omega arith | inr later ↦ (let l = after_head x xs rising q later in omega arith) ]

tail_rises : (x : ℕ) (xs : List ℕ) → IsStrictlyIncreasing (x ∷ xs) → IsStrictlyIncreasing xs
tail_rises x xs rising k h = AllPairs-from_increasing (x ∷ xs) rising (suc k) (suc (k + 1)) 0 (omega arith) (omega arith)

tail_members : (x : ℕ) (xs ys : List ℕ) → IsStrictlyIncreasing (x ∷ xs) → ((q : ℕ) → Contains (x ∷ xs) q → Contains (x ∷ ys) q) → (q : ℕ) → Contains xs q → Contains ys q
tail_members x xs ys rising into q h = elim (cons_cases x ys q (into q (in_tail x xs q h))) [ inl same ↦ (let l = after_head x xs rising q h in absurd (omega arith)) | inr later ↦ later ]

pub same_members : (xs ys : List ℕ) → IsStrictlyIncreasing xs → IsStrictlyIncreasing ys → ((q : ℕ) → Contains xs q → Contains ys q) → ((q : ℕ) → Contains ys q → Contains xs q) → xs ≡ ys
same_members [] [] rise climb into back = refl
same_members [] (y ∷ ys) rise climb into back = (let b = (back y (at_head y ys)).1 in absurd (omega arith))
same_members (x ∷ xs) [] rise climb into back = (let b = (into x (at_head x xs)).1 in absurd (omega arith))
same_members (x ∷ xs) (y ∷ ys) rise climb into back =
    let low : y ≤ x = from_head y ys climb x (into x (at_head x xs)) in
    let high : x ≤ y = from_head x xs rise y (back y (at_head y ys)) in
    let same : y ≡ x = omega arith in
    let climb' : IsStrictlyIncreasing (x ∷ ys) = subst (λ (z : ℕ). IsStrictlyIncreasing (z ∷ ys)) same climb in
    let into' : (q : ℕ) → Contains (x ∷ xs) q → Contains (x ∷ ys) q = subst (λ (z : ℕ). (q : ℕ) → Contains (x ∷ xs) q → Contains (z ∷ ys) q) same into in
    let back' : (q : ℕ) → Contains (x ∷ ys) q → Contains (x ∷ xs) q = subst (λ (z : ℕ). (q : ℕ) → Contains (z ∷ ys) q → Contains (x ∷ xs) q) same back in
    let rest : xs ≡ ys = same_members xs ys (tail_rises x xs rise) (tail_rises x ys climb') (tail_members x xs ys rise into') (tail_members x ys xs climb' back') in
    ap (λ (l : List ℕ). x ∷ l) rest ∙ ap (λ (z : ℕ). z ∷ ys) (sym same)

pub one_list : (P : ℕ → Type 0) (xs ys : List ℕ) → Lists P xs → Lists P ys → xs ≡ ys
one_list P xs ys h k = same_members xs ys h.rising k.rising (λ q c. k.all q (h.only q c)) (λ q c. h.all q (k.only q c))

-- ---- Rows

rows_from : (R : ℕ → ℕ → Type 0) → ((i q : ℕ) → R i q ⊎ (R i q → ⊥)) → (n : ℕ) → ((i q : ℕ) → R i q → q < n) → (count : ℕ) → (rows : List (List ℕ)) × AreRows count R rows
rows_from R decided n within zero = ([], record { many = refl; each = λ i h. absurd (omega arith) })
rows_from R decided n within (suc count) = go (rows_from R decided n within count) (list_of (R count) (decided count) n (within count))
  where
    go : (rows : List (List ℕ)) × AreRows count R rows → (xs : List ℕ) × Lists (R count) xs → (rows : List (List ℕ)) × AreRows (suc count) R rows
    go (rows, r) (xs, l) = (rows ++ xs ∷ [], record { many = long; each = each })
      where
        long : length (rows ++ xs ∷ []) ≡ suc count
        long = let e = length-append rows (xs ∷ []) in let m = r.many in omega arith

        each : (i : ℕ) → i < suc count → Lists (R i) (get_or (rows ++ xs ∷ []) i [])
        each i h = elim (cases_eq i count) [
          | inl same ↦ subst (λ (j : ℕ). Lists (R j) (get_or (rows ++ xs ∷ []) j [])) (sym same) (subst (λ (row : List ℕ). Lists (R count) row) (sym (get_or_at rows xs [] [] count r.many)) l)
          | inr other ↦ (let b : i < count = omega arith in let m = r.many in subst (λ (row : List ℕ). Lists (R i) row) (sym (get_or_append_left rows (xs ∷ []) [] i (omega arith))) (r.each i b))
        ]

-- where each pair is decided, the rows are there
pub rows_of : (R : ℕ → ℕ → Type 0) → ((i q : ℕ) → R i q ⊎ (R i q → ⊥)) → (n : ℕ) → ((i q : ℕ) → R i q → q < n) → (count : ℕ) → (rows : List (List ℕ)) × AreRows count R rows
rows_of R decided n within count = rows_from R decided n within count

same_rows : (xs ys : List (List ℕ)) → length xs ≡ length ys → ((i : ℕ) → i < length xs → get_or xs i [] ≡ get_or ys i []) → xs ≡ ys
same_rows [] [] e f = refl
same_rows [] (y ∷ ys) e f = absurd (omega arith)
same_rows (x ∷ xs) [] e f = absurd (omega arith)
same_rows (x ∷ xs) (y ∷ ys) e f =
    let rest : xs ≡ ys = same_rows xs ys (omega arith) (λ i h. f (suc i) (omega arith)) in
    let first : x ≡ y = f 0 (omega arith) in
    ap (λ (l : List (List ℕ)). x ∷ l) rest ∙ ap (λ (z : List ℕ). z ∷ ys) first

-- and they are the only ones
pub rows_are_one : (count : ℕ) (R : ℕ → ℕ → Type 0) (xs ys : List (List ℕ)) → AreRows count R xs → AreRows count R ys → xs ≡ ys
rows_are_one count R xs ys h k =
    let m = h.many in
    let n = k.many in
    same_rows xs ys (m ∙ sym n) (λ i l. (let b : i < count = omega arith in one_list (R i) (get_or xs i []) (get_or ys i []) (h.each i b) (k.each i b)))

-- what stands in a row
pub stands_as : (count : ℕ) (R : ℕ → ℕ → Type 0) (rows : List (List ℕ)) → AreRows count R rows → (i q : ℕ) → Contains (get_or rows i []) q → R i q
stands_as count R rows r i q (k, below, same) = elim (cases_lt i count) [
  | inl within ↦ (r.each i within).only q (k, below, same)
  | inr past ↦ (let m = r.many in let e : get_or rows i [] ≡ [] = get_or_past rows i [] (omega arith) in let l : length (get_or rows i []) ≡ 0 = ap length e in absurd (omega arith))
]

pub stands_where : (count : ℕ) (R : ℕ → ℕ → Type 0) (rows : List (List ℕ)) → AreRows count R rows → (i q : ℕ) → i < count → R i q → Contains (get_or rows i []) q
stands_where count R rows r i q within h = (r.each i within).all q h

pub none_listed : (P : ℕ → Type 0) (row : List ℕ) → Lists P row → ((q : ℕ) → P q → ⊥) → row ≡ []
none_listed P [] lists none = refl
none_listed P (x ∷ xs) lists none = absurd (none x (lists.only x (0, omega arith, refl)))
