-- Opens that stand in a list one after another.
use Rattle.std.proofs.Common.{◌≡◌, ◌↔◌, inl, inr, ℕ, ◌+◌, ◌<◌, ◌≤◌, List, [], ◌∷◌, ◌++◌, length, map, get_or, drop, sym, ap, ◌∙◌, arith}
use Rattle.std.proofs.lemmas.List.{at_drop_all, drop_all, drop_more}
use Rattle.verdict.specs.declared.verdict.Open.{Open}
use Rattle.verdict.specs.declared.verdict.PointLine.{PointLine}
use Rattle.verdict.specs.declared.verdict.Seat.{Seat}
use Rattle.verdict.specs.Right.{all_opens}
use Rattle.verdict.specs.Seats.{AreFirstSeats}
use Rattle.verdict.proofs.Holding.{le_or_lt}
use Rattle.witness_check.specs.Opened.{open_by}

-- ---- The opens of a name

-- The opens from `next` on begin with those of all seats exactly where those from `at` on begin with those of the seats from i on.
pub record AreOpensTo (name home : ℕ) (seats : List Seat) (opens : List Open) (next i at : ℕ) : Type 0 where
  pub within : at ≤ length opens
  pub same : (rest : List Open) → (drop next opens ≡ map (open_by name home) seats ++ rest) ↔ (drop at opens ≡ map (open_by name home) (drop i seats) ++ rest)

next_seat : (name home : ℕ) (seats : List Seat) (i : ℕ) (d : Seat) (rest : List Open) → i < length seats → map (open_by name home) (drop i seats) ++ rest ≡ open_by name home (get_or seats i d) ∷ map (open_by name home) (drop (i + 1) seats) ++ rest
next_seat name home seats i d rest below = ap (λ (xs : List Seat). map (open_by name home) xs ++ rest) (drop_more seats i d below)

head_same : (x y : Open) (xs ys : List Open) → x ∷ xs ≡ y ∷ ys → x ≡ y
head_same x y xs ys e = cc

nil_cons : (x : Open) (xs : List Open) → [] ≡ x ∷ xs → ⊥
nil_cons x xs e = cc

-- where the head of what is left is another
pub opens_stop : (name home : ℕ) (seats : List Seat) (opens : List Open) (next i at : ℕ) (d : Seat) → i < length seats → (drop at opens ≡ open_by name home (get_or seats i d) ∷ drop (at + 1) opens → ⊥) → AreOpensTo name home seats opens next i at → (rest : List Open) → drop next opens ≡ map (open_by name home) seats ++ rest → ⊥
opens_stop name home seats opens next i at d below not to rest whole =
    let x : Open = open_by name home (get_or seats i d) in
    let e : drop at opens ≡ x ∷ map (open_by name home) (drop (i + 1) seats) ++ rest = (to.same rest).0 whole ∙ next_seat name home seats i d rest below in
    elim (le_or_lt (length opens) at) [
      | inl past ↦ nil_cons x (map (open_by name home) (drop (i + 1) seats) ++ rest) (sym (drop_all at opens past) ∙ e)
      | inr there ↦ (
          let f : drop at opens ≡ get_or opens at x ∷ drop (at + 1) opens = drop_more opens at x there in
          let g : get_or opens at x ≡ x = head_same (get_or opens at x) x (drop (at + 1) opens) (map (open_by name home) (drop (i + 1) seats) ++ rest) (sym f ∙ e) in
          not (f ∙ ap (λ (y : Open). y ∷ drop (at + 1) opens) g)
          )
    ]

-- ---- The opens of all names

-- The opens are those of all names exactly where those from `next` on are those of the names from n on.
pub record AreOpenTo (names : List (List ℕ)) (groups : List (List Seat)) (opens : List Open) (next n : ℕ) : Type 0 where
  pub within : next ≤ length opens
  pub same : (lines : List PointLine) → AreFirstSeats groups lines → (opens ≡ all_opens 0 names lines) ↔ (drop next opens ≡ all_opens n (drop n names) lines)

pub names_done : (names : List (List ℕ)) (groups : List (List Seat)) (opens : List Open) (next n : ℕ) → length names ≤ n → AreOpenTo names groups opens next n → (lines : List PointLine) → AreFirstSeats groups lines → (next ≡ length opens) ↔ (opens ≡ all_opens 0 names lines)
names_done names groups opens next n past to lines firsts =
    let none : all_opens n (drop n names) lines ≡ [] = at_drop_all (λ (xs : List (List ℕ)). all_opens n xs lines) names n past in
    ((λ e. (to.same lines firsts).1 (drop_all next opens (omega arith) ∙ sym none)), λ whole. all ((to.same lines firsts).0 whole ∙ none))
  where
    all : drop next opens ≡ [] → next ≡ length opens
    all e = elim (le_or_lt (length opens) next) [
      | inl beyond ↦ let w = to.within in omega arith
      | inr there ↦ absurd (nil_cons (get_or opens next (record { name = 0; home = 0; other = 0; probe = 0 })) (drop (next + 1) opens) (sym e ∙ drop_more opens next (record { name = 0; home = 0; other = 0; probe = 0 }) there))
    ]
