-- The first seat of each name on each net.
use Rattle.std.proofs.Common.{◌≡◌, ◌≢◌, ℕ, ◌+◌, ◌<◌, ◌≤◌, Bool, true, false, not, ◌==◌, inl, inr, List, [], ◌∷◌, ◌++◌, length, map, get_or, drop, All, Option, None, Some, refl, sym, ap, ◌∙◌, subst, append_assoc, rules, arith}
use Rattle.std.proofs.lemmas.List.{append-nil, at_drop_all, at_drop_more, get_or_default, get_or_past, map-append}
use Rattle.verdict.proofs.Holding.{le_or_lt}
use Rattle.verdict.specs.declared.verdict.PointLine.{PointLine}
use Rattle.verdict.specs.declared.verdict.Seat.{Seat}
use Rattle.verdict.specs.Right.{fresh, net_of, seats_from}
use Rattle.judge.specs.Seated.{IsFurther, IsSeated, has_seat, with_point, with_seat}
use Rattle.verdict.proofs.Seating.{fresh_new, fresh_old, seats_none, seats_other, seats_some}
use Rattle.verdict.specs.Seats.{AreFirstSeats, seats_at}

-- ---- One seat more

with_old : (seats : List Seat) (s : Seat) → has_seat seats s.net ≡ true → with_seat seats s ≡ seats
with_old seats s e = rw e refl

with_new : (seats : List Seat) (s : Seat) → has_seat seats s.net ≡ false → with_seat seats s ≡ seats ++ s ∷ []
with_new seats s e = rw e refl

has_behind : (first : Seat) (rest : List Seat) (net : ℕ) → (first.net == net) ≡ false → has_seat (first ∷ rest) net ≡ has_seat rest net
has_behind first rest net off = rw off refl

-- Where the first is on another net, the others tell.
pub has_further : (seats : List Seat) (s : Seat) → IsFurther seats s → has_seat seats s.net ≡ has_seat (drop 1 seats) s.net
has_further seats s f = subst (λ (xs : List Seat). has_seat xs s.net ≡ has_seat (drop 1 xs) s.net) (sym f.2) (has_behind f.0 f.1 s.net f.3)

pub told_new : (first old held : Bool) → first ≡ not old → first ≡ true → old ≡ held → held ≡ false
told_new first true held a t s = cc
told_new first false held a t s = sym s

differs : (a b : ℕ) → (a ≡ b → ⊥) → (a == b) ≡ false
differs a b off = by (a == b) refl where
  by : (t : Bool) → (a == b) ≡ t → (a == b) ≡ false
  by true e = (let same : a ≡ b = (search (rules, e)) in absurd (off same))
  by false e = e

further_in : (seats : List Seat) (e s : Seat) → 0 < length seats → ((get_or seats 0 e).net ≡ s.net → ⊥) → IsFurther seats s
further_in [] e s some off = absurd (omega arith)
further_in (first ∷ rest) e s some off = (first, rest, refl, differs first.net s.net off)

pub further_at : (groups : List (List Seat)) (name : ℕ) (d slice : List Seat) (e s : Seat) → name < length groups → slice ≡ get_or groups name d → 0 < length slice → ((get_or slice 0 e).net ≡ s.net → ⊥) → IsFurther (seats_at groups name) s
further_at groups name d slice e s below is some off = subst (λ (xs : List Seat). IsFurther xs s) (is ∙ get_or_default groups name d [] below) (further_in slice e s some off)

-- A name gets a seat more, which no other of its seats has taken.
pub seat_put : (seats new : List Seat) (s : Seat) → IsFurther seats s → has_seat (drop 1 seats) s.net ≡ false → new ≡ seats ++ s ∷ [] → new ≡ with_seat seats s
seat_put seats new s further free put = put ∙ sym (with_new seats s (has_further seats s further ∙ free))

with_rest : (seats : List Seat) (s : Seat) (rest : List Seat) → with_seat seats s ++ fresh (map net_of (with_seat seats s)) rest ≡ seats ++ fresh (map net_of seats) (s ∷ rest)
with_rest seats s rest = by (has_seat seats s.net) refl where
  by : (b : Bool) → has_seat seats s.net ≡ b → with_seat seats s ++ fresh (map net_of (with_seat seats s)) rest ≡ seats ++ fresh (map net_of seats) (s ∷ rest)
  by true e = ap (λ (xs : List Seat). xs ++ fresh (map net_of xs) rest) (with_old seats s e) ∙ ap (λ (xs : List Seat). seats ++ xs) (sym (fresh_old (map net_of seats) s rest e))
  by false e =
      ap (λ (xs : List Seat). xs ++ fresh (map net_of xs) rest) (with_new seats s e) ∙
      (append_assoc seats (s ∷ []) (fresh (map net_of (seats ++ s ∷ [])) rest) ∙
      (ap (λ (xs : List ℕ). seats ++ s ∷ fresh xs rest) (map-append net_of seats (s ∷ [])) ∙ ap (λ (xs : List Seat). seats ++ xs) (sym (fresh_new (map net_of seats) s rest e))))

-- The points before i have their seats: what the others add to them makes the whole.
abbrev pub AreSeatedTo : List PointLine → ℕ → List (List Seat) → Type 0
AreSeatedTo lines i groups = (name : ℕ) → seats_at groups name ++ fresh (map net_of (seats_at groups name)) (seats_from name i (drop i lines)) ≡ fresh [] (seats_from name 0 lines)

seated_same : (lines : List PointLine) (i : ℕ) (d : PointLine) (name : ℕ) (seats seats' : List Seat) → i < length lines → seats_from name i (get_or lines i d ∷ drop (i + 1) lines) ≡ seats_from name (i + 1) (drop (i + 1) lines)
    → seats ++ fresh (map net_of seats) (seats_from name i (drop i lines)) ≡ fresh [] (seats_from name 0 lines) → seats' ≡ seats → seats' ++ fresh (map net_of seats') (seats_from name (i + 1) (drop (i + 1) lines)) ≡ fresh [] (seats_from name 0 lines)
seated_same lines i d name seats seats' below opens before same =
    ap (λ (xs : List Seat). xs ++ fresh (map net_of xs) (seats_from name (i + 1) (drop (i + 1) lines))) same ∙
    (ap (λ (xs : List Seat). seats ++ fresh (map net_of seats) xs) (sym opens ∙ sym (at_drop_more (seats_from name i) lines i d below)) ∙ before)

seated_more : (lines : List PointLine) (i net : ℕ) (d : PointLine) (name : ℕ) (seats seats' : List Seat) → i < length lines → ((get_or lines i d).name == name) ≡ true → (get_or lines i d).net ≡ Some net
    → seats ++ fresh (map net_of seats) (seats_from name i (drop i lines)) ≡ fresh [] (seats_from name 0 lines) → seats' ≡ with_seat seats (record { net = net; probe = i }) → seats' ++ fresh (map net_of seats') (seats_from name (i + 1) (drop (i + 1) lines)) ≡ fresh [] (seats_from name 0 lines)
seated_more lines i net d name seats seats' below here on before now =
    let s : Seat = record { net = net; probe = i } in
    let rest : List Seat = seats_from name (i + 1) (drop (i + 1) lines) in
    ap (λ (xs : List Seat). xs ++ fresh (map net_of xs) rest) now ∙
    (with_rest seats s rest ∙
    (ap (λ (xs : List Seat). seats ++ fresh (map net_of seats) xs) (sym (seats_some name i net (get_or lines i d) (drop (i + 1) lines) here on) ∙ sym (at_drop_more (seats_from name i) lines i d below)) ∙ before))

-- ---- One point more

no_seats : (groups : List (List Seat)) (name : ℕ) → All (λ seats. seats ≡ []) groups → seats_at groups name ≡ []
no_seats groups name none = elim (le_or_lt (length groups) name) [
  | inl past ↦ get_or_past groups name [] past
  | inr below ↦ none name [] below
]

pub seated_first : (lines : List PointLine) (groups : List (List Seat)) → All (λ seats. seats ≡ []) groups → AreSeatedTo lines 0 groups
seated_first lines groups none name = ap (λ (xs : List Seat). xs ++ fresh (map net_of xs) (seats_from name 0 lines)) (no_seats groups name none)

seated_turn : (lines : List PointLine) (i net : ℕ) (d : PointLine) (groups groups' : List (List Seat)) → i < length lines → (get_or lines i d).net ≡ Some net → AreSeatedTo lines i groups
    → seats_at groups' (get_or lines i d).name ≡ with_seat (seats_at groups (get_or lines i d).name) (record { net = net; probe = i }) → ((other : ℕ) → other ≢ (get_or lines i d).name → seats_at groups' other ≡ seats_at groups other) → AreSeatedTo lines (i + 1) groups'
seated_turn lines i net d groups groups' below on before more others name = by ((get_or lines i d).name == name) refl where
  by : (b : Bool) → ((get_or lines i d).name == name) ≡ b → seats_at groups' name ++ fresh (map net_of (seats_at groups' name)) (seats_from name (i + 1) (drop (i + 1) lines)) ≡ fresh [] (seats_from name 0 lines)
  by true e =
      let here : (get_or lines i d).name ≡ name = (search (rules, e)) in
      seated_more lines i net d name (seats_at groups name) (seats_at groups' name) below e on (before name) (subst (λ (n : ℕ). seats_at groups' n ≡ with_seat (seats_at groups n) (record { net = net; probe = i })) here more)
  by false e =
      let other : name ≢ (get_or lines i d).name = (λ k. (let f : ((get_or lines i d).name == name) ≡ true = (search (rules, k)) in cc)) in
      seated_same lines i d name (seats_at groups name) (seats_at groups' name) below (seats_other name i (get_or lines i d) (drop (i + 1) lines) e) (before name) (others name other)

pub seated_line : (lines : List PointLine) (i : ℕ) (line d : PointLine) (groups groups' : List (List Seat)) → i < length lines → line ≡ get_or lines i d → AreSeatedTo lines i groups → IsSeated line i groups groups' → AreSeatedTo lines (i + 1) groups'
seated_line lines i line d groups groups' below is before seated = by (get_or lines i d).net refl (subst (λ (l : PointLine). IsSeated l i groups groups') is seated)
  where
    by : (net : Option ℕ) → (get_or lines i d).net ≡ net → IsSeated (get_or lines i d) i groups groups' → AreSeatedTo lines (i + 1) groups'
    by None e s = λ name. seated_same lines i d name (seats_at groups name) (seats_at groups' name) below (seats_none name i (get_or lines i d) (drop (i + 1) lines) e) (before name) (same name)
      where
        same : (name : ℕ) → seats_at groups' name ≡ seats_at groups name
        same name = by_name ((get_or lines i d).name == name) refl
          where
            by_name : (b : Bool) → ((get_or lines i d).name == name) ≡ b → seats_at groups' name ≡ seats_at groups name
            by_name true k =
                let here : (get_or lines i d).name ≡ name = (search (rules, k)) in
                subst (λ (n : ℕ). seats_at groups' n ≡ seats_at groups n) here (s.0 ∙ ap (λ (o : Option ℕ). with_point o i (seats_at groups (get_or lines i d).name)) e)
            by_name false k = s.1 name (λ h. (let f : ((get_or lines i d).name == name) ≡ true = (search (rules, h)) in cc))
    by (Some net) e s = seated_turn lines i net d groups groups' below e before (s.0 ∙ ap (λ (o : Option ℕ). with_point o i (seats_at groups (get_or lines i d).name)) e) s.1

pub seated_last : (lines : List PointLine) (i : ℕ) (groups : List (List Seat)) → length lines ≤ i → AreSeatedTo lines i groups → AreFirstSeats groups lines
seated_last lines i groups past before name below =
    sym (append-nil (seats_at groups name)) ∙ (ap (λ (xs : List Seat). seats_at groups name ++ fresh (map net_of (seats_at groups name)) xs) (sym (at_drop_all (seats_from name i) lines i past)) ∙ before name)
