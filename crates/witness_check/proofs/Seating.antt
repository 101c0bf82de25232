-- Seats of each name, and the first on each net.
use Rattle.std.proofs.Common.{◌||◌, ◌≡◌, ◌↔◌, inl, inr, ℕ, suc, ◌+◌, ◌<◌, Bool, true, false, ◌==◌, Option, None, List, [], ◌∷◌, ◌++◌, length, map, get_or, set, drop, All, IfSome, Some, refl, sym, ap, subst, ◌∙◌, append_assoc, add-zero, arith}
use Rattle.std.proofs.lemmas.Bool.{cases_eq, eq-eqb, ne_eqb}
use Rattle.std.proofs.lemmas.List.{at_drop_more, drop_more, get_or-set_other, get_or-set_same, get_or_append_left, get_or_push, length-set, length_push, map-append, append-nil}
use Rattle.std.proofs.lemmas.List.Elements.{All-get_or, All-push}
use Rattle.std.proofs.lemmas.List.Folds.{list_any-append}
use Rattle.std.specs.List.{list_any}
use Rattle.verdict.specs.declared.verdict.PointLine.{PointLine}
use Rattle.verdict.specs.declared.verdict.Seat.{Seat}
use Rattle.verdict.specs.declared.verdict.Mark.{Mark}
use Rattle.verdict.specs.Right.{fresh, net_of, seats_from}
use Rattle.verdict.specs.Seats.{mark_of, marks_at, marks_from, marks_of_seats, seats_at}
use Rattle.verdict.proofs.Marking.{marked_at}
use Rattle.verdict.proofs.Seating.{fresh_new, fresh_old, seats_none, seats_other, seats_some}
use Rattle.witness_check.specs.Marked.{AreUpTo}
use Rattle.witness_check.specs.Seated.{HaveFirsts, Takes, begins_on}
use Rattle.witness_check.proofs.Stamping.{up_more}

-- ---- The first on each net

-- The nets with the stamp are those of the seats kept.
abbrev pub AreMarked : List Seat → ℕ → List ℕ → Type 0
AreMarked row stamp stamps = (net : ℕ) → (get_or stamps net 0 ≡ stamp) ↔ (list_any (λ n. n == net) (map net_of row) ≡ true)

-- The seats before i are kept where they are the first on their nets: what the others add makes the whole.
pub record AreKeptTo (seats : List Seat) (stamp room i : ℕ) (row : List Seat) (stamps : List ℕ) : Type 0 where
  pub long : length stamps ≡ room
  pub highest : AreUpTo stamp stamps
  pub marked : AreMarked row stamp stamps
  pub whole : row ++ fresh (map net_of row) (drop i seats) ≡ fresh [] seats

or_right : (a b : Bool) → b ≡ true → (a || b) ≡ true
or_right true b h = refl
or_right false b h = h

or_left : (a b : Bool) → b ≡ false → (a || b) ≡ a
or_left true b h = refl
or_left false b h = h

one_true : (m n : ℕ) → m ≡ n → list_any (λ x. x == n) (m ∷ []) ≡ true
one_true m n same = rw (eq-eqb m n same) refl

one_false : (m n : ℕ) → (m ≡ n → ⊥) → list_any (λ x. x == n) (m ∷ []) ≡ false
one_false m n other = rw (ne_eqb m n other) refl

any_more : (row : List Seat) (s : Seat) (n : ℕ) → list_any (λ x. x == n) (map net_of (row ++ s ∷ [])) ≡ (list_any (λ x. x == n) (map net_of row) || list_any (λ x. x == n) (s.net ∷ []))
any_more row s n = ap (list_any (λ x. x == n)) (map-append net_of row (s ∷ [])) ∙ list_any-append (λ x. x == n) (map net_of row) (s.net ∷ [])

marked_more : (row : List Seat) (s : Seat) (stamp : ℕ) (stamps : List ℕ) → s.net < length stamps → AreMarked row stamp stamps → AreMarked (row ++ s ∷ []) stamp (set stamps s.net stamp)
marked_more row s stamp stamps below are n = elim (cases_eq n s.net) [
  | inl same ↦ (
    (λ on. any_more row s n ∙ or_right (list_any (λ x. x == n) (map net_of row)) (list_any (λ x. x == n) (s.net ∷ [])) (one_true s.net n (sym same))),
    λ h. ap (λ (x : ℕ). get_or (set stamps s.net stamp) x 0) same ∙ get_or-set_same stamps s.net stamp 0 below,
  )
  | inr other ↦ (
      let e = get_or-set_other stamps s.net n stamp 0 other in
      let f = any_more row s n ∙ or_left (list_any (λ x. x == n) (map net_of row)) (list_any (λ x. x == n) (s.net ∷ [])) (one_false s.net n (λ h. other (sym h))) in
      ((λ on. f ∙ (are n).0 (sym e ∙ on)), λ h. e ∙ (are n).1 (sym f ∙ h))
      )
]

not_any : (b : Bool) → (b ≡ true → ⊥) → b ≡ false
not_any true h = absurd (h refl)
not_any false h = refl

not_true : false ≡ true → ⊥
not_true e = cc

pub kept_more : (seats : List Seat) (stamp room i : ℕ) (d : Seat) (row : List Seat) (stamps : List ℕ) → i < length seats → (get_or seats i d).net < room → (get_or stamps (get_or seats i d).net 0 ≡ stamp → ⊥) → AreKeptTo seats stamp room i row stamps
    → AreKeptTo seats stamp room (i + 1) (row ++ get_or seats i d ∷ []) (set stamps (get_or seats i d).net stamp)
kept_more seats stamp room i d row stamps below within new to =
    let s : Seat = get_or seats i d in
    let rest : List Seat = drop (i + 1) seats in
    let long = to.long in
    let none : list_any (λ x. x == (get_or seats i d).net) (map net_of row) ≡ false = not_any (list_any (λ x. x == (get_or seats i d).net) (map net_of row)) (λ e. new ((to.marked (get_or seats i d).net).1 e)) in
    record {
      long = length-set stamps s.net stamp ∙ to.long;
      highest = up_more stamp stamp stamps s.net (omega arith) (omega arith) to.highest;
      marked = marked_more row s stamp stamps (omega arith) to.marked;
      whole =
          append_assoc row (s ∷ []) (fresh (map net_of (row ++ s ∷ [])) rest) ∙
          (ap (λ (xs : List ℕ). row ++ s ∷ fresh xs rest) (map-append net_of row (s ∷ [])) ∙
          (ap (λ (xs : List Seat). row ++ xs) (sym (fresh_new (map net_of row) s rest none)) ∙
          (ap (λ (xs : List Seat). row ++ fresh (map net_of row) xs) (sym (drop_more seats i d below)) ∙ to.whole)));
    }

pub kept_skip : (seats : List Seat) (stamp room i : ℕ) (d : Seat) (row : List Seat) (stamps : List ℕ) → i < length seats → get_or stamps (get_or seats i d).net 0 ≡ stamp → AreKeptTo seats stamp room i row stamps → AreKeptTo seats stamp room (i + 1) row stamps
kept_skip seats stamp room i d row stamps below old to = record {
  long = to.long;
  highest = to.highest;
  marked = to.marked;
  whole =
      ap (λ (xs : List Seat). row ++ xs) (sym (fresh_old (map net_of row) (get_or seats i d) (drop (i + 1) seats) ((to.marked (get_or seats i d).net).0 old))) ∙
      (ap (λ (xs : List Seat). row ++ fresh (map net_of row) xs) (sym (drop_more seats i d below)) ∙ to.whole);
}

-- ---- The rows of all names

-- The names before n have their first seats, and no stamp is over n.
pub record AreFirstTo (lines : List PointLine) (room n : ℕ) (groups : List (List Seat)) (stamps : List ℕ) : Type 0 where
  pub many : length groups ≡ n
  pub long : length stamps ≡ room
  pub highest : AreUpTo n stamps
  pub firsts : (name : ℕ) → name < n → seats_at groups name ≡ fresh [] (seats_from name 0 lines)

pub first_more : (lines : List PointLine) (room n : ℕ) (groups : List (List Seat)) (row all : List Seat) (stamps next : List ℕ) → AreFirstTo lines room n groups stamps → row ≡ fresh [] all → fresh [] all ≡ fresh [] (seats_from n 0 lines) → AreUpTo (n + 1) next → length next ≡ length stamps → AreFirstTo lines room (n + 1) (groups ++ row ∷ []) next
first_more lines room n groups row all stamps next to is seats highest long = record {
  many = length_push groups row ∙ ap (λ (k : ℕ). k + 1) to.many;
  long = long ∙ to.long;
  highest = highest;
  firsts = λ name below. elim (cases_eq name n) [
    | inl same ↦ (
        let at : seats_at (groups ++ row ∷ []) n ≡ row = get_or_push groups row [] n to.many in
        subst (λ (k : ℕ). seats_at (groups ++ row ∷ []) k ≡ fresh [] (seats_from k 0 lines)) (sym same) (at ∙ (is ∙ seats))
        )
    | inr other ↦ (let many = to.many in get_or_append_left groups (row ∷ []) [] name (omega arith) ∙ to.firsts name (omega arith))
  ];
}

pub row_netted : (nets room name : ℕ) (rows own : List (List Seat)) (row : List Seat) (lines : List PointLine) → HaveFirsts own lines → rows ≡ own → row ≡ seats_at rows name → All (λ line. IfSome line.net (λ net. net < nets)) lines → room ≡ nets → All (λ s. s.net < room) row
row_netted nets room name rows own row lines have same is netted long =
    let here : row ≡ seats_at own name = is ∙ ap (λ (xs : List (List Seat)). seats_at xs name) same in
    subst (λ (n : ℕ). All (λ s. s.net < n) row) (sym long) (subst (All (λ s. s.net < nets)) (sym here) (have.within nets netted name))

-- ---- The marks

pub kept_is : (seats : List Seat) (stamp room i : ℕ) (row row' : List Seat) (stamps stamps' : List ℕ) → row' ≡ row → stamps' ≡ stamps → AreKeptTo seats stamp room i row stamps → AreKeptTo seats stamp room i row' stamps'
kept_is seats stamp room i row row' stamps stamps' e f to = subst (λ (r : List Seat). AreKeptTo seats stamp room i r stamps') (sym e) (subst (λ (xs : List ℕ). AreKeptTo seats stamp room i row xs) (sym f) to)

marks_push : (name net : ℕ) (row : List Seat) (s : Seat) → marks_of_seats name net (row ++ s ∷ []) ≡ marks_of_seats name net row ++ mark_of name net s
marks_push name net [] s = append-nil (mark_of name net s)
marks_push name net (t ∷ row) s = ap (λ (xs : List Mark). mark_of name net t ++ xs) (marks_push name net row s) ∙ sym (append_assoc (mark_of name net t) (marks_of_seats name net row) (mark_of name net s))

-- The marks that the seats of a name left on each net.
abbrev pub AreMarksOf : ℕ → List Seat → List (List Mark) → List (List Mark) → Type 0
AreMarksOf name row old table = (net : ℕ) → marks_at table net ≡ marks_at old net ++ marks_of_seats name net row

pub marks_more : (name : ℕ) (row : List Seat) (s : Seat) (old table table' : List (List Mark)) → s.net < length table → table' ≡ set table s.net (marks_at table s.net ++ record { name = name; probe = s.probe } ∷ []) → AreMarksOf name row old table → AreMarksOf name (row ++ s ∷ []) old table'
marks_more name row s old table table' below now are net =
    marked_at table table' name net s below now ∙
    (ap (λ (xs : List Mark). xs ++ mark_of name net s) (are net) ∙ (append_assoc (marks_at old net) (marks_of_seats name net row) (mark_of name net s) ∙ ap (λ (xs : List Mark). marks_at old net ++ xs) (sym (marks_push name net row s))))

pub marks_are : (name : ℕ) (row row' : List Seat) (old table table' : List (List Mark)) → row' ≡ row → table' ≡ table → AreMarksOf name row old table → AreMarksOf name row' old table'
marks_are name row row' old table table' e f are net = ap (λ (xs : List (List Mark)). marks_at xs net) f ∙ (are net ∙ ap (λ (r : List Seat). marks_at old net ++ marks_of_seats name net r) (sym e))

rows_push : (net n : ℕ) (groups : List (List Seat)) (row : List Seat) → marks_from net n (groups ++ row ∷ []) ≡ marks_from net n groups ++ marks_of_seats (n + length groups) net row
rows_push net n [] row = append-nil (marks_of_seats n net row) ∙ ap (λ (k : ℕ). marks_of_seats k net row) (sym (add-zero n))
rows_push net n (g ∷ groups) row =
    let same : n + 1 + length groups ≡ n + suc (length groups) = omega arith in
    ap (λ (xs : List Mark). marks_of_seats n net g ++ xs) (rows_push net (n + 1) groups row ∙ ap (λ (k : ℕ). marks_from net (n + 1) groups ++ marks_of_seats k net row) same) ∙ sym (append_assoc (marks_of_seats n net g) (marks_from net (n + 1) groups) (marks_of_seats (n + suc (length groups)) net row))

-- The marks are those of the groups so far.
abbrev pub AreMarksTo : List (List Seat) → List (List Mark) → Type 0
AreMarksTo groups table = (net : ℕ) → marks_at table net ≡ marks_from net 0 groups

pub rows_more : (groups : List (List Seat)) (row : List Seat) (n : ℕ) (old table : List (List Mark)) → length groups ≡ n → AreMarksTo groups old → AreMarksOf n row old table → AreMarksTo (groups ++ row ∷ []) table
rows_more groups row n old table many before now net =
    let at : n ≡ 0 + length groups = omega arith in
    now net ∙ (ap (λ (xs : List Mark). xs ++ marks_of_seats n net row) (before net) ∙ (ap (λ (k : ℕ). marks_from net 0 groups ++ marks_of_seats k net row) at ∙ sym (rows_push net 0 groups row)))

-- ---- Seats of names

-- The seats so far and what the points from i on add have the first of all seats on each net.
pub record AreSeatedTo (lines : List PointLine) (i : ℕ) (rows : List (List Seat)) : Type 0 where
  pub whole : (name : ℕ) → fresh [] (seats_at rows name ++ seats_from name i (drop i lines)) ≡ fresh [] (seats_from name 0 lines)
  pub within : (nets : ℕ) → All (λ line. IfSome line.net (λ net. net < nets)) lines → (name : ℕ) → All (λ s. s.net < nets) (seats_at rows name)

-- a seat on a net that was seen adds nothing, wherever it stands
fresh_seen : (seen : List ℕ) (row : List Seat) (s : Seat) (rest : List Seat) → list_any (λ n. n == s.net) seen ≡ true → fresh seen (row ++ s ∷ rest) ≡ fresh seen (row ++ rest)
fresh_seen seen [] s rest h = fresh_old seen s rest h
fresh_seen seen (t ∷ row) s rest h = by (list_any (λ n. n == t.net) seen) refl (fresh_seen seen row s rest h) (fresh_seen (seen ++ t.net ∷ []) row s rest more)
  where
    more : list_any (λ n. n == s.net) (seen ++ t.net ∷ []) ≡ true
    more = list_any-append (λ n. n == s.net) seen (t.net ∷ []) ∙ rw h refl

    by : (b : Bool) → list_any (λ n. n == t.net) seen ≡ b → fresh seen (row ++ s ∷ rest) ≡ fresh seen (row ++ rest) → fresh (seen ++ t.net ∷ []) (row ++ s ∷ rest) ≡ fresh (seen ++ t.net ∷ []) (row ++ rest)
        → fresh seen (t ∷ row ++ s ∷ rest) ≡ fresh seen (t ∷ row ++ rest)
    by true e old new = fresh_old seen t (row ++ s ∷ rest) e ∙ (old ∙ sym (fresh_old seen t (row ++ rest) e))
    by false e old new = fresh_new seen t (row ++ s ∷ rest) e ∙ (ap (λ (xs : List Seat). t ∷ xs) new ∙ sym (fresh_new seen t (row ++ rest) e))

fresh_again : (row : List Seat) (s : Seat) (rest : List Seat) → begins_on s.net row ≡ true → fresh [] (row ++ s ∷ rest) ≡ fresh [] (row ++ rest)
fresh_again [] s rest h = absurd (not_true h)
fresh_again (t ∷ row) s rest h = ap (λ (xs : List Seat). t ∷ xs) (fresh_seen (t.net ∷ []) row s rest (rw h refl))

pub seated_skip : (lines : List PointLine) (i : ℕ) (d : PointLine) (rows : List (List Seat)) → i < length lines → (get_or lines i d).net ≡ None → AreSeatedTo lines i rows → AreSeatedTo lines (i + 1) rows
seated_skip lines i d rows below none to = record {
  whole = λ name. ap (λ (xs : List Seat). fresh [] (seats_at rows name ++ xs)) (sym (at_drop_more (seats_from name i) lines i d below ∙ seats_none name i (get_or lines i d) (drop (i + 1) lines) none)) ∙ to.whole name;
  within = to.within;
}

pub seated_more : (lines : List PointLine) (i net : ℕ) (d : PointLine) (rows rows' : List (List Seat)) → i < length lines → (get_or lines i d).net ≡ Some net → Takes (seats_at rows (get_or lines i d).name) (record { net = net; probe = i }) (seats_at rows' (get_or lines i d).name)
    → ((other : ℕ) → (other ≡ (get_or lines i d).name → ⊥) → seats_at rows' other ≡ seats_at rows other) → AreSeatedTo lines i rows → AreSeatedTo lines (i + 1) rows'
seated_more lines i net d rows rows' below on takes others to = record {
  whole = λ name. elim (cases_eq name n) [
    | inl same ↦ subst (λ (k : ℕ). fresh [] (seats_at rows' k ++ seats_from k (i + 1) rest) ≡ fresh [] (seats_from k 0 lines)) (sym same) (whole takes)
    | inr other ↦ ap (λ (xs : List Seat). fresh [] (xs ++ seats_from name (i + 1) rest)) (others name other) ∙ (ap (λ (xs : List Seat). fresh [] (seats_at rows name ++ xs)) (sym (left name other)) ∙ to.whole name)
  ];
  within = λ nets netted name. elim (cases_eq name n) [
    | inl same ↦ subst (λ (k : ℕ). All (λ s. s.net < nets) (seats_at rows' k)) (sym same) (within nets netted takes)
    | inr other ↦ subst (All (λ s. s.net < nets)) (sym (others name other)) (to.within nets netted name)
  ];
}
  where
    n : ℕ
    n = (get_or lines i d).name

    rest : List PointLine
    rest = drop (i + 1) lines

    row : List Seat
    row = seats_at rows n

    s : Seat
    s = record { net = net; probe = i }

    mine : seats_from n i (drop i lines) ≡ s ∷ seats_from n (i + 1) rest
    mine = at_drop_more (seats_from n i) lines i d below ∙ seats_some n i net (get_or lines i d) rest (eq-eqb n n refl) on

    left : (name : ℕ) → (name ≡ n → ⊥) → seats_from name i (drop i lines) ≡ seats_from name (i + 1) rest
    left name other = at_drop_more (seats_from name i) lines i d below ∙ seats_other name i (get_or lines i d) rest (ne_eqb n name (λ e. other (sym e)))

    before : fresh [] (row ++ s ∷ seats_from n (i + 1) rest) ≡ fresh [] (seats_from n 0 lines)
    before = ap (λ (xs : List Seat). fresh [] (row ++ xs)) (sym mine) ∙ to.whole n

    whole : Takes row s (seats_at rows' n) → fresh [] (seats_at rows' n ++ seats_from n (i + 1) rest) ≡ fresh [] (seats_from n 0 lines)
    whole (inl now) = ap (λ (xs : List Seat). fresh [] (xs ++ seats_from n (i + 1) rest)) now ∙ (ap (fresh []) (append_assoc row (s ∷ []) (seats_from n (i + 1) rest)) ∙ before)
    whole (inr (begins, now)) = ap (λ (xs : List Seat). fresh [] (xs ++ seats_from n (i + 1) rest)) now ∙ (sym (fresh_again row s (seats_from n (i + 1) rest) begins) ∙ before)

    lower : (nets : ℕ) → All (λ line. IfSome line.net (λ m. m < nets)) lines → net < nets
    lower nets netted = subst (λ (o : Option ℕ). IfSome o (λ m. m < nets)) on (All-get_or (λ line. IfSome line.net (λ m. m < nets)) lines i d below netted)

    within : (nets : ℕ) → All (λ line. IfSome line.net (λ m. m < nets)) lines → Takes row s (seats_at rows' n) → All (λ s. s.net < nets) (seats_at rows' n)
    within nets netted (inl now) = subst (All (λ s. s.net < nets)) (sym now) (All-push (λ s. s.net < nets) row s (to.within nets netted n) (lower nets netted))
    within nets netted (inr (begins, now)) = subst (All (λ s. s.net < nets)) (sym now) (to.within nets netted n)
