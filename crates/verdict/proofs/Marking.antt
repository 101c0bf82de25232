-- The marks on each net.
use Rattle.std.proofs.Common.{◌≡◌, ℕ, suc, ◌+◌, ◌<◌, Bool, true, false, ◌==◌, ◌&&◌, ◌||◌, if◌then◌else◌, List, [], ◌∷◌, ◌++◌, length, map, set, All, Option, Some, None, inl, inr, refl, sym, ap, ◌∙◌, subst, append-nil, arith}
use Rattle.std.proofs.lemmas.Bool.{cases_eq, eqb-true}
use Rattle.std.proofs.lemmas.Bool.Decides.{nat_tests}
use Rattle.std.proofs.lemmas.List.{get_or-set_other, get_or-set_same, map-append}
use Rattle.std.proofs.lemmas.List.Elements.{All-append, All-cons, All-nil}
use Rattle.std.proofs.lemmas.List.Folds.{list_any-append}
use Rattle.std.specs.List.{list_any}
use Rattle.verdict.specs.declared.verdict.PointLine.{PointLine}
use Rattle.verdict.specs.declared.verdict.Seat.{Seat}
use Rattle.verdict.specs.Right.{first_from, first_on, fresh, is_on, marks, names_on, seats_from, where_some}
use Rattle.verdict.specs.declared.verdict.Mark.{Mark}
use Rattle.verdict.specs.Seats.{AreFirst, AreFirstSeats, AreNamed, IsFirst, mark_name, mark_of, marks_at, marks_from, marks_of_seats, seats_at}
use Rattle.verdict.proofs.Seating.{fresh_new, fresh_old, seats_none, seats_other, seats_some}

-- ---- One mark more

pub same_test : (a b : ℕ) → a ≡ b → (a == b) ≡ true
same_test a b e = grind (arith, nat_tests)

other_test : (a b : ℕ) → (a ≡ b → ⊥) → (a == b) ≡ false
other_test a b e = grind (arith, nat_tests)

mark_here : (name net : ℕ) (s : Seat) → s.net ≡ net → mark_of name net s ≡ record { name = name; probe = s.probe } ∷ []
mark_here name net s e = let t = same_test s.net net e in rw t refl

mark_elsewhere : (name net : ℕ) (s : Seat) → (s.net ≡ net → ⊥) → mark_of name net s ≡ []
mark_elsewhere name net s e = let t = other_test s.net net e in rw t refl

pub marked_at : (table table' : List (List Mark)) (name net : ℕ) (s : Seat) → s.net < length table → table' ≡ set table s.net (marks_at table s.net ++ record { name = name; probe = s.probe } ∷ []) → marks_at table' net ≡ marks_at table net ++ mark_of name net s
marked_at table table' name net s below now =
    let m : Mark = record { name = name; probe = s.probe } in
    elim (cases_eq net s.net) [
      | inl same ↦ ap (λ (xs : List (List Mark)). marks_at xs net) now ∙ (ap (λ (k : ℕ). marks_at (set table s.net (marks_at table s.net ++ m ∷ [])) k) same ∙ (get_or-set_same table s.net (marks_at table s.net ++ m ∷ []) [] below ∙
          (ap (λ (k : ℕ). marks_at table k ++ m ∷ []) (sym same) ∙ ap (λ (xs : List Mark). marks_at table net ++ xs) (sym (mark_here name net s (sym same))))))
      | inr other ↦ ap (λ (xs : List (List Mark)). marks_at xs net) now ∙ (get_or-set_other table s.net net (marks_at table s.net ++ m ∷ []) [] other ∙
          (sym (append-nil (marks_at table net)) ∙ ap (λ (xs : List Mark). marks_at table net ++ xs) (sym (mark_elsewhere name net s (λ e. other (sym e))))))
    ]

-- ---- The marks on a net are the names there, each with its first point

-- the mark of a name with its first point
abbrev pub mark_where : ℕ → Option ℕ → List Mark
mark_where name None = []
mark_where name (Some probe) = record { name = name; probe = probe } ∷ []

-- where the net was seen, nothing
abbrev unless_seen : Bool → List Mark → List Mark
unless_seen true ms = []
unless_seen false ms = ms

seen_more : (seen : List ℕ) (net m : ℕ) → list_any (λ n. n == net) (seen ++ m ∷ []) ≡ (list_any (λ n. n == net) seen || (m == net))
seen_more seen net m = list_any-append (λ n. n == net) seen (m ∷ []) ∙ ap (λ (b : Bool). list_any (λ n. n == net) seen || b) (or_false (m == net)) where
  or_false : (b : Bool) → (b || false) ≡ b
  or_false true = refl
  or_false false = refl

pub first_other : (net name n : ℕ) (line : PointLine) (lines : List PointLine) → marks net name line ≡ false → first_from net name n (line ∷ lines) ≡ first_from net name (n + 1) lines
first_other net name n line lines e = rw e refl

pub first_here : (net name n : ℕ) (line : PointLine) (lines : List PointLine) → marks net name line ≡ true → first_from net name n (line ∷ lines) ≡ Some n
first_here net name n line lines e = rw e refl

-- what the line at hand does: the marks of the first seats of the rest are known
abbrev GivesFirst : ℕ → ℕ → ℕ → List PointLine → Type 0
GivesFirst net name n lines = (seen : List ℕ) → marks_of_seats name net (fresh seen (seats_from name n lines)) ≡ unless_seen (list_any (λ k. k == net) seen) (mark_where name (first_from net name n lines))

skips : (net name n : ℕ) (line : PointLine) (lines : List PointLine) → seats_from name n (line ∷ lines) ≡ seats_from name (n + 1) lines → marks net name line ≡ false → GivesFirst net name (n + 1) lines → GivesFirst net name n (line ∷ lines)
skips net name n line lines same none rest seen =
    ap (λ (xs : List Seat). marks_of_seats name net (fresh seen xs)) same ∙ (rest seen ∙ ap (λ (o : Option ℕ). unless_seen (list_any (λ k. k == net) seen) (mark_where name o)) (sym (first_other net name n line lines none)))

or_left : (b : Bool) → (b || true) ≡ true
or_left true = refl
or_left false = refl

or_right : (b : Bool) → (b || false) ≡ b
or_right true = refl
or_right false = refl

takes : (net name n m : ℕ) (line : PointLine) (lines : List PointLine) → (line.name == name) ≡ true → line.net ≡ Some m → GivesFirst net name (n + 1) lines → GivesFirst net name n (line ∷ lines)
takes net name n m line lines here on rest seen =
    ap (λ (xs : List Seat). marks_of_seats name net (fresh seen xs)) (seats_some name n m line lines here on) ∙ by (list_any (λ k. k == m) seen) refl (m == net) refl
  where
    s : Seat
    s = record { net = m; probe = n }

    tail : List Seat
    tail = seats_from name (n + 1) lines

    marked : (b : Bool) → (m == net) ≡ b → marks net name line ≡ b
    marked b e = ap (λ (x : Bool). x && is_on line.net net) here ∙ (ap (λ (o : Option ℕ). is_on o net) on ∙ e)

    whole : (b : Bool) → (m == net) ≡ b → first_from net name n (line ∷ lines) ≡ (if b then Some n else first_from net name (n + 1) lines)
    whole true e = first_here net name n line lines (marked true e)
    whole false e = first_other net name n line lines (marked false e)

    by : (old : Bool) → list_any (λ k. k == m) seen ≡ old → (mine : Bool) → (m == net) ≡ mine → marks_of_seats name net (fresh seen (s ∷ tail)) ≡ unless_seen (list_any (λ k. k == net) seen) (mark_where name (first_from net name n (line ∷ lines)))
    by true was true mine =
        let there : list_any (λ k. k == net) seen ≡ true = ap (λ (x : ℕ). list_any (λ k. k == x) seen) (sym (eqb-true m net mine)) ∙ was in
        ap (marks_of_seats name net) (fresh_old seen s tail was) ∙ (rest seen ∙
        (ap (λ (b : Bool). unless_seen b (mark_where name (first_from net name (n + 1) lines))) there ∙ ap (λ (b : Bool). unless_seen b (mark_where name (first_from net name n (line ∷ lines)))) (sym there)))
    by true was false mine = ap (marks_of_seats name net) (fresh_old seen s tail was) ∙ (rest seen ∙ ap (λ (o : Option ℕ). unless_seen (list_any (λ k. k == net) seen) (mark_where name o)) (sym (whole false mine)))
    by false was true mine =
        let there : list_any (λ k. k == net) seen ≡ false = ap (λ (x : ℕ). list_any (λ k. k == x) seen) (sym (eqb-true m net mine)) ∙ was in
        let more : list_any (λ k. k == net) (seen ++ m ∷ []) ≡ true = seen_more seen net m ∙ (ap (λ (b : Bool). list_any (λ k. k == net) seen || b) mine ∙ or_left (list_any (λ k. k == net) seen)) in
        ap (marks_of_seats name net) (fresh_new seen s tail was) ∙
        (ap (λ (xs : List Mark). xs ++ marks_of_seats name net (fresh (seen ++ m ∷ []) tail)) (mark_here name net s (eqb-true m net mine)) ∙
        (ap (λ (xs : List Mark). record { name = name; probe = n } ∷ xs) (rest (seen ++ m ∷ []) ∙ ap (λ (b : Bool). unless_seen b (mark_where name (first_from net name (n + 1) lines))) more) ∙
        (ap (λ (o : Option ℕ). mark_where name o) (sym (whole true mine)) ∙ ap (λ (b : Bool). unless_seen b (mark_where name (first_from net name n (line ∷ lines)))) (sym there))))
    by false was false mine =
        let more : list_any (λ k. k == net) (seen ++ m ∷ []) ≡ list_any (λ k. k == net) seen = seen_more seen net m ∙ (ap (λ (b : Bool). list_any (λ k. k == net) seen || b) mine ∙ or_right (list_any (λ k. k == net) seen)) in
        ap (marks_of_seats name net) (fresh_new seen s tail was) ∙
        (ap (λ (b : Bool). (if b then record { name = name; probe = n } ∷ [] else []) ++ marks_of_seats name net (fresh (seen ++ m ∷ []) tail)) mine ∙
        (rest (seen ++ m ∷ []) ∙
        (ap (λ (b : Bool). unless_seen b (mark_where name (first_from net name (n + 1) lines))) more ∙ ap (λ (o : Option ℕ). unless_seen (list_any (λ k. k == net) seen) (mark_where name o)) (sym (whole false mine)))))

and_false : (a : Bool) → (a && false) ≡ false
and_false true = refl
and_false false = refl

gives_first : (net name n : ℕ) (lines : List PointLine) → GivesFirst net name n lines
gives_first net name n [] = λ seen. nothing (list_any (λ k. k == net) seen) where
  nothing : (b : Bool) → [] ≡ unless_seen b []
  nothing true = refl
  nothing false = refl
gives_first net name n (line ∷ lines) = by (line.name == name) refl line.net refl (gives_first net name (n + 1) lines) where
  by : (b : Bool) → (line.name == name) ≡ b → (o : Option ℕ) → line.net ≡ o → GivesFirst net name (n + 1) lines → GivesFirst net name n (line ∷ lines)
  by false e o on rest = skips net name n line lines (seats_other name n line lines e) (ap (λ (b : Bool). b && is_on line.net net) e) rest
  by true e None on rest = skips net name n line lines (seats_none name n line lines on) (ap (λ (o : Option ℕ). (line.name == name) && is_on o net) on ∙ and_false (line.name == name)) rest
  by true e (Some m) on rest = takes net name n m line lines e on rest

name_where : (name : ℕ) (o : Option ℕ) → map mark_name (mark_where name o) ≡ where_some o name
name_where name None = refl
name_where name (Some probe) = refl

first_where : (net name : ℕ) (lines : List PointLine) (o : Option ℕ) → first_on net name lines ≡ o → All (IsFirst net lines) (mark_where name o)
first_where net name lines None e = All-nil (IsFirst net lines)
first_where net name lines (Some probe) e = All-cons (IsFirst net lines) (record { name = name; probe = probe }) [] e (All-nil (IsFirst net lines))

-- the groups of the names from k on are their first seats
abbrev AreFirstFrom : ℕ → List (List Seat) → List PointLine → Type 0
AreFirstFrom k groups lines = (j : ℕ) → j < length groups → seats_at groups j ≡ fresh [] (seats_from (k + j) 0 lines)

head_marks : (net k : ℕ) (seats : List Seat) (rest : List (List Seat)) (lines : List PointLine) → AreFirstFrom k (seats ∷ rest) lines → marks_of_seats k net seats ≡ mark_where k (first_on net k lines)
head_marks net k seats rest lines firsts =
    let here : k + 0 ≡ k = omega arith in
    ap (marks_of_seats k net) (firsts 0 (omega arith) ∙ ap (λ (j : ℕ). fresh [] (seats_from j 0 lines)) here) ∙ gives_first net k 0 lines []

tail_firsts : (k : ℕ) (seats : List Seat) (rest : List (List Seat)) (lines : List PointLine) → AreFirstFrom k (seats ∷ rest) lines → AreFirstFrom (k + 1) rest lines
tail_firsts k seats rest lines firsts j below = let same : k + suc j ≡ k + 1 + j = omega arith in firsts (suc j) (omega arith) ∙ ap (λ (i : ℕ). fresh [] (seats_from i 0 lines)) same

named_from : (net k : ℕ) (groups : List (List Seat)) (names : List (List ℕ)) (lines : List PointLine) → length groups ≡ length names → AreFirstFrom k groups lines → map mark_name (marks_from net k groups) ≡ names_on net k names lines
named_from net k [] [] lines long firsts = refl
named_from net k [] (name ∷ names) lines long firsts = absurd (omega arith)
named_from net k (seats ∷ rest) [] lines long firsts = absurd (omega arith)
named_from net k (seats ∷ rest) (name ∷ names) lines long firsts =
    let more = named_from net (k + 1) rest names lines (omega arith) (tail_firsts k seats rest lines firsts) in
    map-append mark_name (marks_of_seats k net seats) (marks_from net (k + 1) rest) ∙
    (ap (λ (xs : List ℕ). xs ++ map mark_name (marks_from net (k + 1) rest)) (ap (map mark_name) (head_marks net k seats rest lines firsts) ∙ name_where k (first_on net k lines)) ∙
    ap (λ (xs : List ℕ). where_some (first_on net k lines) k ++ xs) more)

first_marks : (net k : ℕ) (groups : List (List Seat)) (lines : List PointLine) → AreFirstFrom k groups lines → All (IsFirst net lines) (marks_from net k groups)
first_marks net k [] lines firsts = All-nil (IsFirst net lines)
first_marks net k (seats ∷ rest) lines firsts =
    All-append (IsFirst net lines) (marks_of_seats k net seats) (marks_from net (k + 1) rest) (subst (All (IsFirst net lines)) (sym (head_marks net k seats rest lines firsts)) (first_where net k lines (first_on net k lines) refl))
    (first_marks net (k + 1) rest lines (tail_firsts k seats rest lines firsts))

from_start : (groups : List (List Seat)) (lines : List PointLine) → AreFirstSeats groups lines → AreFirstFrom 0 groups lines
from_start groups lines firsts j below = let same : j ≡ 0 + j = omega arith in firsts j below ∙ ap (λ (i : ℕ). fresh [] (seats_from i 0 lines)) same

pub are_named : (net : ℕ) (groups : List (List Seat)) (names : List (List ℕ)) (lines : List PointLine) → length groups ≡ length names → AreFirstSeats groups lines → map mark_name (marks_from net 0 groups) ≡ names_on net 0 names lines
are_named net groups names lines long firsts = named_from net 0 groups names lines long (from_start groups lines firsts)

pub are_first : (net : ℕ) (groups : List (List Seat)) (lines : List PointLine) → AreFirstSeats groups lines → All (IsFirst net lines) (marks_from net 0 groups)
are_first net groups lines firsts = first_marks net 0 groups lines (from_start groups lines firsts)

pub table_named : (nets : ℕ) (table : List (List Mark)) (groups : List (List Seat)) (names : List (List ℕ)) (lines : List PointLine) → length table ≡ nets → ((net : ℕ) → net < nets → marks_at table net ≡ marks_from net 0 groups) → length groups ≡ length names → AreFirstSeats groups lines → AreNamed names lines table
table_named nets table groups names lines many made long firsts net below = ap (map mark_name) (made net (omega arith)) ∙ are_named net groups names lines long firsts

pub table_first : (nets : ℕ) (table : List (List Mark)) (groups : List (List Seat)) (lines : List PointLine) → length table ≡ nets → ((net : ℕ) → net < nets → marks_at table net ≡ marks_from net 0 groups) → AreFirstSeats groups lines → AreFirst lines table
table_first nets table groups lines many made firsts net below = subst (All (IsFirst net lines)) (sym (made net (omega arith))) (are_first net groups lines firsts)
