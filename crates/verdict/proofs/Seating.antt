-- The first seat of each name on each net.
use Rattle.std.proofs.Common.{◌≡◌, ℕ, ◌+◌, ◌<◌, Bool, true, false, ◌==◌, if◌then◌else◌, List, [], ◌∷◌, ◌++◌, length, All, IfSome, Option, Some, None, refl, sym, ap, ◌∙◌, subst}
use Rattle.std.proofs.lemmas.List.Elements.{All-append, All-cons, All-head, All-nil, All-tail}
use Rattle.std.specs.List.{list_any}
use Rattle.verdict.specs.declared.verdict.PointLine.{PointLine}
use Rattle.verdict.specs.declared.verdict.Seat.{Seat}
use Rattle.verdict.specs.Right.{fresh, seat, seats_from}
use Rattle.verdict.specs.Seats.{AreFirstSeats, seats_at}

pub fresh_new : (seen : List ℕ) (s : Seat) (rest : List Seat) → list_any (λ net. net == s.net) seen ≡ false → fresh seen (s ∷ rest) ≡ s ∷ fresh (seen ++ s.net ∷ []) rest
fresh_new seen s rest e = rw e refl

pub fresh_old : (seen : List ℕ) (s : Seat) (rest : List Seat) → list_any (λ net. net == s.net) seen ≡ true → fresh seen (s ∷ rest) ≡ fresh seen rest
fresh_old seen s rest e = rw e refl

-- ---- What a line gives

pub seats_other : (name n : ℕ) (line : PointLine) (lines : List PointLine) → (line.name == name) ≡ false → seats_from name n (line ∷ lines) ≡ seats_from name (n + 1) lines
seats_other name n line lines e = rw e refl

none_either : (b : Bool) (n : ℕ) → (if b then seat None n else []) ≡ []
none_either true n = refl
none_either false n = refl

pub seats_none : (name n : ℕ) (line : PointLine) (lines : List PointLine) → line.net ≡ None → seats_from name n (line ∷ lines) ≡ seats_from name (n + 1) lines
seats_none name n line lines e = ap (λ (o : Option ℕ). (if line.name == name then seat o n else []) ++ seats_from name (n + 1) lines) e ∙ ap (λ (xs : List Seat). xs ++ seats_from name (n + 1) lines) (none_either (line.name == name) n)

pub seats_some : (name n net : ℕ) (line : PointLine) (lines : List PointLine) → (line.name == name) ≡ true → line.net ≡ Some net → seats_from name n (line ∷ lines) ≡ record { net = net; probe = n } ∷ seats_from name (n + 1) lines
seats_some name n net line lines same e = ap (λ (b : Bool). (if b then seat line.net n else []) ++ seats_from name (n + 1) lines) same ∙ ap (λ (o : Option ℕ). seat o n ++ seats_from name (n + 1) lines) e

-- ---- Nets of seats

pub fresh_within : (P : Seat → Type 0) (seen : List ℕ) (seats : List Seat) → All P seats → All P (fresh seen seats)
fresh_within P seen [] all = All-nil P
fresh_within P seen (s ∷ rest) all = by (list_any (λ net. net == s.net) seen) refl (fresh_within P seen rest (All-tail P s rest all)) (fresh_within P (seen ++ s.net ∷ []) rest (All-tail P s rest all)) where
  by : (b : Bool) → list_any (λ net. net == s.net) seen ≡ b → All P (fresh seen rest) → All P (fresh (seen ++ s.net ∷ []) rest) → All P (fresh seen (s ∷ rest))
  by true e old new = subst (All P) (sym (fresh_old seen s rest e)) old
  by false e old new = subst (All P) (sym (fresh_new seen s rest e)) (All-cons P s (fresh (seen ++ s.net ∷ []) rest) (All-head P s rest all) new)

pub seats_within : (nets name n : ℕ) (lines : List PointLine) → All (λ line. IfSome line.net (λ net. net < nets)) lines → All (λ s. s.net < nets) (seats_from name n lines)
seats_within nets name n [] all = All-nil (λ s. s.net < nets)
seats_within nets name n (line ∷ lines) all =
    All-append (λ s. s.net < nets) (if line.name == name then seat line.net n else []) (seats_from name (n + 1) lines) (by (line.name == name) line.net (All-head (λ l. IfSome l.net (λ net. net < nets)) line lines all))
    (seats_within nets name (n + 1) lines (All-tail (λ l. IfSome l.net (λ net. net < nets)) line lines all))
  where
    by : (b : Bool) (o : Option ℕ) → IfSome o (λ net. net < nets) → All (λ s. s.net < nets) (if b then seat o n else [])
    by true None h = All-nil (λ s. s.net < nets)
    by true (Some net) h = All-cons (λ s. s.net < nets) (record { net = net; probe = n }) [] h (All-nil (λ s. s.net < nets))
    by false o h = All-nil (λ s. s.net < nets)

pub seats_netted : (nets : ℕ) (groups : List (List Seat)) (lines : List PointLine) → AreFirstSeats groups lines → All (λ line. IfSome line.net (λ net. net < nets)) lines → (name : ℕ) → name < length groups → All (λ s. s.net < nets) (seats_at groups name)
seats_netted nets groups lines firsts all name below = subst (All (λ s. s.net < nets)) (sym (firsts name below)) (fresh_within (λ s. s.net < nets) [] (seats_from name 0 lines) (seats_within nets name 0 lines all))
