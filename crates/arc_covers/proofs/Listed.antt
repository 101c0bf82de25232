-- What the lists of a right verdict say of its test points.
use Rattle.std.proofs.Common.{◌≡◌, ◌⊎◌, inl, inr, ℕ, zero, suc, ◌+◌, ◌<◌, ◌≤◌, Bool, true, false, ◌==◌, ◌||◌, ◌&&◌, if◌then◌else◌, List, [], ◌∷◌, ◌++◌, length, map, All, Contains, Option, option_map, Some, None, slice_get, refl, sym, ap, ◌∙◌, subst, arith}
use Rattle.std.specs.List.{list_any}
use Rattle.std.proofs.lemmas.Bool.{eqb-false, eqb-true}
use Rattle.std.proofs.lemmas.List.{length-map}
use Rattle.std.proofs.lemmas.List.Elements.{All-append, All-cons, All-contains, All-head, All-nil, All-tail, Contains-append_cases, Contains-append_right}
use Rattle.std.proofs.lemmas.List.Folds.{list_any-append}
use Rattle.std.proofs.lemmas.Option.{same_Some, slice_get-map}
use Rattle.tables.specs.Tables.{Tables}
use Rattle.verdict.specs.Right.{AreBranches, Bare, BeginsBeneath, Branches, HasBranches, IsRight, Opens, Outline, Shorts, all_opens, all_shorts, bare_from, first_from, first_on, fresh, is_on, is_unconnected, marks, names_on, opens_against, opens_of, outline, seats_from, short_of, where_some}
use Rattle.verdict.specs.Forest.{first_piece}
use Rattle.verdict.specs.declared.verdict.Branch.{Branch}
use Rattle.verdict.specs.declared.verdict.Open.{Open}
use Rattle.verdict.specs.declared.verdict.PointLine.{PointLine}
use Rattle.verdict.specs.declared.verdict.Seat.{Seat}
use Rattle.verdict.specs.declared.verdict.Short.{Short}
use Rattle.verdict.specs.declared.verdict.Twig.{Twig}
use Rattle.verdict.specs.declared.verdict.Verdict.{Verdict}
use Rattle.verdict.proofs.Holding.{one_of}
use Rattle.verdict.proofs.Seating.{fresh_new, fresh_old, seats_none, seats_other, seats_some}
use Rattle.verdict.proofs.Marking.{first_other, first_here}
use Rattle.witness_check.specs.Laws.{IsSeated, IsWithoutNet}
use Rattle.witness_check.proofs.Bare.{opened_some, opened_none}
use Rattle.witness_check.proofs.Naming.{none_cons}

-- test point k has the name, and is on the net
abbrev IsAt : List PointLine → ℕ → ℕ → ℕ → Type 0
IsAt lines name net k = (line : PointLine) × (slice_get lines k ≡ Some line) × (line.name ≡ name) × (line.net ≡ Some net)

none_is_some : (net : ℕ) → None ≡ Some net → ⊥
none_is_some net e = cc

not_both : true ≡ false → ⊥
not_both e = cc

-- ---- Missing points

-- the line of point k, of lines from point n on, has no net
abbrev IsBareAt : ℕ → List PointLine → ℕ → Type 0
IsBareAt n lines k = (j : ℕ) × (k ≡ n + j) × (line : PointLine) × (slice_get lines j ≡ Some line) × (line.net ≡ None)

bare_at : (n : ℕ) (lines : List PointLine) (k : ℕ) → Contains (bare_from n lines) k → IsBareAt n lines k
bare_at n [] k (i, below, same) = absurd (omega arith)
bare_at n (l ∷ lines) k inside = by l.net refl (bare_at (n + 1) lines k) where
  later : IsBareAt (n + 1) lines k → IsBareAt n (l ∷ lines) k
  later (j, at, line, there, none) = (suc j, omega arith, line, there, none)

  by : (o : Option ℕ) → l.net ≡ o → (Contains (bare_from (n + 1) lines) k → IsBareAt (n + 1) lines k) → IsBareAt n (l ∷ lines) k
  by None e more = elim (Contains-append_cases (n ∷ []) (bare_from (n + 1) lines) k (subst (λ (xs : List ℕ). Contains xs k) (opened_none n l lines e) inside)) [
    | inl here ↦ (let same = one_of n k here in (0, omega arith, l, refl, e))
    | inr further ↦ later (more further)
  ]
  by (Some m) e more = later (more (subst (λ (xs : List ℕ). Contains xs k) (opened_some n m l lines e) inside))

pub bare_said : (board : Tables) (v : Verdict) → IsRight board v → (k : ℕ) → Contains v.bare k → IsWithoutNet v k
bare_said board v right k inside =
    let r = bare_at 0 v.points k (subst (λ (xs : List ℕ). Contains xs k) (right Bare) inside) in
    let at = r.1 in
    let same : r.0 ≡ k = omega arith in
    (r.2, subst (λ (j : ℕ). slice_get v.points j ≡ Some r.2) same r.3, r.4)

-- ---- Opens

neither : (a b : Bool) → (a || b) ≡ false → (a ≡ false) × (b ≡ false)
neither true b e = absurd (not_both e)
neither false b e = (refl, e)

unseen : (seen : List ℕ) (m net : ℕ) → list_any (λ x. x == net) (seen ++ m ∷ []) ≡ false → (list_any (λ x. x == net) seen ≡ false) × (m ≡ net → ⊥)
unseen seen m net e =
    let h = neither (list_any (λ x. x == net) seen) (list_any (λ x. x == net) (m ∷ [])) (sym (list_any-append (λ x. x == net) seen (m ∷ [])) ∙ e) in
    (h.0, eqb-false m net (neither (m == net) false h.1).0)

-- The seat is of the first point of its name on its net, of lines from point n on; its net was not seen.
record IsFirstSeat (name n : ℕ) (lines : List PointLine) (seen : List ℕ) (s : Seat) : Type 0 where
  pub place : ℕ
  pub line : PointLine
  pub at : s.probe ≡ n + place
  pub there : slice_get lines place ≡ Some line
  pub named : line.name ≡ name
  pub net : line.net ≡ Some s.net
  pub new : list_any (λ x. x == s.net) seen ≡ false
  pub before : (j : ℕ) (l : PointLine) → j < place → slice_get lines j ≡ Some l → l.name ≡ name → l.net ≡ Some s.net → ⊥

later_seat : (name n : ℕ) (l : PointLine) (lines : List PointLine) (seen old : List ℕ) (s : Seat) → (l.name ≡ name → l.net ≡ Some s.net → ⊥) → list_any (λ x. x == s.net) seen ≡ false → IsFirstSeat name (n + 1) lines old s → IsFirstSeat name n (l ∷ lines) seen s
later_seat name n l lines seen old s not new f = record { place = suc f.place; line = f.line; at = (let a = f.at in omega arith); there = f.there; named = f.named; net = f.net; new = new; before = earlier } where
  earlier : (j : ℕ) (x : PointLine) → j < suc f.place → slice_get (l ∷ lines) j ≡ Some x → x.name ≡ name → x.net ≡ Some s.net → ⊥
  earlier zero x below there named on = let same = same_Some l x there in not (ap (λ (y : PointLine). y.name) same ∙ named) (ap (λ (y : PointLine). y.net) same ∙ on)
  earlier (suc j) x below there named on = f.before j x (omega arith) there named on

first_seat : (name n : ℕ) (lines : List PointLine) (seen : List ℕ) (s : Seat) → Contains (fresh seen (seats_from name n lines)) s → IsFirstSeat name n lines seen s
first_seat name n [] seen s (i, below, same) = absurd (omega arith)
first_seat name n (l ∷ lines) seen s inside = by (l.name == name) refl l.net refl (first_seat name (n + 1) lines) where
  tail : List Seat
  tail = seats_from name (n + 1) lines

  on_net : (m : ℕ) → (l.name == name) ≡ true → l.net ≡ Some m → ((old : List ℕ) (s : Seat) → Contains (fresh old tail) s → IsFirstSeat name (n + 1) lines old s)
      → (b : Bool) → list_any (λ x. x == m) seen ≡ b → Contains (fresh seen (record { net = m; probe = n } ∷ tail)) s → IsFirstSeat name n (l ∷ lines) seen s
  on_net m e f more true old h =
      let g = more seen s (subst (λ (xs : List Seat). Contains xs s) (fresh_old seen (record { net = m; probe = n }) tail old) h) in
      later_seat name n l lines seen seen s (λ named on. not_both (sym old ∙ (ap (λ (y : ℕ). list_any (λ x. x == y) seen) (same_Some m s.net (sym f ∙ on)) ∙ g.new))) g.new g
  on_net m e f more false new h = elim (Contains-append_cases (record { net = m; probe = n } ∷ []) (fresh (seen ++ m ∷ []) tail) s (subst (λ (xs : List Seat). Contains xs s) (fresh_new seen (record { net = m; probe = n }) tail new) h)) [
    | inl here ↦ subst (IsFirstSeat name n (l ∷ lines) seen) (one_of (record { net = m; probe = n }) s here)
        (record { place = 0; line = l; at = omega arith; there = refl; named = eqb-true l.name name e; net = f; new = new; before = λ j x below there named on. absurd (omega arith) })
    | inr further ↦ (
        let g = more (seen ++ m ∷ []) s further in
        let both = unseen seen m s.net g.new in
        later_seat name n l lines seen (seen ++ m ∷ []) s (λ named on. both.1 (same_Some m s.net (sym f ∙ on))) both.0 g
        )
  ]

  by : (b : Bool) → (l.name == name) ≡ b → (o : Option ℕ) → l.net ≡ o → ((old : List ℕ) (s : Seat) → Contains (fresh old tail) s → IsFirstSeat name (n + 1) lines old s) → IsFirstSeat name n (l ∷ lines) seen s
  by false e o f more = let g = more seen s (subst (λ (xs : List Seat). Contains (fresh seen xs) s) (seats_other name n l lines e) inside) in later_seat name n l lines seen seen s (λ named on. eqb-false l.name name e named) g.new g
  by true e None f more = let g = more seen s (subst (λ (xs : List Seat). Contains (fresh seen xs) s) (seats_none name n l lines f) inside) in later_seat name n l lines seen seen s (λ named on. none_is_some s.net (sym f ∙ on)) g.new g
  by true e (Some m) f more = on_net m e f more (list_any (λ x. x == m) seen) refl (subst (λ (xs : List Seat). Contains (fresh seen xs) s) (seats_some name n m l lines e f) inside)

head_is : (s t : Seat) (xs ys : List Seat) → s ∷ xs ≡ t ∷ ys → s ≡ t
head_is s t xs ys e = cc

tail_is : (s t : Seat) (xs ys : List Seat) → s ∷ xs ≡ t ∷ ys → xs ≡ ys
tail_is s t xs ys e = cc

-- the first of these seats is of an earlier point than the others
after_home : (name n : ℕ) (lines : List PointLine) (seen : List ℕ) (home : Seat) (rest : List Seat) → fresh seen (seats_from name n lines) ≡ home ∷ rest → (s : Seat) → Contains rest s → home.probe < s.probe
after_home name n [] seen home rest e s inside = absurd (none_cons home rest e)
after_home name n (l ∷ lines) seen home rest e s inside = by (l.name == name) refl l.net refl (after_home name (n + 1) lines) where
  tail : List Seat
  tail = seats_from name (n + 1) lines

  on_net : (m : ℕ) → ((old : List ℕ) (home : Seat) (rest : List Seat) → fresh old tail ≡ home ∷ rest → (s : Seat) → Contains rest s → home.probe < s.probe)
      → (b : Bool) → list_any (λ x. x == m) seen ≡ b → fresh seen (record { net = m; probe = n } ∷ tail) ≡ home ∷ rest → home.probe < s.probe
  on_net m more true old h = more seen home rest (sym (fresh_old seen (record { net = m; probe = n }) tail old) ∙ h) s inside
  on_net m more false new h =
      let same : record { net = m; probe = n } ∷ fresh (seen ++ m ∷ []) tail ≡ home ∷ rest = sym (fresh_new seen (record { net = m; probe = n }) tail new) ∙ h in
      let first : n ≡ home.probe = ap (λ (x : Seat). x.probe) (head_is (record { net = m; probe = n }) home (fresh (seen ++ m ∷ []) tail) rest same) in
      let g = first_seat name (n + 1) lines (seen ++ m ∷ []) s (subst (λ (xs : List Seat). Contains xs s) (sym (tail_is (record { net = m; probe = n }) home (fresh (seen ++ m ∷ []) tail) rest same)) inside) in
      let at = g.at in
      omega arith

  by : (b : Bool) → (l.name == name) ≡ b → (o : Option ℕ) → l.net ≡ o → ((old : List ℕ) (home : Seat) (rest : List Seat) → fresh old tail ≡ home ∷ rest → (s : Seat) → Contains rest s → home.probe < s.probe) → home.probe < s.probe
  by false t o f more = more seen home rest (ap (fresh seen) (sym (seats_other name n l lines t)) ∙ e) s inside
  by true t None f more = more seen home rest (ap (fresh seen) (sym (seats_none name n l lines f)) ∙ e) s inside
  by true t (Some m) f more = on_net m more (list_any (λ x. x == m) seen) refl (ap (fresh seen) (sym (seats_some name n m l lines t f)) ∙ e)

of_map : {X Y : Type 0} (f : X → Y) (xs : List X) (y : Y) → Contains (map f xs) y → (x : X) × Contains xs x × (f x ≡ y)
of_map f [] y (k, below, same) = absurd (omega arith)
of_map f (x ∷ xs) y (zero, below, same) = (x, (0, omega arith, refl), same)
of_map f (x ∷ xs) y (suc k, below, same) = let r = of_map f xs y (k, omega arith, same) in (r.0, Contains-append_right (x ∷ []) xs r.0 r.1, r.2)

-- The point of the open is on a net, an earlier point of its name on another, and none such on this.
pub record IsListed (lines : List PointLine) (o : Open) : Type 0 where
  pub net : ℕ
  pub seated : IsAt lines o.name net o.probe
  pub earlier : (k : ℕ) × (other : ℕ) × (k < o.probe) × IsAt lines o.name other k
  pub before : (k : ℕ) → k < o.probe → IsAt lines o.name net k → ⊥

seat_at : (name : ℕ) (lines : List PointLine) (s : Seat) → IsFirstSeat name 0 lines [] s → IsAt lines name s.net s.probe
seat_at name lines s f =
    let at = f.at in
    let same : f.place ≡ s.probe = omega arith in
    (f.line, subst (λ (k : ℕ). slice_get lines k ≡ Some f.line) same f.there, f.named, f.net)

open_at : (name : ℕ) (lines : List PointLine) (firsts : List Seat) → firsts ≡ fresh [] (seats_from name 0 lines) → (o : Open) → Contains (opens_against name firsts) o → (o.name ≡ name) × IsListed lines o
open_at name lines [] e o (k, below, same) = absurd (omega arith)
open_at name lines (home ∷ rest) e o inside =
    let r = of_map (λ (s : Seat). let x : Open = record { name = name; home = home.net; other = s.net; probe = s.probe } in x) rest o inside in
    let s : Seat = r.0 in
    let mine = first_seat name 0 lines [] s (subst (λ (xs : List Seat). Contains xs s) e (Contains-append_right (home ∷ []) rest s r.1)) in
    let its = first_seat name 0 lines [] home (subst (λ (xs : List Seat). Contains xs home) e (0, omega arith, refl)) in
    let at = mine.at in
    subst (λ (x : Open). (x.name ≡ name) × IsListed lines x) r.2 (
      refl,
      record {
        net = s.net;
        seated = seat_at name lines s mine;
        earlier = (home.probe, home.net, after_home name 0 lines [] home rest (sym e) s r.1, seat_at name lines home its);
        before = λ k below is. mine.before k is.0 (omega arith) is.1 is.2 is.3;
      },
    )

-- The open is of a name other than `N/C`, of names from name n on.
pub record IsOfName (names : List (List ℕ)) (n : ℕ) (lines : List PointLine) (o : Open) : Type 0 where
  pub place : ℕ
  pub text : List ℕ
  pub at : o.name ≡ n + place
  pub there : slice_get names place ≡ Some text
  pub connected : is_unconnected text ≡ false
  pub listed : IsListed lines o

in_names : (n : ℕ) (names : List (List ℕ)) (lines : List PointLine) (o : Open) → Contains (all_opens n names lines) o → IsOfName names n lines o
in_names n [] lines o (k, below, same) = absurd (omega arith)
in_names n (t ∷ names) lines o inside = by (is_unconnected t) refl (in_names (n + 1) names lines o) (Contains-append_cases (if is_unconnected t then [] else opens_of n lines) (all_opens (n + 1) names lines) o inside) where
  here_is : Bool → Type 0
  here_is b = Contains (if b then [] else opens_of n lines) o

  mine : (b : Bool) → is_unconnected t ≡ b → here_is b → IsOfName (t ∷ names) n lines o
  mine true e (k, below, same) = absurd (omega arith)
  mine false e here = let r = open_at n lines (fresh [] (seats_from n 0 lines)) refl o here in let named = r.0 in record { place = 0; text = t; at = omega arith; there = refl; connected = e; listed = r.1 }

  by : (b : Bool) → is_unconnected t ≡ b → (Contains (all_opens (n + 1) names lines) o → IsOfName names (n + 1) lines o) → here_is (is_unconnected t) ⊎ Contains (all_opens (n + 1) names lines) o → IsOfName (t ∷ names) n lines o
  by b e more (inl here) = mine b e (subst here_is e here)
  by b e more (inr further) = let r = more further in record { place = suc r.place; text = r.text; at = (let a = r.at in omega arith); there = r.there; connected = r.connected; listed = r.listed }

pub opens_said : (board : Tables) (v : Verdict) → IsRight board v → (o : Open) → Contains v.opens o → IsOfName board.names 0 v.points o
opens_said board v right o inside = in_names 0 board.names v.points o (subst (λ (xs : List Open). Contains xs o) (right Opens) inside)

-- ---- Shorts

above_step : (o : Option ℕ) (n : ℕ) (rest : List ℕ) → ((i a : ℕ) → slice_get rest i ≡ Some a → n + 1 ≤ a) → (i a : ℕ) → slice_get (where_some o n ++ rest) i ≡ Some a → n ≤ a
above_step None n rest more i a there = let m = more i a there in omega arith
above_step (Some p) n rest more zero a there = let same = same_Some n a there in omega arith
above_step (Some p) n rest more (suc i) a there = let m = more i a there in omega arith

names_above : (net n : ℕ) (names : List (List ℕ)) (lines : List PointLine) (i a : ℕ) → slice_get (names_on net n names lines) i ≡ Some a → n ≤ a
names_above net n [] lines i a there = cc
names_above net n (t ∷ names) lines i a there = above_step (first_on net n lines) n (names_on net (n + 1) names lines) (names_above net (n + 1) names lines) i a there

-- the numbers rise
abbrev DoRise : List ℕ → Type 0
DoRise xs = (i j a b : ℕ) → i < j → slice_get xs i ≡ Some a → slice_get xs j ≡ Some b → a < b

rise_step : (o : Option ℕ) (n : ℕ) (rest : List ℕ) → ((i a : ℕ) → slice_get rest i ≡ Some a → n + 1 ≤ a) → DoRise rest → DoRise (where_some o n ++ rest)
rise_step None n rest above rise i j a b below one two = rise i j a b below one two
rise_step (Some p) n rest above rise i zero a b below one two = absurd (omega arith)
rise_step (Some p) n rest above rise zero (suc j) a b below one two = let same = same_Some n a one in let m = above j b two in omega arith
rise_step (Some p) n rest above rise (suc i) (suc j) a b below one two = rise i j a b (omega arith) one two

names_rise : (net n : ℕ) (names : List (List ℕ)) (lines : List PointLine) → DoRise (names_on net n names lines)
names_rise net n [] lines i j a b below one two = cc
names_rise net n (t ∷ names) lines i j a b below one two = rise_step (first_on net n lines) n (names_on net (n + 1) names lines) (names_above net (n + 1) names lines) (names_rise net (n + 1) names lines) i j a b below one two

-- two names or more, those that have a point on the net
abbrev IsOutline : List (List ℕ) → List PointLine → Outline → Type 0
IsOutline names lines o = (2 ≤ length o.names) × (o.names ≡ names_on o.net 0 names lines)

one_outline : (names : List (List ℕ)) (lines : List PointLine) (n : ℕ) (xs : List ℕ) → xs ≡ names_on n 0 names lines → All (IsOutline names lines) (short_of n xs)
one_outline names lines n [] e = All-nil (IsOutline names lines)
one_outline names lines n (a ∷ []) e = All-nil (IsOutline names lines)
one_outline names lines n (a ∷ b ∷ more) e = All-cons (IsOutline names lines) (record { net = n; names = a ∷ b ∷ more }) [] (omega arith, e) (All-nil (IsOutline names lines))

outlines : (names : List (List ℕ)) (lines : List PointLine) (n : ℕ) (nets : List (List Twig)) → All (IsOutline names lines) (all_shorts n nets names lines)
outlines names lines n [] = All-nil (IsOutline names lines)
outlines names lines n (net ∷ nets) = All-append (IsOutline names lines) (short_of n (names_on n 0 names lines)) (all_shorts (n + 1) nets names lines) (one_outline names lines n (names_on n 0 names lines) refl) (outlines names lines (n + 1) nets)

unmap : (names : List (List ℕ)) (lines : List PointLine) (shorts : List Short) → All (IsOutline names lines) (map outline shorts) → All (λ s. IsOutline names lines (outline s)) shorts
unmap names lines [] all = All-nil (λ s. IsOutline names lines (outline s))
unmap names lines (s ∷ rest) all = All-cons (λ s. IsOutline names lines (outline s)) s rest (All-head (IsOutline names lines) (outline s) (map outline rest) all) (unmap names lines rest (All-tail (IsOutline names lines) (outline s) (map outline rest) all))

both : (a b : Bool) → (a && b) ≡ true → (a ≡ true) × (b ≡ true)
both true b e = (refl, e)
both false b e = absurd (not_both (sym e))

on_of : (o : Option ℕ) (net : ℕ) → is_on o net ≡ true → o ≡ Some net
on_of None net e = absurd (not_both (sym e))
on_of (Some n) net e = ap Some (eqb-true n net e)

first_at : (net name n : ℕ) (lines : List PointLine) (probe : ℕ) → first_from net name n lines ≡ Some probe → (k : ℕ) × (probe ≡ n + k) × IsAt lines name net k
first_at net name n [] probe e = absurd (none_is_some probe e)
first_at net name n (l ∷ lines) probe e = by (marks net name l) refl (first_at net name (n + 1) lines probe) where
  by : (b : Bool) → marks net name l ≡ b → (first_from net name (n + 1) lines ≡ Some probe → (k : ℕ) × (probe ≡ n + 1 + k) × IsAt lines name net k) → (k : ℕ) × (probe ≡ n + k) × IsAt (l ∷ lines) name net k
  by true m more =
      let same = same_Some n probe (sym (first_here net name n l lines m) ∙ e) in
      let h = both (l.name == name) (is_on l.net net) m in
      (0, omega arith, (l, refl, eqb-true l.name name h.0, on_of l.net net h.1))
  by false m more = let r = more (sym (first_other net name n l lines m) ∙ e) in let at = r.1 in (suc r.0, omega arith, r.2)

branch_probe : (net : List Twig) (starts : ℕ → ℕ → Type 0) (lines : List PointLine) (number : ℕ) (ends : List ℕ) (branches : List Branch) → AreBranches net starts lines number ends branches → (x : Branch) → Contains branches x → first_on number x.name lines ≡ Some x.probe
branch_probe net starts lines number ends [] all x (k, below, same) = absurd (omega arith)
branch_probe net starts lines number ends (c ∷ rest) (first, all) x listed = elim (Contains-append_cases (c ∷ []) rest x listed) [
  | inl same ↦ subst (λ (y : Branch). first_on number y.name lines ≡ Some y.probe) (one_of c x same) first.probe
  | inr later ↦ branch_probe net starts lines number (ends ++ c.pieces) rest all x later
]

-- The names of the branches are two or more and rise, and each has its point on the net of the short.
pub record IsListedShort (v : Verdict) (s : Short) : Type 0 where
  pub several : 2 ≤ length s.branches
  pub rise : (i j : ℕ) (x y : Branch) → i < j → slice_get s.branches i ≡ Some x → slice_get s.branches j ≡ Some y → x.name < y.name
  pub seated : (x : Branch) → Contains s.branches x → IsSeated v x.probe x.name s.net

pub shorts_said : (board : Tables) (v : Verdict) → IsRight board v → (s : Short) → Contains v.shorts s → IsListedShort v s
shorts_said board v right s inside =
    let all : All (IsOutline board.names v.points) (map outline v.shorts) = subst (λ (xs : List Outline). All (IsOutline board.names v.points) xs) (sym (right Shorts)) (outlines board.names v.points 0 v.nets) in
    let mine = All-contains (λ s. IsOutline board.names v.points (outline s)) v.shorts s (unmap board.names v.points v.shorts all) inside in
    let has : HasBranches v.nets (BeginsBeneath board.beneath) v.points s = All-contains (HasBranches v.nets (BeginsBeneath board.beneath) v.points) v.shorts s (right Branches) inside in
    let two = mine.0 in
    let long = length-map s.branches (λ (b : Branch). b.name) in
    record {
      several = omega arith;
      rise = λ i j x y below one two. names_rise s.net 0 board.names v.points i j x.name y.name below (name_of i x one mine.1) (name_of j y two mine.1);
      seated = λ x listed. (
          let r = first_at s.net x.name 0 v.points x.probe (branch_probe has.net (BeginsBeneath board.beneath) v.points s.net (first_piece has.net ∷ []) s.branches has.branches x listed) in
          let at = r.1 in
          let same : r.0 ≡ x.probe = omega arith in
          subst (λ (k : ℕ). IsAt v.points x.name s.net k) same r.2
          );
    }
  where
    name_of : (i : ℕ) (x : Branch) → slice_get s.branches i ≡ Some x → (outline s).names ≡ names_on s.net 0 board.names v.points → slice_get (names_on s.net 0 board.names v.points) i ≡ Some x.name
    name_of i x there same = ap (λ (xs : List ℕ). slice_get xs i) (sym same) ∙ (slice_get-map (λ (b : Branch). b.name) s.branches i ∙ ap (option_map (λ (b : Branch). b.name)) there)
