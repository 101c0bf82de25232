-- Points of one name on different nets have listed opens.
use Rattle.std.proofs.Common.{◌≡◌, ◌≢◌, ◌⊎◌, inl, inr, ℕ, zero, suc, ◌+◌, Bool, true, false, ◌==◌, ◌||◌, if◌then◌else◌, List, [], ◌∷◌, ◌++◌, length, map, Contains, Option, Some, None, slice_get, refl, subst, sym, ap, ◌∙◌, arith}
use Rattle.std.specs.List.{list_any}
use Rattle.std.proofs.lemmas.List.{map-append}
use Rattle.std.proofs.lemmas.List.Elements.{Contains-append_left, Contains-append_right, Contains-append_cases}
use Rattle.std.proofs.lemmas.Bool.{eq-eqb, eqb-true}
use Rattle.verdict.specs.declared.verdict.PointLine.{PointLine}
use Rattle.verdict.specs.declared.verdict.Seat.{Seat}
use Rattle.verdict.specs.declared.verdict.Open.{Open}
use Rattle.verdict.specs.declared.verdict.Verdict.{Verdict}
use Rattle.verdict.specs.Right.{IsRight, Opens, net_of, seat, seats_from, fresh, opens_against, opens_of, all_opens, is_unconnected}
use Rattle.tables.specs.Consistent.{AreConsistent}
use Rattle.tables.specs.Tables.{Tables, Stands}
use Rattle.witness_check.specs.Laws.{HasEnd, HasOther, IsSeated, OpensCoverSplitNames}
use Rattle.witness_check.proofs.Chains.{stays}
use Rattle.witness_check.proofs.Joins.{right_nets}
use Rattle.verdict.proofs.Holding.{one_of}

-- a seat of the point
seat_has : (o : Option ℕ) (i net : ℕ) → o ≡ Some net → Contains (map net_of (seat o i)) net
seat_has None i net e = cc
seat_has (Some n) i net e = let same : n ≡ net = cc in (0, omega arith, same)

seated : (name net : ℕ) (lines : List PointLine) (i k : ℕ) (line : PointLine) → slice_get lines k ≡ Some line → line.name ≡ name → line.net ≡ Some net → Contains (map net_of (seats_from name i lines)) net
seated name net [] i k line there named on = cc
seated name net (l ∷ lines) i zero line there named on =
    let same : l ≡ line = cc in
    let test : (l.name == name) ≡ true = eq-eqb l.name name (ap (λ (x : PointLine). x.name) same ∙ named) in
    let here : Contains (map net_of (if l.name == name then seat l.net i else [])) net = rw test (seat_has l.net i net (ap (λ (x : PointLine). x.net) same ∙ on)) in
    subst (λ (xs : List ℕ). Contains xs net) (sym (map-append net_of (if l.name == name then seat l.net i else []) (seats_from name (i + 1) lines)))
    (Contains-append_left (map net_of (if l.name == name then seat l.net i else [])) (map net_of (seats_from name (i + 1) lines)) net here)
seated name net (l ∷ lines) i (suc k) line there named on =
    subst (λ (xs : List ℕ). Contains xs net) (sym (map-append net_of (if l.name == name then seat l.net i else []) (seats_from name (i + 1) lines)))
    (Contains-append_right (map net_of (if l.name == name then seat l.net i else [])) (map net_of (seats_from name (i + 1) lines)) net (seated name net lines (i + 1) k line there named on))

-- A seat stands for its net, unless the net was seen.
abbrev pub IsKept : List ℕ → List Seat → ℕ → Type 0
IsKept seen seats net = Contains seen net ⊎ Contains (map net_of (fresh seen seats)) net

any_step : (x net : ℕ) (seen : List ℕ) (b : Bool) → (x == net) ≡ b → (list_any (λ n. n == net) seen ≡ true → Contains seen net) → (b || list_any (λ n. n == net) seen) ≡ true → Contains (x ∷ seen) net
any_step x net seen true e rest found = (0, omega arith, eqb-true x net e)
any_step x net seen false e rest found = Contains-append_right (x ∷ []) seen net (rest found)

any_has : (seen : List ℕ) (net : ℕ) → list_any (λ n. n == net) seen ≡ true → Contains seen net
any_has [] net e = cc
any_has (x ∷ seen) net e = any_step x net seen (x == net) refl (any_has seen net) e

kept_step : (seen : List ℕ) (s : Seat) (rest : List Seat) (net : ℕ) (b : Bool) → list_any (λ n. n == s.net) seen ≡ b → (Contains (map net_of rest) net → IsKept seen rest net) → (Contains (map net_of rest) net → IsKept (seen ++ s.net ∷ []) rest net) → Contains (s.net ∷ map net_of rest) net → Contains seen net ⊎ Contains (map net_of (if b then fresh seen rest else s ∷ fresh (seen ++ s.net ∷ []) rest)) net
kept_step seen s rest net true e old new inside = elim (Contains-append_cases (s.net ∷ []) (map net_of rest) net inside) [
  | inl here ↦ inl (subst (λ (x : ℕ). Contains seen x) (one_of s.net net here) (any_has seen s.net e))
  | inr later ↦ old later
]
kept_step seen s rest net false e old new inside = elim (Contains-append_cases (s.net ∷ []) (map net_of rest) net inside) [
  | inl here ↦ inr (0, omega arith, one_of s.net net here)
  | inr later ↦ elim (new later) [
    | inl was ↦ elim (Contains-append_cases seen (s.net ∷ []) net was) [ inl before ↦ inl before | inr here ↦ inr (0, omega arith, one_of s.net net here) ]
    | inr found ↦ inr (Contains-append_right (s.net ∷ []) (map net_of (fresh (seen ++ s.net ∷ []) rest)) net found)
  ]
]

kept : (seen : List ℕ) (seats : List Seat) (net : ℕ) → Contains (map net_of seats) net → IsKept seen seats net
kept seen [] net inside = absurd (let b = inside.1 in omega arith)
kept seen (s ∷ rest) net inside = kept_step seen s rest net (list_any (λ n. n == s.net) seen) refl (kept seen rest net) (kept (seen ++ s.net ∷ []) rest net) inside

-- an open against each further net
against : (name home : ℕ) (rest : List Seat) (net : ℕ) → Contains (map net_of rest) net → (o : Open) × Contains (map (λ (s : Seat). let x : Open = record { name = name; home = home; other = s.net; probe = s.probe } in x) rest) o × (o.name ≡ name) × (o.home ≡ home) × (o.other ≡ net)
against name home [] net inside = absurd (let b = inside.1 in omega arith)
against name home (s ∷ rest) net (zero, below, same) = (record { name = name; home = home; other = s.net; probe = s.probe }, (0, omega arith, refl), refl, refl, same)
against name home (s ∷ rest) net (suc k, below, same) =
    let f = against name home rest net (k, omega arith, same) in
    (f.0, Contains-append_right (record { name = name; home = home; other = s.net; probe = s.probe } ∷ []) (map (λ (s : Seat). let x : Open = record { name = name; home = home; other = s.net; probe = s.probe } in x) rest) f.0 f.1, f.2, f.3, f.4)

in_all : (i name : ℕ) (names : List (List ℕ)) (lines : List PointLine) (k : ℕ) (text : List ℕ) (o : Open) → slice_get names k ≡ Some text → is_unconnected text ≡ false → name ≡ i + k → Contains (opens_of name lines) o → Contains (all_opens i names lines) o
in_all i name [] lines k text o there joined same inside = cc
in_all i name (t ∷ names) lines zero text o there joined same inside =
    let e : t ≡ text = cc in
    let test : is_unconnected t ≡ false = ap is_unconnected e ∙ joined in
    let at : i ≡ name = omega arith in
    let here : Contains (if is_unconnected t then [] else opens_of i lines) o = rw test (subst (λ (x : ℕ). Contains (opens_of x lines) o) (sym at) inside) in
    Contains-append_left (if is_unconnected t then [] else opens_of i lines) (all_opens (i + 1) names lines) o here
in_all i name (t ∷ names) lines (suc k) text o there joined same inside =
    Contains-append_right (if is_unconnected t then [] else opens_of i lines) (all_opens (i + 1) names lines) o (in_all (i + 1) name names lines k text o there joined (omega arith) inside)

-- two different nets among the first seats of a name
listed : (v : Verdict) (name : ℕ) (firsts : List Seat) (n m : ℕ) → ((o : Open) → Contains (opens_against name firsts) o → Contains v.opens o) → Contains (map net_of firsts) n → Contains (map net_of firsts) m → n ≢ m → (HasOther v name n ⊎ HasOther v name m) × HasEnd v name n × HasEnd v name m
listed v name [] n m all a b differ = absurd (let x = a.1 in omega arith)
listed v name (home ∷ rest) n m all a b differ =
    elim (Contains-append_cases (home.net ∷ []) (map net_of rest) n a) [
      | inl first ↦ elim (Contains-append_cases (home.net ∷ []) (map net_of rest) m b) [
        | inl same ↦ absurd (differ (sym (one_of home.net n first) ∙ one_of home.net m same))
        | inr later ↦ (let o = against name home.net rest m later in (
          inr (record { entry = o.0; listed = all o.0 o.1; named = o.2; against = o.4 }),
          record { entry = o.0; listed = all o.0 o.1; named = o.2; end = inl (o.3 ∙ one_of home.net n first) },
          record { entry = o.0; listed = all o.0 o.1; named = o.2; end = inr o.4 },
        ))
      ]
      | inr further ↦ (let p = against name home.net rest n further in elim (Contains-append_cases (home.net ∷ []) (map net_of rest) m b) [
        | inl first ↦ (
          inl (record { entry = p.0; listed = all p.0 p.1; named = p.2; against = p.4 }),
          record { entry = p.0; listed = all p.0 p.1; named = p.2; end = inr p.4 },
          record { entry = p.0; listed = all p.0 p.1; named = p.2; end = inl (p.3 ∙ one_of home.net m first) },
        )
        | inr later ↦ (let o = against name home.net rest m later in (
          inl (record { entry = p.0; listed = all p.0 p.1; named = p.2; against = p.4 }),
          record { entry = p.0; listed = all p.0 p.1; named = p.2; end = inr p.4 },
          record { entry = o.0; listed = all o.0 o.1; named = o.2; end = inr o.4 },
        ))
      ])
    ]

first_has : (v : Verdict) (k name net : ℕ) → IsSeated v k name net → Contains (map net_of (fresh [] (seats_from name 0 v.points))) net
first_has v k name net (line, there, named, on) = elim (kept [] (seats_from name 0 v.points) net (seated name net v.points 0 k line there named on)) [
  | inl none ↦ absurd (let b = none.1 in omega arith)
  | inr found ↦ found
]

pub opens_cover_split_names : (board : Tables) (v : Verdict) → AreConsistent board → IsRight board v → OpensCoverSplitNames board v
opens_cover_split_names board v tables right = record {
  listed = λ a b name n m text there joined on other differ.
      listed v name (fresh [] (seats_from name 0 v.points)) n m
      (λ o inside. subst (λ (xs : List Open). Contains xs o) (sym (right Opens)) (in_all 0 name board.names v.points name text o there joined (omega arith) inside))
      (first_has v a name n on) (first_has v b name m other) differ;
  apart = λ i p q held touches. stays (length board.near) (Stands board.near) v.nets (right_nets board v right) tables.known i p q (q ∷ []) held (tables.both q p touches, refl);
}
