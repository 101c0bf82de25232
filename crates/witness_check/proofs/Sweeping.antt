-- What a sweep over sorted intervals tells: that nets stand apart, and the least piece under a probe.
use Rattle.std.proofs.Common.{◌≡◌, ◌↔◌, ◌⊎◌, inl, inr, ℕ, zero, suc, ◌+◌, ◌<◌, ◌≤◌, Bool, true, false, List, [], ◌∷◌, ◌++◌, length, get_or, set, take, cond, All, Contains, Option, None, Some, IfSome, sym, ap, subst, ◌∙◌, arith}
use Rattle.std.proofs.lemmas.Bool.{cases_eq}
use Rattle.std.proofs.lemmas.List.{get_or-set_other, get_or-set_same, get_or_default, take_more}
use Rattle.std.proofs.lemmas.List.Elements.{All-tail}
use Rattle.std.specs.List.Sorted.{IsNonDecreasingBy}
use Rattle.tables.specs.Lists.{IsLeast}
use Rattle.verdict.specs.declared.verdict.Twig.{Twig}
use Rattle.verdict.specs.Forest.{StandOnce, StandApart, Holds}
use Rattle.verdict.proofs.Holding.{le_or_lt}
use Rattle.witness_check.specs.Homes.{IsOneOf}
use Rattle.witness_check.specs.Strips.{AreAgreed, AreClear, ComeTogether, IsClear, IsCounted, IsEnough, asked_pairs, asked_with, come_together}
use Rattle.witness_check.specs.declared.least.ProbePlace.{ProbePlace}
use Rattle.witness_check.specs.declared.strips.Interval.{Interval}
use Rattle.witness_check.proofs.Filing.{Comes, HasPlace}

-- ---- Nets apart

-- where nets stand apart, each interval agrees with each later one
pub apart_clear : (near : ℕ → ℕ → Type 0) (count : ℕ) (nets : List (List Twig)) (numbers : List ℕ) → StandOnce count nets → ((i p : ℕ) → Holds nets i p → get_or numbers p 0 ≡ i) → StandApart near nets → (xs : List Interval) → All (λ (s : Interval). s.piece < count) xs → AreClear near numbers xs
apart_clear near count nets numbers once numbered apart [] known = tt
apart_clear near count nets numbers once numbered apart (one ∷ later) known = (
  λ k d below come touches.
      let here = once.held one.piece (known 0 one (omega arith)) in
      let there = once.held (get_or later k d).piece (behind k d below) in
      numbered here.0 one.piece here.1 ∙ (apart here.0 there.0 one.piece (get_or later k d).piece here.1 there.1 touches ∙ sym (numbered there.0 (get_or later k d).piece there.1)),
  apart_clear near count nets numbers once numbered apart later behind,
)
  where
    behind : All (λ (s : Interval). s.piece < count) later
    behind = All-tail (λ (s : Interval). s.piece < count) one later known

clear_at : (near : ℕ → ℕ → Type 0) (numbers : List ℕ) (xs : List Interval) (i j : ℕ) (d : Interval) → AreClear near numbers xs → i < j → j < length xs → AreAgreed near numbers (get_or xs i d) (get_or xs j d)
clear_at near numbers [] i j d clear less below = absurd (omega arith)
clear_at near numbers (one ∷ later) i zero d clear less below = absurd (omega arith)
clear_at near numbers (one ∷ later) zero (suc j) d clear less below = clear.0 j d (omega arith)
clear_at near numbers (one ∷ later) (suc i) (suc j) d clear less below = clear_at near numbers later i j d clear.1 (omega arith) (omega arith)

-- ---- One interval after another

pub rest_rises : (rest : List Interval) (one : Interval) (later : List Interval) → rest ≡ one ∷ later → IsNonDecreasingBy (λ (s : Interval). s.start) rest → IsNonDecreasingBy (λ (s : Interval). s.start) later
rest_rises rest one later is rising i j d le below =
    let all : IsNonDecreasingBy (λ (s : Interval). s.start) (one ∷ later) = subst (IsNonDecreasingBy (λ (s : Interval). s.start)) is rising in
    all (suc i) (suc j) d (omega arith) (omega arith)

-- where the rest begins with an interval, it is clear exactly where that interval is and what comes later
pub rest_clear : (near : ℕ → ℕ → Type 0) (numbers : List ℕ) (rest : List Interval) (one : Interval) (later : List Interval) → rest ≡ one ∷ later → AreClear near numbers rest ↔ (IsClear near numbers one later × AreClear near numbers later)
rest_clear near numbers rest one later is = ((λ clear. subst (AreClear near numbers) is clear), λ clear. subst (AreClear near numbers) (sym is) clear)

pub none_left : (near : ℕ → ℕ → Type 0) (numbers : List ℕ) (rest : List Interval) → length rest ≡ 0 → AreClear near numbers rest
none_left near numbers [] none = tt
none_left near numbers (one ∷ later) none = absurd (omega arith)

-- ---- Two that come together

-- the later of two intervals starts no earlier
agreed : (near : ℕ → ℕ → Type 0) (numbers : List ℕ) (one two : Interval) (p q : ℕ) → one.piece ≡ p → two.piece ≡ q → AreAgreed near numbers one two → ComeTogether one two → near p q → get_or numbers p 0 ≡ get_or numbers q 0
agreed near numbers one two p q e f agree come touches =
    let h : near one.piece two.piece = subst (λ (x : ℕ). near x two.piece) (sym e) (subst (λ (x : ℕ). near p x) (sym f) touches) in
    ap (λ (x : ℕ). get_or numbers x 0) (sym e) ∙ (agree come h ∙ ap (λ (x : ℕ). get_or numbers x 0) f)

flip : {A B : Type 0} → A ⊎ B → B ⊎ A
flip (inl a) = inr a
flip (inr b) = inl b

-- pieces that come together and touch are of one net
pub one_net : (near : ℕ → ℕ → Type 0) (numbers : List ℕ) (xs : List Interval) (p q : ℕ) → ((p q : ℕ) → near p q → near q p) → AreClear near numbers xs → Comes xs p q → (p ≡ q → ⊥) → near p q → get_or numbers p 0 ≡ get_or numbers q 0
one_net near numbers xs p q both clear comes other touches =
    let one = comes.one in
    let two = comes.two in
    let (i, i_in, i_is) = comes.one_in in
    let (j, j_in, j_is) = comes.two_in in
    elim (cases_eq i j) [
      | inl same ↦ absurd (other (sym comes.of_one ∙ (ap (λ (s : Interval). s.piece) (meets i j i_in j_in i_is j_is same) ∙ comes.of_two)))
      | inr differ ↦ elim (le_or_lt i j) [
        | inl le ↦ agreed near numbers one two p q comes.of_one comes.of_two (placed i j one two i_in j_in i_is j_is (clear_at near numbers xs i j one clear (omega arith) j_in)) (record { meet = comes.forth; lowest = comes.lowest }) touches
        | inr less ↦ sym (agreed near numbers two one q p comes.of_two comes.of_one (placed j i two one j_in i_in j_is i_is (clear_at near numbers xs j i two clear less i_in)) (record { meet = comes.back; lowest = flip comes.lowest }) (both p q touches))
      ]
    ]
  where
    placed : (i j : ℕ) (one two : Interval) → i < length xs → j < length xs → get_or xs i one ≡ one → get_or xs j two ≡ two → AreAgreed near numbers (get_or xs i one) (get_or xs j one) → AreAgreed near numbers one two
    placed i j one two a b e f g = subst (λ (x : Interval). AreAgreed near numbers x two) e (subst (λ (x : Interval). AreAgreed near numbers (get_or xs i one) x) (get_or_default xs j one two b ∙ f) g)

    meets : (i j : ℕ) → i < length xs → j < length xs → get_or xs i comes.one ≡ comes.one → get_or xs j comes.two ≡ comes.two → i ≡ j → comes.one ≡ comes.two
    meets i j a b e f same = sym e ∙ (ap (λ (x : ℕ). get_or xs x comes.one) same ∙ (get_or_default xs j comes.one comes.two b ∙ f))

pub all_apart : (near : ℕ → ℕ → Type 0) (count : ℕ) (nets : List (List Twig)) (numbers : List ℕ) → StandOnce count nets → ((i p : ℕ) → Holds nets i p → p < count) → ((i p : ℕ) → Holds nets i p → get_or numbers p 0 ≡ i) → ((p q : ℕ) → p < count → q < count → (p ≡ q → ⊥) → near p q → get_or numbers p 0 ≡ get_or numbers q 0) → StandApart near nets
all_apart near count nets numbers once known numbered one i j p q h k touches = elim (cases_eq p q) [
  | inl same ↦ once.one_net i j q (subst (λ (x : ℕ). Holds nets i x) same h) k
  | inr other ↦ sym (numbered i p h) ∙ (one p q (known i p h) (known j q k) other touches ∙ numbered j q k)
]

-- what an interval read says of it at any default
pub agreed_at : (near : ℕ → ℕ → Type 0) (numbers : List ℕ) (one : Interval) (later : List Interval) (j : ℕ) (d e : Interval) → j < length later → AreAgreed near numbers one (get_or later j e) → AreAgreed near numbers one (get_or later j d)
agreed_at near numbers one later j d e there agree = subst (λ (x : Interval). AreAgreed near numbers one x) (get_or_default later j e d there) agree

-- past an interval that starts beyond the end none comes together
pub past_end : (near : ℕ → ℕ → Type 0) (numbers : List ℕ) (one : Interval) (later : List Interval) (j : ℕ) (e : Interval) → IsNonDecreasingBy (λ (s : Interval). s.start) later → j < length later → one.end < (get_or later j e).start
    → ((k : ℕ) (d : Interval) → k < j → AreAgreed near numbers one (get_or later k d)) → IsClear near numbers one later
past_end near numbers one later j e rising there past before k d below = elim (le_or_lt j k) [
  | inl le ↦ λ come touches. absurd (far le come.meet)
  | inr sooner ↦ before k d sooner
]
  where
    far : j ≤ k → (get_or later k d).start ≤ one.end → ⊥
    far le meet =
        let up = rising j k d le below in
        let at_j : (get_or later j d).start ≡ (get_or later j e).start = ap (λ (s : Interval). s.start) (get_or_default later j d e there) in
        omega arith

-- ---- How many pairs are asked

asked_push : (one : Interval) (xs : List Interval) (two : Interval) → asked_with one (xs ++ two ∷ []) ≡ asked_with one xs + cond (come_together one two) 1 0
asked_push one [] two = omega arith
asked_push one (x ∷ xs) two = let more = asked_push one xs two in omega arith

pub asked_more : (one : Interval) (later : List Interval) (n : ℕ) (d : Interval) → n < length later → asked_with one (take (n + 1) later) ≡ asked_with one (take n later) + cond (come_together one (get_or later n d)) 1 0
asked_more one later n d below = ap (asked_with one) (take_more later n d below) ∙ asked_push one (take n later) (get_or later n d)

pub asked_most : (one : Interval) (later : List Interval) (n : ℕ) → asked_with one (take n later) ≤ asked_with one later
asked_most one later zero = omega arith
asked_most one [] (suc n) = omega arith
asked_most one (two ∷ later) (suc n) = let most = asked_most one later n in omega arith

pub asked_rest : (rest : List Interval) (one : Interval) (later : List Interval) → rest ≡ one ∷ later → asked_pairs rest ≡ asked_with one later + asked_pairs later
asked_rest rest one later is = ap asked_pairs is

-- ---- A piece under each probe

pub one_found : (P : ℕ → Type 0) (wanted : Bool) (found : Option ℕ) → IfSome found P → ((q : ℕ) → P q → IsEnough wanted found q) → IsOneOf P found
one_found P wanted None under all = all
one_found P wanted (Some p) under all = under

pub least_found : (P : ℕ → Type 0) (wanted : Bool) (found : Option ℕ) → wanted ≡ true → IfSome found P → ((q : ℕ) → P q → IsEnough wanted found q) → IsLeast P found
least_found P wanted None on under all = all
least_found P wanted (Some least) on under all = (under, λ q h. all q h on)

-- Beside a number that is not enough for a piece the piece is enough for whatever that was.
pub less_enough : (wanted : Bool) (found : Option ℕ) (piece p : ℕ) → (IsEnough wanted found piece → ⊥) → IsEnough wanted found p → IsEnough wanted (Some piece) p
less_enough wanted None piece p none h = absurd h
less_enough wanted (Some f) piece p none h = λ on. elim (le_or_lt f piece) [
  | inl le ↦ absurd (none (λ wants. le))
  | inr less ↦ let low = h on in omega (arith, low, less)
]

-- What was found for one probe is written anew, and is enough beside what it was enough beside.
pub kept_all : (wanted : List Bool) (homes : List (Option ℕ)) (k : ℕ) (next : Option ℕ) → k < length homes → ((p : ℕ) → IsEnough (get_or wanted k false) (get_or homes k None) p → IsEnough (get_or wanted k false) next p) → (q p : ℕ) → IsEnough (get_or wanted q false) (get_or homes q None) p → IsEnough (get_or wanted q false) (get_or (set homes k next) q None) p
kept_all wanted homes k next below kept q p h = elim (cases_eq q k) [
  | inl same ↦ subst (λ (x : ℕ). IsEnough (get_or wanted x false) (get_or (set homes k next) x None) p) (sym same) (subst (λ (o : Option ℕ). IsEnough (get_or wanted k false) o p) (sym (get_or-set_same homes k next None below)) (kept p (subst (λ (x : ℕ). IsEnough (get_or wanted x false) (get_or homes x None) p) same h)))
  | inr other ↦ subst (λ (o : Option ℕ). IsEnough (get_or wanted q false) o p) (sym (get_or-set_other homes k q next None other)) h
]

pub under_all : (U : ℕ → ℕ → Type 0) (homes : List (Option ℕ)) (k : ℕ) (next : Option ℕ) → k < length homes → (IfSome (get_or homes k None) (U k) → IfSome next (U k)) → (q : ℕ) → IfSome (get_or homes q None) (U q) → IfSome (get_or (set homes k next) q None) (U q)
under_all U homes k next below more q h = elim (cases_eq q k) [
  | inl same ↦ subst (λ (x : ℕ). IfSome (get_or (set homes k next) x None) (U x)) (sym same) (subst (λ (o : Option ℕ). IfSome o (U k)) (sym (get_or-set_same homes k next None below)) (more (subst (λ (x : ℕ). IfSome (get_or homes x None) (U x)) same h)))
  | inr other ↦ subst (λ (o : Option ℕ). IfSome o (U q)) (sym (get_or-set_other homes k q next None other)) h
]

-- An interval is counted for the points from `from` on and below n.
abbrev pub AreCounted : (ℕ → ℕ → Type 0) → List Bool → List (Option ℕ) → Interval → List ProbePlace → ℕ → ℕ → Type 0
AreCounted U wanted homes s points from n = (i : ℕ) (d : ProbePlace) → from ≤ i → i < n → IsCounted U wanted homes s (get_or points i d)

pub counted_more : (U : ℕ → ℕ → Type 0) (wanted : List Bool) (homes : List (Option ℕ)) (s : Interval) (points : List ProbePlace) (from n k : ℕ) (e : ProbePlace) (next : Option ℕ) → n < length points → k < length homes → (get_or points n e).probe ≡ k
    → ((p : ℕ) → IsEnough (get_or wanted k false) (get_or homes k None) p → IsEnough (get_or wanted k false) next p) → (U k s.piece → IsEnough (get_or wanted k false) next s.piece) → AreCounted U wanted homes s points from n → AreCounted U wanted (set homes k next) s points from (n + 1)
counted_more U wanted homes s points from n k e next there below is kept one are i d above before = elim (cases_eq i n) [
  | inl same ↦ subst (λ (x : ℕ). IsCounted U wanted (set homes k next) s (get_or points x d)) (sym same) (subst (IsCounted U wanted (set homes k next) s) (get_or_default points n e d there) here)
  | inr other ↦ λ starts ends under. kept_all wanted homes k next below kept (get_or points i d).probe s.piece (are i d above (omega arith) starts ends under)
]
  where
    found : U k s.piece → IsEnough (get_or wanted k false) (get_or (set homes k next) k None) s.piece
    found under = subst (λ (o : Option ℕ). IsEnough (get_or wanted k false) o s.piece) (sym (get_or-set_same homes k next None below)) (one under)

    here : IsCounted U wanted (set homes k next) s (get_or points n e)
    here starts ends = subst (λ (x : ℕ). U x s.piece → IsEnough (get_or wanted x false) (get_or (set homes k next) x None) s.piece) (sym is) found

-- past a point that stands beyond the interval none stands on it
pub counted_past : (U : ℕ → ℕ → Type 0) (wanted : List Bool) (homes : List (Option ℕ)) (s : Interval) (points : List ProbePlace) (from n : ℕ) (e : ProbePlace) → IsNonDecreasingBy (λ (x : ProbePlace). x.place) points → n < length points → s.end < (get_or points n e).place → AreCounted U wanted homes s points from n
    → (i : ℕ) (d : ProbePlace) → from ≤ i → i < length points → IsCounted U wanted homes s (get_or points i d)
counted_past U wanted homes s points from n e rising there past are i d above below = elim (le_or_lt n i) [
  | inl le ↦ λ starts ends under. absurd (far le ends)
  | inr sooner ↦ are i d above sooner
]
  where
    far : n ≤ i → (get_or points i d).place ≤ s.end → ⊥
    far le ends =
        let up = rising n i d le below in
        let at_n : (get_or points n d).place ≡ (get_or points n e).place = ap (λ (x : ProbePlace). x.place) (get_or_default points n d e there) in
        omega arith

-- The intervals before n are counted, and the points before `from` stand before the intervals from n on.
pub record AreFound (U : ℕ → ℕ → Type 0) (wanted : List Bool) (xs : List Interval) (points : List ProbePlace) (count n from : ℕ) (homes : List (Option ℕ)) : Type 0 where
  pub within : from ≤ length points
  pub long : length homes ≡ count
  pub passed : (i j : ℕ) (d : Interval) (e : ProbePlace) → i < from → n ≤ j → j < length xs → (get_or points i e).place < (get_or xs j d).start
  pub under : (k : ℕ) → IfSome (get_or homes k None) (U k)
  pub least : (i j : ℕ) (d : Interval) (e : ProbePlace) → i < n → j < length points → IsCounted U wanted homes (get_or xs i d) (get_or points j e)

pub found_none : (U : ℕ → ℕ → Type 0) (wanted : List Bool) (xs : List Interval) (points : List ProbePlace) (count : ℕ) (homes : List (Option ℕ)) → length homes ≡ count → ((k : ℕ) → get_or homes k None ≡ None) → AreFound U wanted xs points count 0 0 homes
found_none U wanted xs points count homes long none = record {
  within = omega arith;
  long = long;
  passed = λ i j d e before from below. absurd (omega arith);
  under = λ k. subst (λ (o : Option ℕ). IfSome o (U k)) (sym (none k)) tt;
  least = λ i j d e before below. absurd (omega arith);
}

pub found_more : (U : ℕ → ℕ → Type 0) (wanted : List Bool) (xs : List Interval) (points : List ProbePlace) (count n from next : ℕ) (s : Interval) (homes found : List (Option ℕ)) → IsNonDecreasingBy (λ (x : Interval). x.start) xs → n < length xs → get_or xs n s ≡ s → AreFound U wanted xs points count n from homes
    → next ≤ length points → ((j : ℕ) (e : ProbePlace) → from ≤ j → j < next → (get_or points j e).place < s.start) → length found ≡ length homes → ((k : ℕ) → IfSome (get_or homes k None) (U k) → IfSome (get_or found k None) (U k))
    → ((k p : ℕ) → IsEnough (get_or wanted k false) (get_or homes k None) p → IsEnough (get_or wanted k false) (get_or found k None) p) → ((j : ℕ) (e : ProbePlace) → next ≤ j → j < length points → IsCounted U wanted found s (get_or points j e)) → AreFound U wanted xs points count (n + 1) next found
found_more U wanted xs points count n from next s homes found rising there is are within before long under kept counted = record {
  within = within;
  long = long ∙ are.long;
  passed = λ i j d e early late below. let up = rising n j d (omega arith) below in let same = start d in let sooner = passed i e early in omega arith;
  under = λ k. under k (are.under k);
  least = λ i j d e early below. elim (cases_eq i n) [
    | inl same ↦ subst (λ (x : ℕ). IsCounted U wanted found (get_or xs x d) (get_or points j e)) (sym same) (subst (λ (x : Interval). IsCounted U wanted found x (get_or points j e)) (sym is ∙ get_or_default xs n s d there) (here j e below))
    | inr other ↦ λ starts ends u. kept (get_or points j e).probe (get_or xs i d).piece (are.least i j d e (omega arith) below starts ends u)
  ];
}
  where
    start : (d : Interval) → (get_or xs n d).start ≡ s.start
    start d = ap (λ (x : Interval). x.start) (get_or_default xs n d s there ∙ is)

    passed : (i : ℕ) (e : ProbePlace) → i < next → (get_or points i e).place < s.start
    passed i e early = elim (le_or_lt from i) [
      | inl le ↦ before i e le early
      | inr sooner ↦ (let first = are.passed i n s e sooner (omega arith) there in let same = start s in omega arith)
    ]

    here : (j : ℕ) (e : ProbePlace) → j < length points → IsCounted U wanted found s (get_or points j e)
    here j e below = elim (le_or_lt next j) [
      | inl le ↦ counted j e le below
      | inr sooner ↦ λ starts ends u. absurd (let early = passed j e sooner in omega arith)
    ]

-- a piece that has a probe's place in an interval is counted for it
pub counted_enough : (U : ℕ → ℕ → Type 0) (wanted : List Bool) (homes : List (Option ℕ)) (xs : List Interval) (points : List ProbePlace) (k q place : ℕ) → ((i j : ℕ) (d : Interval) (e : ProbePlace) → i < length xs → j < length points → IsCounted U wanted homes (get_or xs i d) (get_or points j e))
    → HasPlace xs place q → Contains points (record { place = place; probe = k }) → U k q → IsEnough (get_or wanted k false) (get_or homes k None) q
counted_enough U wanted homes xs points k q place counted has stands under =
    let (i, within, is) = has.listed in
    let (j, inside, alike) = stands in
    let s = has.interval in
    let p : ProbePlace = record { place = place; probe = k } in
    let one : IsCounted U wanted homes s p = subst (IsCounted U wanted homes s) alike (subst (λ (x : Interval). IsCounted U wanted homes x (get_or points j p)) is (counted i j s p within inside)) in
    subst (IsEnough (get_or wanted k false) (get_or homes k None)) has.of_it (one has.starts has.ends (subst (U k) (sym has.of_it) under))
