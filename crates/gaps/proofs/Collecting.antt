-- Lines that are pushed one by one.
use Rattle.std.proofs.Common.{◌≡◌, ◌⊎◌, inl, inr, ℕ, zero, suc, ◌+◌, ◌<◌, ◌≤◌, List, [], ◌∷◌, ◌++◌, All, Contains, get_or, if◌then◌else◌, length, refl, ap, sym, subst, arith, ◌∙◌}
use Rattle.std.proofs.lemmas.Bool.{cases_eq, cases_lt}
use Rattle.std.proofs.lemmas.Nat.{and_le_r}
use Rattle.std.specs.Int.Bits.{bit_and}
use Rattle.std.proofs.lemmas.List.{get_or_default}
use Rattle.std.proofs.lemmas.List.Elements.{Contains-push, Contains-push_cases, Contains-append_left}
use Rattle.gaps.specs.declared.gap.Gap.{Gap}
use Rattle.gaps.specs.declared.meetings.Span.{Span}
use Rattle.contact.specs.declared.Bounds.{Bounds}
use Rattle.cell_index.specs.Field.{IsNear, is_rival, rivals_of, sum_below}
use Rattle.cell_index.proofs.Found.{next_of}
use Rattle.cell_index.proofs.Pairs.{rivals_within}
use Rattle.gaps.specs.Firsts.{AreFirsts, Beside, IsBeside, IsWithLess}
use Rattle.gaps.specs.declared.found.Pair.{Pair}
use Rattle.gaps.specs.Meetings.{Covered, CoversLines, GainsLines, Gathers, IsFieldLine, IsLineOf, IsNearLine, IsOver, IsPairLine, IsTouchLine, net_of, pair_in, span_of}

same_line : (g h : Gap) → g.layer ≡ h.layer → g.low ≡ h.low → g.high ≡ h.high → g.first ≡ h.first → g.second ≡ h.second → g ≡ h
same_line g h a b c d e =
    ap (λ (z : ℕ). let l : Gap = record { layer = z; low = g.low; high = g.high; first = g.first; second = g.second } in l) a
    ∙ ap (λ (z : ℕ). let l : Gap = record { layer = h.layer; low = z; high = g.high; first = g.first; second = g.second } in l) b
    ∙ ap (λ (z : ℕ). let l : Gap = record { layer = h.layer; low = h.low; high = z; first = g.first; second = g.second } in l) c
    ∙ ap (λ (z : ℕ). let l : Gap = record { layer = h.layer; low = h.low; high = h.high; first = z; second = g.second } in l) d
    ∙ ap (λ (z : ℕ). let l : Gap = record { layer = h.layer; low = h.low; high = h.high; first = h.first; second = z } in l) e

-- one layer more
pub one_more : (low high i j top layer next : ℕ) (old lines : List Gap) (line : Gap) → top ≤ layer → next ≡ layer + 1 → line.layer ≡ layer → line.low ≡ low → line.high ≡ high → line.first ≡ i → line.second ≡ j →
    GainsLines (IsLineOf low high i j top layer) old lines → GainsLines (IsLineOf low high i j top next) old (lines ++ line ∷ [])
one_more low high i j top layer next old lines line from e p q r s t h gap = (there, back)
  where
    wider : Contains old gap ⊎ IsLineOf low high i j top layer gap → Contains old gap ⊎ IsLineOf low high i j top next gap
    wider (inl k) = inl k
    wider (inr l) = inr record { low_is = l.low_is; high_is = l.high_is; first_is = l.first_is; second_is = l.second_is; from_top = l.from_top; before_past = omega (arith, l.before_past) }

    there : Contains (lines ++ line ∷ []) gap → Contains old gap ⊎ IsLineOf low high i j top next gap
    there k = elim (Contains-push_cases lines line gap k) [
      | inl o ↦ wider ((h gap).0 o)
      | inr is ↦ inr (subst (λ (z : Gap). IsLineOf low high i j top next z) is record { low_is = q; high_is = r; first_is = s; second_is = t; from_top = omega arith; before_past = omega arith })
    ]

    same : gap.layer ≡ layer → IsLineOf low high i j top next gap → gap ≡ line
    same o l = same_line gap line (omega (arith, o, p)) (omega (arith, l.low_is, q)) (omega (arith, l.high_is, r)) (omega (arith, l.first_is, s)) (omega (arith, l.second_is, t))

    back : Contains old gap ⊎ IsLineOf low high i j top next gap → Contains (lines ++ line ∷ []) gap
    back (inl k) = Contains-append_left lines (line ∷ []) gap ((h gap).1 (inl k))
    back (inr l) = elim (cases_eq gap.layer layer) [
      | inl o ↦ subst (λ (z : Gap). Contains (lines ++ line ∷ []) z) (sym (same o l)) (Contains-push lines line)
      | inr apart ↦ Contains-append_left lines (line ∷ []) gap ((h gap).1 (inr record { low_is = l.low_is; high_is = l.high_is; first_is = l.first_is; second_is = l.second_is; from_top = l.from_top; before_past = omega (arith, l.before_past) }))
    ]

-- past the last layer
pub all_layers : (low high i j top past layer top' past' : ℕ) (old lines : List Gap) → top ≡ top' → past ≡ past' → past ≤ layer → (layer ≡ top) ⊎ (layer ≤ past) →
    GainsLines (IsLineOf low high i j top layer) old lines → GainsLines (IsLineOf low high i j top' past') old lines
all_layers low high i j top past layer top' past' old lines e f over within h gap = (λ k. there ((h gap).0 k), λ k. (h gap).1 (back k))
  where
    last : (g : Gap) → IsLineOf low high i j top layer g → g.layer < past
    last g l = elim within [ inl none ↦ absurd (omega (arith, l.from_top, l.before_past)) | inr some ↦ omega (arith, l.before_past) ]

    there : Contains old gap ⊎ IsLineOf low high i j top layer gap → Contains old gap ⊎ IsLineOf low high i j top' past' gap
    there (inl k) = inl k
    there (inr l) = (let m : gap.layer < past = last gap l in inr record { low_is = l.low_is; high_is = l.high_is; first_is = l.first_is; second_is = l.second_is; from_top = omega (arith, l.from_top); before_past = omega arith })

    back : Contains old gap ⊎ IsLineOf low high i j top' past' gap → Contains old gap ⊎ IsLineOf low high i j top layer gap
    back (inl k) = inl k
    back (inr l) = inr record { low_is = l.low_is; high_is = l.high_is; first_is = l.first_is; second_is = l.second_is; from_top = omega (arith, l.from_top); before_past = omega (arith, l.before_past) }

-- ---- a field

-- a line covers itself
itself : (lines : List Gap) (gap : Gap) → Contains lines gap → Covered lines gap
itself lines gap k = record { line = gap; stands = k; beside = (refl, refl, refl); less = inr (refl, omega arith) }

less_trans : (f g h : Gap) → IsWithLess f g → IsWithLess g h → IsWithLess f h
less_trans f g h (inl a) (inl b) = inl (omega arith)
less_trans f g h (inl a) (inr b) = inl (omega (arith, b.0))
less_trans f g h (inr a) (inl b) = inl (omega (arith, a.0))
less_trans f g h (inr a) (inr b) = inr (omega (arith, a.0, b.0), omega (arith, a.1, b.1))

beside_trans : (f g h : Gap) → IsBeside f g → IsBeside g h → IsBeside f h
beside_trans f g h a b = (a.0 ∙ b.0, a.1 ∙ b.1, a.2 ∙ b.2)

-- ---- pairs

pub a_pair : (size : ℕ) (touch : ℕ → ℕ → Type 0) (pair : Pair) (old new : List Gap) → IsNear size touch pair.first pair.second → pair.low < pair.high →
    GainsLines (IsLineOf pair.low pair.high pair.first pair.second pair.top (pair.bottom + 1)) old new → CoversLines (IsTouchLine size touch pair) old new
a_pair size touch pair old new near order h = record { only = λ gap c. there gap ((h gap).0 c); kept = λ gap c. (h gap).1 (inl c); each = λ gap l. itself new gap ((h gap).1 (inr l.line)) }
  where
    there : (gap : Gap) → Contains old gap ⊎ IsLineOf pair.low pair.high pair.first pair.second pair.top (pair.bottom + 1) gap → Contains old gap ⊎ IsTouchLine size touch pair gap
    there gap (inl c) = inl c
    there gap (inr l) = inr record { near = near; order = order; line = l }

still_covered : (old new : List Gap) (gap : Gap) → ((g : Gap) → Contains old g → Contains new g) → Covered old gap → Covered new gap
still_covered old new gap kept v = record { line = v.line; stands = kept v.line v.stands; beside = v.beside; less = v.less }

-- one piece of the list more
pub neighbour_more : (size : ℕ) (touch : ℕ → ℕ → Type 0) (numbers : List ℕ) (spans : List Span) (i j : ℕ) (near : List ℕ) (pair : Pair) (old lines new : List Gap) → pair ≡ pair_in numbers spans i j →
    CoversLines (IsNearLine size touch numbers spans i near) old lines → CoversLines (IsTouchLine size touch pair) lines new → CoversLines (IsNearLine size touch numbers spans i (near ++ j ∷ [])) old new
neighbour_more size touch numbers spans i j near pair old lines new e h k' = record { only = λ gap c. there gap (k.only gap c); kept = λ gap c. k.kept gap (h.kept gap c); each = back }
  where
    k : CoversLines (IsTouchLine size touch (pair_in numbers spans i j)) lines new
    k = subst (λ (p : Pair). CoversLines (IsTouchLine size touch p) lines new) e k'

    wider : (gap : Gap) → Contains old gap ⊎ IsNearLine size touch numbers spans i near gap → Contains old gap ⊎ IsNearLine size touch numbers spans i (near ++ j ∷ []) gap
    wider gap (inl c) = inl c
    wider gap (inr l) = inr record { piece = l.piece; stands = Contains-append_left near (j ∷ []) l.piece l.stands; near = l.near; pair = l.pair }

    there : (gap : Gap) → Contains lines gap ⊎ IsTouchLine size touch (pair_in numbers spans i j) gap → Contains old gap ⊎ IsNearLine size touch numbers spans i (near ++ j ∷ []) gap
    there gap (inl c) = wider gap (h.only gap c)
    there gap (inr l) = inr record { piece = j; stands = Contains-push near j; near = l.near; pair = record { order = l.order; line = l.line } }

    own : (gap : Gap) → IsNear size touch i j → IsPairLine numbers spans i j gap → Covered new gap
    own gap n l = k.each gap record { near = n; order = l.order; line = l.line }

    back : (gap : Gap) → IsNearLine size touch numbers spans i (near ++ j ∷ []) gap → Covered new gap
    back gap l = elim (Contains-push_cases near j l.piece l.stands) [
      | inl o ↦ still_covered lines new gap k.kept (h.each gap record { piece = l.piece; stands = o; near = l.near; pair = l.pair })
      | inr is ↦ own gap (subst (λ (z : ℕ). IsNear size touch i z) (sym is) l.near) (subst (λ (z : ℕ). IsPairLine numbers spans i z gap) (sym is) l.pair)
    ]

-- ---- what lines that stand already speak for

pub entry_within : (mixed last many : ℕ) → last < many → bit_and mixed last < many
entry_within mixed last many h = (let l = and_le_r mixed last in omega arith)

pub covered_none : (low high i j top : ℕ) (lines : List Gap) → (gap : Gap) → IsLineOf low high i j top top gap → Covered lines gap
covered_none low high i j top lines gap l = absurd (omega (arith, l.from_top, l.before_past))

pub covered_more : (low high i j top layer next : ℕ) (lines : List Gap) (line : Gap) → next ≡ layer + 1 → line.layer ≡ layer → line.low ≡ low → line.high ≡ high → line.first ≡ i → line.second ≡ j →
    Covered lines line → ((gap : Gap) → IsLineOf low high i j top layer gap → Covered lines gap) → (gap : Gap) → IsLineOf low high i j top next gap → Covered lines gap
covered_more low high i j top layer next lines line e p q r s t now before gap l = elim (cases_eq gap.layer layer) [
  | inl o ↦ subst (λ (z : Gap). Covered lines z) (same_line line gap (omega (arith, o, p)) (omega (arith, l.low_is, q)) (omega (arith, l.high_is, r)) (omega (arith, l.first_is, s)) (omega (arith, l.second_is, t))) now
  | inr apart ↦ before gap record { low_is = l.low_is; high_is = l.high_is; first_is = l.first_is; second_is = l.second_is; from_top = l.from_top; before_past = omega (arith, l.before_past) }
]

pub covered_all : (low high i j top past layer : ℕ) (lines : List Gap) → past ≤ layer → ((gap : Gap) → IsLineOf low high i j top layer gap → Covered lines gap) → (gap : Gap) → IsLineOf low high i j top past gap → Covered lines gap
covered_all low high i j top past layer lines over h gap l = h gap record { low_is = l.low_is; high_is = l.high_is; first_is = l.first_is; second_is = l.second_is; from_top = l.from_top; before_past = omega (arith, l.before_past) }

-- the least gather what all do
least_gather : (old new : List Gap) → AreFirsts (λ gap. Contains old gap) new → Gathers (λ gap. Contains old gap) new
least_gather old new f = record { only = f.only; each = each }
  where
    each : (gap : Gap) → Contains old gap → Covered new gap
    each gap k =
        let b : Beside new gap = f.all gap k in
        record { line = b.line; stands = b.stands; beside = b.beside; less = f.least b.line gap b.stands k b.beside }

-- and so does what is thinned, or stays
pub thinned : {A B : Type 0} (limit : ℕ) (old new : List Gap) → (length old < limit → (new ≡ old) × A) → (limit ≤ length old → AreFirsts (λ gap. Contains old gap) new × B) → Gathers (λ gap. Contains old gap) new
thinned limit old new few many = elim (cases_lt (length old) limit) [
  | inl l ↦ subst (λ (xs : List Gap). Gathers (λ gap. Contains old gap) xs) (sym (few l).0) record { only = λ gap k. k; each = itself old }
  | inr l ↦ least_gather old new (many l).0
]

pub gathers_on : {P : Gap → Type 0} (old new : List Gap) → Gathers P old → Gathers (λ gap. Contains old gap) new → Gathers P new
gathers_on {P} old new h k = record { only = λ gap c. h.only gap (k.only gap c); each = each }
  where
    each : (gap : Gap) → P gap → Covered new gap
    each gap p =
        let v : Covered old gap = h.each gap p in
        let w : Covered new v.line = k.each v.line v.stands in
        record { line = w.line; stands = w.stands; beside = beside_trans gap v.line w.line v.beside w.beside; less = less_trans w.line v.line gap w.less v.less }

-- the least of what gathers the lines of P are the least of P
pub firsts_on : (P : Gap → Type 0) (old new : List Gap) → Gathers P old → AreFirsts (λ gap. Contains old gap) new → AreFirsts P new
firsts_on P old new h f = record { rising = f.rising; only = λ gap k. h.only gap (f.only gap k); least = least; all = all }
  where
    least : (gap other : Gap) → Contains new gap → P other → IsBeside other gap → IsWithLess gap other
    least gap other k p b =
        let v : Covered old other = h.each other p in
        let back : IsBeside v.line other = (sym v.beside.0, sym v.beside.1, sym v.beside.2) in
        less_trans gap v.line other (f.least gap v.line k v.stands (beside_trans v.line other gap back b)) v.less

    all : (gap : Gap) → P gap → Beside new gap
    all gap p =
        let v : Covered old gap = h.each gap p in
        let w : Beside new v.line = f.all v.line v.stands in
        record { line = w.line; stands = w.stands; beside = beside_trans gap v.line w.line v.beside w.beside }

-- the lines whose first piece is before i
abbrev pub IsBeforeLine : ℕ → (ℕ → ℕ → Type 0) → List ℕ → List Span → ℕ → Gap → Type 0
IsBeforeLine size touch numbers spans i gap = (gap.first < i) × IsFieldLine size touch numbers spans gap

abbrev pub IsCollected : ℕ → (ℕ → ℕ → Type 0) → List ℕ → List Span → ℕ → List Gap → Type 0
IsCollected size touch numbers spans i lines = Gathers (IsBeforeLine size touch numbers spans i) lines

pub collected_none : (size : ℕ) (touch : ℕ → ℕ → Type 0) (numbers : List ℕ) (spans : List Span) → IsCollected size touch numbers spans 0 []
collected_none size touch numbers spans = record { only = λ gap k. absurd (omega (arith, k.1)); each = λ gap h. absurd (omega (arith, h.0)) }

-- the second piece of a line stands over the first
over : (numbers : List ℕ) (spans : List Span) (i j : ℕ) (gap : Gap) → IsPairLine numbers spans i j gap → IsOver numbers spans (net_of numbers i) (span_of spans i) j
over numbers spans i j gap l = (let from = l.line.from_top in let past = l.line.before_past in record { order = l.order; layer = omega arith })

pub collected_more : (size : ℕ) (touch : ℕ → ℕ → Type 0) (numbers : List ℕ) (spans : List Span) (i : ℕ) (near : List ℕ) (old new : List Gap) → ((q : ℕ) → IsOver numbers spans (net_of numbers i) (span_of spans i) q → IsNear size touch i q → Contains near q) →
    IsCollected size touch numbers spans i old → CoversLines (IsNearLine size touch numbers spans i near) old new → IsCollected size touch numbers spans (i + 1) new
collected_more size touch numbers spans i near old new whole h k = record { only = λ gap c. there gap (k.only gap c); each = λ gap l. back gap l.0 l.1 }
  where
    there : (gap : Gap) → Contains old gap ⊎ IsNearLine size touch numbers spans i near gap → IsBeforeLine size touch numbers spans (i + 1) gap
    there gap (inl c) = (let l = h.only gap c in (omega (arith, l.0), l.1))
    there gap (inr l) =
        let e : i ≡ gap.first = sym l.pair.line.first_is in
        let f : l.piece ≡ gap.second = sym l.pair.line.second_is in
        let n : IsNear size touch i gap.second = subst (λ (z : ℕ). IsNear size touch i z) f l.near in
        let p : IsPairLine numbers spans i gap.second gap = subst (λ (z : ℕ). IsPairLine numbers spans i z gap) f l.pair in
        (omega (arith, e), record { near = subst (λ (z : ℕ). IsNear size touch z gap.second) e n; pair = subst (λ (z : ℕ). IsPairLine numbers spans z gap.second gap) e p })

    own : (gap : Gap) → IsNear size touch i gap.second → IsPairLine numbers spans i gap.second gap → Covered new gap
    own gap n l = k.each gap record { piece = gap.second; stands = whole gap.second (over numbers spans i gap.second gap l) n; near = n; pair = l }

    back : (gap : Gap) → gap.first < i + 1 → IsFieldLine size touch numbers spans gap → Covered new gap
    back gap l f = elim (cases_eq gap.first i) [
      | inl e ↦ own gap (subst (λ (z : ℕ). IsNear size touch z gap.second) e f.near) (subst (λ (z : ℕ). IsPairLine numbers spans z gap.second gap) e f.pair)
      | inr apart ↦ still_covered old new gap k.kept (h.each gap (omega arith, f))
    ]

pub collected_all : (size : ℕ) (touch : ℕ → ℕ → Type 0) (numbers : List ℕ) (spans : List Span) (i : ℕ) (lines gaps : List Gap) → size ≤ i → IsCollected size touch numbers spans i lines → AreFirsts (λ gap. Contains lines gap) gaps → AreFirsts (IsFieldLine size touch numbers spans) gaps
collected_all size touch numbers spans i lines gaps past h f = firsts_on (IsFieldLine size touch numbers spans) lines gaps record { only = λ gap k. (h.only gap k).1; each = λ gap l. h.each gap (omega (arith, l.near.first), l) } f

-- ---- tests

pub sum_grows : (w : ℕ → ℕ) (i n : ℕ) → i ≤ n → sum_below w i ≤ sum_below w n
sum_grows w i zero h = (let e : i ≡ 0 = omega arith in subst (λ (z : ℕ). sum_below w z ≤ sum_below w 0) (sym e) (omega arith))
sum_grows w i (suc n) h = elim (cases_eq i (suc n)) [
  | inl e ↦ subst (λ (z : ℕ). sum_below w z ≤ sum_below w (suc n)) (sym e) (omega arith)
  | inr apart ↦ (let l : sum_below w i ≤ sum_below w n = sum_grows w i n (omega arith) in omega (arith, l))
]

pub one_row : (w : ℕ → ℕ) (i old tests new : ℕ) → tests ≤ old + sum_below w i → new ≤ tests + w i → new ≤ old + sum_below w (i + 1)
one_row w i old tests new h k = (let one : i + 1 ≡ suc i = omega arith in let e : sum_below w (i + 1) ≡ sum_below w (suc i) = ap (sum_below w) one in omega (arith, h, k, e))

pub rows_within : (w : ℕ → ℕ) (i n old new : ℕ) → i ≤ n → new ≤ old + sum_below w i → new ≤ old + sum_below w n
rows_within w i n old new within h = (let e = sum_grows w i n within in omega (arith, h, e))

-- the tests of a list of pieces, up to one of them
pub tested_within : (box : ℕ → Bounds) (top bottom : ℕ → ℕ) (near : List ℕ) (n i k q start before after : ℕ) → All (λ j. j < n) near → k < length near → q ≡ get_or near k 0 →
    before ≤ start + rivals_of (next_of near n k) box top bottom i → after ≤ before + (if is_rival box top bottom i q then 1 else 0) → after ≤ start + rivals_of n box top bottom i
tested_within box top bottom near n i k q start before after known inside is so_far step =
    let at : next_of near n k ≡ q = get_or_default near k n 0 inside ∙ sym is in
    let small : q < n = subst (λ (x : ℕ). x < n) (sym is) (known k 0 inside) in
    rivals_within n box top bottom i q start before after (subst (λ (m : ℕ). before ≤ start + rivals_of m box top bottom i) at so_far) step small
