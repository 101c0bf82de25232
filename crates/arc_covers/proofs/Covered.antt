-- A chain that holds a piece covers it.
use Rattle.std.proofs.Common.{◌≡◌, ◌↔◌, ◌⊎◌, inl, inr, ℕ, zero, suc, ◌+◌, ◌≤◌, ◌<◌, ℤ, List, [], ◌∷◌, length, Some, slice_get, Contains, refl, sym, ◌∙◌, subst, arith}
use Rattle.std.proofs.lemmas.Option.{same_Some}
use Rattle.std.specs.Bool.{⊤}
use Rattle.planar.specs.Plane.{InCapsule, Point, at}
use Rattle.planar.specs.declared.Spot.{Spot}
use Rattle.planar.proofs.Meet.{holds_start, holds_end}
use Rattle.tables.specs.Chains.{IsChain}
use Rattle.board_shapes.specs.Spans.{InSpan}
use Rattle.arcs.specs.Copper.{InChain, InFrom}
use Rattle.covers.specs.Boards.{Joined, Layout, Span, TouchAt}
use Rattle.covers.specs.Covering.{HasAt, IsCovered}

-- the pieces from number `first` on are the capsules of the chain, each on the layers of the span
abbrev pub AreLinks : (ℕ → Point → Type 0) → Layout → Span → ℕ → Spot → List Spot → ℤ → Type 0
AreLinks holds b span first a [] r = ⊤
AreLinks holds b span first a (d ∷ rest) r = (slice_get b.spans first ≡ Some span) × ((p : Point) → InCapsule a d r p ↔ holds first p) × AreLinks holds b span (suc first) d rest r

abbrev pub AreChain : (ℕ → Point → Type 0) → Layout → Span → ℕ → List Spot → ℤ → Type 0
AreChain holds b span first [] r = ⊤
AreChain holds b span first (a ∷ rest) r = AreLinks holds b span first a rest r

abbrev numbers : ℕ → List Spot → List ℕ
numbers first [] = []
numbers first (d ∷ rest) = first ∷ numbers (suc first) rest

later : (x j : ℕ) (xs : List ℕ) → Contains xs j → Contains (x ∷ xs) j
later x j xs (k, within, same) = (suc k, omega arith, same)

first_or_later : (x j : ℕ) (xs : List ℕ) → Contains (x ∷ xs) j → (x ≡ j) ⊎ Contains xs j
first_or_later x j xs (zero, within, same) = inl same
first_or_later x j xs (suc k, within, same) = inr (k, omega arith, same)

module _ (holds : ℕ → Point → Type 0) (b : Layout) (holds' : ℕ → Point → Type 0) (c : Layout) (span : Span) (r : ℤ) (some : span.top ≤ span.bottom) where
  one : (first layer : ℕ) (a : Spot) (rest : List Spot) (p : Point) → AreLinks holds' c span first a rest r → InSpan span.top span.bottom layer → InFrom a rest r p → (j : ℕ) × Contains (numbers first rest) j × HasAt holds' c j layer p
  one first layer a [] p links on none = absurd none
  one first layer a (d ∷ rest) p links on (inl h) = (first, (0, omega arith, refl), record { span = span; span_is = links.0; layers = on; place = (links.1 p).0 h })
  one first layer a (d ∷ rest) p links on (inr h) =
      let w = one (suc first) layer d rest p links.2 on h in
      (w.0, later first w.0 (numbers (suc first) rest) w.1, w.2)

  forth : (first : ℕ) (a d e : Spot) (rest : List Spot) → AreLinks holds' c span first a (d ∷ e ∷ rest) r → TouchAt holds' c first (suc first) × TouchAt holds' c (suc first) first
  forth first a d e rest links = (
    record { first = span; second = span; first_is = links.0; second_is = links.2.0; layer = omega arith; share = record { point = at d; in_first = (links.1 (at d)).0 (holds_end a d r); in_second = (links.2.1 (at d)).0 (holds_start d e r) } },
    record { first = span; second = span; first_is = links.2.0; second_is = links.0; layer = omega arith; share = record { point = at d; in_first = (links.2.1 (at d)).0 (holds_start d e r); in_second = (links.1 (at d)).0 (holds_end a d r) } },
  )

  along : (p q s : ℕ) → TouchAt holds' c p q → Joined holds' c q s → Joined holds' c p s
  along p q s touch (chain, h) = (q ∷ chain, (touch, h))

  behind : (chain : List ℕ) (p q s : ℕ) → IsChain (TouchAt holds' c) p chain q → TouchAt holds' c q s → Joined holds' c p s
  behind [] p q s same touch = (s ∷ [], (subst (λ (n : ℕ). TouchAt holds' c n s) (sym same) touch, refl))
  behind (n ∷ chain) p q s (step, more) touch = along p n s step (behind chain n q s more touch)

  joined : (first : ℕ) (a : Spot) (rest : List Spot) → AreLinks holds' c span first a rest r → (j k : ℕ) → Contains (numbers first rest) j → Contains (numbers first rest) k → Joined holds' c j k
  joined first a [] links j k (n, within, same) g = absurd (omega arith)
  joined first a (d ∷ []) links j k h g = by (first_or_later first j [] h) (first_or_later first k [] g)
    where
      by : (first ≡ j) ⊎ Contains [] j → (first ≡ k) ⊎ Contains [] k → Joined holds' c j k
      by (inl x) (inl y) = ([], sym x ∙ y)
      by (inl x) (inr (n, within, same)) = absurd (omega arith)
      by (inr (n, within, same)) y = absurd (omega arith)
  joined first a (d ∷ e ∷ rest) links j k h g = by (joined (suc first) d (e ∷ rest) links.2) (first_or_later first j (numbers (suc first) (e ∷ rest)) h) (first_or_later first k (numbers (suc first) (e ∷ rest)) g)
    where
      next : Contains (numbers (suc first) (e ∷ rest)) (suc first)
      next = (0, omega arith, refl)

      by : ((j k : ℕ) → Contains (numbers (suc first) (e ∷ rest)) j → Contains (numbers (suc first) (e ∷ rest)) k → Joined holds' c j k) → (first ≡ j) ⊎ Contains (numbers (suc first) (e ∷ rest)) j → (first ≡ k) ⊎ Contains (numbers (suc first) (e ∷ rest)) k → Joined holds' c j k
      by more (inl x) (inl y) = ([], sym x ∙ y)
      by more (inl x) (inr y) = subst (λ (n : ℕ). Joined holds' c n k) x (along first (suc first) k (forth first a d e rest links).0 (more (suc first) k next y))
      by more (inr x) (inl y) = let w = more j (suc first) x next in subst (λ (n : ℕ). Joined holds' c j n) y (behind w.0 j (suc first) first w.1 (forth first a d e rest links).1)
      by more (inr x) (inr y) = more j k x y

  pub covered : (i first : ℕ) (chain : List Spot) → slice_get b.spans i ≡ Some span → AreChain holds' c span first chain r → ((p : Point) → holds i p → InChain chain r p) → IsCovered holds b holds' c i
  covered i first [] is links holds_all = record { cover = []; covers = λ layer p h. absurd (holds_all p h.place); joined = λ j k (n, within, same) g. absurd (omega arith) }
  covered i first (a ∷ rest) is links holds_all = record {
    cover = numbers first rest;
    covers = λ layer p h. let same : h.span ≡ span = same_Some h.span span (sym h.span_is ∙ is) in one first layer a rest p links (subst (λ (s : Span). InSpan s.top s.bottom layer) same h.layers) (holds_all p h.place);
    joined = joined first a rest links;
  }

-- ---- pieces that hold it together, the first of which touches each other

abbrev upto : ℕ → ℕ → List ℕ
upto first zero = []
upto first (suc n) = first ∷ upto (suc first) n

in_upto : (first n j : ℕ) → first ≤ j → j < first + n → Contains (upto first n) j
in_upto first zero j from to = absurd (omega arith)
in_upto first (suc n) j from to = elim (cases first j from) [
  | inl same ↦ (0, omega arith, same)
  | inr more ↦ later first j (upto (suc first) n) (in_upto (suc first) n j more (omega arith))
]
  where
    cases : (n m : ℕ) → n ≤ m → (n ≡ m) ⊎ (suc n ≤ m)
    cases n m h = grind arith

of_upto : (first n j : ℕ) → Contains (upto first n) j → (first ≤ j) × (j < first + n)
of_upto first zero j (k, within, same) = absurd (omega arith)
of_upto first (suc n) j h = elim (first_or_later first j (upto (suc first) n) h) [
  | inl same ↦ (omega arith, omega arith)
  | inr k ↦ let w = of_upto (suc first) n j k in let from = w.0 in let to = w.1 in (omega arith, omega arith)
]

pub star : (holds : ℕ → Point → Type 0) (b : Layout) (holds' : ℕ → Point → Type 0) (c : Layout) (span : Span) (i first n : ℕ) → slice_get b.spans i ≡ Some span
    → ((p : Point) → holds i p → (j : ℕ) × (first ≤ j) × (j < first + suc n) × (slice_get c.spans j ≡ Some span) × holds' j p)
    → ((j : ℕ) → suc first ≤ j → j < suc first + n → TouchAt holds' c first j × TouchAt holds' c j first) → IsCovered holds b holds' c i
star holds b holds' c span i first n is holds_all touch = record {
  cover = upto first (suc n);
  covers = λ layer p h.
      let same : h.span ≡ span = same_Some h.span span (sym h.span_is ∙ is) in
      let w = holds_all p h.place in (w.0, in_upto first (suc n) w.0 w.1 w.2, record { span = span; span_is = w.3; layers = subst (λ (s : Span). InSpan s.top s.bottom layer) same h.layers; place = w.4 });
  joined = λ j k h g. by j k (first_or_later first j (upto (suc first) n) h) (first_or_later first k (upto (suc first) n) g);
}
  where
    near : (j : ℕ) → Contains (upto (suc first) n) j → TouchAt holds' c first j × TouchAt holds' c j first
    near j h = let w = of_upto (suc first) n j h in touch j w.0 w.1

    by : (j k : ℕ) → (first ≡ j) ⊎ Contains (upto (suc first) n) j → (first ≡ k) ⊎ Contains (upto (suc first) n) k → Joined holds' c j k
    by j k (inl x) (inl y) = ([], sym x ∙ y)
    by j k (inl x) (inr y) = (k ∷ [], (subst (λ (m : ℕ). TouchAt holds' c m k) x (near k y).0, refl))
    by j k (inr x) (inl y) = (k ∷ [], (subst (λ (m : ℕ). TouchAt holds' c j m) y (near j x).1, refl))
    by j k (inr x) (inr y) = (first ∷ k ∷ [], ((near j x).1, ((near k y).0, refl)))

-- ---- and the other way round: each capsule of a chain that lies in a piece is covered by it

module _ (holds : ℕ → Point → Type 0) (b : Layout) (holds' : ℕ → Point → Type 0) (c : Layout) (span : Span) (r : ℤ) (i : ℕ) (there : slice_get c.spans i ≡ Some span) where
  pub by_piece : (j : ℕ) → slice_get b.spans j ≡ Some span → ((p : Point) → holds j p → holds' i p) → IsCovered holds b holds' c j
  by_piece j is inside = record {
    cover = i ∷ [];
    covers = λ layer p h. let same : h.span ≡ span = same_Some h.span span (sym h.span_is ∙ is) in (i, (0, omega arith, refl), record { span = span; span_is = there; layers = subst (λ (s : Span). InSpan s.top s.bottom layer) same h.layers; place = inside p h.place });
    joined = λ k l h g. ([], by k l (first_or_later i k [] h) (first_or_later i l [] g));
  }
    where
      by : (k l : ℕ) → (i ≡ k) ⊎ Contains [] k → (i ≡ l) ⊎ Contains [] l → k ≡ l
      by k l (inl x) (inl y) = sym x ∙ y
      by k l (inl x) (inr (n, within, same)) = absurd (omega arith)
      by k l (inr (n, within, same)) y = absurd (omega arith)

  link : (first : ℕ) (a : Spot) (rest : List Spot) → AreLinks holds b span first a rest r → ((p : Point) → InFrom a rest r p → holds' i p) → (j : ℕ) → first ≤ j → j < first + length rest → IsCovered holds b holds' c j
  link first a [] links all j from to = absurd (omega arith)
  link first a (d ∷ rest) links all j from to = elim (cases first j from) [
    | inl same ↦ subst (λ (n : ℕ). IsCovered holds b holds' c n) same (by_piece first links.0 (λ p h. all p (inl ((links.1 p).1 h))))
    | inr more ↦ link (suc first) d rest links.2 (λ p h. all p (inr h)) j more (omega arith)
  ]
    where
      cases : (n m : ℕ) → n ≤ m → (n ≡ m) ⊎ (suc n ≤ m)
      cases n m h = grind arith

  pub linked : (first : ℕ) (chain : List Spot) → AreChain holds b span first chain r → ((p : Point) → InChain chain r p → holds' i p) → (j : ℕ) → first ≤ j → j + 1 < first + length chain → IsCovered holds b holds' c j
  linked first [] links all j from to = absurd (omega arith)
  linked first (a ∷ rest) links all j from to = link first a rest links all j from (omega arith)
