-- Pieces that stand once, and where.
use Rattle.std.proofs.Common.{◌≡◌, ◌≢◌, ◌⊎◌, inl, inr, ℕ, ◌+◌, ◌<◌, ◌≤◌, List, [], length, get_or, set, Contains, AllPairs, sym, ap, subst, ◌∙◌, arith}
use Rattle.std.proofs.lemmas.List.{length-set, get_or-set_same, get_or-set_other, get_or_default, length-map}
use Rattle.std.proofs.lemmas.List.Elements.{All-get_or, All-from_get_or, Contains-get_or}
use Rattle.std.proofs.lemmas.Bool.{cases_eq}
use Rattle.verdict.specs.declared.verdict.Twig.{Twig}
use Rattle.verdict.specs.Forest.{StandOnce, Holds, net_at, pieces_of, piece_of}
use Rattle.verdict.specs.Places.{HasPlaces, twig_at}
use Rattle.verdict.proofs.Placing.{twig_inside, twig_piece}
use Rattle.witness_check.specs.Nets.{AreNew, HasStanding, IsStood}

-- the piece at place k
abbrev pub at_place : List Twig → ℕ → ℕ
at_place net k = get_or (pieces_of net) k 0

-- ---- A net

-- The tables have what they had of a piece, or it stands before place i.
abbrev IsKept : List Twig → ℕ → List ℕ → List ℕ → List ℕ → List ℕ → ℕ → Type 0
IsKept net i numbers places numbers' places' p = ((get_or numbers' p 0 ≡ get_or numbers p 0) × (get_or places' p 0 ≡ get_or places p 0)) ⊎ ((k : ℕ) × (k < i) × (at_place net k ≡ p))

-- The pieces before place i are new and different, and stand in the tables.
pub record IsStandingTo (none number : ℕ) (net : List Twig) (numbers places : List ℕ) (i : ℕ) (numbers' places' : List ℕ) : Type 0 where
  pub long : length numbers' ≡ length numbers
  pub room : length places' ≡ length places
  pub differ : (k l : ℕ) → k < l → l < i → at_place net k ≢ at_place net l
  pub fresh : (k : ℕ) → k < i → get_or numbers (at_place net k) 0 ≡ none
  pub inside : (k : ℕ) → k < i → get_or numbers' (at_place net k) 0 ≡ number
  pub placed : (k : ℕ) → k < i → get_or places' (at_place net k) 0 ≡ k
  pub outside : (p : ℕ) → IsKept net i numbers places numbers' places' p

-- the next piece is another than those before it
is_other : (none number : ℕ) (net : List Twig) (numbers places : List ℕ) (i : ℕ) (numbers' places' : List ℕ) (q k : ℕ) → number < none → IsStandingTo none number net numbers places i numbers' places' → get_or numbers' q 0 ≡ none → k < i → at_place net k ≢ q
is_other none number net numbers places i numbers' places' q k low m off below same =
    let e = m.inside k below in
    let f : get_or numbers' (at_place net k) 0 ≡ none = ap (λ (x : ℕ). get_or numbers' x 0) same ∙ off in
    omega arith

-- what the next piece had at first
had_none : (none number : ℕ) (net : List Twig) (numbers places : List ℕ) (i : ℕ) (numbers' places' : List ℕ) (q : ℕ) → number < none → IsStandingTo none number net numbers places i numbers' places' → get_or numbers' q 0 ≡ none → get_or numbers q 0 ≡ none
had_none none number net numbers places i numbers' places' q low m off = elim (m.outside q) [
  | inl kept ↦ sym kept.0 ∙ off
  | inr (k, below, same) ↦ absurd (is_other none number net numbers places i numbers' places' q k low m off below same)
]

pub standing_more : (none number : ℕ) (net : List Twig) (numbers places : List ℕ) (i : ℕ) (numbers' places' : List ℕ) (q : ℕ) → number < none → IsStandingTo none number net numbers places i numbers' places' → q ≡ at_place net i → q < length numbers' → q < length places' → get_or numbers' q 0 ≡ none
    → IsStandingTo none number net numbers places (i + 1) (set numbers' q number) (set places' q i)
standing_more none number net numbers places i numbers' places' q low m item below within off = record {
  long = length-set numbers' q number ∙ m.long;
  room = length-set places' q i ∙ m.room;
  differ = λ k l h b. elim (cases_eq l i) [
    | inl same ↦ λ e. is_other none number net numbers places i numbers' places' q k low m off (omega arith) (e ∙ (ap (at_place net) same ∙ sym item))
    | inr other ↦ m.differ k l h (omega arith)
  ];
  fresh = λ k h. elim (cases_eq k i) [
    | inl same ↦ ap (λ (x : ℕ). get_or numbers x 0) (ap (at_place net) same ∙ sym item) ∙ had_none none number net numbers places i numbers' places' q low m off
    | inr other ↦ m.fresh k (omega arith)
  ];
  inside = λ k h. elim (cases_eq k i) [
    | inl same ↦ ap (λ (x : ℕ). get_or (set numbers' q number) x 0) (ap (at_place net) same ∙ sym item) ∙ get_or-set_same numbers' q number 0 below
    | inr other ↦ get_or-set_other numbers' q (at_place net k) number 0 (is_other none number net numbers places i numbers' places' q k low m off (omega arith)) ∙ m.inside k (omega arith)
  ];
  placed = λ k h. elim (cases_eq k i) [
    | inl same ↦ ap (λ (x : ℕ). get_or (set places' q i) x 0) (ap (at_place net) same ∙ sym item) ∙ (get_or-set_same places' q i 0 within ∙ sym same)
    | inr other ↦ get_or-set_other places' q (at_place net k) i 0 (is_other none number net numbers places i numbers' places' q k low m off (omega arith)) ∙ m.placed k (omega arith)
  ];
  outside = λ p. elim (cases_eq p q) [
    | inl same ↦ inr (i, omega arith, sym item ∙ sym same)
    | inr other ↦ elim (m.outside p) [
      | inl kept ↦ inl (get_or-set_other numbers' q p number 0 other ∙ kept.0, get_or-set_other places' q p i 0 other ∙ kept.1)
      | inr (k, b, e) ↦ inr (k, omega arith, e)
    ]
  ];
}

pub standing_stops : (none number : ℕ) (net : List Twig) (numbers places : List ℕ) (i : ℕ) (numbers' places' : List ℕ) → IsStandingTo none number net numbers places i numbers' places' → i < length net → (get_or numbers' (at_place net i) 0 ≡ none → ⊥) → AreNew none net numbers → ⊥
standing_stops none number net numbers places i numbers' places' m within on (once, new) =
    let long = length-map net piece_of in
    elim (m.outside (at_place net i)) [
      | inl kept ↦ on (kept.0 ∙ new (at_place net i) (Contains-get_or (pieces_of net) i 0 (omega arith)))
      | inr (k, below, same) ↦ once k i 0 below (omega arith) same
    ]

pub standing_done : (none number : ℕ) (net : List Twig) (numbers places : List ℕ) (i : ℕ) (numbers' places' : List ℕ) → IsStandingTo none number net numbers places i numbers' places' → length net ≤ i → AreNew none net numbers
standing_done none number net numbers places i numbers' places' m all =
    let long = length-map net piece_of in (
      (λ k l d h b same. m.differ k l h (omega arith) (get_or_default (pieces_of net) k 0 d (omega arith) ∙ (same ∙ get_or_default (pieces_of net) l d 0 b))),
      λ p h. let below = h.1 in ap (λ (x : ℕ). get_or numbers x 0) (sym (get_or_default (pieces_of net) h.0 0 p below ∙ h.2)) ∙ m.fresh h.0 (omega arith),
    )

pub standing_stood : (none number : ℕ) (net : List Twig) (numbers places : List ℕ) (i : ℕ) (numbers' places' : List ℕ) → IsStandingTo none number net numbers places i numbers' places' → i ≡ length net → length places ≡ length numbers → ((p : ℕ) → Contains (pieces_of net) p → p < length numbers)
    → IsStood number net numbers places numbers' places'
standing_stood none number net numbers places i numbers' places' m all same known =
    let long = length-map net piece_of in
    record {
      inside = λ p h. let below = h.1 in ap (λ (x : ℕ). get_or numbers' x 0) (sym (get_or_default (pieces_of net) h.0 0 p below ∙ h.2)) ∙ m.inside h.0 (omega arith);
      placed = λ k below. ((let e = known (twig_at net k).piece (twig_inside net k below) in let f = m.room in omega arith), ap (λ (x : ℕ). get_or places' x 0) (sym (twig_piece net k below)) ∙ m.placed k (omega arith));
      outside = λ p. elim (m.outside p) [ inl kept ↦ inl kept | inr (k, below, at) ↦ inr (k, omega arith, get_or_default (pieces_of net) k p 0 (omega arith) ∙ at) ];
    }

-- ---- All nets

-- The pieces of the nets before i stand once, and stand in the tables.
pub record AreStandingTo (none : ℕ) (nets : List (List Twig)) (count i : ℕ) (numbers places : List ℕ) : Type 0 where
  pub long : length numbers ≡ count
  pub room : length places ≡ count
  pub done : (k p : ℕ) → k < i → Holds nets k p → get_or numbers p 0 ≡ k
  pub only : (p : ℕ) → p < count → (get_or numbers p 0 ≡ none) ⊎ ((k : ℕ) × (k < i) × Holds nets k p)
  pub differ : (k : ℕ) → k < i → AllPairs (λ p q. p ≢ q) (pieces_of (net_at nets k))
  pub placed : (k : ℕ) → k < i → HasPlaces (net_at nets k) places

-- a net before i keeps its places
places_kept : (none : ℕ) (nets : List (List Twig)) (count i : ℕ) (numbers places numbers' places' : List ℕ) → i < none → AreStandingTo none nets count i numbers places → length places' ≡ length places → AreNew none (net_at nets i) numbers → IsStood i (net_at nets i) numbers places numbers' places'
    → (k : ℕ) → k < i → HasPlaces (net_at nets k) places'
places_kept none nets count i numbers places numbers' places' low m room new stood k before j below =
    let p : ℕ = (twig_at (net_at nets k) j).piece in
    let was = m.placed k before j below in
    let number = m.done k p before (twig_inside (net_at nets k) j below) in (
      (let e = was.0 in omega arith),
      elim (stood.outside p) [
        | inl kept ↦ kept.1 ∙ was.1
        | inr here ↦ absurd (let e = new.1 p here in omega arith)
      ],
    )

pub stood_more : (none : ℕ) (nets : List (List Twig)) (count i : ℕ) (numbers places numbers' places' : List ℕ) → i < none → AreStandingTo none nets count i numbers places → length numbers' ≡ length numbers → length places' ≡ length places → AreNew none (net_at nets i) numbers → IsStood i (net_at nets i) numbers places numbers' places'
    → AreStandingTo none nets count (i + 1) numbers' places'
stood_more none nets count i numbers places numbers' places' low m long room new stood = record {
  long = long ∙ m.long;
  room = room ∙ m.room;
  done = λ k p h held. elim (cases_eq k i) [
    | inl same ↦ stood.inside p (subst (λ (x : ℕ). Holds nets x p) same held) ∙ sym same
    | inr other ↦ elim (stood.outside p) [
      | inl kept ↦ kept.0 ∙ m.done k p (omega arith) held
      | inr here ↦ absurd (let e = new.1 p here in let f = m.done k p (omega arith) held in omega arith)
    ]
  ];
  only = λ p b. elim (stood.outside p) [
    | inl kept ↦ elim (m.only p b) [ inl off ↦ inl (kept.0 ∙ off) | inr (k, l, held) ↦ inr (k, omega arith, held) ]
    | inr here ↦ inr (i, omega arith, here)
  ];
  differ = λ k h. elim (cases_eq k i) [ inl same ↦ subst (λ (x : ℕ). AllPairs (λ p q. p ≢ q) (pieces_of (net_at nets x))) (sym same) new.0 | inr other ↦ m.differ k (omega arith) ];
  placed = λ k h. elim (cases_eq k i) [ inl same ↦ subst (λ (x : ℕ). HasPlaces (net_at nets x) places') (sym same) stood.placed | inr other ↦ places_kept none nets count i numbers places numbers' places' low m room new stood k (omega arith) ];
}

pub stood_stops : (none : ℕ) (nets : List (List Twig)) (count i : ℕ) (numbers places : List ℕ) → AreStandingTo none nets count i numbers places → i < length nets → ((j p : ℕ) → Holds nets j p → p < count) → (AreNew none (net_at nets i) numbers → ⊥) → StandOnce count nets → ⊥
stood_stops none nets count i numbers places m within known not once =
    not (
      All-get_or (λ net. AllPairs (λ p q. p ≢ q) (pieces_of net)) nets i [] within once.one_place,
      λ p held. elim (m.only p (known i p held)) [ inl off ↦ off | inr (k, l, there) ↦ absurd (let same = once.one_net k i p there held in omega arith) ],
    )

pub stood_all : (none : ℕ) (nets : List (List Twig)) (count i : ℕ) (numbers places : List ℕ) → AreStandingTo none nets count i numbers places → i ≡ length nets → ((j p : ℕ) → Holds nets j p → j < length nets) → ((p : ℕ) → p < length numbers → get_or numbers p 0 ≢ none) → HasStanding count nets numbers places
stood_all none nets count i numbers places m all within numbered = record {
  once = record {
    held = λ p h. elim (m.only p h) [ inl off ↦ absurd (numbered p (let e = m.long in omega arith) off) | inr (k, l, there) ↦ (k, there) ];
    one_net = λ k l p a c. sym (m.done k p (let e = within k p a in omega arith) a) ∙ m.done l p (let e = within l p c in omega arith) c;
    one_place = All-from_get_or (λ net. AllPairs (λ p q. p ≢ q) (pieces_of net)) nets [] (λ k h. m.differ k (omega arith));
  };
  long = m.long;
  numbered = λ k p held. m.done k p (let e = within k p held in omega arith) held;
  placed = λ k below. m.placed k (omega arith);
}

pub stood_missing : (none : ℕ) (nets : List (List Twig)) (count i : ℕ) (numbers places : List ℕ) → AreStandingTo none nets count i numbers places → i ≡ length nets → length nets ≤ none → ((j p : ℕ) → Holds nets j p → j < length nets) → StandOnce count nets → (p : ℕ) → p < length numbers → get_or numbers p 0 ≢ none
stood_missing none nets count i numbers places m all few within once p below off =
    let home = once.held p (let e = m.long in omega arith) in
    let h = within home.0 p home.1 in
    let n = m.done home.0 p (omega arith) home.1 in
    omega arith
