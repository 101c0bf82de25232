-- Trees tested twig by twig, net by net.
use Rattle.std.proofs.Common.{◌≡◌, ◌≢◌, ◌⊎◌, inl, inr, ℕ, zero, suc, ◌+◌, ◌<◌, ◌≤◌, List, [], ◌∷◌, ◌++◌, length, get_or, set, take, drop, Contains, All, None, refl, sym, ap, subst, ◌∙◌, append_assoc, append-nil, arith}
use Rattle.std.proofs.lemmas.List.{length-set, get_or-set_same, get_or-set_other, get_or_default, get_or-map, length-map, take_all, take_more, take-append-drop}
use Rattle.std.proofs.lemmas.List.Elements.{All-push, All-get_or, All-from_get_or, Contains-push, Contains-push_cases, Contains-append_left, Contains-get_or}
use Rattle.std.proofs.lemmas.Bool.{cases_eq}
use Rattle.verdict.specs.declared.verdict.Twig.{Twig}
use Rattle.verdict.specs.Forest.{IsTree, Hang, HangsOn, AreTrees, Holds, net_at, pieces_of, piece_of, first_piece}
use Rattle.verdict.proofs.Trees.{pieces-push}
use Rattle.witness_check.specs.Nets.{IsKnownTree, HangsByStamp, twig_count}

pub hang_more : (near : ℕ → ℕ → Type 0) (earlier : List ℕ) (rest : List Twig) (t : Twig) → Hang near earlier rest → HangsOn near (earlier ++ pieces_of rest) t → Hang near earlier (rest ++ t ∷ [])
hang_more near earlier [] t hang h = (record { parent = h.parent; named = h.named; stands = subst (λ (xs : List ℕ). Contains xs h.parent) (append-nil earlier) h.stands; touches = h.touches }, tt)
hang_more near earlier (s ∷ rest) t (here, hang) h = (here, hang_more near (earlier ++ s.piece ∷ []) rest t hang (record { parent = h.parent; named = h.named; stands = subst (λ (xs : List ℕ). Contains xs h.parent) (sym (append_assoc earlier (s.piece ∷ []) (pieces_of rest))) h.stands; touches = h.touches }))

pub tree_more : (near : ℕ → ℕ → Type 0) (net : List Twig) (t : Twig) → IsTree near net → HangsOn near (pieces_of net) t → first_piece net ≤ t.piece → IsTree near (net ++ t ∷ [])
tree_more near [] t tree h least = absurd tree
tree_more near (s ∷ rest) t (root, all, hang) h least = (root, All-push (λ x. s.piece ≤ x.piece) rest t all least, hang_more near (s.piece ∷ []) rest t hang h)

hang_front : (near : ℕ → ℕ → Type 0) (earlier : List ℕ) (a b : List Twig) → Hang near earlier (a ++ b) → Hang near earlier a
hang_front near earlier [] b hang = tt
hang_front near earlier (t ∷ a) b (here, hang) = (here, hang_front near (earlier ++ t.piece ∷ []) a b hang)

all_front_at : (P : Twig → Type 0) (a b : List Twig) → All P (a ++ b) → (k : ℕ) (d : Twig) → k < length a → P (get_or a k d)
all_front_at P [] b all k d h = absurd (omega arith)
all_front_at P (t ∷ a) b all zero d h = all 0 d (omega arith)
all_front_at P (t ∷ a) b all (suc k) d h = all_front_at P a b (λ i e low. all (suc i) e (omega arith)) k d (omega arith)

all_front : (P : Twig → Type 0) (a b : List Twig) → All P (a ++ b) → All P a
all_front P a b all = all_front_at P a b all

tree_front : (near : ℕ → ℕ → Type 0) (a b : List Twig) → 0 < length a → IsTree near (a ++ b) → IsTree near a
tree_front near [] b some tree = absurd (omega arith)
tree_front near (t ∷ a) b some (root, all, hang) = (root, all_front (λ s. t.piece ≤ s.piece) a b all, hang_front near (t.piece ∷ []) a b hang)

hang_last : (near : ℕ → ℕ → Type 0) (earlier : List ℕ) (a : List Twig) (t : Twig) → Hang near earlier (a ++ t ∷ []) → HangsOn near (earlier ++ pieces_of a) t
hang_last near earlier [] t (here, hang) = record { parent = here.parent; named = here.named; stands = subst (λ (xs : List ℕ). Contains xs here.parent) (sym (append-nil earlier)) here.stands; touches = here.touches }
hang_last near earlier (s ∷ a) t (here, hang) = let h = hang_last near (earlier ++ s.piece ∷ []) a t hang in record { parent = h.parent; named = h.named; stands = subst (λ (xs : List ℕ). Contains xs h.parent) (append_assoc earlier (s.piece ∷ []) (pieces_of a)) h.stands; touches = h.touches }

all_last : (P : Twig → Type 0) (a : List Twig) (t : Twig) → All P (a ++ t ∷ []) → P t
all_last P [] t all = all 0 t (omega arith)
all_last P (s ∷ a) t all = all_last P a t (λ i e low. all (suc i) e (omega arith))

tree_last : (near : ℕ → ℕ → Type 0) (a : List Twig) (t : Twig) → 0 < length a → IsTree near (a ++ t ∷ []) → (first_piece a ≤ t.piece) × HangsOn near (pieces_of a) t
tree_last near [] t some tree = absurd (omega arith)
tree_last near (s ∷ a) t some (root, all, hang) = (all_last (λ x. s.piece ≤ x.piece) a t all, hang_last near (s.piece ∷ []) a t hang)

first_taken : (net : List Twig) (j : ℕ) → 0 < j → first_piece (take j net) ≡ first_piece net
first_taken net zero some = absurd (omega arith)
first_taken [] (suc j) some = refl
first_taken (t ∷ rest) (suc j) some = refl

pub first_is : (net : List Twig) → (get_or net 0 (record { piece = 0; parent = None })).piece ≡ first_piece net
first_is [] = refl
first_is (t ∷ rest) = refl

-- The twigs before j are a tree, and the pieces with the stamp are theirs.
pub record IsJudging (count : ℕ) (near : ℕ → ℕ → Type 0) (net : List Twig) (stamp j : ℕ) (stamps : List ℕ) : Type 0 where
  pub some : 0 < j
  pub within : j ≤ length net
  pub long : length stamps ≡ count
  pub tree : IsTree near (take j net)
  pub known : (p : ℕ) → Contains (pieces_of (take j net)) p → p < count
  pub stamped : (p : ℕ) → get_or stamps p 0 ≡ stamp → Contains (pieces_of (take j net)) p
  pub stamps_of : (p : ℕ) → Contains (pieces_of (take j net)) p → get_or stamps p 0 ≡ stamp
  pub most : (q : ℕ) → get_or stamps q 0 ≤ stamp

set_cases : (P : ℕ → ℕ → Type 0) (stamps : List ℕ) (p stamp q : ℕ) → p < length stamps → P p stamp → (q ≢ p → P q (get_or stamps q 0)) → P q (get_or (set stamps p stamp) q 0)
set_cases P stamps p stamp q below here there = elim (cases_eq q p) [
  | inl same ↦ subst (λ (x : ℕ). P x (get_or (set stamps p stamp) x 0)) (sym same) (subst (λ (v : ℕ). P p v) (sym (get_or-set_same stamps p stamp 0 below)) here)
  | inr other ↦ subst (λ (v : ℕ). P q v) (sym (get_or-set_other stamps p q stamp 0 other)) (there other)
]

pub judging_more : (count : ℕ) (near : ℕ → ℕ → Type 0) (net : List Twig) (stamp j : ℕ) (stamps : List ℕ) → IsJudging count near net stamp j stamps → j < length net → HangsByStamp count near stamps stamp (first_piece net) (get_or net j (record { piece = 0; parent = None })) → IsJudging count near net stamp (j + 1) (set stamps (get_or net j (record { piece = 0; parent = None })).piece stamp)
judging_more count near net stamp j stamps g below h =
    let t : Twig = get_or net j (record { piece = 0; parent = None }) in
    let more : take (j + 1) net ≡ take j net ++ t ∷ [] = take_more net j (record { piece = 0; parent = None }) below in
    let pieces : pieces_of (take (j + 1) net) ≡ pieces_of (take j net) ++ t.piece ∷ [] = ap pieces_of more ∙ pieces-push (take j net) t in
    let room : t.piece < length stamps = let a = h.known in let b = g.long in omega arith in
    record {
      some = omega arith;
      within = omega arith;
      long = length-set stamps t.piece stamp ∙ g.long;
      tree = subst (λ (n : List Twig). IsTree near n) (sym more) (tree_more near (take j net) t g.tree
          (record { parent = h.parent; named = h.named; stands = g.stamped h.parent h.stamped; touches = h.touches }) (subst (λ (x : ℕ). x ≤ t.piece) (sym (first_taken net j g.some)) h.least));
      known = λ p inside. elim (Contains-push_cases (pieces_of (take j net)) t.piece p (subst (λ (xs : List ℕ). Contains xs p) pieces inside)) [ inl old ↦ g.known p old | inr same ↦ subst (λ (x : ℕ). x < count) same h.known ];
      stamped = λ p on. subst (λ (xs : List ℕ). Contains xs p) (sym pieces) (elim (cases_eq p t.piece) [
        | inl same ↦ subst (λ (x : ℕ). Contains (pieces_of (take j net) ++ t.piece ∷ []) x) (sym same) (Contains-push (pieces_of (take j net)) t.piece)
        | inr other ↦ Contains-append_left (pieces_of (take j net)) (t.piece ∷ []) p (g.stamped p (sym (get_or-set_other stamps t.piece p stamp 0 other) ∙ on))
      ]);
      stamps_of = λ p inside. elim (cases_eq p t.piece) [
        | inl same ↦ ap (λ (x : ℕ). get_or (set stamps t.piece stamp) x 0) same ∙ get_or-set_same stamps t.piece stamp 0 room
        | inr other ↦ get_or-set_other stamps t.piece p stamp 0 other ∙ elim (Contains-push_cases (pieces_of (take j net)) t.piece p (subst (λ (xs : List ℕ). Contains xs p) pieces inside)) [ inl old ↦ g.stamps_of p old | inr same ↦ absurd (other (sym same)) ]
      ];
      most = λ q. set_cases (λ k v. v ≤ stamp) stamps t.piece stamp q room (omega arith) (λ other. g.most q);
    }

taken_long : (net : List Twig) (j : ℕ) → 0 < j → j ≤ length net → 0 < length (take j net)
taken_long net zero a b = absurd (omega arith)
taken_long [] (suc j) a b = absurd (omega arith)
taken_long (t ∷ rest) (suc j) a b = omega arith

pub judging_stops : (count : ℕ) (near : ℕ → ℕ → Type 0) (net : List Twig) (stamp j : ℕ) (stamps : List ℕ) → IsJudging count near net stamp j stamps → j < length net → (HangsByStamp count near stamps stamp (first_piece net) (get_or net j (record { piece = 0; parent = None })) → ⊥) → IsKnownTree count near net → ⊥
judging_stops count near net stamp j stamps g below not whole =
    let t : Twig = get_or net j (record { piece = 0; parent = None }) in
    let more : take (j + 1) net ≡ take j net ++ t ∷ [] = take_more net j (record { piece = 0; parent = None }) below in
    let cut : IsTree near (take (j + 1) net) = tree_front near (take (j + 1) net) (drop (j + 1) net) (taken_long net (j + 1) (omega arith) (omega arith)) (subst (λ (n : List Twig). IsTree near n) (sym (take-append-drop (j + 1) net)) whole.tree) in
    let last = tree_last near (take j net) t (taken_long net j g.some g.within) (subst (λ (n : List Twig). IsTree near n) more cut) in
    let h = last.1 in
    let inside : Contains (pieces_of net) t.piece = subst (λ (x : ℕ). Contains (pieces_of net) x) (get_or-map piece_of net j (record { piece = 0; parent = None }) 0 below) (Contains-get_or (pieces_of net) j 0 (let e = length-map net piece_of in omega arith)) in
    not (record {
      known = whole.known t.piece inside;
      least = subst (λ (x : ℕ). x ≤ t.piece) (first_taken net j g.some) last.0;
      parent = h.parent;
      named = h.named;
      within = g.known h.parent h.stands;
      stamped = g.stamps_of h.parent h.stands;
      touches = h.touches;
    })

pub judging_done : (count : ℕ) (near : ℕ → ℕ → Type 0) (net : List Twig) (stamp j : ℕ) (stamps : List ℕ) → IsJudging count near net stamp j stamps → length net ≤ j → IsKnownTree count near net
judging_done count near net stamp j stamps g all =
    let same = take_all j net all in
    record { known = λ p h. g.known p (subst (λ (n : List Twig). Contains (pieces_of n) p) (sym same) h); tree = subst (λ (n : List Twig). IsTree near n) same g.tree }

pub root_known : (count : ℕ) (near : ℕ → ℕ → Type 0) (net : List Twig) → IsKnownTree count near net → ((get_or net 0 (record { piece = 0; parent = None })).piece < count) × ((get_or net 0 (record { piece = 0; parent = None })).parent ≡ None)
root_known count near [] whole = absurd whole.tree
root_known count near (t ∷ rest) whole = (whole.known t.piece (0, omega arith, refl), whole.tree.0)

-- The nets before i are trees that rise to below the floor.
pub record AreJudged (count : ℕ) (near : ℕ → ℕ → Type 0) (nets : List (List Twig)) (i floor : ℕ) (stamps : List ℕ) : Type 0 where
  pub long : length stamps ≡ count
  pub low : (q : ℕ) → get_or stamps q 0 ≤ i
  pub done : (k : ℕ) → k < i → IsKnownTree count near (net_at nets k)
  pub rising : (k l : ℕ) → k < l → l < i → first_piece (net_at nets k) < first_piece (net_at nets l)
  pub below : (k : ℕ) → k < i → first_piece (net_at nets k) < floor
  pub from : (floor ≡ 0) ⊎ ((k : ℕ) × (k < i) × (floor ≡ first_piece (net_at nets k) + 1))

pub judged_more : (count : ℕ) (near : ℕ → ℕ → Type 0) (nets : List (List Twig)) (i floor : ℕ) (stamps stamps' : List ℕ) → AreJudged count near nets i floor stamps → IsKnownTree count near (net_at nets i) → floor ≤ first_piece (net_at nets i) → length stamps' ≡ length stamps → ((q : ℕ) → get_or stamps' q 0 ≤ i + 1) → AreJudged count near nets (i + 1) (first_piece (net_at nets i) + 1) stamps'
judged_more count near nets i floor stamps stamps' a tree above long low = record {
  long = long ∙ a.long;
  low = low;
  done = λ k h. elim (cases_eq k i) [ inl same ↦ subst (λ (x : ℕ). IsKnownTree count near (net_at nets x)) (sym same) tree | inr other ↦ a.done k (omega arith) ];
  rising = λ k l h b. elim (cases_eq l i) [
    | inl same ↦ subst (λ (x : ℕ). first_piece (net_at nets k) < first_piece (net_at nets x)) (sym same) (let e = a.below k (omega arith) in omega arith)
    | inr other ↦ a.rising k l h (omega arith)
  ];
  below = λ k h. elim (cases_eq k i) [
    | inl same ↦ subst (λ (x : ℕ). first_piece (net_at nets x) < first_piece (net_at nets i) + 1) (sym same) (omega arith)
    | inr other ↦ let e = a.below k (omega arith) in omega arith
  ];
  from = inr (i, omega arith, refl);
}

pub judged_all : (count : ℕ) (near : ℕ → ℕ → Type 0) (nets : List (List Twig)) (i floor : ℕ) (stamps : List ℕ) → AreJudged count near nets i floor stamps → i ≡ length nets → ((j p : ℕ) → Holds nets j p → j < length nets) → AreTrees count near nets
judged_all count near nets i floor stamps a all within = record {
  known = λ j p h. (a.done j (let e = within j p h in omega arith)).known p h;
  trees = All-from_get_or (IsTree near) nets [] (λ k h. (a.done k (omega arith)).tree);
  rising = λ k l d h b.
      let e : first_piece (get_or nets k d) ≡ first_piece (net_at nets k) = ap first_piece (get_or_default nets k d [] (omega arith)) in
      let f : first_piece (get_or nets l d) ≡ first_piece (net_at nets l) = ap first_piece (get_or_default nets l d [] b) in
      let r = a.rising k l h (omega arith) in
      omega arith;
}

pub tree_at : (count : ℕ) (near : ℕ → ℕ → Type 0) (nets : List (List Twig)) (i : ℕ) → AreTrees count near nets → i < length nets → IsKnownTree count near (net_at nets i)
tree_at count near nets i t below = record { known = λ p h. t.known i p h; tree = All-get_or (IsTree near) nets i [] below t.trees }

-- ---- How many twigs there are

twigs_push : (nets : List (List Twig)) (net : List Twig) → twig_count (nets ++ net ∷ []) ≡ twig_count nets + length net
twigs_push [] net = omega arith
twigs_push (first ∷ rest) net = let more = twigs_push rest net in omega arith

pub twigs_more : (nets : List (List Twig)) (i : ℕ) → i < length nets → twig_count (take (i + 1) nets) ≡ twig_count (take i nets) + length (net_at nets i)
twigs_more nets i below = ap twig_count (take_more nets i [] below) ∙ twigs_push (take i nets) (net_at nets i)

pub twigs_most : (nets : List (List Twig)) (i : ℕ) → twig_count (take i nets) ≤ twig_count nets
twigs_most nets zero = omega arith
twigs_most [] (suc i) = omega arith
twigs_most (net ∷ rest) (suc i) = let most = twigs_most rest i in omega arith
