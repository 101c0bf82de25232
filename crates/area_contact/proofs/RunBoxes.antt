-- Runs of edges and the boxes about them.
use Rattle.std.proofs.Common.{ℕ, zero, suc, ◌+◌, ◌-◌, ◌*◌, ◌≤◌, ◌<◌, min, Bool, true, false, IsTrue, List, [], ◌∷◌, ◌++◌, length, map, get_or, take, drop, All, ◌≡◌, ◌↔◌, ◌⊎◌, ◌||◌, ◌==◌, ℤ, ◌≤ℤ◌, inl, inr, refl, sym, ap, ◌∙◌, subst, pos, arith}
use Rattle.std.proofs.lemmas.Bool.{eq-eqb, eqb-true}
use Rattle.std.proofs.lemmas.Int.{ints, clamps}
use Rattle.std.proofs.lemmas.List.{drop_all, drop-drop, drop-take, take_all, take-take, take-append-drop, length-drop, length-take, get_or_append_left, get_or-drop, get_or_push, get_or-take, length_push}
use Rattle.std.proofs.lemmas.List.Elements.{All-drop, All-take}
use Rattle.std.proofs.lemmas.List.FromFn.{length-range_with_len}
use Rattle.std.proofs.lemmas.List.Sorted.{All-permutation, length_permutation, list_any-IsPermutation}
use Rattle.std.specs.Int.{int_max, int_min}
use Rattle.std.specs.List.Sorted.{IsPermutation}
use Rattle.planar.specs.declared.Spot.{Spot}
use Rattle.planar.specs.Plane.{IsPlaced}
use Rattle.contact.proofs.Boxes.{overlap_share}
use Rattle.contact.specs.declared.Bounds.{Bounds}
use Rattle.contact.specs.Round.{box_of, IsLawful}
use Rattle.contact.specs.RoundLaws.{boxes_share}
use Rattle.contact.specs.Solid.{InBox, SharePoint, joined}
use Rattle.area_contact.specs.declared.Edge.{Edge}
use Rattle.area_contact.specs.Bands.{AreAbout, AreAllEdges, AreEdges, AreRuns, IsAbout, all_numbers, edge_at, edges_at, has_number}
use Rattle.area_contact.specs.Contour.{Reaches, SomeEdge, edges_of}
use Rattle.area_contact.proofs.Apart.{edge_lawful}
use Rattle.area_contact.proofs.Ladders.{number_in}
use Rattle.area_contact.proofs.Split.{all_numbered}

-- ---- One run after the other

le_or_lt : (m n : ℕ) → (m ≤ n) ⊎ (n < m)
le_or_lt zero n = inl (omega arith)
le_or_lt (suc m) zero = inr (omega arith)
le_or_lt (suc m) (suc n) = elim (le_or_lt m n) [ inl h ↦ inl (omega arith) | inr h ↦ inr (omega arith) ]

parted : (size k : ℕ) (xs : List ℕ) → drop (size * k) xs ≡ take size (drop (size * k) xs) ++ drop (size * (k + 1)) xs
parted size k xs =
    let e : size * k + size ≡ size * (k + 1) = omega arith in
    sym (take-append-drop size (drop (size * k) xs)) ∙ ap (λ (ys : List ℕ). take size (drop (size * k) xs) ++ ys) (drop-drop size (size * k) xs ∙ ap (λ (n : ℕ). drop n xs) e)

or_left : (a b : Bool) → a ≡ true → (a || b) ≡ true
or_left true b h = refl
or_left false b h = absurd cc

or_right : (a b : Bool) → b ≡ true → (a || b) ≡ true
or_right true b h = refl
or_right false b h = h

or_cases : (a b : Bool) → (a || b) ≡ true → (a ≡ true) ⊎ (b ≡ true)
or_cases true b h = inl refl
or_cases false b h = inr h

module _ (P : Edge → Type 0) (f : ℕ → Edge) where
  either : (xs ys : List ℕ) → SomeEdge P (map f (xs ++ ys)) → SomeEdge P (map f xs) ⊎ SomeEdge P (map f ys)
  either [] ys h = inr h
  either (x ∷ xs) ys (inl h) = inl (inl h)
  either (x ∷ xs) ys (inr h) = elim (either xs ys h) [ inl k ↦ inl (inr k) | inr k ↦ inr k ]

  first : (xs ys : List ℕ) → SomeEdge P (map f xs) → SomeEdge P (map f (xs ++ ys))
  first (x ∷ xs) ys (inl h) = inl h
  first (x ∷ xs) ys (inr h) = inr (first xs ys h)
  first [] ys h = absurd h

  later : (xs ys : List ℕ) → SomeEdge P (map f ys) → SomeEdge P (map f (xs ++ ys))
  later [] ys h = h
  later (x ∷ xs) ys h = inr (later xs ys h)

  -- ---- In whatever order

  named : (xs : List ℕ) → SomeEdge P (map f xs) → (i : ℕ) × (has_number i xs ≡ true) × P (f i)
  named [] h = absurd h
  named (x ∷ xs) (inl h) = (x, or_left (x == x) (has_number x xs) (eq-eqb x x refl), h)
  named (x ∷ xs) (inr h) = let r = named xs h in (r.0, or_right (x == r.0) (has_number r.0 xs) r.1, r.2)

  by_number : (xs : List ℕ) (i : ℕ) → has_number i xs ≡ true → P (f i) → SomeEdge P (map f xs)
  by_number [] i h p = absurd cc
  by_number (x ∷ xs) i h p = elim (or_cases (x == i) (has_number i xs) h) [
    | inl k ↦ inl (let e : x ≡ i = eqb-true x i k in subst (λ (n : ℕ). P (f n)) (sym e) p)
    | inr k ↦ inr (by_number xs i k p)
  ]

  pub reordered : (xs ys : List ℕ) → ((i : ℕ) → has_number i xs ≡ has_number i ys) → SomeEdge P (map f xs) → SomeEdge P (map f ys)
  reordered xs ys same h = let r = named xs h in by_number ys r.0 (sym (same r.0) ∙ r.1) r.2

module _ (P : Edge → Type 0) (points : List Spot) (numbers : List ℕ) (size k : ℕ) where
  pub run_found : (run : List ℕ) (t : Bool) → run ≡ take size (drop (size * k) numbers) → IsTrue t ↔ SomeEdge P (edges_at points run) → t ≡ true → SomeEdge P (edges_at points numbers) ↔ SomeEdge P (edges_at points (drop (size * k) numbers)) → IsTrue true ↔ SomeEdge P (edges_at points numbers)
  run_found run t e d h w = (
    λ i. w.1 (subst (λ (l : List ℕ). SomeEdge P (edges_at points l)) (sym (parted size k numbers)) (first P (edge_at points) (take size (drop (size * k) numbers)) (drop (size * (k + 1)) numbers) (subst (λ (l : List ℕ). SomeEdge P (edges_at points l)) e (d.0 h)))),
    λ i. refl,
  )

  pub run_past : (run : List ℕ) (t : Bool) → run ≡ take size (drop (size * k) numbers) → IsTrue t ↔ SomeEdge P (edges_at points run) → t ≡ false → SomeEdge P (edges_at points numbers) ↔ SomeEdge P (edges_at points (drop (size * k) numbers)) → SomeEdge P (edges_at points numbers) ↔ SomeEdge P (edges_at points (drop (size * (k + 1)) numbers))
  run_past run t e d h w = (
    λ i. behind (either P (edge_at points) (take size (drop (size * k) numbers)) (drop (size * (k + 1)) numbers) (subst (λ (l : List ℕ). SomeEdge P (edges_at points l)) (parted size k numbers) (w.0 i))),
    λ i. w.1 (subst (λ (l : List ℕ). SomeEdge P (edges_at points l)) (sym (parted size k numbers)) (later P (edge_at points) (take size (drop (size * k) numbers)) (drop (size * (k + 1)) numbers) i)),
  )
    where
      behind : SomeEdge P (edges_at points (take size (drop (size * k) numbers))) ⊎ SomeEdge P (edges_at points (drop (size * (k + 1)) numbers)) → SomeEdge P (edges_at points (drop (size * (k + 1)) numbers))
      behind (inl i) = let l : t ≡ true = d.1 (subst (λ (l : List ℕ). SomeEdge P (edges_at points l)) (sym e) i) in cc
      behind (inr i) = i

  pub run_nowhere : length numbers ≤ size * k → SomeEdge P (edges_at points numbers) ↔ SomeEdge P (edges_at points (drop (size * k) numbers)) → IsTrue false ↔ SomeEdge P (edges_at points numbers)
  run_nowhere h w =
      let e : drop (size * k) numbers ≡ [] = drop_all (size * k) numbers h in
      (λ i. absurd cc, λ i. absurd (subst (λ (l : List ℕ). SomeEdge P (edges_at points l)) e (w.0 i)))

-- ---- The slice of a run

cut_past : {A : Type 0} (xs : List A) (size start from to : ℕ) → from ≡ min start (length xs) → length xs ≤ start → take (to - from) (drop from xs) ≡ take size (drop start xs)
cut_past {A} xs size start from to f past =
    ap (λ (ys : List A). take (to - from) ys) (drop_all from xs (omega arith)) ∙ (take_all (to - from) [] (omega arith) ∙ (sym (take_all size [] (omega arith)) ∙ sym (ap (λ (ys : List A). take size ys) (drop_all start xs past))))

cut_inside : {A : Type 0} (xs : List A) (size n : ℕ) → n ≡ min size (length xs) → take n xs ≡ take size xs
cut_inside xs size n e = elim (le_or_lt (length xs) size) [
  | inl short ↦ take_all n xs (omega arith) ∙ sym (take_all size xs short)
  | inr long ↦ (let m : n ≡ size = omega arith in ap (λ (i : ℕ). take i xs) m)
]

pub part_slice : {A : Type 0} (xs : List A) (size start from to : ℕ) → from ≡ min start (length xs) → to ≡ min (from + size) (length xs) → take (to - from) (drop from xs) ≡ take size (drop start xs)
part_slice xs size start from to f t = elim (le_or_lt (length xs) start) [
  | inl past ↦ cut_past xs size start from to f past
  | inr inside ↦
      (let g : from ≡ start = omega arith in
      let n : length (drop start xs) ≡ length xs - start = length-drop start xs in
      ap (λ (m : ℕ). take (to - from) (drop m xs)) g ∙ cut_inside (drop start xs) size (to - from) (omega arith))
]

-- ---- A box about a run

-- the box has both ends in it
abbrev pub IsOver : Bounds → Spot → Spot → Type 0
IsOver b s e = (b.left ≤ℤ int_min s.x e.x) × (int_max s.x e.x ≤ℤ b.right) × (b.low ≤ℤ int_min s.y e.y) × (int_max s.y e.y ≤ℤ b.high)

over_meets : (b c : Bounds) (s e : Spot) → IsOver b s e → SharePoint (InBox (box_of s e (pos 0))) (InBox c) → SharePoint (InBox b) (InBox c)
over_meets b c s e h m =
    let o = (overlap_share (box_of s e (pos 0)) c).0 m in
    (overlap_share b c).1 (omega (arith, ints, clamps, h.0, h.1, o.0), omega (arith, ints, clamps, h.2, h.3, o.1))

pub over_more : (b c d : Bounds) (s e : Spot) → d ≡ joined b c → IsOver b s e → IsOver d s e
over_more b c d s e is h = subst (λ (x : Bounds). IsOver x s e) (sym is) (omega (arith, ints, clamps, h.0), omega (arith, ints, clamps, h.1), omega (arith, ints, clamps, h.2), omega (arith, ints, clamps, h.3))

pub over_itself : (b c d : Bounds) (s e : Spot) → c ≡ box_of s e (pos 0) → d ≡ joined b c → IsOver d s e
over_itself b c d s e box is = subst (λ (x : Bounds). IsOver x s e) (sym (is ∙ ap (joined b) box)) (omega (arith, ints, clamps), omega (arith, ints, clamps), omega (arith, ints, clamps), omega (arith, ints, clamps))

-- as far as a loop has come
abbrev pub AreOver : List Spot → Bounds → List ℕ → ℕ → Type 0
AreOver points b numbers n = (j : ℕ) → j < n → IsOver b (edge_at points (get_or numbers j 0)).start (edge_at points (get_or numbers j 0)).end

pub over_turn : (points : List Spot) (b c d : Bounds) (numbers : List ℕ) (n : ℕ) → c ≡ box_of (edge_at points (get_or numbers n 0)).start (edge_at points (get_or numbers n 0)).end (pos 0) → d ≡ joined b c → AreOver points b numbers n → AreOver points d numbers (n + 1)
over_turn points b c d numbers n box is h j below = elim (le_or_lt n j) [
  | inl last ↦ (let k : n ≡ j = omega arith in subst (λ (m : ℕ). IsOver d (edge_at points (get_or numbers m 0)).start (edge_at points (get_or numbers m 0)).end) k (over_itself b c d (edge_at points (get_or numbers n 0)).start (edge_at points (get_or numbers n 0)).end box is))
  | inr before ↦ over_more b c d (edge_at points (get_or numbers j 0)).start (edge_at points (get_or numbers j 0)).end is (h j before)
]

some_at : (P : Edge → Type 0) (points : List Spot) (numbers : List ℕ) → SomeEdge P (edges_at points numbers) → (j : ℕ) × (j < length numbers) × P (edge_at points (get_or numbers j 0))
some_at P points [] h = absurd h
some_at P points (x ∷ xs) (inl h) = (0, omega arith, h)
some_at P points (x ∷ xs) (inr h) = let r = some_at P points xs h in (suc r.0, (let l = r.1 in omega arith), r.2)

pub about_run : (points : List Spot) (b : Bounds) (numbers : List ℕ) (n : ℕ) → All IsPlaced points → AreEdges points numbers → length numbers ≤ n → AreOver points b numbers n → IsAbout points b numbers
about_run points b numbers n placed edges all over u v r law apart some =
    let at = some_at (Reaches u v r) points numbers some in
    let i : ℕ = get_or numbers at.0 0 in
    let below = edges at.0 0 at.1 in
    let lawful : IsLawful (edge_at points i).start (edge_at points i).end (pos 0) = edge_lawful (edge_at points i).start (edge_at points i).end (placed i (record { x = pos 0; y = pos 0 }) (omega arith)) (placed (i + 1) (record { x = pos 0; y = pos 0 }) (omega arith)) in
    apart (over_meets b (box_of u v r) (edge_at points i).start (edge_at points i).end (over at.0 (let l = at.1 in omega arith))
    (boxes_share (edge_at points i).start (edge_at points i).end (pos 0) u v r lawful law record { point = at.2.point; in_first = at.2.in_first; in_second = at.2.in_second }))

-- what does not meet the box about a run comes into none of its edges
pub run_apart : (points : List Spot) (numbers : List ℕ) (b around : Bounds) (u v : Spot) (r : ℤ) (t : Bool) → IsAbout points b numbers → IsLawful u v r → around ≡ box_of u v r → t ≡ false → IsTrue t ↔ SharePoint (InBox b) (InBox around) → IsTrue false ↔ SomeEdge (Reaches u v r) (edges_at points numbers)
run_apart points numbers b around u v r t about lawful is none meet = (λ h. absurd cc, λ h. absurd (about u v r lawful not h))
  where
    not : SharePoint (InBox b) (InBox (box_of u v r)) → ⊥
    not m = let k : t ≡ true = meet.1 (subst (λ (x : Bounds). SharePoint (InBox b) (InBox x)) (sym is) m) in cc

-- ---- The boxes of the runs

pub about_more : (points : List Spot) (numbers run : List ℕ) (boxes : List Bounds) (size k : ℕ) (b : Bounds) → length boxes ≡ k → run ≡ take size (drop (size * k) numbers) → IsAbout points b run → AreAbout size points numbers boxes → AreAbout size points numbers (boxes ++ b ∷ [])
about_more points numbers run boxes size k b long is here before j d below = elim (le_or_lt k j) [
  | inl last ↦
      (let e : k ≡ j = (let l = length_push boxes b in omega arith) in
      subst (λ (n : ℕ). IsAbout points (get_or (boxes ++ b ∷ []) n d) (take size (drop (size * n) numbers))) e
      (subst (λ (x : Bounds). IsAbout points x (take size (drop (size * k) numbers))) (sym (get_or_push boxes b d k long)) (subst (λ (xs : List ℕ). IsAbout points b xs) is here)))
  | inr front ↦ subst (λ (x : Bounds). IsAbout points x (take size (drop (size * j) numbers))) (sym (get_or_append_left boxes (b ∷ []) d j (omega arith))) (before j d (omega arith))
]

pub run_edges : (points : List Spot) (numbers run : List ℕ) (size k : ℕ) → run ≡ take size (drop (size * k) numbers) → AreEdges points numbers → AreEdges points run
run_edges points numbers run size k is edges = subst (AreEdges points) (sym is) (All-take (λ i. i + 1 < length points) size (drop (size * k) numbers) (All-drop (λ i. i + 1 < length points) (size * k) numbers edges))

pub run_few : (numbers run : List ℕ) (size k most : ℕ) → run ≡ take size (drop (size * k) numbers) → length numbers ≤ most → length run ≤ most
run_few numbers run size k most is few =
    let e : length run ≡ min size (length numbers - size * k) = ap length is ∙ length-take size (drop (size * k) numbers) ∙ ap (min size) (length-drop (size * k) numbers) in
    omega (arith, e)

-- ---- The runs of a group

-- run j of group k
run_in_group : (numbers : List ℕ) (k j : ℕ) → j < 64 → take 16 (drop (16 * j) (take 1_024 (drop (1_024 * k) numbers))) ≡ take 16 (drop (16 * (64 * k + j)) numbers)
run_in_group numbers k j below =
    let whole : 1_024 ≡ 16 * j + (1_024 - 16 * j) = omega arith in
    let place : 1_024 * k + 16 * j ≡ 16 * (64 * k + j) = omega arith in
    ap (λ (n : ℕ). take 16 (drop (16 * j) (take n (drop (1_024 * k) numbers)))) whole
    ∙ ap (λ (xs : List ℕ). take 16 xs) (drop-take (16 * j) (1_024 - 16 * j) (drop (1_024 * k) numbers))
    ∙ take-take 16 (1_024 - 16 * j) (drop (16 * j) (drop (1_024 * k) numbers)) (omega arith)
    ∙ ap (λ (xs : List ℕ). take 16 xs) (drop-drop (16 * j) (1_024 * k) numbers ∙ ap (λ (n : ℕ). drop n numbers) place)

pub group_runs : (points : List Spot) (numbers some : List ℕ) (boxes few : List Bounds) (k : ℕ) → some ≡ take 1_024 (drop (1_024 * k) numbers) → few ≡ take 64 (drop (64 * k) boxes) → AreRuns 16 points numbers boxes → AreRuns 16 points some few
group_runs points numbers some boxes few k is are runs = (about, all, (let m = runs.2 in omega (arith, long)))
  where
    long : length few ≡ min 64 (length boxes - 64 * k)
    long = ap length are ∙ length-take 64 (drop (64 * k) boxes) ∙ ap (min 64) (length-drop (64 * k) boxes)

    all : length some ≤ 16 * length few
    all =
        let e : length some ≡ min 1_024 (length numbers - 1_024 * k) = ap length is ∙ length-take 1_024 (drop (1_024 * k) numbers) ∙ ap (min 1_024) (length-drop (1_024 * k) numbers) in
        let l = runs.1 in
        omega (arith, e, long)

    about : AreAbout 16 points some few
    about j d below =
        let box : get_or few j d ≡ get_or boxes (64 * k + j) d = ap (λ (bs : List Bounds). get_or bs j d) are ∙ get_or-take 64 (drop (64 * k) boxes) j d (omega (arith, long)) ∙ get_or-drop (64 * k) boxes j d in
        let run : take 16 (drop (16 * j) some) ≡ take 16 (drop (16 * (64 * k + j)) numbers) = ap (λ (xs : List ℕ). take 16 (drop (16 * j) xs)) is ∙ run_in_group numbers k j (omega (arith, long)) in
        rw (box, run) (runs.0 (64 * k + j) d (omega (arith, long)))

-- all edges, in whatever order
pub all_reach : (points told : List Spot) (numbers : List ℕ) (u v : Spot) (r : ℤ) (t : Bool) → told ≡ points → AreAllEdges points numbers → IsTrue t ↔ SomeEdge (Reaches u v r) (edges_at told numbers) → IsTrue t ↔ SomeEdge (Reaches u v r) (edges_of points)
all_reach points told numbers u v r t is all d =
    let k : IsTrue t ↔ SomeEdge (Reaches u v r) (edges_at points numbers) = subst (λ (ps : List Spot). IsTrue t ↔ SomeEdge (Reaches u v r) (edges_at ps numbers)) is d in (
      λ h. subst (λ (es : List Edge). SomeEdge (Reaches u v r) es) (sym (all_numbered points)) (reordered (Reaches u v r) (edge_at points) numbers (all_numbers points) all (k.0 h)),
      λ h. k.1 (reordered (Reaches u v r) (edge_at points) (all_numbers points) numbers (λ i. sym (all i)) (subst (λ (es : List Edge). SomeEdge (Reaches u v r) es) (all_numbered points) h)),
    )

module _ (points : List Spot) (xs ys : List ℕ) (is : xs ≡ all_numbers points) (same : IsPermutation xs ys) where
  pub put_edges : AreEdges points ys
  put_edges = All-permutation (λ i. i + 1 < length points) xs ys same (subst (AreEdges points) (sym is) (number_in points))

  pub put_all : AreAllEdges points ys
  put_all i = sym (list_any-IsPermutation (λ n. n == i) xs ys same) ∙ ap (has_number i) is

  pub put_few : length ys ≤ length points
  put_few =
      let long = length_permutation xs ys same in
      let all = ap length is in
      let range = length-range_with_len 0 (length points - 1) in
      omega arith
