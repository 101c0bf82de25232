-- What one list of findings has and another has not.
use Rattle.std.proofs.Common.{◌≡◌, ◌⊎◌, inl, inr, ℕ, zero, suc, Bool, true, false, cond, List, [], ◌∷◌, ◌++◌, ◌||◌, Contains, codes, length, map, not, ap, refl, subst, sym, ◌∙◌, arith}
use Rattle.std.proofs.lemmas.List.{length-map}
use Rattle.std.proofs.lemmas.List.Elements.{Contains-append_right}
use Rattle.std.proofs.lemmas.List.Folds.{flat_map-map}
use Rattle.std.proofs.lemmas.Map.Lookups.{CmpEqualImpliesEq}
use Rattle.std.proofs.lemmas.Map.Views.{Contains-from_any}
use Rattle.std.specs.Cmp.Lexicographic.{slice_cmp}
use Rattle.std.specs.List.{filter, flat_map}
use Rattle.std.specs.Ordering.{eq_by_cmp, is_eq, nat_cmp}
use Rattle.std.specs.Set.{is_member}
use Rattle.std.specs.declared.cmp.Ordering.{Ordering}
use Rattle.std.specs.declared.cmp.Ordering.TheVariants.{Less, Equal, Greater}
use Rattle.board_shapes.specs.declared.probe.Probe.{Probe}
use Rattle.reports.specs.BetweenText.{short_part, shorts_part}
use Rattle.reports.specs.Findings.{Findings, besides, without}
use Rattle.verdict.specs.ReportText.{count_line}

-- ---- What is read of the items

member_map : {X Y : Type 0} (f : X → Y) (compare : Y → Y → Ordering) (xs : List X) (x : X) → is_member (eq_by_cmp (λ a b. compare (f a) (f b))) xs x ≡ is_member (eq_by_cmp compare) (map f xs) (f x)
member_map f compare [] x = refl
member_map f compare (y ∷ ys) x = ap (λ (b : Bool). eq_by_cmp compare (f x) (f y) || b) (member_map f compare ys x)

kept : {X Y : Type 0} (f : X → Y) (b c : Bool) (x : X) (xs : List X) (ys : List Y) → b ≡ c → map f xs ≡ ys → map f (cond b (x ∷ xs) xs) ≡ cond c (f x ∷ ys) ys
kept f true true x xs ys e h = ap (λ zs. f x ∷ zs) h
kept f false false x xs ys e h = h
kept f true false x xs ys e h = absurd cc
kept f false true x xs ys e h = absurd cc

filter_mapped : {X Y : Type 0} (f : X → Y) (p : X → Bool) (q : Y → Bool) → ((x : X) → p x ≡ q (f x)) → (xs : List X) → map f (filter p xs) ≡ filter q (map f xs)
filter_mapped f p q same [] = refl
filter_mapped f p q same (x ∷ xs) = kept f (p x) (q (f x)) x (filter p xs) (filter q (map f xs)) (same x) (filter_mapped f p q same xs)

-- items that compare as what f reads of them
pub besides_mapped : {X Y : Type 0} (f : X → Y) (compare : Y → Y → Ordering) (ours theirs : List X) → map f (besides (λ a b. compare (f a) (f b)) ours theirs) ≡ besides compare (map f ours) (map f theirs)
besides_mapped f compare ours theirs = filter_mapped f _ _ (λ x. ap not (member_map f compare theirs x)) ours

-- ---- Findings

pub found_are : (f : Findings) (opens : List ℕ) (shorts : List (List ℕ)) (missing : List ℕ) → opens ≡ f.opens → shorts ≡ f.shorts → missing ≡ f.missing → record { opens = opens; shorts = shorts; missing = missing } ≡ f
found_are f opens shorts missing p q r = rw (p, q, r) refl

pub without_is : (ours theirs a b : Findings) (opens : List ℕ) (shorts : List (List ℕ)) (missing : List ℕ) → a ≡ ours → b ≡ theirs → opens ≡ besides nat_cmp a.opens b.opens → shorts ≡ besides (slice_cmp nat_cmp) a.shorts b.shorts → missing ≡ besides nat_cmp a.missing b.missing → record { opens = opens; shorts = shorts; missing = missing } ≡ without ours theirs
without_is ours theirs a b opens shorts missing e h p q r = found_are (without a b) opens shorts missing p q r ∙ (ap (λ (f : Findings). without f b) e ∙ ap (λ (f : Findings). without ours f) h)

-- ---- Items

in_tail : {X : Type 0} (x : X) (xs : List X) (q : X) → Contains xs q → Contains (x ∷ xs) q
in_tail x xs q inside = Contains-append_right (x ∷ []) xs q inside

pub in_map : {X Y : Type 0} (f : X → Y) (xs : List X) (x : X) → Contains xs x → Contains (map f xs) (f x)
in_map f [] x (k, below, same) = absurd (omega arith)
in_map f (y ∷ ys) x (zero, below, same) = (0, omega arith, ap f same)
in_map f (y ∷ ys) x (suc k, below, same) = in_tail (f y) (map f ys) (f x) (in_map f ys x (k, omega arith, same))

passes : {X : Type 0} (p : X → Bool) (x : X) (xs : List X) → p x ≡ true → x ∷ filter p xs ≡ filter p (x ∷ xs)
passes p x xs e = ap (λ (b : Bool). cond b (x ∷ filter p xs) (filter p xs)) (sym e)

stays : {X : Type 0} (p : X → Bool) (x : X) (xs : List X) (q : X) → Contains (filter p xs) q → Contains (filter p (x ∷ xs)) q
stays p x xs q inside = by (p x) where
  by : (b : Bool) → Contains (cond b (x ∷ filter p xs) (filter p xs)) q
  by true = in_tail x (filter p xs) q inside
  by false = inside

in_filter : {X : Type 0} (p : X → Bool) (xs : List X) (x : X) → Contains xs x → p x ≡ true → Contains (filter p xs) x
in_filter p [] x (k, below, same) e = absurd (omega arith)
in_filter p (y ∷ ys) x (zero, below, same) e = subst (λ zs. Contains zs x) (passes p y ys (ap p same ∙ e)) (0, omega arith, same)
in_filter p (y ∷ ys) x (suc k, below, same) e = stays p y ys x (in_filter p ys x (k, omega arith, same) e)

equal : (o : Ordering) → is_eq o ≡ true → o ≡ Equal
equal Less e = absurd cc
equal Equal e = refl
equal Greater e = absurd cc

-- an item is one of the others, or it is left
pub listed : {X : Type 0} (compare : X → X → Ordering) → CmpEqualImpliesEq compare → (ours theirs : List X) (x : X) → Contains ours x → Contains theirs x ⊎ Contains (besides compare ours theirs) x
listed compare exact ours theirs x inside = by (is_member (eq_by_cmp compare) theirs x) refl where
  by : (b : Bool) → is_member (eq_by_cmp compare) theirs x ≡ b → Contains theirs x ⊎ Contains (besides compare ours theirs) x
  by true e = inl (Contains-from_any (λ a b is. exact a b (equal (compare a b) is)) x theirs e)
  by false e = inr (in_filter (λ y. not (is_member (eq_by_cmp compare) theirs y)) ours x inside (ap not e))

pub besides_none : {X : Type 0} (compare : X → X → Ordering) (ours : List X) → besides compare ours [] ≡ ours
besides_none compare [] = refl
besides_none compare (x ∷ xs) = ap (λ ys. x ∷ ys) (besides_none compare xs)

-- ---- Their text

pub shorts_read : {X : Type 0} (f : X → List ℕ) (probes : List Probe) (names : List (List ℕ)) (shorts : List X) → count_line (codes "shorts") (length shorts) ++ flat_map (λ s. short_part probes names (f s)) shorts ≡ shorts_part probes names (map f shorts)
shorts_read f probes names shorts =
    ap (λ (n : ℕ). count_line (codes "shorts") n ++ flat_map (λ s. short_part probes names (f s)) shorts) (sym (length-map shorts f)) ∙
    ap (λ (text : List ℕ). count_line (codes "shorts") (length (map f shorts)) ++ text) (sym (flat_map-map (short_part probes names) f shorts))
