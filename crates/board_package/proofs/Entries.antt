-- The entries of lists of values.
use Rattle.std.proofs.Common.{All, ◌≡◌, ℕ, ◌+◌, ◌<◌, List, [], ◌∷◌, ◌++◌, length, map, take, drop, get_or, Option, Some, None, option_map, option_and_then, refl, sym, ap, subst, ◌∙◌, arith}
use Rattle.std.proofs.lemmas.List.{length-map, take-append-drop, length-take, append_assoc}
use Rattle.std.proofs.lemmas.List.Elements.{All-append, All-cons, All-nil}
use Rattle.serde_json.specs.Data.{Data}
use Rattle.serde_json.specs.View.{view}
use Rattle.serde_json.specs.declared.value.Value.{Value}
use Rattle.board_package.specs.Manifest.{each_from, Misses, copper_entry, name_of}
use Rattle.board_package.specs.declared.entry.Entry.{Entry}
use Rattle.board_package.specs.declared.entry.Role.TheVariants.{Copper}
use Rattle.board_package.specs.declared.manifest.ManifestFault.{ManifestFault}
use Rattle.board_package.specs.declared.manifest.ManifestFault.TheVariants.{NotJson, BadManifest, NoMemory}
use Rattle.board_package.proofs.Listed.{view_more}

joined : {B : Type 0} (f : ℕ → Data → Option B) (n : ℕ) (x : Data) (xs : List Data) (y : B) (ys : List B) → f n x ≡ Some y → each_from f (n + 1) xs ≡ Some ys → each_from f n (x ∷ xs) ≡ Some (y ∷ ys)
joined f n x xs y ys a b = rw (a, b) refl

-- the first of two, where both have something
first_of_two : {B : Type 0} (f : ℕ → Data → Option B) (n : ℕ) (x : Data) (xs : List Data) (all : List B) → each_from f n (x ∷ xs) ≡ Some all → (y : B) × (ys : List B) × (f n x ≡ Some y) × (each_from f (n + 1) xs ≡ Some ys) × (all ≡ y ∷ ys)
first_of_two {B} f n x xs all e = by (f n x) (each_from f (n + 1) xs) refl refl e
  where
    by : (o : Option B) (rest : Option (List B)) → f n x ≡ o → each_from f (n + 1) xs ≡ rest → option_and_then (λ y. option_map (λ ys. y ∷ ys) rest) o ≡ Some all → (y : B) × (ys : List B) × (f n x ≡ Some y) × (each_from f (n + 1) xs ≡ Some ys) × (all ≡ y ∷ ys)
    by None rest a b e = absurd (cc)
    by (Some y) None a b e = absurd (cc)
    by (Some y) (Some ys) a b e = (y, ys, a, b, cc)

-- one more value
each_snoc : {B : Type 0} (f : ℕ → Data → Option B) (n k : ℕ) (xs : List Data) (ys : List B) (x : Data) (y : B) → k ≡ n + length xs → each_from f n xs ≡ Some ys → f k x ≡ Some y → each_from f n (xs ++ x ∷ []) ≡ Some (ys ++ y ∷ [])
each_snoc f n k [] ys x y at e h =
    let none : [] ≡ ys = cc in
    let same : k ≡ n = omega arith in
    rw (← none) (joined f n x [] y [] (subst (λ m. f m x ≡ Some y) same h) refl)
each_snoc f n k (z ∷ xs) ys x y at e h =
    let p = first_of_two f n z xs ys e in
    let rest = each_snoc f (n + 1) k xs p.1 x y (omega arith) p.3 h in
    rw p.4 (joined f n z (xs ++ x ∷ []) p.0 (p.1 ++ y ∷ []) p.2 rest)

-- a value of which nothing is made
each_stops : {B : Type 0} (f : ℕ → Data → Option B) (n k : ℕ) (xs rest : List Data) (x : Data) → k ≡ n + length xs → f k x ≡ None → each_from f n (xs ++ x ∷ rest) ≡ None
each_stops f n k [] rest x at h =
    let same : k ≡ n = omega arith in
    let here : f n x ≡ None = subst (λ m. f m x ≡ None) same h in
    rw here refl
each_stops {B} f n k (z ∷ xs) rest x at h =
    let later = each_stops f (n + 1) k xs rest x (omega arith) h in
    rw later (none_of (f n z))
  where
    none_of : (o : Option B) → option_and_then (λ y. option_map (λ ys. y ∷ ys) None) o ≡ None
    none_of None = refl
    none_of (Some y) = refl

length_seen : (vs : List Value) (i : ℕ) → i < length vs → length (take i (map view vs)) ≡ i
length_seen vs i below = omega (arith, length-take i (map view vs), length-map vs view)

-- one more of the values of a list
pub entry_more : {B : Type 0} (f : ℕ → Data → Option B) (n k : ℕ) (vs : List Value) (i : ℕ) (ys : List B) (d : Value) (y : B) → i < length vs → k ≡ n + i → each_from f n (take i (map view vs)) ≡ Some ys → f k (view (get_or vs i d)) ≡ Some y → each_from f n (take (i + 1) (map view vs)) ≡ Some (ys ++ y ∷ [])
entry_more f n k vs i ys d y below at e h =
    let seen : length (take i (map view vs)) ≡ i = length_seen vs i below in
    rw (view_more vs i d below) (each_snoc f n k (take i (map view vs)) ys (view (get_or vs i d)) y (omega arith) e h)

split_at : (vs : List Value) (i : ℕ) (d : Value) → i < length vs → map view vs ≡ take i (map view vs) ++ view (get_or vs i d) ∷ drop (i + 1) (map view vs)
split_at vs i d below =
    let whole = sym (take-append-drop (i + 1) (map view vs)) in
    whole ∙ (ap (λ (xs : List Data). xs ++ drop (i + 1) (map view vs)) (view_more vs i d below) ∙ simp append_assoc)

entry_none : {B : Type 0} (f : ℕ → Data → Option B) (n k : ℕ) (vs : List Value) (i : ℕ) (d : Value) → i < length vs → k ≡ n + i → f k (view (get_or vs i d)) ≡ None → each_from f n (map view vs) ≡ None
entry_none f n k vs i d below at h =
    let seen : length (take i (map view vs)) ≡ i = length_seen vs i below in
    rw (split_at vs i d below) (each_stops f n k (take i (map view vs)) (drop (i + 1) (map view vs)) (view (get_or vs i d)) (omega arith) h)

-- a value of which nothing is made, for the reason that is given
pub entry_missed : {B : Type 0} (f : ℕ → Data → Option B) (n k : ℕ) (vs : List Value) (i : ℕ) (x : Value) (why : ManifestFault) → i < length vs → x ≡ get_or vs i x → k ≡ n + i → Misses (f k (view x)) why → Misses (each_from f n (map view vs)) why
entry_missed f n k vs i x NotJson below here at h = h
entry_missed f n k vs i x BadManifest below here at h = entry_none f n k vs i x below at (subst (λ v. f k (view v) ≡ None) here h)
entry_missed f n k vs i x NoMemory below here at h = tt

-- the entries that were added to others
abbrev Adds : (ℕ → Data → Option Entry) → ℕ → List Data → List Entry → List Entry → Type 0
Adds f n values initial files = (added : List Entry) × (each_from f n values ≡ Some added) × (files ≡ initial ++ added)

-- one more of them
pub more_entries : (f : ℕ → Data → Option Entry) (n k : ℕ) (vs : List Value) (i : ℕ) (x : Value) (e : Entry) (initial files next : List Entry) → i < length vs → x ≡ get_or vs i x → k ≡ n + i
    → f k (view x) ≡ Some e → next ≡ files ++ e ∷ [] → Adds f n (take i (map view vs)) initial files → Adds f n (take (i + 1) (map view vs)) initial next
more_entries f n k vs i x e initial files next below here at made pushed (added, all, are) =
    let made_here : f k (view (get_or vs i x)) ≡ Some e = subst (λ v. f k (view v) ≡ Some e) here made in
    (added ++ e ∷ [], entry_more f n k vs i added x e below at all made_here, pushed ∙ (ap (λ (xs : List Entry). xs ++ e ∷ []) are ∙ append_assoc initial added (e ∷ [])))

-- what holds of each, and of one more
pub more_lawful : (P : Entry → Type 0) (initial files next : List Entry) (e : Entry) → next ≡ files ++ e ∷ [] → P e → (All P initial → All P files) → All P initial → All P next
more_lawful P initial files next e pushed h keeps all = subst (λ xs. All P xs) (sym pushed) (All-append P files (e ∷ []) (keeps all) (All-cons P e [] h (All-nil P)))

-- no name, no copper file
pub copper_missed : (k : ℕ) (x : Data) (why : ManifestFault) → Misses (name_of x) why → Misses (copper_entry k x) why
copper_missed k x NotJson h = h
copper_missed k x BadManifest h = rw h refl
copper_missed k x NoMemory h = tt

-- a name makes a copper file
pub copper_made : (k : ℕ) (x : Data) (name : List ℕ) → name_of x ≡ Some name → copper_entry k x ≡ Some (record { name = name; number = k; role = Copper (k + 1) })
copper_made k x name h = rw h refl
