-- The names of a table, as lists.
use Rattle.std.proofs.Common.{◌≡◌, ℕ, ◌+◌, ◌<◌, Bool, true, false, not, ◌||◌, cond, List, [], ◌∷◌, ◌++◌, length, take, map, get_or, refl, sym, arith, ap, ◌∙◌, subst}
use Rattle.std.specs.Cmp.{IsEquivalence}
use Rattle.std.specs.List.{AllByRecursion, IsDistinct, list_any, position_or_len, All}
use Rattle.std.proofs.lemmas.List.{map-append, get_or-map, take_more, length-map}
use Rattle.ipc356_records.specs.Names.{is_name, index_of, with_name}

-- a name's number among views of names
pub index-map : {X : Type 0} (f : X → List ℕ) (name : X) (xs : List X) → position_or_len (λ x. is_name (f name) (f x)) xs ≡ index_of (f name) (map f xs)
index-map f name [] = refl
index-map f name (x ∷ xs) = ap (λ (n : ℕ). cond (not (is_name (f name) (f x))) (1 + n) 0) (index-map f name xs)

any-map : {X : Type 0} (f : X → List ℕ) (name : X) (xs : List X) → list_any (λ x. is_name (f name) (f x)) xs ≡ list_any (is_name (f name)) (map f xs)
any-map f name [] = refl
any-map f name (x ∷ xs) = ap (λ (b : Bool). is_name (f name) (f x) || b) (any-map f name xs)

-- and the names with it
pub with_name-map : {X : Type 0} (f : X → List ℕ) (name : X) (xs : List X) → map f (cond (list_any (λ x. is_name (f name) (f x)) xs) xs (xs ++ name ∷ [])) ≡ with_name (f name) (map f xs)
with_name-map f name xs = rw (any-map f name xs) (by (list_any (is_name (f name)) (map f xs)))
  where
    by : (b : Bool) → map f (cond b xs (xs ++ name ∷ [])) ≡ cond b (map f xs) (map f xs ++ f name ∷ [])
    by true = refl
    by false = map-append f xs (name ∷ [])

-- ---- the last of distinct names

last_one : {X : Type 0} (P : X → Type 0) (xs : List X) (y : X) → AllByRecursion P (xs ++ y ∷ []) → P y
last_one P [] y h = h.0
last_one P (x ∷ xs) y h = last_one P xs y h.1

-- its number is that of how many stand before it
pub last_index : {X : Type 0} {eq : X → X → Bool} (laws : IsEquivalence eq) (before : List X) (last name : X) → IsDistinct eq (before ++ last ∷ []) → eq name last ≡ true → position_or_len (eq name) (before ++ last ∷ []) ≡ length before
unfolding IsDistinct
last_index laws [] last name d e = rw e refl
last_index {eq = eq} laws (x ∷ xs) last name d e =
    let other : eq name x ≡ false = laws.congr name last x e ∙ laws.symm last x ∙ last_one (λ y. eq x y ≡ false) xs last d.0 in
    let more : position_or_len (eq name) (xs ++ last ∷ []) ≡ length xs = last_index laws xs last name d.1 e in
    rw other (omega (arith, more))

-- and it is one of them
pub last_any : {X : Type 0} (p : X → Bool) (before : List X) (last : X) → p last ≡ true → list_any p (before ++ last ∷ []) ≡ true
last_any p [] last e = rw e refl
last_any p (x ∷ xs) last e = either (p x) (last_any p xs last e)
  where
    either : (b : Bool) {c : Bool} → c ≡ true → (b || c) ≡ true
    either true e = refl
    either false e = e

-- each of them is a text
pub text_at : {X : Type 0} (P : List ℕ → Type 0) (f : X → List ℕ) (keys items : List X) (i : ℕ) (d : X) → items ≡ keys → All P (map f keys) → i < length items → P (f (get_or items i d))
text_at {X = X} P f keys items i d same all below =
    let less : i < length (map f items) = (let e = length-map items f in omega arith) in
    let each : All P (map f items) = subst (λ (xs : List X). All P (map f xs)) (sym same) all in
    subst P (get_or-map f items i d (f d) below) (each i (f d) less)

-- and one more of them is taken
pub names-step : {X : Type 0} (f : X → List ℕ) (keys items : List X) (rows : List (List ℕ)) (i : ℕ) (d : X) → items ≡ keys → rows ≡ take i (map f keys) → i < length items → rows ++ f (get_or items i d) ∷ [] ≡ take (i + 1) (map f keys)
names-step {X = X} f keys items rows i d same so_far below =
    let less : i < length (map f items) = (let e = length-map items f in omega arith) in
    let at : get_or (map f items) i (f d) ≡ f (get_or items i d) = get_or-map f items i d (f d) below in
    let front : rows ≡ take i (map f items) = so_far ∙ ap (λ (xs : List X). take i (map f xs)) (sym same) in
    let more : take (i + 1) (map f items) ≡ rows ++ f (get_or items i d) ∷ [] = take_more (map f items) i (f d) less ∙ ap (λ (y : List ℕ). take i (map f items) ++ y ∷ []) at ∙ ap (λ (xs : List (List ℕ)). xs ++ f (get_or items i d) ∷ []) (sym front) in
    sym more ∙ ap (λ (xs : List X). take (i + 1) (map f xs)) same
