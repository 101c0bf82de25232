-- The files of a package, one after another.
use Rattle.std.proofs.Common.{◌≡◌, inl, inr, ℕ, ◌+◌, ◌<◌, Bool, List, [], ◌∷◌, ◌++◌, length, take, drop, get_or, append_assoc, sym, ap, subst, ◌∙◌}
use Rattle.std.proofs.lemmas.List.{take_more, take-append-drop}
use Rattle.std.proofs.lemmas.List.Elements.{filter-append}
use Rattle.std.specs.List.{filter}
use Rattle.board_package.specs.PackageBoard.{AtOneBy, WalksBy}
use Rattle.board_package.specs.declared.entry.Entry.{Entry}

-- two walks, one after the other
walks_on : {S : Type 0} (Step : Entry → S → S → Type 0) (done rest : List Entry) (start mid end : S) → WalksBy Step done start mid → WalksBy Step rest mid end → WalksBy Step (done ++ rest) start end
walks_on Step [] rest start mid end w v = subst (λ b. WalksBy Step rest b end) (sym w) v
walks_on Step (d ∷ done) rest start mid end w v = (w.0, w.1, walks_on Step done rest w.0 mid end w.2 v)

-- P holds at a file behind a walk, or among the files in front
at_one_behind : {S : Type 0} (Step : Entry → S → S → Type 0) (done rest : List Entry) (start mid : S) (P : Entry → S → Type 0) → WalksBy Step done start mid → AtOneBy Step rest mid P → AtOneBy Step (done ++ rest) start P
at_one_behind Step [] rest start mid P w h = subst (λ b. AtOneBy Step rest b P) (sym w) h
at_one_behind Step (d ∷ done) rest start mid P w h = inr (w.0, w.1, at_one_behind Step done rest w.0 mid P w.2 h)

at_one_before : {S : Type 0} (Step : Entry → S → S → Type 0) (front back : List Entry) (start : S) (P : Entry → S → Type 0) → AtOneBy Step front start P → AtOneBy Step (front ++ back) start P
at_one_before Step [] back start P h = absurd h
at_one_before Step (d ∷ front) back start P (inl h) = inl h
at_one_before Step (d ∷ front) back start P (inr h) = inr (h.0, h.1, at_one_before Step front back h.0 P h.2)

split_at : (entries : List Entry) (i : ℕ) (d : Entry) → i < length entries → entries ≡ take i entries ++ get_or entries i d ∷ drop (i + 1) entries
split_at entries i d below =
    sym (take-append-drop (i + 1) entries) ∙ (ap (λ (xs : List Entry). xs ++ drop (i + 1) entries) (take_more entries i d below) ∙ simp append_assoc)

-- one step more, of the files that pass a test
pub passing_walk_more : {S : Type 0} (Step : Entry → S → S → Type 0) (p : Entry → Bool) (entries : List Entry) (i : ℕ) (e : Entry) (start mid end : S) → i < length entries → e ≡ get_or entries i e → WalksBy Step (filter p (take i entries)) start mid → WalksBy Step (filter p (e ∷ [])) mid end → WalksBy Step (filter p (take (i + 1) entries)) start end
passing_walk_more Step p entries i e start mid end below here w v =
    let parts : filter p (take (i + 1) entries) ≡ filter p (take i entries) ++ filter p (e ∷ []) = ap (filter p) (take_more entries i e below) ∙ filter-append p (take i entries) (get_or entries i e ∷ []) ∙ ap (λ (x : Entry). filter p (take i entries) ++ filter p (x ∷ [])) (sym here) in
    subst (λ xs. WalksBy Step xs start end) (sym parts) (walks_on Step (filter p (take i entries)) (filter p (e ∷ [])) start mid end w v)

pub passing_at_one : {S : Type 0} (Step : Entry → S → S → Type 0) (p : Entry → Bool) (entries : List Entry) (i : ℕ) (e : Entry) (start mid : S) (P : Entry → S → Type 0) → i < length entries → e ≡ get_or entries i e → WalksBy Step (filter p (take i entries)) start mid → AtOneBy Step (filter p (e ∷ [])) mid P → AtOneBy Step (filter p entries) start P
passing_at_one Step p entries i e start mid P below here w h =
    let behind = drop (i + 1) entries in
    let whole : entries ≡ take i entries ++ e ∷ behind = split_at entries i e below ∙ ap (λ (x : Entry). take i entries ++ x ∷ behind) (sym here) in
    let parts : filter p entries ≡ filter p (take i entries) ++ (filter p (e ∷ []) ++ filter p behind) = ap (filter p) whole ∙ filter-append p (take i entries) (e ∷ behind) ∙ ap (λ (xs : List Entry). filter p (take i entries) ++ xs) (filter-append p (e ∷ []) behind) in
    subst (λ xs. AtOneBy Step xs start P) (sym parts) (at_one_behind Step (filter p (take i entries)) (filter p (e ∷ []) ++ filter p behind) start mid P w (at_one_before Step (filter p (e ∷ [])) (filter p behind) mid P h))

-- ---- What a state stands for

pub walks_as : {S T : Type 0} (f : S → T) (Step : Entry → S → S → Type 0) (Other : Entry → T → T → Type 0) → ((e : Entry) (a b : S) → Step e a b → Other e (f a) (f b)) → (entries : List Entry) (a b : S) → WalksBy Step entries a b → WalksBy Other entries (f a) (f b)
walks_as f Step Other k [] a b w = ap f w
walks_as f Step Other k (e ∷ rest) a b (n, s, w) = (f n, k e a n s, walks_as f Step Other k rest n b w)

pub one_as : {S T : Type 0} (f : S → T) (Step : Entry → S → S → Type 0) (Other : Entry → T → T → Type 0) (P : Entry → S → Type 0) (Q : Entry → T → Type 0) → ((e : Entry) (a b : S) → Step e a b → Other e (f a) (f b)) → ((e : Entry) (a : S) → P e a → Q e (f a)) → (entries : List Entry) (a : S) → AtOneBy Step entries a P → AtOneBy Other entries (f a) Q
one_as f Step Other P Q k l [] a h = absurd h
one_as f Step Other P Q k l (e ∷ rest) a (inl p) = inl (l e a p)
one_as f Step Other P Q k l (e ∷ rest) a (inr (n, s, h)) = inr (f n, k e a n s, one_as f Step Other P Q k l rest n h)

-- ---- One outcome of a walk

-- where each step has one end, so has the walk
pub one_walk : {S : Type 0} (Step : Entry → S → S → Type 0) → ((e : Entry) (b x y : S) → Step e b x → Step e b y → x ≡ y) → (entries : List Entry) (start x y : S) → WalksBy Step entries start x → WalksBy Step entries start y → x ≡ y
one_walk Step one [] start x y p q = sym p ∙ q
one_walk Step one (e ∷ rest) start x y (b, goes, walks) (b', goes', walks') =
    one_walk Step one rest b' x y (subst (λ c. WalksBy Step rest c x) (one e start b b' goes goes') walks) walks'

-- where no file is passed at which P holds, a walk to the end meets none
pub walk_or_one : {S : Type 0} (Step : Entry → S → S → Type 0) → ((e : Entry) (b x y : S) → Step e b x → Step e b y → x ≡ y) → (P : Entry → S → Type 0) → ((e : Entry) (b x : S) → Step e b x → P e b → ⊥) → (entries : List Entry) (start x : S) → WalksBy Step entries start x → AtOneBy Step entries start P → ⊥
walk_or_one Step one P none [] start x w h = h
walk_or_one Step one P none (e ∷ rest) start x (b, goes, walks) (inl h) = none e start b goes h
walk_or_one Step one P none (e ∷ rest) start x (b, goes, walks) (inr (b', goes', later)) =
    walk_or_one Step one P none rest b' x (subst (λ c. WalksBy Step rest c x) (one e start b b' goes goes') walks) later

-- two such files are the same
pub one_of_walk : {S : Type 0} (Step : Entry → S → S → Type 0) → ((e : Entry) (b x y : S) → Step e b x → Step e b y → x ≡ y) → (P Q : Entry → S → Type 0) (R : Type 0) → ((e : Entry) (b x : S) → Step e b x → P e b → ⊥) → ((e : Entry) (b x : S) → Step e b x → Q e b → ⊥) → ((e : Entry) (b : S) → P e b → Q e b → R) → (entries : List Entry) (start : S) → AtOneBy Step entries start P → AtOneBy Step entries start Q → R
one_of_walk Step one P Q R no_p no_q both [] start p q = absurd p
one_of_walk Step one P Q R no_p no_q both (e ∷ rest) start (inl p) (inl q) = both e start p q
one_of_walk Step one P Q R no_p no_q both (e ∷ rest) start (inl p) (inr (b, goes, later)) = absurd (no_p e start b goes p)
one_of_walk Step one P Q R no_p no_q both (e ∷ rest) start (inr (b, goes, later)) (inl q) = absurd (no_q e start b goes q)
one_of_walk Step one P Q R no_p no_q both (e ∷ rest) start (inr (b, goes, later)) (inr (b', goes', later')) =
    one_of_walk Step one P Q R no_p no_q both rest b' (subst (λ c. AtOneBy Step rest c P) (one e start b b' goes goes') later) later'
