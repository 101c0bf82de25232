-- Files that agree with what was handed over, from one stage to the next.
use Rattle.std.proofs.Common.{◌≡◌, ◌<◌, ℕ, List, [], ◌∷◌, ◌++◌, length, drop, Some, IsSomeAnd, append_assoc, refl, sym, ap, subst, ◌∙◌}
use Rattle.std.proofs.Math.Seq.{drop-append_seam}
use Rattle.std.specs.List.{AllByRecursion}
use Rattle.board_io.specs.Handed.{AgreeWith, Agrees, File, Grows, Handed, Long, with_file, with_long}
use Rattle.board_io.specs.Package.{Files}

append_none : (xs : List Handed) → xs ++ [] ≡ xs
append_none [] = refl
append_none (x ∷ xs) = ap (λ (ys : List Handed). x ∷ ys) (append_none xs)

-- ---- What was handed over only grows

pub grows_none : (a b : List Handed) → b ≡ a → Grows a b
grows_none a b e = ([], e ∙ sym (append_none a))

pub grows_file : (a b : List Handed) (name bytes : List ℕ) → b ≡ with_file a name bytes → Grows a b
grows_file a b name bytes e = (File name bytes ∷ [], e)

pub grows_long : (a b : List Handed) (name : List ℕ) (most : ℕ) → b ≡ with_long a name most → Grows a b
grows_long a b name most e = (Long name most ∷ [], e)

pub grows_on : (a b c : List Handed) → Grows a b → Grows b c → Grows a c
grows_on a b c (g, e) (h, f) = (g ++ h, f ∙ (ap (λ (xs : List Handed). xs ++ h) e ∙ append_assoc a g h))

-- ---- Agreeing

all_front : (files : Files) (xs ys : List Handed) → AllByRecursion (Agrees files) (xs ++ ys) → AllByRecursion (Agrees files) xs
all_front files [] ys h = tt
all_front files (x ∷ xs) ys h = (h.0, all_front files xs ys h.1)

all_back : (files : Files) (xs ys : List Handed) → AllByRecursion (Agrees files) (xs ++ ys) → AllByRecursion (Agrees files) ys
all_back files [] ys h = h
all_back files (x ∷ xs) ys h = all_back files xs ys h.1

all_both : (files : Files) (xs ys : List Handed) → AllByRecursion (Agrees files) xs → AllByRecursion (Agrees files) ys → AllByRecursion (Agrees files) (xs ++ ys)
all_both files [] ys h k = k
all_both files (x ∷ xs) ys h k = (h.0, all_both files xs ys h.1 k)

gained : (files : Files) (a b g : List Handed) → b ≡ a ++ g → AgreeWith files a b → AllByRecursion (Agrees files) g
gained files a b g e h = subst (λ xs. AllByRecursion (Agrees files) xs) (ap (λ (xs : List Handed). drop (length a) xs) e ∙ drop-append_seam a g) h

gains : (files : Files) (a b g : List Handed) → b ≡ a ++ g → AllByRecursion (Agrees files) g → AgreeWith files a b
gains files a b g e h = subst (λ xs. AllByRecursion (Agrees files) xs) (sym (ap (λ (xs : List Handed). drop (length a) xs) e ∙ drop-append_seam a g)) h

-- with what was handed over in the first stage, and in the second
pub agree_front : (files : Files) (a b c : List Handed) → Grows a b → Grows b c → AgreeWith files a c → AgreeWith files a b
agree_front files a b c (g, e) (h, f) w = gains files a b g e (all_front files g h (gained files a c (g ++ h) (f ∙ (ap (λ (xs : List Handed). xs ++ h) e ∙ append_assoc a g h)) w))

pub agree_back : (files : Files) (a b c : List Handed) → Grows a b → Grows b c → AgreeWith files a c → AgreeWith files b c
agree_back files a b c (g, e) (h, f) w = gains files b c h f (all_back files g h (gained files a c (g ++ h) (f ∙ (ap (λ (xs : List Handed). xs ++ h) e ∙ append_assoc a g h)) w))

-- with both stages
pub agree_on : (files : Files) (a b c : List Handed) → Grows a b → Grows b c → AgreeWith files a b → AgreeWith files b c → AgreeWith files a c
agree_on files a b c (g, e) (h, f) v w =
    gains files a c (g ++ h) (f ∙ (ap (λ (xs : List Handed). xs ++ h) e ∙ append_assoc a g h)) (all_both files g h (gained files a b g e v) (gained files b c h f w))

-- with one file
pub agree_file : (files : Files) (a b : List Handed) (name bytes : List ℕ) → b ≡ with_file a name bytes → AgreeWith files a b → files name ≡ Some bytes
agree_file files a b name bytes e w = (gained files a b (File name bytes ∷ []) e w).0

pub agree_long : (files : Files) (a b : List Handed) (name : List ℕ) (most : ℕ) → b ≡ with_long a name most → AgreeWith files a b → IsSomeAnd (files name) (λ bytes. most < length bytes)
agree_long files a b name most e w = (gained files a b (Long name most ∷ []) e w).0
