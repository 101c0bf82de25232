-- The lines that a text of lines is cut into.
use Rattle.std.proofs.Common.{◌≡◌, ℕ, zero, suc, ◌+◌, ◌-◌, ◌<◌, Bool, true, false, ◌&&◌, eqb, nat_eq, nat_le, List, [], ◌∷◌, ◌++◌, length, map, drop, get_or, All, refl, sym, ap, ◌∙◌, subst, arith, append_assoc}
use Rattle.std.proofs.lemmas.Bool.{eqb-true}
use Rattle.std.proofs.lemmas.List.Elements.{All-from_get_or}
use Rattle.std.proofs.lemmas.List.Folds.{list_all_at}
use Rattle.std.proofs.lemmas.List.Splits.{length-slice_split, slice_split_at}
use Rattle.std.specs.Cmp.Lexicographic.{pointwise}
use Rattle.std.specs.List.{flat_map, list_all, slice_split, AllByRecursion}
use Rattle.texts.specs.Lines.{PlainLine, is_feed, without_return, lines_in, lines_from, lines_of}

-- a line and its end
abbrev pub spelled : List ℕ → List ℕ
spelled line = line ++ 10 ∷ []

-- bytes from the blank on: no line end
abbrev pub is_plain : ℕ → Bool
is_plain b = nat_le 32 b

abbrev pub IsPlain : List ℕ → Type 0
IsPlain text = list_all is_plain text ≡ true

-- of bytes of one kind, each is
pub each_of : (p : ℕ → Bool) (xs : List ℕ) → list_all p xs ≡ true → (i d : ℕ) → i < length xs → p (get_or xs i d) ≡ true
each_of p xs all i d below = by (p (get_or xs i d)) refl
  where
    by : (b : Bool) → p (get_or xs i d) ≡ b → p (get_or xs i d) ≡ true
    by true e = e
    by false e = let k : list_all p xs ≡ false = list_all_at p xs i d below e in cc

pub plain_no_feed : (b : ℕ) → is_plain b ≡ true → is_feed b ≡ false
plain_no_feed b h = by (is_feed b) refl
  where
    by : (v : Bool) → is_feed b ≡ v → is_feed b ≡ false
    by true e = let same : b ≡ 10 = eqb-true b 10 e in let k : is_plain 10 ≡ true = subst (λ (x : ℕ). is_plain x ≡ true) same h in cc
    by false e = e

pub no_feeds : (text : List ℕ) → IsPlain text → All (λ b. is_feed b ≡ false) text
no_feeds text h = All-from_get_or (λ b. is_feed b ≡ false) text 0 (λ i below. plain_no_feed (get_or text i 0) (each_of is_plain text h i 0 below))

pub plain_behind : (n : ℕ) (text : List ℕ) → IsPlain text → IsPlain (drop n text)
plain_behind n [] h = by n
  where
    by : (n : ℕ) → IsPlain (drop n [])
    by zero = refl
    by (suc n) = refl
plain_behind zero (b ∷ text) h = h
plain_behind (suc n) (b ∷ text) h = by (is_plain b) h (λ k. plain_behind n text k)
  where
    by : (v : Bool) → (v && list_all is_plain text) ≡ true → (IsPlain text → IsPlain (drop n text)) → IsPlain (drop n text)
    by true k more = more k
    by false k more = cc

pub no_return_first : (text : List ℕ) → IsPlain text → pointwise nat_eq (13 ∷ []) text ≡ false
no_return_first [] h = refl
no_return_first (b ∷ text) h = by (eqb 13 b) refl
  where
    by : (v : Bool) → eqb 13 b ≡ v → (v && pointwise nat_eq [] text) ≡ false
    by true e = let same : 13 ≡ b = eqb-true 13 b e in let k : (is_plain 13 && list_all is_plain text) ≡ true = subst (λ (x : ℕ). (is_plain x && list_all is_plain text) ≡ true) (sym same) h in cc
    by false e = refl

pub whole_line : (text : List ℕ) → IsPlain text → without_return text ≡ text
whole_line text h = rw (no_return_first (drop (length text - 1) text) (plain_behind (length text - 1) text h)) refl

-- what stands in lines
abbrev pub texts : List PlainLine → List (List ℕ)
texts lines = map (λ l. l.text) lines

-- a part that others follow
part_then : (n at : ℕ) (part : List ℕ) (parts : List (List ℕ)) → 0 < length parts → texts (lines_in n at (part ∷ parts)) ≡ without_return part ∷ texts (lines_in (n + 1) (at + length part + 1) parts)
part_then n at part [] some = absurd (omega (arith, some))
part_then n at part (next ∷ parts) some = refl

lines_cut : (n at : ℕ) (lines : List (List ℕ)) → AllByRecursion IsPlain lines → texts (lines_in n at (slice_split is_feed (flat_map spelled lines))) ≡ lines
lines_cut n at [] plain = refl
lines_cut n at (l ∷ lines) plain =
    let rest : List ℕ = flat_map spelled lines in
    let split : slice_split is_feed ((l ++ 10 ∷ []) ++ rest) ≡ l ∷ slice_split is_feed rest = ap (slice_split is_feed) (append_assoc l (10 ∷ []) rest) ∙ slice_split_at is_feed l 10 rest (no_feeds l plain.0) refl in
    let some : 0 < length (slice_split is_feed rest) = omega (arith, length-slice_split is_feed rest) in
    ap (λ (parts : List (List ℕ)). texts (lines_in n at parts)) split
    ∙ (part_then n at l (slice_split is_feed rest) some
    ∙ (ap (λ (text : List ℕ). text ∷ texts (lines_in (n + 1) (at + length l + 1) (slice_split is_feed rest))) (whole_line l plain.0)
    ∙ ap (λ (ls : List (List ℕ)). l ∷ ls) (lines_cut (n + 1) (at + length l + 1) lines plain.1)))

-- a text of lines has these lines
pub text_cut : (lines : List (List ℕ)) → AllByRecursion IsPlain lines → texts (lines_of (flat_map spelled lines)) ≡ lines
unfolding lines_from
text_cut lines plain = lines_cut 1 0 lines plain
