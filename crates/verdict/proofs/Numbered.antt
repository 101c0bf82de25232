-- Texts of items one after another.
use Rattle.std.proofs.Common.{◌≡◌, ℕ, suc, ◌+◌, ◌<◌, List, [], ◌∷◌, ◌++◌, length, take, get_or, sym, ap, ◌∙◌, append_assoc, append-nil, add-zero, arith}
use Rattle.std.proofs.lemmas.List.{length-take-le}
use Rattle.std.proofs.lemmas.List.{take_more}
use Rattle.verdict.specs.ReportText.{numbered}

-- the texts of a list with one item more
pub numbered_push : {X : Type 0} (f : ℕ → X → List ℕ) (n : ℕ) (xs : List X) (x : X) → numbered f n (xs ++ x ∷ []) ≡ numbered f n xs ++ f (n + length xs) x
numbered_push f n [] x = append-nil (f n x) ∙ ap (λ (k : ℕ). f k x) (sym (add-zero n))
numbered_push f n (y ∷ ys) x =
    let same : n + 1 + length ys ≡ n + suc (length ys) = omega arith in
    ap (λ (t : List ℕ). f n y ++ t) (numbered_push f (n + 1) ys x ∙ ap (λ (k : ℕ). numbered f (n + 1) ys ++ f k x) same) ∙ sym (append_assoc (f n y) _ _)

-- one turn of a loop that appends the text of each item
pub numbered_turn : {X : Type 0} (f : ℕ → X → List ℕ) (start before after : List ℕ) (xs : List X) (i : ℕ) (x d : X) → i < length xs → x ≡ get_or xs i d → before ≡ start ++ numbered f 0 (take i xs) → after ≡ before ++ f i x → after ≡ start ++ numbered f 0 (take (i + 1) xs)
numbered_turn f start before after xs i x d below item so_far now =
    let short : length (take i xs) ≡ i = length-take-le i xs (omega arith) in
    let count : 0 + length (take i xs) ≡ i = omega arith in
    let more : take (i + 1) xs ≡ take i xs ++ x ∷ [] = take_more xs i d below ∙ ap (λ (y : _). take i xs ++ y ∷ []) (sym item) in
    let text : numbered f 0 (take (i + 1) xs) ≡ numbered f 0 (take i xs) ++ f i x =
    ap (numbered f 0) more ∙ (numbered_push f 0 (take i xs) x ∙ ap (λ (k : ℕ). numbered f 0 (take i xs) ++ f k x) count) in
    now ∙ (ap (λ (t : List ℕ). t ++ f i x) so_far ∙ (append_assoc start _ _ ∙ ap (λ (t : List ℕ). start ++ t) (sym text)))
