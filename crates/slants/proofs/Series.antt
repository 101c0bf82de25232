-- Powers over their factorials, in whole numbers: the series of cosine and sine, and those of a sum.
use Rattle.std.proofs.Common.{◌≡◌, ℕ, zero, suc, ◌+◌, ◌*◌, ◌<◌, ◌≤◌, ap, arith, refl}

-- terms whose quotients are x/l, x/(2 l), x/(3 l) and so on, n times
abbrev pub AreTerms : ℕ → ℕ → ℕ → (ℕ → ℕ) → Type 0
AreTerms n l x e = (j : ℕ) → j < n → suc j * (l * e (suc j)) ≡ x * e j

-- the sum of all products of a term of one and of the other, m in all
unfoldable pub convolved : (ℕ → ℕ) → (ℕ → ℕ) → ℕ → ℕ
convolved a b zero = a 0 * b 0
convolved a b (suc m) = a 0 * b (suc m) + convolved (λ j. a (suc j)) b m

-- so the terms of a may begin later
stepped : (l x y o : ℕ) (a b : ℕ → ℕ) (m : ℕ) → ((j : ℕ) → j ≤ m → (suc j + o) * (l * a (suc j)) ≡ x * a j) → ((j : ℕ) → j ≤ m → suc j * (l * b (suc j)) ≡ y * b j)
    → (x + y) * convolved a b m + o * (l * (a 0 * b (suc m))) ≡ (suc m + o) * (l * convolved a b (suc m))
unfolding convolved
stepped l x y o a b zero ha hb =
    let f : (1 + o) * (l * a 1) * b 0 ≡ x * a 0 * b 0 = ap (λ z. z * b 0) (ha 0 (omega arith)) in
    let g : a 0 * (1 * (l * b 1)) ≡ a 0 * (y * b 0) = ap (λ z. a 0 * z) (hb 0 (omega arith)) in
    let d : convolved a b 0 ≡ a 0 * b 0 = refl in
    let e : convolved a b 1 ≡ a 0 * b 1 + a 1 * b 0 = refl in
    omega (arith, f, g, d, e)
stepped l x y o a b (suc m) ha hb =
    let f : (1 + o) * (l * a 1) * b (suc m) ≡ x * a 0 * b (suc m) = ap (λ z. z * b (suc m)) (ha 0 (omega arith)) in
    let g : a 0 * (suc (suc m) * (l * b (suc (suc m)))) ≡ a 0 * (y * b (suc m)) = ap (λ z. a 0 * z) (hb (suc m) (omega arith)) in
    let i = stepped l x y (suc o) (λ j. a (suc j)) b m later (λ j k. hb j (omega (arith, k))) in
    let d : convolved a b (suc m) ≡ a 0 * b (suc m) + convolved (λ j. a (suc j)) b m = refl in
    let e : convolved a b (suc (suc m)) ≡ a 0 * b (suc (suc m)) + convolved (λ j. a (suc j)) b (suc m) = refl in
    omega (arith, f, g, i, d, e)
  where
    later : (j : ℕ) → j ≤ m → (suc j + suc o) * (l * a (suc (suc j))) ≡ x * a (suc j)
    later j k = let e = ha (suc j) (omega (arith, k)) in omega (arith, e)

same_cancel : (c u v : ℕ) → 1 ≤ c → c * u ≡ c * v → u ≡ v
same_cancel c u v some e = grind arith

-- the binomial theorem
pub binomial : (n l k x y : ℕ) (a b f : ℕ → ℕ) → 1 ≤ l → a 0 ≡ k → b 0 ≡ k → f 0 ≡ k → AreTerms n l x a → AreTerms n l y b → AreTerms n l (x + y) f → (m : ℕ) → m ≤ n → k * f m ≡ convolved a b m
unfolding convolved
binomial n l k x y a b f some ea eb ef ha hb hf zero below = rw (ea, eb, ef) refl
binomial n l k x y a b f some ea eb ef ha hb hf (suc m) below =
    let i : k * f m ≡ convolved a b m = binomial n l k x y a b f some ea eb ef ha hb hf m (omega (arith, below)) in
    let s = stepped l x y 0 a b m (λ j h. let e = ha j (omega (arith, h, below)) in omega (arith, e)) (λ j h. hb j (omega (arith, h, below))) in
    let g : k * (suc m * (l * f (suc m))) ≡ k * ((x + y) * f m) = ap (λ z. k * z) (hf m (omega (arith, below))) in
    let h : (x + y) * (k * f m) ≡ (x + y) * convolved a b m = ap (λ z. (x + y) * z) i in
    let t : 1 ≤ suc m * l = omega (arith, some) in
    same_cancel (suc m * l) (k * f (suc m)) (convolved a b (suc m)) t (omega (arith, s, g, h))
