-- The words of definitions, and the macros by their names.
use Rattle.std.proofs.Common.{◌≡◌, ℕ, ◌+◌, ◌-◌, ◌<◌, suc, Bool, true, false, cond, List, [], ◌∷◌, ◌++◌, Option, Some, None, option_map, refl, sym, ap, ◌∙◌, append_assoc, arith}
use Rattle.std.specs.List.{after_first, before_first}
use Rattle.texts.specs.Words.{is_word}
use Rattle.lengths.specs.Decimal.{Fraction, decimal, fraction, is_decimal}
use Rattle.apertures.specs.Definition.{is_x}
use Rattle.aperture_macros.specs.BodyWord.{PlainPrimitive}
use Rattle.gerber_reading.specs.Tools.{Macro, decimals_in, latest_or}

-- the last macro goes to the others
pub closed_is : {V M : Type 0} (f : V → List PlainPrimitive) (g : M → Macro) (latest : Option M) (m : M) (v : V) (new old : Option V) (name : List ℕ) → latest ≡ Some m → (g m).body ≡ f v → new ≡ cond (is_word (g m).name name) (Some v) old → option_map f new ≡ latest_or (option_map g latest) (option_map f old) name
closed_is f g latest m v new old name had same h =
    ap (option_map f) h ∙ by (is_word (g m).name name) ∙ sym (ap (λ (l : Option _). latest_or (option_map g l) (option_map f old) name) had)
  where
    by : (b : Bool) → option_map f (cond b (Some v) old) ≡ cond b (Some (g m).body) (option_map f old)
    by true = ap Some (sym same)
    by false = refl

-- a part that is no decimal
pub none_more : (n k : ℕ) (text : List ℕ) (done : List Fraction) → k < n → decimal (before_first is_x text) ≡ None → option_map (λ more. done ++ more) (decimals_in (n - k) text) ≡ None
unfolding decimals_in
none_more n k text done some h = let e : n - k ≡ suc (n - (k + 1)) = omega (arith, some) in rw e (by (is_decimal (before_first is_x text)) (n - (k + 1)) h)
  where
    by : (b : Bool) (m : ℕ) → cond b (Some (fraction (before_first is_x text))) None ≡ None → option_map (λ more. done ++ more) (cond b (option_map (λ more. fraction (before_first is_x text) ∷ more) (decimals_in m (after_first is_x text))) None) ≡ None
    by true m h = cc
    by false m h = refl

-- and one that is
pub one_decimal : (n k : ℕ) (text : List ℕ) (done new : List Fraction) (d : Fraction) → k < n → decimal (before_first is_x text) ≡ Some d → new ≡ done ++ d ∷ [] → option_map (λ more. done ++ more) (decimals_in (n - k) text) ≡ option_map (λ more. new ++ more) (decimals_in (n - (k + 1)) (after_first is_x text))
unfolding decimals_in
one_decimal n k text done new d some h e =
    let less : n - k ≡ suc (n - (k + 1)) = omega (arith, some) in
    rw (less, e) (by (is_decimal (before_first is_x text)) (n - (k + 1)) h)
  where
    along : (r : Option (List Fraction)) → option_map (λ more. done ++ more) (option_map (λ more. d ∷ more) r) ≡ option_map (λ more. (done ++ d ∷ []) ++ more) r
    along None = refl
    along (Some more) = ap Some (sym (append_assoc done (d ∷ []) more))

    by : (b : Bool) (m : ℕ) → cond b (Some (fraction (before_first is_x text))) None ≡ Some d → option_map (λ more. done ++ more) (cond b (option_map (λ more. fraction (before_first is_x text) ∷ more) (decimals_in m (after_first is_x text))) None) ≡ option_map (λ more. (done ++ d ∷ []) ++ more) (decimals_in m (after_first is_x text))
    by true m h =
        let same : fraction (before_first is_x text) ≡ d = cc in
        ap (λ (f : Fraction). option_map (λ more. done ++ more) (option_map (λ more. f ∷ more) (decimals_in m (after_first is_x text)))) same ∙ along (decimals_in m (after_first is_x text))
    by false m h = cc
