-- Whether shapes are those of all dark objects.
use Rattle.std.proofs.Common.{◌≡◌, ◌↔◌, ℕ, zero, suc, ◌+◌, ◌-◌, ◌≤◌, ◌<◌, IsTrue, List, [], ◌∷◌, ◌++◌, drop, take, get_or, length, map, nat_eq, true, add-one, refl, sym, ap, subst, ◌∙◌, arith}
use Rattle.std.proofs.Math.Seq.{drop-cons}
use Rattle.std.proofs.lemmas.Bool.Decides.{nat_tests}
use Rattle.std.proofs.lemmas.List.{length-drop, length-map}
use Rattle.board_shapes.specs.Figures.{Figure, figure_of}
use Rattle.board_shapes.specs.declared.shape.Shape.{Shape}
use Rattle.clear_polarity.specs.Taken.{dark_figures, dark_ones}
use Rattle.clear_polarity.specs.declared.LayerObject.{LayerObject}
use Rattle.clear_polarity.proofs.Lists.{run}

abbrev own : LayerObject → List Figure
own o = dark_ones o.polarity (map figure_of o.outer.items)

none : (n : ℕ) → ◌≡◌ {A = List Shape} (drop n []) []
none zero = refl
none (suc n) = refl

none_more : (n : ℕ) → n ≡ 0 + n
none_more n = omega arith

one_more : (s n : ℕ) → suc (s + n) ≡ suc s + n
one_more s n = omega arith

dropped : (s n : ℕ) (xs : List Shape) → drop n (drop s xs) ≡ drop (s + n) xs
dropped zero n xs = ap (λ (m : ℕ). drop m xs) (none_more n)
dropped (suc s) n [] = none n ∙ sym (none (suc s + n))
dropped (suc s) n (x ∷ xs) = dropped s n xs ∙ ap (λ (m : ℕ). drop m (x ∷ xs)) (one_more s n)

past : {A : Type 0} (xs : List A) (i : ℕ) → length xs ≤ i → drop i xs ≡ []
past [] zero h = refl
past [] (suc i) h = refl
past (x ∷ xs) zero h = absurd (omega (arith, h))
past (x ∷ xs) (suc i) h = past xs i (omega (arith, h))

module _ (objects : List LayerObject) (upper : List Shape) (W : Type 0) (s i : ℕ) (few : s ≤ length upper) (told : (map figure_of (drop s upper) ≡ dark_figures (drop i objects)) ↔ W) where
  module _ (o : LayerObject) (below : i < length objects) (is : get_or objects i o ≡ o) where
    ahead : drop i objects ≡ o ∷ drop (i + 1) objects
    ahead = drop-cons objects i o below ∙ ap (λ (x : LayerObject). x ∷ drop (suc i) objects) is ∙ ap (λ (n : ℕ). o ∷ drop n objects) (sym (add-one i))

    figures_ahead : dark_figures (drop i objects) ≡ own o ++ dark_figures (drop (i + 1) objects)
    figures_ahead = ap dark_figures ahead

    turn : (n : ℕ) → n ≤ length (drop s upper) → map figure_of (take n (drop s upper)) ≡ own o → (s + n ≤ length upper) × ((map figure_of (drop (s + n) upper) ≡ dark_figures (drop (i + 1) objects)) ↔ W)
    turn n within same =
        let long : length (drop s upper) ≡ length upper - s = length-drop s upper in
        let r = run n (drop s upper) (own o) (dark_figures (drop (i + 1) objects)) same in (
          omega (arith, long, within, few),
          (
            λ e. told.0 (r.1 (ap (λ (xs : List Shape). map figure_of xs) (dropped s n upper) ∙ e) ∙ sym figures_ahead),
            λ w. ap (λ (xs : List Shape). map figure_of xs) (sym (dropped s n upper)) ∙ r.0 (told.1 w ∙ figures_ahead),
          ),
        )

    refused : ((rest : List Figure) → map figure_of (drop s upper) ≡ own o ++ rest → ⊥) → W → ⊥
    refused none w = none (dark_figures (drop (i + 1) objects)) (told.1 w ∙ figures_ahead)

    pub turn_at : (shapes : List Shape) (n : ℕ) → shapes ≡ drop s upper → n ≤ length shapes → map figure_of (take n shapes) ≡ own o → (s + n ≤ length upper) × ((map figure_of (drop (s + n) upper) ≡ dark_figures (drop (i + 1) objects)) ↔ W)
    turn_at shapes n e within same = turn n (subst (λ (xs : List Shape). n ≤ length xs) e within) (subst (λ (xs : List Shape). map figure_of (take n xs) ≡ own o) e same)

    pub refused_at : (shapes : List Shape) → shapes ≡ drop s upper → ((rest : List Figure) → map figure_of shapes ≡ own o ++ rest → ⊥) → W → ⊥
    refused_at shapes e none w = refused (subst (λ (xs : List Shape). (rest : List Figure) → map figure_of xs ≡ own o ++ rest → ⊥) e none) w

  same_to : (m n : ℕ) → nat_eq m n ≡ true → m ≡ n
  same_to m n h = grind (arith, nat_tests)

  same_of : (m n : ℕ) → m ≡ n → nat_eq m n ≡ true
  same_of m n h = grind (arith, nat_tests)

  pub ended : length objects ≤ i → IsTrue (nat_eq s (length upper)) ↔ W
  ended all = (
    λ yes. told.0 (ap (λ (xs : List Shape). map figure_of xs) (past upper s (let e = same_to s (length upper) yes in omega (arith, e))) ∙ sym none_left),
    λ w. same_of s (length upper) (let e = ap length (told.1 w ∙ none_left) in let m = length-map (drop s upper) figure_of in let d = length-drop s upper in omega (arith, e, m, d, few)),
  )
    where
      none_left : dark_figures (drop i objects) ≡ []
      none_left = ap dark_figures (past objects i all)
