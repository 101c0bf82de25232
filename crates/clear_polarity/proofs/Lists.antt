-- Spots, figures and shapes in lists.
use Rattle.std.proofs.Common.{◌≡◌, ◌↔◌, ◌&&◌, ◌≤◌, ◌<◌, ◌+◌, ℕ, ℤ, zero, suc, Bool, true, false, IsTrue, All, List, [], ◌∷◌, ◌++◌, drop, take, length, map, get_or, add-one, MatchBool, refl, sym, ap, subst, ◌∙◌, arith}
use Rattle.std.proofs.Math.Seq.{drop-cons}
use Rattle.std.specs.Bool.{Decides}
use Rattle.std.specs.List.{AllWithin, HoldsAt}
use Rattle.std.specs.Ordering.{int_eq}
use Rattle.std.proofs.lemmas.Bool.Decides.{Decides-and, Decides-int_eq, Decides-like}
use Rattle.std.proofs.lemmas.Iterator.Search.{true_from_All}
use Rattle.std.proofs.lemmas.List.Elements.{All-cons, All-from_all_within, All-head, All-nil, All-tail}
use Rattle.planar.specs.declared.Spot.{Spot}
use Rattle.board_shapes.specs.Figures.{Figure, figure_of, filled, round}
use Rattle.board_shapes.specs.declared.shape.Shape.{Shape}

abbrev spot_from : ℤ → ℤ → Spot
spot_from x y = record { x = x; y = y }

pub spot_decides : (a b : Spot) → Decides (int_eq a.x b.x && int_eq a.y b.y) (a ≡ b)
spot_decides a b =
    Decides-like (int_eq a.x b.x && int_eq a.y b.y) (λ e. ap (λ (x : ℤ). spot_from x a.y) e.0 ∙ ap (λ (y : ℤ). spot_from b.x y) e.1) (λ e. (ap (λ (s : Spot). s.x) e, ap (λ (s : Spot). s.y) e))
    (Decides-and (int_eq a.x b.x) (int_eq a.y b.y) (Decides-int_eq a.x b.x) (Decides-int_eq a.y b.y))

abbrev pub points_in : Figure → List Spot
points_in (round s) = []
points_in (filled points) = points

-- what `all` answers
pub all_decides : {X : Type 0} (P : X → Type 0) (xs : List X) (r : Bool) → MatchBool r (AllWithin P xs 0 (length xs)) ((k : ℕ) × (k < length xs) × HoldsAt (λ x. P x → ⊥) xs k) → IsTrue r ↔ All P xs
all_decides P xs true m = (λ t. All-from_all_within P xs m, λ all. refl)
all_decides P xs false m = (λ t. absurd cc, λ all. true_from_All P (λ x. P x → ⊥) false xs (λ x p n. n p) m all)

-- ---- runs of figures

tail : (x y : Figure) (xs ys : List Figure) → x ∷ xs ≡ y ∷ ys → xs ≡ ys
tail x y xs ys e = cc

cancel : (ds xs ys : List Figure) → ds ++ xs ≡ ds ++ ys → xs ≡ ys
cancel [] xs ys e = e
cancel (d ∷ ds) xs ys e = cancel ds xs ys (tail d d (ds ++ xs) (ds ++ ys) e)

split : (n : ℕ) (shapes : List Shape) → map figure_of shapes ≡ map figure_of (take n shapes) ++ map figure_of (drop n shapes)
split zero shapes = refl
split (suc n) [] = refl
split (suc n) (s ∷ shapes) = ap (λ (fs : List Figure). figure_of s ∷ fs) (split n shapes)

-- where the first n shapes have the first figures of a list, the rest have the rest exactly where all have all
pub run : (n : ℕ) (shapes : List Shape) (ds es : List Figure) → map figure_of (take n shapes) ≡ ds → (map figure_of shapes ≡ ds ++ es) ↔ (map figure_of (drop n shapes) ≡ es)
run n shapes ds es same = (
  λ e. cancel ds (map figure_of (drop n shapes)) es (sym whole ∙ e),
  λ e. whole ∙ ap (λ (fs : List Figure). ds ++ fs) e,
)
  where
    whole : map figure_of shapes ≡ ds ++ map figure_of (drop n shapes)
    whole = split n shapes ∙ ap (λ (fs : List Figure). fs ++ map figure_of (drop n shapes)) same

-- shapes that begin with the figures of others
pub begin_with : (others shapes : List Shape) (rest : List Figure) → map figure_of shapes ≡ map figure_of others ++ rest → map figure_of (take (length others) shapes) ≡ map figure_of others
begin_with [] shapes rest e = refl
begin_with (o ∷ others) [] rest e = absurd (empty (figure_of o) (map figure_of others ++ rest) e)
  where
    empty : (x : Figure) (xs : List Figure) → [] ≡ x ∷ xs → ⊥
    empty x xs h = cc
begin_with (o ∷ others) (s ∷ shapes) rest e =
    let k : map figure_of (take (length others) shapes) ≡ map figure_of others = begin_with others shapes rest (tail (figure_of s) (figure_of o) (map figure_of shapes) (map figure_of others ++ rest) e) in
    both (figure_of s) (figure_of o) (map figure_of shapes) (map figure_of others ++ rest) (map figure_of (take (length others) shapes)) (map figure_of others) e k
  where
    both : (x y : Figure) (xs ys us vs : List Figure) → x ∷ xs ≡ y ∷ ys → us ≡ vs → x ∷ us ≡ y ∷ vs
    both x y xs ys us vs h k = cc

-- are as many or more
pub as_many : (others shapes : List Shape) (rest : List Figure) → map figure_of shapes ≡ map figure_of others ++ rest → length others ≤ length shapes
as_many [] shapes rest e = omega arith
as_many (o ∷ others) [] rest e = absurd (empty (figure_of o) (map figure_of others ++ rest) e)
  where
    empty : (x : Figure) (xs : List Figure) → [] ≡ x ∷ xs → ⊥
    empty x xs h = cc
as_many (o ∷ others) (s ∷ shapes) rest e =
    let k : length others ≤ length shapes = as_many others shapes rest (tail (figure_of s) (figure_of o) (map figure_of shapes) (map figure_of others ++ rest) e) in
    omega (arith, k)

-- ---- all of a list, one by one

module _ {X : Type 0} (P : X → Type 0) (xs : List X) (i : ℕ) (x : X) (W : Type 0) (below : i < length xs) (is : x ≡ get_or xs i x) (told : All P (drop i xs) ↔ W) where
  ahead : drop i xs ≡ x ∷ drop (i + 1) xs
  ahead = drop-cons xs i x below ∙ ap (λ (y : X). y ∷ drop (suc i) xs) (sym is) ∙ ap (λ (n : ℕ). x ∷ drop n xs) (sym (add-one i))

  pub all_next : P x → All P (drop (i + 1) xs) ↔ W
  all_next held = (λ h. told.0 (subst (All P) (sym ahead) (All-cons P x (drop (i + 1) xs) held h)), λ w. All-tail P x (drop (i + 1) xs) (subst (All P) ahead (told.1 w)))

  pub all_first : W → P x
  all_first w = All-head P x (drop (i + 1) xs) (subst (All P) ahead (told.1 w))

pub all_past : {X : Type 0} (P : X → Type 0) (xs : List X) (i : ℕ) → length xs ≤ i → All P (drop i xs)
all_past P [] zero h = All-nil P
all_past P [] (suc i) h = All-nil P
all_past P (x ∷ xs) zero h = absurd (omega (arith, h))
all_past P (x ∷ xs) (suc i) h = all_past P xs i (omega (arith, h))
