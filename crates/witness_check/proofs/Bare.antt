-- The points without a net, found one after another.
use Rattle.std.proofs.Common.{◌≡◌, ℕ, zero, suc, Bool, true, false, not, ◌+◌, ◌<◌, ◌≤◌, List, [], ◌∷◌, ◌++◌, length, get_or, take, drop, Option, Some, None, slice_get, refl, sym, ap, ◌∙◌, append_assoc, arith}
use Rattle.std.proofs.lemmas.List.{drop_more, take_more, take-append-drop, append_cancel_left}
use Rattle.std.proofs.lemmas.Option.{get_or_from_slice_get, slice_get_within}
use Rattle.std.specs.Option.{is_some}
use Rattle.verdict.specs.declared.verdict.PointLine.{PointLine}
use Rattle.verdict.specs.Right.{bare_from}

pub none_when : (o : Option ℕ) (is : Bool) → is_some o ≡ not is → is ≡ true → o ≡ None
none_when None is e f = refl
none_when (Some n) true e f = cc
none_when (Some n) false e f = cc

pub some_when : (o : Option ℕ) (is : Bool) → is_some o ≡ not is → is ≡ false → (n : ℕ) × (o ≡ Some n)
some_when (Some n) is e f = (n, refl)
some_when None true e f = cc
some_when None false e f = cc

pub opened_none : (n : ℕ) (line : PointLine) (rest : List PointLine) → line.net ≡ None → bare_from n (line ∷ rest) ≡ n ∷ bare_from (n + 1) rest
opened_none n line rest none = rw none refl

pub opened_some : (n net : ℕ) (line : PointLine) (rest : List PointLine) → line.net ≡ Some net → bare_from n (line ∷ rest) ≡ bare_from (n + 1) rest
opened_some n net line rest some = rw some refl

-- The points without a net before i are those of the list before `at`.
pub record IsBareTo (bare : List ℕ) (lines : List PointLine) (at i : ℕ) : Type 0 where
  pub within : at ≤ length bare
  pub few : at ≤ i
  pub same : bare_from 0 lines ≡ take at bare ++ bare_from i (drop i lines)

rest_none : (lines : List PointLine) (i : ℕ) (d : PointLine) → i < length lines → (get_or lines i d).net ≡ None → bare_from i (drop i lines) ≡ i ∷ bare_from (i + 1) (drop (i + 1) lines)
rest_none lines i d below none = ap (bare_from i) (drop_more lines i d below) ∙ opened_none i (get_or lines i d) (drop (i + 1) lines) none

pub bare_more : (bare : List ℕ) (lines : List PointLine) (at i : ℕ) (d : PointLine) → IsBareTo bare lines at i → i < length lines → (get_or lines i d).net ≡ None → slice_get bare at ≡ Some i → IsBareTo bare lines (at + 1) (i + 1)
bare_more bare lines at i d b below none stands =
    let within = slice_get_within bare at i stands in
    let taken : take (at + 1) bare ≡ take at bare ++ i ∷ [] = take_more bare at 0 within ∙ ap (λ (x : ℕ). take at bare ++ x ∷ []) (get_or_from_slice_get bare at i 0 stands) in
    let f = b.few in
    record {
      within = omega arith;
      few = omega arith;
      same = b.same ∙ (ap (λ (xs : List ℕ). take at bare ++ xs) (rest_none lines i d below none) ∙ (sym (append_assoc (take at bare) (i ∷ []) (bare_from (i + 1) (drop (i + 1) lines))) ∙ ap (λ (xs : List ℕ). xs ++ bare_from (i + 1) (drop (i + 1) lines)) (sym taken)));
    }

pub bare_skip : (bare : List ℕ) (lines : List PointLine) (at i net : ℕ) (d : PointLine) → IsBareTo bare lines at i → i < length lines → (get_or lines i d).net ≡ Some net → IsBareTo bare lines at (i + 1)
bare_skip bare lines at i net d b below some =
    let f = b.few in
    record {
      within = b.within;
      few = omega arith;
      same = b.same ∙ ap (λ (xs : List ℕ). take at bare ++ xs) (ap (bare_from i) (drop_more lines i d below) ∙ opened_some i net (get_or lines i d) (drop (i + 1) lines) some);
    }

first_of : (xs : List ℕ) (x : ℕ) (rest : List ℕ) → xs ≡ x ∷ rest → slice_get xs 0 ≡ Some x
first_of xs x rest e = ap (λ (ys : List ℕ). slice_get ys 0) e

dropped : (xs : List ℕ) (k x : ℕ) (rest : List ℕ) → drop k xs ≡ x ∷ rest → slice_get xs k ≡ Some x
dropped [] zero x rest e = cc
dropped [] (suc k) x rest e = cc
dropped (y ∷ ys) zero x rest e = first_of (y ∷ ys) x rest e
dropped (y ∷ ys) (suc k) x rest e = dropped ys k x rest e

pub bare_stops : (bare : List ℕ) (lines : List PointLine) (at i : ℕ) (d : PointLine) → IsBareTo bare lines at i → i < length lines → (get_or lines i d).net ≡ None → (slice_get bare at ≡ Some i → ⊥) → bare ≡ bare_from 0 lines → ⊥
bare_stops bare lines at i d b below none not whole =
    let rest : drop at bare ≡ bare_from i (drop i lines) = append_cancel_left (take at bare) (drop at bare) (bare_from i (drop i lines)) (take-append-drop at bare ∙ (whole ∙ b.same)) in
    not (dropped bare at i (bare_from (i + 1) (drop (i + 1) lines)) (rest ∙ rest_none lines i d below none))
