-- The worked case.
use Rattle.std.proofs.Common.{◌≡◌, ◌⊎◌, inl, inr, ℕ, zero, suc, ◌+◌, ℤ, pos, ◌+ℤ◌, ◌*ℤ◌, List, [], ◌∷◌, Some, slice_get, Contains, refl, sym, ap, ◌∙◌, subst, arith}
use Rattle.std.proofs.lemmas.Int.{ints}
use Rattle.std.proofs.lemmas.Option.{none-some, same_Some, slice_get_cases}
use Rattle.planar.specs.Plane.{Point, at, square}
use Rattle.planar.proofs.Ring.{le_or_lt, linear, ring, square_from_zero}
use Rattle.tables.specs.Chains.{IsChain}
use Rattle.board_shapes.specs.declared.probe.Probe.{Probe}
use Rattle.covers.specs.Agreeing.{HasName, NoneMissing, NoneOpen, NoneShort}
use Rattle.covers.specs.Boards.{Joined, Span, TouchAt, UnderAt}
use Rattle.covers.specs.Covering.{Covers, HasAt, IsCovered}
use Rattle.covers.specs.Worked.{InDisc, discs, halves, inner, outer, probes, whole}

-- ---- Points

double : (z : ℤ) → (pos 1 +ℤ pos 1) *ℤ z ≡ z +ℤ z
double z = simp ring refl

-- what lies in a disc lies in a greater one
from_one : (p : Point) → InDisc (pos 1) p → InDisc (pos 2) p
from_one p h =
    let n = square_from_zero p.n in
    let one : pos 1 *ℤ square p.n ≡ square p.n = simp ring refl in
    let two = double (square p.n) in
    omega (arith, linear, n, h, one, two)

from_two : (p : Point) → InDisc (pos 2) p → InDisc (pos 4) p
from_two p h =
    let n = square_from_zero p.n in
    let two = double (square p.n) in
    let four : (pos 2 +ℤ pos 2) *ℤ square p.n ≡ pos 2 *ℤ square p.n +ℤ pos 2 *ℤ square p.n = simp ring refl in
    omega (arith, linear, n, h, two, four)

-- each point of the inner disc lies in a half
in_half : (p : Point) → InDisc (pos 1) p → halves 0 p ⊎ halves 1 p
in_half p h = elim (le_or_lt p.x (pos 0)) [
  | inl left ↦ inl (from_one p h, left)
  | inr right ↦ inr (from_one p h, omega (arith, linear, right))
]

-- ---- Lists

of_one : (a x : ℕ) → Contains (a ∷ []) x → a ≡ x
of_one a x (zero, below, same) = same
of_one a x (suc k, below, same) = absurd (omega arith)

of_two : (a b x : ℕ) → Contains (a ∷ b ∷ []) x → (a ≡ x) ⊎ (b ≡ x)
of_two a b x (zero, below, same) = inl same
of_two a b x (suc zero, below, same) = inr same
of_two a b x (suc (suc k), below, same) = absurd (omega arith)

-- ---- The covers

pub below : Covers inner whole halves discs
below = record { probes = refl; names = refl; layers = refl; pieces = covered } where
  two_halves : (layer : ℕ) (p : Point) → HasAt inner whole 0 layer p → (j : ℕ) × Contains (0 ∷ 1 ∷ []) j × HasAt halves discs j layer p
  two_halves layer p has = elim (in_half p has.place) [
    | inl left ↦ (0, (0, omega arith, refl), record { span = has.span; span_is = has.span_is; layers = has.layers; place = left })
    | inr right ↦ (1, (1, omega arith, refl), record { span = has.span; span_is = has.span_is; layers = has.layers; place = right })
  ]

  forth : TouchAt halves discs 0 1
  forth = record {
    first = record { top = 1; bottom = 1 };
    second = record { top = 1; bottom = 1 };
    first_is = refl;
    second_is = refl;
    layer = omega arith;
    share = record { point = at (record { x = pos 0; y = pos 0 }); in_first = (omega (arith, ints), omega (arith, ints)); in_second = (omega (arith, ints), omega (arith, ints)) };
  }

  back : TouchAt halves discs 1 0
  back = record { first = forth.second; second = forth.first; first_is = refl; second_is = refl; layer = omega arith; share = record { point = forth.share.point; in_first = forth.share.in_second; in_second = forth.share.in_first } }

  pair : (j k : ℕ) → (0 ≡ j) ⊎ (1 ≡ j) → (0 ≡ k) ⊎ (1 ≡ k) → Joined halves discs j k
  pair j k (inl e) (inl f) = ([], sym e ∙ f)
  pair j k (inr e) (inr f) = ([], sym e ∙ f)
  pair j k (inl e) (inr f) = (1 ∷ [], (subst (λ (n : ℕ). TouchAt halves discs n 1) e forth, f))
  pair j k (inr e) (inl f) = (0 ∷ [], (subst (λ (n : ℕ). TouchAt halves discs n 0) e back, f))

  covered : (i : ℕ) → IsCovered inner whole halves discs i
  covered zero = record { cover = 0 ∷ 1 ∷ []; covers = two_halves; joined = λ j k h g. pair j k (of_two 0 1 j h) (of_two 0 1 k g) }
  covered (suc zero) = record {
    cover = 2 ∷ [];
    covers = λ layer p has. (2, (0, omega arith, refl), record { span = has.span; span_is = has.span_is; layers = has.layers; place = from_one p has.place });
    joined = λ j k h g. ([], sym (of_one 2 j h) ∙ of_one 2 k g);
  }
  covered (suc (suc i)) = record { cover = []; covers = λ layer p has. absurd (none-some has.span has.span_is); joined = λ j k (n, within, same) g. absurd (omega arith) }

pub above : Covers halves discs outer whole
above = record { probes = refl; names = refl; layers = refl; pieces = covered } where
  -- a half or the disc is in the disc of its layer
  one : (i j : ℕ) → ((layer : ℕ) (p : Point) → HasAt halves discs i layer p → HasAt outer whole j layer p) → IsCovered halves discs outer whole i
  one i j in_disc = record { cover = j ∷ []; covers = λ layer p has. (j, (0, omega arith, refl), in_disc layer p has); joined = λ k l h g. ([], sym (of_one j k h) ∙ of_one j l g) }

  covered : (i : ℕ) → IsCovered halves discs outer whole i
  covered zero = one 0 0 (λ layer p has. record { span = has.span; span_is = has.span_is; layers = has.layers; place = from_two p has.place.0 })
  covered (suc zero) = one 1 0 (λ layer p has. record { span = has.span; span_is = has.span_is; layers = has.layers; place = from_two p has.place.0 })
  covered (suc (suc zero)) = one 2 1 (λ layer p has. record { span = has.span; span_is = has.span_is; layers = has.layers; place = from_two p has.place })
  covered (suc (suc (suc i))) = record { cover = []; covers = λ layer p has. absurd (none-some has.span has.span_is); joined = λ j k (n, within, same) g. absurd (omega arith) }

-- ---- Below: nothing is open or missing

-- each test point stands on the piece of its name's number
stands : (k : ℕ) (probe : Probe) → slice_get probes k ≡ Some probe → UnderAt inner whole k probe.name
stands zero probe there = subst (λ (x : Probe). UnderAt inner whole 0 x.name) (same_Some _ probe there) (record { span = record { top = 1; bottom = 1 }; probe = _; span_is = refl; probe_is = refl; layer = (omega arith, omega arith); place = omega (arith, ints) })
stands (suc zero) probe there = subst (λ (x : Probe). UnderAt inner whole 1 x.name) (same_Some _ probe there) (record { span = record { top = 1; bottom = 1 }; probe = _; span_is = refl; probe_is = refl; layer = (omega arith, omega arith); place = omega (arith, ints) })
stands (suc (suc zero)) probe there = subst (λ (x : Probe). UnderAt inner whole 2 x.name) (same_Some _ probe there) (record { span = record { top = 2; bottom = 2 }; probe = _; span_is = refl; probe_is = refl; layer = (omega arith, omega arith); place = omega (arith, ints) })
stands (suc (suc (suc k))) probe there = absurd (none-some probe there)

on_name : (k name : ℕ) → HasName whole k name → UnderAt inner whole k name
on_name k name (probe, there, named) = subst (λ (n : ℕ). UnderAt inner whole k n) named (stands k probe there)

pub none_missing : NoneMissing inner whole
none_missing k within = elim (slice_get_cases probes k).1 [
  | inl (probe, inside, there, same) ↦ (probe.name, stands k probe there)
  | inr (past, none) ↦ absurd (omega arith)
]

pub none_open : NoneOpen inner whole
none_open k l name text there connected one two has also = record { i = name; j = name; first = on_name k name one; last = on_name l name two; joined = ([], refl) }

-- ---- Above: nothing is short

-- piece i is on layer i + 1
layer_of : (i : ℕ) (span : Span) → slice_get whole.spans i ≡ Some span → (span.top ≡ i + 1) × (span.bottom ≡ i + 1)
layer_of zero span is = let e = same_Some _ span is in (ap (λ (s : Span). s.top) (sym e), ap (λ (s : Span). s.bottom) (sym e))
layer_of (suc zero) span is = let e = same_Some _ span is in (ap (λ (s : Span). s.top) (sym e), ap (λ (s : Span). s.bottom) (sym e))
layer_of (suc (suc i)) span is = absurd (none-some span is)

-- and name n is that of points on layer n + 1
name_of : (k : ℕ) (probe : Probe) → slice_get probes k ≡ Some probe → probe.layer ≡ probe.name + 1
name_of zero probe is = subst (λ (x : Probe). x.layer ≡ x.name + 1) (same_Some _ probe is) refl
name_of (suc zero) probe is = subst (λ (x : Probe). x.layer ≡ x.name + 1) (same_Some _ probe is) refl
name_of (suc (suc zero)) probe is = subst (λ (x : Probe). x.layer ≡ x.name + 1) (same_Some _ probe is) refl
name_of (suc (suc (suc k))) probe is = absurd (none-some probe is)

under_name : (k i name : ℕ) → UnderAt outer whole k i → HasName whole k name → i ≡ name
under_name k i name u (probe, there, named) =
    let same : u.probe ≡ probe = same_Some u.probe probe (sym u.probe_is ∙ there) in
    let layer : u.probe.layer ≡ name + 1 = name_of k u.probe u.probe_is ∙ ap (λ (n : ℕ). n + 1) (ap (λ (x : Probe). x.name) same ∙ named) in
    let span = layer_of i u.span u.span_is in
    let low = u.layer.0 in
    let high = u.layer.1 in
    let top = span.0 in
    let bottom = span.1 in
    omega arith

touch_same : (i j : ℕ) → TouchAt outer whole i j → i ≡ j
touch_same i j t =
    let one = layer_of i t.first t.first_is in
    let two = layer_of j t.second t.second_is in
    let a = one.0 in
    let b = one.1 in
    let c = two.0 in
    let d = two.1 in
    let common = t.layer in
    omega arith

chain_same : (chain : List ℕ) (i j : ℕ) → IsChain (TouchAt outer whole) i chain j → i ≡ j
chain_same [] i j same = same
chain_same (next ∷ rest) i j (touch, more) = touch_same i next touch ∙ chain_same rest next j more

pub none_short : NoneShort outer whole
none_short k l name other one two differ joined = differ (sym (under_name k joined.i name joined.first one) ∙ (chain_same joined.joined.0 joined.i joined.j joined.joined.1 ∙ under_name l joined.j other joined.last two))
