-- How often a contour that rises in one run comes up past a height. A corner is up where it is above that.
use Rattle.std.proofs.Common.{ℕ, zero, suc, ◌+◌, ◌≤◌, Bool, true, false, not, ◌&&◌, ◌≡◌, ◌⊎◌, inl, inr, List, [], ◌∷◌, arith, refl, ap, sym, ◌∙◌}
use Rattle.planar.specs.declared.Spot.{Spot}
use Rattle.planar.proofs.EdgeLaw.{xor, xor-same}
use Rattle.area_contact.specs.Contour.{end_from}
use Rattle.area_contact.specs.Parity.{xor-chain, xor-equal}
use Rattle.slants.specs.Rounds.{change, changes, goes_up}
use Rattle.slants.specs.Taken.{Each}

abbrev one_of : Bool → ℕ
one_of true = 1
one_of false = 0

-- 1 where a corner that is not up comes before one that is
abbrev step : Bool → Bool → ℕ
step u v = one_of (not u && v)

change_small : (r u : Bool) → change r u ≤ 1
change_small true true = omega arith
change_small true false = omega arith
change_small false true = omega arith
change_small false false = omega arith

-- an edge more: r and s are the ways before it and along it, u and v its ends
further : (r s u v : Bool) (k c e : ℕ) → (s ≡ true → u ≡ true → v ≡ true) → (s ≡ false → v ≡ true → u ≡ true) → k + k + one_of v ≤ c + change s v + e → (step u v + k) + (step u v + k) + one_of u ≤ (change r s + c) + change r u + e
further true true true true k c e f g h = omega (arith, h)
further true true true false k c e f g h = let no : false ≡ true = f refl refl in cc
further true true false true k c e f g h = omega (arith, h)
further true true false false k c e f g h = omega (arith, h)
further true false true true k c e f g h = omega (arith, h)
further true false true false k c e f g h = omega (arith, h)
further true false false true k c e f g h = let no : false ≡ true = g refl refl in cc
further true false false false k c e f g h = omega (arith, h)
further false true true true k c e f g h = omega (arith, h)
further false true true false k c e f g h = let no : false ≡ true = f refl refl in cc
further false true false true k c e f g h = omega (arith, h)
further false true false false k c e f g h = omega (arith, h)
further false false true true k c e f g h = omega (arith, h)
further false false true false k c e f g h = omega (arith, h)
further false false false true k c e f g h = let no : false ≡ true = g refl refl in cc
further false false false false k c e f g h = omega (arith, h)

edge_turns : (u v : Bool) → xor (not u && v) (u && not v) ≡ xor u v
edge_turns true true = refl
edge_turns true false = refl
edge_turns false true = refl
edge_turns false false = refl

module _ (up : Spot → Bool) where
  -- how often the way comes up, and whether that is odd; whether it is odd how often it comes down
  abbrev climbs : Spot → List Spot → ℕ
  climbs a [] = 0
  climbs a (b ∷ rest) = step (up a) (up b) + climbs b rest

  abbrev pub risen : Spot → List Spot → Bool
  risen a [] = false
  risen a (b ∷ rest) = xor (not (up a) && up b) (risen b rest)

  abbrev pub fallen : Spot → List Spot → Bool
  fallen a [] = false
  fallen a (b ∷ rest) = xor (up a && not (up b)) (fallen b rest)

  -- a way that comes back comes up as often as down
  both : (a : Spot) (rest : List Spot) → xor (risen a rest) (fallen a rest) ≡ xor (up a) (up (end_from a rest))
  both a [] = sym (xor-same (up a))
  both a (b ∷ rest) = xor-chain (not (up a) && up b) (up a && not (up b)) (risen b rest) (fallen b rest) (up a) (up b) (up (end_from b rest)) (edge_turns (up a) (up b)) (both b rest)

  pub fallen_is : (a : Spot) (rest : List Spot) → end_from a rest ≡ a → risen a rest ≡ fallen a rest
  fallen_is a rest closed = xor-equal (risen a rest) (fallen a rest) (both a rest ∙ rw closed (xor-same (up a)))

  -- ---- not at all

  stays_down : (a : Spot) (rest : List Spot) → climbs a rest ≡ 0 → up a ≡ false → Each (λ q. up q ≡ false) rest
  stays_down a [] none down = tt
  stays_down a (b ∷ rest) none down =
      let flat : up b ≡ false = none_up (up a) (up b) (climbs b rest) none down in
      (flat, stays_down b rest (rest_none (step (up a) (up b)) (climbs b rest) none) flat)
    where
      none_up : (u v : Bool) (k : ℕ) → step u v + k ≡ 0 → u ≡ false → v ≡ false
      none_up u false k e h = refl
      none_up false true k e h = absurd (omega (arith, e))
      none_up true true k e h = cc

      rest_none : (j k : ℕ) → j + k ≡ 0 → k ≡ 0
      rest_none j k e = omega (arith, e)

  -- up at the end, and so before
  was_up : (a : Spot) (rest : List Spot) → climbs a rest ≡ 0 → up (end_from a rest) ≡ true → (up a ≡ true) × Each (λ q. up q ≡ true) rest
  was_up a [] none end = (end, tt)
  was_up a (b ∷ rest) none end =
      let more = was_up b rest (rest_none (step (up a) (up b)) (climbs b rest) none) end in
      (first_up (up a) (up b) (climbs b rest) none more.0, more)
    where
      first_up : (u v : Bool) (k : ℕ) → step u v + k ≡ 0 → v ≡ true → u ≡ true
      first_up true v k e h = refl
      first_up false true k e h = absurd (omega (arith, e))
      first_up false false k e h = cc

      rest_none : (j k : ℕ) → j + k ≡ 0 → k ≡ 0
      rest_none j k e = omega (arith, e)

  -- ---- once

  none_risen : (a : Spot) (rest : List Spot) → climbs a rest ≡ 0 → risen a rest ≡ false
  none_risen a [] none = refl
  none_risen a (b ∷ rest) none = by (up a) (up b) (climbs b rest) (risen b rest) none (none_risen b rest)
    where
      by : (u v : Bool) (k : ℕ) (o : Bool) → step u v + k ≡ 0 → (k ≡ 0 → o ≡ false) → xor (not u && v) o ≡ false
      by true true k o e h = h (omega (arith, e))
      by true false k o e h = h (omega (arith, e))
      by false true k o e h = absurd (omega (arith, e))
      by false false k o e h = h (omega (arith, e))

  once_risen : (a : Spot) (rest : List Spot) → climbs a rest ≡ 1 → risen a rest ≡ true
  once_risen a [] one = absurd (omega (arith, one))
  once_risen a (b ∷ rest) one = by (up a) (up b) (climbs b rest) (risen b rest) one (none_risen b rest) (once_risen b rest)
    where
      by : (u v : Bool) (k : ℕ) (o : Bool) → step u v + k ≡ 1 → (k ≡ 0 → o ≡ false) → (k ≡ 1 → o ≡ true) → xor (not u && v) o ≡ true
      by true true k o e g h = h (omega (arith, e))
      by true false k o e g h = h (omega (arith, e))
      by false true k o e g h = ap not (g (omega (arith, e)))
      by false false k o e g h = h (omega (arith, e))

  -- ---- a way up leaves no corner that is up, a way down leads to none
  module _ (rise : (r : Bool) (a b : Spot) → goes_up r a b ≡ true → up a ≡ true → up b ≡ true) (fall : (r : Bool) (a b : Spot) → goes_up r a b ≡ false → up b ≡ true → up a ≡ true) where
    bounded : (r : Bool) (a : Spot) (rest : List Spot) → climbs a rest + climbs a rest + one_of (up a) ≤ changes r a rest + change r (up a) + one_of (up (end_from a rest))
    bounded r a [] = omega arith
    bounded r a (b ∷ rest) = further r (goes_up r a b) (up a) (up b) (climbs b rest) (changes (goes_up r a b) b rest) (one_of (up (end_from b rest))) (rise r a b) (fall r a b) (bounded (goes_up r a b) b rest)

    at_most_once : (r : Bool) (a : Spot) (rest : List Spot) → end_from a rest ≡ a → changes r a rest ≤ 2 → climbs a rest ≤ 1
    at_most_once r a rest closed few =
        let h = bounded r a rest in
        let k : climbs a rest + climbs a rest + one_of (up a) ≤ changes r a rest + change r (up a) + one_of (up a) = rw closed at h in
        omega (arith, few, k, change_small r (up a))

    -- all corners are up, or none is, or the way comes up an odd number of times
    pub told : (r : Bool) (a : Spot) (rest : List Spot) → end_from a rest ≡ a → changes r a rest ≤ 2 → Each (λ q. up q ≡ true) (a ∷ rest) ⊎ Each (λ q. up q ≡ false) (a ∷ rest) ⊎ (risen a rest ≡ true)
    told r a rest closed few = by (climbs a rest) refl (at_most_once r a rest closed few)
      where
        Told : Type 0
        Told = Each (λ q. up q ≡ true) (a ∷ rest) ⊎ Each (λ q. up q ≡ false) (a ∷ rest) ⊎ (risen a rest ≡ true)

        at_none : climbs a rest ≡ 0 → (u : Bool) → up a ≡ u → Told
        at_none none true h = inl (was_up a rest none (ap up closed ∙ h))
        at_none none false h = inr (inl (h, stays_down a rest none h))

        by : (k : ℕ) → climbs a rest ≡ k → k ≤ 1 → Told
        by zero e h = at_none e (up a) refl
        by (suc zero) e h = inr (inr (once_risen a rest e))
        by (suc (suc k)) e h = absurd (omega (arith, h))
