-- Copper by the last dark object, and by the objects one by one.
use Rattle.std.proofs.Common.{◌≡◌, ◌⊎◌, inl, inr, ℕ, zero, suc, ◌<◌, List, length, Option, Some, None, slice_get, refl, subst, arith}
use Rattle.std.proofs.lemmas.Option.{slice_get_within}
use Rattle.planar.specs.Plane.{Point}
use Rattle.clear_polarity.specs.Layer.{After, IsDarkAfter}
use Rattle.clear_polarity.specs.Laws.{CopperIsDarkAfterAll, LastDecides}
use Rattle.clear_polarity.specs.declared.Polarity.{Polarity}
use Rattle.clear_polarity.specs.declared.Polarity.TheVariants.{Dark, Clear}

-- the same of the first n objects alone
record Under (order : List Polarity) (marks : ℕ → Point → Type 0) (n : ℕ) (p : Point) : Type 0 where
  object : ℕ
  below : object < n
  dark : slice_get order object ≡ Some Dark
  marked : marks object p
  kept : (j : ℕ) → object < j → j < n → slice_get order j ≡ Some Clear → marks j p → ⊥

cases : (j n : ℕ) → j < suc n → (j < n) ⊎ (j ≡ n)
cases j n h = grind arith

three : (a b : ℕ) → (a < b) ⊎ ((a ≡ b) ⊎ (b < a))
three a b = grind arith

other : (x : Option Polarity) → x ≡ Some Dark → x ≡ Some Clear → ⊥
other x e f = cc

no_dark : (x : Option Polarity) → x ≡ Some Dark → x ≡ None → ⊥
no_dark x e f = cc

no_clear : (x : Option Polarity) → x ≡ Some Clear → x ≡ None → ⊥
no_clear x e f = cc

module _ (order : List Polarity) (marks : ℕ → Point → Type 0) (p : Point) where
  grown : (n : ℕ) → (slice_get order n ≡ Some Clear → marks n p → ⊥) → Under order marks n p → Under order marks (suc n) p
  grown n none u = record {
    object = u.object;
    below = omega (arith, u.below);
    dark = u.dark;
    marked = u.marked;
    kept = λ j after within c m. elim (cases j n within) [
      | inl less ↦ u.kept j after less c m
      | inr same ↦ none (subst (λ (k : ℕ). slice_get order k ≡ Some Clear) same c) (subst (λ (k : ℕ). marks k p) same m)
    ];
  }

  narrowed : (n : ℕ) (u : Under order marks (suc n) p) → u.object < n → Under order marks n p
  narrowed n u less = record { object = u.object; below = less; dark = u.dark; marked = u.marked; kept = λ j after within c m. u.kept j after (omega (arith, within)) c m }

  step : (n : ℕ) → (IsDarkAfter order marks n p → Under order marks n p) → (o : Option Polarity) → slice_get order n ≡ o → After o (marks n p) (IsDarkAfter order marks n p) → Under order marks (suc n) p
  step n ih None e k = grown n (λ c m. no_clear (slice_get order n) c e) (ih k)
  step n ih (Some Dark) e (inl k) = grown n (λ c m. other (slice_get order n) e c) (ih k)
  step n ih (Some Dark) e (inr m) = record { object = n; below = omega arith; dark = e; marked = m; kept = λ j after within c h. absurd (omega (arith, after, within)) }
  step n ih (Some Clear) e k = grown n (λ c m. k.1 m) (ih k.0)

  there : (n : ℕ) → IsDarkAfter order marks n p → Under order marks n p
  there zero h = absurd h
  there (suc n) h = step n (there n) (slice_get order n) refl h

  unstep : (n : ℕ) → (Under order marks n p → IsDarkAfter order marks n p) → (o : Option Polarity) → slice_get order n ≡ o → Under order marks (suc n) p → After o (marks n p) (IsDarkAfter order marks n p)
  unstep n ih None e u = elim (cases u.object n u.below) [
    | inl less ↦ ih (narrowed n u less)
    | inr same ↦ absurd (no_dark (slice_get order n) (subst (λ (k : ℕ). slice_get order k ≡ Some Dark) same u.dark) e)
  ]
  unstep n ih (Some Dark) e u = elim (cases u.object n u.below) [
    | inl less ↦ inl (ih (narrowed n u less))
    | inr same ↦ inr (subst (λ (k : ℕ). marks k p) same u.marked)
  ]
  unstep n ih (Some Clear) e u = elim (cases u.object n u.below) [
    | inl less ↦ (ih (narrowed n u less), λ m. u.kept n less (omega arith) e m)
    | inr same ↦ absurd (other (slice_get order n) (subst (λ (k : ℕ). slice_get order k ≡ Some Dark) same u.dark) e)
  ]

  back : (n : ℕ) → Under order marks n p → IsDarkAfter order marks n p
  back zero u = absurd (omega (arith, u.below))
  back (suc n) u = unstep n (back n) (slice_get order n) refl u

pub after_all : (marks : ℕ → Point → Type 0) → CopperIsDarkAfterAll marks
after_all marks order p = (
  λ h. let u : Under order marks (length order) p = there order marks p (length order) h in record { object = u.object; dark = u.dark; marked = u.marked; kept = λ j after c m. u.kept j after (slice_get_within order j Clear c) c m },
  λ c. back order marks p (length order) (record { object = c.object; below = slice_get_within order c.object Dark c.dark; dark = c.dark; marked = c.marked; kept = λ j after within e m. c.kept j after e m }),
)

pub last_decides : (marks : ℕ → Point → Type 0) → LastDecides marks
last_decides marks = record {
  dark = λ order i p l. record { object = i; dark = l.is; marked = l.marked; kept = λ j after c m. l.none_later j Clear after c m };
  clear = λ order i p l c. elim (three c.object i) [
    | inl less ↦ c.kept i less l.is l.marked
    | inr rest ↦ elim rest [
      | inl same ↦ other (slice_get order i) (subst (λ (k : ℕ). slice_get order k ≡ Some Dark) same c.dark) l.is
      | inr more ↦ l.none_later c.object Dark more c.dark c.marked
    ]
  ];
}
