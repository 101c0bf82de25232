-- The pens of figures, and where each stands among them.
use Rattle.std.proofs.Common.{◌≡◌, ℕ, suc, ◌+◌, ◌*◌, ◌%◌, ◌<◌, ◌≤◌, Bool, true, false, ◌||◌, not, cond, nat_eq, eqb, List, [], ◌∷◌, ◌++◌, length, get_or, ℤ, pos, negsuc, refl, sym, ap, ◌∙◌, arith, eq-eqb}
use Rattle.std.proofs.lemmas.Bool.{eqb-true}
use Rattle.std.proofs.lemmas.Int.{ints}
use Rattle.std.proofs.lemmas.List.Folds.{list_any-append}
use Rattle.std.specs.List.{list_any, position_or_len, AllByRecursion}
use Rattle.std.specs.Prelude.{unsigned_abs, ◌<ℤ◌, ◌≤ℤ◌}
use Rattle.board_shapes.specs.Figures.{Figure, round, filled}
use Rattle.macro_flatten.specs.FlatText.{pen_of, with_pen, pens_after}
use Rattle.macro_flatten.specs.Laws.{IsDrawn}
use Rattle.contact.specs.declared.TheConstants.{MOST_DIAMETER, MOST_RADIUS}

-- a pen among others stands at its place
pub record Found (r : ℕ) (pens : List ℕ) : Type 0 where
  pub within : position_or_len (nat_eq r) pens < length pens
  pub there : get_or pens (position_or_len (nat_eq r) pens) 0 ≡ r

pub found : (r : ℕ) (pens : List ℕ) → list_any (nat_eq r) pens ≡ true → Found r pens
found r [] h = cc
found r (x ∷ pens) h = by (eqb r x) refl h (found r pens)
  where
    by : (b : Bool) → eqb r x ≡ b → (b || list_any (nat_eq r) pens) ≡ true → (list_any (nat_eq r) pens ≡ true → Found r pens) → Found r (x ∷ pens)
    by true e k more = record {
      within = rw e (omega arith);
      there = rw e (sym (eqb-true r x e));
    }
    by false e k more =
        let f = more k in
        let w = f.within in
        let next : 1 + position_or_len (nat_eq r) pens ≡ suc (position_or_len (nat_eq r) pens) = omega arith in
        record {
          within = rw e (omega (arith, w));
          there = rw e (ap (λ (n : ℕ). get_or (x ∷ pens) n 0) next ∙ f.there);
        }

-- a pen is among the pens with it, and stays there
added : (r : ℕ) (pens : List ℕ) → list_any (nat_eq r) (with_pen r pens) ≡ true
added r pens = by (list_any (nat_eq r) pens) refl
  where
    by : (b : Bool) → list_any (nat_eq r) pens ≡ b → list_any (nat_eq r) (cond (list_any (nat_eq r) pens) pens (pens ++ r ∷ [])) ≡ true
    by true e = rw e e
    by false e = rw e (list_any-append (nat_eq r) pens (r ∷ []) ∙ rw (e, eq-eqb r r refl) refl)

kept : (q r : ℕ) (pens : List ℕ) → list_any (nat_eq q) pens ≡ true → list_any (nat_eq q) (with_pen r pens) ≡ true
kept q r pens h = by (list_any (nat_eq r) pens) refl
  where
    by : (b : Bool) → list_any (nat_eq r) pens ≡ b → list_any (nat_eq q) (cond (list_any (nat_eq r) pens) pens (pens ++ r ∷ [])) ≡ true
    by true e = rw e h
    by false e = rw e (list_any-append (nat_eq q) pens (r ∷ []) ∙ rw h refl)

kept_after : (q : ℕ) (pens : List ℕ) (figures : List Figure) → list_any (nat_eq q) pens ≡ true → list_any (nat_eq q) (pens_after pens figures) ≡ true
kept_after q pens [] h = h
kept_after q pens (round s ∷ figures) h = kept_after q (with_pen (pen_of s) pens) figures (kept q (pen_of s) pens h)
kept_after q pens (filled points ∷ figures) h = kept_after q pens figures h

-- the figure's pen, if it has one, is among these
abbrev pub HasPen : List ℕ → Figure → Type 0
HasPen pens (round s) = list_any (nat_eq (pen_of s)) pens ≡ true
HasPen pens (filled points) = Unit {0}

pub have_pens : (pens : List ℕ) (figures : List Figure) → AllByRecursion (HasPen (pens_after pens figures)) figures
have_pens pens [] = tt
have_pens pens (round s ∷ figures) = (kept_after (pen_of s) (with_pen (pen_of s) pens) figures (added (pen_of s) pens), have_pens (with_pen (pen_of s) pens) figures)
have_pens pens (filled points ∷ figures) = (tt, have_pens pens figures)

-- ---- Each pen is a size

abbrev pub IsPen : ℕ → Type 0
IsPen d = (d % 2 ≡ 0) × (d ≤ MOST_DIAMETER)

small_push : (pens : List ℕ) (r : ℕ) → AllByRecursion IsPen pens → IsPen r → AllByRecursion IsPen (pens ++ r ∷ [])
small_push [] r h k = (k, tt)
small_push (x ∷ pens) r h k = (h.0, small_push pens r h.1 k)

small_with : (r : ℕ) (pens : List ℕ) → AllByRecursion IsPen pens → IsPen r → AllByRecursion IsPen (with_pen r pens)
small_with r pens h k = by (list_any (nat_eq r) pens)
  where
    by : (b : Bool) → AllByRecursion IsPen (cond b pens (pens ++ r ∷ []))
    by true = h
    by false = small_push pens r h k

small_pen : (r : ℤ) → pos 0 <ℤ r → r ≤ℤ MOST_RADIUS → IsPen (2 * unsigned_abs r)
small_pen (pos n) h k = (omega arith, omega (arith, ints, k))
small_pen (negsuc n) h k = absurd (omega (arith, ints, h))

pub small_after : (pens : List ℕ) (figures : List Figure) → AllByRecursion IsDrawn figures → AllByRecursion IsPen pens → AllByRecursion IsPen (pens_after pens figures)
small_after pens [] d h = h
small_after pens (round s ∷ figures) d h = small_after (with_pen (pen_of s) pens) figures d.1 (small_with (pen_of s) pens h (small_pen s.r d.0.2 d.0.3))
small_after pens (filled points ∷ figures) d h = small_after pens figures d.1 h

-- where none is there, the next place is the length
pub none_there : (p : ℕ → Bool) (xs : List ℕ) → list_any p xs ≡ false → position_or_len p xs ≡ length xs
none_there p [] h = refl
none_there p (x ∷ xs) h = by (p x) refl h (none_there p xs)
  where
    by : (b : Bool) → p x ≡ b → (b || list_any p xs) ≡ false → (list_any p xs ≡ false → position_or_len p xs ≡ length xs) → cond (not (p x)) (1 + position_or_len p xs) 0 ≡ suc (length xs)
    by true e k more = cc
    by false e k more = rw (e, more k) (omega arith)
