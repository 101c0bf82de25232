-- What digits are, and what they are not.
use Rattle.std.proofs.Common.{◌≡◌, ℕ, Bool, true, false, ◌&&◌, eqb, List, [], ◌∷◌, refl, arith}
use Rattle.std.proofs.lemmas.Bool.{eqb-true, le-leb, lt-ltb, ltb-true}
use Rattle.std.proofs.lemmas.Str.Parse.{digit_from_value}
use Rattle.std.specs.List.{list_all}
use Rattle.std.specs.Str.Parse.{AllDigits}
use Rattle.texts.specs.Blanks.{is_blank}
use Rattle.texts.specs.Digits.{is_decimal_digit}
use Rattle.texts.proofs.LineTexts.{is_plain}

-- what each byte of one kind is, it is of a wider kind
pub wider : {X : Type 0} (p q : X → Bool) → ((x : X) → p x ≡ true → q x ≡ true) → (xs : List X) → list_all p xs ≡ true → list_all q xs ≡ true
wider p q f [] h = refl
wider p q f (x ∷ xs) h = by (p x) refl h (wider p q f xs)
  where
    by : (b : Bool) → p x ≡ b → (b && list_all p xs) ≡ true → (list_all p xs ≡ true → list_all q xs ≡ true) → (q x && list_all q xs) ≡ true
    by true e k more = rw (f x e, more k) refl
    by false e k more = cc

-- a digit is no other byte
pub digit_is_not : (n c : ℕ) → is_decimal_digit n ≡ false → is_decimal_digit c ≡ true → eqb c n ≡ false
digit_is_not n c other digit = by (eqb c n) refl
  where
    by : (b : Bool) → eqb c n ≡ b → eqb c n ≡ false
    by true e = let same : c ≡ n = eqb-true c n e in let k : is_decimal_digit c ≡ false = rw same other in cc
    by false e = e

pub digit_no_blank : (c : ℕ) → is_decimal_digit c ≡ true → is_blank c ≡ false
digit_no_blank c h = rw (digit_is_not 9 c refl h, digit_is_not 32 c refl h) refl

pub digit_plain : (c : ℕ) → is_decimal_digit c ≡ true → is_plain c ≡ true
digit_plain c h = let r = digit_from_value c (ltb-true _ _ h) in let low = r.0 in le-leb 32 c (omega (arith, low))

pub all_digits : (cs : List ℕ) → AllDigits 10 cs → list_all is_decimal_digit cs ≡ true
all_digits [] h = refl
all_digits (c ∷ cs) h = rw (lt-ltb _ _ h.0, all_digits cs h.1) refl
