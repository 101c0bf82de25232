-- The tenths of millimetres that a made drill file writes are read back: each of a hundred is computed.
use Rattle.std.proofs.Common.{◌≡◌, ℕ, ◌*◌, ◌<◌, Bool, true, false, ◌==◌, ◌&&◌, not, List, length, Some, None, refl}
use Rattle.std.proofs.lemmas.Bool.{and_parts, agree_below_at, eqb-true}
use Rattle.std.specs.Fmt.{digits}
use Rattle.std.specs.List.{list_all}
use Rattle.std.specs.Prelude.{nat_le, if◌then◌else◌}
use Rattle.board_maker.specs.MadeBoard.{tenths}
use Rattle.lengths.specs.Decimal.{Fraction, decimal, fraction, is_decimal}

-- a digit or a point
abbrev pub is_mark : ℕ → Bool
is_mark b = nat_le 46 b && nat_le b 57

-- a number of tenths is written in digits and a point, and is read as itself
abbrev reads : ℕ → Bool
reads n = list_all is_mark (tenths n) && (nat_le 1 (length (tenths n)) && (is_decimal (tenths n) && (not (fraction (tenths n)).negative && (((fraction (tenths n)).whole == n) && (((fraction (tenths n)).places == 1) && (fraction (tenths n)).pointed)))))

each_reads : (c : ℕ) → c < 100 → reads (25 * c) ≡ true
unfolding digits
each_reads c low = agree_below_at (λ n. reads (25 * n)) (λ n. true) 100 c refl low

pub record IsTenths (n : ℕ) (text : List ℕ) : Type 0 where
  pub marks : list_all is_mark text ≡ true
  pub some : nat_le 1 (length text) ≡ true
  pub value : decimal text ≡ Some (record { negative = false; whole = n; places = 1; pointed = true })

pub tenths_read : (c : ℕ) → c < 100 → IsTenths (25 * c) (tenths (25 * c))
tenths_read c low =
    let text : List ℕ = tenths (25 * c) in
    let a = and_parts (list_all is_mark text) _ (each_reads c low) in
    let b = and_parts (nat_le 1 (length text)) _ a.1 in
    let d = and_parts (is_decimal text) _ b.1 in
    let e = and_parts (not (fraction text).negative) _ d.1 in
    let f = and_parts ((fraction text).whole == 25 * c) _ e.1 in
    let g = and_parts ((fraction text).places == 1) (fraction text).pointed f.1 in
    let whole : (fraction text).whole ≡ 25 * c = eqb-true (fraction text).whole (25 * c) f.0 in
    let places : (fraction text).places ≡ 1 = eqb-true (fraction text).places 1 g.0 in
    record { marks = a.0; some = b.0; value = read (fraction text) (is_decimal text) d.0 (not_true (fraction text).negative e.0) whole places g.1 }
  where
    not_true : (b : Bool) → not b ≡ true → b ≡ false
    not_true true h = cc
    not_true false h = refl

    read : (q : Fraction) (b : Bool) → b ≡ true → q.negative ≡ false → q.whole ≡ 25 * c → q.places ≡ 1 → q.pointed ≡ true → (if b then Some q else None) ≡ Some (record { negative = false; whole = 25 * c; places = 1; pointed = true })
    read q b is negative whole places pointed = rw (is, negative, whole, places, pointed) refl
