-- The turns of loops, over plain variables.
use Rattle.std.proofs.Common.{◌≡◌, ℕ, ◌+◌, ◌-◌, ◌<◌, suc, zero, true, false, List, [], ◌∷◌, ◌++◌, refl, Ok, Err, ℤ, ◌+ℤ◌, arith}
use Rattle.std.specs.List.{after_first, before_first}
use Rattle.aperture_macros.specs.Expression.{further_terms, first_term, is_empty, is_expression, is_sum, is_term}
use Rattle.planar.specs.declared.Spot.{Spot}
use Rattle.lengths.specs.Decimal.{Fraction}
use Rattle.lengths.specs.declared.decimal.Unit.{Unit as Measure}
use Rattle.aperture_macros.specs.declared.fault.MacroFault.{MacroFault}
use Rattle.aperture_macros.specs.declared.fault.MacroFault.TheVariants.{BadMacro}
use Rattle.aperture_macros.specs.BodyWord.{are_expressions, is_comma, is_number, past, regular_from}
use Rattle.aperture_macros.specs.Values.{point_at, sum_from, term_at}
use Rattle.aperture_macros.specs.Outlines.{last_from, moved_from}

pub past_more : (n k : ℕ) (text : List ℕ) → k < n → past (n - k) text ≡ past (n - (k + 1)) (after_first is_comma text)
unfolding past
past_more n k text some = let e : n - k ≡ suc (n - (k + 1)) = omega (arith, some) in rw e refl

pub sum_more : (n k : ℕ) (text : List ℕ) → k < n → is_empty text ≡ false → is_term (first_term text) ≡ true → is_sum (n - k) text ≡ is_sum (n - (k + 1)) (further_terms text)
unfolding is_sum
sum_more n k text some full term = let e : n - k ≡ suc (n - (k + 1)) = omega (arith, some) in rw (e, full, term) refl

pub sum_bad : (n k : ℕ) (text : List ℕ) → k < n → is_empty text ≡ false → is_term (first_term text) ≡ false → is_sum (n - k) text ≡ false
unfolding is_sum
sum_bad n k text some full term = let e : n - k ≡ suc (n - (k + 1)) = omega (arith, some) in rw (e, full, term) refl

pub expressions_more : (n k : ℕ) (text : List ℕ) → k < n → is_expression (before_first is_comma text) ≡ true → are_expressions (n - k) text ≡ are_expressions (n - (k + 1)) (after_first is_comma text)
unfolding are_expressions
expressions_more n k text some this = let e : n - k ≡ suc (n - (k + 1)) = omega (arith, some) in rw (e, this) refl

pub regular_more : (n : ℕ) (d : Fraction) → n < 13 → is_number d n ≡ false → regular_from (13 - n) n d ≡ regular_from (13 - (n + 1)) (n + 1) d
unfolding regular_from
regular_more n d some other = let e : 13 - n ≡ suc (13 - (n + 1)) = omega (arith, some) in rw (e, other) refl

pub value_more : (n k : ℕ) (sum u : ℤ) (text : List ℕ) (given : List Fraction) (unit : Measure) → k < n → is_empty text ≡ false → term_at (first_term text) given unit ≡ Ok u → sum_from (n - k) sum text given unit ≡ sum_from (n - (k + 1)) (sum +ℤ u) (further_terms text) given unit
unfolding sum_from
value_more n k sum u text given unit some full term = let e : n - k ≡ suc (n - (k + 1)) = omega (arith, some) in rw (e, full, term) refl

pub value_bad : (n k : ℕ) (sum : ℤ) (fault : MacroFault) (text : List ℕ) (given : List Fraction) (unit : Measure) → k < n → is_empty text ≡ false → term_at (first_term text) given unit ≡ Err fault → sum_from (n - k) sum text given unit ≡ Err fault
unfolding sum_from
value_bad n k sum fault text given unit some full term = let e : n - k ≡ suc (n - (k + 1)) = omega (arith, some) in rw (e, full, term) refl

pub value_end : (n : ℕ) (sum : ℤ) (text : List ℕ) (given : List Fraction) (unit : Measure) → is_empty text ≡ true → sum_from n sum text given unit ≡ Ok sum
unfolding sum_from
value_end zero sum text given unit none = rw none refl
value_end (suc n) sum text given unit none = rw none refl

pub value_over : (sum : ℤ) (text : List ℕ) (given : List Fraction) (unit : Measure) → is_empty text ≡ false → sum_from 0 sum text given unit ≡ Err BadMacro
unfolding sum_from
value_over sum text given unit full = rw full refl

pub last_more : (n k : ℕ) (last p : Spot) (text : List ℕ) (given : List Fraction) (unit : Measure) → k < n → point_at text given unit ≡ Ok p → last_from last (n - k) text given unit ≡ last_from p (n - (k + 1)) (past 2 text) given unit
unfolding last_from
last_more n k last p text given unit some this = let e : n - k ≡ suc (n - (k + 1)) = omega (arith, some) in rw (e, this) refl

pub last_bad : (n k : ℕ) (last : Spot) (fault : MacroFault) (text : List ℕ) (given : List Fraction) (unit : Measure) → k < n → point_at text given unit ≡ Err fault → last_from last (n - k) text given unit ≡ Err fault
unfolding last_from
last_bad n k last fault text given unit some this = let e : n - k ≡ suc (n - (k + 1)) = omega (arith, some) in rw (e, this) refl

pub last_none : (last : Spot) (text : List ℕ) (given : List Fraction) (unit : Measure) → last_from last 0 text given unit ≡ Ok last
unfolding last_from
last_none last text given unit = refl

pub moved_more : (f : Spot → Spot) (moved : List Spot) (n k : ℕ) (p : Spot) (text : List ℕ) (given : List Fraction) (unit : Measure) → k < n → point_at text given unit ≡ Ok p → moved_from f moved (n - k) text given unit ≡ moved_from f (moved ++ f p ∷ []) (n - (k + 1)) (past 2 text) given unit
unfolding moved_from
moved_more f moved n k p text given unit some this = let e : n - k ≡ suc (n - (k + 1)) = omega (arith, some) in rw (e, this) refl

pub moved_bad : (f : Spot → Spot) (moved : List Spot) (n k : ℕ) (fault : MacroFault) (text : List ℕ) (given : List Fraction) (unit : Measure) → k < n → point_at text given unit ≡ Err fault → moved_from f moved (n - k) text given unit ≡ Err fault
unfolding moved_from
moved_bad f moved n k fault text given unit some this = let e : n - k ≡ suc (n - (k + 1)) = omega (arith, some) in rw (e, this) refl

pub moved_none : (f : Spot → Spot) (moved : List Spot) (text : List ℕ) (given : List Fraction) (unit : Measure) → moved_from f moved 0 text given unit ≡ Ok moved
unfolding moved_from
moved_none f moved text given unit = refl
