-- What the lengths of a primitive are, in u.
use Rattle.std.specs.Prelude.{ℕ, zero, suc, ◌-◌, ◌*◌, ◌/◌, ◌%◌, Bool, ◌==◌, nat_lt, not, if◌then◌else◌, List, ℤ, pos, ◌+ℤ◌, neg_ℤ, unsigned_abs, int_lt, slice_get, Option, Some, None, Result, Ok, Err}
use Rattle.contact.specs.declared.TheConstants.{MOST_DIAMETER}
use Rattle.planar.specs.declared.Spot.{Spot}
use Rattle.planar.specs.declared.TheConstants.{METRE}
use Rattle.lengths.specs.Decimal.{Fraction, chosen, fraction, has_minus, is_decimal, unsigned}
use Rattle.lengths.specs.Grid.{position_of}
use Rattle.lengths.specs.declared.decimal.Unit.{Unit as Measure}
use Rattle.lengths.specs.declared.decimal.Unit.TheVariants.{Mm}
use Rattle.lengths.specs.declared.decimal.GridFault.{GridFault}
use Rattle.aperture_macros.specs.declared.fault.MacroFault.{MacroFault}
use Rattle.aperture_macros.specs.declared.fault.MacroFault.TheVariants.{BadMacro, OffGrid, OutOfRange}
use Rattle.aperture_macros.specs.Expression.{is_empty, is_product, variable_number, first_factor, first_term, further_terms, second_factor}
use Rattle.aperture_macros.specs.declared.values.TheConstants.{PARTS, PARTS_OF_PRODUCT}
use Rattle.aperture_macros.specs.BodyWord.{◌>>=◌, part}
use Rattle.aperture_macros.specs.declared.expression.TheConstants.{MOST_TERMS}

-- how a position that is none is refused
abbrev pub as_fault : Result ℤ GridFault → Result ℤ MacroFault
as_fault (Ok u) = Ok u
as_fault (Err fault) = Err (chosen fault OffGrid OutOfRange)

-- the number, or with a minus before it its negative
abbrev pub signed_by : Bool → ℤ → ℤ
signed_by minus u = if minus then neg_ℤ u else u

-- the position that a parameter is, with a minus before it or not; 0 where there is none
abbrev pub parameter_value : Bool → Option Fraction → Measure → Result ℤ MacroFault
parameter_value minus None unit = Ok (pos 0)
parameter_value minus (Some d) unit = as_fault (position_of d unit) >>= λ u. Ok (signed_by minus u)

-- `$k` is the k-th of the parameters, which count from 1, or 0 where there is none
unfoldable pub variable_at : Bool → ℕ → List Fraction → Measure → Result ℤ MacroFault
variable_at minus k parameters unit = parameter_value minus (slice_get parameters (k - 1)) unit

-- by the number of the parameter that a term names, if it names one
abbrev pub term_by : Option ℕ → List ℕ → List Fraction → Measure → Result ℤ MacroFault
term_by (Some k) text parameters unit = variable_at (has_minus text) k parameters unit
term_by None text parameters unit = if is_decimal text then as_fault (position_of (fraction text) unit) else Err BadMacro

-- the position that a term is, with the sign before it
unfoldable pub term_at : List ℕ → List Fraction → Measure → Result ℤ MacroFault
term_at text parameters unit = term_by (variable_number (unsigned text)) text parameters unit

-- what at most n terms come to, added to a number; each term in turn is a position
unfoldable pub sum_from : ℕ → ℤ → List ℕ → List Fraction → Measure → Result ℤ MacroFault
sum_from zero sum text parameters unit = if is_empty text then Ok sum else Err BadMacro
sum_from (suc n) sum text parameters unit =
    if is_empty text then Ok sum
    else (term_at (first_term text) parameters unit >>= λ u. sum_from n (sum +ℤ u) (further_terms text) parameters unit)

-- a coordinate: at most 1 m from 0
unfoldable pub coordinate_at : List ℕ → List Fraction → Measure → Result ℤ MacroFault
coordinate_at text parameters unit =
    sum_from MOST_TERMS (pos 0) text parameters unit >>= λ u. if nat_lt METRE (unsigned_abs u) then Err OutOfRange else Ok u

-- a size is even, and not negative
abbrev pub as_size : ℤ → Result ℕ MacroFault
as_size u = if not (unsigned_abs u % 2 == 0) then Err OffGrid else (if int_lt u (pos 0) then Err OutOfRange else Ok (unsigned_abs u))

-- a width, a height or a diameter
unfoldable pub size_at : List ℕ → List Fraction → Measure → Result ℕ MacroFault
size_at text parameters unit = coordinate_at text parameters unit >>= as_size

-- a diameter is at most MOST_DIAMETER
unfoldable pub diameter_at : List ℕ → List Fraction → Measure → Result ℕ MacroFault
diameter_at text parameters unit = size_at text parameters unit >>= λ d. if nat_lt MOST_DIAMETER d then Err OutOfRange else Ok d

-- what is not below 0
abbrev pub as_natural : ℤ → Result ℕ MacroFault
as_natural u = if int_lt u (pos 0) then Err OutOfRange else Ok (unsigned_abs u)

-- a size that may be odd
unfoldable pub extent_at : List ℕ → List Fraction → Measure → Result ℕ MacroFault
extent_at text parameters unit = coordinate_at text parameters unit >>= as_natural

-- a factor: of a length in a unit, or of a number as in mm, which is in parts of 10^-7 then
unfoldable pub factor_at : List ℕ → List Fraction → Measure → Result ℕ MacroFault
factor_at text parameters unit = term_at text parameters unit >>= as_natural

-- a number times a length, in parts of which a u has PARTS
abbrev pub product_of : ℕ → ℕ → Result ℕ MacroFault
product_of n u = if n * u % PARTS_OF_PRODUCT == 0 then Ok (n * u / PARTS_OF_PRODUCT) else Err OffGrid

unfoldable pub product_at : List ℕ → List Fraction → Measure → Result ℕ MacroFault
product_at text parameters unit =
    factor_at (first_factor text) parameters Mm >>= λ n. factor_at (second_factor text) parameters unit >>= λ u. product_of n u

-- a whole number of u in such parts
unfoldable pub whole_at : List ℕ → List Fraction → Measure → Result ℕ MacroFault
whole_at text parameters unit = extent_at text parameters unit >>= λ n. Ok (n * PARTS)

-- the diameter of a polygon, in such parts
unfoldable pub across_at : List ℕ → List Fraction → Measure → Result ℕ MacroFault
across_at text parameters unit =
    (if is_product text then product_at text parameters unit else whole_at text parameters unit) >>= λ d.
    if nat_lt (MOST_DIAMETER * PARTS) d then Err OutOfRange else Ok d

-- the point that the first two parts of a text are
unfoldable pub point_at : List ℕ → List Fraction → Measure → Result Spot MacroFault
point_at text parameters unit =
    coordinate_at (part 0 text) parameters unit >>= λ x. coordinate_at (part 1 text) parameters unit >>= λ y. Ok (record { x = x; y = y })
