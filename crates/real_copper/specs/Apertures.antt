-- What an `AD` word defines in real copper, where circles, rectangles and obrounds may have a round hole, and sizes may be odd (Gerber
-- Layer Format Specification, 4.4.2 to 4.4.4 and 4.4.6).
use Rattle.std.specs.Prelude.{◌≡◌, ℕ, ◌+◌, ◌%◌, ◌<◌, ◌≤◌, Bool, false, ◌&&◌, ◌==◌, min, nat_lt, int_lt, if◌then◌else◌, List, codes, ℤ, pos, unsigned_abs, Option, Some, None, option_map, Result, Ok, Err}
use Rattle.std.specs.List.{after_first, before_first}
use Rattle.std.specs.Str.Parse.{digits_value}
use Rattle.texts.specs.Words.{is_word}
use Rattle.contact.specs.declared.TheConstants.{MOST_DIAMETER}
use Rattle.planar.specs.declared.TheConstants.{METRE}
use Rattle.lengths.specs.Decimal.{is_decimal, fraction}
use Rattle.lengths.specs.Grid.{position_of}
use Rattle.lengths.specs.declared.decimal.Unit.{Unit as Measure}
use Rattle.apertures.specs.Definition.{◌>>=◌, aperture_at, as_fault, is_comma, is_x, last_behind, name_of, name_text, number_digits}
use Rattle.apertures.specs.Flash.{IsLawful as IsExact, IsNarrow, pen_of as exact_pen}
use Rattle.apertures.specs.declared.aperture.Aperture.{Aperture}
use Rattle.apertures.specs.declared.fault.ApertureFault.{ApertureFault}
use Rattle.apertures.specs.declared.fault.ApertureFault.TheVariants as fault
use Rattle.real_copper.specs.declared.aperture.OddForm.{OddForm}
use Rattle.real_copper.specs.declared.aperture.OddForm.TheVariants as form
use Rattle.real_copper.specs.declared.aperture.RealAperture.{RealAperture}
use Rattle.real_copper.specs.declared.definitions.TwoSided.{TwoSided}
use Rattle.real_copper.specs.declared.definitions.TwoSided.TheVariants as two
use Rattle.real_copper.specs.declared.definitions.TwoSizes.{TwoSizes}
use Rattle.real_copper.specs.declared.aperture.RealAperture.TheVariants.{Exact, Ring, Frame, Odd, Pierced}

-- the whole number of u that a parameter is
unfoldable pub whole_at : List ℕ → Measure → Result ℤ ApertureFault
whole_at text unit = if is_decimal text then as_fault (position_of (fraction text) unit) else Err fault.BadText

-- a size is a whole number of u, over 0 and at most 1 m
abbrev pub as_size : ℤ → Result ℕ ApertureFault
as_size u = if int_lt (pos 0) u then Ok (unsigned_abs u) else Err fault.OutOfRange

unfoldable pub size_at : List ℕ → Measure → Result ℕ ApertureFault
size_at text unit = whole_at text unit >>= as_size

-- two sizes with an `X` between them
unfoldable pub sizes_at : List ℕ → Measure → Result TwoSizes ApertureFault
sizes_at text unit = size_at (before_first is_x text) unit >>= λ x. size_at (after_first is_x text) unit >>= λ y. Ok (record { x = x; y = y })

-- the lesser size of what is round, and a hole, is at most MOST_DIAMETER
abbrev pub is_wide : OddForm → Bool
is_wide (form.Circle d) = nat_lt MOST_DIAMETER d
is_wide (form.Rectangle x y) = false
is_wide (form.Obround x y) = nat_lt MOST_DIAMETER (min x y)

-- the hole is less than both sizes
abbrev pub is_held : OddForm → ℕ → Bool
is_held (form.Circle d) hole = nat_lt hole d
is_held (form.Rectangle x y) hole = nat_lt hole x && nat_lt hole y
is_held (form.Obround x y) hole = nat_lt hole x && nat_lt hole y

-- ---- Of an odd size

abbrev pub narrow : OddForm → Result OddForm ApertureFault
narrow f = if is_wide f then Err fault.OutOfRange else Ok f

-- the name of an `AD` word is this letter
abbrev pub is_named : List ℕ → List ℕ → Bool
is_named letter word = is_word (name_of (name_text word)) letter

-- what stands behind the comma
abbrev pub parameters : List ℕ → List ℕ
parameters word = after_first is_comma (name_text word)

-- what has two sizes is a rectangle (4.4.3) or an obround (4.4.4)
abbrev pub sided_in : List ℕ → TwoSided
sided_in word = if is_named (codes "R") word then two.Rectangle else two.Obround

abbrev pub sided : TwoSided → ℕ → ℕ → OddForm
sided two.Rectangle x y = form.Rectangle x y
sided two.Obround x y = form.Obround x y

-- a circle by its diameter, a rectangle or an obround by both sizes
unfoldable pub odd_by : List ℕ → List ℕ → Measure → Result OddForm ApertureFault
odd_by word text unit =
    if is_named (codes "C") word then (size_at text unit >>= λ d. narrow (form.Circle d))
    else (sizes_at text unit >>= λ s. narrow (sided (sided_in word) s.x s.y))

-- ---- With a hole

abbrev pub is_even : ℕ → Bool
is_even n = n % 2 == 0

-- the middle line of a ring is on the grid
abbrev pub is_ring : ℕ → ℕ → Bool
is_ring d hole = is_even d && (is_even hole && ((d + hole) % 4 == 0))

-- a circle whose ring has its middle line on the grid, and a rectangle with its corners and the border of its hole on it; any other figure
-- is told without the hole
abbrev pub pierced : OddForm → ℕ → RealAperture
pierced (form.Circle d) hole = if is_ring d hole then Ring d (record { diameter = hole }) else Pierced (form.Circle d) (record { diameter = hole })
pierced (form.Rectangle x y) hole = if is_even x && (is_even y && is_even hole) then Frame x y (record { diameter = hole }) else Pierced (form.Rectangle x y) (record { diameter = hole })
pierced (form.Obround x y) hole = Pierced (form.Obround x y) (record { diameter = hole })

abbrev pub with_hole : OddForm → ℕ → Result RealAperture ApertureFault
with_hole f hole =
    if is_wide f then Err fault.OutOfRange
    else (if nat_lt MOST_DIAMETER hole then Err fault.OutOfRange
    else (if is_held f hole then Ok (pierced f hole) else Err fault.Hole))

-- a circle by its diameter and that of the hole
unfoldable pub holed_circle_at : List ℕ → Measure → Result RealAperture ApertureFault
holed_circle_at text unit = last_behind is_x text >>= λ _. sizes_at text unit >>= λ s. with_hole (form.Circle s.x) s.y

-- a rectangle or an obround by both sizes and the diameter of the hole
unfoldable pub holed_sided_behind : TwoSided → ℕ → List ℕ → Measure → Result RealAperture ApertureFault
holed_sided_behind kind x text unit = sizes_at text unit >>= λ s. with_hole (sided kind x s.x) s.y

unfoldable pub holed_sided_at : TwoSided → List ℕ → Measure → Result RealAperture ApertureFault
holed_sided_at kind text unit =
    last_behind is_x (after_first is_x text) >>= λ _. size_at (before_first is_x text) unit >>= λ x. holed_sided_behind kind x (after_first is_x text) unit

unfoldable pub holed_by : List ℕ → List ℕ → Measure → Result RealAperture ApertureFault
holed_by word text unit = if is_named (codes "C") word then holed_circle_at text unit else holed_sided_at (sided_in word) text unit

-- ---- Any

-- its number, of digits
abbrev pub number_of : List ℕ → ℕ
number_of word = digits_value 10 (number_digits word)

abbrev pub numbered : List ℕ → Result RealAperture ApertureFault → Result (ℕ × RealAperture) ApertureFault
numbered word (Ok a) = Ok (number_of word, a)
numbered word (Err why) = Err why

abbrev pub as_odd : Result OddForm ApertureFault → Result RealAperture ApertureFault
as_odd (Ok f) = Ok (Odd f)
as_odd (Err why) = Err why

-- what is taken exactly, or with a hole where there is one parameter more, or of an odd size where a size is not even
abbrev pub real_by : List ℕ → Measure → Result (ℕ × Aperture) ApertureFault → Result (ℕ × RealAperture) ApertureFault
real_by word unit (Ok made) = Ok (made.0, Exact made.1)
real_by word unit (Err fault.Hole) = numbered word (holed_by word (parameters word) unit)
real_by word unit (Err fault.OffGrid) = numbered word (as_odd (odd_by word (parameters word) unit))
real_by word unit (Err why) = Err why

-- what an `AD` word defines
abbrev pub real_aperture_at : List ℕ → Measure → Result (ℕ × RealAperture) ApertureFault
real_aperture_at word unit = real_by word unit (aperture_at word unit)

-- ---- What is right of one

abbrev pub IsSize : ℕ → Type 0
IsSize n = (0 < n) × (n ≤ METRE)

abbrev pub AreSizes : OddForm → Type 0
AreSizes (form.Circle d) = IsSize d
AreSizes (form.Rectangle x y) = IsSize x × IsSize y
AreSizes (form.Obround x y) = IsSize x × IsSize y

-- each size is one, what is round is narrow, and a hole is less than both sizes
abbrev pub IsLawful : RealAperture → Type 0
IsLawful (Exact a) = IsExact a
IsLawful (Ring d hole) = IsNarrow d × (hole.diameter < d)
IsLawful (Frame x y hole) = (x ≤ METRE) × (y ≤ METRE) × (hole.diameter < x)
IsLawful (Odd f) = AreSizes f × (is_wide f ≡ false)
IsLawful (Pierced f hole) = AreSizes f × (is_wide f ≡ false) × (hole.diameter ≤ MOST_DIAMETER)

-- ---- As a pen

-- a circle without a hole alone draws (4.8)
abbrev pub odd_pen : OddForm → Option ℕ
odd_pen (form.Circle d) = Some d
odd_pen other = None

abbrev pub pen_of : RealAperture → Option ℕ
pen_of (Exact a) = option_map unsigned_abs (exact_pen a)
pen_of (Odd f) = odd_pen f
pen_of other = None
