-- What a line means in `check`'s dialect, by what earlier lines have told and by what is in force there.
use Rattle.std.specs.Prelude.{ℕ, ◌+◌, ◌-◌, Bool, true, false, ◌&&◌, ◌||◌, not, ◌==◌, nat_le, if◌then◌else◌, Option, Some, None, is_none}
pub use Rattle.std.specs.Option.{option_or}
use Rattle.lengths.specs.Decimal.{Fraction, same_unit}
use Rattle.lengths.specs.declared.decimal.Unit.{Unit as Measure}
use Rattle.xnc.specs.declared.kind.DrillKind.TheVariants.{MixedPlating}
use Rattle.xnc.specs.declared.line.Coordinates.{Coordinates}
use Rattle.xnc.specs.declared.line.DrillLine.{DrillLine}
use Rattle.xnc.specs.declared.line.DrillLine.TheVariants as line
use Rattle.xnc.specs.declared.settings.Stage.{Stage}
use Rattle.xnc.specs.declared.settings.Stage.TheVariants.{Opening, Header, Body, Ended}
use Rattle.xnc.specs.declared.settings.Settings.{Settings}
use Rattle.drill_forms.specs.declared.form.Zeros.{Zeros}
use Rattle.drill_forms.specs.declared.form.Zeros.TheVariants.{Leading, Trailing}
use Rattle.drill_forms.specs.declared.form.Layout.{Layout}
use Rattle.drill_forms.specs.Numbers.{Number, with_places}
use Rattle.drill_forms.specs.declared.form.Along.{Along}
use Rattle.drill_forms.specs.declared.form.FormLine.{FormLine}
use Rattle.drill_forms.specs.declared.form.FormLine.TheVariants as form
use Rattle.drill_forms.specs.declared.notes.Words.{Words}

-- ---- Plating

-- whether the next tool is plated: its own attribute comes before a type that lasts
abbrev pub told : Words → Option Bool
told w = option_or w.own w.lasting

abbrev pub unplated : Option Bool → Bool
unplated None = false
unplated (Some plated) = not plated

-- the next tool makes no barrels
abbrev pub is_bare : Words → Bool
is_bare w = unplated (told w)

-- A tool that is told against the file's function, or that is not told where others are and it matters: so nothing is guessed.
abbrev pub is_amiss : Option Bool → Option Bool → Words → Bool
is_amiss (Some false) (Some plated) w = not plated
is_amiss (Some true) None w = true
is_amiss None (Some false) w = w.has_untold
is_amiss None None w = w.has_bare
is_amiss mixed told w = false

abbrev pub function_amiss : Bool → Words → Bool
function_amiss true w = w.has_untold
function_amiss false w = w.has_bare

-- ---- Numbers without a point

abbrev pub same_zeros : Zeros → Zeros → Bool
same_zeros Leading Leading = true
same_zeros Trailing Trailing = true
same_zeros Leading Trailing = false
same_zeros Trailing Leading = false

-- what is said now, and what was said, are not the same
abbrev pub zeros_differ : Option Zeros → Option Zeros → Bool
zeros_differ (Some a) (Some b) = not (same_zeros a b)
zeros_differ a b = false

abbrev pub layouts_differ : Option Layout → Option Layout → Bool
layouts_differ (Some a) (Some b) = not (a.whole == b.whole && a.places == b.places)
layouts_differ a b = false

-- the number is 0
abbrev pub is_zero : Fraction → Bool
is_zero d = d.whole == 0

-- at most as many digits as the layout has, and at most 18
abbrev pub in_layout : Layout → ℕ → Bool
in_layout l digits = nat_le digits (l.whole + l.places) && nat_le (l.whole + l.places) 18

-- So many digits can be laid out; with leading zeros all before the point stand, or the number is 0.
abbrev pub fits : Zeros → Layout → ℕ → Bool → Bool
fits Leading l digits zero = (nat_le l.whole digits || zero) && in_layout l digits
fits Trailing l digits zero = in_layout l digits

-- how many stand behind the point: with leading zeros those behind the whole ones, with trailing zeros as many as the layout has
abbrev pub places_of : Zeros → Layout → ℕ → ℕ
places_of Leading l digits = digits - l.whole
places_of Trailing l digits = l.places

-- a number with its digits laid out, where they can be
abbrev pub laid_out : Zeros → Layout → Fraction → ℕ → Fraction
laid_out zeros l d digits = if fits zeros l digits (is_zero d) then with_places d (places_of zeros l digits) else d

abbrev pub implied : Option Zeros → Option Layout → Fraction → ℕ → Fraction
implied None l d digits = d
implied (Some zeros) None d digits = d
implied (Some zeros) (Some l) d digits = laid_out zeros l d digits

-- A number with a point needs no word on its zeros. One without is as the file says; where it does not say it, or in two ways, it stays
-- refused.
abbrev pub meant : Words → Number → Fraction
meant w n = if n.value.pointed || w.two_ways then n.value else implied w.zeros w.layout n.value n.digits

abbrev pub meant_if : Words → Option Number → Option Fraction
meant_if w None = None
meant_if w (Some n) = Some (meant w n)

abbrev pub place_of : Words → Along → Coordinates
place_of w a = record { x = meant_if w a.x; y = meant_if w a.y }

-- ---- Lines

abbrev pub is_unit : Option Measure → Measure → Bool
is_unit None unit = false
is_unit (Some set) unit = same_unit set unit

abbrev pub is_body : Stage → Bool
is_body Body = true
is_body other = false

abbrev pub is_header : Stage → Bool
is_header Header = true
is_header other = false

-- before the header or behind the end
abbrev pub is_outside : Stage → Bool
is_outside Opening = true
is_outside Ended = true
is_outside other = false

-- a line that says nothing in the header and in the body, and stands nowhere else
abbrev pub idle : Stage → DrillLine
idle stage = if is_body stage then line.Blank else line.Format

-- a unit in the body says that which is in force
abbrev pub unit_in : Settings → Measure → DrillLine
unit_in s unit = if is_body s.stage then (if is_unit s.unit unit then line.Blank else line.Unknown) else line.Unit unit

-- what has a form in `check`'s dialect
abbrev pub said_in : Stage → Words → DrillLine → DrillLine
said_in stage w (line.Tool n d) = if is_amiss w.mixed (told w) w then line.Misfit MixedPlating else line.Tool n d
said_in stage w line.HeaderEnd = if is_outside stage then line.Blank else line.HeaderEnd
said_in stage w line.Drill = if is_header stage then line.Format else line.Drill
said_in stage w line.Format = idle stage
said_in stage w other = other

-- a comment that calls holes unplated, where there are holes already
abbrev pub type_in : Stage → Bool → DrillLine
type_in stage plated = if is_body stage && not plated then line.Misfit MixedPlating else line.Blank

-- What a line means.
unfoldable pub line_in : Settings → Words → FormLine → DrillLine
line_in s w (form.Says said) = said_in s.stage w said
line_in s w (form.Rout a) = line.Rout (place_of w a)
line_in s w (form.Straight a) = line.Straight (place_of w a)
line_in s w (form.Hit a) = line.Hit (place_of w a)
line_in s w (form.Slot a b) = line.Slot (place_of w a) (place_of w b)
line_in s w (form.Units unit zeros layout) = unit_in s unit
line_in s w (form.Counts layout) = line.Blank
line_in s w (form.Lasting plated) = type_in s.stage plated
line_in s w (form.Next plated) = type_in s.stage plated
line_in s w form.Untold = line.Blank
line_in s w (form.Function mixed) = if function_amiss mixed w then line.Misfit MixedPlating else line.Blank
line_in s w form.Idle = idle s.stage
line_in s w form.Ends = line.HeaderEnd
line_in s w form.Lift = if s.down then line.Raise else idle s.stage

-- ---- What a line tells

-- what is in force behind a line
abbrev pub noted : Words → FormLine → Words
noted w (form.Says (line.Tool n d)) = record w { own = None; has_untold = is_none (told w) || w.has_untold; has_bare = is_bare w || w.has_bare }
noted w (form.Units unit zeros layout) = record w { zeros = option_or zeros w.zeros; layout = option_or layout w.layout; two_ways = (zeros_differ zeros w.zeros || layouts_differ layout w.layout) || w.two_ways }
noted w (form.Counts layout) = record w { layout = Some layout; two_ways = layouts_differ (Some layout) w.layout || w.two_ways }
noted w (form.Lasting plated) = record w { lasting = Some plated }
noted w (form.Next plated) = record w { own = Some plated }
noted w form.Untold = record w { own = None }
noted w (form.Function mixed) = record w { mixed = Some mixed }
noted w other = w
