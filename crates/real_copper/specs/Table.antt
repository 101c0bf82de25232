-- The table of real copper, and how a file of it is read.
use Rattle.std.specs.Prelude.{ℕ, Bool, not, nat_le, if◌then◌else◌, List, [], ◌∷◌, Option, Some, None, is_none, is_some, Result, Ok, Err}
use Rattle.std.specs.Str.Parse.{digits_value}
use Rattle.apertures.specs.Definition.{name_of, name_text, number_digits}
use Rattle.apertures.specs.declared.fault.ApertureFault.{ApertureFault}
use Rattle.apertures.specs.declared.fault.ApertureFault.TheVariants as aperture
use Rattle.aperture_macros.specs.BodyWord.{PlainPrimitive, primitive_at}
use Rattle.aperture_macros.specs.Flashes.{judged}
use Rattle.aperture_macros.specs.declared.fault.MacroFault.{MacroFault}
use Rattle.aperture_macros.specs.declared.primitive.Copper.TheVariants.{Real}
use Rattle.file_reading.specs.Conditions.{◌>>=◌, unless, needed}
use Rattle.file_reading.specs.declared.fault.FileFault.{FileFault}
use Rattle.gerber_layer.specs.MacroTable.{is_reserved, kind_of_macro}
use Rattle.gerber_layer.specs.declared.macro_kind.FlattenKind.TheVariants.{BadMacro, MacroTwice, NoMacro}
use Rattle.gerber_reading.specs.Command.{Command, body_word, breaks, closes_region, counts_in, curves, defines, ends, finishes, formats, functions, names_macro, nothing, opens_region, operates, quarters, refused, repeats, selects}
use Rattle.gerber_reading.specs.CommandEffects.{Profile, begins_macro, define_as, fills_macro, is_finish, is_of_layer, kind_of_aperture, kind_of_word, makes, other_format, stays, target}
use Rattle.gerber_reading.specs.Dialect.{Dialect, HasOneAnswerBy, IsFaultBy, IsReadBy, IsRefusedBy}
use Rattle.gerber_reading.specs.Tools.{Macros, composed, has_room, macro_named, parameters_in}
use Rattle.gerber_reading.specs.declared.TheConstants.{MOST_APERTURES}
use Rattle.gerber_reading.specs.declared.kind.GerberKind.TheVariants as kind
use Rattle.gerber_reading.specs.declared.place.Place.{Place}
use Rattle.gerber_reading.specs.declared.settings.Settings.{Settings}
use Rattle.gerber_reading.specs.declared.tool.Tool.{Tool as Given}
use Rattle.gerber_reading.specs.declared.tool.Tool.TheVariants as given
use Rattle.lengths.specs.Decimal.{Fraction, other_unit}
use Rattle.lengths.specs.declared.decimal.Unit.{Unit as Measure}
use Rattle.real_copper.specs.Apertures.{IsLawful, real_aperture_at}
use Rattle.real_copper.specs.Arcs.{as_real, bend_of}
use Rattle.real_copper.specs.Figures.{RealFigure}
use Rattle.real_copper.specs.Kinds.{gerber}
use Rattle.real_copper.specs.Rows.{RealEffect, RealKnown, end, enter, leave, operate, repeat}
use Rattle.real_copper.specs.Shapes.{PlainReal}
use Rattle.real_copper.specs.Words.{real_command}
use Rattle.real_copper.specs.declared.aperture.RealAperture.{RealAperture}
use Rattle.real_copper.specs.declared.draw.Bend.{Bend}
use Rattle.real_copper.specs.declared.kind.RealKind.{RealKind}
use Rattle.real_copper.specs.declared.kind.RealKind.TheVariants.{Copper}

-- ---- Macros and definitions (4.3, 4.5)

-- how a fault of a macro is refused
abbrev pub as_macro : {A : Type 0} → Result A MacroFault → Result A RealKind
as_macro (Ok x) = Ok x
as_macro (Err fault) = Err (Copper (kind_of_macro fault))

-- the row of `AM`
unfoldable pub name_macro : RealKnown → List ℕ → Result RealEffect RealKind
name_macro k name = unless (is_reserved name) (Copper BadMacro) (unless (is_some (macro_named k.macros name)) (Copper MacroTwice) (Ok (begins_macro name)))

-- the row of a word of a macro's body: by what the word says, where the macro has room for one primitive more or has none
abbrev pub fill_by : Bool → Result (Option PlainPrimitive) MacroFault → Result RealEffect RealKind
fill_by room (Ok None) = Ok stays
fill_by room (Ok (Some primitive)) = if room then Ok (fills_macro primitive) else Err (Copper BadMacro)
fill_by room (Err fault) = if room then Err (Copper (kind_of_macro fault)) else Err (Copper BadMacro)

unfoldable pub fill_macro : RealKnown → List ℕ → Result RealEffect RealKind
fill_macro k text = fill_by (has_room k.macros.latest) (primitive_at Real text)

-- the first fault of the primitives with these parameters, if one has a fault
unfoldable pub all_judged : List PlainPrimitive → List Fraction → Measure → Result (Unit {0}) MacroFault
all_judged [] parameters unit = Ok tt
all_judged (p ∷ body) parameters unit = judged Real p parameters unit >>= λ done. all_judged body parameters unit

-- an aperture n of the macro of this name and body with these parameters
unfoldable pub compose_as : RealKnown → ℕ → List ℕ → List PlainPrimitive → List Fraction → Measure → Result RealEffect RealKind
compose_as k n name body parameters unit =
    unless (is_some (k.defined n)) (gerber kind.ApertureTwice) (unless (nat_le MOST_APERTURES k.definitions) (gerber kind.TooManyApertures)
    (as_macro (all_judged body parameters unit) >>= λ done. Ok (makes n (composed name parameters unit))))

unfoldable pub compose : RealKnown → List ℕ → Measure → Result RealEffect RealKind
compose k text unit =
    needed (Copper NoMacro) (macro_named k.macros (name_of (name_text text))) >>= λ body.
    needed (Copper BadMacro) (parameters_in (name_text text)) >>= λ parameters.
    compose_as k (digits_value 10 (number_digits text)) (name_of (name_text text)) body parameters unit

-- the row of a definition: of a standard aperture, or of one of a macro where the name is none of a standard aperture
abbrev pub define_by : RealKnown → List ℕ → Measure → Result (ℕ × RealAperture) ApertureFault → Result RealEffect RealKind
define_by k text unit (Ok made) = as_real (define_as k made)
define_by k text unit (Err aperture.Macro) = compose k text unit
define_by k text unit (Err fault) = Err (gerber (kind_of_aperture fault))

unfoldable pub define : RealKnown → List ℕ → Result RealEffect RealKind
define k text = needed (gerber kind.MissingUnit) k.settings.unit >>= λ unit. define_by k text unit (real_aperture_at text unit)

-- ---- All rows (in the order of the Gerber Layer Format Specification; above a row stands the section's number, or its title)

unfoldable pub row : RealKnown → Command → Result RealEffect RealKind
-- Comment and others: what changes nothing, and what is refused by itself
row k nothing = Ok stays
row k (refused why) = Err (gerber why)
-- 4.2.1, MO
row k (counts_in unit) = unless (other_unit k.settings.unit unit) (gerber kind.UnitConflict) (Ok stays)
-- 4.2.2, FS
row k (formats format) = unless (other_format k.settings.format format) (gerber kind.BadFormat) (Ok stays)
-- 4.3, AD
row k (defines text) = define k text
-- 4.5, AM and the words behind it
row k (names_macro name) = name_macro k name
row k (body_word text) = fill_macro k text
-- Set current aperture, Dnn
row k (selects n) = unless (is_none (k.defined n)) (gerber kind.NoAperture) (Ok stays)
-- 4.7, G01, G02, G03, G74 and G75
row k (curves curve) = Ok stays
row k (quarters quadrants) = Ok stays
-- 4.8, D01, D02 and D03
row k (operates x y code b) = operate k x y code b
-- 4.10, G36
row k opens_region = enter k
-- 4.10, G37
row k closes_region = leave k
-- 4.12, SR
row k (repeats text) = repeat k text
-- End-of-file, M02; a word that breaks off, and a file that ends without an end word
row k ends = end k
row k (breaks fault) = Err (gerber (kind_of_word fault))
row k finishes = Err (gerber kind.NotEnded)
-- 5.6.3, the file's function
row k (functions function layer) = unless (not (is_of_layer function layer k.place.layer)) (gerber kind.WrongLayer) (Ok stays)

-- behind the end nothing may stand but the file's end
unfoldable pub effect : RealKnown → Command → Result RealEffect RealKind
effect k c =
    if k.settings.ended then (if is_finish c then Ok stays else Err (gerber kind.AfterEnd))
    else row k c

-- ---- The dialect

-- the bend of an edge, by what is in force before its word
abbrev pub bend_or_none : Result (Option Bend) RealKind → Option Bend
bend_or_none (Ok bend) = bend
bend_or_none (Err why) = None

abbrev pub real_edge : Settings → Command → Option Bend
real_edge s (operates x y code b) = bend_or_none (as_real (target s x y) >>= λ to. bend_of s b to)
real_edge s other = None

abbrev pub real_table : Profile RealFigure (Option Bend) RealAperture RealKind
real_table = record { does = effect; means = record { edge = real_edge; aperture = real_aperture_at; primitive = primitive_at Real } }

abbrev pub real : Dialect RealFigure (Option Bend) RealAperture RealKind
real = record { command = real_command; table = real_table }

-- What is right of an aperture that is defined.
abbrev pub fits : Macros → Given RealAperture → Type 0
fits m (given.Standard a) = IsLawful a
fits m (given.Composed name parameters unit marks) = Unit {0}

-- ---- A file

-- The real copper of a file: no command has a fault, and these are the pieces that they make.
abbrev pub IsRealCopper : List ℕ → Place → List PlainReal → Type 0
IsRealCopper file p pieces = IsReadBy real file p pieces

-- the first command with a fault, its number and its place
abbrev pub IsRealRefused : List ℕ → Place → RealKind → ℕ → ℕ → Type 0
IsRealRefused file p kind number place = IsRefusedBy real file p kind number place

abbrev pub IsRealFault : List ℕ → Place → FileFault RealKind → Type 0
IsRealFault file p why = IsFaultBy real file p why

-- Each file has one answer: its real copper, or its refusal.
abbrev pub HasOneRealAnswer : List ℕ → Place → Type 0
HasOneRealAnswer file p = HasOneAnswerBy real file p
