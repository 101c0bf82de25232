-- What a command does where a file may have macros: the rows that `CommandEffects` has not, or has otherwise (Gerber Layer Format
-- Specification, 4.5).
use Rattle.std.specs.Prelude.{ℕ, Bool, true, false, ◌||◌, nat_le, nat_lt, if◌then◌else◌, List, [], ◌∷◌, length, codes, Option, Some, None, is_some, Result, Ok, Err}
use Rattle.std.specs.Str.Parse.{digits_value}
use Rattle.texts.specs.Words.{is_word}
use Rattle.lengths.specs.Decimal.{Fraction}
use Rattle.lengths.specs.declared.decimal.Unit.{Unit as Measure}
use Rattle.apertures.specs.declared.aperture.Aperture.{Aperture}
use Rattle.apertures.specs.declared.fault.ApertureFault.{ApertureFault}
use Rattle.apertures.specs.declared.fault.ApertureFault.TheVariants as aperture
use Rattle.apertures.specs.Definition.{aperture_at, name_of}
use Rattle.aperture_macros.specs.BodyWord.{PlainPrimitive, primitive_at}
use Rattle.aperture_macros.specs.Flashes.{judged}
use Rattle.aperture_macros.specs.declared.fault.MacroFault.{MacroFault}
use Rattle.aperture_macros.specs.declared.fault.MacroFault.TheVariants as shape
use Rattle.aperture_macros.specs.declared.primitive.Copper.TheVariants.{Exact}
use Rattle.gerber_reading.specs.Command.{Command, defines, functions, names_macro, body_word}
use Rattle.gerber_reading.specs.declared.TheConstants.{MOST_APERTURES}
use Rattle.gerber_reading.specs.declared.kind.GerberKind.{GerberKind}
use Rattle.gerber_reading.specs.declared.kind.GerberKind.TheVariants as kind
use Rattle.gerber_layer.specs.declared.macro_kind.FlattenKind.{FlattenKind}
use Rattle.gerber_layer.specs.declared.macro_kind.FlattenKind.TheVariants.{Gerber, BadMacro, MacroTwice, NoMacro, ExposureOff, Turn, Slanted, TooManyRadii}
use Rattle.gerber_layer.specs.Radii.{radii_of}
use Rattle.gerber_layer.specs.WordCommands.{is_empty}
use Rattle.gerber_layer.specs.Tools.{composed, has_room, macro_named, name_text, number_digits, parameters_in}
use Rattle.gerber_layer.specs.CommandEffects.{Known, Effect, Profile, exact_meaning, stays, makes, begins_macro, fills_macro, concludes, ◌>>=◌, unless, needed, define, is_finish, row}

-- how the rows of `CommandEffects` refuse
abbrev pub gerber : {A : Type 0} → Result A GerberKind → Result A FlattenKind
gerber (Ok x) = Ok x
gerber (Err kind) = Err (Gerber kind)

-- how a fault of a macro is refused
abbrev pub kind_of_macro : MacroFault → FlattenKind
kind_of_macro shape.BadMacro = BadMacro
kind_of_macro shape.ExposureOff = ExposureOff
kind_of_macro shape.Turn = Turn
kind_of_macro shape.OffGrid = Gerber kind.OffGrid
kind_of_macro shape.OutOfRange = Gerber kind.OutOfRange
kind_of_macro shape.Slanted = Slanted

-- what a macro says, or how its fault is refused
abbrev pub as_macro : {A : Type 0} → Result A MacroFault → Result A FlattenKind
as_macro (Ok x) = Ok x
as_macro (Err fault) = Err (kind_of_macro fault)

-- a name that no macro may have: an empty one, or that of a standard aperture
abbrev pub is_reserved : List ℕ → Bool
is_reserved name = is_empty name || ((is_word name (codes "C") || is_word name (codes "R")) || (is_word name (codes "O") || is_word name (codes "P")))

-- the row of `AM`
unfoldable pub name_macro : Known → List ℕ → Result Effect FlattenKind
name_macro k name = unless (is_reserved name) BadMacro (unless (is_some (macro_named k.macros name)) MacroTwice (Ok (begins_macro name)))

-- by what the word says, where the macro has room for one primitive more or has none
abbrev pub fill_by : Bool → Result (Option PlainPrimitive) MacroFault → Result Effect FlattenKind
fill_by room (Ok None) = Ok stays
fill_by room (Ok (Some primitive)) = if room then Ok (fills_macro primitive) else Err BadMacro
fill_by room (Err fault) = if room then Err (kind_of_macro fault) else Err BadMacro

-- the row of a word of a macro's body: a comment, or a primitive
unfoldable pub fill_macro : Known → List ℕ → Result Effect FlattenKind
fill_macro k text = fill_by (has_room k.macros.latest) (primitive_at Exact text)

-- the first fault of the primitives with these parameters, if one has a fault
unfoldable pub all_judged : List PlainPrimitive → List Fraction → Measure → Result (Unit {0}) MacroFault
all_judged [] parameters unit = Ok tt
all_judged (p ∷ body) parameters unit = judged Exact p parameters unit >>= λ done. all_judged body parameters unit

-- an aperture n of the macro of this name and body with these parameters
unfoldable pub compose_as : Known → ℕ → List ℕ → List PlainPrimitive → List Fraction → Measure → Result Effect FlattenKind
compose_as k n name body parameters unit =
    unless (is_some (k.defined n)) (Gerber kind.ApertureTwice) (unless (nat_le MOST_APERTURES k.definitions) (Gerber kind.TooManyApertures)
    (as_macro (all_judged body parameters unit) >>= λ done. Ok (makes n (composed name parameters unit))))

-- a definition of an aperture by a macro
unfoldable pub compose : Known → List ℕ → Measure → Result Effect FlattenKind
compose k text unit = do
  body ← needed NoMacro (macro_named k.macros (name_of (name_text text)))
  parameters ← needed BadMacro (parameters_in (name_text text))
  compose_as k (digits_value 10 (number_digits text)) (name_of (name_text text)) body parameters unit

-- the name is none of a standard aperture
abbrev pub is_of_macro : Result (ℕ × Aperture) ApertureFault → Bool
is_of_macro (Err aperture.Macro) = true
is_of_macro other = false

-- the row of a definition
unfoldable pub define_any : Known → List ℕ → Result Effect FlattenKind
define_any k text =
    needed (Gerber kind.MissingUnit) k.settings.unit >>= λ unit.
    if is_of_macro (aperture_at text unit) then compose k text unit else gerber (define k text)

-- The rows where a file may have macros.
unfoldable pub macro_row : Known → Command → Result Effect FlattenKind
macro_row k (names_macro name) = name_macro k name
macro_row k (body_word text) = fill_macro k text
macro_row k (defines text) = define_any k text
macro_row k other = gerber (row k other)

-- a word of the file's function
abbrev pub is_function : Command → Bool
is_function (functions function layer) = true
is_function other = false

-- Where copper is flattened, it is taken exactly, and a file's function is any.
unfoldable pub row_with_macros : Known → Command → Result Effect FlattenKind
row_with_macros k c = if is_function c then Ok stays else macro_row k c

-- where the file ends, its image has at most MOST_APERTURES radii
abbrev pub few_radii : Effect → Result Effect FlattenKind
few_radii (concludes pieces) = unless (nat_lt MOST_APERTURES (length (radii_of pieces))) TooManyRadii (Ok (concludes pieces))
few_radii other = Ok other

-- and a fault stays
abbrev pub with_few_radii : Result Effect FlattenKind → Result Effect FlattenKind
with_few_radii what = what >>= few_radii

-- behind the end nothing may stand but the file's end
abbrev pub behind_end : Command → Result Effect FlattenKind
behind_end c = if is_finish c then Ok stays else Err (Gerber kind.AfterEnd)

-- the table of copper that is flattened
unfoldable pub effect_with_macros : Known → Command → Result Effect FlattenKind
effect_with_macros k c = if k.settings.ended then behind_end c else with_few_radii (row_with_macros k c)

-- the table, and what its words mean
abbrev pub macro_table : Profile FlattenKind
macro_table = record { does = effect_with_macros; means = exact_meaning }
