-- What a word in the body of a macro says (Gerber Layer Format Specification, 4.5.1).
use Rattle.std.specs.Prelude.{ℕ, zero, suc, ◌+◌, ◌*◌, ◌/◌, ◌-◌, ◌^◌, Bool, true, false, ◌&&◌, ◌||◌, not, ◌==◌, nat_le, if◌then◌else◌, List, codes, Option, Some, None, Result, Ok, Err}
use Rattle.std.specs.List.{after_first, before_first, count_by}
use Rattle.std.specs.Option.{option_and_then}
use Rattle.texts.specs.Words.{begins, is_word}
use Rattle.lengths.specs.Decimal.{Fraction, is_decimal, fraction}
use Rattle.aperture_macros.specs.declared.TheConstants.{MOST_OUTLINE_EDGES}
use Rattle.aperture_macros.specs.declared.primitive.Form.{Form}
use Rattle.aperture_macros.specs.declared.primitive.Form.TheVariants.{Circle, Outline, VectorLine, CentreLine, Polygon}
use Rattle.aperture_macros.specs.declared.primitive.Copper.{Copper}
use Rattle.aperture_macros.specs.declared.primitive.Copper.TheVariants.{Exact, Real}
use Rattle.aperture_macros.specs.declared.primitive.Turning.{Turning}
use Rattle.aperture_macros.specs.declared.primitive.Turning.TheVariants.{Quarters, Degrees}
use Rattle.aperture_macros.specs.declared.primitive.Rotation.{Rotation}
use Rattle.aperture_macros.specs.declared.primitive.Rotation.TheVariants.{Unturned, Quarter, Half, ThreeQuarters}
use Rattle.aperture_macros.specs.declared.primitive.Row.{Row}
use Rattle.aperture_macros.specs.declared.fault.MacroFault.{MacroFault}
use Rattle.aperture_macros.specs.declared.fault.MacroFault.TheVariants.{BadMacro, ExposureOff, Turn}
use Rattle.aperture_macros.specs.Expression.{is_expression, is_product}

-- and then, unless there is a fault
infixl 10 ◌>>=◌
abbrev pub ◌>>=◌ : {A B : Type 0} → Result A MacroFault → (A → Result B MacroFault) → Result B MacroFault
(Ok x) >>= f = f x
(Err e) >>= f = Err e

-- A primitive: what it is, how it is turned, and the body word from its first length on.
pub record PlainPrimitive : Type 0 where
  pub form : Form
  pub rotation : Turning
  pub lengths : List ℕ

abbrev pub is_comma : ℕ → Bool
is_comma b = b == 44

-- A word is cut at its commas. Its parts are counted from 0.
abbrev pub commas : List ℕ → ℕ
commas word = count_by is_comma word

-- the text from part n on
unfoldable pub past : ℕ → List ℕ → List ℕ
past zero word = word
past (suc n) word = past n (after_first is_comma word)

-- part n
abbrev pub part : ℕ → List ℕ → List ℕ
part n word = before_first is_comma (past n word)

-- the fraction is this number
abbrev pub is_number : Fraction → ℕ → Bool
is_number d n = d.whole == n * 10 ^ d.places && (not d.negative || n == 0)

-- What stands in a body word, form by form: so many parts before the lengths (the code and the exposure, at an outline the
-- number of its edges, at a polygon that of its corners), then sizes (a diameter, a width, a height), then points (of a polygon the
-- point stands before its diameter), then the rotation, which a circle may lack.
-- `1,e,d,x,y`, `1,e,d,x,y,r`, `4,e,n,` with n + 1 points and `r`, `20,e,w,x,y,x,y,r`, `21,e,w,h,x,y,r`, `5,e,n,x,y,d,r`.
abbrev pub row : Form → Row
row Circle = record { head = 2; sizes = 1; points = 1; needs_rotation = false }
row (Outline n) = record { head = 3; sizes = 0; points = n + 1; needs_rotation = true }
row VectorLine = record { head = 2; sizes = 1; points = 2; needs_rotation = true }
row CentreLine = record { head = 2; sizes = 2; points = 1; needs_rotation = true }
row (Polygon n) = record { head = 3; sizes = 1; points = 1; needs_rotation = true }

-- how many lengths there are
abbrev pub count : Form → ℕ
count form = (row form).sizes + 2 * (row form).points

-- a word with n commas ends with its rotation
abbrev pub has_rotation : Form → ℕ → Bool
has_rotation form n = n == (row form).head + count form

-- a word with n commas has the parts of the form
abbrev pub fits : Form → ℕ → Bool
fits form n = has_rotation form n || (not (row form).needs_rotation && has_rotation form (n + 1))

-- an outline of n edges, where n is from 3 to MOST_OUTLINE_EDGES and part 2 says so
unfoldable pub outline_of : List ℕ → ℕ → Option Form
outline_of word n =
    if not (nat_le 3 n && nat_le n MOST_OUTLINE_EDGES) then None
    else (if not (is_decimal (part 2 word)) then None
    else (if is_number (fraction (part 2 word)) n then Some (Outline n) else None))

-- a polygon of n corners, or of one of the k - 1 numbers behind n, as the fraction says
unfoldable pub regular_from : ℕ → ℕ → Fraction → Option Form
regular_from zero n d = None
regular_from (suc k) n d = if is_number d n then Some (Polygon n) else regular_from k (n + 1) d

-- of 3 to 12 corners
abbrev pub regular_of : Fraction → Option Form
regular_of d = regular_from 10 3 d

-- in real copper, of as many as part 2 says
unfoldable pub polygon_of : Copper → List ℕ → Option Form
polygon_of Exact word = None
polygon_of Real word = if not (is_decimal (part 2 word)) then None else regular_of (fraction (part 2 word))

-- what a word with n commas is by its code; how many edges an outline has is told by n, and part 2 has to say the same
unfoldable pub form_of : Copper → List ℕ → ℕ → Option Form
form_of copper word n =
    if is_word (part 0 word) (codes "1") then Some Circle
    else (if is_word (part 0 word) (codes "4") then outline_of word ((n - 5) / 2)
    else (if is_word (part 0 word) (codes "20") then Some VectorLine
    else (if is_word (part 0 word) (codes "21") then Some CentreLine
    else (if is_word (part 0 word) (codes "5") then polygon_of copper word else None))))

-- that form, where a word with n commas has its parts
abbrev pub form_at : Copper → List ℕ → ℕ → Option Form
form_at copper word n = option_and_then (λ form. if fits form n then Some form else None) (form_of copper word n)

-- the first n parts of a text are expressions
unfoldable pub are_expressions : ℕ → List ℕ → Bool
are_expressions zero text = true
are_expressions (suc n) text = is_expression (before_first is_comma text) && are_expressions n (after_first is_comma text)

-- the diameter of a polygon may be a product
abbrev pub is_across : List ℕ → Bool
is_across text = is_product text || is_expression text

-- the lengths of a form are expressions, or such a diameter
unfoldable pub are_lengths : Form → List ℕ → Bool
are_lengths (Polygon n) text = are_expressions 2 text && is_across (part 2 text)
are_lengths other text = are_expressions (count other) text

-- the rotation behind the lengths, 0 where there is none
abbrev pub rotation_text : Form → ℕ → List ℕ → List ℕ
rotation_text form n lengths = if has_rotation form n then part (count form) lengths else codes "0"

-- a rotation in degrees, counterclockwise
abbrev pub rotation_of : Fraction → Result Rotation MacroFault
rotation_of d =
    if is_number d 0 then Ok Unturned
    else (if is_number d 90 then Ok Quarter
    else (if is_number d 180 then Ok Half
    else (if is_number d 270 then Ok ThreeQuarters
    else Err Turn)))

-- The rotation is written as it must be, then the exposure is 1. Where copper is taken exactly, the rotation is a decimal, and then it is by
-- quarter turns. In real copper it is an expression, and the turn by degrees.
unfoldable pub turning_at : Copper → Fraction → List ℕ → Result Turning MacroFault
turning_at Exact exposure rotation =
    if not (is_decimal rotation) then Err BadMacro
    else (if not (is_number exposure 1) then Err ExposureOff
    else (rotation_of (fraction rotation) >>= λ turn. Ok (Quarters turn)))
turning_at Real exposure rotation =
    if not (is_expression rotation) then Err BadMacro
    else (if not (is_number exposure 1) then Err ExposureOff
    else Ok Degrees)

-- the lengths are written as they must be, and then the rotation
unfoldable pub turned_at : Copper → Form → Fraction → List ℕ → List ℕ → Result PlainPrimitive MacroFault
turned_at copper form exposure lengths rotation =
    if not (are_lengths form lengths) then Err BadMacro
    else (turning_at copper exposure rotation >>= λ turning. Ok (record { form = form; rotation = turning; lengths = lengths }))

-- a word of n commas as a primitive of this form; its exposure is a decimal
unfoldable pub form_in : Copper → Form → ℕ → List ℕ → Result PlainPrimitive MacroFault
form_in copper form n word =
    if not (is_decimal (part 1 word)) then Err BadMacro
    else turned_at copper form (fraction (part 1 word)) (past (row form).head word) (rotation_text form n (past (row form).head word))

-- a word whose code and commas give no form is no primitive
abbrev pub some_form : Copper → Option Form → ℕ → List ℕ → Result (Option PlainPrimitive) MacroFault
some_form copper None n word = Err BadMacro
some_form copper (Some form) n word = form_in copper form n word >>= λ primitive. Ok (Some primitive)

-- a comment where the word begins with `0`, else a primitive
unfoldable pub primitive_at : Copper → List ℕ → Result (Option PlainPrimitive) MacroFault
primitive_at copper word = if begins word (codes "0") then Ok None else some_form copper (form_at copper word (commas word)) (commas word) word
