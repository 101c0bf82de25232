-- What earlier commands of a copper file have set is lawful, whatever they did: apertures, macros, the current point and the contour.
use Rattle.std.proofs.Common.{◌≡◌, ℕ, ◌≤◌, Bool, true, false, cond, eqb, nat_lt, List, [], ◌∷◌, ◌++◌, ℤ, Option, Some, None, Result, Ok, Err, refl, ap, subst, arith}
use Rattle.std.specs.Option.{option_or}
use Rattle.std.proofs.lemmas.Bool.{ltb-false}
use Rattle.std.proofs.lemmas.Int.{ints}
use Rattle.std.specs.List.{AllByRecursion}
use Rattle.std.specs.Prelude.{map, option_map}
use Rattle.std.specs.Str.Parse.{digits_value}
use Rattle.lengths.specs.Decimal.{Fraction, signed, over_power}
use Rattle.lengths.specs.Grid.{amount_of, as_position, position_of}
use Rattle.lengths.specs.declared.decimal.Unit.{Unit as Measure}
use Rattle.lengths.specs.declared.decimal.GridFault.{GridFault}
use Rattle.lengths.specs.declared.decimal.GridFault.TheVariants as grid
use Rattle.planar.specs.Plane.{IsPlaced, IsReached}
use Rattle.planar.specs.declared.Spot.{Spot}
use Rattle.texts.specs.Words.{is_word}
use Rattle.apertures.specs.declared.aperture.Aperture.{Aperture}
use Rattle.apertures.specs.declared.fault.ApertureFault.{ApertureFault}
use Rattle.apertures.specs.declared.fault.ApertureFault.TheVariants as aperture
use Rattle.apertures.specs.Definition.{aperture_at, name_of}
use Rattle.apertures.specs.Flash.{IsLawful}
use Rattle.apertures.proofs.Lawful.{aperture_lawful}
use Rattle.aperture_macros.specs.declared.primitive.Copper.TheVariants.{Exact}
use Rattle.aperture_macros.specs.BodyWord.{PlainPrimitive, primitive_at}
use Rattle.aperture_macros.specs.Sized.{IsSized}
use Rattle.aperture_macros.specs.declared.fault.MacroFault.{MacroFault}
use Rattle.gerber_reading.specs.Command.{Command, defines, opens_region, closes_region, operates, names_macro, body_word}
use Rattle.gerber_reading.specs.declared.command.Code.{Code}
use Rattle.gerber_reading.specs.declared.command.Code.TheVariants.{Draw, Move, Flash}
use Rattle.gerber_reading.specs.declared.command.Format.{Format}
use Rattle.gerber_reading.specs.declared.kind.GerberKind.{GerberKind}
use Rattle.gerber_layer.specs.Tools.{Macro, Macros, Tool, standard, composed, composed_in, begun, filled_up, latest_or, longer, macro_named, name_text, number_digits, parameters_in, tool_by, tool_in}
use Rattle.gerber_layer.specs.CommandEffects.{gridded, code_of}
use Rattle.gerber_reading.specs.Settings.{as_number, drawn, contour_by, lengthened, point_before, region_open, spots_of, unit_before, format_before, value_in, value_or, with_body, x_before, x_in, y_before, y_in}
use Rattle.aperture_macros.proofs.Readings.{read_sized}
use Rattle.planar.specs.declared.TheConstants.{METRE}
use Rattle.gerber_reading.specs.CommandEffects.{Leg, Outline, coordinate}
use Rattle.macro_flatten.proofs.Exact.{contour_before, defined_before, definition_in, macros_before, macros_by}

-- ---- The current point

signed_reached : (negative : Bool) (n : ℕ) → n ≤ METRE → IsReached (signed negative n)
signed_reached false n h = (omega (arith, ints), omega (arith, ints, h))
signed_reached true n h = (omega (arith, ints, h), omega (arith, ints))

position_reached : (negative : Bool) (o : Option ℕ) (z : ℤ) → as_position negative o ≡ Ok z → IsReached z
position_reached negative None z h = cc
position_reached negative (Some n) z h = by (nat_lt METRE n) refl h
  where
    by : (b : Bool) → nat_lt METRE n ≡ b → ◌≡◌ {A = Result ℤ GridFault} (cond b (Err grid.OutOfRange) (Ok (signed negative n))) (Ok z) → IsReached z
    by true e h = cc
    by false e h = let s : signed negative n ≡ z = cc in subst IsReached s (signed_reached negative n (ltb-false _ _ e))

gridded_ok : (r : Result ℤ GridFault) (z : ℤ) → gridded r ≡ Ok z → r ≡ Ok z
gridded_ok (Ok u) z h = let s : u ≡ z = cc in ap Ok s
gridded_ok (Err grid.OffGrid) z h = cc
gridded_ok (Err grid.OutOfRange) z h = cc

-- a coordinate is within one metre
pub coordinate_reached : (format : Format) (unit : Measure) (here z : ℤ) (x : Option (List ℕ)) → IsReached here → coordinate format unit here x ≡ Ok z → IsReached z
unfolding coordinate position_of
coordinate_reached format unit here z None k h = let s : here ≡ z = cc in subst IsReached s k
coordinate_reached format unit here z (Some digits) k h =
    let d = over_power digits format.decimals in
    position_reached d.negative (amount_of d unit) z (gridded_ok (as_position d.negative (amount_of d unit)) z h)

value_reached : (x : Option (List ℕ)) (format : Option Format) (unit : Option Measure) (here : ℤ) → IsReached here → IsReached (value_in x format unit here)
value_reached None format unit here k = k
value_reached (Some digits) None unit here k = k
value_reached (Some digits) (Some format) None here k = k
value_reached (Some digits) (Some format) (Some unit) here k = by (coordinate format unit here (Some digits)) refl
  where
    by : (r : Result ℤ GerberKind) → coordinate format unit here (Some digits) ≡ r → IsReached (value_or here r)
    by (Ok z) e = coordinate_reached format unit here z (Some digits) k e
    by (Err fault) e = k

x_reached : (h : List Command) → IsReached (x_before h)
x_reached [] = (omega (arith, ints), omega (arith, ints))
x_reached (c ∷ h) = value_reached (x_in c) (format_before h) (unit_before h) (x_before h) (x_reached h)

y_reached : (h : List Command) → IsReached (y_before h)
y_reached [] = (omega (arith, ints), omega (arith, ints))
y_reached (c ∷ h) = value_reached (y_in c) (format_before h) (unit_before h) (y_before h) (y_reached h)

pub point_placed : (h : List Command) → IsPlaced (point_before h)
point_placed h = (x_reached h, y_reached h)

-- ---- The contour

lengthened_placed : {E : Type 0} (contour : Option (Outline E)) (from to : Spot) (e : E) → AllByRecursion IsPlaced (spots_of contour) → IsPlaced from → IsPlaced to → AllByRecursion IsPlaced (spots_of (lengthened contour from to e))
lengthened_placed None from to e h k l = (k, (l, tt))
lengthened_placed {E = E} (Some o) from to e h k l = (h.0, push o.legs h.1)
  where
    push : (legs : List (Leg E)) → AllByRecursion IsPlaced (map (λ (leg : Leg E). leg.to) legs) → AllByRecursion IsPlaced (map (λ (leg : Leg E). leg.to) (legs ++ record { to = to; bend = e } ∷ []))
    push [] g = (l, tt)
    push (x ∷ xs) g = (g.0, push xs g.1)

drawn_placed : {E : Type 0} (code : Code) (inside : Bool) (contour : Option (Outline E)) (from to : Spot) (e : E) → AllByRecursion IsPlaced (spots_of contour) → IsPlaced from → IsPlaced to → AllByRecursion IsPlaced (spots_of (drawn code inside contour from to e))
drawn_placed Draw true contour from to e h k l = lengthened_placed contour from to e h k l
drawn_placed Draw false contour from to e h k l = h
drawn_placed Move true contour from to e h k l = tt
drawn_placed Move false contour from to e h k l = h
drawn_placed Flash inside contour from to e h k l = h

led_placed : {E : Type 0} (c : Command) (inside : Bool) (contour : Option (Outline E)) (from to : Spot) (e : E) → AllByRecursion IsPlaced (spots_of contour) → IsPlaced from → IsPlaced to → AllByRecursion IsPlaced (spots_of (contour_by c inside contour from to e))
led_placed (operates x y code b) inside contour from to e h k l = drawn_placed (code_of code) inside contour from to e h k l
led_placed opens_region inside contour from to e h k l = tt
led_placed closes_region inside contour from to e h k l = tt
led_placed other inside contour from to e h k l = h

pub contour_placed : (h : List Command) → AllByRecursion IsPlaced (spots_of (contour_before h))
contour_placed [] = tt
contour_placed (c ∷ h) = led_placed c (region_open h) (contour_before h) (point_before h) (point_before (c ∷ h)) tt (contour_placed h) (point_placed h) (point_placed (c ∷ h))

drawn_outside : {E : Type 0} (code : Code) (inside : Bool) (contour : Option (Outline E)) (from to : Spot) (e : E) → inside ≡ false → contour ≡ None → drawn code inside contour from to e ≡ None
drawn_outside Draw true contour from to e o is = cc
drawn_outside Draw false contour from to e o is = is
drawn_outside Move true contour from to e o is = refl
drawn_outside Move false contour from to e o is = is
drawn_outside Flash inside contour from to e o is = is

-- outside a region there is none
pub none_outside : (h : List Command) → region_open h ≡ false → contour_before h ≡ None
none_outside [] o = refl
none_outside (operates x y code b ∷ h) o = drawn_outside (code_of code) (region_open h) (contour_before h) (point_before h) (point_before (operates x y code b ∷ h)) tt o (none_outside h o)
none_outside (opens_region ∷ h) o = refl
none_outside (closes_region ∷ h) o = refl
none_outside (other ∷ h) o = none_outside h o

-- ---- Apertures

-- a standard aperture is lawful
abbrev pub IsLawfulTool : Tool → Type 0
IsLawfulTool (standard a) = IsLawful a
IsLawfulTool (composed name parameters unit) = Unit {0}

composed_lawful : (text : List ℕ) (unit : Measure) (m : ℕ × Tool) → composed_in text unit ≡ Some m → IsLawfulTool m.1
composed_lawful text unit m h = by (parameters_in (name_text text)) h
  where
    by : (o : Option (List Fraction)) → option_map (λ parameters. (digits_value 10 (number_digits text), composed (name_of (name_text text)) parameters unit)) o ≡ Some m → IsLawfulTool m.1
    by None e = cc
    by (Some parameters) e =
        let same : ◌≡◌ {A = ℕ × Tool} (digits_value 10 (number_digits text), composed (name_of (name_text text)) parameters unit) m = cc in
        subst (λ (t : ℕ × Tool). IsLawfulTool t.1) same tt

tool_lawful : (text : List ℕ) (unit : Measure) (m : ℕ × Tool) → tool_in aperture_at text unit ≡ Some m → IsLawfulTool m.1
tool_lawful text unit m h = by (aperture_at text unit) refl h
  where
    by : (r : Result (ℕ × Aperture) ApertureFault) → aperture_at text unit ≡ r → tool_by r (composed_in text unit) ≡ Some m → IsLawfulTool m.1
    by (Ok made) e h =
        let same : ◌≡◌ {A = ℕ × Tool} (made.0, standard made.1) m = cc in
        subst (λ (t : ℕ × Tool). IsLawfulTool t.1) same (aperture_lawful text unit made e)
    by (Err aperture.Macro) e h = composed_lawful text unit m h
    by (Err aperture.BadText) e h = cc
    by (Err aperture.Hole) e h = cc
    by (Err aperture.Polygon) e h = cc
    by (Err aperture.OffGrid) e h = cc
    by (Err aperture.OutOfRange) e h = cc
    by (Err aperture.Number) e h = cc

numbered : (n : ℕ) (o : Option (ℕ × Tool)) (a : Tool) → ((m : ℕ × Tool) → o ≡ Some m → IsLawfulTool m.1) → as_number n o ≡ Some a → IsLawfulTool a
numbered n None a lawful h = cc
numbered n (Some m) a lawful h = by (eqb m.0 n) h
  where
    by : (b : Bool) → cond b (Some m.1) None ≡ Some a → IsLawfulTool a
    by true e = let same : m.1 ≡ a = cc in subst IsLawfulTool same (lawful m refl)
    by false e = cc

definition_lawful : (c : Command) (unit : Option Measure) (n : ℕ) (a : Tool) → definition_in c unit n ≡ Some a → IsLawfulTool a
definition_lawful (defines text) (Some unit) n a h = numbered n (tool_in aperture_at text unit) a (tool_lawful text unit) h
definition_lawful (defines text) None n a h = cc
definition_lawful other unit n a h = absurd (cc)

either_lawful : (o other : Option Tool) (a : Tool) → ((b : Tool) → o ≡ Some b → IsLawfulTool b) → ((b : Tool) → other ≡ Some b → IsLawfulTool b) → option_or o other ≡ Some a → IsLawfulTool a
either_lawful (Some b) other a f g h = f a h
either_lawful None other a f g h = g a h

-- each aperture that is defined is lawful
pub tools_lawful : (h : List Command) (n : ℕ) (a : Tool) → defined_before h n ≡ Some a → IsLawfulTool a
tools_lawful [] n a e = cc
tools_lawful (c ∷ h) n a e = either_lawful (definition_in c (unit_before h) n) (defined_before h n) a (definition_lawful c (unit_before h) n) (tools_lawful h n) e

-- ---- Macros

-- each primitive of a body has a form of lawful size
abbrev pub AreSized : List PlainPrimitive → Type 0
AreSized body = AllByRecursion (λ p. IsSized p.form) body

-- and so it is for each macro
abbrev pub HaveSizes : Macros → Type 0
HaveSizes m = (name : List ℕ) (body : List PlainPrimitive) → macro_named m name ≡ Some body → AreSized body

begun_sized : (m : Macros) (first : List ℕ) → HaveSizes m → HaveSizes (begun m first)
begun_sized m first sized name body e = by (is_word first name) e
  where
    by : (b : Bool) → cond b (Some []) (macro_named m name) ≡ Some body → AreSized body
    by true e = let same : [] ≡ body = cc in subst AreSized same tt
    by false e = sized name body e

more_sized : (p : PlainPrimitive) (body : List PlainPrimitive) → IsSized p.form → AreSized body → AreSized (body ++ p ∷ [])
more_sized p [] s h = (s, tt)
more_sized p (q ∷ body) s h = (h.0, more_sized p body s h.1)

filled_sized : (m : Macros) (p : PlainPrimitive) → IsSized p.form → HaveSizes m → HaveSizes (filled_up m p)
filled_sized m p s sized name body e = by m.latest (sized name) e
  where
    by : (o : Option Macro) → ((b : List PlainPrimitive) → latest_or o (m.others name) name ≡ Some b → AreSized b) → latest_or (option_map (longer p) o) (m.others name) name ≡ Some body → AreSized body
    by None h e = h body e
    by (Some last) h e = named (is_word last.name name) h e
      where
        named : (b : Bool) → ((b' : List PlainPrimitive) → cond b (Some last.body) (m.others name) ≡ Some b' → AreSized b') → cond b (Some (last.body ++ p ∷ [])) (m.others name) ≡ Some body → AreSized body
        named true h e = let same : last.body ++ p ∷ [] ≡ body = cc in subst AreSized same (more_sized p last.body s (h last.body refl))
        named false h e = h body e

body_sized : (m : Macros) (text : List ℕ) → HaveSizes m → HaveSizes (with_body m (primitive_at Exact text))
body_sized m text sized = by (primitive_at Exact text) refl
  where
    by : (r : Result (Option PlainPrimitive) MacroFault) → primitive_at Exact text ≡ r → HaveSizes (with_body m r)
    by (Ok (Some p)) e = filled_sized m p (read_sized Exact text p e) sized
    by (Ok None) e = sized
    by (Err fault) e = sized

macros_kept : (c : Command) (m : Macros) → HaveSizes m → HaveSizes (macros_by c m)
macros_kept (names_macro name) m sized = begun_sized m name sized
macros_kept (body_word text) m sized = body_sized m text sized
macros_kept other m sized = sized

pub macros_sized : (h : List Command) → HaveSizes (macros_before h)
macros_sized [] = λ name body e. absurd (let none : None ≡ Some body = e in cc)
macros_sized (c ∷ h) = macros_kept c (macros_before h) (macros_sized h)
