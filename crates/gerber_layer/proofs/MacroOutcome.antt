-- What an effect says of its command where the file may have macros.
use Rattle.std.proofs.Common.{◌≡◌, ℕ, Bool, true, false, cond, nat_le, List, length, Option, Some, None, is_some, Result, Ok, Err, refl, sym, ap, ◌∙◌}
use Rattle.std.specs.Prelude.{nat_lt, option_map}
use Rattle.gerber_layer.specs.Radii.{radii_of}
use Rattle.std.specs.Str.Parse.{digits_value}
use Rattle.lengths.specs.Decimal.{Fraction}
use Rattle.lengths.specs.declared.decimal.Unit.{Unit as Measure}
use Rattle.apertures.specs.declared.aperture.Aperture.{Aperture}
use Rattle.apertures.specs.declared.fault.ApertureFault.{ApertureFault}
use Rattle.apertures.specs.declared.fault.ApertureFault.TheVariants as aperture
use Rattle.apertures.specs.Definition.{aperture_at, name_of}
use Rattle.aperture_macros.specs.BodyWord.{PlainPrimitive, primitive_at}
use Rattle.aperture_macros.specs.declared.fault.MacroFault.{MacroFault}
use Rattle.aperture_macros.specs.declared.primitive.Copper.TheVariants.{Exact}
use Rattle.gerber_reading.specs.Command.{Command, defines, functions, names_macro, body_word}
use Rattle.gerber_reading.specs.declared.TheConstants.{MOST_APERTURES}
use Rattle.gerber_reading.specs.declared.kind.GerberKind.{GerberKind}
use Rattle.gerber_reading.specs.declared.kind.GerberKind.TheVariants as kind
use Rattle.gerber_layer.specs.declared.macro_kind.FlattenKind.{FlattenKind}
use Rattle.gerber_layer.specs.declared.macro_kind.FlattenKind.TheVariants.{Gerber, BadMacro, MacroTwice, NoMacro, TooManyRadii}
use Rattle.gerber_layer.specs.Tools.{Tool, composed, composed_in, has_room, macro_named, name_text, number_digits, parameters_in, tool_by}
use Rattle.gerber_layer.specs.CommandEffects.{Known, Effect, stays, makes, begins_macro, fills_macro, concludes, ◌>>=◌, unless, needed, define, is_finish, row}
use Rattle.gerber_layer.specs.MacroTable.{gerber, as_macro, all_judged, is_reserved, name_macro, fill_by, fill_macro, compose, compose_as, is_of_macro, define_any, few_radii, macro_row, row_with_macros, effect_with_macros}
use Rattle.gerber_layer.proofs.Outcome.{Defined, IsFilled, Outcome, bind_ok, past_test, got, ok_stays, define_did, row_outcome, end_outcome}
use Rattle.gerber_layer.specs.CommandEffects.{exact_meaning}

pub gerber_ok : {A : Type 0} (r : Result A GerberKind) (x : A) → gerber r ≡ Ok x → r ≡ Ok x
gerber_ok (Ok y) x h = let e : y ≡ x = cc in ap Ok e
gerber_ok (Err why) x h = cc

-- a macro that begins
named : (k : Known) (name : List ℕ) (e : Effect) → name_macro k name ≡ Ok e → e ≡ begins_macro name
unfolding name_macro
named k name e h =
    let one = past_test (is_reserved name) BadMacro (unless (is_some (macro_named k.macros name)) MacroTwice (Ok (begins_macro name))) e h in
    let two : ◌≡◌ {A = Result Effect FlattenKind} (Ok (begins_macro name)) (Ok e) = past_test (is_some (macro_named k.macros name)) MacroTwice (Ok (begins_macro name)) e one in
    let same : begins_macro name ≡ e = cc in
    sym same

-- a word of its body
filled : (room : Bool) (r : Result (Option PlainPrimitive) MacroFault) (e : Effect) → fill_by room r ≡ Ok e → IsFilled r e
filled room (Ok None) e h = ok_stays e h
filled true (Ok (Some p)) e h = let same : fills_macro p ≡ e = cc in sym same
filled false (Ok (Some p)) e h = cc
filled true (Err fault) e h = cc
filled false (Err fault) e h = cc

filled_is : (k : Known) (text : List ℕ) (e : Effect) → fill_macro k text ≡ Ok e → IsFilled (primitive_at Exact text) e
unfolding fill_macro
filled_is k text e h = filled (has_room k.macros.latest) (primitive_at Exact text) e h

-- a definition of an aperture by a macro
exactly_of_macro : (r : Result (ℕ × Aperture) ApertureFault) (other : Option (ℕ × Tool)) → is_of_macro r ≡ true → tool_by r other ≡ other
exactly_of_macro (Err aperture.Macro) other h = refl
exactly_of_macro any other h = cc

-- what it makes
record Composed (text : List ℕ) (unit : Measure) (e : Effect) : Type 0 where
  parameters : List Fraction
  read : parameters_in (name_text text) ≡ Some parameters
  is : e ≡ makes (digits_value 10 (number_digits text)) (composed (name_of (name_text text)) parameters unit)

composes : (k : Known) (n : ℕ) (name : List ℕ) (body : List PlainPrimitive) (parameters : List Fraction) (unit : Measure) (e : Effect) → compose_as k n name body parameters unit ≡ Ok e → e ≡ makes n (composed name parameters unit)
unfolding compose_as
composes k n name body parameters unit e h =
    let last : Result Effect FlattenKind = as_macro (all_judged body parameters unit) >>= λ done. Ok (makes n (composed name parameters unit)) in
    let one = past_test (is_some (k.defined n)) (Gerber kind.ApertureTwice) (unless (nat_le MOST_APERTURES k.definitions) (Gerber kind.TooManyApertures) last) e h in
    let two = past_test (nat_le MOST_APERTURES k.definitions) (Gerber kind.TooManyApertures) last e one in
    let d = bind_ok (as_macro (all_judged body parameters unit)) (λ done. Ok (makes n (composed name parameters unit))) e two in
    let done : ◌≡◌ {A = Result Effect FlattenKind} (Ok (makes n (composed name parameters unit))) (Ok e) = d.2 in
    let same : makes n (composed name parameters unit) ≡ e = cc in
    sym same

compose_did : (k : Known) (text : List ℕ) (unit : Measure) (e : Effect) → compose k text unit ≡ Ok e → Composed text unit e
unfolding compose
compose_did k text unit e h =
    let n : ℕ = digits_value 10 (number_digits text) in
    let name : List ℕ = name_of (name_text text) in
    let b = bind_ok (needed NoMacro (macro_named k.macros (name_of (name_text text)))) (λ body. needed BadMacro (parameters_in (name_text text)) >>= λ parameters. compose_as k (digits_value 10 (number_digits text)) (name_of (name_text text)) body parameters unit) e h in
    let p = bind_ok (needed BadMacro (parameters_in (name_text text))) (λ parameters. compose_as k (digits_value 10 (number_digits text)) (name_of (name_text text)) b.0 parameters unit) e b.2 in
    record { parameters = p.0; read = got BadMacro (parameters_in (name_text text)) p.0 p.1; is = composes k n name b.0 p.0 unit e p.2 }

-- what it comes to where the macro and the parameters are there
pub compose_is : (k : Known) (text word name : List ℕ) (unit : Measure) (body : List PlainPrimitive) (parameters : List Fraction) (n : ℕ) → word ≡ name_text text → name ≡ name_of word → Some body ≡ macro_named k.macros name → Some parameters ≡ parameters_in word → n ≡ digits_value 10 (number_digits text) → compose k text unit ≡ compose_as k n name body parameters unit
unfolding compose
compose_is k text word name unit body parameters n a b h p e =
    let there : name ≡ name_of (name_text text) = b ∙ ap name_of a in
    let named : macro_named k.macros (name_of (name_text text)) ≡ Some body = sym (h ∙ ap (macro_named k.macros) there) in
    let read : parameters_in (name_text text) ≡ Some parameters = sym (p ∙ ap parameters_in a) in
    rw (named, read) (ap (λ (m : ℕ). compose_as k m (name_of (name_text text)) body parameters unit) (sym e) ∙ ap (λ (xs : List ℕ). compose_as k n xs body parameters unit) (sym there))

defined_any : (k : Known) (text : List ℕ) (e : Effect) → define_any k text ≡ Ok e → Defined exact_meaning.aperture k text e
unfolding define_any
defined_any k text e h =
    let u = bind_ok (needed (Gerber kind.MissingUnit) k.settings.unit) (λ unit. cond (is_of_macro (aperture_at text unit)) (compose k text unit) (gerber (define k text))) e h in
    by u.0 (got (Gerber kind.MissingUnit) k.settings.unit u.0 u.1) (is_of_macro (aperture_at text u.0)) refl u.2
  where
    by : (unit : Measure) → k.settings.unit ≡ Some unit → (b : Bool) → is_of_macro (aperture_at text unit) ≡ b → cond b (compose k text unit) (gerber (define k text)) ≡ Ok e → Defined exact_meaning.aperture k text e
    by unit is true of h =
        let c = compose_did k text unit e h in
        record {
          unit = unit;
          n = digits_value 10 (number_digits text);
          tool = composed (name_of (name_text text)) c.parameters unit;
          unit_is = is;
          read_is = exactly_of_macro (aperture_at text unit) (composed_in text unit) of ∙ ap (option_map (λ (ps : List Fraction). (digits_value 10 (number_digits text), composed (name_of (name_text text)) ps unit))) c.read;
          is = c.is;
        }
    by unit is false of h = define_did k text e (gerber_ok (define k text) e h)

pub row_did : (k : Known) (c : Command) (e : Effect) → macro_row k c ≡ Ok e → Outcome exact_meaning k c e
unfolding macro_row
row_did k (names_macro name) e h = named k name e h
row_did k (body_word text) e h = filled_is k text e h
row_did k (defines text) e h = defined_any k text e h
row_did k other e h = row_outcome k other e (gerber_ok (row k other) e h)

flat_did : (k : Known) (c : Command) (e : Effect) → row_with_macros k c ≡ Ok e → Outcome exact_meaning k c e
unfolding row_with_macros
flat_did k (functions function layer) e h = ok_stays e h
flat_did k other e h = row_did k other e h

few_same : (x e : Effect) → few_radii x ≡ Ok e → x ≡ e
few_same (concludes pieces) e h = let f : ◌≡◌ {A = Result Effect FlattenKind} (Ok (concludes pieces)) (Ok e) = past_test (nat_lt MOST_APERTURES (length (radii_of pieces))) TooManyRadii (Ok (concludes pieces)) e h in cc
few_same other e h = cc

pub few_ok : (r : Result Effect FlattenKind) (e : Effect) → (r >>= few_radii) ≡ Ok e → r ≡ Ok e
few_ok r e h = let f = bind_ok r few_radii e h in f.1 ∙ ap (λ (x : Effect). Ok x) (few_same f.0 e f.2)

pub outcome_with_macros : (k : Known) (c : Command) (e : Effect) → effect_with_macros k c ≡ Ok e → Outcome exact_meaning k c e
unfolding effect_with_macros
outcome_with_macros k c e h = by k.settings.ended h
  where
    by : (b : Bool) → cond b (cond (is_finish c) (Ok stays) (Err (Gerber kind.AfterEnd))) (row_with_macros k c >>= few_radii) ≡ Ok e → Outcome exact_meaning k c e
    by true h = end_outcome exact_meaning k c e (Gerber kind.AfterEnd) h
    by false h = flat_did k c e (few_ok (row_with_macros k c) e h)
