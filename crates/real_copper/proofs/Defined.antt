-- What definitions of apertures and macros come to.
use Rattle.std.proofs.Common.{◌≡◌, ℕ, ◌≤◌, ◌==◌, Bool, true, false, List, length, Option, Some, None, Result, Ok, Err, cond, refl, sym, ap, subst, ◌∙◌}
use Rattle.std.specs.Prelude.{IfSome, is_some}
use Rattle.lengths.specs.declared.decimal.Unit.{Unit as Measure}
use Rattle.std.specs.Str.Parse.{digits_value}
use Rattle.lengths.specs.Decimal.{Fraction}
use Rattle.aperture_macros.specs.BodyWord.{PlainPrimitive}
use Rattle.apertures.specs.Definition.{aperture_at, name_of, name_text, number_digits}
use Rattle.apertures.specs.declared.aperture.Aperture.{Aperture}
use Rattle.apertures.specs.declared.fault.ApertureFault.{ApertureFault}
use Rattle.apertures.specs.declared.fault.ApertureFault.TheVariants as fault
use Rattle.apertures.proofs.Digits.{few_digits}
use Rattle.gerber_reading.specs.Reader.{AllFit, KeepsTools, kept_in, macros_in}
use Rattle.gerber_reading.specs.Tools.{Macros, macro_named, parameters_in}
use Rattle.gerber_reading.specs.declared.dictionary.Dictionary.{Dictionary}
use Rattle.gerber_reading.specs.declared.tool.Tool.{Tool as Given}
use Rattle.gerber_reading.specs.declared.tool.Tool.TheVariants as given
use Rattle.real_copper.specs.Apertures.{real_aperture_at, real_by}
use Rattle.real_copper.specs.Rows.{RealKnown}
use Rattle.real_copper.specs.Table.{compose, compose_as, fits}
use Rattle.real_copper.specs.declared.aperture.RealAperture.{RealAperture}

-- ---- The number of an aperture of a macro has at most nine digits

-- the number of the word was read
abbrev is_numbered : Result (ℕ × Aperture) ApertureFault → Bool
is_numbered (Err fault.BadText) = false
is_numbered (Err fault.Number) = false
is_numbered other = true

numbered : (word : List ℕ) (unit : Measure) (r : Result (ℕ × Aperture) ApertureFault) → real_by word unit r ≡ Err fault.Macro → is_numbered r ≡ true
numbered word unit (Ok made) h = refl
numbered word unit (Err fault.BadText) h = absurd cc
numbered word unit (Err fault.Number) h = absurd cc
numbered word unit (Err fault.Hole) h = refl
numbered word unit (Err fault.Polygon) h = refl
numbered word unit (Err fault.Macro) h = refl
numbered word unit (Err fault.OffGrid) h = refl
numbered word unit (Err fault.OutOfRange) h = refl

pub macro_short : (word : List ℕ) (unit : Measure) → real_aperture_at word unit ≡ Err fault.Macro → length (number_digits word) ≤ 9
macro_short word unit h = few_digits is_numbered refl refl word unit (numbered word unit (aperture_at word unit) h)

-- what an aperture of a macro comes to where the macro and the parameters are there
pub compose_is : (k : RealKnown) (text word name : List ℕ) (unit : Measure) (body : List PlainPrimitive) (parameters : List Fraction) (n : ℕ) → word ≡ name_text text → name ≡ name_of word → Some body ≡ macro_named k.macros name → Some parameters ≡ parameters_in word → n ≡ digits_value 10 (number_digits text) → compose k text unit ≡ compose_as k n name body parameters unit
unfolding compose
compose_is k text word name unit body parameters n a b h p e =
    let there : name ≡ name_of (name_text text) = b ∙ ap name_of a in
    let named : macro_named k.macros (name_of (name_text text)) ≡ Some body = sym (h ∙ ap (macro_named k.macros) there) in
    let read : parameters_in (name_text text) ≡ Some parameters = sym (p ∙ ap parameters_in a) in
    rw (named, read) (ap (λ (m : ℕ). compose_as k m (name_of (name_text text)) body parameters unit) (sym e) ∙ ap (λ (xs : List ℕ). compose_as k n xs body parameters unit) (sym there))

-- ---- What is right of the apertures of a file

pub none_of : {A : Type 0} (o : Option A) → is_some o ≡ false → o ≡ None
none_of None h = refl
none_of (Some x) h = cc

-- what fits with some macros fits with others
fits_alike : (m n : Macros) (tool : Given RealAperture) → fits m tool → fits n tool
fits_alike m n (given.Standard a) h = h
fits_alike m n (given.Composed name parameters unit marks) h = tt

all_alike : (m n : Macros) (o : Option (Given RealAperture)) → IfSome o (fits m) → IfSome o (fits n)
all_alike m n None h = tt
all_alike m n (Some tool) h = fits_alike m n tool h

pub fit_kept : (old new : Dictionary RealAperture) → KeepsTools old new → AllFit fits old → AllFit fits new
fit_kept old new kept h = λ n. subst (λ (o : Option (Given RealAperture)). IfSome o (fits (macros_in new))) (sym (kept n)) (all_alike (macros_in old) (macros_in new) (kept_in old n) (h n))

added_one : (b : Bool) (m : Macros) (tool : Given RealAperture) (old : Option (Given RealAperture)) → fits m tool → IfSome old (fits m) → IfSome (cond b (Some tool) old) (fits m)
added_one true m tool old right h = right
added_one false m tool old right h = h

pub fit_added : (old new : Dictionary RealAperture) (n : ℕ) (tool : Given RealAperture) → ((k : ℕ) → kept_in new k ≡ cond (n == k) (Some tool) (kept_in old k)) → fits (macros_in old) tool → AllFit fits old → AllFit fits new
fit_added old new n tool kept right h = λ k.
    all_alike (macros_in old) (macros_in new) (kept_in new k)
    (subst (λ (o : Option (Given RealAperture)). IfSome o (fits (macros_in old))) (sym (kept k)) (added_one (n == k) (macros_in old) tool (kept_in old k) right (h k)))
