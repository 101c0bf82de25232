-- What both tables of commands say: that of the standard apertures, and that of files with macros.
use Rattle.std.proofs.Common.{◌≡◌, ◌≤◌, Bool, true, false, cond, length, Ok, Err, refl, sym, ap, ◌∙◌, subst}
use Rattle.std.proofs.lemmas.Bool.{ltb-false}
use Rattle.std.specs.Prelude.{nat_lt}
use Rattle.gerber_reading.specs.Command.{Command, repeats, opens_region, closes_region, operates, ends}
use Rattle.gerber_reading.specs.declared.kind.GerberKind.TheVariants as kind
use Rattle.gerber_layer.specs.declared.macro_kind.FlattenKind.TheVariants.{Gerber, TooManyRadii}
use Rattle.gerber_layer.specs.Radii.{radii_of}
use Rattle.gerber_layer.specs.CommandEffects.{Known, Effect, ◌>>=◌, concludes, row, effect}
use Rattle.gerber_layer.specs.MacroTable.{effect_with_macros, few_radii, gerber, macro_row, row_with_macros}
use Rattle.gerber_layer.proofs.Outcome.{Outcome, bind_ok, outcome, past_test}
use Rattle.gerber_layer.proofs.MacroOutcome.{outcome_with_macros, gerber_ok}
use Rattle.gerber_reading.specs.declared.TheConstants.{MOST_APERTURES}
use Rattle.macro_flatten.proofs.Exact.{Table}
use Rattle.gerber_layer.specs.CommandEffects.{exact_meaning}

-- the commands that make pieces or change the contour: both tables have one row for each
abbrev pub IsShared : Command → Type 0
IsShared (operates x y code b) = Unit {0}
IsShared opens_region = Unit {0}
IsShared closes_region = Unit {0}
IsShared (repeats text) = Unit {0}
IsShared ends = Unit {0}
IsShared other = ⊥

-- what the proofs want of a table
pub record HasRows {W : Type 0} (f : Table W) : Type 0 where
  pub says : (k : Known) (c : Command) (e : Effect) → f k c ≡ Ok e → Outcome exact_meaning k c e
  pub shares : (k : Known) (c : Command) (e : Effect) → IsShared c → f k c ≡ Ok e → row k c ≡ Ok e

-- ---- The standard apertures

shared : (k : Known) (c : Command) (e : Effect) → IsShared c → effect k c ≡ Ok e → row k c ≡ Ok e
unfolding effect
shared k (operates x y code b) e s h = past_test k.settings.ended kind.AfterEnd (row k (operates x y code b)) e h
shared k opens_region e s h = past_test k.settings.ended kind.AfterEnd (row k opens_region) e h
shared k closes_region e s h = past_test k.settings.ended kind.AfterEnd (row k closes_region) e h
shared k (repeats text) e s h = past_test k.settings.ended kind.AfterEnd (row k (repeats text)) e h
shared k ends e s h = past_test k.settings.ended kind.AfterEnd (row k ends) e h
shared k other e s h = absurd s

pub standard_rows : HasRows effect
standard_rows = record { says = outcome; shares = shared }

-- ---- Files with macros

-- an end has few radii
abbrev pub HasFewRadii : Effect → Type 0
HasFewRadii (concludes pieces) = length (radii_of pieces) ≤ MOST_APERTURES
HasFewRadii other = Unit {0}

counted : (x e : Effect) → few_radii x ≡ Ok e → (x ≡ e) × HasFewRadii e
counted (concludes pieces) e h = by (nat_lt MOST_APERTURES (length (radii_of pieces))) refl h
  where
    by : (b : Bool) → nat_lt MOST_APERTURES (length (radii_of pieces)) ≡ b → cond b (Err TooManyRadii) (Ok (concludes pieces)) ≡ Ok e → (concludes pieces ≡ e) × HasFewRadii e
    by true many h = cc
    by false few h = let same : concludes pieces ≡ e = cc in (same, subst HasFewRadii same (ltb-false _ _ few))
counted other e h = let same : other ≡ e = cc in (same, subst HasFewRadii same tt)

counted_row : (k : Known) (c : Command) (e : Effect) → (row_with_macros k c >>= few_radii) ≡ Ok e → (row_with_macros k c ≡ Ok e) × HasFewRadii e
counted_row k c e h =
    let f = bind_ok (row_with_macros k c) few_radii e h in
    let g = counted f.0 e f.2 in
    (f.1 ∙ ap (λ (x : Effect). Ok x) g.0, g.1)

both : (k : Known) (c : Command) (e : Effect) → row_with_macros k c ≡ gerber (row k c) → (row_with_macros k c >>= few_radii) ≡ Ok e → (row k c ≡ Ok e) × HasFewRadii e
both k c e is h = let r = counted_row k c e h in (gerber_ok (row k c) e (sym is ∙ r.0), r.1)

-- the row that both have, and few radii
pub shared_by_macros : (k : Known) (c : Command) (e : Effect) → IsShared c → effect_with_macros k c ≡ Ok e → (row k c ≡ Ok e) × HasFewRadii e
unfolding effect_with_macros row_with_macros macro_row
shared_by_macros k (operates x y code b) e s h = both k (operates x y code b) e refl (past_test k.settings.ended (Gerber kind.AfterEnd) (gerber (row k (operates x y code b)) >>= few_radii) e h)
shared_by_macros k opens_region e s h = both k opens_region e refl (past_test k.settings.ended (Gerber kind.AfterEnd) (gerber (row k opens_region) >>= few_radii) e h)
shared_by_macros k closes_region e s h = both k closes_region e refl (past_test k.settings.ended (Gerber kind.AfterEnd) (gerber (row k closes_region) >>= few_radii) e h)
shared_by_macros k (repeats text) e s h = both k (repeats text) e refl (past_test k.settings.ended (Gerber kind.AfterEnd) (gerber (row k (repeats text)) >>= few_radii) e h)
shared_by_macros k ends e s h = both k ends e refl (past_test k.settings.ended (Gerber kind.AfterEnd) (gerber (row k ends) >>= few_radii) e h)
shared_by_macros k other e s h = absurd s

pub macro_rows : HasRows effect_with_macros
macro_rows = record { says = outcome_with_macros; shares = λ k c e s h. (shared_by_macros k c e s h).0 }
