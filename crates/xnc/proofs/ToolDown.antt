-- Where the tool is down, a tool is selected.
use Rattle.std.proofs.Common.{◌≡◌, ℕ, Bool, true, false, ◌||◌, cond, List, [], ◌∷◌, Option, Some, None, is_some, is_none, option_and_then, Result, Ok, Err, IsOk, refl}
use Rattle.xnc.specs.declared.kind.DrillKind.{DrillKind}
use Rattle.xnc.specs.declared.kind.DrillKind.TheVariants as kind
use Rattle.xnc.specs.declared.line.DrillLine.{DrillLine}
use Rattle.xnc.specs.declared.line.DrillLine.TheVariants as form
use Rattle.xnc.specs.Places.{Place}
use Rattle.xnc.specs.DrillEffects.{Known, Effect, stays, unless, is_drilling, diameter, header, body, effect}
use Rattle.std.specs.Option.{option_or}
use Rattle.xnc.specs.Settings.{down_at, tool_at, defined_at, known_at}
use Rattle.xnc.specs.Laws.{HasTool}
use Rattle.xnc.proofs.Outcome.{no_ok, past_test, placed}

-- the effect of a line without a fault
done : (k : Known) (f : DrillLine) → IsOk (effect k f) → (e : Effect) × (effect k f ≡ Ok e)
done k f h = by (effect k f) refl h
  where
    by : (r : Result Effect DrillKind) → effect k f ≡ r → IsOk r → (e : Effect) × (effect k f ≡ Ok e)
    by (Ok e) is h = (e, is)
    by (Err why) is h = cc

passed : {A : Type 0} (b : Bool) (why : DrillKind) (r : Result A DrillKind) (y : A) → cond b (Err why) r ≡ Ok y → b ≡ false
passed true why r y h = cc
passed false why r y h = refl

is_there : (o : Option ℕ) → is_none o ≡ false → is_some o ≡ true
is_there None h = cc
is_there (Some d) h = refl

-- `M15` asks for a tool
lower_has : (k : Known) (e : Effect) → effect k form.Lower ≡ Ok e → is_some (diameter k) ≡ true
unfolding effect header body
lower_has k e h = placed (is_some (diameter k) ≡ true) k.settings.stage k form.Lower e (λ s t. cc) (λ t. absurd (no_ok kind.BadLine e t)) (λ t. is_there (diameter k) (passed (is_none (diameter k)) kind.NoTool (Ok stays) e (past_test (is_drilling k.settings.mode || k.settings.down) kind.WrongMode (unless (is_none (diameter k)) kind.NoTool (Ok stays)) e t))) h

-- a tool is changed only where it is up
none_up : (k : Known) (e : Effect) → effect k form.NoTool ≡ Ok e → k.settings.down ≡ false
unfolding effect header body
none_up k e h = placed (k.settings.down ≡ false) k.settings.stage k form.NoTool e (λ s t. cc) (λ t. absurd (no_ok kind.BadLine e t)) (λ t. passed k.settings.down kind.WrongMode (Ok stays) e t) h

select_up : (k : Known) (n : ℕ) (e : Effect) → effect k (form.Select n) ≡ Ok e → k.settings.down ≡ false
unfolding effect header body
select_up k n e h = placed (k.settings.down ≡ false) k.settings.stage k (form.Select n) e (λ s t. cc) (λ t. absurd (no_ok kind.BadLine e t)) (λ t. passed k.settings.down kind.WrongMode (unless (is_none (k.defined n)) kind.NoTool (Ok stays)) e t) h

clash : {A : Type 0} (b : Bool) → b ≡ true → b ≡ false → A
clash b h k = cc

-- one more definition takes no tool away
defined_more : (o : Option ℕ) (here more : ℕ → Option ℕ) → is_some (option_and_then here o) ≡ true → is_some (option_and_then (λ n. option_or (more n) (here n)) o) ≡ true
defined_more None here more h = cc
defined_more (Some n) here more h = by (more n) (here n) h
  where
    by : (m o : Option ℕ) → is_some o ≡ true → is_some (option_or m o) ≡ true
    by (Some d) o h = refl
    by None o h = h

pub tool_down : (p : Place) (earlier : List DrillLine) → HasTool p earlier
tool_down p [] clean down = cc
tool_down p (form.Lower ∷ earlier) clean down = let d = done (known_at p earlier) form.Lower clean.0 in lower_has (known_at p earlier) d.0 d.1
tool_down p (form.Raise ∷ earlier) clean down = cc
tool_down p (form.Rout to ∷ earlier) clean down = cc
tool_down p (form.NoTool ∷ earlier) clean down = let d = done (known_at p earlier) form.NoTool clean.0 in clash (down_at earlier) down (none_up (known_at p earlier) d.0 d.1)
tool_down p (form.Select n ∷ earlier) clean down = let d = done (known_at p earlier) (form.Select n) clean.0 in clash (down_at earlier) down (select_up (known_at p earlier) n d.0 d.1)
tool_down p (form.Tool n d ∷ earlier) clean down = defined_more (tool_at earlier) (defined_at earlier) _ (tool_down p earlier clean.1 down)
tool_down p (other ∷ earlier) clean down = tool_down p earlier clean.1 down
