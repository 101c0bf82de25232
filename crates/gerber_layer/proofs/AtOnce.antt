-- Operations that are obeyed at once.
use Rattle.std.proofs.Common.{◌≡◌, ℕ, Bool, false, not, ◌&&◌, cond, List, Option, Some, None, unwrap_or, is_none, Result, Ok, refl, sym, ap, ◌∙◌}
use Rattle.planar.specs.declared.Spot.{Spot}
use Rattle.gerber_reading.specs.After.{after, heads, opened}
use Rattle.file_reading.specs.LookingBack.{latest}
use Rattle.gerber_reading.specs.Command.{Bending, operates}
use Rattle.gerber_layer.specs.CommandEffects.{Known, Effect, ◌>>=◌, unless, code_of, is_drawing, operate, perform, perform_in_region, target}
use Rattle.gerber_reading.specs.Outcomes.{Goes}
use Rattle.gerber_reading.specs.declared.command.Code.{Code}
use Rattle.gerber_reading.specs.declared.kind.GerberKind.{GerberKind}
use Rattle.gerber_reading.specs.declared.kind.GerberKind.TheVariants as kind
use Rattle.gerber_reading.specs.declared.settings.Settings.{Settings}

-- an operation outside a region, by where it leads
pub operate_is : (k : Known) (x y : Option (List ℕ)) (code : Option Code) (own : Code) (to : Spot) → (is_none code && not (is_drawing k.settings.last)) ≡ false → Ok to ≡ target k.settings x y → k.settings.region ≡ false → own ≡ code_of code → operate k x y code ≡ perform k own to
unfolding operate
operate_is k x y code own to drawn there outside is =
    let run = λ (to : Spot). cond k.settings.region (perform_in_region k (code_of code) to) (perform k (code_of code) to) in
    ap (λ (b : Bool). unless b kind.NoOperation (target k.settings x y >>= run)) drawn
    ∙ ap (λ (r : Result Spot GerberKind). r >>= run) (sym there)
    ∙ ap (λ (b : Bool). cond b (perform_in_region k (code_of code) to) (perform k (code_of code) to)) outside
    ∙ ap (λ (c : Code). perform k c to) (sym is)

-- what is said, and otherwise what was said earlier
pub unwrap_is : {B : Type 0} (o : Option B) (earlier : B) → unwrap_or o earlier ≡ latest o earlier
unwrap_is None earlier = refl
unwrap_is (Some x) earlier = refl

-- the settings behind it
pub settings_are : (mid s : Settings) (x y : Option (List ℕ)) (code : Option Code) (b : Bending) (own : Code) (to : Spot) (e : Effect) → mid ≡ s → own ≡ code_of code → Goes e to → record mid { at = to; last = Some own; curve = latest b.curve mid.curve } ≡ after s (operates x y code b) (heads e) (opened e)
settings_are mid s x y code b own to e same is g =
    ap (λ (t : Settings). let r : Settings = record t { at = to; last = Some own; curve = latest b.curve t.curve } in r) same
    ∙ ap (λ (c : Code). let r : Settings = record s { at = to; last = Some c; curve = latest b.curve s.curve } in r) is
    ∙ sym (ap (λ (f : Effect). after s (operates x y code b) (heads f) (opened f)) g.is)
