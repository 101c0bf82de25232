-- What an effect says of its line.
use Rattle.std.proofs.Common.{◌≡◌, ℕ, Bool, true, false, not, ◌||◌, cond, nat_le, ℤ, Option, Some, None, is_some, is_none, Result, Ok, Err, refl, sym, ap, ◌∙◌, subst}
use Rattle.planar.specs.declared.Spot.{Spot}
use Rattle.lengths.specs.Decimal.{Fraction, other_unit}
use Rattle.lengths.specs.declared.decimal.Unit.{Unit as Measure}
use Rattle.board_shapes.specs.Plain.{round}
use Rattle.xnc.specs.declared.TheConstants.{MOST_TOOLS}
use Rattle.xnc.specs.declared.kind.DrillKind.{DrillKind}
use Rattle.xnc.specs.declared.kind.DrillKind.TheVariants as kind
use Rattle.xnc.specs.declared.line.Coordinates.{Coordinates}
use Rattle.xnc.specs.declared.line.DrillLine.{DrillLine}
use Rattle.xnc.specs.declared.line.DrillLine.TheVariants as form
use Rattle.xnc.specs.declared.settings.Stage.{Stage}
use Rattle.xnc.specs.declared.settings.Stage.TheVariants.{Opening, Header, Body, Ended}
use Rattle.xnc.specs.DrillEffects.{Known, Effect, stays, makes, moves, drills, ◌>>=◌, unless, needed, is_drilling, is_start, is_ended, diameter_of, define, coordinate, target, diameter, half, barrel, rout, straight, hit, slot, header, body, staged, effect, gone}

pub bind_ok : {A B : Type 0} (r : Result A DrillKind) (f : A → Result B DrillKind) (y : B) → (r >>= f) ≡ Ok y → (x : A) × (r ≡ Ok x) × (f x ≡ Ok y)
bind_ok (Ok x) f y h = (x, refl, h)
bind_ok (Err e) f y h = cc

pub past_test : {A : Type 0} (b : Bool) (e : DrillKind) (r : Result A DrillKind) (y : A) → cond b (Err e) r ≡ Ok y → r ≡ Ok y
past_test true e r y h = cc
past_test false e r y h = h

pub got : {A : Type 0} (why : DrillKind) (o : Option A) (x : A) → needed why o ≡ Ok x → o ≡ Some x
got why None x h = cc
got why (Some z) x h = let e : z ≡ x = cc in ap Some e

-- it defines no tool
abbrev pub IsPlain : Effect → Type 0
IsPlain stays = Unit {0}
IsPlain (moves to) = Unit {0}
IsPlain (drills to figure) = Unit {0}
IsPlain (makes n d) = ⊥

-- where a place led
pub record Leads (unit : Option Measure) (here : Spot) (c : Coordinates) (to : Spot) : Type 0 where
  pub measure : Measure
  pub unit_is : unit ≡ Some measure
  pub x_is : coordinate measure here.x c.x ≡ Ok to.x
  pub y_is : coordinate measure here.y c.y ≡ Ok to.y

at_x : (x y : ℤ) (to : Spot) → ◌≡◌ {A = Result Spot DrillKind} (Ok (record { x = x; y = y })) (Ok to) → ◌≡◌ {A = Result ℤ DrillKind} (Ok x) (Ok to.x)
at_x x y to h = let e : ◌≡◌ {A = Spot} (record { x = x; y = y }) to = cc in ap (λ (s : Spot). Ok s.x) e

at_y : (x y : ℤ) (to : Spot) → ◌≡◌ {A = Result Spot DrillKind} (Ok (record { x = x; y = y })) (Ok to) → ◌≡◌ {A = Result ℤ DrillKind} (Ok y) (Ok to.y)
at_y x y to h = let e : ◌≡◌ {A = Spot} (record { x = x; y = y }) to = cc in ap (λ (s : Spot). Ok s.y) e

pub target_led : (unit : Option Measure) (here : Spot) (c : Coordinates) (to : Spot) → target unit here c ≡ Ok to → Leads unit here c to
unfolding target
target_led unit here c to h =
    let u = bind_ok (needed kind.MissingUnit unit) (λ unit. coordinate unit here.x c.x >>= λ x. coordinate unit here.y c.y >>= λ y. Ok (record { x = x; y = y })) to h in
    let a = bind_ok (coordinate u.0 here.x c.x) (λ x. coordinate u.0 here.y c.y >>= λ y. Ok (record { x = x; y = y })) to u.2 in
    let b = bind_ok (coordinate u.0 here.y c.y) (λ y. Ok (record { x = a.0; y = y })) to a.2 in
    record {
      measure = u.0;
      unit_is = got kind.MissingUnit unit u.0 u.1;
      x_is = a.1 ∙ at_x a.0 b.0 to b.2;
      y_is = b.1 ∙ at_y a.0 b.0 to b.2;
    }

-- it goes to a spot and makes a barrel, or goes there alone
pub record Goes (e : Effect) (to : Spot) : Type 0 where
  pub plain : IsPlain e
  pub there : (here : Spot) → gone here e ≡ to

goes_by : (e made : Effect) (to : Spot) → made ≡ e → IsPlain made → ((here : Spot) → gone here made ≡ to) → Goes e to
goes_by e made to same plain there = record { plain = subst IsPlain same plain; there = λ here. ap (gone here) (sym same) ∙ there here }

barrel_goes : (k : Known) (from to : Spot) (e : Effect) → barrel k from to ≡ Ok e → Goes e to
unfolding barrel
barrel_goes k from to e h =
    let made = past_test (nat_le k.room k.pieces) kind.TooManyPieces (Ok (drills to (round (record { a = from; b = to; r = half (diameter k) })))) e h in
    let same : drills to (round (record { a = from; b = to; r = half (diameter k) })) ≡ e = cc in
    goes_by e (drills to (round (record { a = from; b = to; r = half (diameter k) }))) to same tt (λ here. refl)

-- a place that was gone to
pub record Went (k : Known) (c : Coordinates) (e : Effect) : Type 0 where
  pub to : Spot
  pub leads : Leads k.settings.unit k.settings.at c to
  pub goes : Goes e to

-- two places, one after the other
pub record Crossed (k : Known) (from to : Coordinates) (e : Effect) : Type 0 where
  pub first : Spot
  pub last : Spot
  pub starts : Leads k.settings.unit k.settings.at from first
  pub leads : Leads k.settings.unit first to last
  pub goes : Goes e last

rout_went : (k : Known) (c : Coordinates) (e : Effect) → rout k c ≡ Ok e → Went k c e
unfolding rout
rout_went k c e h =
    let t = bind_ok (target k.settings.unit k.settings.at c) (λ to. Ok (moves to)) e h in
    let made : ◌≡◌ {A = Result Effect DrillKind} (Ok (moves t.0)) (Ok e) = t.2 in
    let same : moves t.0 ≡ e = cc in
    record {
      to = t.0;
      leads = target_led k.settings.unit k.settings.at c t.0 t.1;
      goes = goes_by e (moves t.0) t.0 same tt (λ here. refl);
    }

straight_went : (k : Known) (c : Coordinates) (e : Effect) → straight k c ≡ Ok e → Went k c e
unfolding straight
straight_went k c e h =
    let t = bind_ok (target k.settings.unit k.settings.at c) (λ to. barrel k k.settings.at to) e h in
    record { to = t.0; leads = target_led k.settings.unit k.settings.at c t.0 t.1; goes = barrel_goes k k.settings.at t.0 e t.2 }

hit_went : (k : Known) (c : Coordinates) (e : Effect) → hit k c ≡ Ok e → Went k c e
unfolding hit
hit_went k c e h =
    let t = bind_ok (target k.settings.unit k.settings.at c) (λ at. barrel k at at) e h in
    record { to = t.0; leads = target_led k.settings.unit k.settings.at c t.0 t.1; goes = barrel_goes k t.0 t.0 e t.2 }

slot_crossed : (k : Known) (from to : Coordinates) (e : Effect) → slot k from to ≡ Ok e → Crossed k from to e
unfolding slot
slot_crossed k from to e h =
    let f = bind_ok (target k.settings.unit k.settings.at from) (λ from. target k.settings.unit from to >>= λ to. barrel k from to) e h in
    let t = bind_ok (target k.settings.unit f.0 to) (λ to. barrel k f.0 to) e f.2 in
    record {
      first = f.0;
      last = t.0;
      starts = target_led k.settings.unit k.settings.at from f.0 f.1;
      leads = target_led k.settings.unit f.0 to t.0 t.1;
      goes = barrel_goes k f.0 t.0 e t.2;
    }

-- what a definition did
pub record Defined (k : Known) (n : ℕ) (d : Fraction) (e : Effect) : Type 0 where
  pub size : ℕ
  pub size_is : diameter_of k.settings.unit d ≡ Ok size
  pub is : e ≡ makes n size

define_did : (k : Known) (n : ℕ) (d : Fraction) (e : Effect) → define k n d ≡ Ok e → Defined k n d e
unfolding define
define_did k n d e h =
    let s = bind_ok (diameter_of k.settings.unit d) (λ size. unless (is_some (k.defined n)) kind.ToolTwice (unless (nat_le MOST_TOOLS k.tools) kind.TooManyTools (Ok (makes n size)))) e h in
    let one = past_test (is_some (k.defined n)) kind.ToolTwice (unless (nat_le MOST_TOOLS k.tools) kind.TooManyTools (Ok (makes n s.0))) e s.2 in
    let two = past_test (nat_le MOST_TOOLS k.tools) kind.TooManyTools (Ok (makes n s.0)) e one in
    let same : makes n s.0 ≡ e = cc in
    record { size = s.0; size_is = s.1; is = sym same }

-- what the effect of each line is
abbrev pub Outcome : Known → DrillLine → Effect → Type 0
Outcome k (form.Tool n d) e = Defined k n d e
Outcome k (form.Rout to) e = Went k to e
Outcome k (form.Straight to) e = Went k to e
Outcome k (form.Hit at) e = Went k at e
Outcome k (form.Slot from to) e = Crossed k from to e
Outcome k other e = e ≡ stays

ok_stays : (e : Effect) → ◌≡◌ {A = Result Effect DrillKind} (Ok stays) (Ok e) → e ≡ stays
ok_stays e h = let f : stays ≡ e = cc in sym f

pub no_ok : {A : Type 0} (why : DrillKind) (y : A) → ◌≡◌ {A = Result A DrillKind} (Err why) (Ok y) → ⊥
no_ok why y h = cc

-- by where the line stands: what follows from its row in the header, and from its row in the body
pub placed : (P : Type 0) (s : Stage) (k : Known) (f : DrillLine) (e : Effect) → (is_start f ≡ true → e ≡ stays → P) → (header k f ≡ Ok e → P) → (body k f ≡ Ok e → P) → staged s k f ≡ Ok e → P
unfolding staged
placed P Opening k f e start in_header in_body h = by (is_start f) refl h
  where
    by : (b : Bool) → is_start f ≡ b → cond (not b) (Err kind.NoHeader) (Ok stays) ≡ Ok e → P
    by true s h = start s (ok_stays e h)
    by false s h = absurd (no_ok kind.NoHeader e h)
placed P Header k f e start in_header in_body h = in_header h
placed P Body k f e start in_header in_body h = in_body h
placed P Ended k f e start in_header in_body h = absurd (no_ok kind.AfterEnd e h)

pub outcome : (k : Known) (f : DrillLine) (e : Effect) → effect k f ≡ Ok e → Outcome k f e
unfolding effect header body
outcome k form.Blank e h = ok_stays e h
outcome k (form.Misfit why) e h = absurd (no_ok why e h)
outcome k form.Finish e h = ok_stays e (past_test (not (is_ended k.settings.stage)) kind.NotEnded (Ok stays) e h)
outcome k form.Start e h = placed (e ≡ stays) k.settings.stage k form.Start e (λ s t. t) (λ t. absurd (no_ok kind.BadLine e t)) (λ t. absurd (no_ok kind.BadLine e t)) h
outcome k form.Format e h = placed (e ≡ stays) k.settings.stage k form.Format e (λ s t. t) (ok_stays e) (λ t. absurd (no_ok kind.BadLine e t)) h
outcome k form.Absolute e h = placed (e ≡ stays) k.settings.stage k form.Absolute e (λ s t. t) (ok_stays e) (ok_stays e) h
outcome k (form.Unit unit) e h = placed (e ≡ stays) k.settings.stage k (form.Unit unit) e (λ s t. t) (λ t. ok_stays e (past_test (other_unit k.settings.unit unit) kind.BadLine (Ok stays) e t)) (λ t. absurd (no_ok kind.BadLine e t)) h
outcome k (form.Tool n d) e h = placed (Defined k n d e) k.settings.stage k (form.Tool n d) e (λ s t. cc) (define_did k n d e) (λ t. absurd (no_ok kind.BadLine e t)) h
outcome k form.HeaderEnd e h = placed (e ≡ stays) k.settings.stage k form.HeaderEnd e (λ s t. t) (ok_stays e) (λ t. absurd (no_ok kind.BadLine e t)) h
outcome k form.Arc e h = placed (e ≡ stays) k.settings.stage k form.Arc e (λ s t. t) (λ t. absurd (no_ok kind.BadLine e t)) (λ t. absurd (no_ok kind.ArcRout e t)) h
outcome k form.NoTool e h = placed (e ≡ stays) k.settings.stage k form.NoTool e (λ s t. t) (λ t. absurd (no_ok kind.BadLine e t)) (λ t. ok_stays e (past_test k.settings.down kind.WrongMode (Ok stays) e t)) h
outcome k (form.Select n) e h = placed (e ≡ stays) k.settings.stage k (form.Select n) e (λ s t. t) (λ t. absurd (no_ok kind.BadLine e t)) (λ t. ok_stays e (past_test (is_none (k.defined n)) kind.NoTool (Ok stays) e (past_test k.settings.down kind.WrongMode (unless (is_none (k.defined n)) kind.NoTool (Ok stays)) e t))) h
outcome k form.Drill e h = placed (e ≡ stays) k.settings.stage k form.Drill e (λ s t. t) (λ t. absurd (no_ok kind.BadLine e t)) (λ t. ok_stays e (past_test k.settings.down kind.WrongMode (Ok stays) e t)) h
outcome k (form.Rout to) e h = placed (Went k to e) k.settings.stage k (form.Rout to) e (λ s t. cc) (λ t. absurd (no_ok kind.BadLine e t)) (λ t. rout_went k to e (past_test k.settings.down kind.WrongMode (rout k to) e t)) h
outcome k form.Lower e h = placed (e ≡ stays) k.settings.stage k form.Lower e (λ s t. t) (λ t. absurd (no_ok kind.BadLine e t)) (λ t. ok_stays e (past_test (is_none (diameter k)) kind.NoTool (Ok stays) e (past_test (is_drilling k.settings.mode || k.settings.down) kind.WrongMode (unless (is_none (diameter k)) kind.NoTool (Ok stays)) e t))) h
outcome k form.Raise e h = placed (e ≡ stays) k.settings.stage k form.Raise e (λ s t. t) (λ t. absurd (no_ok kind.BadLine e t)) (λ t. ok_stays e (past_test (not k.settings.down) kind.WrongMode (Ok stays) e t)) h
outcome k (form.Straight to) e h = placed (Went k to e) k.settings.stage k (form.Straight to) e (λ s t. cc) (λ t. absurd (no_ok kind.BadLine e t)) (λ t. straight_went k to e (past_test (not k.settings.down) kind.WrongMode (straight k to) e t)) h
outcome k (form.Hit at) e h = placed (Went k at e) k.settings.stage k (form.Hit at) e (λ s t. cc) (λ t. absurd (no_ok kind.BadLine e t)) (λ t. hit_went k at e (past_test (is_none (diameter k)) kind.NoTool (hit k at) e (past_test (not (is_drilling k.settings.mode)) kind.WrongMode (unless (is_none (diameter k)) kind.NoTool (hit k at)) e t))) h
outcome k (form.Slot from to) e h = placed (Crossed k from to e) k.settings.stage k (form.Slot from to) e (λ s t. cc) (λ t. absurd (no_ok kind.BadLine e t)) (λ t. slot_crossed k from to e (past_test (is_none (diameter k)) kind.NoTool (slot k from to) e (past_test (not (is_drilling k.settings.mode)) kind.WrongMode (unless (is_none (diameter k)) kind.NoTool (slot k from to)) e t))) h
outcome k form.End e h = placed (e ≡ stays) k.settings.stage k form.End e (λ s t. t) (λ t. absurd (no_ok kind.BadLine e t)) (λ t. ok_stays e (past_test k.settings.down kind.WrongMode (Ok stays) e t)) h
outcome k form.Unknown e h = placed (e ≡ stays) k.settings.stage k form.Unknown e (λ s t. t) (λ t. absurd (no_ok kind.BadLine e t)) (λ t. absurd (no_ok kind.BadLine e t)) h
