-- What an effect says of its line.
use Rattle.std.proofs.Common.{◌≡◌, ℕ, Bool, true, false, cond, List, Option, Some, None, Result, Ok, Err, refl, sym, ap}
use Rattle.std.specs.Prelude.{nat_le}
use Rattle.planar.specs.declared.Spot.{Spot}
use Rattle.lengths.specs.declared.decimal.Unit.{Unit as Measure}
use Rattle.ipc356_records.specs.declared.line.Coordinate.{Coordinate}
use Rattle.ipc356_records.specs.declared.kind.RecordKind.{RecordKind}
use Rattle.ipc356_records.specs.declared.kind.RecordKind.TheVariants as kind
use Rattle.ipc356_records.specs.Line.{TestFields}
use Rattle.ipc356_records.specs.RecordEffects.{Known, Effect, adds, ◌>>=◌, needed, within, placed, test_record}
use Rattle.ipc356_records.specs.declared.TheConstants.{MOST_RECORDS}

pub bind_ok : {A B : Type 0} (r : Result A RecordKind) (f : A → Result B RecordKind) (y : B) → (r >>= f) ≡ Ok y → (x : A) × (r ≡ Ok x) × (f x ≡ Ok y)
bind_ok (Ok x) f y h = (x, refl, h)
bind_ok (Err e) f y h = cc

pub past_test : {A : Type 0} (b : Bool) (e : RecordKind) (r : Result A RecordKind) (y : A) → cond b (Err e) r ≡ Ok y → (b ≡ false) × (r ≡ Ok y)
past_test true e r y h = cc
past_test false e r y h = (refl, h)

pub got : {A : Type 0} (why : RecordKind) (o : Option A) (x : A) → needed why o ≡ Ok x → o ≡ Some x
got why None x h = cc
got why (Some z) x h = let e : z ≡ x = cc in ap Some e

ok_is : {A : Type 0} (x y : A) → ◌≡◌ {A = Result A RecordKind} (Ok x) (Ok y) → y ≡ x
ok_is x y h = let same : x ≡ y = cc in sym same

pub within_some : (layers : ℕ) (access : Option ℕ) (n : ℕ) → within layers access ≡ Some n → nat_le n layers ≡ true
within_some layers None n h = cc
within_some layers (Some m) n h = by (nat_le m layers) refl h
  where
    by : (b : Bool) → nat_le m layers ≡ b → cond b (Some m) None ≡ Some n → nat_le n layers ≡ true
    by true e h = let same : m ≡ n = cc in rw (← same) e
    by false e h = cc

-- a test record without a fault
pub record Tested (k : Known) (f : TestFields) (e : Effect) : Type 0 where
  pub unit : Measure
  pub name : List ℕ
  pub access : ℕ
  pub x : Coordinate
  pub y : Coordinate
  pub at : Spot
  pub unit_is : k.unit ≡ Some unit
  pub name_is : f.name ≡ Some name
  pub access_in : nat_le access k.layers ≡ true
  pub x_is : placed unit x ≡ Ok at.x
  pub y_is : placed unit y ≡ Ok at.y
  pub room : nat_le MOST_RECORDS k.records ≡ false
  pub is : e ≡ adds name access at

pub tested : (k : Known) (f : TestFields) (e : Effect) → test_record k f ≡ Ok e → Tested k f e
unfolding test_record
tested k f e h =
    let u = bind_ok (needed kind.MissingUnits k.unit) _ e h in
    let n = bind_ok (needed kind.BadName f.name) _ e u.2 in
    let a = bind_ok (needed kind.BadAccess (within k.layers f.access)) _ e n.2 in
    let x = bind_ok (needed kind.BadNumber f.x) _ e a.2 in
    let y = bind_ok (needed kind.BadNumber f.y) _ e x.2 in
    let p = bind_ok (placed u.0 x.0) _ e y.2 in
    let q = bind_ok (placed u.0 y.0) _ e p.2 in
    let r = past_test (nat_le MOST_RECORDS k.records) kind.TooManyRecords _ e q.2 in
    record {
      unit = u.0;
      name = n.0;
      access = a.0;
      x = x.0;
      y = y.0;
      at = record { x = p.0; y = q.0 };
      unit_is = got kind.MissingUnits k.unit u.0 u.1;
      name_is = got kind.BadName f.name n.0 n.1;
      access_in = within_some k.layers f.access a.0 (got kind.BadAccess (within k.layers f.access) a.0 a.1);
      x_is = p.1;
      y_is = q.1;
      room = r.0;
      is = ok_is _ e r.1;
    }
