-- What a choice and a step before an answer say.
use Rattle.std.proofs.Common.{◌≡◌, Bool, true, false, cond, Result, Ok, Err, refl}
use Rattle.apertures.specs.declared.fault.ApertureFault.{ApertureFault}
use Rattle.apertures.specs.Definition.{◌>>=◌}

pub bind_ok : {A B : Type 0} (r : Result A ApertureFault) (f : A → Result B ApertureFault) (y : B) → (r >>= f) ≡ Ok y → (x : A) × (r ≡ Ok x) × (f x ≡ Ok y)
bind_ok (Ok x) f y h = (x, refl, h)
bind_ok (Err e) f y h = cc

pub past_test : {A : Type 0} (b : Bool) (e : ApertureFault) (r : Result A ApertureFault) (y : A) → cond b (Err e) r ≡ Ok y → r ≡ Ok y
past_test true e r y h = cc
past_test false e r y h = h

pub past_test_too : {A : Type 0} (b : Bool) (e : ApertureFault) (r : Result A ApertureFault) (y : A) → cond b r (Err e) ≡ Ok y → r ≡ Ok y
past_test_too true e r y h = h
past_test_too false e r y h = cc
