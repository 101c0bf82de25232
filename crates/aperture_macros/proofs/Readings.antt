-- What a body word is read as.
use Rattle.std.proofs.Common.{◌≤◌, ◌≡◌, ℕ, ◌+◌, ◌-◌, ◌/◌, Bool, true, false, not, ◌&&◌, cond, nat_le, List, Option, Some, None, Result, Ok, Err, refl, sym, ap, ◌∙◌, subst, arith, zero, suc}
use Rattle.std.proofs.lemmas.Bool.{leb-true}
use Rattle.std.specs.Option.{option_and_then}
use Rattle.std.specs.Prelude.{IfSome, codes}
use Rattle.lengths.specs.Decimal.{Fraction, is_decimal, fraction}
use Rattle.texts.specs.Words.{begins, is_word}
use Rattle.aperture_macros.specs.Expression.{is_expression}
use Rattle.aperture_macros.specs.declared.TheConstants.{MOST_OUTLINE_EDGES}
use Rattle.aperture_macros.specs.declared.fault.MacroFault.{MacroFault}
use Rattle.aperture_macros.specs.declared.fault.MacroFault.TheVariants.{BadMacro, ExposureOff}
use Rattle.aperture_macros.specs.declared.primitive.Copper.{Copper}
use Rattle.aperture_macros.specs.declared.primitive.Copper.TheVariants.{Exact, Real}
use Rattle.aperture_macros.specs.declared.primitive.Form.{Form}
use Rattle.aperture_macros.specs.declared.primitive.Form.TheVariants.{Circle, Outline, VectorLine, CentreLine, Polygon}
use Rattle.aperture_macros.specs.declared.primitive.Turning.{Turning}
use Rattle.aperture_macros.specs.declared.primitive.Turning.TheVariants.{Degrees}
use Rattle.aperture_macros.specs.BodyWord.{PlainPrimitive, are_lengths, commas, fits, form_at, form_in, form_of, is_number, outline_of, part, past, polygon_of, primitive_at, regular_from, regular_of, rotation_text, row, some_form, turned_at, turning_at}
use Rattle.aperture_macros.specs.Sized.{IsSized}
use Rattle.aperture_macros.proofs.Strokes.{then_ok}

-- what is behind a test that is not met
pub passed : {A : Type 0} (b : Bool) (e : MacroFault) (r : Result A MacroFault) (y : A) → cond b (Err e) r ≡ Ok y → (b ≡ false) × (r ≡ Ok y)
passed true e r y h = cc
passed false e r y h = (refl, h)

either_sized : (b : Bool) (o p : Option Form) → IfSome o IsSized → IfSome p IsSized → IfSome (cond b o p) IsSized
either_sized true o p h k = h
either_sized false o p h k = k

outline_sized : (word : List ℕ) (n : ℕ) → IfSome (outline_of word n) IsSized
unfolding outline_of
outline_sized word n = by (nat_le 3 n) (nat_le n MOST_OUTLINE_EDGES) refl refl
  where
    by : (a b : Bool) → nat_le 3 n ≡ a → nat_le n MOST_OUTLINE_EDGES ≡ b → IfSome (cond (not (a && b)) None (cond (not (is_decimal (part 2 word))) None (cond (is_number (fraction (part 2 word)) n) (Some (Outline n)) None))) IsSized
    by false b low high = tt
    by true false low high = tt
    by true true low high = either_sized (not (is_decimal (part 2 word))) None (cond (is_number (fraction (part 2 word)) n) (Some (Outline n)) None) tt (either_sized (is_number (fraction (part 2 word)) n) (Some (Outline n)) None (leb-true _ _ low, leb-true _ _ high, omega arith, omega arith) tt)

-- the word has the parts of its form
IsFitting : ℕ → Form → Type 0
IsFitting n form = IsSized form × (fits form n ≡ true)

fitting_sized : (n : ℕ) (o : Option Form) → IfSome o IsSized → IfSome (option_and_then (λ form. cond (fits form n) (Some form) None) o) (IsFitting n)
unfolding IsFitting
fitting_sized n None h = tt
fitting_sized n (Some form) h = by (fits form n) refl
  where
    by : (b : Bool) → fits form n ≡ b → IfSome (cond b (Some form) None) (λ g. IsSized g × (fits g n ≡ true))
    by true e = (h, e)
    by false e = tt

regular_sized : (k n : ℕ) (d : Fraction) → 3 ≤ n → n + k ≤ 13 → IfSome (regular_from k n d) IsSized
unfolding regular_from
regular_sized zero n d low high = tt
regular_sized (suc k) n d low high = either_sized (is_number d n) (Some (Polygon n)) (regular_from k (n + 1) d) (omega arith, omega arith, low, omega arith) (regular_sized k (n + 1) d (omega arith) (omega arith))

polygon_sized : (copper : Copper) (word : List ℕ) → IfSome (polygon_of copper word) IsSized
unfolding polygon_of
polygon_sized Exact word = tt
polygon_sized Real word = either_sized (not (is_decimal (part 2 word))) None (regular_of (fraction (part 2 word))) tt (regular_sized 10 3 (fraction (part 2 word)) (omega arith) (omega arith))

form_sized : (copper : Copper) (word : List ℕ) (n : ℕ) → IfSome (form_of copper word n) IsSized
unfolding form_of
form_sized copper word n =
    let code = λ (text : List ℕ). is_word (part 0 word) text in
    let edges = outline_of word ((n - 5) / 2) in
    let regular : Option Form = cond (code (codes "5")) (polygon_of copper word) None in
    let centre : Option Form = cond (code (codes "21")) (Some CentreLine) regular in
    let vector : Option Form = cond (code (codes "20")) (Some VectorLine) centre in
    let outline : Option Form = cond (code (codes "4")) edges vector in
    let fifth = either_sized (code (codes "5")) (polygon_of copper word) None (polygon_sized copper word) tt in
    let fourth = either_sized (code (codes "21")) (Some CentreLine) regular (omega arith, omega arith, omega arith, omega arith) fifth in
    let third = either_sized (code (codes "20")) (Some VectorLine) centre (omega arith, omega arith, omega arith, omega arith) fourth in
    let second = either_sized (code (codes "4")) edges vector (outline_sized word ((n - 5) / 2)) third in
    either_sized (code (codes "1")) (Some Circle) outline (omega arith, omega arith, omega arith, omega arith) second

-- what a primitive that is read is
pub record IsRead (copper : Copper) (word : List ℕ) (p : PlainPrimitive) : Type 0 where
  pub sized : IsSized p.form
  pub fitting : fits p.form (commas word) ≡ true
  pub turning : turning_at copper (fraction (part 1 word)) (rotation_text p.form (commas word) (past (row p.form).head word)) ≡ Ok p.rotation

record IsTurned (copper : Copper) (form : Form) (exposure : Fraction) (rotation : List ℕ) (p : PlainPrimitive) : Type 0 where
  form_is : form ≡ p.form
  turning : turning_at copper exposure rotation ≡ Ok p.rotation

turned_is : (copper : Copper) (form : Form) (exposure : Fraction) (lengths rotation : List ℕ) (p : PlainPrimitive) → turned_at copper form exposure lengths rotation ≡ Ok p → IsTurned copper form exposure rotation p
unfolding turned_at
turned_is copper form exposure lengths rotation p h =
    let a = passed (not (are_lengths form lengths)) BadMacro _ p h in
    let t = then_ok (turning_at copper exposure rotation) (λ turning. Ok (record { form = form; rotation = turning; lengths = lengths })) p a.1 in
    let made : ◌≡◌ {A = Result PlainPrimitive MacroFault} (Ok (record { form = form; rotation = t.0; lengths = lengths })) (Ok p) = t.2 in
    let same : ◌≡◌ {A = PlainPrimitive} (record { form = form; rotation = t.0; lengths = lengths }) p = cc in
    record {
      form_is = ap (λ (q : PlainPrimitive). q.form) same;
      turning = t.1 ∙ ap (λ (q : PlainPrimitive). let r : Result Turning MacroFault = Ok q.rotation in r) same;
    }

form_is : (copper : Copper) (form : Form) (word : List ℕ) (p : PlainPrimitive) → IsSized form → fits form (commas word) ≡ true → form_in copper form (commas word) word ≡ Ok p → IsRead copper word p
unfolding form_in
form_is copper form word p sized fitting h =
    let a = passed (not (is_decimal (part 1 word))) BadMacro _ p h in
    let t = turned_is copper form (fraction (part 1 word)) (past (row form).head word) (rotation_text form (commas word) (past (row form).head word)) p a.1 in
    record {
      sized = subst IsSized t.form_is sized;
      fitting = subst (λ (f : Form). fits f (commas word) ≡ true) t.form_is fitting;
      turning = subst (λ (f : Form). turning_at copper (fraction (part 1 word)) (rotation_text f (commas word) (past (row f).head word)) ≡ Ok p.rotation) t.form_is t.turning;
    }

pub read_is : (copper : Copper) (word : List ℕ) (p : PlainPrimitive) → primitive_at copper word ≡ Ok (Some p) → IsRead copper word p
unfolding primitive_at IsFitting
read_is copper word p h = by (begins word (codes "0")) (form_at copper word (commas word)) (fitting_sized (commas word) (form_of copper word (commas word)) (form_sized copper word (commas word))) h
  where
    by : (b : Bool) (o : Option Form) → IfSome o (λ g. IsSized g × (fits g (commas word) ≡ true)) → cond b (Ok None) (some_form copper o (commas word) word) ≡ Ok (Some p) → IsRead copper word p
    by true o s h = cc
    by false None s h = cc
    by false (Some form) s h =
        let f = then_ok (form_in copper form (commas word) word) (λ primitive. Ok (Some primitive)) (Some p) h in
        let made : ◌≡◌ {A = Result (Option PlainPrimitive) MacroFault} (Ok (Some f.0)) (Ok (Some p)) = f.2 in
        let same : f.0 ≡ p = cc in
        subst (IsRead copper word) same (form_is copper form word f.0 s.0 s.1 f.1)

-- a primitive that is read has a form of lawful size
pub read_sized : (copper : Copper) (word : List ℕ) (p : PlainPrimitive) → primitive_at copper word ≡ Ok (Some p) → IsSized p.form
read_sized copper word p h = let r = read_is copper word p h in r.sized

by_degrees : (exposure : Fraction) (rotation : List ℕ) (turning : Turning) → turning_at Real exposure rotation ≡ Ok turning → turning ≡ Degrees
unfolding turning_at
by_degrees exposure rotation turning h =
    let one = passed (not (is_expression rotation)) BadMacro _ turning h in
    let two = passed (not (is_number exposure 1)) ExposureOff _ turning one.1 in
    let made : ◌≡◌ {A = Result Turning MacroFault} (Ok Degrees) (Ok turning) = two.1 in
    let same : Degrees ≡ turning = cc in
    sym same

-- in real copper all is turned by degrees
pub real_turning : (word : List ℕ) (p : PlainPrimitive) → primitive_at Real word ≡ Ok (Some p) → p.rotation ≡ Degrees
real_turning word p h = let r = read_is Real word p h in by_degrees _ _ p.rotation r.turning
