-- What is known behind the lines of a written netlist.
use Rattle.std.proofs.Common.{◌≡◌, ℕ, ◌+◌, ◌*◌, ◌%◌, ◌^◌, ◌<◌, ◌≤◌, Bool, true, false, ◌&&◌, eqb, nat_le, nat_lt, List, [], ◌∷◌, ◌++◌, length, map, ℤ, pos, negsuc, unsigned_abs, Option, Some, None, Result, Ok, refl, sym, ap, ◌∙◌, subst, arith, append_assoc, append-nil}
use Rattle.std.proofs.lemmas.Bool.{eqb-true}
use Rattle.std.specs.List.{AllByRecursion}
use Rattle.std.specs.Prelude.{codes, decimal}
use borrow.Author.Tests.{le-leb, leb-true, le-ltb}
use Rattle.planar.specs.declared.Spot.{Spot}
use Rattle.lengths.specs.Decimal.{signed}
use Rattle.lengths.specs.declared.decimal.Unit.TheVariants.{Mm}
use Rattle.board_shapes.specs.declared.probe.Probe.{Probe}
use Rattle.ipc356_records.specs.declared.kind.RecordKind.{RecordKind}
use Rattle.ipc356_records.specs.Line.{RecordLine, unread, units, ends, tests, finishes}
use Rattle.ipc356_records.specs.Names.{index_of, with_name}
use Rattle.file_reading.specs.Reading.{Clean}
use Rattle.ipc356_records.specs.NetlistFile.{effect_at, probes_in, probes_of}
use Rattle.ipc356_records.specs.Settings.{has_ended, known_at, names_of, records_before, unit_before}
use Rattle.ipc356_records.specs.RecordLines.{form_of}
use Rattle.ipc356_records.specs.RecordEffects.{Known, Effect, stays, sets, closes, adds, effect, row, test_record, placed, set_unit, layers_of, probe_at, probes_of_effect}
use Rattle.netlist_writer.specs.TestLine.{in_steps, net_name, sign_of, steps_of}
use Rattle.netlist_writer.specs.WrittenNetlist.{TestPlace, netlist_lines, place_line, place_lines}
use Rattle.netlist_writer.specs.Laws.{names_after, present, probes_after}
use Rattle.netlist_writer.proofs.TestLines.{IsCode, fields_of, in_record, record_back}
use Rattle.board_shapes.specs.declared.TheConstants.{MOST_LAYERS}
use Rattle.ipc356_records.specs.declared.TheConstants.{MOST_RECORDS}
use Rattle.ipc356_records.proofs.Written.{reads_units, reads_end, finishes_all}
use Rattle.planar.specs.declared.TheConstants.{METRE}

-- ---- Coordinates

pub first_holds : (a b : Bool) → (a && b) ≡ true → a ≡ true
first_holds true b h = refl
first_holds false b h = cc

pub second_holds : (a b : Bool) → (a && b) ≡ true → b ≡ true
second_holds true b h = h
second_holds false b h = cc

lt-leb : (a b : ℕ) → b < a → nat_le a b ≡ false
lt-leb a b h = by (nat_le a b) refl
  where
    by : (v : Bool) → nat_le a b ≡ v → nat_le a b ≡ false
    by true e = absurd (let k = leb-true a b e in omega (arith, h, k))
    by false e = e

-- a coordinate that can be written
pub record IsInSteps (z : ℤ) : Type 0 where
  pub whole : unsigned_abs z % 10_000 ≡ 0
  pub few : unsigned_abs z ≤ 9_999_990_000

pub in_steps_is : (z : ℤ) → in_steps z ≡ true → IsInSteps z
in_steps_is z h = record {
  whole = eqb-true _ _ (first_holds (eqb (unsigned_abs z % 10_000) 0) (nat_le (unsigned_abs z) 9_999_990_000) h);
  few = leb-true _ _ (second_holds (eqb (unsigned_abs z % 10_000) 0) (nat_le (unsigned_abs z) 9_999_990_000) h);
}

pub six_digits : (z : ℤ) → IsInSteps z → steps_of z < 1_000_000
six_digits z h = let few = h.few in omega (arith, few)

place_back : (z : ℤ) → IsInSteps z → placed Mm (in_record z) ≡ Ok z
unfolding placed
place_back z h =
    let whole = h.whole in
    let few = h.few in
    let back : steps_of z * 10_000 ≡ unsigned_abs z = omega (arith, whole) in
    let near : nat_lt METRE (unsigned_abs z) ≡ false = le-ltb _ _ (omega (arith, few)) in
    rw (back, near) (ap Ok (by z))
  where
    by : (z : ℤ) → signed (eqb (sign_of z) 45) (unsigned_abs z) ≡ z
    by (pos n) = refl
    by (negsuc n) = refl

-- ---- Effects

-- a test place that can be written, on a board of so many layers
pub record IsWritablePlace (layers : ℕ) (t : TestPlace) : Type 0 where
  pub code : IsCode t.code
  pub net : t.net < 2 ^ 32
  pub access : t.access ≤ layers
  pub x : IsInSteps t.at.x
  pub y : IsInSteps t.at.y

adds_record : (k : Known) (name : List ℕ) (access : ℕ) (at : Spot) → k.ended ≡ false → k.unit ≡ Some Mm → k.records < MOST_RECORDS → access ≤ k.layers → IsInSteps at.x → IsInSteps at.y → effect k (tests (fields_of name access at)) ≡ Ok (adds name access at)
unfolding effect row test_record
adds_record k name access at ongoing unit few known x y = rw (ongoing, unit, le-leb _ _ known, place_back at.x x, place_back at.y y, lt-leb _ _ few) refl

passes_over : (k : Known) → k.ended ≡ false → effect k unread ≡ Ok stays
unfolding effect row
passes_over k ongoing = rw ongoing refl

sets_unit : (layers : ℕ) → effect (known_at layers (unread ∷ [])) (units (Some Mm)) ≡ Ok (sets Mm)
unfolding effect row set_unit
sets_unit layers = refl

closes_all : (k : Known) → k.ended ≡ false → effect k ends ≡ Ok closes
unfolding effect row
closes_all k ongoing = rw ongoing refl

-- ---- Lines by themselves

reads_heading : form_of (codes "C boardnet") ≡ unread
unfolding form_of
reads_heading = refl

reads_comment : (p : ℕ) → form_of (codes "C piece " ++ decimal p) ≡ unread
unfolding form_of
reads_comment p = refl

-- ---- Histories

-- No line has a fault, the units stand, the file goes on, and so many records gave these names and probes.
record Stands (layers records : ℕ) (names : List (List ℕ)) (probes : List Probe) (h : List RecordLine) : Type 0 where
  clean : Clean (effect_at layers) h
  unit : unit_before h ≡ Some Mm
  many : records_before h ≡ records
  named : names_of h ≡ names
  ongoing : has_ended h ≡ false
  are : probes_of layers h ≡ probes

-- the probes behind one more line
probes_then : (layers : ℕ) (h : List RecordLine) (f : RecordLine) (e : Effect) → effect (known_at layers h) f ≡ Ok e → probes_of layers (f ∷ h) ≡ probes_of layers h ++ probes_of_effect (known_at layers h) e
probes_then layers h f e is = ap (λ (r : Result Effect RecordKind). probes_of layers h ++ probes_in (known_at layers h) r) is

clean_then : (layers : ℕ) (h : List RecordLine) (f : RecordLine) (e : Effect) → Clean (effect_at layers) h → effect (known_at layers h) f ≡ Ok e → Clean (effect_at layers) (f ∷ h)
clean_then layers h f e clean is = ((rw is refl), clean)

started : (layers : ℕ) → Stands layers 0 [] [] (units (Some Mm) ∷ unread ∷ [])
unfolding probes_of_effect
started layers =
    let one : effect (known_at layers []) unread ≡ Ok stays = passes_over (known_at layers []) refl in
    let two = sets_unit layers in
    record {
      clean = clean_then layers (unread ∷ []) (units (Some Mm)) (sets Mm) (clean_then layers [] unread stays tt one) two;
      unit = refl;
      many = refl;
      named = refl;
      ongoing = refl;
      are = probes_then layers (unread ∷ []) (units (Some Mm)) (sets Mm) two ∙ (append-nil (probes_of layers (unread ∷ [])) ∙ probes_then layers [] unread stays one);
    }

comment_then : (layers records : ℕ) (names : List (List ℕ)) (probes : List Probe) (h : List RecordLine) → Stands layers records names probes h → Stands layers records names probes (unread ∷ h)
unfolding probes_of_effect
comment_then layers records names probes h s =
    let e = passes_over (known_at layers h) s.ongoing in
    record {
      clean = clean_then layers h unread stays s.clean e;
      unit = s.unit;
      many = s.many;
      named = s.named;
      ongoing = s.ongoing;
      are = probes_then layers h unread stays e ∙ (append-nil (probes_of layers h) ∙ s.are);
    }

-- the probes of a test place behind so many records with these names
abbrev pub probes_at : ℕ → ℕ → List (List ℕ) → TestPlace → List Probe
probes_at layers records names t = map (probe_at (records + 1) (index_of (net_name t.net) names) t.at) (layers_of layers t.access)

record_then : (layers records : ℕ) (names : List (List ℕ)) (probes : List Probe) (h : List RecordLine) (t : TestPlace) → records < MOST_RECORDS → IsWritablePlace layers t → Stands layers records names probes h
    → Stands layers (records + 1) (with_name (net_name t.net) names) (probes ++ probes_at layers records names t) (tests (fields_of (net_name t.net) t.access t.at) ∷ h)
unfolding probes_of_effect
record_then layers records names probes h t few fine s =
    let many = s.many in
    let e = adds_record (known_at layers h) (net_name t.net) t.access t.at s.ongoing s.unit (omega (arith, many, few)) fine.access fine.x fine.y in
    let f : RecordLine = tests (fields_of (net_name t.net) t.access t.at) in
    record {
      clean = clean_then layers h f (adds (net_name t.net) t.access t.at) s.clean e;
      unit = s.unit;
      many = ap (λ (n : ℕ). n + 1) s.many;
      named = ap (λ (ns : List (List ℕ)). with_name (net_name t.net) ns) s.named;
      ongoing = s.ongoing;
      are = probes_then layers h f (adds (net_name t.net) t.access t.at) e
          ∙ (ap (λ (ps : List Probe). ps ++ map (probe_at (records_before h + 1) (index_of (net_name t.net) (names_of h)) t.at) (layers_of layers t.access)) s.are
          ∙ (ap (λ (n : ℕ). probes ++ map (probe_at (n + 1) (index_of (net_name t.net) (names_of h)) t.at) (layers_of layers t.access)) s.many
          ∙ ap (λ (ns : List (List ℕ)). probes ++ map (probe_at (records + 1) (index_of (net_name t.net) ns) t.at) (layers_of layers t.access)) s.named));
    }

-- the history behind more lines; the last is first
abbrev pub behind : List RecordLine → List (List ℕ) → List RecordLine
behind h [] = h
behind h (l ∷ lines) = behind (form_of l ∷ h) lines

-- the text has ended without a fault
pub record Ended (layers : ℕ) (names : List (List ℕ)) (probes : List Probe) (h : List RecordLine) : Type 0 where
  pub clean : Clean (effect_at layers) h
  pub over : has_ended h ≡ true
  pub named : names_of h ≡ names
  pub are : probes_of layers h ≡ probes

ended-end : (layers records : ℕ) (names : List (List ℕ)) (probes : List Probe) (h : List RecordLine) → Stands layers records names probes h → Ended layers names probes (ends ∷ h)
unfolding probes_of_effect
ended-end layers records names probes h s =
    let e = closes_all (known_at layers h) s.ongoing in
    record {
      clean = clean_then layers h ends closes s.clean e;
      over = refl;
      named = s.named;
      are = probes_then layers h ends closes e ∙ (append-nil (probes_of layers h) ∙ s.are);
    }

pub ended-finish : (layers : ℕ) (names : List (List ℕ)) (probes : List Probe) (h : List RecordLine) → Ended layers names probes h → Ended layers names probes (finishes ∷ h)
unfolding probes_of_effect
ended-finish layers names probes h s =
    let e = finishes_all (known_at layers h) s.over in
    record {
      clean = clean_then layers h finishes stays s.clean e;
      over = s.over;
      named = s.named;
      are = probes_then layers h finishes stays e ∙ (append-nil (probes_of layers h) ∙ s.are);
    }

abbrev pub IsWritableIf : ℕ → Option TestPlace → Type 0
IsWritableIf layers None = Unit {0}
IsWritableIf layers (Some t) = IsWritablePlace layers t

-- what holds behind the form holds behind its line
as_read : (P : List RecordLine → Type 0) (h : List RecordLine) (l : List ℕ) (f : RecordLine) → form_of l ≡ f → P (f ∷ h) → P (form_of l ∷ h)
as_read P h l f e k = subst (λ (d : RecordLine). P (d ∷ h)) (sym e) k

places_then : (layers records p : ℕ) (names : List (List ℕ)) (probes : List Probe) (h : List RecordLine) (places : List (Option TestPlace)) → layers ≤ MOST_LAYERS → AllByRecursion (IsWritableIf layers) places → records + length places ≤ MOST_RECORDS → Stands layers records names probes h
    → Ended layers (names_after names (present places)) (probes ++ probes_after layers records names (present places)) (behind h (place_lines p places))
places_then layers records p names probes h [] fits fine few s =
    subst (λ (ps : List Probe). Ended layers names ps (form_of (codes "999") ∷ h)) (sym (append-nil probes)) (as_read (Ended layers names probes) h (codes "999") ends reads_end (ended-end layers records names probes h s))
places_then layers records p names probes h (None ∷ places) fits fine few s =
    places_then layers records (p + 1) names probes (form_of (place_line p None) ∷ h) places fits fine.1 (omega (arith, few)) (as_read (Stands layers records names probes) h (place_line p None) unread (reads_comment p) (comment_then layers records names probes h s))
places_then layers records p names probes h (Some t ∷ places) fits fine few s =
    let ok = fine.0 in
    let low = ok.access in
    let form = record_back t.code t.net t.access t.at ok.code ok.net (omega (arith, low, fits)) (six_digits t.at.x ok.x) (six_digits t.at.y ok.y) in
    let step = record_then layers records names probes h t (omega (arith, few)) ok s in
    let more = probes ++ probes_at layers records names t in
    let all = places_then layers (records + 1) (p + 1) (with_name (net_name t.net) names) more (form_of (place_line p (Some t)) ∷ h) places fits fine.1 (omega (arith, few)) (as_read (Stands layers (records + 1) (with_name (net_name t.net) names) more) h (place_line p (Some t)) (tests (fields_of (net_name t.net) t.access t.at)) form step) in
    subst (λ (ps : List Probe). Ended layers (names_after names (present (Some t ∷ places))) ps (behind h (place_lines p (Some t ∷ places)))) (append_assoc probes (probes_at layers records names t) (probes_after layers (records + 1) (with_name (net_name t.net) names) (present places))) all

-- the whole text
pub netlist_then : (layers : ℕ) (places : List (Option TestPlace)) → layers ≤ MOST_LAYERS → AllByRecursion (IsWritableIf layers) places → length places ≤ MOST_RECORDS
    → Ended layers (names_after [] (present places)) (probes_after layers 0 [] (present places)) (behind [] (netlist_lines places))
netlist_then layers places fits fine few =
    let start : Stands layers 0 [] [] (form_of (codes "P  UNITS CUST 1") ∷ form_of (codes "C boardnet") ∷ []) = as_read (Stands layers 0 [] []) (form_of (codes "C boardnet") ∷ []) (codes "P  UNITS CUST 1") (units (Some Mm)) reads_units (as_read (λ (h : List RecordLine). Stands layers 0 [] [] (units (Some Mm) ∷ h)) [] (codes "C boardnet") unread reads_heading (started layers)) in
    places_then layers 0 0 [] [] (form_of (codes "P  UNITS CUST 1") ∷ form_of (codes "C boardnet") ∷ []) places fits fine (omega (arith, few)) start
