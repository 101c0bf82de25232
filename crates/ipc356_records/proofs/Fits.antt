-- What is read fits a board.
use Rattle.std.proofs.Common.{◌≡◌, ℕ, ◌+◌, ◌*◌, ◌<◌, ◌≤◌, Bool, true, false, cond, List, [], ◌∷◌, ◌++◌, length, map, ℤ, Result, Ok, Err, IsOk, not, ◌||◌, ◌≢◌, eqb, refl, sym, ap, subst, append-nil, arith}
use borrow.Author.Tests.{leb-true, leb-false, ltb-false}
use Rattle.std.proofs.lemmas.Int.{ints}
use Rattle.std.proofs.lemmas.Bool.{eqb-false}
use Rattle.std.proofs.lemmas.List.Sums.{prefix_len-le-length}
use Rattle.std.specs.Prelude.{nat_lt, All, IfOk}
use Rattle.file_reading.specs.Reading.{Clean, said}
use Rattle.ipc356_records.specs.declared.kind.RecordFault.{RecordFault}
use Rattle.std.specs.List.{list_any, position_or_len}
use Rattle.std.proofs.lemmas.List.{length-append, length-map}
use Rattle.std.proofs.lemmas.List.Elements.{All-append, All-map, All-push}
use Rattle.planar.specs.Plane.{IsPlaced, IsReached}
use Rattle.planar.specs.declared.TheConstants.{METRE}
use Rattle.lengths.specs.Decimal.{signed}
use Rattle.lengths.specs.declared.decimal.Unit.{Unit as Measure}
use Rattle.board_shapes.specs.Lawful.{IsProbe}
use Rattle.board_shapes.specs.declared.probe.Probe.{Probe}
use Rattle.ipc356_records.specs.declared.line.Coordinate.{Coordinate}
use Rattle.ipc356_records.specs.declared.kind.RecordKind.{RecordKind}
use Rattle.ipc356_records.specs.declared.kind.RecordKind.TheVariants as kind
use Rattle.ipc356_records.specs.Line.{RecordLine, TestFields, blank, unread, units, ends, continues, tests, unknown, finishes}
use Rattle.ipc356_records.specs.Names.{is_name, index_of, with_name}
use Rattle.ipc356_records.specs.RecordEffects.{Known, Effect, stays, sets, closes, step_of, placed, effect, layers_of, probe_at, probes_of_effect}
use Rattle.ipc356_records.specs.Settings.{known_at, records_before, names_of}
use Rattle.ipc356_records.specs.NetlistFile.{probes_in, probes_of, effect_at, Netlist, IsRead, FitsBoard}
use Rattle.ipc356_records.proofs.Outcome.{Tested, past_test}
use Rattle.ipc356_records.proofs.Bridge.{Outcome, outcome}
use Rattle.ipc356_records.specs.declared.TheConstants.{MOST_RECORDS}

-- a place that is taken is within 1 m
signed_reached : (negative : Bool) (n : ℕ) → n ≤ METRE → IsReached (signed negative n)
signed_reached true n h = (omega (arith, ints), omega (arith, ints))
signed_reached false n h = (omega (arith, ints), omega (arith, ints))

placed_reached : (unit : Measure) (c : Coordinate) (z : ℤ) → placed unit c ≡ Ok z → IsReached z
unfolding placed
placed_reached unit c z h =
    let p = past_test (nat_lt METRE (c.steps * step_of unit)) kind.OutOfRange (Ok (signed c.negative (c.steps * step_of unit))) z h in
    let same : signed c.negative (c.steps * step_of unit) ≡ z = (let e = p.1 in cc) in
    subst IsReached same (signed_reached c.negative (c.steps * step_of unit) (ltb-false _ _ p.0))

-- the number of a name is below the number of names
found_below : {X : Type 0} (p : X → Bool) (xs : List X) → list_any p xs ≡ true → position_or_len p xs < length xs
found_below p [] h = cc
found_below p (x ∷ xs) h = by (p x) refl (found_below p xs) h
  where
    by : (b : Bool) → p x ≡ b → (list_any p xs ≡ true → position_or_len p xs < length xs) → (b || list_any p xs) ≡ true → position_or_len p (x ∷ xs) < length (x ∷ xs)
    by true e more h = rw e (omega arith)
    by false e more h = let below : position_or_len p xs < length xs = more h in rw e (omega arith)

pub index_below : (name : List ℕ) (names : List (List ℕ)) → index_of name names < length (with_name name names)
index_below name names = by (list_any (is_name name) names) refl
  where
    by : (b : Bool) → list_any (is_name name) names ≡ b → index_of name names < length (cond b names (names ++ name ∷ []))
    by true e = found_below (is_name name) names e
    by false e = omega (arith, prefix_len-le-length (λ other. not (is_name name other)) names, length-append names (name ∷ []))

-- the names grow by one at most
pub record Grows (old new : ℕ) : Type 0 where
  pub least : old ≤ new
  pub most : new ≤ old + 1

pub names_grow : (name : List ℕ) (names : List (List ℕ)) → Grows (length names) (length (with_name name names))
names_grow name names = by (list_any (is_name name) names)
  where
    by : (b : Bool) → Grows (length names) (length (cond b names (names ++ name ∷ [])))
    by true = record { least = omega arith; most = omega arith }
    by false = let e : length (names ++ name ∷ []) ≡ length names + 1 = length-append names (name ∷ []) in record { least = omega arith; most = omega arith }

-- a probe stays on the board where names come
pub more_names : (n m layers : ℕ) (ps : List Probe) → n ≤ m → All (IsProbe n layers) ps → All (IsProbe m layers) ps
more_names n m layers ps h all i d below =
    let p = all i d below in
    record { named = (let e = p.named in omega arith); from_top = p.from_top; to_bottom = p.to_bottom; placed = p.placed }

-- each layer of an access code is one of the board's, and there are one or two
pub record IsLayer (layers n : ℕ) : Type 0 where
  pub top : 1 ≤ n
  pub bottom : n ≤ layers

pub record FewLayers (layers : ℕ) (ns : List ℕ) : Type 0 where
  pub each : All (IsLayer layers) ns
  pub few : length ns ≤ 2

one : (layers n : ℕ) → IsLayer layers n → All (IsLayer layers) (n ∷ [])
one layers n h = All-push (IsLayer layers) [] n (λ i d below. absurd (omega arith)) h

layers_fit : (layers access : ℕ) → 1 ≤ layers → access ≤ layers → FewLayers layers (layers_of layers access)
layers_fit layers access some h = by (eqb access 0) refl
  where
    outer : (b : Bool) → FewLayers layers (cond b (1 ∷ []) (1 ∷ layers ∷ []))
    outer true = record { each = one layers 1 (record { top = omega arith; bottom = some }); few = omega arith }
    outer false = record {
      each = All-push (IsLayer layers) (1 ∷ []) layers (one layers 1 (record { top = omega arith; bottom = some })) (record { top = some; bottom = omega arith });
      few = omega arith;
    }

    by : (b : Bool) → eqb access 0 ≡ b → FewLayers layers (cond b (cond (eqb layers 1) (1 ∷ []) (1 ∷ layers ∷ [])) (access ∷ []))
    by true e = outer (eqb layers 1)
    by false e = let other : access ≢ 0 = eqb-false access 0 e in record { each = one layers access (record { top = omega arith; bottom = h }); few = omega arith }

-- what a history without a fault has made
pub record Fit (layers : ℕ) (earlier : List RecordLine) : Type 0 where
  pub lawful : All (IsProbe (length (names_of earlier)) layers) (probes_of layers earlier)
  pub records : records_before earlier ≤ MOST_RECORDS
  pub names : length (names_of earlier) ≤ records_before earlier
  pub probes : length (probes_of layers earlier) ≤ 2 * records_before earlier

-- a line that is no test record changes none of it
stays_fit : (layers : ℕ) (earlier : List RecordLine) (r : Result Effect RecordKind) (e : Effect) → Fit layers earlier → r ≡ Ok e → probes_of_effect (known_at layers earlier) e ≡ [] → All (IsProbe (length (names_of earlier)) layers) (probes_of layers earlier ++ probes_in (known_at layers earlier) r) × (length (probes_of layers earlier ++ probes_in (known_at layers earlier) r) ≤ 2 * records_before earlier)
stays_fit layers earlier r e f ok none =
    let same : probes_of layers earlier ++ probes_in (known_at layers earlier) r ≡ probes_of layers earlier = rw (ok, none) (append-nil (probes_of layers earlier)) in
    (subst (All (IsProbe (length (names_of earlier)) layers)) (sym same) f.lawful, (let a = ap length same in let b = f.probes in omega arith))

no_probes : (k : Known) (e f : Effect) → e ≡ f → probes_of_effect k f ≡ [] → probes_of_effect k e ≡ []
no_probes k e f same none = rw same none

tested_fit : (layers : ℕ) (earlier : List RecordLine) (fields : TestFields) (e : Effect) → 1 ≤ layers → Fit layers earlier → effect (known_at layers earlier) (tests fields) ≡ Ok e → Tested (known_at layers earlier) fields e → Fit layers (tests fields ∷ earlier)
unfolding probes_of_effect
tested_fit layers earlier fields e some f ok t =
    let names : List (List ℕ) = names_of earlier in
    let grown : names_of (tests fields ∷ earlier) ≡ with_name t.name names = rw t.name_is refl in
    let grows : Grows (length names) (length (with_name t.name names)) = names_grow t.name names in
    let reach = layers_fit layers t.access some (leb-true _ _ t.access_in) in
    let room : records_before earlier < MOST_RECORDS = leb-false _ _ t.room in
    let made : List Probe = map (probe_at (records_before earlier + 1) (index_of t.name names) t.at) (layers_of layers t.access) in
    let made_is : probes_of layers (tests fields ∷ earlier) ≡ probes_of layers earlier ++ made = rw (ok, t.is) refl in
    let at : IsPlaced t.at = (placed_reached t.unit t.x t.at.x t.x_is, placed_reached t.unit t.y t.at.y t.y_is) in
    let each : All (IsProbe (length (with_name t.name names)) layers) made = All-map (IsProbe (length (with_name t.name names)) layers) (probe_at (records_before earlier + 1) (index_of t.name names) t.at) (layers_of layers t.access) (λ i d below. let l = reach.each i d below in record { named = index_below t.name names; from_top = l.top; to_bottom = l.bottom; placed = at }) in
    let all : All (IsProbe (length (with_name t.name names)) layers) (probes_of layers earlier ++ made) = All-append (IsProbe (length (with_name t.name names)) layers) (probes_of layers earlier) made (more_names (length names) (length (with_name t.name names)) layers (probes_of layers earlier) grows.least f.lawful) each in
    let two : length made ≡ length (layers_of layers t.access) = length-map (layers_of layers t.access) (probe_at (records_before earlier + 1) (index_of t.name names) t.at) in
    let total : length (probes_of layers earlier ++ made) ≡ length (probes_of layers earlier) + length made = length-append (probes_of layers earlier) made in
    record {
      lawful = rw (grown, made_is) all;
      records = omega arith;
      names = rw grown (let a = grows.most in let b = f.names in omega arith);
      probes = rw made_is (let a = reach.few in let b = f.probes in omega arith);
    }

still : (layers : ℕ) (earlier : List RecordLine) (form : RecordLine) (e : Effect) → Fit layers earlier → effect (known_at layers earlier) form ≡ Ok e → probes_of_effect (known_at layers earlier) e ≡ [] → names_of (form ∷ earlier) ≡ names_of earlier → records_before (form ∷ earlier) ≡ records_before earlier → Fit layers (form ∷ earlier)
still layers earlier form e f ok none same_names same_records =
    let kept = stays_fit layers earlier (effect (known_at layers earlier) form) e f ok none in
    record {
      lawful = rw same_names kept.0;
      records = rw same_records f.records;
      names = rw (same_names, same_records) f.names;
      probes = rw same_records kept.1;
    }

step : (layers : ℕ) (earlier : List RecordLine) (form : RecordLine) (e : Effect) → 1 ≤ layers → Fit layers earlier → effect (known_at layers earlier) form ≡ Ok e → Outcome (known_at layers earlier) form e → Fit layers (form ∷ earlier)
unfolding probes_of_effect
step layers earlier blank e some f ok o = still layers earlier blank e f ok (no_probes (known_at layers earlier) e stays o refl) refl refl
step layers earlier unread e some f ok o = still layers earlier unread e f ok (no_probes (known_at layers earlier) e stays o refl) refl refl
step layers earlier (units unit) e some f ok o = still layers earlier (units unit) e f ok (no_probes (known_at layers earlier) e (sets o.0) o.3 refl) refl refl
step layers earlier ends e some f ok o = still layers earlier ends e f ok (no_probes (known_at layers earlier) e closes o refl) refl refl
step layers earlier continues e some f ok o = absurd o
step layers earlier (tests fields) e some f ok o = tested_fit layers earlier fields e some f ok o
step layers earlier unknown e some f ok o = absurd o
step layers earlier finishes e some f ok o = still layers earlier finishes e f ok (no_probes (known_at layers earlier) e stays o refl) refl refl

pub fit : (layers : ℕ) → 1 ≤ layers → (earlier : List RecordLine) → Clean (effect_at layers) earlier → Fit layers earlier
fit layers some [] clean = record { lawful = λ i d below. absurd (omega arith); records = omega arith; names = omega arith; probes = omega arith }
fit layers some (form ∷ earlier) clean = by (effect (known_at layers earlier) form) refl clean.0 (fit layers some earlier clean.1)
  where
    by : (r : Result Effect RecordKind) → effect (known_at layers earlier) form ≡ r → IsOk r → Fit layers earlier → Fit layers (form ∷ earlier)
    by (Ok e) ok h f = step layers earlier form e some f ok (outcome (known_at layers earlier) form e ok)
    by (Err why) ok h f = cc

pub fits_board : (file : List ℕ) (layers : ℕ) (probes : List Probe) (names : List (List ℕ)) → 1 ≤ layers → IsRead file layers probes names → FitsBoard layers probes names
fits_board file layers probes names some read =
    let f = fit layers some (said read.earlier) read.whole.clean in
    let probes_are : probes ≡ probes_of layers (said read.earlier) = ap (λ (n : Netlist). n.probes) read.is in
    let names_are : names ≡ names_of (said read.earlier) = ap (λ (n : Netlist). n.names) read.is in
    record {
      lawful = rw (probes_are, names_are) f.lawful;
      few_probes = rw probes_are (let a = f.probes in let b = f.records in omega arith);
      few_names = rw names_are (let a = f.names in let b = f.records in omega arith);
    }

pub if_fits_board : {V : Type 0} (probes : V → List Probe) (names : V → List (List ℕ)) (result : Result V RecordFault) (file : List ℕ) (layers : ℕ) → 1 ≤ layers → IfOk result (λ v. IsRead file layers (probes v) (names v)) → IfOk result (λ v. FitsBoard layers (probes v) (names v))
if_fits_board probes names (Ok v) file layers some h = fits_board file layers (probes v) (names v) some h
if_fits_board probes names (Err why) file layers some h = tt
