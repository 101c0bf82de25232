-- How much a netlist gives, and how long its names are.
use Rattle.std.proofs.Common.{◌≡◌, ℕ, zero, suc, ◌+◌, ◌*◌, ◌-◌, ◌<◌, ◌≤◌, Bool, true, false, cond, List, [], ◌∷◌, ◌++◌, length, map, take, drop, reverse, Option, Some, None, IfSome, Result, Ok, Err, IsOk, codes, refl, sym, ap, subst, ◌∙◌, ◌==◌, ◌||◌, if◌then◌else◌, arith}
use Rattle.std.proofs.lemmas.Bool.{cond_both, leb-false}
use Rattle.std.proofs.lemmas.List.{append-nil, length-append, length-drop, length-map, reverse-append, reverse-reverse}
use Rattle.std.specs.List.{AllByRecursion, list_all, list_any, prefix_len, suffix_len}
use Rattle.std.specs.Prelude.{nat_le}
use Rattle.board_shapes.specs.declared.probe.Probe.{Probe}
use Rattle.reports.proofs.SmallParts.{all_both, all_mapped}
use Rattle.file_reading.specs.Reading.{Clean, Item, said}
use Rattle.ipc356_records.proofs.Fits.{names_grow}
use Rattle.ipc356_records.specs.Columns.{line_to, name_from, name_to, part, words}
use Rattle.ipc356_records.specs.Line.{RecordLine, TestFields, blank, unread, units, ends, continues, tests, unknown, finishes}
use Rattle.ipc356_records.specs.Names.{index_of, is_name}
use Rattle.ipc356_records.specs.NetlistFile.{IsRead, Netlist, effect_at, item_of, items, probes_in, probes_of}
use Rattle.ipc356_records.specs.RecordEffects.{Effect, Known, stays, sets, closes, adds, ◌>>=◌, behind, effect, layers_of, needed, placed, probe_at, probes_of_effect, row, set_unit, test_record, within}
use Rattle.ipc356_records.specs.RecordLines.{coded, fields_in, form_of, is_graphic, is_other, name_of, parameter, unit_of}
use Rattle.ipc356_records.specs.Settings.{known_at, name_in, names_of, records_before, with_name_if}
use Rattle.ipc356_records.specs.declared.TheConstants.{MOST_RECORDS}
use Rattle.ipc356_records.specs.declared.kind.RecordKind.{RecordKind}
use Rattle.ipc356_records.specs.declared.kind.RecordKind.TheVariants as kind
use Rattle.lengths.specs.declared.decimal.Unit.{Unit as Measure}
use Rattle.planar.specs.declared.Spot.{Spot}
use Rattle.texts.specs.Blanks.{is_blank, trimmed, without_front}
use Rattle.texts.specs.Lines.{PlainLine, lines_of}
use Rattle.texts.specs.Words.{begins, is_word}
use Rattle.verdict.specs.Limits.{IsRecordName}

-- ---- Names

-- the name in a line, if there is one, has at most 14 bytes
abbrev HasShortName : RecordLine → Type 0
HasShortName form = IfSome (name_in form) IsRecordName

take_short : (n : ℕ) (xs : List ℕ) → length (take n xs) ≤ length xs
take_short zero xs = omega arith
take_short (suc n) [] = omega arith
take_short (suc n) (x ∷ xs) = let rest = take_short n xs in omega (arith, rest)

take_few : (n : ℕ) (xs : List ℕ) → length (take n xs) ≤ n
take_few zero xs = omega arith
take_few (suc n) [] = omega arith
take_few (suc n) (x ∷ xs) = let rest = take_few n xs in omega (arith, rest)

trimmed_short : (text : List ℕ) → length (trimmed text) ≤ length text
trimmed_short text =
    let one = take_short (length (without_front text) - suffix_len is_blank (without_front text)) (without_front text) in
    let two = length-drop (prefix_len is_blank text) text in
    omega (arith, one, two)

name_short : (text : List ℕ) → IsRecordName text → IfSome (name_of text) IsRecordName
unfolding name_of
name_short [] short = omega arith
name_short (b ∷ name) short = cond_both (list_all is_graphic (b ∷ name)) (Some (b ∷ name)) None (λ (o : Option (List ℕ)). IfSome o IsRecordName) (λ e. short) (λ e. tt)

fields_short : (text : List ℕ) → HasShortName (tests (fields_in text))
unfolding fields_in
fields_short text =
    let columns : List ℕ = part name_from name_to text in
    let few : length columns ≤ 14 = take_few 14 (drop 3 text) in
    let trim = trimmed_short columns in
    name_short (trimmed columns) (omega (arith, few, trim))

-- of either form
either_short : (b : Bool) (one other : RecordLine) → HasShortName one → HasShortName other → HasShortName (if b then one else other)
either_short true one other h k = h
either_short false one other h k = k

parameter_short : (ws : List (List ℕ)) → HasShortName (parameter ws)
unfolding parameter
parameter_short [] = tt
parameter_short (word ∷ further) = either_short (is_word word (codes "UNITS")) (units (unit_of further)) unread tt tt

coded_short : (text : List ℕ) → HasShortName (coded text)
unfolding coded
coded_short text =
    let said : RecordLine = if is_other text then unread else unknown in
    let tested : RecordLine = if begins text (codes "317") || begins text (codes "327") then tests (fields_in text) else said in
    let further : RecordLine = if begins text (codes "017") || begins text (codes "027") then continues else tested in
    either_short (begins text (codes "999")) ends further tt
    (either_short (begins text (codes "017") || begins text (codes "027")) continues tested tt
    (either_short (begins text (codes "317") || begins text (codes "327")) (tests (fields_in text)) said (fields_short text) (either_short (is_other text) unread unknown tt tt)))

form_short : (text : List ℕ) → HasShortName (form_of text)
unfolding form_of
form_short text =
    let coded_or : RecordLine = if begins text (codes "P") then parameter (words (part 2 line_to text)) else coded text in
    either_short (list_all is_blank (part 1 line_to text)) blank (if begins text (codes "C") then unread else coded_or) tt
    (either_short (begins text (codes "C")) unread coded_or tt
    (either_short (begins text (codes "P")) (parameter (words (part 2 line_to text))) (coded text) (parameter_short (words (part 2 line_to text))) (coded_short text)))

names_short : (earlier : List RecordLine) → AllByRecursion HasShortName earlier → AllByRecursion IsRecordName (names_of earlier)
names_short [] all = tt
names_short (form ∷ earlier) all = by (name_in form) all.0 (names_short earlier all.1)
  where
    by : (o : Option (List ℕ)) → IfSome o IsRecordName → AllByRecursion IsRecordName (names_of earlier) → AllByRecursion IsRecordName (with_name_if o (names_of earlier))
    by None short names = names
    by (Some name) short names = cond_both (list_any (is_name name) (names_of earlier)) (names_of earlier) (names_of earlier ++ name ∷ []) (λ (ns : List (List ℕ)). AllByRecursion IsRecordName ns) (λ e. names) (λ e. all_both IsRecordName (names_of earlier) (name ∷ []) names (short, tt))

all_reversed : {X : Type 0} (P : X → Type 0) (xs : List X) → AllByRecursion P xs → AllByRecursion P (reverse xs)
all_reversed P [] all = tt
all_reversed {X = X} P (x ∷ xs) all = subst (λ (ys : List X). AllByRecursion P ys) (sym (reverse-append (x ∷ []) xs)) (all_both P (reverse xs) (x ∷ []) (all_reversed P xs all.1) (all.0, tt))

abbrev SaysShort : Item RecordLine → Type 0
SaysShort i = HasShortName i.says

lines_short : (lines : List PlainLine) → AllByRecursion SaysShort (map item_of lines)
lines_short [] = tt
lines_short (l ∷ lines) = (form_short l.text, lines_short lines)

items_short : (file : List ℕ) → AllByRecursion SaysShort (items file)
items_short file = all_both SaysShort (map item_of (lines_of file)) (record { says = finishes; at = length (lines_of file) + 1 } ∷ []) (lines_short (lines_of file)) (tt, tt)

-- what was read of a file has short names
read_short : (file : List ℕ) (earlier : List (Item RecordLine)) → items file ≡ reverse earlier ++ [] → AllByRecursion HasShortName (said earlier)
read_short file earlier split =
    let whole : AllByRecursion SaysShort (reverse earlier) = subst (λ (is : List (Item RecordLine)). AllByRecursion SaysShort is) (append-nil (reverse earlier)) (subst (λ (is : List (Item RecordLine)). AllByRecursion SaysShort is) split (items_short file)) in
    let back : AllByRecursion SaysShort earlier = subst (λ (is : List (Item RecordLine)). AllByRecursion SaysShort is) (reverse-reverse earlier) (all_reversed SaysShort (reverse earlier) whole) in
    all_mapped SaysShort HasShortName (λ (i : Item RecordLine). i.says) (λ i short. short) earlier back

-- ---- Test records

bound : {A B : Type 0} (r : Result A RecordKind) (f : A → Result B RecordKind) (y : B) → (r >>= f) ≡ Ok y → (x : A) × (f x ≡ Ok y)
bound (Ok x) f y h = (x, h)
bound (Err why) f y h = absurd cc

past : {A : Type 0} (b : Bool) (why : RecordKind) (r : Result A RecordKind) (y : A) → cond b (Err why) r ≡ Ok y → b ≡ false
past true why r y h = absurd cc
past false why r y h = refl

-- a test record without a fault has room
room : (k : Known) (f : TestFields) (e : Effect) → test_record k f ≡ Ok e → k.records < MOST_RECORDS
unfolding test_record
room k f e h =
    let unit = bound (needed kind.MissingUnits k.unit) _ e h in
    let name = bound (needed kind.BadName f.name) _ e unit.1 in
    let access = bound (needed kind.BadAccess (within k.layers f.access)) _ e name.1 in
    let x = bound (needed kind.BadNumber f.x) _ e access.1 in
    let y = bound (needed kind.BadNumber f.y) _ e x.1 in
    let to_x = bound (placed unit.0 x.0) _ e y.1 in
    let to_y = bound (placed unit.0 y.0) _ e to_x.1 in
    leb-false MOST_RECORDS k.records (past (nat_le MOST_RECORDS k.records) kind.TooManyRecords _ e to_y.1)

-- what makes no probes
abbrev IsQuiet : Effect → Type 0
IsQuiet (adds name access at) = ⊥
IsQuiet other = Unit {0}

quiet_ok : (e f : Effect) → ◌≡◌ {A = Result Effect RecordKind} (Ok f) (Ok e) → IsQuiet f → IsQuiet e
quiet_ok e f h quiet = let same : f ≡ e = cc in subst IsQuiet same quiet

units_quiet : (before unit : Option Measure) (e : Effect) → set_unit before unit ≡ Ok e → IsQuiet e
unfolding set_unit
units_quiet before None e h = absurd cc
units_quiet None (Some u) e h = quiet_ok e (sets u) h tt
units_quiet (Some first) (Some u) e h = absurd cc

-- a line without a fault makes no probes, or it is a test record and there is room
abbrev Allowed : Known → RecordLine → Effect → Type 0
Allowed k (tests fields) e = k.records < MOST_RECORDS
Allowed k other e = IsQuiet e

row_allowed : (k : Known) (form : RecordLine) (e : Effect) → row k form ≡ Ok e → Allowed k form e
unfolding row
row_allowed k blank e h = quiet_ok e stays h tt
row_allowed k unread e h = quiet_ok e stays h tt
row_allowed k (units unit) e h = units_quiet k.unit unit e h
row_allowed k ends e h = quiet_ok e closes h tt
row_allowed k continues e h = absurd cc
row_allowed k (tests fields) e h = room k fields e h
row_allowed k unknown e h = absurd cc
row_allowed k finishes e h = absurd cc

behind_allowed : (k : Known) (form : RecordLine) (e : Effect) → behind form ≡ Ok e → Allowed k form e
behind_allowed k blank e h = quiet_ok e stays h tt
behind_allowed k unread e h = absurd cc
behind_allowed k (units unit) e h = absurd cc
behind_allowed k ends e h = absurd cc
behind_allowed k continues e h = absurd cc
behind_allowed k (tests fields) e h = absurd cc
behind_allowed k unknown e h = absurd cc
behind_allowed k finishes e h = quiet_ok e stays h tt

allowed : (k : Known) (form : RecordLine) (e : Effect) → effect k form ≡ Ok e → Allowed k form e
unfolding effect
allowed k form e h = by k.ended h
  where
    by : (b : Bool) → cond b (behind form) (row k form) ≡ Ok e → Allowed k form e
    by true h = behind_allowed k form e h
    by false h = row_allowed k form e h

few_layers : (layers access : ℕ) → length (layers_of layers access) ≤ 2
few_layers layers access = by (access == 0) (layers == 1)
  where
    by : (b c : Bool) → length (if b then (if c then 1 ∷ [] else 1 ∷ layers ∷ []) else access ∷ []) ≤ 2
    by true true = omega arith
    by true false = omega arith
    by false c = omega arith

abbrev pub IsCounted : Probe → Type 0
IsCounted p = p.number ≤ MOST_RECORDS

-- what an effect makes
record AreFew (probes : List Probe) : Type 0 where
  few : length probes ≤ 2
  counted : AllByRecursion IsCounted probes

made_few : (k : Known) (name : List ℕ) (access : ℕ) (at : Spot) → k.records < MOST_RECORDS → AreFew (probes_of_effect k (adds name access at))
unfolding probes_of_effect
made_few k name access at low =
    let layers : List ℕ = layers_of k.layers access in
    let long = length-map layers (probe_at (k.records + 1) (index_of name k.names) at) in
    let two = few_layers k.layers access in
    record {
      few = omega (arith, long, two);
      counted = all_mapped (λ (l : ℕ). Unit {0}) IsCounted (probe_at (k.records + 1) (index_of name k.names) at) (λ l h. omega (arith, low)) layers (any layers);
    }
  where
    any : (xs : List ℕ) → AllByRecursion (λ (l : ℕ). Unit {0}) xs
    any [] = tt
    any (x ∷ xs) = (tt, any xs)

-- what a history without a fault has made
record IsFewSoFar (layers : ℕ) (earlier : List RecordLine) : Type 0 where
  records : records_before earlier ≤ MOST_RECORDS
  names : length (names_of earlier) ≤ records_before earlier
  probes : length (probes_of layers earlier) ≤ 2 * records_before earlier
  counted : AllByRecursion IsCounted (probes_of layers earlier)

effect_few : (k : Known) (e : Effect) → k.records < MOST_RECORDS → AreFew (probes_of_effect k e)
unfolding probes_of_effect
effect_few k stays low = record { few = omega arith; counted = tt }
effect_few k (sets unit) low = record { few = omega arith; counted = tt }
effect_few k closes low = record { few = omega arith; counted = tt }
effect_few k (adds name access at) low = made_few k name access at low

quiet_none : (k : Known) (e : Effect) → IsQuiet e → probes_of_effect k e ≡ []
unfolding probes_of_effect
quiet_none k stays quiet = refl
quiet_none k (sets unit) quiet = refl
quiet_none k closes quiet = refl
quiet_none k (adds name access at) quiet = absurd quiet

made_is : (layers : ℕ) (earlier : List RecordLine) (form : RecordLine) (e : Effect) → effect (known_at layers earlier) form ≡ Ok e → probes_of layers (form ∷ earlier) ≡ probes_of layers earlier ++ probes_of_effect (known_at layers earlier) e
made_is layers earlier form e ok = ap (λ (r : Result Effect RecordKind). probes_of layers earlier ++ probes_in (known_at layers earlier) r) ok

named_few : (o : Option (List ℕ)) (names : List (List ℕ)) → length (with_name_if o names) ≤ length names + 1
named_few None names = omega arith
named_few (Some name) names = let grows = (names_grow name names).most in omega (arith, grows)

step_tests : (layers : ℕ) (earlier : List RecordLine) (fields : TestFields) (e : Effect) → IsFewSoFar layers earlier → effect (known_at layers earlier) (tests fields) ≡ Ok e → records_before earlier < MOST_RECORDS → IsFewSoFar layers (tests fields ∷ earlier)
step_tests layers earlier fields e so_far ok low =
    let made = effect_few (known_at layers earlier) e low in
    let few = made.few in
    let is = made_is layers earlier (tests fields) e ok in
    let long = ap length is in
    let both = length-append (probes_of layers earlier) (probes_of_effect (known_at layers earlier) e) in
    let names = named_few fields.name (names_of earlier) in
    let old_names = so_far.names in
    let old_probes = so_far.probes in
    record {
      records = omega (arith, low);
      names = omega (arith, names, old_names);
      probes = omega (arith, long, both, few, old_probes);
      counted = subst (λ (ps : List Probe). AllByRecursion IsCounted ps) (sym is) (all_both IsCounted (probes_of layers earlier) (probes_of_effect (known_at layers earlier) e) so_far.counted made.counted);
    }

step_other : (layers : ℕ) (earlier : List RecordLine) (form : RecordLine) (e : Effect) → IsFewSoFar layers earlier → effect (known_at layers earlier) form ≡ Ok e → IsQuiet e → names_of (form ∷ earlier) ≡ names_of earlier → records_before (form ∷ earlier) ≡ records_before earlier → IsFewSoFar layers (form ∷ earlier)
step_other layers earlier form e so_far ok quiet same_names same_records =
    let none : probes_of layers earlier ++ probes_of_effect (known_at layers earlier) e ≡ probes_of layers earlier ++ [] = ap (λ (ps : List Probe). probes_of layers earlier ++ ps) (quiet_none (known_at layers earlier) e quiet) in
    let is : probes_of layers (form ∷ earlier) ≡ probes_of layers earlier = made_is layers earlier form e ok ∙ (none ∙ append-nil (probes_of layers earlier)) in
    let long = ap length is in
    let long_names = ap length same_names in
    let old_records = so_far.records in
    let old_names = so_far.names in
    let old_probes = so_far.probes in
    record {
      records = omega (arith, same_records, old_records);
      names = omega (arith, long_names, same_records, old_names);
      probes = omega (arith, long, same_records, old_probes);
      counted = subst (λ (ps : List Probe). AllByRecursion IsCounted ps) (sym is) so_far.counted;
    }

step : (layers : ℕ) (earlier : List RecordLine) (form : RecordLine) (e : Effect) → IsFewSoFar layers earlier → effect (known_at layers earlier) form ≡ Ok e → Allowed (known_at layers earlier) form e → IsFewSoFar layers (form ∷ earlier)
step layers earlier blank e so_far ok h = step_other layers earlier blank e so_far ok h refl refl
step layers earlier unread e so_far ok h = step_other layers earlier unread e so_far ok h refl refl
step layers earlier (units unit) e so_far ok h = step_other layers earlier (units unit) e so_far ok h refl refl
step layers earlier ends e so_far ok h = step_other layers earlier ends e so_far ok h refl refl
step layers earlier continues e so_far ok h = step_other layers earlier continues e so_far ok h refl refl
step layers earlier (tests fields) e so_far ok h = step_tests layers earlier fields e so_far ok h
step layers earlier unknown e so_far ok h = step_other layers earlier unknown e so_far ok h refl refl
step layers earlier finishes e so_far ok h = step_other layers earlier finishes e so_far ok h refl refl

few_so_far : (layers : ℕ) (earlier : List RecordLine) → Clean (effect_at layers) earlier → IsFewSoFar layers earlier
few_so_far layers [] clean = record { records = omega arith; names = omega arith; probes = omega arith; counted = tt }
few_so_far layers (form ∷ earlier) clean = by (effect (known_at layers earlier) form) refl clean.0 (few_so_far layers earlier clean.1)
  where
    by : (r : Result Effect RecordKind) → effect (known_at layers earlier) form ≡ r → IsOk r → IsFewSoFar layers earlier → IsFewSoFar layers (form ∷ earlier)
    by (Ok e) ok h so_far = step layers earlier form e so_far ok (allowed (known_at layers earlier) form e ok)
    by (Err why) ok h so_far = absurd cc

-- ---- The whole

-- as many points and names as a package may have, counted and named as in its records
pub record IsSmallNetlist (probes : List Probe) (names : List (List ℕ)) : Type 0 where
  pub probes_few : length probes ≤ 2 * MOST_RECORDS
  pub names_few : length names ≤ MOST_RECORDS
  pub counted : AllByRecursion IsCounted probes
  pub short : AllByRecursion IsRecordName names

pub small_netlist : (file : List ℕ) (layers : ℕ) (probes : List Probe) (names : List (List ℕ)) → IsRead file layers probes names → IsSmallNetlist probes names
small_netlist file layers probes names read =
    let so_far = few_so_far layers (said read.earlier) read.whole.clean in
    let short = names_short (said read.earlier) (read_short file read.earlier read.whole.split) in
    let probes_are : probes ≡ probes_of layers (said read.earlier) = ap (λ (n : Netlist). n.probes) read.is in
    let names_are : names ≡ names_of (said read.earlier) = ap (λ (n : Netlist). n.names) read.is in
    let long = ap length probes_are in
    let long_names = ap length names_are in
    let few_records = so_far.records in
    let few_names = so_far.names in
    let few_probes = so_far.probes in
    record {
      probes_few = omega (arith, long, few_probes, few_records);
      names_few = omega (arith, long_names, few_names, few_records);
      counted = subst (λ (ps : List Probe). AllByRecursion IsCounted ps) (sym probes_are) so_far.counted;
      short = subst (λ (ns : List (List ℕ)). AllByRecursion IsRecordName ns) (sym names_are) short;
    }
