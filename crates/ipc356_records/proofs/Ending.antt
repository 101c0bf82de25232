-- The line that ends a netlist, and prefixes without it.
use Rattle.std.proofs.Common.{◌≡◌, ℕ, ◌+◌, ◌<◌, ◌≤◌, ◌⊎◌, inl, inr, Bool, true, false, ◌||◌, if◌then◌else◌, List, [], ◌∷◌, ◌++◌, length, map, take, drop, get_or, codes, Option, None, Result, Ok, IsOk, refl, sym, ap, ◌∙◌, subst, append_assoc, arith}
use Rattle.std.proofs.lemmas.List.{append-nil, map-append, take_all, take-append-drop, length-append}
use Rattle.std.proofs.lemmas.Slice.Eq.{starts_is}
use Rattle.std.proofs.lemmas.Bool.Decides.{Decides-eqb, leb_tells}
use Rattle.std.specs.List.{list_all}
use Rattle.texts.specs.Blanks.{is_blank}
use Rattle.ipc356_records.specs.Columns.{part, words, line_to}
use Rattle.board_shapes.specs.declared.probe.Probe.{Probe}
use Rattle.file_reading.specs.Reading.{Item, said}
use Rattle.file_reading.proofs.Ending.{Ends, NoneEnd, none_before_end, refused_without_end, same_made}
use Rattle.texts.specs.Lines.{PlainLine, lines_of}
use Rattle.texts.specs.Words.{begins, is_word}
use Rattle.texts.proofs.Prefix.{AreCut, TellsEnd, NoneEnds, end_of_prefix, no_end_in_prefix, lines_of_prefix}
use Rattle.ipc356_records.specs.declared.kind.RecordKind.{RecordKind}
use Rattle.ipc356_records.specs.Line.{RecordLine, blank, unread, units, ends, continues, tests, unknown, finishes}
use Rattle.ipc356_records.specs.RecordLines.{form_of, coded, parameter, unit_of, fields_in, is_other}
use Rattle.ipc356_records.specs.Settings.{is_end, has_ended, known_at, name_in, names_of, with_name_if}
use Rattle.ipc356_records.specs.RecordEffects.{Known, Effect, stays, effect, row, behind, probes_of_effect}
use Rattle.ipc356_records.specs.NetlistFile.{Netlist, netlist_of, effect_at, item_of, items, probes_in, probes_of, IsRead, IsRefused}
use Rattle.ipc356_records.specs.Laws.{IsEndLine, PrefixIsRefused}
use Rattle.ipc356_records.proofs.OneAnswer.{one_answer}

-- what the table says of the end
ended_ok : (k : Known) → k.ended ≡ true → IsOk (effect k ends) → ⊥
unfolding effect
ended_ok k h ok = by k.ended h ok
  where
    by : (b : Bool) → b ≡ true → IsOk (if b then behind ends else row k ends) → ⊥
    by true h ok = cc
    by false h ok = cc

needs_end : (k : Known) → k.ended ≡ false → IsOk (effect k finishes) → ⊥
unfolding effect row
needs_end k h ok = by k.ended h ok
  where
    by : (b : Bool) → b ≡ false → IsOk (if b then behind finishes else row k finishes) → ⊥
    by true h ok = cc
    by false h ok = cc

pub ends_of : (form : RecordLine) → is_end form ≡ true → form ≡ ends
ends_of ends h = refl
ends_of other h = cc

either : (a b : Bool) → b ≡ true → (a || b) ≡ true
either true b h = refl
either false b h = h

pub table_ends : (layers : ℕ) → Ends (effect_at layers) is_end has_ended finishes
table_ends layers = record {
  new = refl;
  still = λ earlier form no left. rw (no, left) refl;
  ends = λ earlier form is. rw is refl;
  stays = λ earlier form ended ok. either (is_end form) (has_ended earlier) ended;
  once = λ earlier form ended is ok. ended_ok (known_at layers earlier) ended (subst (λ (f : RecordLine). IsOk (effect (known_at layers earlier) f)) (ends_of form is) ok);
  needed = λ earlier no ok. needs_end (known_at layers earlier) no ok;
}

-- behind the end a line without a fault makes nothing
behind_stays : (form : RecordLine) → IsOk (behind form) → (behind form ≡ Ok stays) × (name_in form ≡ None)
behind_stays blank ok = (refl, refl)
behind_stays finishes ok = (refl, refl)
behind_stays other ok = cc

ended_behind : (k : Known) (form : RecordLine) → k.ended ≡ true → effect k form ≡ behind form
unfolding effect
ended_behind k form h = rw h refl

pub ended_idle : (layers : ℕ) (earlier : List RecordLine) (form : RecordLine) → has_ended earlier ≡ true → IsOk (effect_at layers earlier form) → netlist_of layers (form ∷ earlier) ≡ netlist_of layers earlier
unfolding probes_of_effect
ended_idle layers earlier form h ok =
    let judged = ended_behind (known_at layers earlier) form h in
    let nothing = behind_stays form (subst IsOk judged ok) in
    let same_probes : probes_of layers (form ∷ earlier) ≡ probes_of layers earlier = ap (λ (r : Result Effect RecordKind). probes_of layers earlier ++ probes_in (known_at layers earlier) r) (judged ∙ nothing.0) ∙ append-nil (probes_of layers earlier) in
    ap (λ (probes : List Probe). record { probes = probes; names = names_of (form ∷ earlier) }) same_probes ∙ ap (λ (name : Option (List ℕ)). record { probes = probes_of layers earlier; names = with_name_if name (names_of earlier) }) nothing.1

-- the end's bytes
abbrev pub tells : List ℕ → Bool
tells text = begins text (codes "999")

code_behind : (text : List ℕ) → tells text ≡ true → text ≡ codes "999" ++ drop 3 text
code_behind text h = (starts_is Decides-eqb text (codes "999") (tells text) refl).0 h

code_tells : (text rest : List ℕ) → text ≡ codes "999" ++ rest → tells text ≡ true
code_tells text rest h = (starts_is Decides-eqb text (codes "999") (tells text) refl).1 rest h

ends_line : (rest : List ℕ) → form_of (57 ∷ 57 ∷ 57 ∷ rest) ≡ ends
unfolding form_of coded
ends_line rest = refl

pub told_ends : (text : List ℕ) → tells text ≡ true → form_of text ≡ ends
told_ends text h = ap form_of (code_behind text h) ∙ ends_line (drop 3 text)

-- and only they are read so
past : (b : Bool) (x y : RecordLine) → is_end x ≡ false → is_end (if b then x else y) ≡ true → is_end y ≡ true
past true x y silent h = cc
past false x y silent h = h

no_parameter : (words : List (List ℕ)) → is_end (parameter words) ≡ false
unfolding parameter
no_parameter [] = refl
no_parameter (word ∷ further) = by (is_word word (codes "UNITS"))
  where
    by : (b : Bool) → is_end (if b then units (unit_of further) else unread) ≡ false
    by true = refl
    by false = refl

code_of_end : (b : Bool) (other : RecordLine) → is_end other ≡ false → is_end (if b then ends else other) ≡ true → b ≡ true
code_of_end true other silent h = refl
code_of_end false other silent h = cc

pub neither : (b : Bool) (x y : RecordLine) → is_end x ≡ false → is_end y ≡ false → is_end (if b then x else y) ≡ false
neither true x y first second = first
neither false x y first second = second

pub ends_told : (text : List ℕ) → is_end (form_of text) ≡ true → tells text ≡ true
unfolding form_of coded
ends_told text h =
    let continued = begins text (codes "017") || begins text (codes "027") in
    let test = begins text (codes "317") || begins text (codes "327") in
    let others = neither (is_other text) unread unknown refl refl in
    let records = neither test (tests (fields_in text)) (if is_other text then unread else unknown) refl others in
    let further = neither continued continues (if test then tests (fields_in text) else (if is_other text then unread else unknown)) refl records in
    let of_code = past (begins text (codes "P")) (parameter (words (part 2 line_to text))) (coded text) (no_parameter (words (part 2 line_to text)))
    (past (begins text (codes "C")) unread (if begins text (codes "P") then parameter (words (part 2 line_to text)) else coded text) refl
    (past (list_all is_blank (part 1 line_to text)) blank (if begins text (codes "C") then unread else (if begins text (codes "P") then parameter (words (part 2 line_to text)) else coded text)) refl h)) in
    code_of_end (tells text) (if continued then continues else (if test then tests (fields_in text) else (if is_other text then unread else unknown))) further of_code

-- a prefix of a line with these bytes, and a line with a carriage return behind
unfoldable pub reach : List ℕ → ℕ
reach text = 3

long_code : (text : List ℕ) → tells text ≡ true → 3 ≤ length text
long_code text h = let l = ap length (code_behind text h) in let a = length-append (codes "999") (drop 3 text) in omega (arith, l, a)

front_tells : (text front back : List ℕ) → text ≡ front ++ back → tells front ≡ true → tells text ≡ true
front_tells text front back parts h =
    code_tells text (drop 3 front ++ back) (parts ∙ ap (λ (xs : List ℕ). xs ++ back) (code_behind front h) ∙ append_assoc (codes "999") (drop 3 front) back)

return_tells : (text : List ℕ) → tells (text ++ (13 ∷ [])) ≡ true → tells text ≡ true
return_tells [] h = absurd (let l = long_code (13 ∷ []) h in omega arith)
return_tells (a ∷ []) h = absurd (let l = long_code (a ∷ 13 ∷ []) h in omega arith)
return_tells (a ∷ b ∷ []) h = absurd (let third : 13 ≡ 57 = ap (λ (xs : List ℕ). get_or xs 2 0) (code_behind (a ∷ b ∷ 13 ∷ []) h) in omega (arith, third))
return_tells (a ∷ b ∷ c ∷ text) h = h

pub code_tells_end : TellsEnd tells reach
unfolding reach
code_tells_end = record {
  whole = long_code;
  part = λ text k h. (front_tells text (take k text) (drop k text) (sym (take-append-drop k text)) h, long_code (take k text) h);
  returned = return_tells;
}

-- forms of lines
abbrev forms : List PlainLine → List RecordLine
forms lines = map (λ line. form_of line.text) lines

said_lines : (lines : List PlainLine) (last : Item RecordLine) → said (map item_of lines ++ last ∷ []) ≡ forms lines ++ last.says ∷ []
said_lines [] last = refl
said_lines (line ∷ lines) last = ap (λ (fs : List RecordLine). form_of line.text ∷ fs) (said_lines lines last)

said_items : (file : List ℕ) → said (items file) ≡ forms (lines_of file) ++ finishes ∷ []
said_items file = said_lines (lines_of file) (record { says = finishes; at = length (lines_of file) + 1 })

-- the same, around a line of the end's
said_at : (file : List ℕ) (before : List PlainLine) (line : PlainLine) (after : List PlainLine) → lines_of file ≡ before ++ line ∷ after → form_of line.text ≡ ends → said (items file) ≡ forms before ++ ends ∷ (forms after ++ finishes ∷ [])
said_at file before line after among is =
    said_items file ∙ ap (λ (ls : List PlainLine). forms ls ++ finishes ∷ []) among ∙ ap (λ (fs : List RecordLine). fs ++ finishes ∷ []) (map-append (λ (l : PlainLine). form_of l.text) before (line ∷ after))
    ∙ append_assoc (forms before) (form_of line.text ∷ forms after) (finishes ∷ []) ∙ ap (λ (f : RecordLine). forms before ++ f ∷ (forms after ++ finishes ∷ [])) is

no_bytes : (lines : List PlainLine) → NoneEnd is_end (forms lines) → NoneEnds tells lines
no_bytes [] none = tt
no_bytes (line ∷ lines) none = (by (tells line.text) refl, no_bytes lines none.1)
  where
    by : (b : Bool) → tells line.text ≡ b → tells line.text ≡ false
    by false h = h
    by true h = absurd (let is : is_end (form_of line.text) ≡ true = ap is_end (told_ends line.text h) in let no = none.0 in cc)

no_forms : (lines : List PlainLine) → NoneEnds tells lines → NoneEnd is_end (forms lines)
no_forms [] none = tt
no_forms (line ∷ lines) none = (by (is_end (form_of line.text)) refl, no_forms lines none.1)
  where
    by : (b : Bool) → is_end (form_of line.text) ≡ b → is_end (form_of line.text) ≡ false
    by false h = h
    by true h = absurd (let is = ends_told line.text h in let no = none.0 in cc)

abbrev Refused : List ℕ → ℕ → Type 0
Refused file layers = (why : RecordKind) × (number : ℕ) × IsRefused file layers why number

-- a file none of whose lines is the end's
refused : (file : List ℕ) (layers : ℕ) → NoneEnd is_end (forms (lines_of file)) → Refused file layers
refused file layers none =
    let r = refused_without_end (effect_at layers) (netlist_of layers) is_end has_ended finishes (items file) (forms (lines_of file)) (table_ends layers) (said_items file) none in
    (r.0, r.2, (r.1, r.3))

-- a prefix that ends within the file
prefix_refused : (file : List ℕ) (layers : ℕ) (probes : List Probe) (names : List (List ℕ)) (line : PlainLine) (n : ℕ) → IsRead file layers probes names → IsEndLine file line → n < line.at + 3 → n ≤ length file → Refused (take n file) layers
unfolding reach
prefix_refused file layers probes names line n read e low within =
    let none = none_before_end (effect_at layers) (netlist_of layers) is_end has_ended finishes (items file) (record { probes = probes; names = names }) (forms e.before) ends (forms e.after ++ finishes ∷ []) (table_ends layers) read (said_at file e.before line e.after e.among e.is) refl in
    let cut = subst (λ (ls : List PlainLine). AreCut n ls (lines_of (take n file))) e.among (lines_of_prefix file n within) in
    refused (take n file) layers (no_forms (lines_of (take n file)) (no_end_in_prefix tells reach n e.before line e.after (lines_of (take n file)) code_tells_end cut (no_bytes e.before none) (ends_told line.text (ap is_end e.is)) low))

-- a line of the end's, or none
record Found (lines : List PlainLine) : Type 0 where
  line : PlainLine
  before : List PlainLine
  after : List PlainLine
  among : lines ≡ before ++ line ∷ after
  is : form_of line.text ≡ ends

seek : (lines : List PlainLine) → Found lines ⊎ NoneEnd is_end (forms lines)
seek [] = inr tt
seek (line ∷ lines) = by (is_end (form_of line.text)) refl (seek lines)
  where
    by : (b : Bool) → is_end (form_of line.text) ≡ b → Found lines ⊎ NoneEnd is_end (forms lines) → Found (line ∷ lines) ⊎ NoneEnd is_end (forms (line ∷ lines))
    by true h more = inl (record { line = line; before = []; after = lines; among = refl; is = ends_of (form_of line.text) h })
    by false h (inl f) = inl (record { line = f.line; before = line ∷ f.before; after = f.after; among = ap (λ (ls : List PlainLine). line ∷ ls) f.among; is = f.is })
    by false h (inr none) = inr (h, none)

found_in : (file : List ℕ) (layers : ℕ) (probes : List Probe) (names : List (List ℕ)) → IsRead file layers probes names → Found (lines_of file)
found_in file layers probes names read = elim (seek (lines_of file)) [
  | inl f ↦ f
  | inr none ↦ absurd (let r = refused file layers none in (one_answer file layers).not_both (record { probes = probes; names = names }) r.0 r.2.0 r.1 read r.2.1)
]

pub prefix_is_refused : (file : List ℕ) (layers : ℕ) → PrefixIsRefused file layers
prefix_is_refused file layers probes names read = (
  (let f = found_in file layers probes names read in (f.line, record { before = f.before; after = f.after; among = f.among; is = f.is })),
  λ line e n low. elim (leb_tells n (length file)) [
    | inl within ↦ prefix_refused file layers probes names line n read e low within.1
    | inr past ↦ (
        let whole : take (length file) file ≡ take n file = take_all (length file) file (omega arith) ∙ sym (take_all n file (let h = past.1 in omega arith)) in
        subst (λ (xs : List ℕ). Refused xs layers) whole (prefix_refused file layers probes names line (length file) read e (let h = past.1 in omega (arith, h, low)) (omega arith))
        )
  ],
)

-- ---- A prefix that is read

same_within : (file : List ℕ) (layers : ℕ) (probes others : List Probe) (names words : List (List ℕ)) (n : ℕ) → IsRead file layers probes names → IsRead (take n file) layers others words → n ≤ length file → ◌≡◌ {A = Netlist} (record { probes = others; names = words }) (record { probes = probes; names = names })
same_within file layers probes others names words n read cut within =
    let f = found_in (take n file) layers others words cut in
    let lines = subst (AreCut n (lines_of file)) f.among (lines_of_prefix file n within) in
    let e = end_of_prefix tells reach n (lines_of file) f.before f.line f.after code_tells_end lines (ends_told f.line.text (ap is_end f.is)) in
    same_made (effect_at layers) (netlist_of layers) is_end has_ended finishes (items file) (items (take n file)) (record { probes = probes; names = names }) (record { probes = others; names = words }) (forms f.before) ends (forms e.1 ++ finishes ∷ []) (forms f.after ++ finishes ∷ []) (table_ends layers) (ended_idle layers) read cut
    (said_at file f.before e.0 e.1 e.2 (told_ends e.0.text e.3)) (said_at (take n file) f.before f.line f.after f.among f.is) refl

pub prefix_makes_the_same : (file : List ℕ) (layers : ℕ) (probes others : List Probe) (names words : List (List ℕ)) (n : ℕ) → IsRead file layers probes names → IsRead (take n file) layers others words → (others ≡ probes) × (words ≡ names)
prefix_makes_the_same file layers probes others names words n read cut = elim (leb_tells n (length file)) [
  | inl within ↦ both (same_within file layers probes others names words n read cut within.1)
  | inr past ↦ both ((one_answer file layers).one_value (record { probes = others; names = words }) (record { probes = probes; names = names }) (subst (λ (xs : List ℕ). IsRead xs layers others words) (take_all n file (let h = past.1 in omega arith)) cut) read)
]
  where
    both : ◌≡◌ {A = Netlist} (record { probes = others; names = words }) (record { probes = probes; names = names }) → (others ≡ probes) × (words ≡ names)
    both e = (ap (λ (l : Netlist). l.probes) e, ap (λ (l : Netlist). l.names) e)
