-- The line that ends a netlist, and prefixes without it.
use Rattle.std.proofs.Common.{◌≡◌, ℕ, ◌+◌, ◌<◌, ◌≤◌, ◌⊎◌, inl, inr, Bool, true, false, not, List, [], ◌∷◌, ◌++◌, length, map, take, codes, Some, None, refl, sym, ap, ◌∙◌, subst, append_assoc, arith}
use Rattle.std.proofs.lemmas.List.{map-append, take_all}
use Rattle.std.proofs.lemmas.Bool.Decides.{leb_tells}
use Rattle.ipc356_records.specs.Columns.{words}
use Rattle.board_shapes.specs.declared.probe.Probe.{Probe}
use Rattle.file_reading.specs.Reading.{Item, said}
use Rattle.file_reading.proofs.Ending.{NoneEnd, none_before_end, refused_without_end, same_made}
use Rattle.texts.specs.Lines.{PlainLine, lines_of}
use Rattle.texts.specs.Words.{begins}
use Rattle.texts.proofs.Prefix.{AreCut, NoneEnds, end_of_prefix, no_end_in_prefix, lines_of_prefix}
use Rattle.ipc356_records.specs.declared.kind.RecordKind.{RecordKind}
use Rattle.ipc356_records.specs.Line.{RecordLine, units, ends, tests, unknown, finishes}
use Rattle.ipc356_records.specs.Settings.{is_end, has_ended}
use Rattle.ipc356_records.specs.NetlistFile.{Netlist, effect_at, netlist_of}
use Rattle.net_forms.specs.NetFile.{item_of, items, IsRead, IsRefused}
use Rattle.net_forms.specs.Laws.{IsEndLine, PrefixIsRefused}
use Rattle.net_forms.proofs.OneAnswer.{one_answer}
use Rattle.ipc356_records.specs.RecordLines as narrow_lines
use Rattle.ipc356_records.specs.RecordLines.{fields_in}
use Rattle.ipc356_records.proofs.Ending as narrow
use Rattle.ipc356_records.proofs.Ending.{tells, reach, code_tells_end, ends_of, ended_idle, table_ends, neither}
use Rattle.net_forms.specs.NetLines.{form_of, further, widened}

-- ---- Lines

told_ends : (text : List ℕ) → tells text ≡ true → form_of text ≡ ends
unfolding form_of
told_ends text h = ap (λ (n : RecordLine). widened n text) (narrow.told_ends text h)

clash : (b : Bool) → b ≡ false → b ≡ true → ⊥
clash true h g = cc
clash false h g = cc

no_further : (text : List ℕ) → is_end (further text) ≡ false
unfolding further
no_further text = neither (not (begins text (codes "307"))) unknown (tests (fields_in text)) refl refl

only_end : (n : RecordLine) (text : List ℕ) → is_end (widened n text) ≡ true → is_end n ≡ true
only_end unknown text h = absurd (clash (is_end (further text)) (no_further text) h)
only_end (units None) text h = cc
only_end (units (Some u)) text h = cc
only_end ends text h = refl
only_end other text h = cc

ends_told : (text : List ℕ) → is_end (form_of text) ≡ true → tells text ≡ true
unfolding form_of
ends_told text h = narrow.ends_told text (only_end (narrow_lines.form_of text) text h)

-- forms of lines
abbrev forms : List PlainLine → List RecordLine
forms lines = map (λ line. form_of line.text) lines

said_lines : (lines : List PlainLine) (last : Item RecordLine) → said (map item_of lines ++ last ∷ []) ≡ forms lines ++ last.says ∷ []
said_lines [] last = refl
said_lines (line ∷ lines) last = ap (λ (fs : List RecordLine). form_of line.text ∷ fs) (said_lines lines last)

said_items : (file : List ℕ) → said (items file) ≡ forms (lines_of file) ++ finishes ∷ []
said_items file = said_lines (lines_of file) (record { says = finishes; at = length (lines_of file) + 1 })

-- the same, around a line of the end's
said_at : (file : List ℕ) (before : List PlainLine) (line : PlainLine) (after : List PlainLine) → lines_of file ≡ before ++ line ∷ after → form_of line.text ≡ ends → said (items file) ≡ forms before ++ ends ∷ (forms after ++ finishes ∷ [])
said_at file before line after among is =
    said_items file ∙ ap (λ (ls : List PlainLine). forms ls ++ finishes ∷ []) among ∙ ap (λ (fs : List RecordLine). fs ++ finishes ∷ []) (map-append (λ (l : PlainLine). form_of l.text) before (line ∷ after))
    ∙ append_assoc (forms before) (form_of line.text ∷ forms after) (finishes ∷ []) ∙ ap (λ (f : RecordLine). forms before ++ f ∷ (forms after ++ finishes ∷ [])) is

no_bytes : (lines : List PlainLine) → NoneEnd is_end (forms lines) → NoneEnds tells lines
no_bytes [] none = tt
no_bytes (line ∷ lines) none = (by (tells line.text) refl, no_bytes lines none.1)
  where
    by : (b : Bool) → tells line.text ≡ b → tells line.text ≡ false
    by false h = h
    by true h = absurd (let is : is_end (form_of line.text) ≡ true = ap is_end (told_ends line.text h) in let no = none.0 in cc)

no_forms : (lines : List PlainLine) → NoneEnds tells lines → NoneEnd is_end (forms lines)
no_forms [] none = tt
no_forms (line ∷ lines) none = (by (is_end (form_of line.text)) refl, no_forms lines none.1)
  where
    by : (b : Bool) → is_end (form_of line.text) ≡ b → is_end (form_of line.text) ≡ false
    by false h = h
    by true h = absurd (let is = ends_told line.text h in let no = none.0 in cc)

abbrev Refused : List ℕ → ℕ → Type 0
Refused file layers = (why : RecordKind) × (number : ℕ) × IsRefused file layers why number

-- a file none of whose lines is the end's
refused : (file : List ℕ) (layers : ℕ) → NoneEnd is_end (forms (lines_of file)) → Refused file layers
refused file layers none =
    let r = refused_without_end (effect_at layers) (netlist_of layers) is_end has_ended finishes (items file) (forms (lines_of file)) (table_ends layers) (said_items file) none in
    (r.0, r.2, (r.1, r.3))

-- a prefix that ends within the file
prefix_refused : (file : List ℕ) (layers : ℕ) (probes : List Probe) (names : List (List ℕ)) (line : PlainLine) (n : ℕ) → IsRead file layers probes names → IsEndLine file line → n < line.at + 3 → n ≤ length file → Refused (take n file) layers
unfolding reach
prefix_refused file layers probes names line n read e low within =
    let none = none_before_end (effect_at layers) (netlist_of layers) is_end has_ended finishes (items file) (record { probes = probes; names = names }) (forms e.before) ends (forms e.after ++ finishes ∷ []) (table_ends layers) read (said_at file e.before line e.after e.among e.is) refl in
    let cut = subst (λ (ls : List PlainLine). AreCut n ls (lines_of (take n file))) e.among (lines_of_prefix file n within) in
    refused (take n file) layers (no_forms (lines_of (take n file)) (no_end_in_prefix tells reach n e.before line e.after (lines_of (take n file)) code_tells_end cut (no_bytes e.before none) (ends_told line.text (ap is_end e.is)) low))

-- a line of the end's, or none
record Found (lines : List PlainLine) : Type 0 where
  line : PlainLine
  before : List PlainLine
  after : List PlainLine
  among : lines ≡ before ++ line ∷ after
  is : form_of line.text ≡ ends

seek : (lines : List PlainLine) → Found lines ⊎ NoneEnd is_end (forms lines)
seek [] = inr tt
seek (line ∷ lines) = by (is_end (form_of line.text)) refl (seek lines)
  where
    by : (b : Bool) → is_end (form_of line.text) ≡ b → Found lines ⊎ NoneEnd is_end (forms lines) → Found (line ∷ lines) ⊎ NoneEnd is_end (forms (line ∷ lines))
    by true h more = inl (record { line = line; before = []; after = lines; among = refl; is = ends_of (form_of line.text) h })
    by false h (inl f) = inl (record { line = f.line; before = line ∷ f.before; after = f.after; among = ap (λ (ls : List PlainLine). line ∷ ls) f.among; is = f.is })
    by false h (inr none) = inr (h, none)

found_in : (file : List ℕ) (layers : ℕ) (probes : List Probe) (names : List (List ℕ)) → IsRead file layers probes names → Found (lines_of file)
found_in file layers probes names read = elim (seek (lines_of file)) [
  | inl f ↦ f
  | inr none ↦ absurd (let r = refused file layers none in (one_answer file layers).not_both (record { probes = probes; names = names }) r.0 r.2.0 r.1 read r.2.1)
]

pub prefix_is_refused : (file : List ℕ) (layers : ℕ) → PrefixIsRefused file layers
prefix_is_refused file layers probes names read = (
  (let f = found_in file layers probes names read in (f.line, record { before = f.before; after = f.after; among = f.among; is = f.is })),
  λ line e n low. elim (leb_tells n (length file)) [
    | inl within ↦ prefix_refused file layers probes names line n read e low within.1
    | inr past ↦ (
        let whole : take (length file) file ≡ take n file = take_all (length file) file (omega arith) ∙ sym (take_all n file (let h = past.1 in omega arith)) in
        subst (λ (xs : List ℕ). Refused xs layers) whole (prefix_refused file layers probes names line (length file) read e (let h = past.1 in omega (arith, h, low)) (omega arith))
        )
  ],
)

-- ---- A prefix that is read

same_within : (file : List ℕ) (layers : ℕ) (probes others : List Probe) (names words : List (List ℕ)) (n : ℕ) → IsRead file layers probes names → IsRead (take n file) layers others words → n ≤ length file → ◌≡◌ {A = Netlist} (record { probes = others; names = words }) (record { probes = probes; names = names })
same_within file layers probes others names words n read cut within =
    let f = found_in (take n file) layers others words cut in
    let lines = subst (AreCut n (lines_of file)) f.among (lines_of_prefix file n within) in
    let e = end_of_prefix tells reach n (lines_of file) f.before f.line f.after code_tells_end lines (ends_told f.line.text (ap is_end f.is)) in
    same_made (effect_at layers) (netlist_of layers) is_end has_ended finishes (items file) (items (take n file)) (record { probes = probes; names = names }) (record { probes = others; names = words }) (forms f.before) ends (forms e.1 ++ finishes ∷ []) (forms f.after ++ finishes ∷ []) (table_ends layers) (ended_idle layers) read cut
    (said_at file f.before e.0 e.1 e.2 (told_ends e.0.text e.3)) (said_at (take n file) f.before f.line f.after f.among f.is) refl

pub prefix_makes_the_same : (file : List ℕ) (layers : ℕ) (probes others : List Probe) (names words : List (List ℕ)) (n : ℕ) → IsRead file layers probes names → IsRead (take n file) layers others words → (others ≡ probes) × (words ≡ names)
prefix_makes_the_same file layers probes others names words n read cut = elim (leb_tells n (length file)) [
  | inl within ↦ both (same_within file layers probes others names words n read cut within.1)
  | inr past ↦ both ((one_answer file layers).one_value (record { probes = others; names = words }) (record { probes = probes; names = names }) (subst (λ (xs : List ℕ). IsRead xs layers others words) (take_all n file (let h = past.1 in omega arith)) cut) read)
]
  where
    both : ◌≡◌ {A = Netlist} (record { probes = others; names = words }) (record { probes = probes; names = names }) → (others ≡ probes) × (words ≡ names)
    both e = (ap (λ (l : Netlist). l.probes) e, ap (λ (l : Netlist). l.names) e)
