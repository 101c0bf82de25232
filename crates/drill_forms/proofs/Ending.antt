-- The line that ends a drill file, and prefixes without it.
use Rattle.std.proofs.Common.{◌≡◌, ℕ, ◌+◌, ◌<◌, ◌≤◌, ◌⊎◌, inl, inr, Bool, true, false, ◌&&◌, nat_le, not, if◌then◌else◌, List, [], ◌∷◌, ◌++◌, length, map, reverse, take, drop, codes, Option, Some, None, Result, Ok, IsOk, refl, sym, ap, ◌∙◌, subst, append_assoc, arith}
use Rattle.std.specs.List.{list_any, list_all, after_first}
use Rattle.std.proofs.lemmas.List.{append-nil, take_all, map-append}
use Rattle.std.proofs.lemmas.Bool.Decides.{leb_tells}
use Rattle.board_shapes.specs.Plain.{PlainPiece}
use Rattle.lengths.specs.Decimal.{Fraction, decimal}
use Rattle.lengths.specs.declared.decimal.Unit.{Unit as Measure}
use Rattle.lengths.specs.declared.decimal.Unit.TheVariants.{Mm, Inch}
use Rattle.file_reading.specs.Reading.{Item, said}
use Rattle.file_reading.proofs.Ending.{CleanOn, Ends, NoneEnd, clean_behind, none_before_end, read_clean, refused_without_end, same_made}
use Rattle.texts.specs.Blanks.{trimmed, without_back, without_front}
use Rattle.texts.specs.Lines.{PlainLine, lines_of}
use Rattle.texts.specs.Words.{begins, is_word}
use Rattle.texts.proofs.Prefix.{AreCut, NoneEnds, end_of_prefix, no_end_in_prefix, lines_of_prefix}
use Rattle.xnc.specs.declared.kind.DrillKind.{DrillKind}
use Rattle.xnc.specs.declared.kind.DrillKind.TheVariants as kind
use Rattle.xnc.specs.declared.line.DrillLine.{DrillLine}
use Rattle.xnc.specs.declared.line.DrillLine.TheVariants as line
use Rattle.xnc.specs.declared.settings.Settings.{Settings}
use Rattle.xnc.specs.Places.{Place}
use Rattle.xnc.specs.DrillEffects.{Effect, stays, unless, effect, is_ended}
use Rattle.xnc.specs.DrillLines as narrow_lines
use Rattle.xnc.specs.DrillLines.{is_c, is_g, defines, tool_number, names_span, further, field}
use Rattle.xnc.specs.Laws.{end_of}
use Rattle.xnc.specs.Settings.{stage_at, settings_at, known_with, piece_of}
use Rattle.xnc.proofs.Ending as narrow
use Rattle.xnc.proofs.Ending.{staged_ended, unknown_fault, tells, reach, code_tells_end, code_behind, back_kept, neither, no_defines}
use Rattle.drill_forms.specs.declared.form.Zeros.{Zeros}
use Rattle.drill_forms.specs.declared.form.Layout.{Layout}
use Rattle.drill_forms.specs.declared.form.Along.{Along}
use Rattle.drill_forms.specs.declared.form.FormLine.{FormLine}
use Rattle.drill_forms.specs.declared.form.FormLine.TheVariants as form
use Rattle.drill_forms.specs.declared.notes.Words.{Words}
use Rattle.drill_forms.specs.FormLines.{form_of, widened, more_words, is_idle, comment, layout_comment, attribute, counts_of, mixed, units, units_behind, units_with, layout_of, tool_form, slot_form, slots, form_with, along_of, have_points, is_tool_byte, before_letter}
use Rattle.drill_forms.specs.Meaning.{line_in, told, is_amiss, idle, is_body, is_header, is_outside, is_unit, function_amiss}
use Rattle.drill_forms.specs.History.{lines_at, line_at, words_at, effect_at, barrels_at, is_bare_at, kept}
use Rattle.drill_forms.specs.FormFile.{item_of, items, IsRead, IsRefused}
use Rattle.drill_forms.specs.Laws.{IsEndLine, PrefixIsRefused}
use Rattle.drill_forms.proofs.OneAnswer.{one_answer}

abbrev ending : FormLine
ending = form.Says line.End

abbrev finish : FormLine
finish = form.Says line.Finish

abbrev is_end : FormLine → Bool
is_end (form.Says line.End) = true
is_end other = false

abbrev has_ended : List FormLine → Bool
has_ended earlier = is_ended (stage_at (lines_at earlier))

ends_of : (f : FormLine) → is_end f ≡ true → f ≡ ending
ends_of (form.Says line.End) h = refl
ends_of other h = cc

-- ---- The table

silent_idle : (b : Bool) → narrow.is_end (if b then line.Blank else line.Format) ≡ false
silent_idle b = neither b line.Blank line.Format refl refl

-- only the end means the end
silent : (s : Settings) (w : Words) (f : FormLine) → is_end f ≡ false → narrow.is_end (line_in s w f) ≡ false
unfolding line_in
silent s w (form.Says line.End) h = cc
silent s w (form.Says (line.Tool n d)) h = neither (is_amiss w.mixed (told w) w) (line.Misfit kind.MixedPlating) (line.Tool n d) refl refl
silent s w (form.Says line.HeaderEnd) h = neither (is_outside s.stage) line.Blank line.HeaderEnd refl refl
silent s w (form.Says line.Drill) h = neither (is_header s.stage) line.Format line.Drill refl refl
silent s w (form.Says line.Format) h = silent_idle (is_body s.stage)
silent s w (form.Says other) h = refl
silent s w (form.Rout a) h = refl
silent s w (form.Straight a) h = refl
silent s w (form.Hit a) h = refl
silent s w (form.Slot a b) h = refl
silent s w (form.Units unit zeros layout) h = neither (is_body s.stage) (if is_unit s.unit unit then line.Blank else line.Unknown) (line.Unit unit) (neither (is_unit s.unit unit) line.Blank line.Unknown refl refl) refl
silent s w (form.Counts layout) h = refl
silent s w (form.Lasting plated) h = neither (is_body s.stage && not plated) (line.Misfit kind.MixedPlating) line.Blank refl refl
silent s w (form.Next plated) h = neither (is_body s.stage && not plated) (line.Misfit kind.MixedPlating) line.Blank refl refl
silent s w form.Untold h = refl
silent s w (form.Function m) h = neither (function_amiss m w) (line.Misfit kind.MixedPlating) line.Blank refl refl
silent s w form.Idle h = silent_idle (is_body s.stage)
silent s w form.Ends h = refl
silent s w form.Lift h = neither s.down line.Raise (idle s.stage) refl (silent_idle (is_body s.stage))

still : (earlier : List FormLine) (f : FormLine) → is_end f ≡ false → has_ended earlier ≡ false → has_ended (f ∷ earlier) ≡ false
unfolding lines_at
still earlier f h before = narrow.still (lines_at earlier) (line_at earlier f) (silent (settings_at (lines_at earlier)) (words_at earlier) f h) before

ends : (earlier : List FormLine) (f : FormLine) → is_end f ≡ true → has_ended (f ∷ earlier) ≡ true
unfolding lines_at line_in
ends earlier f h = ap (λ (g : FormLine). has_ended (g ∷ earlier)) (ends_of f h)

keeps : (p : Place) (lines : List DrillLine) (n : ℕ) (l : DrillLine) → narrow.has_ended lines ≡ true → IsOk (effect (known_with p lines n) l) → narrow.has_ended (l ∷ lines) ≡ true
unfolding effect
keeps p lines n line.Start h ok = absurd (staged_ended (stage_at lines) (known_with p lines n) line.Start h ok)
keeps p lines n line.HeaderEnd h ok = absurd (staged_ended (stage_at lines) (known_with p lines n) line.HeaderEnd h ok)
keeps p lines n line.End h ok = refl
keeps p lines n other h ok = h

keeps_ended : (p : Place) (earlier : List FormLine) (f : FormLine) → has_ended earlier ≡ true → IsOk (effect_at p earlier f) → has_ended (f ∷ earlier) ≡ true
unfolding lines_at
keeps_ended p earlier f h ok = keeps p (lines_at earlier) (length (barrels_at p earlier)) (line_at earlier f) h ok

once : (p : Place) (earlier : List FormLine) (f : FormLine) → has_ended earlier ≡ true → is_end f ≡ true → IsOk (effect_at p earlier f) → ⊥
unfolding effect line_in
once p earlier f h is ok = staged_ended (stage_at (lines_at earlier)) (known_with p (lines_at earlier) (length (barrels_at p earlier))) line.End h (subst (λ (g : FormLine). IsOk (effect_at p earlier g)) (ends_of f is) ok)

needed : (p : Place) (earlier : List FormLine) → has_ended earlier ≡ false → IsOk (effect_at p earlier finish) → ⊥
unfolding effect line_in
needed p earlier before ok = unended (has_ended earlier) before ok
  where
    unended : (b : Bool) → b ≡ false → IsOk (unless (not b) kind.NotEnded (Ok stays)) → ⊥
    unended true before ok = cc
    unended false before ok = cc

new : has_ended [] ≡ false
unfolding lines_at
new = refl

table_ends : (p : Place) → Ends (effect_at p) is_end has_ended finish
table_ends p = record { new = new; still = still; ends = ends; stays = keeps_ended p; once = once p; needed = needed p }

not_unknown : (p : Place) (earlier : List FormLine) → IsOk (effect_at p earlier (form.Says line.Unknown)) → ⊥
unfolding effect line_in
not_unknown p earlier ok = unknown_fault (stage_at (lines_at earlier)) (known_with p (lines_at earlier) (length (barrels_at p earlier))) ok

-- ---- Texts

abbrev IsEndOrUnknown : FormLine → Type 0
IsEndOrUnknown f = (f ≡ ending) ⊎ (f ≡ form.Says line.Unknown)

code_more : (rest : List ℕ) → more_words (77 ∷ 51 ∷ 48 ∷ rest) ≡ form.Says line.Unknown
unfolding more_words is_idle
code_more rest = refl

told_form : (from to : ℕ) (text : List ℕ) → tells text ≡ true → IsEndOrUnknown (form_of from to text)
unfolding form_of widened
told_form from to text h = by (narrow.told_form from to text h)
  where
    kept : (n : ℕ) × (trimmed text ≡ 77 ∷ 51 ∷ 48 ∷ take n (drop 3 (without_front text)))
    kept = let k = back_kept (drop 3 (without_front text)) in (k.0, ap without_back (code_behind (without_front text) h) ∙ k.1)

    by : narrow.IsEndOrUnknown (narrow_lines.form_of from to text) → IsEndOrUnknown (form_of from to text)
    by (inl e) = inl (ap (λ (l : DrillLine). widened from to l (trimmed text)) e)
    by (inr e) = inr (ap (λ (l : DrillLine). widened from to l (trimmed text)) e ∙ ap more_words kept.1 ∙ code_more (take kept.0 (drop 3 (without_front text))))

-- and only such a line is the end's
none : (b : Bool) (x y : FormLine) → is_end x ≡ false → is_end y ≡ false → is_end (if b then x else y) ≡ false
none true x y first second = first
none false x y first second = second

no_counts : (t : List ℕ) → is_end (counts_of t) ≡ false
unfolding counts_of
no_counts [] = refl
no_counts (a ∷ []) = refl
no_counts (a ∷ b ∷ []) = refl
no_counts (a ∷ b ∷ c ∷ []) = none _ (form.Counts _) (form.Says line.Blank) refl refl
no_counts (a ∷ b ∷ c ∷ d ∷ t) = refl

no_comment : (t : List ℕ) → is_end (comment t) ≡ false
unfolding comment layout_comment attribute
no_comment t =
    none (is_word t (codes ";TYPE=PLATED")) _ _ refl
    (none (is_word t (codes ";TYPE=NON_PLATED")) _ _ refl
    (none (begins t (codes "; #@! TA.AperFunction,")) _ _ (none (is_word (field (drop 22 t)) (codes "Plated")) _ _ refl (none (is_word (field (drop 22 t)) (codes "NonPlated")) _ _ refl refl))
    (none (begins t (codes "; #@! TD")) _ _ refl
    (none (begins t (codes "; #@! TF.FileFunction,")) _ _ refl
    (none (begins t (codes ";FILE_FORMAT=")) _ _ (no_counts (drop 13 t))
    (none (begins t (codes "; FORMAT={")) _ _ (no_counts _) refl))))))

no_mixed : (from to : ℕ) (t : List ℕ) → is_end (mixed from to t) ≡ false
unfolding mixed
no_mixed from to t = none (names_span from to (further (drop 22 t))) _ _ refl refl

no_units_with : (u : Measure) (z : Option Zeros) (l : Option Layout) → is_end (units_with u z l) ≡ false
no_units_with u z None = refl
no_units_with u z (Some l) = refl

no_units_behind : (u : Measure) (z : Option Zeros) (t : List ℕ) → is_end (units_behind u z t) ≡ false
unfolding units_behind
no_units_behind u z t = none (begins t (codes ",")) _ _ (no_units_with u z (layout_of (drop 1 t))) (none (nat_le (length t) 0) (form.Units u z None) (form.Says line.Unknown) refl refl)

no_units : (u : Measure) (t : List ℕ) → is_end (units u t) ≡ false
unfolding units
no_units u t = none (begins t (codes ",LZ")) _ _ (no_units_behind u _ (drop 3 t)) (none (begins t (codes ",TZ")) _ _ (no_units_behind u _ (drop 3 t)) (no_units_behind u None t))

says_defines : (n : Option ℕ) (d : Option Fraction) → is_end (form.Says (defines n d)) ≡ false
says_defines (Some n) (Some d) = refl
says_defines (Some n) None = refl
says_defines None d = refl

no_tool : (t : List ℕ) → is_end (tool_form t) ≡ false
unfolding tool_form
no_tool t =
    none (list_all is_tool_byte t && not (list_any is_c (after_first is_c t))) (form.Says (defines (tool_number (before_letter t)) (decimal (before_letter (after_first is_c t))))) (form.Says line.Unknown)
    (says_defines (tool_number (before_letter t)) (decimal (before_letter (after_first is_c t)))) refl

no_more : (t : List ℕ) → is_end (more_words t) ≡ false
unfolding more_words
no_more t =
    none (is_word t (codes "M71")) _ _ refl
    (none (is_word t (codes "M72")) _ _ refl
    (none (is_word t (codes "M95")) _ _ refl
    (none (is_word t (codes "M17")) _ _ refl
    (none (is_idle t) _ _ refl
    (none (begins t (codes "METRIC")) _ _ (no_units Mm (drop 6 t))
    (none (begins t (codes "INCH")) _ _ (no_units Inch (drop 4 t))
    (none (begins t (codes "T")) _ _ (no_tool (drop 1 t)) refl)))))))

no_along : (make : Along → FormLine) → ((a : Along) → is_end (make a) ≡ false) → (o : Option Along) → is_end (form_with make o) ≡ false
no_along make h None = refl
no_along make h (Some a) = h a

no_slots : (a b : Option Along) → is_end (slots a b) ≡ false
no_slots (Some a) (Some b) = refl
no_slots (Some a) None = refl
no_slots None b = refl

no_slot : (t : List ℕ) → is_end (slot_form t) ≡ false
unfolding slot_form
no_slot t = no_slots _ _

clash : (b : Bool) → b ≡ false → b ≡ true → ⊥
clash true h g = cc
clash false h g = cc

only_end : (from to : ℕ) (l : DrillLine) (t : List ℕ) → is_end (widened from to l t) ≡ true → narrow.is_end l ≡ true
unfolding widened
only_end from to line.End t h = refl
only_end from to line.Blank t h = absurd (clash (is_end (comment t)) (no_comment t) h)
only_end from to (line.Misfit kind.MixedPlating) t h = absurd (clash (is_end (mixed from to t)) (no_mixed from to t) h)
only_end from to (line.Misfit why) t h = cc
only_end from to (line.Unit Mm) t h = cc
only_end from to (line.Unit Inch) t h = cc
only_end from to line.Unknown t h = absurd (clash (is_end (more_words t)) (no_more t) h)
only_end from to (line.Rout c) t h = absurd (clash _ (none (have_points c) (form.Says (line.Rout c)) (form_with form.Rout (along_of (drop 3 t))) refl (no_along form.Rout (λ a. refl) (along_of (drop 3 t)))) h)
only_end from to (line.Straight c) t h = absurd (clash _ (none (have_points c) (form.Says (line.Straight c)) (form_with form.Straight (along_of (drop 3 t))) refl (no_along form.Straight (λ a. refl) (along_of (drop 3 t)))) h)
only_end from to (line.Hit c) t h = absurd (clash _ (none (have_points c) (form.Says (line.Hit c)) (form_with form.Hit (along_of t)) refl (no_along form.Hit (λ a. refl) (along_of t))) h)
only_end from to (line.Slot c d) t h = absurd (clash _ (none (have_points c && have_points d) (form.Says (line.Slot c d)) (slot_form t) refl (no_slot t)) h)
only_end from to other t h = cc

ends_told : (from to : ℕ) (text : List ℕ) → is_end (form_of from to text) ≡ true → tells text ≡ true
unfolding form_of
ends_told from to text h = narrow.ends_told from to text (only_end from to (narrow_lines.form_of from to text) (trimmed text) h)

-- forms of lines
abbrev forms : Place → List PlainLine → List FormLine
forms p lines = map (λ line. form_of p.from p.to line.text) lines

said_lines : (p : Place) (lines : List PlainLine) (last : Item FormLine) → said (map (item_of p) lines ++ last ∷ []) ≡ forms p lines ++ last.says ∷ []
said_lines p [] last = refl
said_lines p (line ∷ lines) last = ap (λ (fs : List FormLine). form_of p.from p.to line.text ∷ fs) (said_lines p lines last)

said_items : (file : List ℕ) (p : Place) → said (items p file) ≡ forms p (lines_of file) ++ finish ∷ []
said_items file p = said_lines p (lines_of file) (record { says = finish; at = length file })

-- the same, around a line, and around one of the end's
said_around : (file : List ℕ) (p : Place) (before : List PlainLine) (line : PlainLine) (after : List PlainLine) → lines_of file ≡ before ++ line ∷ after → said (items p file) ≡ forms p before ++ form_of p.from p.to line.text ∷ (forms p after ++ finish ∷ [])
said_around file p before line after among =
    said_items file p ∙ ap (λ (ls : List PlainLine). forms p ls ++ finish ∷ []) among ∙ ap (λ (fs : List FormLine). fs ++ finish ∷ []) (map-append (λ (l : PlainLine). form_of p.from p.to l.text) before (line ∷ after))
    ∙ append_assoc (forms p before) (form_of p.from p.to line.text ∷ forms p after) (finish ∷ [])

said_at : (file : List ℕ) (p : Place) (before : List PlainLine) (line : PlainLine) (after : List PlainLine) → lines_of file ≡ before ++ line ∷ after → form_of p.from p.to line.text ≡ ending → said (items p file) ≡ forms p before ++ ending ∷ (forms p after ++ finish ∷ [])
said_at file p before line after among is = said_around file p before line after among ∙ ap (λ (f : FormLine). forms p before ++ f ∷ (forms p after ++ finish ∷ [])) is

-- lines before the end's do not begin so, since none of them has a fault
no_bytes : (p : Place) (earlier : List FormLine) (lines : List PlainLine) (rest : List FormLine) → CleanOn (effect_at p) earlier (forms p lines ++ rest) → NoneEnd is_end (forms p lines) → NoneEnds tells lines
no_bytes p earlier [] rest clean none = tt
no_bytes p earlier (line ∷ lines) rest clean none = (by (tells line.text) refl, no_bytes p (form_of p.from p.to line.text ∷ earlier) lines rest clean.1 none.1)
  where
    never : IsEndOrUnknown (form_of p.from p.to line.text) → ⊥
    never (inl h) = let is : is_end (form_of p.from p.to line.text) ≡ true = ap is_end h in let other = none.0 in cc
    never (inr h) = not_unknown p earlier (subst (λ (f : FormLine). IsOk (effect_at p earlier f)) h clean.0)

    by : (b : Bool) → tells line.text ≡ b → tells line.text ≡ false
    by false h = h
    by true h = absurd (never (told_form p.from p.to line.text h))

no_forms : (p : Place) (lines : List PlainLine) → NoneEnds tells lines → NoneEnd is_end (forms p lines)
no_forms p [] none = tt
no_forms p (line ∷ lines) none = (by (is_end (form_of p.from p.to line.text)) refl, no_forms p lines none.1)
  where
    by : (b : Bool) → is_end (form_of p.from p.to line.text) ≡ b → is_end (form_of p.from p.to line.text) ≡ false
    by false h = h
    by true h = absurd (let told = ends_told p.from p.to line.text h in let other = none.0 in cc)

abbrev Refused : List ℕ → Place → Type 0
Refused file p = (why : DrillKind) × (number : ℕ) × (place : ℕ) × IsRefused file p why number place

-- a file none of whose lines is the end's
refused : (file : List ℕ) (p : Place) → NoneEnd is_end (forms p (lines_of file)) → Refused file p
refused file p none = refused_without_end (effect_at p) (barrels_at p) is_end has_ended finish (items p file) (forms p (lines_of file)) (table_ends p) (said_items file p) none

-- a prefix that ends within the file
prefix_refused : (file : List ℕ) (p : Place) (pieces : List PlainPiece) (line : PlainLine) (n : ℕ) → IsRead file p pieces → IsEndLine file p line → n < end_of line → n ≤ length file → Refused (take n file) p
prefix_refused file p pieces line n read e low within =
    let parts = said_at file p e.before line e.after e.among e.is in
    let none = none_before_end (effect_at p) (barrels_at p) is_end has_ended finish (items p file) pieces (forms p e.before) ending (forms p e.after ++ finish ∷ []) (table_ends p) read parts refl in
    let clean = subst (CleanOn (effect_at p) []) parts (read_clean (effect_at p) (barrels_at p) (items p file) pieces read) in
    let cut = subst (λ (ls : List PlainLine). AreCut n ls (lines_of (take n file))) e.among (lines_of_prefix file n within) in
    let bytes = no_bytes p [] e.before (ending ∷ (forms p e.after ++ finish ∷ [])) clean none in
    refused (take n file) p (no_forms p (lines_of (take n file)) (no_end_in_prefix tells reach n e.before line e.after (lines_of (take n file)) code_tells_end cut bytes (ends_told p.from p.to line.text (ap is_end e.is)) low))

-- a line of the end's, or none
record Found (p : Place) (lines : List PlainLine) : Type 0 where
  line : PlainLine
  before : List PlainLine
  after : List PlainLine
  among : lines ≡ before ++ line ∷ after
  is : form_of p.from p.to line.text ≡ ending

seek : (p : Place) (lines : List PlainLine) → Found p lines ⊎ NoneEnd is_end (forms p lines)
seek p [] = inr tt
seek p (line ∷ lines) = by (is_end (form_of p.from p.to line.text)) refl (seek p lines)
  where
    by : (b : Bool) → is_end (form_of p.from p.to line.text) ≡ b → Found p lines ⊎ NoneEnd is_end (forms p lines) → Found p (line ∷ lines) ⊎ NoneEnd is_end (forms p (line ∷ lines))
    by true h more = inl (record { line = line; before = []; after = lines; among = refl; is = ends_of (form_of p.from p.to line.text) h })
    by false h (inl f) = inl (record { line = f.line; before = line ∷ f.before; after = f.after; among = ap (λ (ls : List PlainLine). line ∷ ls) f.among; is = f.is })
    by false h (inr none) = inr (h, none)

found_in : (file : List ℕ) (p : Place) (pieces : List PlainPiece) → IsRead file p pieces → Found p (lines_of file)
found_in file p pieces read = elim (seek p (lines_of file)) [
  | inl f ↦ f
  | inr none ↦ absurd (let r = refused file p none in (one_answer file p).not_both pieces r.0 r.1 r.2 read r.3)
]

pub prefix_is_refused : (file : List ℕ) (p : Place) → PrefixIsRefused file p
prefix_is_refused file p pieces read = (
  (let f = found_in file p pieces read in (f.line, record { before = f.before; after = f.after; among = f.among; is = f.is })),
  λ line e n low. elim (leb_tells n (length file)) [
    | inl within ↦ prefix_refused file p pieces line n read e low within.1
    | inr past ↦ (
        let whole : take (length file) file ≡ take n file = take_all (length file) file (omega arith) ∙ sym (take_all n file (let h = past.1 in omega arith)) in
        subst (λ (xs : List ℕ). Refused xs p) whole (prefix_refused file p pieces line (length file) read e (let h = past.1 in omega (arith, h, low)) (omega arith))
        )
  ],
)

-- behind the end a line without a fault does nothing
stays_known : (p : Place) (lines : List DrillLine) (n : ℕ) (l : DrillLine) → narrow.has_ended lines ≡ true → IsOk (effect (known_with p lines n) l) → effect (known_with p lines n) l ≡ Ok stays
unfolding effect
stays_known p lines n line.Blank h ok = refl
stays_known p lines n (line.Misfit why) h ok = cc
stays_known p lines n line.Start h ok = absurd (staged_ended (stage_at lines) (known_with p lines n) line.Start h ok)
stays_known p lines n line.Format h ok = absurd (staged_ended (stage_at lines) (known_with p lines n) line.Format h ok)
stays_known p lines n line.Absolute h ok = absurd (staged_ended (stage_at lines) (known_with p lines n) line.Absolute h ok)
stays_known p lines n (line.Unit unit) h ok = absurd (staged_ended (stage_at lines) (known_with p lines n) (line.Unit unit) h ok)
stays_known p lines n (line.Tool m d) h ok = absurd (staged_ended (stage_at lines) (known_with p lines n) (line.Tool m d) h ok)
stays_known p lines n line.HeaderEnd h ok = absurd (staged_ended (stage_at lines) (known_with p lines n) line.HeaderEnd h ok)
stays_known p lines n line.Arc h ok = absurd (staged_ended (stage_at lines) (known_with p lines n) line.Arc h ok)
stays_known p lines n line.NoTool h ok = absurd (staged_ended (stage_at lines) (known_with p lines n) line.NoTool h ok)
stays_known p lines n (line.Select m) h ok = absurd (staged_ended (stage_at lines) (known_with p lines n) (line.Select m) h ok)
stays_known p lines n line.Drill h ok = absurd (staged_ended (stage_at lines) (known_with p lines n) line.Drill h ok)
stays_known p lines n (line.Rout to) h ok = absurd (staged_ended (stage_at lines) (known_with p lines n) (line.Rout to) h ok)
stays_known p lines n line.Lower h ok = absurd (staged_ended (stage_at lines) (known_with p lines n) line.Lower h ok)
stays_known p lines n line.Raise h ok = absurd (staged_ended (stage_at lines) (known_with p lines n) line.Raise h ok)
stays_known p lines n (line.Straight to) h ok = absurd (staged_ended (stage_at lines) (known_with p lines n) (line.Straight to) h ok)
stays_known p lines n (line.Hit at) h ok = absurd (staged_ended (stage_at lines) (known_with p lines n) (line.Hit at) h ok)
stays_known p lines n (line.Slot from to) h ok = absurd (staged_ended (stage_at lines) (known_with p lines n) (line.Slot from to) h ok)
stays_known p lines n line.End h ok = absurd (staged_ended (stage_at lines) (known_with p lines n) line.End h ok)
stays_known p lines n line.Unknown h ok = absurd (staged_ended (stage_at lines) (known_with p lines n) line.Unknown h ok)
stays_known p lines n line.Finish h ok = finished (narrow.has_ended lines) h
  where
    finished : (b : Bool) → b ≡ true → unless (not b) kind.NotEnded (Ok stays) ≡ Ok stays
    finished true h = refl
    finished false h = cc

none_kept : (b : Bool) → kept b [] ≡ []
none_kept true = refl
none_kept false = refl

-- behind the end a line without a fault makes nothing
ended_idle : (p : Place) (earlier : List FormLine) (f : FormLine) → has_ended earlier ≡ true → IsOk (effect_at p earlier f) → barrels_at p (f ∷ earlier) ≡ barrels_at p earlier
unfolding barrels_at
ended_idle p earlier f h ok =
    ap (λ (r : Result Effect DrillKind). barrels_at p earlier ++ kept (is_bare_at earlier) (piece_of p (length earlier + 1) r)) (stays_known p (lines_at earlier) (length (barrels_at p earlier)) (line_at earlier f) h ok)
    ∙ ap (λ (xs : List PlainPiece). barrels_at p earlier ++ xs) (none_kept (is_bare_at earlier)) ∙ append-nil (barrels_at p earlier)

-- ---- A prefix that is read

-- a line that begins so in a file that is read is the end's
told_is_end : (file : List ℕ) (p : Place) (pieces : List PlainPiece) (before : List PlainLine) (line : PlainLine) (after : List PlainLine) → IsRead file p pieces → lines_of file ≡ before ++ line ∷ after → tells line.text ≡ true → form_of p.from p.to line.text ≡ ending
told_is_end file p pieces before line after read among told = by (told_form p.from p.to line.text told)
  where
    by : IsEndOrUnknown (form_of p.from p.to line.text) → form_of p.from p.to line.text ≡ ending
    by (inl h) = h
    by (inr h) = absurd (
        let clean = clean_behind (effect_at p) [] (forms p before) (form_of p.from p.to line.text ∷ (forms p after ++ finish ∷ [])) (subst (CleanOn (effect_at p) []) (said_around file p before line after among) (read_clean (effect_at p) (barrels_at p) (items p file) pieces read)) in
        not_unknown p (reverse (forms p before) ++ []) (subst (λ (f : FormLine). IsOk (effect_at p (reverse (forms p before) ++ []) f)) h clean.0)
        )

same_within : (file : List ℕ) (p : Place) (pieces others : List PlainPiece) (n : ℕ) → IsRead file p pieces → IsRead (take n file) p others → n ≤ length file → others ≡ pieces
same_within file p pieces others n read cut within =
    let f = found_in (take n file) p others cut in
    let lines = subst (AreCut n (lines_of file)) f.among (lines_of_prefix file n within) in
    let e = end_of_prefix tells reach n (lines_of file) f.before f.line f.after code_tells_end lines (ends_told p.from p.to f.line.text (ap is_end f.is)) in
    let parts = said_at file p f.before e.0 e.1 e.2 (told_is_end file p pieces f.before e.0 e.1 read e.2 e.3) in
    same_made (effect_at p) (barrels_at p) is_end has_ended finish (items p file) (items p (take n file)) pieces others (forms p f.before) ending (forms p e.1 ++ finish ∷ []) (forms p f.after ++ finish ∷ []) (table_ends p) (ended_idle p) read cut parts
    (said_at (take n file) p f.before f.line f.after f.among f.is) refl

pub prefix_makes_the_same : (file : List ℕ) (p : Place) (pieces others : List PlainPiece) (n : ℕ) → IsRead file p pieces → IsRead (take n file) p others → others ≡ pieces
prefix_makes_the_same file p pieces others n read cut = elim (leb_tells n (length file)) [
  | inl within ↦ same_within file p pieces others n read cut within.1
  | inr past ↦ (one_answer file p).one_value others pieces (subst (λ (xs : List ℕ). IsRead xs p others) (take_all n file (let h = past.1 in omega arith)) cut) read
]
