-- The line that ends a drill file, and prefixes without it.
use Rattle.std.proofs.Common.{◌≡◌, ℕ, ◌+◌, ◌-◌, ◌<◌, ◌≤◌, ◌⊎◌, inl, inr, zero, suc, Bool, true, false, ◌||◌, ◌==◌, not, if◌then◌else◌, List, [], ◌∷◌, ◌++◌, length, map, reverse, take, drop, get_or, codes, Option, Some, None, Result, Ok, IsOk, refl, sym, ap, ◌∙◌, subst, append_assoc, arith}
use Rattle.std.specs.List.{prefix_len, suffix_len, position_or_len, list_any, before_first, after_first}
use Rattle.std.proofs.lemmas.List.{append-nil, map-append, take_all, take-append-drop, length-append, length-drop, length-reverse, reverse-append}
use Rattle.std.proofs.lemmas.Slice.Eq.{slice_eq-Decides, starts_is}
use Rattle.std.proofs.lemmas.Bool.Decides.{Decides-eqb, leb_tells}
use Rattle.board_shapes.specs.Plain.{PlainPiece}
use Rattle.lengths.specs.Decimal.{Fraction}
use Rattle.file_reading.specs.Reading.{Item, said}
use Rattle.file_reading.proofs.Ending.{CleanOn, Ends, NoneEnd, clean_behind, none_before_end, read_clean, refused_without_end, same_made}
use Rattle.texts.specs.Blanks.{is_blank, trimmed, without_back, without_front}
use Rattle.texts.specs.Lines.{PlainLine, lines_of}
use Rattle.texts.specs.Words.{begins, is_word}
use Rattle.texts.proofs.Prefix.{AreCut, TellsEnd, NoneEnds, end_of_prefix, no_end_in_prefix, lines_of_prefix}
use Rattle.texts.proofs.Blanks.{front-blank, front-other}
use Rattle.xnc.specs.declared.kind.DrillKind.{DrillKind}
use Rattle.xnc.specs.declared.kind.DrillKind.TheVariants as kind
use Rattle.xnc.specs.declared.line.Coordinates.{Coordinates}
use Rattle.xnc.specs.declared.line.DrillLine.{DrillLine}
use Rattle.xnc.specs.declared.line.DrillLine.TheVariants as form
use Rattle.xnc.specs.declared.settings.Stage.{Stage}
use Rattle.xnc.specs.declared.settings.Stage.TheVariants.{Opening, Header, Body, Ended}
use Rattle.xnc.specs.Places.{Place}
use Rattle.xnc.specs.DrillLines.{form_of, within_blanks, comment, file_function, command, body_line, place_line, tool_line, line_with, slots, slot_end, defines, coordinates_of, field, further, names_span, is_g, is_c, is_metric, is_inch}
use Rattle.xnc.specs.DrillEffects.{Known, Effect, stays, unless, effect, staged, header, body, is_ended}
use Rattle.xnc.specs.Settings.{stage_at, known_at, effect_at, piece_of, barrels_at}
use Rattle.xnc.specs.DrillFile.{item_of, items, IsRead, IsRefused}
use Rattle.xnc.specs.Laws.{IsEndLine, PrefixIsRefused, end_of}
use Rattle.xnc.proofs.OneAnswer.{one_answer}

abbrev pub is_end : DrillLine → Bool
is_end form.End = true
is_end other = false

abbrev pub has_ended : List DrillLine → Bool
has_ended earlier = is_ended (stage_at earlier)

ends_of : (f : DrillLine) → is_end f ≡ true → f ≡ form.End
ends_of form.End h = refl
ends_of other h = cc

-- what the table says of the end
pub staged_ended : (s : Stage) (k : Known) (f : DrillLine) → is_ended s ≡ true → IsOk (staged s k f) → ⊥
unfolding staged
staged_ended Opening k f h ok = cc
staged_ended Header k f h ok = cc
staged_ended Body k f h ok = cc
staged_ended Ended k f h ok = cc

pub still : (earlier : List DrillLine) (f : DrillLine) → is_end f ≡ false → has_ended earlier ≡ false → has_ended (f ∷ earlier) ≡ false
still earlier form.Start h not = refl
still earlier form.HeaderEnd h not = refl
still earlier form.End h not = cc
still earlier other h not = not

keeps_ended : (p : Place) (earlier : List DrillLine) (f : DrillLine) → has_ended earlier ≡ true → IsOk (effect_at p earlier f) → has_ended (f ∷ earlier) ≡ true
unfolding effect
keeps_ended p earlier form.Start h ok = absurd (staged_ended (stage_at earlier) (known_at p earlier) form.Start h ok)
keeps_ended p earlier form.HeaderEnd h ok = absurd (staged_ended (stage_at earlier) (known_at p earlier) form.HeaderEnd h ok)
keeps_ended p earlier form.End h ok = refl
keeps_ended p earlier other h ok = h

once : (p : Place) (earlier : List DrillLine) (f : DrillLine) → has_ended earlier ≡ true → is_end f ≡ true → IsOk (effect_at p earlier f) → ⊥
unfolding effect
once p earlier f h is ok = staged_ended (stage_at earlier) (known_at p earlier) form.End h (subst (λ (g : DrillLine). IsOk (effect_at p earlier g)) (ends_of f is) ok)

needed : (p : Place) (earlier : List DrillLine) → has_ended earlier ≡ false → IsOk (effect_at p earlier form.Finish) → ⊥
unfolding effect
needed p earlier before ok = unended (has_ended earlier) before ok
  where
    unended : (b : Bool) → b ≡ false → IsOk (unless (not b) kind.NotEnded (Ok stays)) → ⊥
    unended true before ok = cc
    unended false before ok = cc

-- behind the end a line without a fault does nothing
ended_stays : (p : Place) (earlier : List DrillLine) (f : DrillLine) → has_ended earlier ≡ true → IsOk (effect_at p earlier f) → effect_at p earlier f ≡ Ok stays
unfolding effect
ended_stays p earlier form.Blank h ok = refl
ended_stays p earlier (form.Misfit kind) h ok = cc
ended_stays p earlier form.Start h ok = absurd (staged_ended (stage_at earlier) (known_at p earlier) form.Start h ok)
ended_stays p earlier form.Format h ok = absurd (staged_ended (stage_at earlier) (known_at p earlier) form.Format h ok)
ended_stays p earlier form.Absolute h ok = absurd (staged_ended (stage_at earlier) (known_at p earlier) form.Absolute h ok)
ended_stays p earlier (form.Unit unit) h ok = absurd (staged_ended (stage_at earlier) (known_at p earlier) (form.Unit unit) h ok)
ended_stays p earlier (form.Tool n d) h ok = absurd (staged_ended (stage_at earlier) (known_at p earlier) (form.Tool n d) h ok)
ended_stays p earlier form.HeaderEnd h ok = absurd (staged_ended (stage_at earlier) (known_at p earlier) form.HeaderEnd h ok)
ended_stays p earlier form.Arc h ok = absurd (staged_ended (stage_at earlier) (known_at p earlier) form.Arc h ok)
ended_stays p earlier form.NoTool h ok = absurd (staged_ended (stage_at earlier) (known_at p earlier) form.NoTool h ok)
ended_stays p earlier (form.Select n) h ok = absurd (staged_ended (stage_at earlier) (known_at p earlier) (form.Select n) h ok)
ended_stays p earlier form.Drill h ok = absurd (staged_ended (stage_at earlier) (known_at p earlier) form.Drill h ok)
ended_stays p earlier (form.Rout to) h ok = absurd (staged_ended (stage_at earlier) (known_at p earlier) (form.Rout to) h ok)
ended_stays p earlier form.Lower h ok = absurd (staged_ended (stage_at earlier) (known_at p earlier) form.Lower h ok)
ended_stays p earlier form.Raise h ok = absurd (staged_ended (stage_at earlier) (known_at p earlier) form.Raise h ok)
ended_stays p earlier (form.Straight to) h ok = absurd (staged_ended (stage_at earlier) (known_at p earlier) (form.Straight to) h ok)
ended_stays p earlier (form.Hit at) h ok = absurd (staged_ended (stage_at earlier) (known_at p earlier) (form.Hit at) h ok)
ended_stays p earlier (form.Slot from to) h ok = absurd (staged_ended (stage_at earlier) (known_at p earlier) (form.Slot from to) h ok)
ended_stays p earlier form.End h ok = absurd (staged_ended (stage_at earlier) (known_at p earlier) form.End h ok)
ended_stays p earlier form.Unknown h ok = absurd (staged_ended (stage_at earlier) (known_at p earlier) form.Unknown h ok)
ended_stays p earlier form.Finish h ok = finished (has_ended earlier) h
  where
    finished : (b : Bool) → b ≡ true → unless (not b) kind.NotEnded (Ok stays) ≡ Ok stays
    finished true h = refl
    finished false h = cc

ended_idle : (p : Place) (earlier : List DrillLine) (f : DrillLine) → has_ended earlier ≡ true → IsOk (effect_at p earlier f) → barrels_at p (f ∷ earlier) ≡ barrels_at p earlier
unfolding barrels_at
ended_idle p earlier f h ok = ap (λ (r : Result Effect DrillKind). barrels_at p earlier ++ piece_of p (length earlier + 1) r) (ended_stays p earlier f h ok) ∙ append-nil (barrels_at p earlier)

table_ends : (p : Place) → Ends (effect_at p) is_end has_ended form.Finish
table_ends p = record {
  new = refl;
  still = still;
  ends = λ earlier f is. ap (λ (g : DrillLine). has_ended (g ∷ earlier)) (ends_of f is);
  stays = keeps_ended p;
  once = once p;
  needed = needed p;
}

-- a line of no known form has a fault wherever it stands
pub unknown_fault : (s : Stage) (k : Known) → IsOk (staged s k form.Unknown) → ⊥
unfolding staged header body
unknown_fault Opening k ok = cc
unknown_fault Header k ok = cc
unknown_fault Body k ok = cc
unknown_fault Ended k ok = cc

not_unknown : (p : Place) (earlier : List DrillLine) → IsOk (effect_at p earlier form.Unknown) → ⊥
unfolding effect
not_unknown p earlier ok = unknown_fault (stage_at earlier) (known_at p earlier) ok

-- texts that begin with `M30` behind their blanks
abbrev pub tells : List ℕ → Bool
tells text = begins (without_front text) (codes "M30")

abbrev pub reach : List ℕ → ℕ
reach text = prefix_len is_blank text + 3

pub code_behind : (text : List ℕ) → begins text (codes "M30") ≡ true → text ≡ codes "M30" ++ drop 3 text
code_behind text h = (starts_is Decides-eqb text (codes "M30") (begins text (codes "M30")) refl).0 h

code_begins : (text rest : List ℕ) → text ≡ codes "M30" ++ rest → begins text (codes "M30") ≡ true
code_begins text rest h = (starts_is Decides-eqb text (codes "M30") (begins text (codes "M30")) refl).1 rest h

long_code : (text : List ℕ) → begins text (codes "M30") ≡ true → 3 ≤ length text
long_code text h = let l = ap length (code_behind text h) in let a = length-append (codes "M30") (drop 3 text) in omega (arith, l, a)

front_begins : (text front back : List ℕ) → text ≡ front ++ back → begins front (codes "M30") ≡ true → begins text (codes "M30") ≡ true
front_begins text front back parts h =
    code_begins text (drop 3 front ++ back) (parts ∙ ap (λ (xs : List ℕ). xs ++ back) (code_behind front h) ∙ append_assoc (codes "M30") (drop 3 front) back)

return_begins : (text : List ℕ) → begins (text ++ (13 ∷ [])) (codes "M30") ≡ true → begins text (codes "M30") ≡ true
return_begins [] h = absurd (let l = long_code (13 ∷ []) h in omega arith)
return_begins (a ∷ []) h = absurd (let l = long_code (a ∷ 13 ∷ []) h in omega arith)
return_begins (a ∷ b ∷ []) h = absurd (let third : 13 ≡ 48 = ap (λ (xs : List ℕ). get_or xs 2 0) (code_behind (a ∷ b ∷ 13 ∷ []) h) in omega (arith, third))
return_begins (a ∷ b ∷ c ∷ text) h = h

whole_tells : (text : List ℕ) → tells text ≡ true → reach text ≤ length text
whole_tells text h = let l = long_code (without_front text) h in let d = length-drop (prefix_len is_blank text) text in omega (arith, l, d)

part_tells : (text : List ℕ) (k : ℕ) → tells (take k text) ≡ true → (tells text ≡ true) × (reach text ≤ length (take k text))
part_tells [] zero h = cc
part_tells [] (suc k) h = cc
part_tells (b ∷ text) zero h = cc
part_tells (b ∷ text) (suc k) h = by (is_blank b) refl (part_tells text k)
  where
    by : (v : Bool) → is_blank b ≡ v → (tells (take k text) ≡ true → (tells text ≡ true) × (reach text ≤ length (take k text))) → (tells (b ∷ text) ≡ true) × (reach (b ∷ text) ≤ suc (length (take k text)))
    by true e more =
        let m = more (ap (λ (xs : List ℕ). begins xs (codes "M30")) (sym (front-blank b (take k text) e)) ∙ h) in
        let size : prefix_len is_blank (b ∷ text) ≡ 1 + prefix_len is_blank text = rw e refl in
        (ap (λ (xs : List ℕ). begins xs (codes "M30")) (front-blank b text e) ∙ m.0, (let le = m.1 in omega (arith, size, le)))
    by false e more =
        let front : begins (b ∷ take k text) (codes "M30") ≡ true = ap (λ (xs : List ℕ). begins xs (codes "M30")) (sym (front-other b (take k text) e)) ∙ h in
        let whole = front_begins (b ∷ text) (b ∷ take k text) (drop k text) (ap (λ (xs : List ℕ). b ∷ xs) (sym (take-append-drop k text))) front in
        let size : prefix_len is_blank (b ∷ text) ≡ 0 = rw e refl in
        (ap (λ (xs : List ℕ). begins xs (codes "M30")) (front-other b text e) ∙ whole, (let l = long_code (b ∷ take k text) front in omega (arith, size, l)))

return_tells : (text : List ℕ) → tells (text ++ (13 ∷ [])) ≡ true → tells text ≡ true
return_tells [] h = cc
return_tells (b ∷ text) h = by (is_blank b) refl (return_tells text)
  where
    by : (v : Bool) → is_blank b ≡ v → (tells (text ++ (13 ∷ [])) ≡ true → tells text ≡ true) → tells (b ∷ text) ≡ true
    by true e more = ap (λ (xs : List ℕ). begins xs (codes "M30")) (front-blank b text e) ∙ more (ap (λ (xs : List ℕ). begins xs (codes "M30")) (sym (front-blank b (text ++ (13 ∷ [])) e)) ∙ h)
    by false e more = ap (λ (xs : List ℕ). begins xs (codes "M30")) (front-other b text e) ∙ return_begins (b ∷ text) (ap (λ (xs : List ℕ). begins xs (codes "M30")) (sym (front-other b (text ++ (13 ∷ [])) e)) ∙ h)

pub code_tells_end : TellsEnd tells reach
code_tells_end = record { whole = whole_tells; part = part_tells; returned = return_tells }

-- such a line is the end's, or of no known form
stops_within : (p : ℕ → Bool) (ys : List ℕ) (y : ℕ) (zs : List ℕ) → p y ≡ false → prefix_len p (ys ++ y ∷ zs) ≤ length ys
stops_within p [] y zs h = rw h (omega arith)
stops_within p (x ∷ ys) y zs h = by (p x) refl (stops_within p ys y zs h)
  where
    by : (v : Bool) → p x ≡ v → prefix_len p (ys ++ y ∷ zs) ≤ length ys → prefix_len p (x ∷ (ys ++ y ∷ zs)) ≤ suc (length ys)
    by true e more = rw e (omega (arith, more))
    by false e more = rw e (omega arith)

pub back_kept : (rest : List ℕ) → (n : ℕ) × (without_back (77 ∷ 51 ∷ 48 ∷ rest) ≡ 77 ∷ 51 ∷ 48 ∷ take n rest)
back_kept rest =
    let turned : reverse (77 ∷ 51 ∷ 48 ∷ rest) ≡ reverse rest ++ (48 ∷ 51 ∷ 77 ∷ []) = reverse-append (77 ∷ 51 ∷ 48 ∷ []) rest in
    let few : suffix_len is_blank (77 ∷ 51 ∷ 48 ∷ rest) ≤ length (reverse rest) = rw turned (stops_within is_blank (reverse rest) 48 (51 ∷ 77 ∷ []) refl) in
    let back = length-reverse rest in
    let kept : length (77 ∷ 51 ∷ 48 ∷ rest) - suffix_len is_blank (77 ∷ 51 ∷ 48 ∷ rest) ≡ suc (suc (suc (length rest - suffix_len is_blank (77 ∷ 51 ∷ 48 ∷ rest)))) = omega (arith, few, back) in
    (length rest - suffix_len is_blank (77 ∷ 51 ∷ 48 ∷ rest), ap (λ (k : ℕ). take k (77 ∷ 51 ∷ 48 ∷ rest)) kept)

no_place_before : (rest : List ℕ) → coordinates_of (before_first is_g (77 ∷ rest)) ≡ None
unfolding coordinates_of
no_place_before rest = let more : 1 + position_or_len is_g rest ≡ suc (position_or_len is_g rest) = omega arith in rw more refl

no_place : (rest : List ℕ) → place_line (77 ∷ rest) ≡ form.Unknown
unfolding place_line coordinates_of
no_place rest = by (list_any is_g (77 ∷ rest))
  where
    by : (b : Bool) → (if b then slots (coordinates_of (before_first is_g (77 ∷ rest))) (slot_end (after_first is_g (77 ∷ rest))) else line_with form.Hit (coordinates_of (77 ∷ rest))) ≡ form.Unknown
    by true = rw (no_place_before rest) refl
    by false = refl

abbrev pub IsEndOrUnknown : DrillLine → Type 0
IsEndOrUnknown f = (f ≡ form.End) ⊎ (f ≡ form.Unknown)

code_form : (from to : ℕ) (rest : List ℕ) → IsEndOrUnknown (within_blanks from to (77 ∷ 51 ∷ 48 ∷ rest))
unfolding within_blanks command body_line
code_form from to [] = inl refl
code_form from to (c ∷ rest) = inr (no_place (51 ∷ 48 ∷ c ∷ rest))

pub told_form : (from to : ℕ) (text : List ℕ) → tells text ≡ true → IsEndOrUnknown (form_of from to text)
unfolding form_of
told_form from to text h =
    let kept = back_kept (drop 3 (without_front text)) in
    let parts : trimmed text ≡ 77 ∷ 51 ∷ 48 ∷ take kept.0 (drop 3 (without_front text)) = ap without_back (code_behind (without_front text) h) ∙ kept.1 in
    subst (λ (t : List ℕ). IsEndOrUnknown (within_blanks from to t)) (sym parts) (code_form from to (take kept.0 (drop 3 (without_front text))))

-- and only such a line is the end's
past : (b : Bool) (x y : DrillLine) → is_end x ≡ false → is_end (if b then x else y) ≡ true → is_end y ≡ true
past true x y silent h = cc
past false x y silent h = h

pub neither : (b : Bool) (x y : DrillLine) → is_end x ≡ false → is_end y ≡ false → is_end (if b then x else y) ≡ false
neither true x y first second = first
neither false x y first second = second

code_of_end : (b : Bool) (other : DrillLine) → is_end other ≡ false → is_end (if b then form.End else other) ≡ true → b ≡ true
code_of_end true other silent h = refl
code_of_end false other silent h = cc

no_line_with : {A : Type 0} (make : A → DrillLine) → ((x : A) → is_end (make x) ≡ false) → (part : Option A) → is_end (line_with make part) ≡ false
no_line_with make none None = refl
no_line_with make none (Some x) = none x

no_slots : (from to : Option Coordinates) → is_end (slots from to) ≡ false
no_slots (Some from) (Some to) = refl
no_slots (Some from) None = refl
no_slots None to = refl

pub no_defines : (n : Option ℕ) (d : Option Fraction) → is_end (defines n d) ≡ false
no_defines (Some n) (Some d) = refl
no_defines (Some n) None = refl
no_defines None d = refl

no_place_line : (text : List ℕ) → is_end (place_line text) ≡ false
unfolding place_line
no_place_line text = neither (list_any is_g text) _ _ (no_slots _ _) (no_line_with form.Hit (λ at. refl) _)

no_tool_line : (text : List ℕ) → is_end (tool_line text) ≡ false
unfolding tool_line
no_tool_line text = neither (list_any is_c text) _ _ (no_defines _ _) (neither (is_word text (codes "0") || is_word text (codes "00")) _ _ refl (no_line_with form.Select (λ n. refl) _))

no_comment : (from to : ℕ) (text : List ℕ) → is_end (comment from to text) ≡ false
unfolding comment file_function
no_comment from to text =
    neither (begins text (codes "; #@! TF.FileFunction,")) _ _
    (neither (is_word (field (drop 22 text)) (codes "MixedPlating")) _ _ refl
    (neither (is_word (field (drop 22 text)) (codes "NonPlated")) _ _ refl
    (neither (is_word (field (drop 22 text)) (codes "Plated")) _ _ (neither (names_span from to (further (drop 22 text))) _ _ refl refl) refl)))
    refl

no_body_line : (text : List ℕ) → is_end (body_line text) ≡ false
unfolding body_line
no_body_line text =
    neither (begins text (codes "G02") || begins text (codes "G03")) _ _ refl
    (neither (is_word text (codes "G05")) _ _ refl
    (neither (begins text (codes "G00")) _ _ (no_line_with form.Rout (λ to. refl) _)
    (neither (begins text (codes "G01")) _ _ (no_line_with form.Straight (λ to. refl) _)
    (neither (is_word text (codes "M15")) _ _ refl
    (neither (is_word text (codes "M16")) _ _ refl (no_place_line text))))))

ends_command : (text : List ℕ) → is_end (command text) ≡ true → is_word text (codes "M30") ≡ true
unfolding command
ends_command text h =
    code_of_end (is_word text (codes "M30")) _ (neither (begins text (codes "T")) _ _ (no_tool_line (drop 1 text)) (no_body_line text))
    (past (is_word text (codes "%")) _ _ refl
    (past (is_inch text) _ _ refl
    (past (is_metric text) _ _ refl
    (past (is_word text (codes "G90")) _ _ refl
    (past (is_word text (codes "FMAT,2")) _ _ refl
    (past (is_word text (codes "M48")) _ _ refl h))))))

ends_within : (from to : ℕ) (text : List ℕ) → is_end (within_blanks from to text) ≡ true → text ≡ codes "M30"
unfolding within_blanks
ends_within from to [] h = cc
ends_within from to (c ∷ text) h = (slice_eq-Decides Decides-eqb (c ∷ text) (codes "M30") (is_word (c ∷ text) (codes "M30")) refl).0 (ends_command (c ∷ text) (past (c == 59) (comment from to (c ∷ text)) (command (c ∷ text)) (no_comment from to (c ∷ text)) h))

pub ends_told : (from to : ℕ) (text : List ℕ) → is_end (form_of from to text) ≡ true → tells text ≡ true
unfolding form_of
ends_told from to text h =
    let w = without_front text in
    let n = length w - suffix_len is_blank w in
    let code : take n w ≡ codes "M30" = ends_within from to (trimmed text) h in
    code_begins w (drop n w) (sym (take-append-drop n w) ∙ ap (λ (xs : List ℕ). xs ++ drop n w) code)

-- forms of lines
abbrev forms : Place → List PlainLine → List DrillLine
forms p lines = map (λ line. form_of p.from p.to line.text) lines

said_lines : (p : Place) (lines : List PlainLine) (last : Item DrillLine) → said (map (item_of p) lines ++ last ∷ []) ≡ forms p lines ++ last.says ∷ []
said_lines p [] last = refl
said_lines p (line ∷ lines) last = ap (λ (fs : List DrillLine). form_of p.from p.to line.text ∷ fs) (said_lines p lines last)

said_items : (file : List ℕ) (p : Place) → said (items p file) ≡ forms p (lines_of file) ++ form.Finish ∷ []
said_items file p = said_lines p (lines_of file) (record { says = form.Finish; at = length file })

-- the same, around a line, and around one of the end's
said_around : (file : List ℕ) (p : Place) (before : List PlainLine) (line : PlainLine) (after : List PlainLine) → lines_of file ≡ before ++ line ∷ after → said (items p file) ≡ forms p before ++ form_of p.from p.to line.text ∷ (forms p after ++ form.Finish ∷ [])
said_around file p before line after among =
    said_items file p ∙ ap (λ (ls : List PlainLine). forms p ls ++ form.Finish ∷ []) among ∙ ap (λ (fs : List DrillLine). fs ++ form.Finish ∷ []) (map-append (λ (l : PlainLine). form_of p.from p.to l.text) before (line ∷ after))
    ∙ append_assoc (forms p before) (form_of p.from p.to line.text ∷ forms p after) (form.Finish ∷ [])

said_at : (file : List ℕ) (p : Place) (before : List PlainLine) (line : PlainLine) (after : List PlainLine) → lines_of file ≡ before ++ line ∷ after → form_of p.from p.to line.text ≡ form.End → said (items p file) ≡ forms p before ++ form.End ∷ (forms p after ++ form.Finish ∷ [])
said_at file p before line after among is = said_around file p before line after among ∙ ap (λ (f : DrillLine). forms p before ++ f ∷ (forms p after ++ form.Finish ∷ [])) is

-- lines before the end's do not begin so, since none of them has a fault
no_bytes : (p : Place) (earlier : List DrillLine) (lines : List PlainLine) (rest : List DrillLine) → CleanOn (effect_at p) earlier (forms p lines ++ rest) → NoneEnd is_end (forms p lines) → NoneEnds tells lines
no_bytes p earlier [] rest clean none = tt
no_bytes p earlier (line ∷ lines) rest clean none = (by (tells line.text) refl, no_bytes p (form_of p.from p.to line.text ∷ earlier) lines rest clean.1 none.1)
  where
    never : IsEndOrUnknown (form_of p.from p.to line.text) → ⊥
    never (inl h) = let is : is_end (form_of p.from p.to line.text) ≡ true = ap is_end h in let other = none.0 in cc
    never (inr h) = not_unknown p earlier (subst (λ (f : DrillLine). IsOk (effect_at p earlier f)) h clean.0)

    by : (b : Bool) → tells line.text ≡ b → tells line.text ≡ false
    by false h = h
    by true h = absurd (never (told_form p.from p.to line.text h))

no_forms : (p : Place) (lines : List PlainLine) → NoneEnds tells lines → NoneEnd is_end (forms p lines)
no_forms p [] none = tt
no_forms p (line ∷ lines) none = (by (is_end (form_of p.from p.to line.text)) refl, no_forms p lines none.1)
  where
    by : (b : Bool) → is_end (form_of p.from p.to line.text) ≡ b → is_end (form_of p.from p.to line.text) ≡ false
    by false h = h
    by true h = absurd (let told = ends_told p.from p.to line.text h in let other = none.0 in cc)

abbrev Refused : List ℕ → Place → Type 0
Refused file p = (why : DrillKind) × (number : ℕ) × (place : ℕ) × IsRefused file p why number place

-- a file none of whose lines is the end's
refused : (file : List ℕ) (p : Place) → NoneEnd is_end (forms p (lines_of file)) → Refused file p
refused file p none = refused_without_end (effect_at p) (barrels_at p) is_end has_ended form.Finish (items p file) (forms p (lines_of file)) (table_ends p) (said_items file p) none

-- a prefix that ends within the file
prefix_refused : (file : List ℕ) (p : Place) (pieces : List PlainPiece) (line : PlainLine) (n : ℕ) → IsRead file p pieces → IsEndLine file p line → n < end_of line → n ≤ length file → Refused (take n file) p
prefix_refused file p pieces line n read e low within =
    let parts = said_at file p e.before line e.after e.among e.is in
    let none = none_before_end (effect_at p) (barrels_at p) is_end has_ended form.Finish (items p file) pieces (forms p e.before) form.End (forms p e.after ++ form.Finish ∷ []) (table_ends p) read parts refl in
    let clean = subst (CleanOn (effect_at p) []) parts (read_clean (effect_at p) (barrels_at p) (items p file) pieces read) in
    let cut = subst (λ (ls : List PlainLine). AreCut n ls (lines_of (take n file))) e.among (lines_of_prefix file n within) in
    let bytes = no_bytes p [] e.before (form.End ∷ (forms p e.after ++ form.Finish ∷ [])) clean none in
    refused (take n file) p (no_forms p (lines_of (take n file)) (no_end_in_prefix tells reach n e.before line e.after (lines_of (take n file)) code_tells_end cut bytes (ends_told p.from p.to line.text (ap is_end e.is)) low))

-- a line of the end's, or none
record Found (p : Place) (lines : List PlainLine) : Type 0 where
  line : PlainLine
  before : List PlainLine
  after : List PlainLine
  among : lines ≡ before ++ line ∷ after
  is : form_of p.from p.to line.text ≡ form.End

seek : (p : Place) (lines : List PlainLine) → Found p lines ⊎ NoneEnd is_end (forms p lines)
seek p [] = inr tt
seek p (line ∷ lines) = by (is_end (form_of p.from p.to line.text)) refl (seek p lines)
  where
    by : (b : Bool) → is_end (form_of p.from p.to line.text) ≡ b → Found p lines ⊎ NoneEnd is_end (forms p lines) → Found p (line ∷ lines) ⊎ NoneEnd is_end (forms p (line ∷ lines))
    by true h more = inl (record { line = line; before = []; after = lines; among = refl; is = ends_of (form_of p.from p.to line.text) h })
    by false h (inl f) = inl (record { line = f.line; before = line ∷ f.before; after = f.after; among = ap (λ (ls : List PlainLine). line ∷ ls) f.among; is = f.is })
    by false h (inr none) = inr (h, none)

found_in : (file : List ℕ) (p : Place) (pieces : List PlainPiece) → IsRead file p pieces → Found p (lines_of file)
found_in file p pieces read = elim (seek p (lines_of file)) [
  | inl f ↦ f
  | inr none ↦ absurd (let r = refused file p none in (one_answer file p).not_both pieces r.0 r.1 r.2 read r.3)
]

pub prefix_is_refused : (file : List ℕ) (p : Place) → PrefixIsRefused file p
prefix_is_refused file p pieces read = (
  (let f = found_in file p pieces read in (f.line, record { before = f.before; after = f.after; among = f.among; is = f.is })),
  λ line e n low. elim (leb_tells n (length file)) [
    | inl within ↦ prefix_refused file p pieces line n read e low within.1
    | inr past ↦ (
        let whole : take (length file) file ≡ take n file = take_all (length file) file (omega arith) ∙ sym (take_all n file (let h = past.1 in omega arith)) in
        subst (λ (xs : List ℕ). Refused xs p) whole (prefix_refused file p pieces line (length file) read e (let h = past.1 in omega (arith, h, low)) (omega arith))
        )
  ],
)

-- ---- A prefix that is read

-- a line that begins so in a file that is read is the end's
told_is_end : (file : List ℕ) (p : Place) (pieces : List PlainPiece) (before : List PlainLine) (line : PlainLine) (after : List PlainLine) → IsRead file p pieces → lines_of file ≡ before ++ line ∷ after → tells line.text ≡ true → form_of p.from p.to line.text ≡ form.End
told_is_end file p pieces before line after read among told = by (told_form p.from p.to line.text told)
  where
    by : IsEndOrUnknown (form_of p.from p.to line.text) → form_of p.from p.to line.text ≡ form.End
    by (inl h) = h
    by (inr h) = absurd (
        let clean = clean_behind (effect_at p) [] (forms p before) (form_of p.from p.to line.text ∷ (forms p after ++ form.Finish ∷ [])) (subst (CleanOn (effect_at p) []) (said_around file p before line after among) (read_clean (effect_at p) (barrels_at p) (items p file) pieces read)) in
        not_unknown p (reverse (forms p before) ++ []) (subst (λ (f : DrillLine). IsOk (effect_at p (reverse (forms p before) ++ []) f)) h clean.0)
        )

same_within : (file : List ℕ) (p : Place) (pieces others : List PlainPiece) (n : ℕ) → IsRead file p pieces → IsRead (take n file) p others → n ≤ length file → others ≡ pieces
same_within file p pieces others n read cut within =
    let f = found_in (take n file) p others cut in
    let lines = subst (AreCut n (lines_of file)) f.among (lines_of_prefix file n within) in
    let e = end_of_prefix tells reach n (lines_of file) f.before f.line f.after code_tells_end lines (ends_told p.from p.to f.line.text (ap is_end f.is)) in
    let parts = said_at file p f.before e.0 e.1 e.2 (told_is_end file p pieces f.before e.0 e.1 read e.2 e.3) in
    same_made (effect_at p) (barrels_at p) is_end has_ended form.Finish (items p file) (items p (take n file)) pieces others (forms p f.before) form.End (forms p e.1 ++ form.Finish ∷ []) (forms p f.after ++ form.Finish ∷ []) (table_ends p) (ended_idle p) read cut parts
    (said_at (take n file) p f.before f.line f.after f.among f.is) refl

pub prefix_makes_the_same : (file : List ℕ) (p : Place) (pieces others : List PlainPiece) (n : ℕ) → IsRead file p pieces → IsRead (take n file) p others → others ≡ pieces
prefix_makes_the_same file p pieces others n read cut = elim (leb_tells n (length file)) [
  | inl within ↦ same_within file p pieces others n read cut within.1
  | inr past ↦ (one_answer file p).one_value others pieces (subst (λ (xs : List ℕ). IsRead xs p others) (take_all n file (let h = past.1 in omega arith)) cut) read
]
