-- The state of the reader is what looking back finds.
use Rattle.std.proofs.Common.{◌≡◌, ℕ, ◌+◌, Bool, List, ◌∷◌, ◌++◌, length, Result, Ok, refl, sym, ap, ◌∙◌, arith}
use Rattle.std.proofs.lemmas.List.{length-map}
use mathlib.Core.Path.{fun_ext}
use Rattle.board_shapes.specs.Plain.{PlainPiece, plain_piece, plain_pieces}
use Rattle.xnc.specs.declared.kind.DrillKind.{DrillKind}
use Rattle.xnc.specs.declared.line.DrillLine.{DrillLine}
use Rattle.xnc.specs.declared.line.DrillLine.TheVariants as line
use Rattle.xnc.specs.declared.settings.Settings.{Settings}
use Rattle.xnc.specs.Places.{Place}
use Rattle.xnc.specs.DrillEffects.{Known, Effect, effect, after}
use Rattle.file_reading.specs.LookingBack.{how_many}
use Rattle.xnc.specs.Settings.{settings_at, defined_at, is_tool, piece_of, known_with}
use Rattle.xnc.specs.Reader.{defined_in, count_of, known_of, place_of}
use Rattle.xnc.proofs.Outcome.{Outcome, outcome}
use Rattle.xnc.proofs.Bridge.{HasTools, settings-push, tools-push, same_known}
use Rattle.drill_forms.specs.declared.form.FormLine.{FormLine}
use Rattle.drill_forms.specs.declared.form.FormLine.TheVariants as form
use Rattle.drill_forms.specs.declared.form_reader.FormReader.{FormReader}
use Rattle.drill_forms.specs.declared.notes.Words.{Words}
use Rattle.drill_forms.specs.Meaning.{line_in, noted}
use Rattle.drill_forms.specs.History.{words_at, bare_at, bare_tool, lines_at, line_at, is_bare_at, kept, barrels_at, effect_at}
use Rattle.drill_forms.specs.Reader.{bare_in, bare_after, line_for, is_bare_for, Obeys}

-- what a line tells is found by looking back from the next
words-push : (earlier : List FormLine) (f : FormLine) → noted (words_at earlier) f ≡ words_at (f ∷ earlier)
words-push earlier (form.Says (line.Tool n d)) = refl
words-push earlier (form.Says other) = refl
words-push earlier (form.Rout a) = refl
words-push earlier (form.Straight a) = refl
words-push earlier (form.Hit a) = refl
words-push earlier (form.Slot a b) = refl
words-push earlier (form.Units unit zeros layout) = refl
words-push earlier (form.Counts layout) = refl
words-push earlier (form.Lasting plated) = refl
words-push earlier (form.Next plated) = refl
words-push earlier form.Untold = refl
words-push earlier (form.Function mixed) = refl
words-push earlier form.Idle = refl
words-push earlier form.Ends = refl
words-push earlier form.Lift = refl

-- and so are the tools that make no barrels
bares-push : (earlier : List FormLine) (f : FormLine) (n : ℕ) → bare_after (words_at earlier) (bare_at earlier) f n ≡ bare_at (f ∷ earlier) n
bares-push earlier (form.Says (line.Tool m d)) n = refl
bares-push earlier other n = refl

-- the reader has obeyed these lines
pub record State (p : Place) (earlier : List FormLine) (r : FormReader) : Type 0 where
  pub known : known_of r.reader ≡ known_with p (lines_at earlier) (length (barrels_at p earlier))
  pub pieces : plain_pieces r.reader.pieces.items ≡ barrels_at p earlier
  pub counts : r.reader.lines ≡ length earlier
  pub place : place_of r.reader ≡ p
  pub words : r.words ≡ words_at earlier
  pub bares : (n : ℕ) → bare_in r.bares n ≡ bare_at earlier n

pub same_line : (p : Place) (earlier : List FormLine) (r : FormReader) (f : FormLine) → State p earlier r → line_for r f ≡ line_at earlier f
same_line p earlier r f s = ap (λ (k : Known). line_in k.settings r.words f) s.known ∙ ap (λ (w : Words). line_in (settings_at (lines_at earlier)) w f) s.words

same_bare : (p : Place) (earlier : List FormLine) (r : FormReader) → State p earlier r → is_bare_for r ≡ is_bare_at earlier
same_bare p earlier r s = ap (λ (k : Known). bare_tool k.settings.tool (bare_in r.bares)) s.known ∙ ap (λ (b : ℕ → Bool). bare_tool (settings_at (lines_at earlier)).tool b) (fun_ext s.bares)

same_kept : (a b : List PlainPiece) (x y : Bool) (q p : Place) (m n : ℕ) (e g : Result Effect DrillKind) → a ≡ b → x ≡ y → q ≡ p → m ≡ n → e ≡ g → a ++ kept x (piece_of q m e) ≡ b ++ kept y (piece_of p n g)
same_kept a b x y q p m n e g h i j k l =
    ap (λ (xs : List PlainPiece). xs ++ kept x (piece_of q m e)) h ∙ ap (λ (z : Bool). b ++ kept z (piece_of q m e)) i ∙ ap (λ (t : Place). b ++ kept y (piece_of t m e)) j ∙ ap (λ (t : ℕ). b ++ kept y (piece_of p t e)) k ∙ ap (λ (t : Result Effect DrillKind). b ++ kept y (piece_of p n t)) l

-- what the line does to the reader is what looking back says
pub clean_at : (p : Place) (earlier : List FormLine) (r : FormReader) (f : FormLine) (e : Result Effect DrillKind) → State p earlier r → effect (known_of r.reader) (line_for r f) ≡ e → effect_at p earlier f ≡ e
clean_at p earlier r f e s h = sym (ap (λ (k : Known). effect k (line_for r f)) s.known ∙ ap (λ (l : DrillLine). effect (known_with p (lines_at earlier) (length (barrels_at p earlier))) l) (same_line p earlier r f s)) ∙ h

-- one line more
pub state-push : (p : Place) (earlier : List FormLine) (r : FormReader) (f : FormLine) (new : FormReader) → State p earlier r → Obeys r f new → State p (f ∷ earlier) new
unfolding barrels_at lines_at
state-push p earlier r f new s o =
    let n : ℕ = length (barrels_at p earlier) in
    let lines : List DrillLine = lines_at earlier in
    let l : DrillLine = line_at earlier f in
    let clean : effect (known_with p lines n) l ≡ Ok o.effect_is = clean_at p earlier r f (Ok o.effect_is) s o.clean in
    let did : Outcome (known_with p lines n) l o.effect_is = outcome (known_with p lines n) l o.effect_is clean in
    let same : line_for r f ≡ l = same_line p earlier r f s in
    let settings : new.reader.settings ≡ settings_at (l ∷ lines) = o.settings ∙ ap (λ (t : Settings). after t (line_for r f) o.effect_is) (ap (λ (k : Known). k.settings) s.known) ∙ ap (λ (t : DrillLine). after (settings_at lines) t o.effect_is) same ∙ settings-push p lines n l o.effect_is did in
    let tools : HasTools new.reader.tools (l ∷ lines) = tools-push r.reader.tools new.reader.tools p lines n l o.effect_is (record { defined = λ m. ap (λ (k : Known). k.defined m) s.known; count = ap (λ (k : Known). k.tools) s.known }) did o.tools in
    let number : r.reader.lines + 1 ≡ length earlier + 1 = ap (λ (k : ℕ). k + 1) s.counts in
    let pieces : plain_pieces new.reader.pieces.items ≡ barrels_at p (f ∷ earlier) = o.pieces ∙ same_kept (plain_pieces r.reader.pieces.items) (barrels_at p earlier) (is_bare_for r) (is_bare_at earlier) (place_of r.reader) p (r.reader.lines + 1) (length earlier + 1) (Ok o.effect_is) (effect (known_with p lines n) l) s.pieces (same_bare p earlier r s) s.place number (sym clean) in
    let size : length new.reader.pieces.items ≡ length (barrels_at p (f ∷ earlier)) = sym (length-map new.reader.pieces.items plain_piece) ∙ ap length pieces in
    let place : place_of new.reader ≡ p = o.place ∙ s.place in
    record {
      known = same_known new.reader.settings (settings_at (l ∷ lines)) (defined_in new.reader.tools) (defined_at (l ∷ lines)) (count_of new.reader.tools) (how_many is_tool (l ∷ lines)) (length new.reader.pieces.items) (length (barrels_at p (f ∷ earlier))) new.reader.room p.room settings (fun_ext tools.defined) tools.count size (ap (λ (q : Place). q.room) place);
      pieces = pieces;
      counts = (let e = o.counts in let g = s.counts in omega arith);
      place = place;
      words = o.words ∙ ap (λ (w : Words). noted w f) s.words ∙ words-push earlier f;
      bares = λ m. o.bares m ∙ ap (λ (w : Words). bare_after w (bare_in r.bares) f m) s.words ∙ ap (λ (b : ℕ → Bool). bare_after (words_at earlier) b f m) (fun_ext s.bares) ∙ bares-push earlier f m;
    }
