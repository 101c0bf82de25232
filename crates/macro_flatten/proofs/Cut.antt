-- The cut of a text of lines, by the definition of cuts alone.
use Rattle.std.proofs.Common.{◌≡◌, ℕ, ◌+◌, Bool, true, false, if◌then◌else◌, List, [], ◌∷◌, ◌++◌, length, refl, sym, ap, ◌∙◌, append_assoc, append-nil}
use Rattle.std.specs.List.{flat_map, list_all, AllByRecursion}
use Rattle.gerber_words.specs.Words.{Part, blank, percent, word as part, Entry, ended, IsPart, HasWords, Turn, spelling, begins_macro, entries, filled, start, turned, is_plain, begins}
use Rattle.gerber_words.specs.declared.pair.Pair.{Pair}
use Rattle.gerber_words.specs.declared.pair.Pair.TheVariants.{Filled, Macro, Outside}
use Rattle.macro_flatten.specs.FlatText.{Line, word, extended, spelled}

abbrev pub text_of : Line → List ℕ
text_of (word text) = text
text_of (extended text) = text

-- the text can stand in a word
abbrev pub IsWord : List ℕ → Type 0
IsWord text = (begins text ≡ true) × (list_all is_plain text ≡ true)

abbrev pub AreWords : List Line → Type 0
AreWords lines = AllByRecursion (λ l. IsWord (text_of l)) lines

-- the parts of lines
abbrev pub parts_of : List Line → List Part
parts_of [] = []
parts_of (word text ∷ lines) = part text ∷ blank 10 ∷ parts_of lines
parts_of (extended text ∷ lines) = percent ∷ part text ∷ percent ∷ blank 10 ∷ parts_of lines

-- the words of lines from a place on
abbrev pub entries_of : ℕ → List Line → List Entry
entries_of at [] = []
entries_of at (word text ∷ lines) = record { at = at; text = text; extended = false; body = false } ∷ entries_of (at + length text + 1 + 1) lines
entries_of at (extended text ∷ lines) = record { at = at + 1; text = text; extended = true; body = false } ∷ entries_of (at + 1 + length text + 1 + 1 + 1) lines

-- behind a word that was alone in its pair a percent sign leads outside, whatever the word begins
ended_pair : (text : List ℕ) → turned (filled text) ≡ Outside
ended_pair text = by (begins_macro text)
  where
    by : (b : Bool) → turned (if b then Macro else Filled) ≡ Outside
    by true = refl
    by false = refl

entries_are : (at : ℕ) (lines : List Line) → entries_of at lines ≡ entries Outside at (parts_of lines)
entries_are at [] = refl
entries_are at (word text ∷ lines) = ap (λ (es : List Entry). record { at = at; text = text; extended = false; body = false } ∷ es) (entries_are (at + length text + 1 + 1) lines)
entries_are at (extended text ∷ lines) =
    ap (λ (es : List Entry). record { at = at + 1; text = text; extended = true; body = false } ∷ es)
    (entries_are (at + 1 + length text + 1 + 1 + 1) lines ∙ ap (λ (pair : Pair). entries pair (at + 1 + length text + 1 + 1 + 1) (parts_of lines)) (sym (ended_pair text)))

spelled_parts : (lines : List Line) → spelling (parts_of lines) ≡ flat_map spelled lines
spelled_parts [] = refl
spelled_parts (word text ∷ lines) = append_assoc text (42 ∷ []) (10 ∷ spelling (parts_of lines)) ∙ ap (λ (xs : List ℕ). text ++ 42 ∷ 10 ∷ xs) (spelled_parts lines) ∙ sym (append_assoc text (42 ∷ 10 ∷ []) (flat_map spelled lines))
spelled_parts (extended text ∷ lines) = ap (λ (xs : List ℕ). 37 ∷ xs) (append_assoc text (42 ∷ []) (37 ∷ 10 ∷ spelling (parts_of lines)) ∙ ap (λ (xs : List ℕ). text ++ 42 ∷ 37 ∷ 10 ∷ xs) (spelled_parts lines) ∙ sym (append_assoc text (42 ∷ 37 ∷ 10 ∷ []) (flat_map spelled lines)))

are_parts : (lines : List Line) → AreWords lines → AllByRecursion IsPart (parts_of lines)
are_parts [] w = tt
are_parts (word text ∷ lines) w = (w.0, (refl, are_parts lines w.1))
are_parts (extended text ∷ lines) w = (tt, (w.0, (tt, (refl, are_parts lines w.1))))

closes : (lines : List Line) → Turn Outside (parts_of lines) Outside
closes [] = refl
closes (word text ∷ lines) = closes lines
closes (extended text ∷ lines) = by (begins_macro text) (closes lines)
  where
    by : (b : Bool) → Turn Outside (parts_of lines) Outside → Turn (if b then Macro else Filled) (percent ∷ blank 10 ∷ parts_of lines) Outside
    by true rest = rest
    by false rest = rest

-- a text of lines has their words, and ends
pub lines_words : (lines : List Line) → AreWords lines → HasWords (start (flat_map spelled lines)) (entries_of 0 lines) ended
lines_words lines w = record {
  parts = parts_of lines;
  cut = record {
    rest = [];
    last = Outside;
    whole = sym (append-nil (spelling (parts_of lines)) ∙ spelled_parts lines);
    each = are_parts lines w;
    turns = closes lines;
    stops = refl;
  };
  are = entries_are 0 lines;
}
