-- The words of a text.
use Rattle.std.proofs.Common.{◌≡◌, ℕ, ◌+◌, ◌≤◌, suc, Bool, true, false, not, List, [], ◌∷◌, length, take, drop, filter, refl, sym, ap, subst, ◌∙◌, arith}
use Rattle.std.specs.List.{slice_split, position_or_len}
use Rattle.texts.specs.Blanks.{is_blank, without_front}
use Rattle.ipc356_records.specs.Columns.{is_empty, words}
use Rattle.texts.proofs.Blanks.{front-blank, front-other}

abbrev kept : List (List ℕ) → List (List ℕ)
kept parts = filter (λ w. not (is_empty w)) parts

blank_first : (b : ℕ) (text : List ℕ) → is_blank b ≡ true → words (b ∷ text) ≡ words text
unfolding words
blank_first b text h = rw h refl

-- the first part of a text, and the parts behind it
record FirstPart (text : List ℕ) : Type 0 where
  others : List (List ℕ)
  parts : slice_split is_blank text ≡ take (position_or_len is_blank text) text ∷ others
  words_are : kept others ≡ words (drop (position_or_len is_blank text) text)

first_part : (text : List ℕ) → FirstPart text
unfolding words
first_part [] = record { others = []; parts = refl; words_are = refl }
first_part (b ∷ text) = by (is_blank b) refl (first_part text)
  where
    by : (v : Bool) → is_blank b ≡ v → FirstPart text → FirstPart (b ∷ text)
    by true e p = record {
      others = slice_split is_blank text;
      parts = rw e refl;
      words_are = rw e (rw e refl);
    }
    by false e p =
        let more : 1 + position_or_len is_blank text ≡ suc (position_or_len is_blank text) = omega arith in
        record {
          others = p.others;
          parts = rw (e, more, p.parts) refl;
          words_are = rw (e, more) p.words_are;
        }

-- the first word begins behind the blanks at the start
abbrev pub Next : List ℕ → List ℕ → Type 0
Next text behind = words text ≡ take (position_or_len is_blank behind) behind ∷ words (drop (position_or_len is_blank behind) behind)

word_at : (b : ℕ) (text : List ℕ) → is_blank b ≡ false → Next (b ∷ text) (b ∷ text)
unfolding words
word_at b text e =
    let p = first_part text in
    let n : 1 + position_or_len is_blank text ≡ suc (position_or_len is_blank text) = omega arith in
    rw (e, n, p.parts) (ap (λ (ws : List (List ℕ)). (b ∷ take (position_or_len is_blank text) text) ∷ ws) p.words_are)

pub first_word : (text : List ℕ) → 1 ≤ length (without_front text) → Next text (without_front text)
first_word [] h = absurd (omega arith)
first_word (b ∷ text) h = by (is_blank b) refl (first_word text)
  where
    by : (v : Bool) → is_blank b ≡ v → (1 ≤ length (without_front text) → Next text (without_front text)) → Next (b ∷ text) (without_front (b ∷ text))
    by true e more =
        let same : without_front (b ∷ text) ≡ without_front text = front-blank b text e in
        subst (Next (b ∷ text)) (sym same) (blank_first b text e ∙ more (subst (λ (xs : List ℕ). 1 ≤ length xs) same h))
    by false e more = subst (Next (b ∷ text)) (sym (front-other b text e)) (word_at b text e)

pub no_word : (text : List ℕ) → length (without_front text) ≡ 0 → words text ≡ []
unfolding words
no_word [] h = refl
no_word (b ∷ text) h = by (is_blank b) refl (no_word text)
  where
    by : (v : Bool) → is_blank b ≡ v → (length (without_front text) ≡ 0 → words text ≡ []) → words (b ∷ text) ≡ []
    by true e more = blank_first b text e ∙ more (ap length (sym (front-blank b text e)) ∙ h)
    by false e more = absurd (let k : length (b ∷ text) ≡ 0 = ap length (sym (front-other b text e)) ∙ h in omega arith)
