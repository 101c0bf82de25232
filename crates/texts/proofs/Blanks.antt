-- Blanks in front of a text.
use Rattle.std.proofs.Common.{◌≡◌, ℕ, ◌+◌, ◌-◌, ◌≤◌, suc, true, false, List, ◌∷◌, length, refl, arith}
use Rattle.std.proofs.lemmas.List.{length-drop, length-take}
use Rattle.std.specs.List.{prefix_len, suffix_len}
use Rattle.texts.specs.Blanks.{is_blank, without_front, trimmed}

pub front-blank : (b : ℕ) (text : List ℕ) → is_blank b ≡ true → without_front (b ∷ text) ≡ without_front text
front-blank b text h =
    let more : 1 + prefix_len is_blank text ≡ suc (prefix_len is_blank text) = omega arith in
    rw (h, more) refl

pub front-other : (b : ℕ) (text : List ℕ) → is_blank b ≡ false → without_front (b ∷ text) ≡ b ∷ text
front-other b text h = rw h refl

pub trimmed-within : (text : List ℕ) → length (trimmed text) ≤ length text
trimmed-within text = omega (arith, length-take (length (without_front text) - suffix_len is_blank (without_front text)) (without_front text), length-drop (prefix_len is_blank text) text)
