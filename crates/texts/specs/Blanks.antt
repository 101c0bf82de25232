-- Blanks, and a text without those at its ends.
use Rattle.std.specs.Prelude.{ℕ, ◌-◌, Bool, ◌||◌, ◌==◌, List, length, take, drop}
use Rattle.std.specs.List.{prefix_len, suffix_len}

-- a tab or a space
abbrev pub is_blank : ℕ → Bool
is_blank b = b == 9 || b == 32

-- a text without the blanks at its front, at its back, and at both ends
abbrev pub without_front : List ℕ → List ℕ
without_front text = drop (prefix_len is_blank text) text

abbrev pub without_back : List ℕ → List ℕ
without_back text = take (length text - suffix_len is_blank text) text

abbrev pub trimmed : List ℕ → List ℕ
trimmed text = without_back (without_front text)
