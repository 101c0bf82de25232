-- One turn of the loops that make lists of a verdict.
use Rattle.std.proofs.Common.{◌≡◌, ℕ, ◌+◌, ◌<◌, List, ◌∷◌, ◌++◌, length, get_or, drop, sym, ap, ◌∙◌, append_assoc}
use Rattle.std.proofs.lemmas.List.{at_drop_more}
use Rattle.verdict.specs.declared.verdict.Open.{Open}
use Rattle.verdict.specs.declared.verdict.Seat.{Seat}

abbrev pub open_by : ℕ → ℕ → Seat → Open
open_by name home s = record { name = name; home = home; other = s.net; probe = s.probe }

-- `out` and what the rest of a list gives make the whole; the next item's part goes from the rest to `out`.
pub turn : {X A : Type 0} (F : List X → List A) (part : List A) (G : List X → List A) (out out' whole : List A) (xs : List X) (i : ℕ) (d : X) → i < length xs → F (get_or xs i d ∷ drop (i + 1) xs) ≡ part ++ G (drop (i + 1) xs) → out ++ F (drop i xs) ≡ whole → out' ≡ out ++ part → out' ++ G (drop (i + 1) xs) ≡ whole
turn F part G out out' whole xs i d below opens before now =
    ap (λ (t : List _). t ++ G (drop (i + 1) xs)) now ∙ (append_assoc out part (G (drop (i + 1) xs)) ∙ (ap (λ (t : List _). out ++ t) (sym opens ∙ sym (at_drop_more F xs i d below)) ∙ before))
