-- What a writer that tells gets, write by write.
use Rattle.std.proofs.Common.{◌≡◌, ◌≤◌, ◌+◌, ◌-◌, ℕ, List, ◌++◌, length, take, drop, Option, sym, ap, subst, ◌∙◌, arith}
use Rattle.std.specs.Io.KnownBytes.{Appends}
use Rattle.std.proofs.lemmas.List.{length-drop}
use Rattle.std.proofs.KnownBytes.{Appends-trans}
use Rattle.std.proofs.Math.Seq.{take-add, take-length}

-- behind the first n bytes of the piece it got k more
pub more : (piece rest : List ℕ) (a b c : Option (List ℕ)) (n k : ℕ) → n ≤ length piece → rest ≡ take (length piece - n) (drop n piece) → Appends a b (take n piece) → k ≤ length rest → Appends b c (take k rest)
    → (n + k ≤ length piece) × Appends a c (take (n + k) piece)
more piece rest a b c n k few here front most next =
    let size : length (drop n piece) ≡ length piece - n = length-drop n piece in
    let all : rest ≡ drop n piece = here ∙ (ap (λ z. take z (drop n piece)) (sym size) ∙ take-length (drop n piece)) in
    let long : length rest ≡ length piece - n = ap length all ∙ size in
    (omega (arith, few, most, long), subst (λ zs. Appends a c zs) (sym (take-add n k piece ∙ ap (λ zs. take n piece ++ take k zs) (sym all))) (Appends-trans a b c (take n piece) (take k rest) front next))
