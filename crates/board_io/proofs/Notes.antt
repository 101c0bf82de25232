-- What a sink says of itself, note by note.
use Rattle.std.proofs.Common.{◌≡◌, ℕ, List, [], ◌∷◌, ◌++◌, length, Option, sym, ap, subst, ◌∙◌, append-nil, arith}
use Rattle.std.proofs.lemmas.List.{map-append}
use Rattle.std.proofs.lemmas.List.Folds.{concat-append}
use Rattle.std.proofs.Math.Seq.{take-length}
use Rattle.std.specs.Io.KnownBytes.{Appends}
use Rattle.std.specs.List.{concat}
use Rattle.std.specs.Prelude.{map}
use Rattle.board_io.specs.Handed.{Note, note_of, taken}
use Rattle.board_io.specs.Sink.{Writes}

-- one note more
pub noted : (old new : List Note) (first second number : List ℕ) → new ≡ old ++ note_of first second number ∷ [] → taken new ≡ taken old ++ second
noted old new first second number e =
    let all : List Note → List (List ℕ) = λ notes. map (λ (n : Note). n.1.0) notes in
    ap taken e ∙ (ap concat (map-append (λ (n : Note). n.1.0) old (note_of first second number ∷ [])) ∙ (concat-append (all old) (second ∷ []) ∙ ap (λ zs. taken old ++ zs) (append-nil second)))

-- a piece that was taken whole
pub written : (before after : Option (List ℕ)) (piece : List ℕ) (old new : List Note) → Appends before after piece → new ≡ old ++ note_of piece piece [] ∷ [] → Writes before piece after (taken old) (taken new)
written before after piece old new all e =
    (length piece, omega arith, subst (λ zs. Appends before after zs) (sym (take-length piece)) all, noted old new piece piece [] e ∙ ap (λ zs. taken old ++ zs) (sym (take-length piece)))
