-- The lines that a text of lines is cut into.
use Rattle.std.proofs.Common.{◌≡◌, ℕ, ◌+◌, ◌<◌, List, [], ◌∷◌, ◌++◌, length, map, refl, ap, ◌∙◌, arith, append_assoc}
use Rattle.std.proofs.lemmas.List.Splits.{length-slice_split, slice_split_at}
use Rattle.std.specs.List.{flat_map, slice_split, AllByRecursion}
use Rattle.texts.specs.Lines.{is_feed, without_return, lines_in, lines_from, lines_of}
use Rattle.texts.proofs.LineTexts.{IsPlain, no_feeds, whole_line}
use Rattle.file_reading.specs.Reading.{Item}
use Rattle.ipc356_records.specs.Line.{RecordLine}
use Rattle.ipc356_records.specs.NetlistFile.{item_of}
use Rattle.ipc356_records.specs.RecordLines.{form_of}
use Rattle.netlist_writer.specs.WrittenNetlist.{spelled}

-- lines by their forms, with their numbers from n on
abbrev pub items_from : ℕ → List (List ℕ) → List (Item RecordLine)
items_from n [] = []
items_from n (l ∷ lines) = record { says = form_of l; at = n } ∷ items_from (n + 1) lines

-- a part that others follow
part_then : (n at : ℕ) (part : List ℕ) (parts : List (List ℕ)) → 0 < length parts → map item_of (lines_in n at (part ∷ parts)) ≡ record { says = form_of (without_return part); at = n } ∷ map item_of (lines_in (n + 1) (at + length part + 1) parts)
part_then n at part [] some = absurd (omega (arith, some))
part_then n at part (next ∷ parts) some = refl

lines_cut : (n at : ℕ) (lines : List (List ℕ)) → AllByRecursion IsPlain lines → map item_of (lines_in n at (slice_split is_feed (flat_map spelled lines))) ≡ items_from n lines
lines_cut n at [] plain = refl
lines_cut n at (l ∷ lines) plain =
    let rest : List ℕ = flat_map spelled lines in
    let split : slice_split is_feed ((l ++ 10 ∷ []) ++ rest) ≡ l ∷ slice_split is_feed rest = ap (slice_split is_feed) (append_assoc l (10 ∷ []) rest) ∙ slice_split_at is_feed l 10 rest (no_feeds l plain.0) refl in
    let some : 0 < length (slice_split is_feed rest) = omega (arith, length-slice_split is_feed rest) in
    ap (λ (parts : List (List ℕ)). map item_of (lines_in n at parts)) split
    ∙ (part_then n at l (slice_split is_feed rest) some
    ∙ (ap (λ (text : List ℕ). record { says = form_of text; at = n } ∷ map item_of (lines_in (n + 1) (at + length l + 1) (slice_split is_feed rest))) (whole_line l plain.0)
    ∙ ap (λ (items : List (Item RecordLine)). record { says = form_of l; at = n } ∷ items) (lines_cut (n + 1) (at + length l + 1) lines plain.1)))

-- a text of lines is read line by line
pub text_cut : (lines : List (List ℕ)) → AllByRecursion IsPlain lines → map item_of (lines_of (flat_map spelled lines)) ≡ items_from 1 lines
unfolding lines_from
text_cut lines plain = lines_cut 1 0 lines plain
