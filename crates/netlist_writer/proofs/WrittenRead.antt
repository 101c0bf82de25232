-- A written netlist is read back.
use Rattle.std.proofs.Common.{◌≡◌, ℕ, zero, suc, ◌+◌, ◌-◌, ◌^◌, ◌<◌, ◌≤◌, true, List, [], ◌∷◌, ◌++◌, length, reverse, ℤ, pos, negsuc, Option, Some, None, refl, sym, ap, ◌∙◌, subst, arith, append_assoc, append-nil}
use Rattle.std.proofs.lemmas.List.{reverse-append}
use Rattle.std.proofs.lemmas.List.Folds.{list_all-append}
use Rattle.std.specs.List.{flat_map, list_all, AllByRecursion}
use Rattle.std.specs.Prelude.{decimal}
use Rattle.planar.specs.declared.Spot.{Spot}
use Rattle.board_shapes.specs.declared.probe.Probe.{Probe}
use Rattle.texts.specs.Digits.{is_decimal_digit}
use Rattle.texts.specs.LastDigits.{last_digits}
use Rattle.texts.specs.Lines.{lines_of}
use Rattle.file_reading.specs.Reading.{Item, said}
use Rattle.ipc356_records.specs.Line.{RecordLine, finishes}
use Rattle.ipc356_records.specs.NetlistFile.{Netlist, items, IsRead}
use Rattle.ipc356_records.specs.Settings.{names_of}
use Rattle.ipc356_records.specs.RecordLines.{form_of}
use Rattle.ipc356_records.proofs.OneAnswer.{one_answer}
use Rattle.netlist_writer.specs.TestLine.{access_text, coordinate, net_name, steps_of, test_line}
use Rattle.netlist_writer.specs.WrittenNetlist.{TestPlace, netlist_lines, netlist_text, place_line, place_lines, spelled}
use Rattle.netlist_writer.specs.Laws.{ReadsBack, names_after, present, probes_after}
use Rattle.netlist_writer.proofs.Digits.{written, few_digits}
use Rattle.texts.proofs.LastDigits.{last_are_digits}
use Rattle.texts.proofs.DigitBytes.{wider, digit_plain}
use Rattle.texts.proofs.LineTexts.{is_plain, IsPlain}
use Rattle.netlist_writer.proofs.TestLines.{IsCode, hole, pad, blanks, line_parts, padded, tail}
use Rattle.netlist_writer.proofs.Cut.{items_from, text_cut}
use Rattle.netlist_writer.proofs.Histories.{Ended, IsWritableIf, behind, ended-finish, netlist_then}
use Rattle.board_shapes.specs.declared.TheConstants.{MOST_LAYERS}
use Rattle.ipc356_records.specs.declared.TheConstants.{MOST_RECORDS}

-- ---- Each line is one

plain-append : (xs ys : List ℕ) → IsPlain xs → IsPlain ys → IsPlain (xs ++ ys)
plain-append xs ys a b = list_all-append is_plain xs ys ∙ rw (a, b) refl

plain_digits : (k n : ℕ) → IsPlain (last_digits k n)
plain_digits k n = wider is_decimal_digit is_plain digit_plain (last_digits k n) (last_are_digits k n)

plain_decimal : (n : ℕ) → n < 2 ^ 64 → IsPlain (decimal n)
plain_decimal n small = wider is_decimal_digit is_plain digit_plain (decimal n) (written n small).digits

plain_blanks : (n : ℕ) → IsPlain (blanks n)
plain_blanks zero = refl
plain_blanks (suc n) = plain_blanks n

plain_coordinate : (letter : ℕ) (z : ℤ) → is_plain letter ≡ true → IsPlain (coordinate letter z)
plain_coordinate letter (pos n) h = rw (h, plain_digits 6 (steps_of (pos n))) refl
plain_coordinate letter (negsuc n) h = rw (h, plain_digits 6 (steps_of (negsuc n))) refl

plain_tail : (access : ℕ) (at : Spot) → IsPlain (tail access at)
plain_tail access at = plain-append (access_text access) (coordinate 88 at.x ++ coordinate 89 at.y) (plain_digits 2 access) (plain-append (coordinate 88 at.x) (coordinate 89 at.y) (plain_coordinate 88 at.x refl) (plain_coordinate 89 at.y refl))

plain_record : (code : List ℕ) (n access : ℕ) (at : Spot) → IsCode code → n < 2 ^ 32 → IsPlain (test_line code (net_name n) access at)
unfolding padded
plain_record code n access at is few = by code is
  where
    padded_is : IsPlain (padded (net_name n) ++ tail access at)
    padded_is = plain-append (padded (net_name n)) (tail access at) (plain-append (net_name n) (blanks (14 - length (net_name n))) (plain_decimal n (omega (arith, few))) (plain_blanks (14 - length (net_name n)))) (plain_tail access at)

    name_few : length (net_name n) ≤ 14
    name_few = let short = few_digits n few in omega (arith, short)

    by : (code : List ℕ) → IsCode code → IsPlain (test_line code (net_name n) access at)
    by code hole = ap (list_all is_plain) (line_parts 51 49 55 (net_name n) access at name_few) ∙ padded_is
    by code pad = ap (list_all is_plain) (line_parts 51 50 55 (net_name n) access at name_few) ∙ padded_is

plain_place : (layers p : ℕ) (place : Option TestPlace) → p < 2 ^ 64 → IsWritableIf layers place → IsPlain (place_line p place)
plain_place layers p None small fine = plain_decimal p small
plain_place layers p (Some t) small fine = plain_record t.code t.net t.access t.at fine.code fine.net

plain_places : (layers p : ℕ) (places : List (Option TestPlace)) → p + length places < 2 ^ 64 → AllByRecursion (IsWritableIf layers) places → AllByRecursion IsPlain (place_lines p places)
plain_places layers p [] small fine = (refl, tt)
plain_places layers p (place ∷ places) small fine = (plain_place layers p place (omega (arith, small)) fine.0, plain_places layers (p + 1) places (omega (arith, small)) fine.1)

plain_lines : (layers : ℕ) (places : List (Option TestPlace)) → length places ≤ MOST_RECORDS → AllByRecursion (IsWritableIf layers) places → AllByRecursion IsPlain (netlist_lines places)
plain_lines layers places few fine = (refl, (refl, plain_places layers 0 places (omega (arith, few)) fine))

-- ---- The whole file

-- items put before earlier ones, the last first
onto : List (Item RecordLine) → List (Item RecordLine) → List (Item RecordLine)
onto earlier [] = earlier
onto earlier (i ∷ later) = onto (i ∷ earlier) later

reverse-onto : (earlier later : List (Item RecordLine)) → reverse (onto earlier later) ≡ reverse earlier ++ later
unfolding onto
reverse-onto earlier [] = sym (append-nil (reverse earlier))
reverse-onto earlier (i ∷ later) = reverse-onto (i ∷ earlier) later ∙ ap (λ (xs : List (Item RecordLine)). xs ++ later) (reverse-append (i ∷ []) earlier) ∙ append_assoc (reverse earlier) (i ∷ []) later

-- probes and names as the reader's netlist
abbrev pub netlist : List Probe → List (List ℕ) → Netlist
netlist probes names = record { probes = probes; names = names }

-- the file's end
abbrev end_at : ℕ → Item RecordLine
end_at n = record { says = finishes; at = n }

said-onto : (n m : ℕ) (earlier : List (Item RecordLine)) (lines : List (List ℕ)) → said (onto earlier (items_from n lines ++ end_at m ∷ [])) ≡ finishes ∷ behind (said earlier) lines
unfolding onto
said-onto n m earlier [] = refl
said-onto n m earlier (l ∷ lines) = said-onto (n + 1) m (record { says = form_of l; at = n } ∷ earlier) lines

lines_read : (layers : ℕ) (names : List (List ℕ)) (probes : List Probe) (lines : List (List ℕ)) → AllByRecursion IsPlain lines → Ended layers names probes (behind [] lines) → ReadsBack layers (flat_map spelled lines) probes names
lines_read layers names probes lines plain d =
    let file : List ℕ = flat_map spelled lines in
    let last : ℕ = length (lines_of file) + 1 in
    let all : List (Item RecordLine) = items_from 1 lines ++ end_at last ∷ [] in
    let are : items file ≡ all = ap (λ (is : List (Item RecordLine)). is ++ end_at last ∷ []) (text_cut lines plain) in
    let same : said (onto [] all) ≡ finishes ∷ behind [] lines = said-onto 1 last [] lines in
    let over : Ended layers names probes (said (onto [] all)) = subst (Ended layers names probes) (sym same) (ended-finish layers names probes (behind [] lines) d) in
    let read : IsRead file layers probes names = record {
      earlier = onto [] all;
      whole = record { split = are ∙ (sym (reverse-onto [] all) ∙ sym (append-nil (reverse (onto [] all)))); clean = over.clean };
      is = sym (ap (λ (ps : List Probe). netlist ps (names_of (said (onto [] all)))) over.are ∙ ap (netlist probes) over.named);
    } in
    record { read = read; not_refused = λ why line r. (one_answer file layers).not_both (netlist probes names) why r.0 line read r.1 }

-- a text of test places is read as them
pub places_read : (layers : ℕ) (places : List (Option TestPlace)) → layers ≤ MOST_LAYERS → AllByRecursion (IsWritableIf layers) places → length places ≤ MOST_RECORDS → ReadsBack layers (netlist_text places) (probes_after layers 0 [] (present places)) (names_after [] (present places))
places_read layers places fits fine few = lines_read layers (names_after [] (present places)) (probes_after layers 0 [] (present places)) (netlist_lines places) (plain_lines layers places few fine) (netlist_then layers places fits fine few)
