-- What `check` reads means the same in the wider dialect.
use Rattle.std.proofs.Common.{◌≡◌, ℕ, ◌+◌, Bool, true, false, cond, List, [], ◌∷◌, ◌++◌, length, map, reverse, Some, None, IsOk, refl, sym, ap, ◌∙◌, subst}
use Rattle.std.proofs.lemmas.List.{append-nil, map-append, reverse-append, reverse-reverse}
use Rattle.file_reading.specs.Reading as reading
use Rattle.file_reading.specs.Reading.{Item, Clean, said}
use Rattle.texts.specs.Lines.{PlainLine, lines_of}
use Rattle.ipc356_records.specs.Line.{RecordLine, blank, unread, units, ends, continues, tests, unknown, finishes}
use Rattle.ipc356_records.specs.NetlistFile as narrow
use Rattle.ipc356_records.specs.NetlistFile.{effect_at, netlist_of}
use Rattle.ipc356_records.specs.RecordEffects.{Known, behind, effect, row, set_unit}
use Rattle.ipc356_records.specs.RecordLines as narrow_lines
use Rattle.ipc356_records.specs.Settings.{known_at}
use Rattle.net_forms.specs.Laws.{TakesTheSame}
use Rattle.net_forms.specs.NetFile.{item_of, items}
use Rattle.net_forms.specs.NetLines.{form_of, widened}

-- a line of no form that `check` knows, or of no unit, has a fault wherever it stands
never_unknown : (k : Known) (b : Bool) → IsOk (cond b (behind unknown) (row k unknown)) → ⊥
unfolding row
never_unknown k true ok = cc
never_unknown k false ok = cc

never_no_unit : (k : Known) (b : Bool) → IsOk (cond b (behind (units None)) (row k (units None))) → ⊥
unfolding row set_unit
never_no_unit k true ok = cc
never_no_unit k false ok = cc

-- a line without a fault says here what it says to `check`
means : (k : Known) (n : RecordLine) (t : List ℕ) → IsOk (effect k n) → widened n t ≡ n
unfolding effect
means k unknown t ok = absurd (never_unknown k k.ended ok)
means k (units None) t ok = absurd (never_no_unit k k.ended ok)
means k (units (Some u)) t ok = refl
means k blank t ok = refl
means k unread t ok = refl
means k ends t ok = refl
means k continues t ok = refl
means k (tests fields) t ok = refl
means k finishes t ok = refl

abbrev item_with : ℕ → RecordLine → Item RecordLine
item_with n f = record { says = f; at = n }

same_line : (layers : ℕ) (earlier : List RecordLine) (l : PlainLine) → IsOk (effect_at layers earlier (narrow_lines.form_of l.text)) → ◌≡◌ {A = Item RecordLine} (narrow.item_of l) (item_of l)
unfolding form_of
same_line layers earlier l ok = ap (item_with l.number) (sym (means (known_at layers earlier) (narrow_lines.form_of l.text) l.text ok))

two_lists : (a b : Item RecordLine) (xs ys : List (Item RecordLine)) → a ≡ b → xs ≡ ys → ◌≡◌ {A = List (Item RecordLine)} (a ∷ xs) (b ∷ ys)
two_lists a b xs ys e f = ap (λ (t : Item RecordLine). t ∷ xs) e ∙ ap (λ (t : List (Item RecordLine)). b ∷ t) f

-- so it is of many lines, the last first
same_lines : (layers : ℕ) (h : List PlainLine) → Clean (effect_at layers) (said (map narrow.item_of h)) → map narrow.item_of h ≡ map item_of h
same_lines layers [] clean = refl
same_lines layers (l ∷ h) clean = two_lists (narrow.item_of l) (item_of l) (map narrow.item_of h) (map item_of h) (same_line layers (said (map narrow.item_of h)) l clean.0) (same_lines layers h clean.1)

map_back : {A B : Type 0} (f : A → B) (xs : List A) → reverse (map f xs) ≡ map f (reverse xs)
map_back f [] = refl
map_back f (x ∷ xs) = reverse-append (f x ∷ []) (map f xs) ∙ ap (λ ys. ys ++ f x ∷ []) (map_back f xs) ∙ sym (map-append f (reverse xs) (x ∷ [])) ∙ ap (map f) (sym (reverse-append (x ∷ []) xs))

-- the items of lines and an end, the last first
back : {A B : Type 0} (f : A → B) (xs : List A) (last : B) → reverse (map f xs ++ last ∷ []) ≡ last ∷ map f (reverse xs)
back f xs last = reverse-append (map f xs) (last ∷ []) ∙ ap (λ ys. last ∷ ys) (map_back f xs)

-- a list that is the reverse of another and nothing more
turned : {A : Type 0} (xs ys : List A) → xs ≡ reverse ys ++ [] → ys ≡ reverse xs
turned xs ys h = sym (reverse-reverse ys) ∙ ap reverse (sym (append-nil (reverse ys)) ∙ sym h)

abbrev end_of : List ℕ → Item RecordLine
end_of file = record { says = finishes; at = length (lines_of file) + 1 }

pub takes_the_same : (file : List ℕ) (layers : ℕ) → TakesTheSame file layers
takes_the_same file layers probes names read =
    let h : List PlainLine = reverse (lines_of file) in
    let last : Item RecordLine = end_of file in
    let are : read.earlier ≡ last ∷ map narrow.item_of h = turned (narrow.items file) read.earlier read.whole.split ∙ back narrow.item_of (lines_of file) last in
    let clean : Clean (effect_at layers) (said (last ∷ map narrow.item_of h)) = subst (λ (is : List (Item RecordLine)). Clean (effect_at layers) (said is)) are read.whole.clean in
    let lines : map narrow.item_of h ≡ map item_of h = same_lines layers h clean.1 in
    let turned_same : reverse (narrow.items file) ≡ reverse (items file) = back narrow.item_of (lines_of file) last ∙ ap (λ (is : List (Item RecordLine)). last ∷ is) lines ∙ sym (back item_of (lines_of file) last) in
    let same : narrow.items file ≡ items file = sym (reverse-reverse (narrow.items file)) ∙ ap reverse turned_same ∙ reverse-reverse (items file) in
    subst (λ (is : List (Item RecordLine)). reading.IsRead (effect_at layers) (netlist_of layers) is (record { probes = probes; names = names })) same read
