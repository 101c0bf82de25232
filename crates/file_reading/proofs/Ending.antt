-- Files that a last item ends: before it nothing may end the file, and without it the file's end is refused.
use Rattle.std.proofs.Common.{◌≡◌, ℕ, inl, inr, Bool, true, false, List, [], ◌∷◌, ◌++◌, reverse, Result, IsOk, refl, sym, ap, ◌∙◌, subst}
use Rattle.std.proofs.lemmas.List.{append-nil, map-append, reverse-append, reverse-reverse}
use Rattle.file_reading.specs.Reading.{Item, Clean, IsRead, IsRefused, said}
use Rattle.file_reading.proofs.OneAnswer.{one_answer}
use Rattle.file_reading.proofs.Turning.{turn}

-- no item has a fault behind the history and those before it
abbrev pub CleanOn : {A E Why : Type 0} → (List A → A → Result E Why) → List A → List A → Type 0
CleanOn effect earlier [] = Unit {0}
CleanOn effect earlier (item ∷ rest) = IsOk (effect earlier item) × CleanOn effect (item ∷ earlier) rest

-- what a reader's table says of the file's end: which items end the file, and whether one stands in a history
pub record Ends {A E Why : Type 0} (effect : List A → A → Result E Why) (is_end : A → Bool) (has_ended : List A → Bool) (finish : A) : Type 0 where
  pub new : has_ended [] ≡ false
  pub still : (earlier : List A) (item : A) → is_end item ≡ false → has_ended earlier ≡ false → has_ended (item ∷ earlier) ≡ false
  pub ends : (earlier : List A) (item : A) → is_end item ≡ true → has_ended (item ∷ earlier) ≡ true
  pub stays : (earlier : List A) (item : A) → has_ended earlier ≡ true → IsOk (effect earlier item) → has_ended (item ∷ earlier) ≡ true
  pub once : (earlier : List A) (item : A) → has_ended earlier ≡ true → is_end item ≡ true → IsOk (effect earlier item) → ⊥
  pub needed : (earlier : List A) → has_ended earlier ≡ false → IsOk (effect earlier finish) → ⊥

-- no item ends the file
abbrev pub NoneEnd : {A : Type 0} → (A → Bool) → List A → Type 0
NoneEnd is_end [] = Unit {0}
NoneEnd is_end (item ∷ items) = (is_end item ≡ false) × NoneEnd is_end items

-- a clean history, read from its first item
clean_on : {A E Why : Type 0} (effect : List A → A → Result E Why) (earlier rest : List A) → Clean effect earlier → CleanOn effect earlier rest → CleanOn effect [] (reverse earlier ++ rest)
clean_on effect [] rest clean on = on
clean_on effect (item ∷ earlier) rest clean on = subst (CleanOn effect []) (turn earlier item rest) (clean_on effect earlier (item ∷ rest) clean.1 (clean.0, on))

-- where none ends the file, its end is refused
no_end : {A E Why : Type 0} (effect : List A → A → Result E Why) (is_end : A → Bool) (has_ended : List A → Bool) (finish : A) (earlier items : List A) → Ends effect is_end has_ended finish → has_ended earlier ≡ false → NoneEnd is_end items → CleanOn effect earlier (items ++ finish ∷ []) → ⊥
no_end effect is_end has_ended finish earlier [] e still none clean = e.needed earlier still clean.0
no_end effect is_end has_ended finish earlier (item ∷ items) e still none clean = no_end effect is_end has_ended finish (item ∷ earlier) items e (e.still earlier item none.0 still) none.1 clean.1

-- behind one that ends the file no other does
ended_once : {A E Why : Type 0} (effect : List A → A → Result E Why) (is_end : A → Bool) (has_ended : List A → Bool) (finish : A) (earlier before : List A) (last : A) (after : List A) → Ends effect is_end has_ended finish → has_ended earlier ≡ true → is_end last ≡ true → CleanOn effect earlier (before ++ last ∷ after) → ⊥
ended_once effect is_end has_ended finish earlier [] last after e ended is clean = e.once earlier last ended is clean.0
ended_once effect is_end has_ended finish earlier (item ∷ before) last after e ended is clean = ended_once effect is_end has_ended finish (item ∷ earlier) before last after e (e.stays earlier item ended clean.0) is clean.1

-- before one that ends the file none does
none_before : {A E Why : Type 0} (effect : List A → A → Result E Why) (is_end : A → Bool) (has_ended : List A → Bool) (finish : A) (earlier before : List A) (last : A) (after : List A) → Ends effect is_end has_ended finish → is_end last ≡ true → CleanOn effect earlier (before ++ last ∷ after) → NoneEnd is_end before
none_before effect is_end has_ended finish earlier [] last after e is clean = tt
none_before effect is_end has_ended finish earlier (item ∷ before) last after e is clean = (silent (is_end item) refl, none_before effect is_end has_ended finish (item ∷ earlier) before last after e is clean.1)
  where
    silent : (b : Bool) → is_end item ≡ b → is_end item ≡ false
    silent false h = h
    silent true h = absurd (ended_once effect is_end has_ended finish (item ∷ earlier) before last after e (e.ends earlier item h) is clean.1)

said_back : {A : Type 0} (items : List (Item A)) → said (reverse items) ≡ reverse (said items)
said_back [] = refl
said_back {A = A} (item ∷ items) = ap said (reverse-append (item ∷ []) items) ∙ map-append (λ (i : Item A). i.says) (reverse items) (item ∷ []) ∙ ap (λ (xs : List A). xs ++ item.says ∷ []) (said_back items) ∙ sym (reverse-append (item.says ∷ []) (said items))

-- what they say, the last first
said_whole : {A E Why V : Type 0} (effect : List A → A → Result E Why) (makes : List A → V) (items : List (Item A)) (value : V) → (r : IsRead effect makes items value) → said items ≡ reverse (said r.earlier) ++ []
said_whole {A = A} effect makes items value r = ap said r.whole.split ∙ map-append (λ (i : Item A). i.says) (reverse r.earlier) [] ∙ ap (λ (xs : List A). xs ++ []) (said_back r.earlier)

-- what the items of a file that is read say is clean
pub read_clean : {A E Why V : Type 0} (effect : List A → A → Result E Why) (makes : List A → V) (items : List (Item A)) (value : V) → IsRead effect makes items value → CleanOn effect [] (said items)
read_clean effect makes items value r = subst (CleanOn effect []) (sym (said_whole effect makes items value r)) (clean_on effect (said r.earlier) [] r.whole.clean tt)

-- of a file that is read: before the item that ends it none does
pub none_before_end : {A E Why V : Type 0} (effect : List A → A → Result E Why) (makes : List A → V) (is_end : A → Bool) (has_ended : List A → Bool) (finish : A) (items : List (Item A)) (value : V) (before : List A) (last : A) (after : List A) → Ends effect is_end has_ended finish → IsRead effect makes items value → said items ≡ before ++ last ∷ after → is_end last ≡ true → NoneEnd is_end before
none_before_end effect makes is_end has_ended finish items value before last after e r parts is = none_before effect is_end has_ended finish [] before last after e is (subst (CleanOn effect []) parts (read_clean effect makes items value r))

-- a file of which no item ends it is refused
pub refused_without_end : {A E Why V : Type 0} (effect : List A → A → Result E Why) (makes : List A → V) (is_end : A → Bool) (has_ended : List A → Bool) (finish : A) (items : List (Item A)) (front : List A) → Ends effect is_end has_ended finish → said items ≡ front ++ finish ∷ [] → NoneEnd is_end front → (why : Why) × (number : ℕ) × (place : ℕ) × IsRefused effect items why number place
refused_without_end {A = A} effect makes is_end has_ended finish items front e parts none = elim (one_answer effect makes items).some_answer [
  | inl read ↦ absurd (no_end effect is_end has_ended finish [] front e e.new none (subst (CleanOn effect []) parts (read_clean effect makes items read.0 read.1)))
  | inr refused ↦ refused
]

-- ---- What is made

-- what follows in a clean file makes nothing once one has ended it
abbrev pub IsIdleBehind : {A E Why V : Type 0} → (List A → A → Result E Why) → (List A → V) → (List A → Bool) → Type 0
IsIdleBehind {A = A} effect makes has_ended = (earlier : List A) (item : A) → has_ended earlier ≡ true → IsOk (effect earlier item) → makes (item ∷ earlier) ≡ makes earlier

-- what follows is clean behind what stands before it
pub clean_behind : {A E Why : Type 0} (effect : List A → A → Result E Why) (earlier before rest : List A) → CleanOn effect earlier (before ++ rest) → CleanOn effect (reverse before ++ earlier) rest
clean_behind effect earlier [] rest clean = clean
clean_behind {A = A} effect earlier (item ∷ before) rest clean = subst (λ (xs : List A). CleanOn effect xs rest) (turn before item earlier) (clean_behind effect (item ∷ earlier) before rest clean.1)

idle_behind : {A E Why V : Type 0} (effect : List A → A → Result E Why) (makes : List A → V) (is_end : A → Bool) (has_ended : List A → Bool) (finish : A) (earlier items : List A) → Ends effect is_end has_ended finish → IsIdleBehind effect makes has_ended → has_ended earlier ≡ true → CleanOn effect earlier items → makes (reverse items ++ earlier) ≡ makes earlier
idle_behind effect makes is_end has_ended finish earlier [] e idle ended clean = refl
idle_behind effect makes is_end has_ended finish earlier (item ∷ items) e idle ended clean =
    ap makes (sym (turn items item earlier)) ∙ idle_behind effect makes is_end has_ended finish (item ∷ earlier) items e idle (e.stays earlier item ended clean.0) clean.1 ∙ idle earlier item ended clean.0

-- a file that is read makes what its items do up to the one that ends it
made_to_end : {A E Why V : Type 0} (effect : List A → A → Result E Why) (makes : List A → V) (is_end : A → Bool) (has_ended : List A → Bool) (finish : A) (items : List (Item A)) (value : V) (before : List A) (last : A) (after : List A) → Ends effect is_end has_ended finish → IsIdleBehind effect makes has_ended → IsRead effect makes items value → said items ≡ before ++ last ∷ after → is_end last ≡ true → value ≡ makes (last ∷ (reverse before ++ []))
made_to_end {A = A} effect makes is_end has_ended finish items value before last after e idle r parts is =
    let clean = clean_behind effect [] before (last ∷ after) (subst (CleanOn effect []) parts (read_clean effect makes items value r)) in
    let whole : said r.earlier ≡ reverse after ++ (last ∷ (reverse before ++ [])) =
    sym (reverse-reverse (said r.earlier)) ∙ ap reverse (sym (append-nil (reverse (said r.earlier))) ∙ sym (said_whole effect makes items value r) ∙ parts) ∙ reverse-append before (last ∷ after) ∙ ap (λ (xs : List A). reverse (last ∷ after) ++ xs) (sym (append-nil (reverse before))) ∙ sym (turn after last (reverse before ++ [])) in
    r.is ∙ ap makes whole ∙ idle_behind effect makes is_end has_ended finish (last ∷ (reverse before ++ [])) after e idle (e.ends (reverse before ++ []) last is) clean.1

-- two files that are read and have the same items up to one that ends them make the same
pub same_made : {A E Why V : Type 0} (effect : List A → A → Result E Why) (makes : List A → V) (is_end : A → Bool) (has_ended : List A → Bool) (finish : A) (items others : List (Item A)) (value other : V) (before : List A) (last : A) (after later : List A) → Ends effect is_end has_ended finish → IsIdleBehind effect makes has_ended → IsRead effect makes items value → IsRead effect makes others other → said items ≡ before ++ last ∷ after → said others ≡ before ++ last ∷ later → is_end last ≡ true → other ≡ value
same_made effect makes is_end has_ended finish items others value other before last after later e idle r s parts others_are is =
    made_to_end effect makes is_end has_ended finish others other before last later e idle s others_are is ∙ sym (made_to_end effect makes is_end has_ended finish items value before last after e idle r parts is)
