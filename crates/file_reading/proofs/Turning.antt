-- One item more.
use Rattle.std.proofs.Common.{◌≡◌, ◌+◌, List, [], ◌∷◌, ◌++◌, length, reverse, Result, Err, IsOk, refl, sym, ap, ◌∙◌, append_assoc}
use Rattle.std.proofs.lemmas.List.{reverse-append}
use Rattle.file_reading.specs.Reading.{Item, IsReadTo, IsRefused, said}

pub turn : {A : Type 0} (earlier : List A) (i : A) (rest : List A) → reverse earlier ++ (i ∷ rest) ≡ reverse (i ∷ earlier) ++ rest
turn {A = A} earlier i rest = sym (ap (λ (xs : List A). xs ++ rest) (reverse-append (i ∷ []) earlier) ∙ append_assoc (reverse earlier) (i ∷ []) rest)

-- nothing is read yet
pub read-start : {A E Why : Type 0} (effect : List A → A → Result E Why) (items : List (Item A)) → IsReadTo effect items [] items
read-start effect items = record { split = refl; clean = tt }

-- the next item has no fault
pub read-more : {A E Why : Type 0} (effect : List A → A → Result E Why) (items earlier rest : List (Item A)) (item : Item A) → IsReadTo effect items earlier (item ∷ rest) → IsOk (effect (said earlier) item.says) → IsReadTo effect items (item ∷ earlier) rest
read-more effect items earlier rest item r ok = record { split = r.split ∙ turn earlier item rest; clean = (ok, r.clean) }

-- the item before was read
pub read-less : {A E Why : Type 0} (effect : List A → A → Result E Why) (items earlier rest : List (Item A)) (item : Item A) → IsReadTo effect items (item ∷ earlier) rest → IsReadTo effect items earlier (item ∷ rest)
read-less effect items earlier rest item r = record { split = r.split ∙ sym (turn earlier item rest); clean = r.clean.1 }

-- the next item has a fault
pub read-fault : {A E Why : Type 0} (effect : List A → A → Result E Why) (items earlier later : List (Item A)) (item : Item A) (why : Why) → IsReadTo effect items earlier (item ∷ later) → effect (said earlier) item.says ≡ Err why → IsRefused effect items why (length earlier + 1) item.at
read-fault effect items earlier later item why r h = record { earlier = earlier; item = item; later = later; first = r; is = h; counts = refl; at = refl }
