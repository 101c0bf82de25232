-- Each file has one list of items, by the law that one list of words lies ahead.
use Rattle.std.proofs.Common.{◌≡◌, ℕ, List, length, refl, sym, ap, ◌∙◌}
use Rattle.file_reading.specs.Reading.{Item}
use Rattle.gerber_words.specs.Words.{Ahead, Entry, Stop, start}
use Rattle.gerber_words.specs.Laws.{HasOneReadingAhead}
use Rattle.gerber_words.specs.Items.{AreItems, items_with}

-- there is a list of items, and there is no other
pub some_items : {A : Type 0} → ((a : Ahead) → HasOneReadingAhead a) → (read : Entry → A) (conclude : Stop → A) (file : List ℕ) → (items : List (Item A)) × AreItems read conclude file items
some_items one read conclude file =
    let w = one (start file) in
    (items_with read conclude (length file) w.words w.stop, record { words = w.words; stop = w.stop; cut = w.is; are = refl })

pub one_items : {A : Type 0} → ((a : Ahead) → HasOneReadingAhead a) → (read : Entry → A) (conclude : Stop → A) (file : List ℕ) (items others : List (Item A)) → AreItems read conclude file items → AreItems read conclude file others → items ≡ others
one_items one read conclude file items others a b =
    let e = (one (start file)).only a.words a.stop a.cut in
    let f = (one (start file)).only b.words b.stop b.cut in
    a.are ∙ ap (λ (v : List Entry). items_with read conclude (length file) v a.stop) (e.0 ∙ sym f.0) ∙ ap (λ (t : Stop). items_with read conclude (length file) b.words t) (e.1 ∙ sym f.1) ∙ sym b.are
