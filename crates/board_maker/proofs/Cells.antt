-- The texts of the cells, one after another.
use Rattle.std.proofs.Common.{◌≡◌, ℕ, ◌+◌, List, [], ◌++◌, refl, sym, ap, ◌∙◌, append_assoc, add-one}
use Rattle.board_maker.specs.MadeBoard.{cells}

pub cells_none : (text : ℕ → List ℕ) → cells text 0 ≡ []
unfolding cells
cells_none text = refl

pub cells_more : (text : ℕ → List ℕ) (i : ℕ) → cells text (i + 1) ≡ cells text i ++ text i
unfolding cells
cells_more text i = rw add-one refl

-- one turn of a loop that appends the text of each cell
pub cells_turn : (text : ℕ → List ℕ) (start before after : List ℕ) (i : ℕ) → before ≡ start ++ cells text i → after ≡ before ++ text i → after ≡ start ++ cells text (i + 1)
cells_turn text start before after i so_far now =
    now ∙ (ap (λ (t : List ℕ). t ++ text i) so_far ∙ (append_assoc start (cells text i) (text i) ∙ ap (λ (t : List ℕ). start ++ t) (sym (cells_more text i))))
