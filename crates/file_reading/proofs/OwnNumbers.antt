-- Kinds that a list has at their numbers have numbers of their own.
use Rattle.std.proofs.Common.{◌≡◌, ℕ, List, get_or, sym, ap, ◌∙◌}
use Rattle.file_reading.specs.Kinds.{HaveOwnNumbers, Row}

pub own_numbers : {K : Type 0} (row_of : K → Row) (numbered : List K) (none : K) → ((a : K) → get_or numbered (row_of a).number none ≡ a) → HaveOwnNumbers row_of
own_numbers row_of numbered none at_its_number a b same = sym (at_its_number a) ∙ (ap (λ (n : ℕ). get_or numbered n none) same ∙ at_its_number b)
