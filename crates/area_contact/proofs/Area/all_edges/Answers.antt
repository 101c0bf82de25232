use Rattle.std.proofs.Common.{ap, arith, ◌∙◌, ℕ}
use Rattle.std.specs.List.{range_with_len}
use Rattle.area_contact.proofs.Area.all_edges.Goals as goal

pub returns : goal.returns
returns c = c.first_numbers.ensures ∙ ap (λ (n : ℕ). range_with_len 0 n) (omega arith)
