use Rattle.std.proofs.Common.{rules}
use Rattle.std.proofs.lemmas.List.Sorted.{IsNonDecreasingBy-from_sort_by_key}
use Rattle.board_shapes.specs.Plain.{plain_board}
use Rattle.witness_check.proofs.Filing.{points_sorted}
use Rattle.witness_check.proofs.least.points_of.Goals as goal

pub returns : goal.returns
returns c = points_sorted (plain_board c.args.board.now) c.args.height _ _ c.in_ok-points.ensures c.sort_unstable_by_key.ensures.permutation (IsNonDecreasingBy-from_sort_by_key (λ s. s.place) _ c.sort_unstable_by_key.ensures.sorted (λ a r q k. search rules))
