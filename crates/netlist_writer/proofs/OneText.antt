-- The written netlist belongs to the board, whatever right verdict its nets come from.
use Rattle.std.proofs.Common.{◌≡◌, ℕ, ◌+◌, ◌<◌, List, [], ◌∷◌, length, Option, refl, ap, ◌∙◌, arith}
use Rattle.board_shapes.proofs.BoardTables.{tables_are_consistent}
use Rattle.board_shapes.specs.Pieces.{PlainPiece}
use Rattle.verdict.specs.declared.verdict.Twig.{Twig}
use Rattle.verdict.specs.Right.{Covers}
use Rattle.witness_check.proofs.Differences.{held_too}
use Rattle.netlist_writer.specs.WrittenNetlist.{TestPlace, net_of, netlist_text, place_of, places_from}
use Rattle.netlist_writer.specs.Laws.{WrittenNetlistsAreOne}
use Rattle.netlist_writer.proofs.Nets.{found_net}

-- where each piece has one net number, the places are the same
places_same : (layers : ℕ) (nets others : List (List Twig)) (p : ℕ) (pieces : List PlainPiece) → ((q : ℕ) → q < p + length pieces → net_of nets q ≡ net_of others q) → places_from layers nets p pieces ≡ places_from layers others p pieces
places_same layers nets others p [] same = refl
places_same layers nets others p (piece ∷ pieces) same =
    ap (λ (n : ℕ). place_of layers n piece ∷ places_from layers nets (p + 1) pieces) (same p (omega arith))
    ∙ ap (λ (ps : List (Option TestPlace)). place_of layers (net_of others p) piece ∷ ps) (places_same layers nets others (p + 1) pieces (λ q below. same q (omega (arith, below))))

pub written_netlists_are_one : WrittenNetlistsAreOne
written_netlists_are_one b t v w is right other =
    let consistent = tables_are_consistent b t is in
    let many = is.near.many in
    ap netlist_text (places_same b.layers v.nets w.nets 0 b.pieces (λ q below. (
    let home = (right Covers).held q (omega (arith, many, below)) in
    let one = found_net v.nets home.0 q home.1 in
    let there = held_too t v w consistent right other (net_of v.nets q) q one in
    (other Covers).one_net (net_of v.nets q) (net_of w.nets q) q there (found_net w.nets (net_of v.nets q) q there)
    )))
