-- The lines of pieces, one by one.
use Rattle.std.proofs.Common.{◌≡◌, ℕ, ◌+◌, ◌<◌, List, ◌++◌, length, get_or, drop, refl, ap, ◌∙◌}
use Rattle.std.specs.List.{flat_map}
use Rattle.board_shapes.specs.declared.placed.Placed.{Placed}
use Rattle.board_shapes.specs.declared.shape.Shape.{Shape}
use Rattle.board_shapes.specs.Pieces.{plain_piece, plain_pieces}
use Rattle.judge.proofs.PointLines.{turn}
use Rattle.verdict.specs.declared.verdict.Twig.{Twig}
use Rattle.verdict.specs.Forest.{Holds, StandOnce}
use Rattle.netlist_writer.specs.WrittenNetlist.{net_of, place_line, place_lines, place_of, places_from, spelled}
use Rattle.netlist_writer.proofs.Nets.{found_net}

-- the lines of pieces from p on
abbrev pub lines_from : ℕ → List (List Twig) → ℕ → List (Placed Shape) → List ℕ
lines_from layers nets p pieces = flat_map spelled (place_lines p (places_from layers nets p (plain_pieces pieces)))

-- a table of numbers has the net of each piece
pub net_number : (nets : List (List Twig)) (numbers : List ℕ) (count p : ℕ) → StandOnce count nets → p < count → ((i q : ℕ) → Holds nets i q → get_or numbers q 0 ≡ i) → get_or numbers p 0 ≡ net_of nets p
net_number nets numbers count p once below numbered = let home = once.held p below in numbered (net_of nets p) p (found_net nets home.0 p home.1)

pub line_more : (layers : ℕ) (nets : List (List Twig)) (pieces : List (Placed Shape)) (p net : ℕ) (piece : Placed Shape) (out out' whole : List ℕ) → p < length pieces → piece ≡ get_or pieces p piece → net ≡ net_of nets p → out ++ lines_from layers nets p (drop p pieces) ≡ whole
    → out' ≡ out ++ spelled (place_line p (place_of layers net (plain_piece piece))) → out' ++ lines_from layers nets (p + 1) (drop (p + 1) pieces) ≡ whole
line_more layers nets pieces p net piece out out' whole below is same so_far put =
    let part : List ℕ = spelled (place_line p (place_of layers (net_of nets p) (plain_piece (get_or pieces p piece)))) in
    let one : out' ≡ out ++ spelled (place_line p (place_of layers (net_of nets p) (plain_piece piece))) = put ∙ ap (λ (n : ℕ). out ++ spelled (place_line p (place_of layers n (plain_piece piece)))) same in
    turn (lines_from layers nets p) part (lines_from layers nets (p + 1)) out out' whole pieces p piece below refl so_far (one ∙ ap (λ (x : Placed Shape). out ++ spelled (place_line p (place_of layers (net_of nets p) (plain_piece x)))) is)
