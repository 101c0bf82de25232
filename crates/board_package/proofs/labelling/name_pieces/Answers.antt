use Rattle.std.proofs.Common.{List, refl, reverse, ap, ◌∙◌}
use Rattle.board_shapes.specs.Pieces.{plain_pieces}
use Rattle.board_shapes.specs.declared.placed.Placed.{Placed}
use Rattle.board_shapes.specs.declared.shape.Shape.{Shape}
use Rattle.board_package.specs.LabelledBoard.{named_by}
use Rattle.board_package.proofs.Named.{named_parts}
use Rattle.board_package.proofs.labelling.name_pieces.Goals as goal

pub returns-clause-lawful : goal.returns-clause-lawful
returns-clause-lawful c =
    named_parts c.args.tables.now c.args.parts.now (record { pieces = c.args.parts.now.pieces; probes = c.in_ok-probes.probes; names = c.in_ok-probes.names; layers = c.args.parts.now.layers })
    c.requires.lawful refl refl (c.in_ok-probes.ensures ∙ ap (λ (xs : List (Placed Shape)). named_by c.args.tables.now (reverse (plain_pieces xs))) c.as_slice.ensures.value)
