use Rattle.std.proofs.Common.{ap, sym, ◌∙◌}
use Rattle.std.proofs.lemmas.List.{take-map}
use Rattle.board_shapes.specs.Plain.{plain_piece, plain_pieces}
use Rattle.drill_forms.proofs.form_reader.FormReader.keep.Goals as goal

pub returns-then-bare-clause-pieces : goal.returns-then-bare-clause-pieces
returns-then-bare-clause-pieces c = rw c.if-bare.true (ap plain_pieces c.truncate.ensures.items ∙ sym (take-map plain_piece c.args.count c.args.self.now.reader.pieces.items))
