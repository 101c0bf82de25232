use Rattle.std.proofs.Common.{refl, rules}
use Rattle.board_package.proofs.Adding.{added_lawful}
use Rattle.board_package.proofs.parts.Parts.add.Goals as goal

pub returns-clause-lawful : goal.returns-clause-lawful
returns-clause-lawful g c =
    added_lawful c.args.self.now _ c.args.pieces.items (record { pieces_are = search rules; probes_are = refl; names_are = refl; layers_are = refl }) c.requires.lawful c.requires.few c.requires.spans
