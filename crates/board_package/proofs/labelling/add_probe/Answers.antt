use Rattle.std.proofs.Common.{All, sym, subst}
use Rattle.ipc356_records.specs.NameTable.{names_in}
use Rattle.lengths.specs.Text.{IsText}
use Rattle.board_package.proofs.Named.{texts_kept}
use Rattle.board_package.proofs.labelling.add_probe.Goals as goal

pub returns-clause-lawful : goal.returns-clause-lawful
returns-clause-lawful c =
    subst (All IsText) (sym c.in_ok-name.ensures.kept) (texts_kept c.as_bytes.result.now (names_in c.args.names.now) (subst IsText (sym c.as_bytes.ensures.value) c.as_bytes.ensures.lawful) c.requires.lawful)
