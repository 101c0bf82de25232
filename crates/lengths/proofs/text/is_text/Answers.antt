use Rattle.std.proofs.Common.{rules, ◌≡◌}
use Rattle.lengths.proofs.Texts.{tells_text}
use Rattle.lengths.specs.Text.{is_text as spells_text}
use Rattle.lengths.proofs.text.is_text.Goals as goal

pub returns-then-bytes-le-MOST_NAME_BYTES-clause-lawful : goal.returns-then-bytes-le-MOST_NAME_BYTES-clause-lawful
returns-then-bytes-le-MOST_NAME_BYTES-clause-lawful c =
    let value : c.all_printable.result ≡ spells_text c.args.bytes.now = search rules in
    tells_text c.args.bytes.now c.all_printable.result value
