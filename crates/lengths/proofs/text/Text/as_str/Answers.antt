use Rattle.std.proofs.lemmas.Str.{IsUtf8-from_ascii}
use Rattle.lengths.proofs.Printable.{IsAscii-printable}
use Rattle.lengths.proofs.text.Text.as_str.Goals as goal

pub unreachable-requires : goal.unreachable-requires
unreachable-requires c = c.in-Err.ensures.cases.0 (rw c.as_bytes.ensures.value (IsUtf8-from_ascii _ (IsAscii-printable _ c.as_bytes.ensures.lawful.printable)))
