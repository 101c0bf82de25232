use Rattle.std.proofs.Common.{◌≡◌, refl}
use Rattle.std.specs.Prelude.{codes}
use Rattle.verdict.proofs.Usual.{short_source}
use Rattle.verdict.proofs.lines.usual_source.Goals as goal

pub returns : goal.returns
returns c =
    let file : c.from-file.result ≡ c.in_ok-file.file = c.from-file.ensures in
    let copy : c.from-copy.result ≡ c.in_ok-copy.copy = c.from-copy.ensures in
    rw (file, copy) (short_source c.args.line.number c.in_ok-file.file c.in_ok-command.command c.in_ok-copy.copy c.in_ok-copy.top c.in_ok-copy.bottom
    c.args.bytes.now c.in_ok-rest.rest.now c.in_ok-file.behind_file.now c.in_ok-command.behind_command.now c.in_ok-copy.end.now
    (c.in_ok-rest.ensures (codes "source") refl) c.in_ok-file.ensures.1 c.in_ok-command.ensures c.in_ok-copy.ensures)
