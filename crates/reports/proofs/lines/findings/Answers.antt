use Rattle.std.proofs.Common.{◌≡◌, ◌∙◌, decimal}
use Rattle.reports.proofs.lines.findings.Goals as goal

pub returns : goal.returns
returns g c =
    let opens : c.as_bytes.result.now ≡ decimal c.args.opens = c.as_bytes.ensures ∙ c.of.ensures in
    let shorts : c.as_bytes-2.result.now ≡ decimal c.args.shorts = c.as_bytes-2.ensures ∙ c.of-2.ensures in
    let missing : c.as_bytes-3.result.now ≡ decimal c.args.missing = c.as_bytes-3.ensures ∙ c.of-3.ensures in
    rw (← opens, ← shorts, ← missing) c.put_all.ensures.says
