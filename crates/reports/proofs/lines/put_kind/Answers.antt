use Rattle.std.proofs.Common.{◌≡◌, ◌∙◌, ap, decimal}
use Rattle.reports.proofs.lines.put_kind.Goals as goal

pub returns : goal.returns
returns g c =
    let number : c.as_bytes-2.result.now ≡ decimal c.args.kind.number = c.as_bytes-2.ensures ∙ (c.of-number.ensures ∙ ap decimal c.from.ensures) in
    rw (← c.as_bytes.ensures.value, ← number, ← c.as_bytes-3.ensures.value) c.put_both.ensures
