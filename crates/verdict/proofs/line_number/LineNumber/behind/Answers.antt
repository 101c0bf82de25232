use Rattle.std.proofs.Common.{Some, ap, sym, ◌∙◌}
use Rattle.verdict.proofs.LineNumbers.{number_stands}
use Rattle.verdict.proofs.line_number.LineNumber.behind.Goals as goal

pub returns-then-from_le_bytes-self : goal.returns-then-from_le_bytes-self
returns-then-from_le_bytes-self c =
    let line = c.args.self in
    let first = c.in_ok-front.ensures.cases in
    number_stands c.args.bytes.now c.in_ok-front.front.now c.from_le_bytes.result line.mask line.word line.len line.number first.same first.enough (λ i. (c.type_inv.bytes i).fits) c.from_le_bytes.ensures
    c.if-from_le_bytes-self.true line.masks line.few line.spelled line.long line.unknown line.fits
    ∙ ap Some (sym c.split_at.ensures.back)
