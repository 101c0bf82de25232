use Rattle.std.proofs.Common.{arith, ap, take, drop, ◌+◌, ◌∙◌}
use Rattle.std.proofs.lemmas.List.{take_rest}
use Rattle.xnc.specs.DrillLines as spec
use Rattle.xnc.proofs.Places.{found, lacking}
use Rattle.xnc.proofs.drill_lines.around_y.Goals as goal

pub returns-then-at-text : goal.returns-then-at-text
returns-then-at-text c =
    let value = c.place_of-at.ensures.value in
    let below = c.if-at-text.true in (
      found spec.is_y c.args.text.now (omega (arith, value, below)),
      ap (λ n. take n c.args.text.now) value,
      take_rest c.args.text.now (c.place_of-at.result + 1) ∙ ap (λ n. drop (n + 1) c.args.text.now) value,
    )

pub returns-else-at-text : goal.returns-else-at-text
returns-else-at-text c =
    let value = c.place_of-at.ensures.value in
    let past = c.if-at-text.false in
    lacking spec.is_y c.args.text.now (omega (arith, value, past))
