use Rattle.std.proofs.Common.{arith, rules, take, ◌+◌}
use Rattle.std.proofs.lemmas.List.{take_rest}
use Rattle.lengths.specs.Text.{IsText}
use Rattle.verdict.proofs.Steps.{text_cut, text_cut_refused, text_endless}
use Rattle.verdict.proofs.lines.text.Goals as goal

pub returns-then-end-bytes : goal.returns-then-end-bytes
returns-then-end-bytes c = text_endless c.args.bytes.now c.place_of-end.result c.place_of-end.ensures.value (omega arith)

pub returns-in-Ok : goal.returns-in-Ok
returns-in-Ok c =
    rw (take_rest c.args.bytes.now (c.place_of-end.result + 1)) (text_cut c.args.bytes.now c.in-Ok.name c.place_of-end.result c.place_of-end.ensures.value (omega arith) c.in-Ok.ensures.ok c.in-Ok.ensures.lawful)

pub returns-in-Err-BadText : goal.returns-in-Err-BadText
returns-in-Err-BadText c =
    let bad : IsText (take c.place_of-end.result c.args.bytes.now) → ⊥ = search rules in
    text_cut_refused c.args.bytes.now c.place_of-end.result c.place_of-end.ensures.value (omega arith) bad
