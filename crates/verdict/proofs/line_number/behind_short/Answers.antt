use Rattle.std.proofs.Common.{List, Some, ap, length, refl, sym, ℕ, ◌%◌, ◌*◌, ◌-◌, ◌^◌, ◌∙◌}
use Rattle.verdict.specs.LineNumbers.{worth}
use Rattle.verdict.proofs.LineNumbers.{bytes_of, mask_is, text_stands}
use Rattle.verdict.proofs.line_number.behind_short.Goals as goal

pub returns-then-from_le_bytes-mask : goal.returns-then-from_le_bytes-mask
returns-then-from_le_bytes-mask c =
    let text : List ℕ = c.args.text.now in
    let len : ℕ = length text in
    let first = c.in_ok-front.ensures.cases in
    text_stands c.args.bytes.now c.in_ok-front.front.now text c.from_le_bytes.result (1 * 2 ^ (8 * len) % 2 ^ 64 - 1) (worth text) len first.same first.enough (λ i. (c.type_inv.bytes i).fits) (bytes_of text (λ i. (c.type_inv.text i).fits)) c.from_le_bytes.ensures
    (c.if-from_le_bytes-mask.true ∙ c.word_of.ensures) (mask_is len c.requires) c.requires refl refl
    ∙ ap Some (sym c.split_at.ensures.back)
