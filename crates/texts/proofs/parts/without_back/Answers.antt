use Rattle.std.proofs.Common.{◌≡◌, ◌∙◌, ◌-◌, ◌<◌, false, length, take, get_or, sym, ap, arith}
use Rattle.std.specs.List.{suffix_len}
use Rattle.std.proofs.lemmas.List.Sums.{suffix_len_is}
use Rattle.texts.specs.Blanks.{is_blank}
use Rattle.texts.proofs.parts.without_back.Goals.{then-loop-len-test+else-is_blank, else-loop-len-test}
use Rattle.texts.proofs.parts.without_back.Goals as goal

pub returns : goal.returns
returns c =
    let full : 0 < c.loop-len.len → is_blank (get_or c.args.text.now (c.loop-len.len - 1) 0) ≡ false = λ some. elim c.loop-len-test.branch [
      | then-loop-len-test+else-is_blank w ↦ sym w.is_blank.ensures ∙ w.if-is_blank.false
      | else-loop-len-test w ↦ absurd (omega (arith, w.loop-len-test.false))
    ] in
    let long : suffix_len is_blank c.args.text.now ≡ length c.args.text.now - c.loop-len.len = suffix_len_is is_blank c.args.text.now c.loop-len.len 0 c.loop-len.invariant.within c.loop-len.invariant.blank full in
    let kept : c.loop-len.len ≡ length c.args.text.now - suffix_len is_blank c.args.text.now = omega (arith, c.loop-len.invariant.within, long) in
    ap (λ n. take n c.args.text.now) kept
