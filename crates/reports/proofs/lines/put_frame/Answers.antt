use Rattle.std.proofs.Common.{◌≡◌, ◌∙◌, rules, w64, ap}
use Rattle.std.specs.Fmt.{signed_decimal}
use Rattle.std.proofs.lemmas.Int.{to_z-of_z}
use mir.Val.{SFits}
use Rattle.reports.proofs.lines.put_frame.Goals as goal

pub returns : goal.returns
returns g c =
    let f1 : SFits w64 c.args.bounds.left = search rules in
    let f2 : SFits w64 c.args.bounds.low = search rules in
    let f3 : SFits w64 c.args.bounds.right = search rules in
    let f4 : SFits w64 c.args.bounds.high = search rules in
    let left : c.as_bytes.result.now ≡ signed_decimal c.args.bounds.left = c.as_bytes.ensures ∙ (c.signed.ensures ∙ ap signed_decimal (to_z-of_z w64 _ f1)) in
    let low : c.as_bytes-2.result.now ≡ signed_decimal c.args.bounds.low = c.as_bytes-2.ensures ∙ (c.signed-2.ensures ∙ ap signed_decimal (to_z-of_z w64 _ f2)) in
    let right : c.as_bytes-3.result.now ≡ signed_decimal c.args.bounds.right = c.as_bytes-3.ensures ∙ (c.signed-3.ensures ∙ ap signed_decimal (to_z-of_z w64 _ f3)) in
    let high : c.as_bytes-4.result.now ≡ signed_decimal c.args.bounds.high = c.as_bytes-4.ensures ∙ (c.signed-4.ensures ∙ ap signed_decimal (to_z-of_z w64 _ f4)) in
    rw (← left, ← low, ← right, ← high) c.put_all.ensures.says
