use Rattle.std.proofs.Common.{◌≡◌, ◌<◌, ◌+◌, ◌∷◌, ◌++◌, [], ℕ, List, length, set, get_or, refl, ap, ◌∙◌, arith}
use Rattle.std.proofs.lemmas.List.{get_or_default}
use Rattle.verdict.specs.declared.verdict.Mark.{Mark}
use Rattle.verdict.specs.declared.verdict.Seat.{Seat}
use Rattle.verdict.specs.Seats.{marks_at}
use Rattle.witness_check.proofs.Seating.{kept_is, kept_more, kept_skip, marks_are, marks_more}
use Rattle.witness_check.proofs.seats.firsts.Goals.{then-stamps-net+in_ok-push+in_ok-push-2, else-stamps-net}
use Rattle.witness_check.proofs.seats.firsts.Goals as goal

pub loop-i-preserved : goal.loop-i-preserved
loop-i-preserved c =
    let i : ℕ = c.loop-i.i in
    let none : Seat = record { net = 0; probe = 0 } in
    let s : Seat = get_or c.args.seats.now i none in
    let within : s.net < length c.args.stamps.now = c.requires.nets i none c.loop-i-test.true in
    elim c.if-stamps-net.branch [
      | then-stamps-net+in_ok-push+in_ok-push-2 w ↦ (
          let m : Mark = record { name = c.args.name; probe = s.probe } in
          let below : s.net < length c.loop-i.marks = omega arith in
          let row : c.if-stamps-net.row ≡ c.loop-i.row ++ s ∷ [] = w.row-is ∙ w.in_ok-push-2.ensures.ok in
          let put : c.if-stamps-net.marks ≡ set c.loop-i.marks s.net (marks_at c.loop-i.marks s.net ++ m ∷ []) =
          w.marks-is ∙ (ap (set c.loop-i.marks s.net) w.in_ok-push.ensures.ok ∙ ap (λ (xs : List Mark). set c.loop-i.marks s.net (xs ++ m ∷ [])) (get_or_default c.loop-i.marks s.net w.index-marks-net.result [] below)) in (
            kept_is c.args.seats.now (c.args.name + 1) _ (i + 1) (c.loop-i.row ++ s ∷ []) c.if-stamps-net.row (set c.loop-i.stamps s.net (c.args.name + 1)) c.if-stamps-net.stamps row w.stamps-is
                (kept_more c.args.seats.now (c.args.name + 1) _ i none c.loop-i.row c.loop-i.stamps c.loop-i-test.true within w.if-stamps-net.true c.loop-i.invariant.0),
            marks_are c.args.name (c.loop-i.row ++ s ∷ []) c.if-stamps-net.row c.args.marks.now c.if-stamps-net.marks c.if-stamps-net.marks row refl (marks_more c.args.name c.loop-i.row s c.args.marks.now c.loop-i.marks c.if-stamps-net.marks below put c.loop-i.invariant.1),
          )
          )
      | else-stamps-net w ↦ (
        kept_is c.args.seats.now (c.args.name + 1) _ (i + 1) c.loop-i.row c.if-stamps-net.row c.loop-i.stamps c.if-stamps-net.stamps w.row-is w.stamps-is (kept_skip c.args.seats.now (c.args.name + 1) _ i none c.loop-i.row c.loop-i.stamps c.loop-i-test.true w.if-stamps-net.false c.loop-i.invariant.0),
        marks_are c.args.name c.loop-i.row c.if-stamps-net.row c.args.marks.now c.loop-i.marks c.if-stamps-net.marks w.row-is w.marks-is c.loop-i.invariant.1,
      )
    ]
