use Rattle.std.proofs.Common.{◌+◌, List, None, sym, subst}
use Rattle.verdict.specs.declared.verdict.PointLine.{PointLine}
use Rattle.verdict.specs.declared.verdict.Seat.{Seat}
use Rattle.witness_check.proofs.Seating.{AreSeatedTo, seated_more, seated_skip}
use Rattle.witness_check.proofs.seats.seat_all.Goals.{in-Some+in_ok-seat_one, in_default}
use Rattle.witness_check.proofs.seats.seat_all.Goals as goal

pub loop-i-preserved : goal.loop-i-preserved
loop-i-preserved c =
    let none : PointLine = record { number = 0; layer = 0; name = 0; net = None } in
    elim c.match-lines-i.branch [
      | in-Some+in_ok-seat_one w ↦ subst (λ (rows : List (List Seat)). AreSeatedTo c.args.lines.now (c.loop-i.i + 1) rows) (sym w.rows-is) (seated_more c.args.lines.now c.loop-i.i w.in-Some.net none c.loop-i.rows _ c.loop-i-test.true w.in-Some.is w.in_ok-seat_one.ensures.seats w.in_ok-seat_one.ensures.others c.loop-i.invariant)
      | in_default w ↦ subst (λ (rows : List (List Seat)). AreSeatedTo c.args.lines.now (c.loop-i.i + 1) rows) (sym w.rows-is) (seated_skip c.args.lines.now c.loop-i.i none c.loop-i.rows c.loop-i-test.true w.in_default.is c.loop-i.invariant)
    ]
