use Rattle.std.proofs.Common.{◌≡◌, List, map, sym, subst}
use Rattle.verdict.specs.declared.verdict.Mark.{Mark}
use Rattle.verdict.specs.declared.verdict.Open.{Open}
use Rattle.verdict.specs.declared.verdict.PointLine.{PointLine}
use Rattle.verdict.specs.declared.verdict.Seat.{Seat}
use Rattle.verdict.specs.Right.{all_opens, outline}
use Rattle.verdict.specs.Seats.{AreFirstSeats}
use Rattle.witness_check.specs.Marked.{outlines_from}
use Rattle.witness_check.proofs.Told.{told, denied}
use Rattle.witness_check.proofs.Naming.{shorts_marked}
use Rattle.witness_check.proofs.Failing.{HasRows, all_say, branches_said, fails_branches, fails_opens, fails_shorts, opens_said, rows_made, shorts_said}
use Rattle.witness_check.proofs.findings.findings_ruling.Goals as goal

pub returns-then-not-opens_hold : goal.returns-then-not-opens_hold
returns-then-not-opens_hold c =
    let lines : List PointLine = c.as_slice-lines.result.now in
    let points : lines ≡ c.args.v.now.points = c.as_slice-lines.ensures in
    let listed : List Open = c.as_slice-listed.result.now in
    let groups : List (List Seat) = c.as_slice-seats.result.now in
    let firsts : AreFirstSeats groups lines = subst (λ (gs : List (List Seat)). AreFirstSeats gs lines) (sym c.as_slice-seats.ensures.value) c.in_ok-groups.ensures.seats in
    let tells = opens_said c.args.names.now c.args.homes.now c.args.v.now listed lines groups c.opens_hold.result c.as_slice-listed.ensures points firsts c.opens_hold.ensures in
    fails_opens c.args.names.now c.args.homes.now c.args.v.now (denied c.opens_hold.result _ tells c.if-not-opens_hold.true)

pub returns-then-not-shorts_hold : goal.returns-then-not-shorts_hold
returns-then-not-shorts_hold c =
    let lines : List PointLine = c.as_slice-lines.result.now in
    let points : lines ≡ c.args.v.now.points = c.as_slice-lines.ensures in
    let listed : List Open = c.as_slice-listed.result.now in
    let groups : List (List Seat) = c.as_slice-seats.result.now in
    let firsts : AreFirstSeats groups lines = subst (λ (gs : List (List Seat)). AreFirstSeats gs lines) (sym c.as_slice-seats.ensures.value) c.in_ok-groups.ensures.seats in
    let tells = opens_said c.args.names.now c.args.homes.now c.args.v.now listed lines groups c.opens_hold.result c.as_slice-listed.ensures points firsts c.opens_hold.ensures in
    let opens : c.args.v.now.opens ≡ all_opens 0 c.args.names.now c.args.v.now.points = told c.opens_hold.result _ tells c.if-not-opens_hold.false in
    let table : List (List Mark) = c.as_slice-marks.result.now in
    let rows : HasRows c.args.names.now c.args.v.now table =
    rows_made c.args.names.now c.args.v.now c.as_slice-nets.result.now lines c.in_ok-groups.groups.seats.items c.in_ok-groups.groups.marks.items table c.as_slice-nets.ensures points c.in_ok-groups.ensures.long c.in_ok-groups.ensures.seats c.in_ok-groups.ensures.wide c.in_ok-groups.ensures.marks c.as_slice-marks.ensures.value in
    fails_shorts c.args.names.now c.args.homes.now c.args.v.now opens
    (λ says. denied c.shorts_hold.result _ c.shorts_hold.ensures c.if-not-shorts_hold.true ((shorts_said c.args.names.now c.args.homes.now c.args.v.now table c.as_slice-shorts.result.now c.as_slice-shorts.ensures rows).1 says))

pub branches_hold-requires-clause-marked : goal.branches_hold-requires-clause-marked
branches_hold-requires-clause-marked c = shorts_marked c.as_slice-marks.result.now c.as_slice-shorts.result.now (told c.shorts_hold.result _ c.shorts_hold.ensures c.if-not-shorts_hold.false)

pub returns-then-not-branch : goal.returns-then-not-branch
returns-then-not-branch c =
    let lines : List PointLine = c.as_slice-lines.result.now in
    let points : lines ≡ c.args.v.now.points = c.as_slice-lines.ensures in
    let listed : List Open = c.as_slice-listed.result.now in
    let groups : List (List Seat) = c.as_slice-seats.result.now in
    let firsts : AreFirstSeats groups lines = subst (λ (gs : List (List Seat)). AreFirstSeats gs lines) (sym c.as_slice-seats.ensures.value) c.in_ok-groups.ensures.seats in
    let tells = opens_said c.args.names.now c.args.homes.now c.args.v.now listed lines groups c.opens_hold.result c.as_slice-listed.ensures points firsts c.opens_hold.ensures in
    let opens : c.args.v.now.opens ≡ all_opens 0 c.args.names.now c.args.v.now.points = told c.opens_hold.result _ tells c.if-not-opens_hold.false in
    let table : List (List Mark) = c.as_slice-marks.result.now in
    let rows : HasRows c.args.names.now c.args.v.now table =
    rows_made c.args.names.now c.args.v.now c.as_slice-nets.result.now lines c.in_ok-groups.groups.seats.items c.in_ok-groups.groups.marks.items table c.as_slice-nets.ensures points c.in_ok-groups.ensures.long c.in_ok-groups.ensures.seats c.in_ok-groups.ensures.wide c.in_ok-groups.ensures.marks c.as_slice-marks.ensures.value in
    let same : map outline c.as_slice-shorts.result.now ≡ outlines_from 0 table = told c.shorts_hold.result _ c.shorts_hold.ensures c.if-not-shorts_hold.false in
    let shorts = (shorts_said c.args.names.now c.args.homes.now c.args.v.now table c.as_slice-shorts.result.now c.as_slice-shorts.ensures rows).0 same in
    fails_branches c.args.names.now c.args.homes.now c.args.v.now opens shorts
    (λ says. denied c.in_ok-branches_hold.field-0 _ (c.in_ok-branches_hold.ensures c.args.v.now.points rows.first) c.if-not-branch.true ((branches_said c.args.names.now c.args.homes.now c.args.v.now c.as_slice-nets.result.now c.as_slice-shorts.result.now c.as_slice-nets.ensures c.as_slice-shorts.ensures).1 says))

pub returns : goal.returns
returns c =
    let lines : List PointLine = c.as_slice-lines.result.now in
    let points : lines ≡ c.args.v.now.points = c.as_slice-lines.ensures in
    let listed : List Open = c.as_slice-listed.result.now in
    let groups : List (List Seat) = c.as_slice-seats.result.now in
    let firsts : AreFirstSeats groups lines = subst (λ (gs : List (List Seat)). AreFirstSeats gs lines) (sym c.as_slice-seats.ensures.value) c.in_ok-groups.ensures.seats in
    let tells = opens_said c.args.names.now c.args.homes.now c.args.v.now listed lines groups c.opens_hold.result c.as_slice-listed.ensures points firsts c.opens_hold.ensures in
    let opens : c.args.v.now.opens ≡ all_opens 0 c.args.names.now c.args.v.now.points = told c.opens_hold.result _ tells c.if-not-opens_hold.false in
    let table : List (List Mark) = c.as_slice-marks.result.now in
    let rows : HasRows c.args.names.now c.args.v.now table =
    rows_made c.args.names.now c.args.v.now c.as_slice-nets.result.now lines c.in_ok-groups.groups.seats.items c.in_ok-groups.groups.marks.items table c.as_slice-nets.ensures points c.in_ok-groups.ensures.long c.in_ok-groups.ensures.seats c.in_ok-groups.ensures.wide c.in_ok-groups.ensures.marks c.as_slice-marks.ensures.value in
    let same : map outline c.as_slice-shorts.result.now ≡ outlines_from 0 table = told c.shorts_hold.result _ c.shorts_hold.ensures c.if-not-shorts_hold.false in
    let shorts = (shorts_said c.args.names.now c.args.homes.now c.args.v.now table c.as_slice-shorts.result.now c.as_slice-shorts.ensures rows).0 same in
    all_say c.args.names.now c.args.homes.now c.args.v.now opens shorts
    ((branches_said c.args.names.now c.args.homes.now c.args.v.now c.as_slice-nets.result.now c.as_slice-shorts.result.now c.as_slice-nets.ensures c.as_slice-shorts.ensures).0 (told c.in_ok-branches_hold.field-0 _ (c.in_ok-branches_hold.ensures c.args.v.now.points rows.first) c.if-not-branch.false))
