use Rattle.std.proofs.Common.{refl, sym}
use Rattle.board_shapes.specs.Plain.{plain_board}
use Rattle.witness_check.proofs.Parts.{homes_in, homes_moved, lines_denied, lines_told, named_in}
use Rattle.witness_check.proofs.Clauses.{points_fail}
use Rattle.witness_check.proofs.auditing.points_ruling.Goals as goal

pub points_hold-requires-clause-pieces : goal.points_hold-requires-clause-pieces
points_hold-requires-clause-pieces c = homes_in (plain_board c.args.board.now) c.args.v.now c.as_slice-numbers.result.now c.args.standing.now.numbers.items c.as_slice-homes.result.now c.in_ok-under.under.items c.as_slice-numbers.ensures.value c.requires.stood.long c.as_slice-homes.ensures.value (homes_moved (plain_board c.args.board.now) c.args.v.now c.as_slice-shorts.result.now c.in_ok-under.under.items c.in_ok-under.under.items c.as_slice-shorts.ensures refl c.in_ok-under.ensures)

pub returns-then-not-points_hold : goal.returns-then-not-points_hold
returns-then-not-points_hold c =
    λ t is. points_fail c.tables_are_unique.ensures.close (plain_board c.args.board.now) t c.args.v.now c.args.standing.now.numbers.items c.in_ok-under.under.items is (record { forest = c.requires.forest; numbered = c.requires.stood.numbered }) (homes_moved (plain_board c.args.board.now) c.args.v.now c.as_slice-shorts.result.now c.in_ok-under.under.items c.in_ok-under.under.items c.as_slice-shorts.ensures refl c.in_ok-under.ensures)
    (lines_denied (plain_board c.args.board.now) c.args.v.now c.as_slice-numbers.result.now c.args.standing.now.numbers.items c.probes.result.now c.as_slice-homes.result.now c.in_ok-under.under.items c.as_slice-lines.result.now c.points_hold.result c.as_slice-numbers.ensures.value c.probes.ensures.items c.as_slice-homes.ensures.value c.as_slice-lines.ensures c.points_hold.ensures c.if-not-points_hold.true)

pub lists_ruling-requires-clause-under : goal.lists_ruling-requires-clause-under
lists_ruling-requires-clause-under c = homes_moved (plain_board c.args.board.now) c.args.v.now c.as_slice-shorts.result.now c.in_ok-under.under.items c.as_slice-homes.result.now c.as_slice-shorts.ensures (sym c.as_slice-homes.ensures.value) c.in_ok-under.ensures

pub lists_ruling-requires-clause-lines : goal.lists_ruling-requires-clause-lines
lists_ruling-requires-clause-lines c =
    lines_told (plain_board c.args.board.now) c.args.v.now c.as_slice-numbers.result.now c.args.standing.now.numbers.items c.probes.result.now c.as_slice-homes.result.now c.as_slice-homes.result.now c.as_slice-lines.result.now c.points_hold.result c.as_slice-numbers.ensures.value c.probes.ensures.items refl c.as_slice-lines.ensures c.points_hold.ensures c.if-not-points_hold.false

pub lists_ruling-requires-clause-named : goal.lists_ruling-requires-clause-named
lists_ruling-requires-clause-named c =
    let lines = lines_told (plain_board c.args.board.now) c.args.v.now c.as_slice-numbers.result.now c.args.standing.now.numbers.items c.probes.result.now c.as_slice-homes.result.now c.as_slice-homes.result.now c.as_slice-lines.result.now c.points_hold.result c.as_slice-numbers.ensures.value c.probes.ensures.items refl c.as_slice-lines.ensures c.points_hold.ensures c.if-not-points_hold.false in
    named_in (plain_board c.args.board.now) c.args.v.now c.args.standing.now.numbers.items c.as_slice-homes.result.now c.probes.result.now lines c.probes.ensures.items c.probes.ensures.known
