use Rattle.std.proofs.Common.{◌≡◌, ℕ, ◌<◌, List, All, arith, refl, sym, ap, ◌∙◌, subst, length}
use Rattle.std.proofs.lemmas.List.Elements.{All-weaker}
use Rattle.board_shapes.specs.Plain.{plain_board}
use Rattle.board_shapes.specs.Tables.{IsNear}
use Rattle.verdict.specs.declared.verdict.Mark.{Mark}
use Rattle.verdict.specs.declared.verdict.Seat.{Seat}
use Rattle.verdict.specs.Forest.{IsTree, net_at}
use Rattle.verdict.specs.Seats.{AreFirst, AreFirstSeats, IsFirst, marks_at, marks_from}
use Rattle.verdict.proofs.Marking.{table_first, table_named}
use Rattle.verdict.proofs.Seating.{seats_netted}
use Rattle.judge.specs.Judged.{HangAbove, HasHome}
use Rattle.judge.proofs.Along.{tree_hangs}
use Rattle.judge.proofs.Rights.{home_known, nets_short, on_nets, pieces_within}
use Rattle.judge.proofs.judging.findings.Goals as goal

pub seats_of-requires-clause-few : goal.seats_of-requires-clause-few
seats_of-requires-clause-few c = c.requires.lines.few

pub seats_of-requires-clause-names : goal.seats_of-requires-clause-names
seats_of-requires-clause-names c = subst (λ (n : ℕ). All (λ line. line.name < n) c.args.lines.now) (sym (ap length c.requires.names)) c.requires.lines.named

pub marks_of-requires-clause-nets : goal.marks_of-requires-clause-nets
marks_of-requires-clause-nets c =
    seats_netted (length c.args.nets.now) c.as_slice-groups.result.now c.args.lines.now
    (subst (λ (gs : List (List Seat)). AreFirstSeats gs c.args.lines.now) (sym c.as_slice-groups.ensures.value) c.in_ok-seats.ensures.seats)
    (on_nets (plain_board c.args.board.now) c.args.nets.now c.args.homes.now c.args.lines.now c.requires.trees c.requires.homes c.requires.lines)

pub shorts_of-requires-clause-few_nets : goal.shorts_of-requires-clause-few_nets
shorts_of-requires-clause-few_nets c = nets_short (plain_board c.args.board.now) c.pieces-pieces.result.now c.args.nets.now c.args.nets.now c.pieces-pieces.ensures.plain c.pieces-pieces.ensures.few refl c.requires.trees

pub shorts_of-requires-clause-known : goal.shorts_of-requires-clause-known
shorts_of-requires-clause-known c = pieces_within (plain_board c.args.board.now) c.pieces-pieces.result.now c.args.nets.now c.args.nets.now c.pieces-pieces.ensures.plain refl c.requires.trees

pub shorts_of-requires-clause-hang : goal.shorts_of-requires-clause-hang
shorts_of-requires-clause-hang c = All-weaker (IsTree (IsNear (plain_board c.args.board.now))) HangAbove (tree_hangs (IsNear (plain_board c.args.board.now))) c.args.nets.now c.requires.trees.trees.trees

pub shorts_of-requires-clause-homes : goal.shorts_of-requires-clause-homes
shorts_of-requires-clause-homes c = λ number below.
    let groups : List (List Seat) = c.as_slice-groups.result.now in
    let table : List (List Mark) = c.as_slice-table.result.now in
    let firsts : AreFirstSeats groups c.args.lines.now = subst (λ (gs : List (List Seat)). AreFirstSeats gs c.args.lines.now) (sym c.as_slice-groups.ensures.value) c.in_ok-seats.ensures.seats in
    let many : length table ≡ length c.args.nets.now = ap length c.as_slice-table.ensures.value ∙ c.in_ok-marks.ensures.long in
    let filled : (net : ℕ) → net < length c.args.nets.now → marks_at table net ≡ marks_from net 0 groups = λ net below. ap (λ (xs : List (List Mark)). marks_at xs net) c.as_slice-table.ensures.value ∙ c.in_ok-marks.ensures.marks net below in
    let first : AreFirst c.args.lines.now table = table_first (length c.args.nets.now) table groups c.args.lines.now many filled firsts in
    All-weaker (IsFirst number c.args.lines.now) (HasHome (net_at c.args.nets.now number) c.args.homes.now)
    (λ m h. home_known (plain_board c.args.board.now) c.args.nets.now c.args.homes.now c.args.lines.now number m c.requires.trees c.requires.homes c.requires.lines h)
    (marks_at table number) (first number (omega arith))

pub returns : goal.returns
returns c =
    let groups : List (List Seat) = c.as_slice-groups.result.now in
    let table : List (List Mark) = c.as_slice-table.result.now in
    let firsts : AreFirstSeats groups c.args.lines.now = subst (λ (gs : List (List Seat)). AreFirstSeats gs c.args.lines.now) (sym c.as_slice-groups.ensures.value) c.in_ok-seats.ensures.seats in
    let many : length table ≡ length c.args.nets.now = ap length c.as_slice-table.ensures.value ∙ c.in_ok-marks.ensures.long in
    let filled : (net : ℕ) → net < length c.args.nets.now → marks_at table net ≡ marks_from net 0 groups = λ net below. ap (λ (xs : List (List Mark)). marks_at xs net) c.as_slice-table.ensures.value ∙ c.in_ok-marks.ensures.marks net below in
    let long : length groups ≡ length c.args.names.now = ap length c.as_slice-groups.ensures.value ∙ c.in_ok-seats.ensures.long in
    record {
      opens = c.in_ok-opens.ensures c.args.lines.now firsts;
      outlines = c.in_ok-shorts.ensures.outlines c.args.names.now c.args.lines.now (table_named (length c.args.nets.now) table groups c.args.names.now c.args.lines.now many filled long firsts);
      branches = c.in_ok-shorts.ensures.branches c.args.lines.now (table_first (length c.args.nets.now) table groups c.args.lines.now many filled firsts);
    }
