use Rattle.std.proofs.Common.{ℕ, ◌<◌, List, length, All, refl, subst, sym}
use Rattle.board_shapes.specs.Plain.{plain_board}
use Rattle.witness_check.specs.Supplied.{SupplementRuled}
use Rattle.witness_check.proofs.Parts.{bare_denied, bare_told, counts_denied, counts_told, few_in, found_all, found_fail, netted_in, pointed}
use Rattle.witness_check.proofs.Clauses.{findings_fail, bare_fails, counts_fail, supplement_fails, all_right, AreTold}
use Rattle.witness_check.proofs.auditing.lists_ruling.Goals as goal

pub findings_ruling-requires-clause-few_nets : goal.findings_ruling-requires-clause-few_nets
findings_ruling-requires-clause-few_nets c =
    few_in (plain_board c.args.board.now) c.pieces-pieces.result.now c.args.v.now.nets c.pieces-pieces.ensures.plain c.pieces-pieces.ensures.few c.requires.forest.trees

pub findings_ruling-requires-clause-named : goal.findings_ruling-requires-clause-named
findings_ruling-requires-clause-named c = subst (λ (x : List (List ℕ)). All (λ line. line.name < length x) c.args.v.now.points) (sym c.names.ensures.items) c.requires.named

pub findings_ruling-requires-clause-netted : goal.findings_ruling-requires-clause-netted
findings_ruling-requires-clause-netted c =
    let points = pointed (plain_board c.args.board.now) c.args.v.now c.args.standing.now.numbers.items c.args.standing.now.places.items c.args.homes.now c.requires.forest c.requires.stood c.requires.under c.requires.lines in
    netted_in (plain_board c.args.board.now) c.args.v.now c.args.standing.now.numbers.items c.args.homes.now points

pub returns-in-Some : goal.returns-in-Some
returns-in-Some c =
    let points = pointed (plain_board c.args.board.now) c.args.v.now c.args.standing.now.numbers.items c.args.standing.now.places.items c.args.homes.now c.requires.forest c.requires.stood c.requires.under c.requires.lines in
    λ t is. findings_fail (plain_board c.args.board.now) t c.args.v.now c.args.standing.now.numbers.items c.args.homes.now c.in-Some.number is points (found_fail c.names.result.now (plain_board c.args.board.now).names c.args.homes.now c.args.homes.now c.args.v.now c.in_ok-number.field-0 c.in-Some.number c.names.ensures.items refl c.in_ok-number.ensures c.in-Some.is)

pub returns-then-not-bare_holds : goal.returns-then-not-bare_holds
returns-then-not-bare_holds c =
    let points = pointed (plain_board c.args.board.now) c.args.v.now c.args.standing.now.numbers.items c.args.standing.now.places.items c.args.homes.now c.requires.forest c.requires.stood c.requires.under c.requires.lines in
    let found = found_all c.names.result.now (plain_board c.args.board.now).names c.args.homes.now c.args.homes.now c.args.v.now c.in_ok-number.field-0 c.names.ensures.items refl c.in_ok-number.ensures c.in_default.is in
    λ t is. bare_fails (plain_board c.args.board.now) t c.args.v.now c.args.standing.now.numbers.items c.args.homes.now is points found (bare_denied c.as_slice.result.now c.args.v.now.points c.as_slice-2.result.now c.args.v.now.bare c.bare_holds.result c.as_slice.ensures c.as_slice-2.ensures c.bare_holds.ensures c.if-not-bare_holds.true)

pub returns-then-not-counts_hold : goal.returns-then-not-counts_hold
returns-then-not-counts_hold c =
    let points = pointed (plain_board c.args.board.now) c.args.v.now c.args.standing.now.numbers.items c.args.standing.now.places.items c.args.homes.now c.requires.forest c.requires.stood c.requires.under c.requires.lines in
    let found = found_all c.names.result.now (plain_board c.args.board.now).names c.args.homes.now c.args.homes.now c.args.v.now c.in_ok-number.field-0 c.names.ensures.items refl c.in_ok-number.ensures c.in_default.is in
    let bare = bare_told c.as_slice.result.now c.args.v.now.points c.as_slice-2.result.now c.args.v.now.bare c.bare_holds.result c.as_slice.ensures c.as_slice-2.ensures c.bare_holds.ensures c.if-not-bare_holds.false in
    λ t is. counts_fail (plain_board c.args.board.now) t c.args.v.now c.args.standing.now.numbers.items c.args.homes.now is points found bare (counts_denied (plain_board c.args.board.now) c.pieces-pieces.result.now c.args.v.now.pieces c.as_slice-3.result.now c.args.v.now.names c.names-2.result.now c.counts_hold.result c.pieces-pieces.ensures.plain c.as_slice-3.ensures c.names-2.ensures.items c.counts_hold.ensures c.if-not-counts_hold.true)

pub returns-in-Some-supplement_ruling : goal.returns-in-Some-supplement_ruling
returns-in-Some-supplement_ruling c =
    let points = pointed (plain_board c.args.board.now) c.args.v.now c.args.standing.now.numbers.items c.args.standing.now.places.items c.args.homes.now c.requires.forest c.requires.stood c.requires.under c.requires.lines in
    let found = found_all c.names.result.now (plain_board c.args.board.now).names c.args.homes.now c.args.homes.now c.args.v.now c.in_ok-number.field-0 c.names.ensures.items refl c.in_ok-number.ensures c.in_default.is in
    let told : AreTold (plain_board c.args.board.now) c.args.v.now c.args.homes.now = record { found = found; bare = bare_told c.as_slice.result.now c.args.v.now.points c.as_slice-2.result.now c.args.v.now.bare c.bare_holds.result c.as_slice.ensures c.as_slice-2.ensures c.bare_holds.ensures c.if-not-bare_holds.false; counts = counts_told (plain_board c.args.board.now) c.pieces-pieces.result.now c.args.v.now.pieces c.as_slice-3.result.now c.args.v.now.names c.names-2.result.now c.counts_hold.result c.pieces-pieces.ensures.plain c.as_slice-3.ensures c.names-2.ensures.items c.counts_hold.ensures c.if-not-counts_hold.false } in
    λ t is. supplement_fails (plain_board c.args.board.now) t c.args.v.now c.args.standing.now.numbers.items c.args.homes.now c.in-Some-supplement_ruling.clause is points told (subst (SupplementRuled (plain_board c.args.board.now) c.args.v.now.more) c.in-Some-supplement_ruling.is c.supplement_ruling.ensures)

pub returns : goal.returns
returns c =
    let points = pointed (plain_board c.args.board.now) c.args.v.now c.args.standing.now.numbers.items c.args.standing.now.places.items c.args.homes.now c.requires.forest c.requires.stood c.requires.under c.requires.lines in
    let found = found_all c.names.result.now (plain_board c.args.board.now).names c.args.homes.now c.args.homes.now c.args.v.now c.in_ok-number.field-0 c.names.ensures.items refl c.in_ok-number.ensures c.in_default.is in
    let told : AreTold (plain_board c.args.board.now) c.args.v.now c.args.homes.now = record { found = found; bare = bare_told c.as_slice.result.now c.args.v.now.points c.as_slice-2.result.now c.args.v.now.bare c.bare_holds.result c.as_slice.ensures c.as_slice-2.ensures c.bare_holds.ensures c.if-not-bare_holds.false; counts = counts_told (plain_board c.args.board.now) c.pieces-pieces.result.now c.args.v.now.pieces c.as_slice-3.result.now c.args.v.now.names c.names-2.result.now c.counts_hold.result c.pieces-pieces.ensures.plain c.as_slice-3.ensures c.names-2.ensures.items c.counts_hold.ensures c.if-not-counts_hold.false } in
    λ t is. all_right (plain_board c.args.board.now) t c.args.v.now c.args.standing.now.numbers.items c.args.homes.now is points told (subst (SupplementRuled (plain_board c.args.board.now) c.args.v.now.more) c.in_default-supplement_ruling.is c.supplement_ruling.ensures)
