use Rattle.std.proofs.Common.{◌∙◌, ◌≤◌, ℕ, ap, subst, sym}
use Rattle.real_copper.specs.Shapes.{plain_reals}
use Rattle.real_package.specs.RealBoards.{plain_real_board, room_left}
use Rattle.real_package.proofs.Halted.{copper_halts, copper_reads, drill_halts, netlist_halts}
use Rattle.real_package.proofs.OnSpans.{on_spans}
use Rattle.real_package.proofs.Rooms.{as_many, few_more}
use Rattle.real_package.proofs.Seen.{has_more}
use Rattle.real_package.proofs.contents.read_file.Goals as goal

pub returns-in-Err-clause-fault : goal.returns-in-Err-clause-fault
returns-in-Err-clause-fault c =
    let room = c.room_left-room.ensures ∙ ap (λ l. room_left (plain_reals l)) c.as_slice.ensures.value in
    copper_halts c.args.entry.now c.in-Copper.layer c.args.bytes.now (plain_real_board c.args.board.now) c.room_left-room.result c.in-Err.why c.copper_fault.result
    c.in-Copper.is room c.in-Err.ensures.fault c.copper_fault.ensures

pub returns-in-Err-read_forms-clause-fault : goal.returns-in-Err-read_forms-clause-fault
returns-in-Err-read_forms-clause-fault c =
    let room = c.room_left-room.ensures ∙ ap (λ l. room_left (plain_reals l)) c.as_slice.ensures.value in
    drill_halts c.args.entry.now c.in-Drill.from c.in-Drill.to c.args.bytes.now (plain_real_board c.args.board.now) c.room_left-room.result c.in-Err-read_forms.why c.drill_fault.result
    c.in-Drill.is room c.in-Err-read_forms.ensures.fault c.drill_fault.ensures

pub returns-in-Err-read_forms-2-clause-fault : goal.returns-in-Err-read_forms-2-clause-fault
returns-in-Err-read_forms-2-clause-fault c =
    netlist_halts c.args.entry.now c.args.bytes.now (plain_real_board c.args.board.now) c.in-Err-read_forms-2.why c.netlist_fault.result
    c.in-Netlist.is c.in-Err-read_forms-2.ensures.fault c.netlist_fault.ensures

pub add-requires-in-Ok-as_real_pieces-clause-spans : goal.add-requires-in-Ok-as_real_pieces-clause-spans
add-requires-in-Ok-as_real_pieces-clause-spans c =
    on_spans c.args.board.now.layers c.in-Drill.from c.in-Drill.to c.args.entry.now.role c.in-Ok-read_forms.pieces.items c.in-Ok-as_real_pieces.barrels.items c.requires.role c.in-Drill.is c.in-Ok-read_forms.ensures.layers c.in-Ok-as_real_pieces.ensures

pub returns-in_ok-add-in-Ok-clause-ok : goal.returns-in_ok-add-in-Ok-clause-ok
returns-in_ok-add-in-Ok-clause-ok c =
    let room = c.room_left-room.ensures ∙ ap (λ l. room_left (plain_reals l)) c.as_slice.ensures.value in
    copper_reads c.args.entry.now c.in-Copper.layer c.args.bytes.now (plain_real_board c.args.board.now) (plain_real_board c.add.new.self) c.room_left-room.result (plain_reals c.in-Ok.pieces.items) c.in-Copper.is room c.in-Ok.ensures.ok (has_more c.args.board.now c.add.new.self c.in-Ok.pieces.items c.in_ok-add-in-Ok.ensures.ok)

pub add-requires-clause-few : goal.add-requires-clause-few
add-requires-clause-few c = few_more c.args.board.now.pieces.items c.as_slice.result.now c.room_left-room.result _ c.as_slice.ensures.value c.room_left-room.ensures c.requires.lawful.few_pieces c.in-Ok.ensures.few

pub add-requires-in-Ok-as_real_pieces-clause-few : goal.add-requires-in-Ok-as_real_pieces-clause-few
add-requires-in-Ok-as_real_pieces-clause-few c =
    few_more c.args.board.now.pieces.items c.as_slice.result.now c.room_left-room.result _ c.as_slice.ensures.value c.room_left-room.ensures c.requires.lawful.few_pieces
    (subst (λ (n : ℕ). n ≤ c.room_left-room.result.pieces) (sym (as_many c.in-Ok-read_forms.pieces.items c.in-Ok-as_real_pieces.barrels.items c.in-Ok-as_real_pieces.ensures)) c.in-Ok-read_forms.ensures.few)
