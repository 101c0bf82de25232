use Rattle.std.proofs.Common.{◌∙◌, ap}
use Rattle.board_shapes.specs.Pieces.{plain_pieces}
use Rattle.board_package.specs.Parts.{board_so_far, room_left}
use Rattle.board_package.proofs.Adding.{drill_reads, few_more}
use Rattle.board_package.proofs.Halting.{drill_halts, layer_halts, layer_reads, netlist_halts}
use Rattle.board_package.proofs.Lift.{on_ok}
use Rattle.board_package.proofs.Seen.{has_more}
use Rattle.board_package.proofs.contents.read_file.Goals as goal

pub returns-in-Ok-clause-ok : goal.returns-in-Ok-clause-ok
returns-in-Ok-clause-ok c =
    let room = c.room_left-room.ensures ∙ ap (λ l. room_left (plain_pieces l)) c.as_slice.ensures.value in
    on_ok c.add.result _ _
    (λ has. layer_reads c.args.entry.now c.in-Copper.layer c.args.file.now (board_so_far c.args.parts.now) (board_so_far c.add.new.self) c.room_left-room.result (plain_pieces c.in-Ok.pieces.items) c.in-Copper.is room c.in-Ok.ensures.ok (has_more c.args.parts.now c.add.new.self c.in-Ok.pieces.items has))
    c.add.ensures.ok

pub returns-in-Err-Refused-clause-fault : goal.returns-in-Err-Refused-clause-fault
returns-in-Err-Refused-clause-fault c =
    let room = c.room_left-room.ensures ∙ ap (λ l. room_left (plain_pieces l)) c.as_slice.ensures.value in
    layer_halts c.args.entry.now c.in-Copper.layer c.args.file.now (board_so_far c.args.parts.now) c.room_left-room.result c.in-Err-Refused.field-0 c.in-Err-Refused.kind c.in-Err-Refused.command c.in-Err-Refused.at c.refused.result
    c.in-Copper.is room c.in-Err-Refused.ensures.fault c.in-Err-Refused.field-0-is c.refused.ensures

pub returns-in-Err-Refused-read_drill-clause-fault : goal.returns-in-Err-Refused-read_drill-clause-fault
returns-in-Err-Refused-read_drill-clause-fault c =
    let room = c.room_left-room.ensures ∙ ap (λ l. room_left (plain_pieces l)) c.as_slice.ensures.value in
    drill_halts c.args.entry.now c.in-Drill.from c.in-Drill.to c.args.file.now (board_so_far c.args.parts.now) c.room_left-room.result c.in-Err-Refused-read_drill.field-0 c.in-Err-Refused-read_drill.kind c.in-Err-Refused-read_drill.line c.in-Err-Refused-read_drill.at c.refused-in-Err-Refused-read_drill.result
    c.in-Drill.is room c.in-Err-Refused-read_drill.ensures.fault c.in-Err-Refused-read_drill.field-0-is c.refused-in-Err-Refused-read_drill.ensures

pub returns-in-Err-Refused-read_netlist-clause-fault : goal.returns-in-Err-Refused-read_netlist-clause-fault
returns-in-Err-Refused-read_netlist-clause-fault c =
    netlist_halts c.args.entry.now c.args.file.now (board_so_far c.args.parts.now) c.in-Err-Refused-read_netlist.field-0 c.in-Err-Refused-read_netlist.kind c.in-Err-Refused-read_netlist.line c.refused-in-Err-Refused-read_netlist.result
    c.in-Netlist.is c.in-Err-Refused-read_netlist.ensures.fault c.in-Err-Refused-read_netlist.field-0-is c.refused-in-Err-Refused-read_netlist.ensures

pub add-requires-clause-few : goal.add-requires-clause-few
add-requires-clause-few c = few_more c.args.parts.now.pieces.items c.as_slice.result.now c.room_left-room.result _ c.as_slice.ensures.value c.room_left-room.ensures c.requires.lawful.few_pieces c.in-Ok.ensures.few

pub add-requires-in-Ok-read_drill-clause-few : goal.add-requires-in-Ok-read_drill-clause-few
add-requires-in-Ok-read_drill-clause-few c = few_more c.args.parts.now.pieces.items c.as_slice.result.now c.room_left-room.result _ c.as_slice.ensures.value c.room_left-room.ensures c.requires.lawful.few_pieces c.in-Ok-read_drill.ensures.few

pub returns-in-Ok-read_drill-clause-ok : goal.returns-in-Ok-read_drill-clause-ok
returns-in-Ok-read_drill-clause-ok c =
    let room = c.room_left-room.ensures ∙ ap (λ l. room_left (plain_pieces l)) c.as_slice.ensures.value in
    on_ok c.add-in-Ok-read_drill.result _ _
    (λ has. drill_reads c.args.entry.now c.in-Drill.from c.in-Drill.to c.args.file.now (board_so_far c.args.parts.now) (board_so_far c.add-in-Ok-read_drill.new.self) c.room_left-room.result (plain_pieces c.in-Ok-read_drill.pieces.items) c.in-Drill.is room c.in-Ok-read_drill.ensures.ok (has_more c.args.parts.now c.add-in-Ok-read_drill.new.self c.in-Ok-read_drill.pieces.items has))
    c.add-in-Ok-read_drill.ensures.ok
