use Rattle.std.specs.Option.{option_copied}
use Rattle.ipc356_records.specs.NameTable.{names_in}
use Rattle.board_package.specs.Labelling.{named_as}
use Rattle.board_package.proofs.Named.{named_more, room_for_name}
use Rattle.board_package.proofs.labelling.probes_by.Goals as goal

pub add_probe-requires-clause-few : goal.add_probe-requires-clause-few
add_probe-requires-clause-few c = room_for_name c.args.tables.now c.args.pieces.now c.loop-i.i (named_as c.loop-i.probes (names_in c.loop-i.names)) c.loop-i-test.true c.requires.few c.loop-i.invariant.named

pub loop-i-preserved : goal.loop-i-preserved
loop-i-preserved c = record {
  named = named_more c.args.tables.now c.args.pieces.now c.loop-i.i c.index-pieces-i.result (named_as c.loop-i.probes (names_in c.loop-i.names)) (named_as c.add_probe.new.probes (names_in c.add_probe.new.names)) (option_copied c.label_of-label.result)
      c.loop-i-test.true c.index-pieces-i.is c.loop-i.invariant.named c.label_of-label.ensures c.in_ok-add_probe.ensures.named;
  lawful = c.in_ok-add_probe.ensures.lawful;
}
