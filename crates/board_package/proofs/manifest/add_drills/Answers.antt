use Rattle.std.proofs.Common.{map, rules, arith}
use Rattle.serde_json.specs.View.{view}
use Rattle.board_package.specs.Manifest.{Misses, IsOnBoard, each_from, drill_entry}
use Rattle.board_package.proofs.Entries.{entry_missed, more_entries, more_lawful}
use Rattle.board_package.proofs.manifest.add_drills.Goals as goal

pub returns-in_err-entry-clause-fault : goal.returns-in_err-entry-clause-fault
returns-in_err-entry-clause-fault c =
    let fact : Misses (each_from (drill_entry c.args.layers) c.args.layers (map view c.args.drills.now)) c.in_err-entry.field-0.0 =
    entry_missed (drill_entry c.args.layers) c.args.layers _ c.args.drills.now c.loop-i.i c.index-drills-i.result c.in_err-entry.field-0.0 c.loop-i-test.true c.index-drills-i.is (omega arith) c.in_err-entry.ensures.fault in
    search (rules, fact)

pub loop-i-preserved : goal.loop-i-preserved
loop-i-preserved c = (
  more_entries (drill_entry c.args.layers) c.args.layers _ c.args.drills.now c.loop-i.i c.index-drills-i.result _ c.args.files.now c.loop-i.files c.push.new.self c.loop-i-test.true c.index-drills-i.is (omega arith) c.in_ok-entry.ensures.ok c.in_ok-push.ensures.ok c.loop-i.invariant.0,
  more_lawful (λ e. IsOnBoard c.args.layers e.role) c.args.files.now c.loop-i.files c.push.new.self _ c.in_ok-push.ensures.ok c.in_ok-entry.ensures.lawful c.loop-i.invariant.1,
)
