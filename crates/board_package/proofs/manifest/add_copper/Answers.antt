use Rattle.std.proofs.Common.{length, map, rules, arith}
use Rattle.serde_json.specs.View.{view}
use Rattle.board_package.specs.Manifest.{Misses, IsOnBoard, each_from, copper_entry}
use Rattle.board_package.proofs.Entries.{entry_missed, copper_missed, copper_made, more_entries, more_lawful}
use Rattle.board_package.proofs.manifest.add_copper.Goals as goal

pub returns-in_err-name-clause-fault : goal.returns-in_err-name-clause-fault
returns-in_err-name-clause-fault c =
    let at = copper_missed c.loop-i.i (view c.index-copper-i.result) c.in_err-name.field-0.0 c.in_err-name.ensures.fault in
    let fact : Misses (each_from copper_entry 0 (map view c.args.copper.now)) c.in_err-name.field-0.0 =
    entry_missed copper_entry 0 c.loop-i.i c.args.copper.now c.loop-i.i c.index-copper-i.result c.in_err-name.field-0.0 c.loop-i-test.true c.index-copper-i.is (omega arith) at in
    search (rules, fact)

pub loop-i-preserved : goal.loop-i-preserved
loop-i-preserved c =
    let made = copper_made c.loop-i.i (view c.index-copper-i.result) c.in_ok-name.name c.in_ok-name.ensures.ok in (
      more_entries copper_entry 0 c.loop-i.i c.args.copper.now c.loop-i.i c.index-copper-i.result _ c.args.files.now c.loop-i.files c.push.new.self c.loop-i-test.true c.index-copper-i.is (omega arith) made c.in_ok-push.ensures.ok c.loop-i.invariant.0,
      more_lawful (λ e. IsOnBoard (length c.args.copper.now) e.role) c.args.files.now c.loop-i.files c.push.new.self _ c.in_ok-push.ensures.ok (omega arith, omega arith) c.loop-i.invariant.1,
    )
