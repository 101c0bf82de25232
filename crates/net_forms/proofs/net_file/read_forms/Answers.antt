use Rattle.std.proofs.Common.{ap, ◌∙◌}
use Rattle.std.proofs.lemmas.Result.{err_from_is_err_and}
use Rattle.texts.specs.Lines.{Ahead}
use Rattle.ipc356_records.specs.Records.{ahead}
use Rattle.net_forms.proofs.ReadSoFar.{if_fits_board}
use Rattle.net_forms.proofs.ReadSoFar.{line-read, line-fault, if-read, if-fault}
use Rattle.net_forms.proofs.net_file.read_forms.Goals as goal

pub loop-record-preserved : goal.loop-record-preserved
loop-record-preserved c =
    let given = c.in-Some.ensures.next in
    let obeys = rw (c.read_form.ensures.value, given.text) at c.in_ok-obey_at.ensures.ok in
    record {
      read = line-read c.args.file.now c.args.layers (ahead c.loop-record.records) (ahead c.next_record.new.self) given.line c.loop-record.reader c.obey_at.new.reader c.loop-record.invariant.read given.first given.counts obeys;
      lawful = c.in_ok-obey_at.ensures.lawful;
    }

pub returns-in_err-obey_at-clause-fault : goal.returns-in_err-obey_at-clause-fault
returns-in_err-obey_at-clause-fault c =
    let given = c.in-Some.ensures.next in
    let e = err_from_is_err_and c.from_residual.result c.from_residual.ensures.1 in
    let faults = rw (c.read_form.ensures.value, given.text) at c.in_err-obey_at.ensures.fault in
    rw (e.1, e.2) (line-fault c.args.file.now c.args.layers (ahead c.loop-record.records) given.line _ c.loop-record.reader c.in_err-obey_at.field-0.0 c.in-Some.record.line c.loop-record.invariant.read given.first given.number faults)

pub returns-clause-ok : goal.returns-clause-ok
returns-clause-ok c =
    if-read (λ n. n.probes) (λ n. n.names) c.finished.result c.args.file.now c.args.layers (ahead c.loop-record.records) c.loop-record.reader c.loop-record.invariant.read c.in_default.ensures.next.0 c.finished.ensures.ok

pub returns-clause-fits : goal.returns-clause-fits
returns-clause-fits c =
    let read = if-read (λ n. n.probes) (λ n. n.names) c.finished.result c.args.file.now c.args.layers (ahead c.loop-record.records) c.loop-record.reader c.loop-record.invariant.read c.in_default.ensures.next.0 c.finished.ensures.ok in
    if_fits_board (λ n. n.probes) (λ n. n.names) c.finished.result c.args.file.now c.args.layers c.requires.some_layer read

pub returns-clause-fault : goal.returns-clause-fault
returns-clause-fault c =
    let at = c.line.ensures.number ∙ ap (λ (a : Ahead). a.number) c.in_default.ensures.next.1 in
    if-fault c.finished.result c.line.result c.args.file.now c.args.layers (ahead c.loop-record.records) c.loop-record.reader c.loop-record.invariant.read c.in_default.ensures.next.0 at c.finished.ensures.fault
