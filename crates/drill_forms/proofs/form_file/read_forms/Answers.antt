use Rattle.std.proofs.Common.{◌≡◌, length, sym, ap, subst, arith}
use Rattle.std.proofs.lemmas.Result.{err_from_is_err_and}
use Rattle.texts.specs.Lines.{Ahead, start}
use Rattle.texts.specs.Stepping.{ahead, plain_line}
use Rattle.xnc.specs.Places.{Place}
use Rattle.drill_forms.proofs.Placing.{few_read, span_read}
use Rattle.drill_forms.proofs.ReadSoFar.{ReadSoFar, nothing-read, line-read, line-fault, end-read, end-fault}
use Rattle.drill_forms.proofs.form_file.read_forms.Goals as goal

pub loop-reader-init : goal.loop-reader-init
loop-reader-init c =
    let p : Place = record { from = c.args.span.from; to = c.args.span.to; file = c.args.file_number; room = c.args.room.pieces } in
    let at_start : ahead c.new-lines.result ≡ start c.args.file.now = c.new-lines.ensures in
    let size : length c.new-lines.result.rest.now ≡ length c.args.file.now = ap (λ (a : Ahead). length a.bytes) at_start in
    let none : c.new-reader.result.reader.lines ≡ 0 = c.new-reader.ensures.new.reader.counts in
    record {
      read = subst (λ (a : Ahead). ReadSoFar c.args.file.now p a c.new-reader.result) (sym at_start) (nothing-read c.args.file.now p c.new-reader.result c.new-reader.ensures.new);
      lawful = c.new-reader.ensures.lawful;
      few = omega (arith, size, none);
    }

pub loop-reader-preserved : goal.loop-reader-preserved
loop-reader-preserved c =
    let p : Place = record { from = c.args.span.from; to = c.args.span.to; file = c.args.file_number; room = c.args.room.pieces } in
    let obeys = rw c.read_form.ensures at c.in_ok-obey_at-in-Some.ensures.ok in
    record {
      read = line-read c.args.file.now p (ahead c.loop-reader.lines) (ahead c.next_line.new.self) (plain_line c.in-Some.line) c.loop-reader.reader c.obey_at.new.reader c.loop-reader.invariant.read c.in-Some.ensures.next.0 obeys;
      lawful = c.in_ok-obey_at-in-Some.ensures.lawful;
      few = omega (arith, c.in_ok-obey_at-in-Some.ensures.ok.counts, c.in-Some.ensures.shorter, c.loop-reader.invariant.few);
    }

pub returns-in_err-obey_at-in-Some-clause-fault : goal.returns-in_err-obey_at-in-Some-clause-fault
returns-in_err-obey_at-in-Some-clause-fault c =
    let p : Place = record { from = c.args.span.from; to = c.args.span.to; file = c.args.file_number; room = c.args.room.pieces } in
    let e = err_from_is_err_and c.from_residual.result c.from_residual.ensures.1 in
    let faults = rw c.read_form.ensures at c.in_err-obey_at-in-Some.ensures.fault in
    rw (e.1, e.2) (line-fault c.args.file.now p (ahead c.loop-reader.lines) (ahead c.next_line.new.self) (plain_line c.in-Some.line) c.loop-reader.reader c.in_err-obey_at-in-Some.field-0.0 c.loop-reader.invariant.read c.in-Some.ensures.next.0 faults)

pub returns-in-None-clause-ok : goal.returns-in-None-clause-ok
returns-in-None-clause-ok c =
    let p : Place = record { from = c.args.span.from; to = c.args.span.to; file = c.args.file_number; room = c.args.room.pieces } in
    end-read (λ v. v.items) c.finished.result c.args.file.now p (ahead c.loop-reader.lines) c.loop-reader.reader c.loop-reader.invariant.read c.in-None.ensures.next.0 c.finished.ensures.ok

pub returns-in-None-clause-few : goal.returns-in-None-clause-few
returns-in-None-clause-few c = few_read (λ v. v.items) c.finished.result c.args.file.now (record { from = c.args.span.from; to = c.args.span.to; file = c.args.file_number; room = c.args.room.pieces }) (returns-in-None-clause-ok c)

pub returns-in-None-clause-layers : goal.returns-in-None-clause-layers
returns-in-None-clause-layers c = span_read (λ v. v.items) c.finished.result c.args.file.now (record { from = c.args.span.from; to = c.args.span.to; file = c.args.file_number; room = c.args.room.pieces }) (returns-in-None-clause-ok c)

pub returns-in-None-clause-fault : goal.returns-in-None-clause-fault
returns-in-None-clause-fault c =
    let p : Place = record { from = c.args.span.from; to = c.args.span.to; file = c.args.file_number; room = c.args.room.pieces } in
    end-fault c.finished.result c.args.file.now p (ahead c.loop-reader.lines) c.loop-reader.reader c.loop-reader.invariant.read c.in-None.ensures.next.0 c.finished.ensures.fault
