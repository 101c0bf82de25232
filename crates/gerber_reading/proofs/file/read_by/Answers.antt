use Rattle.std.proofs.Common.{◌≡◌, length, sym, ap, subst, arith}
use Rattle.std.proofs.lemmas.Result.{err_from_is_err_and}
use Rattle.gerber_words.specs.Words.{Ahead, start, ended, broken}
use Rattle.gerber_words.specs.Stepping.{ahead, entry_of}
use Rattle.gerber_reading.proofs.Placing.{layers_read}
use Rattle.gerber_reading.proofs.ReadSoFar.{ReadSoFar, new-lawful, nothing-read, word-read, stop-read, stopped-at-stop, stopped-at-word}
use Rattle.gerber_reading.proofs.file.read_by.Goals as goal

pub loop-word-init : goal.loop-word-init
loop-word-init g c =
    let at_start : ahead c.new-words.result ≡ start c.args.file.now = c.new-words.ensures in
    let size : length c.new-words.result.cursor.rest.now ≡ length c.args.file.now = ap (λ (a : Ahead). length a.bytes) at_start in
    let none : c.new-reader.result.commands ≡ 0 = c.new-reader.ensures.new.counts in
    record {
      read = subst (λ (a : Ahead). ReadSoFar g.D.Dialect.plain g.D.Dialect.dialect c.args.file.now c.args.place a c.new-reader.result) (sym at_start) (nothing-read g.D.Dialect.plain g.D.Dialect.dialect c.args.file.now c.args.place c.new-reader.result c.new-reader.ensures.new);
      lawful = new-lawful g.D.Dialect.plain g.D.Dialect.handling g.D.Dialect.Fits g.D.Dialect.Keeps c.args.place c.new-reader.result c.new-reader.ensures.sound c.new-reader.ensures.room c.new-reader.ensures.kept c.new-reader.ensures.edges c.new-reader.ensures.new;
      few = omega (arith, size, none);
    }

pub loop-word-preserved : goal.loop-word-preserved
loop-word-preserved g c =
    let obeys = rw c.read.ensures.value at c.in_ok-obey_at-in-Word.ensures.ok in
    record {
      read = word-read g.D.Dialect.plain g.D.Dialect.dialect c.is_lawful.ensures.outcomes c.args.file.now c.args.place (ahead c.loop-word.words) (ahead c.next_word.new.self) (entry_of c.in-Word.word) c.loop-word.reader c.obey_at.new.reader c.loop-word.invariant.read c.in-Word.ensures.next obeys;
      lawful = c.in_ok-obey_at-in-Word.ensures.lawful;
      few = omega (arith, c.in_ok-obey_at-in-Word.ensures.ok.counts, c.in-Word.ensures.shorter, c.loop-word.invariant.few);
    }

pub returns-in_err-obey_at-in-Word-clause-fault : goal.returns-in_err-obey_at-in-Word-clause-fault
returns-in_err-obey_at-in-Word-clause-fault g c =
    let e = err_from_is_err_and c.from_residual.result c.from_residual.ensures.1 in
    let stops = rw c.read.ensures.value at c.in_err-obey_at-in-Word.ensures.stops in
    rw (e.1, e.2) (stopped-at-word g.D.Dialect.plain g.D.Dialect.dialect c.words_lie_ahead.ensures c.args.file.now c.args.place (ahead c.loop-word.words) (ahead c.next_word.new.self) (entry_of c.in-Word.word) c.loop-word.reader c.in_err-obey_at-in-Word.field-0.0 c.loop-word.invariant.read c.in-Word.ensures.next stops)

pub returns-in-End-clause-ok : goal.returns-in-End-clause-ok
returns-in-End-clause-ok g c =
    stop-read g.D.Dialect.plain g.D.Dialect.dialect c.is_lawful.ensures.outcomes (λ v. v.items) c.finished.result c.args.file.now c.args.place (ahead c.loop-word.words) ended c.loop-word.reader c.loop-word.invariant.read c.in-End.ensures.next.0 c.finished.ensures.ok

pub returns-in-End-clause-layers : goal.returns-in-End-clause-layers
returns-in-End-clause-layers g c = layers_read g.D.Dialect.plain g.D.Dialect.dialect c.is_lawful.ensures.layers (λ v. v.items) c.finished.result c.args.file.now c.args.place (returns-in-End-clause-ok g c)

pub returns-in-End-clause-fault : goal.returns-in-End-clause-fault
returns-in-End-clause-fault g c =
    stopped-at-stop g.D.Dialect.plain g.D.Dialect.dialect c.finished.result c.args.file.now c.args.place (ahead c.loop-word.words) ended c.loop-word.reader c.loop-word.invariant.read c.in-End.ensures.next.0 c.finished.ensures.stops

pub returns-in-Broken-clause-ok : goal.returns-in-Broken-clause-ok
returns-in-Broken-clause-ok g c =
    stop-read g.D.Dialect.plain g.D.Dialect.dialect c.is_lawful.ensures.outcomes (λ v. v.items) c.finished-in-Broken.result c.args.file.now c.args.place (ahead c.loop-word.words) (broken c.in-Broken.fault c.in-Broken.at) c.loop-word.reader c.loop-word.invariant.read c.in-Broken.ensures.next.0 c.finished-in-Broken.ensures.ok

pub returns-in-Broken-clause-layers : goal.returns-in-Broken-clause-layers
returns-in-Broken-clause-layers g c = layers_read g.D.Dialect.plain g.D.Dialect.dialect c.is_lawful.ensures.layers (λ v. v.items) c.finished-in-Broken.result c.args.file.now c.args.place (returns-in-Broken-clause-ok g c)

pub returns-in-Broken-clause-fault : goal.returns-in-Broken-clause-fault
returns-in-Broken-clause-fault g c =
    stopped-at-stop g.D.Dialect.plain g.D.Dialect.dialect c.finished-in-Broken.result c.args.file.now c.args.place (ahead c.loop-word.words) (broken c.in-Broken.fault c.in-Broken.at) c.loop-word.reader c.loop-word.invariant.read c.in-Broken.ensures.next.0 c.finished-in-Broken.ensures.stops
