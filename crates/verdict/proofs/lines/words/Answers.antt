use Rattle.std.proofs.Common.{◌≡◌, length, true, false, rules}
use Rattle.std.proofs.lemmas.Result.{err_from_is_err_and}
use Rattle.verdict.specs.ReportReading.{words_at, begins_blank}
use Rattle.verdict.proofs.ReadLists.{words_go_on, words_end, words_stop, words_run_out}
use Rattle.verdict.proofs.lines.words.Goals as goal

pub returns-then-not-begins_blank : goal.returns-then-not-begins_blank
returns-then-not-begins_blank g c =
    let blank : begins_blank c.loop.rest.now ≡ false = search rules in
    words_stop g.T.Word.at c.loop.words (length c.args.bytes.now) c.loop.counter c.loop.rest.now (words_at g.T.Word.at (length c.args.bytes.now) c.args.bytes.now) c.loop-test.true blank c.loop.invariant

pub returns-in_err-word : goal.returns-in_err-word
returns-in_err-word g c =
    let p = err_from_is_err_and c.from_residual-in_err-word.result c.from_residual-in_err-word.ensures.1 in
    let blank : begins_blank c.loop.rest.now ≡ true = search rules in
    rw (p.1, p.2) (words_end g.T.Word.at c.in_err-word.field-0.0 c.loop.words (length c.args.bytes.now) c.loop.counter c.loop.rest.now (words_at g.T.Word.at (length c.args.bytes.now) c.args.bytes.now) c.loop-test.true blank c.in_err-word.ensures c.loop.invariant)

pub loop-preserved : goal.loop-preserved
loop-preserved g c =
    let blank : begins_blank c.loop.rest.now ≡ true = search rules in
    rw c.in_ok-push.ensures.ok (words_go_on g.T.Word.at c.loop.words (length c.args.bytes.now) c.loop.counter c.loop.rest.now c.in_ok-word.word c.in_ok-word.behind.now (words_at g.T.Word.at (length c.args.bytes.now) c.args.bytes.now) c.loop-test.true blank c.in_ok-word.ensures c.loop.invariant)

pub returns : goal.returns
returns g c = words_run_out g.T.Word.at c.loop.words (length c.args.bytes.now) c.loop.counter c.loop.rest.now (words_at g.T.Word.at (length c.args.bytes.now) c.args.bytes.now) c.loop-test.false c.loop.invariant
