use Rattle.std.proofs.Common.{rules, ◌≡◌, length, ap, arith}
use Rattle.gerber_words.specs.Words.{Ahead, start, ended, broken}
use Rattle.gerber_words.specs.Stepping.{ahead, entry_of}
use Rattle.x2_nets.specs.Labels.{IsFault, said_of}
use Rattle.x2_nets.proofs.ReadSoFar.{nothing_read, none_rise, rises_more, stop_read, word_amiss, word_read}
use Rattle.x2_nets.proofs.listing.labels.Goals as goal

pub loop-word-init : goal.loop-word-init
loop-word-init c =
    let at_start : ahead c.new-words.result ≡ start c.args.file.now = c.new-words.ensures in
    let size : length c.new-words.result.cursor.rest.now ≡ length c.args.file.now = ap (λ (a : Ahead). length a.bytes) at_start in
    record {
      read = rw (c.new-labels.ensures, at_start) (nothing_read c.args.file.now);
      rises = rw c.new-labels.ensures none_rise;
      few = omega (arith, size);
    }

pub loop-word-preserved : goal.loop-word-preserved
loop-word-preserved c =
    let good = rw c.said_by.ensures at c.in_ok-list_word-in-Word.ensures.good in
    let listed = rw c.said_by.ensures at c.in_ok-list_word-in-Word.ensures.listed in
    let w = entry_of c.in-Word.word in
    record {
      read = word_read c.args.file.now (ahead c.loop-word.words) (ahead c.next_word.new.self) w c.loop-word.labels c.list_word.new.labels c.loop-word.commands c.loop-word.invariant.read c.in-Word.ensures.next good listed;
      rises = rises_more c.loop-word.labels c.list_word.new.labels c.loop-word.commands (said_of w) c.loop-word.invariant.rises listed;
      few = omega (arith, c.in-Word.ensures.shorter, c.loop-word.invariant.few);
    }

pub returns-in_err-list_word-in-Word-clause-fault : goal.returns-in_err-list_word-in-Word-clause-fault
returns-in_err-list_word-in-Word-clause-fault c =
    let amiss = rw c.said_by.ensures at c.in_err-list_word-in-Word.ensures.fault in
    let fact : IsFault c.args.file.now c.in_err-list_word-in-Word.field-0.0 = word_amiss c.words_lie_ahead.ensures c.args.file.now (ahead c.loop-word.words) (ahead c.next_word.new.self) (entry_of c.in-Word.word) c.loop-word.labels c.loop-word.commands c.in_err-list_word-in-Word.field-0.0 c.loop-word.invariant.read c.in-Word.ensures.next amiss in
    search (rules, fact)

pub returns-in-End-clause-ok : goal.returns-in-End-clause-ok
returns-in-End-clause-ok c = stop_read c.args.file.now (ahead c.loop-word.words) ended c.loop-word.labels c.loop-word.commands c.loop-word.invariant.read c.in-End.ensures.next.0

pub returns-in-Broken-clause-ok : goal.returns-in-Broken-clause-ok
returns-in-Broken-clause-ok c = stop_read c.args.file.now (ahead c.loop-word.words) (broken c.in-Broken.field-0 c.in-Broken.field-1) c.loop-word.labels c.loop-word.commands c.loop-word.invariant.read c.in-Broken.ensures.next.0
