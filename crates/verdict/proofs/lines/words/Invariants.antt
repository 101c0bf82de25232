use Rattle.std.proofs.Common.{◌≡◌, ◌-◌, length}
use Rattle.verdict.specs.ReportReading.{words_at}
use Rattle.verdict.proofs.ReadLists.{with_front}
use Rattle.verdict.proofs.lines.words.Given as goal

abbrev pub invariant-loop : goal.invariant-loop
invariant-loop g l = with_front l.words (words_at g.T.Word.at (length l.bytes - l.counter) l.rest) ≡ words_at g.T.Word.at (length l.bytes) l.bytes
