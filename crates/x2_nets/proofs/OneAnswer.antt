-- Each file has one answer.
use Rattle.std.proofs.Common.{ℕ, List}
use Rattle.file_reading.proofs.OneAnswer.{one_answer_of}
use Rattle.gerber_words.specs.Words.{Ahead}
use Rattle.gerber_words.specs.Laws.{HasOneReadingAhead}
use Rattle.gerber_words.specs.ItemsLaws.{some_items, one_items}
use Rattle.x2_nets.specs.Labels.{AreSaid, judged_after, labels_of, said_of, stop_says}
use Rattle.x2_nets.specs.Laws.{HasOneAnswer}

pub one_answer : ((a : Ahead) → HasOneReadingAhead a) → (file : List ℕ) → HasOneAnswer file
one_answer one file = one_answer_of judged_after labels_of (AreSaid file) (some_items one said_of stop_says file) (one_items one said_of stop_says file)
