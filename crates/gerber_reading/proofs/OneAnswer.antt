-- Each file has one answer.
use Rattle.std.proofs.Common.{ℕ, List}
use Rattle.file_reading.proofs.OneAnswer.{one_answer_of}
use Rattle.gerber_words.specs.Words.{Ahead}
use Rattle.gerber_words.specs.Laws.{HasOneReadingAhead}
use Rattle.gerber_words.specs.ItemsLaws.{some_items, one_items}
use Rattle.gerber_reading.specs.CommandEffects.{Place}
use Rattle.gerber_reading.specs.Image.{effect_by, pieces_by}
use Rattle.gerber_reading.specs.Dialect.{AreItemsBy, Dialect, HasOneAnswerBy, stop_command}

pub one_answer : {G E A : Type 0} → ((a : Ahead) → HasOneReadingAhead a) → {W : Type 0} (d : Dialect G E A W) (file : List ℕ) (p : Place) → HasOneAnswerBy d file p
one_answer one d file p = one_answer_of (effect_by d.table p) (pieces_by d.table p) (AreItemsBy d file) (some_items one d.command stop_command file) (one_items one d.command stop_command file)
