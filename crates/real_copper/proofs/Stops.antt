-- How stops are judged: a file that is cut off is refused.
use Rattle.std.proofs.Common.{◌≡◌, true, false, cond, Ok, Err, refl}
use Rattle.gerber_words.specs.declared.fault.WordFault.{WordFault}
use Rattle.gerber_reading.specs.Command.{Command, breaks, finishes}
use Rattle.gerber_reading.specs.CommandEffects.{is_finish, kind_of_word, stays}
use Rattle.gerber_reading.specs.Laws.{JudgesStops}
use Rattle.gerber_reading.specs.declared.kind.GerberKind.TheVariants as kind
use Rattle.real_copper.specs.Kinds.{gerber}
use Rattle.real_copper.specs.Rows.{RealKnown}
use Rattle.real_copper.specs.Table.{effect, real_table, row}

behind : (k : RealKnown) (c : Command) → k.settings.ended ≡ true → effect k c ≡ cond (is_finish c) (Ok stays) (Err (gerber kind.AfterEnd))
unfolding effect
behind k c h = rw h refl

unended : (k : RealKnown) → k.settings.ended ≡ false → effect k finishes ≡ Err (gerber kind.NotEnded)
unfolding effect row
unended k h = rw h refl

faulty : (k : RealKnown) (fault : WordFault) → k.settings.ended ≡ false → effect k (breaks fault) ≡ Err (gerber (kind_of_word fault))
unfolding effect row
faulty k fault h = rw h refl

pub real_stops : JudgesStops real_table (gerber kind.NotEnded)
real_stops = record { after_end = gerber kind.AfterEnd; of_word = λ fault. gerber (kind_of_word fault); behind = behind; unended = unended; faulty = faulty; early = refl }
