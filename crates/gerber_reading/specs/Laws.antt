-- Laws of files that are read by a dialect: a file that is cut off is refused.
use Rattle.std.specs.Prelude.{◌≡◌, ℕ, ◌≤◌, true, false, if◌then◌else◌, List, ◌∷◌, ◌++◌, take, Ok, Err}
use Rattle.std.specs.List.{AllByRecursion}
use Rattle.board_shapes.specs.Pieces.{PieceOf}
use Rattle.gerber_words.specs.Words.{Entry, Stop, HasWords, start}
use Rattle.gerber_words.specs.Laws.{star_of}
use Rattle.gerber_words.specs.declared.fault.WordFault.{WordFault}
use Rattle.gerber_words.specs.declared.fault.WordFault.TheVariants.{NotEnded}
use Rattle.gerber_reading.specs.Command.{Command, breaks, ends, finishes}
use Rattle.gerber_reading.specs.CommandEffects.{Place, Known, Profile, stays, is_finish}
use Rattle.gerber_reading.specs.Settings.{is_end}
use Rattle.gerber_reading.specs.Dialect.{Dialect, IsReadBy, IsRefusedBy}

-- ---- A file that is cut off

-- by a dialect the file has these words, and its end word, the first that ends it, has its star at this place
pub record EndsAtBy {G E A W : Type 0} (d : Dialect G E A W) (file : List ℕ) (star : ℕ) : Type 0 where
  pub front : List Entry
  pub last : Entry
  pub back : List Entry
  pub stop : Stop
  pub cut : HasWords (start file) (front ++ last ∷ back) stop
  pub ends_file : d.command last ≡ ends
  pub first : AllByRecursion (λ w. is_end (d.command w) ≡ false) front
  pub star_is : star ≡ star_of last

-- The file has an end word, and every prefix without that word's star is refused, as not ended.
pub record PrefixesAreRefusedBy {G E A W : Type 0} (d : Dialect G E A W) (not_ended : W) (file : List ℕ) (p : Place) : Type 0 where
  pub has_end : (star : ℕ) × EndsAtBy d file star
  pub refused : (star n : ℕ) → EndsAtBy d file star → n ≤ star → (number : ℕ) × (place : ℕ) × IsRefusedBy d (take n file) p not_ended number place

-- what a table says of a stop, and of all that stands behind an end word
pub record JudgesStops {G E A W : Type 0} (f : Profile G E A W) (not_ended : W) : Type 0 where
  pub after_end : W
  pub of_word : WordFault → W
  pub behind : (k : (Known G E A)) (c : Command) → k.settings.ended ≡ true → f.does k c ≡ (if is_finish c then Ok stays else Err after_end)
  pub unended : (k : (Known G E A)) → k.settings.ended ≡ false → f.does k finishes ≡ Err not_ended
  pub faulty : (k : (Known G E A)) (fault : WordFault) → k.settings.ended ≡ false → f.does k (breaks fault) ≡ Err (of_word fault)
  pub early : of_word NotEnded ≡ not_ended

-- a prefix that is read makes the same pieces
abbrev pub PrefixMakesTheSame : {G E A W : Type 0} → Dialect G E A W → List ℕ → Place → Type 0
PrefixMakesTheSame {G = G} d file p = (pieces others : List (PieceOf G)) (n : ℕ) → IsReadBy d file p pieces → IsReadBy d (take n file) p others → others ≡ pieces
