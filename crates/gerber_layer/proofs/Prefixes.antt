-- A file that is cut off is refused, by the dialects of shapes.
use Rattle.std.proofs.Common.{◌≡◌, ℕ, true, false, cond, List, take, Ok, Err, refl}
use Rattle.board_shapes.specs.Pieces.{PlainPiece}
use Rattle.gerber_words.specs.Words.{Ahead, Entry, ended, HasWords, start}
use Rattle.gerber_words.specs.Laws.{HasFirstWords, HasOneReadingAhead}
use Rattle.gerber_words.specs.declared.fault.WordFault.{WordFault}
use Rattle.gerber_reading.specs.Command.{Command, breaks, finishes}
use Rattle.gerber_reading.specs.Laws.{JudgesStops}
use Rattle.gerber_reading.specs.declared.kind.GerberKind.TheVariants as kind
use Rattle.gerber_reading.proofs.Prefixes.{prefix_refused, prefix_same}
use Rattle.gerber_layer.specs.declared.macro_kind.FlattenKind.TheVariants.{Gerber}
use Rattle.gerber_layer.specs.CommandEffects.{Place, Known, effect, is_finish, kind_of_word, plain_table, row, stays}
use Rattle.gerber_layer.specs.Layer.{IsRead, standard}
use Rattle.gerber_layer.specs.MacroLayer.{IsReadWithMacros, flat_place, with_macros}
use Rattle.gerber_layer.specs.MacroTable.{effect_with_macros, macro_row, macro_table, row_with_macros}
use Rattle.gerber_layer.specs.Laws.{MacroPrefixesAreRefused, PrefixesAreRefused}

behind_standard : (k : Known) (c : Command) → k.settings.ended ≡ true → effect k c ≡ cond (is_finish c) (Ok stays) (Err kind.AfterEnd)
unfolding effect
behind_standard k c h = rw h refl

unended_standard : (k : Known) → k.settings.ended ≡ false → effect k finishes ≡ Err kind.NotEnded
unfolding effect row
unended_standard k h = rw h refl

faulty_standard : (k : Known) (fault : WordFault) → k.settings.ended ≡ false → effect k (breaks fault) ≡ Err (kind_of_word fault)
unfolding effect row
faulty_standard k fault h = rw h refl

standard_stops : JudgesStops plain_table kind.NotEnded
standard_stops = record { after_end = kind.AfterEnd; of_word = kind_of_word; behind = behind_standard; unended = unended_standard; faulty = faulty_standard; early = refl }

behind_macros : (k : Known) (c : Command) → k.settings.ended ≡ true → effect_with_macros k c ≡ cond (is_finish c) (Ok stays) (Err (Gerber kind.AfterEnd))
unfolding effect_with_macros
behind_macros k c h = rw h refl

unended_macros : (k : Known) → k.settings.ended ≡ false → effect_with_macros k finishes ≡ Err (Gerber kind.NotEnded)
unfolding effect_with_macros row_with_macros macro_row row
unended_macros k h = rw h refl

faulty_macros : (k : Known) (fault : WordFault) → k.settings.ended ≡ false → effect_with_macros k (breaks fault) ≡ Err (Gerber (kind_of_word fault))
unfolding effect_with_macros row_with_macros macro_row row
faulty_macros k fault h = rw h refl

macro_stops : JudgesStops macro_table (Gerber kind.NotEnded)
macro_stops = record { after_end = Gerber kind.AfterEnd; of_word = λ fault. Gerber (kind_of_word fault); behind = behind_macros; unended = unended_macros; faulty = faulty_macros; early = refl }

pub prefix_is_refused : ((a : Ahead) → HasOneReadingAhead a) → ((file : List ℕ) (words : List Entry) (n : ℕ) → HasWords (start file) words ended → HasFirstWords file words n) → (file : List ℕ) (p : Place) (pieces : List PlainPiece) → IsRead file p pieces → PrefixesAreRefused file p
prefix_is_refused one firsts file p pieces read = prefix_refused standard kind.NotEnded standard_stops p one firsts file pieces read

pub prefix_makes_the_same : ((a : Ahead) → HasOneReadingAhead a) → ((file : List ℕ) (words : List Entry) (n : ℕ) → HasWords (start file) words ended → HasFirstWords file words n) → (file : List ℕ) (p : Place) (pieces others : List PlainPiece) (n : ℕ) → IsRead file p pieces → IsRead (take n file) p others → others ≡ pieces
prefix_makes_the_same one firsts file p pieces others n read part = prefix_same standard kind.NotEnded standard_stops p one firsts file pieces others n read part

pub macro_prefix_is_refused : ((a : Ahead) → HasOneReadingAhead a) → ((file : List ℕ) (words : List Entry) (n : ℕ) → HasWords (start file) words ended → HasFirstWords file words n) → (file : List ℕ) (pieces : List PlainPiece) → IsReadWithMacros file pieces → MacroPrefixesAreRefused file
macro_prefix_is_refused one firsts file pieces read = prefix_refused with_macros (Gerber kind.NotEnded) macro_stops flat_place one firsts file pieces read

pub macro_prefix_makes_the_same : ((a : Ahead) → HasOneReadingAhead a) → ((file : List ℕ) (words : List Entry) (n : ℕ) → HasWords (start file) words ended → HasFirstWords file words n) → (file : List ℕ) (pieces others : List PlainPiece) (n : ℕ) → IsReadWithMacros file pieces → IsReadWithMacros (take n file) others → others ≡ pieces
macro_prefix_makes_the_same one firsts file pieces others n read part = prefix_same with_macros (Gerber kind.NotEnded) macro_stops flat_place one firsts file pieces others n read part
