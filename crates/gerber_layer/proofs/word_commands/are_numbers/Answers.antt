use Rattle.std.proofs.Common.{rules, tests}
use Rattle.std.proofs.lemmas.Iterator.Search.{all_from_yields_List}
use Rattle.std.proofs.lemmas.Iterator.Splits.{YieldsList-from_slice_split}
use Rattle.gerber_layer.specs.WordCommands.{is_number, is_offset_letter}
use Rattle.gerber_layer.proofs.word_commands.are_numbers.Goals as goal

pub returns : goal.returns
returns c = all_from_yields_List is_number c.all.new.self _ c.all.result c.all.ensures.ran (YieldsList-from_slice_split _ is_offset_letter c.args.text.now c.split.ensures.rest c.split.ensures.done c.split.ensures.closure (λ x r q k. search (rules, tests))) (λ x b q k. search (rules, tests))
