use Rattle.std.proofs.Common.{◌≡◌, ◌++◌, take}
use Rattle.std.specs.List.{AllByRecursion, flat_map}
use Rattle.verdict.proofs.lines.write_words.Given as goal

abbrev pub invariant-loop-word : goal.invariant-loop-word
invariant-loop-word g l = (l.out.items ≡ l.initial.out.items ++ flat_map g.T.Word.text (take l.word-index l.words)) × AllByRecursion g.T.Word.is_lawful (take l.word-index l.words)
