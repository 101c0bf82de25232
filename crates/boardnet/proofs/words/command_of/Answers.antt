use Rattle.boardnet.proofs.Asking.{none_asks, some_asks, spelled_five, spelled_three, spelled_two}
use Rattle.boardnet.proofs.words.command_of.Goals as goal

pub returns-in-len2-clause-none : goal.returns-in-len2-clause-none
returns-in-len2-clause-none c =
    none_asks c.of_name.result c.args.words.now _
    (spelled_two c.args.words.now c.command-item.result c.name-item.result c.as_str.result.now c.as_str-in-len2.result.now c.in-len2.len_at_least c.in-len2.len_below c.command-item.is c.name-item.is c.as_str.ensures.value c.as_str-in-len2.ensures.value)
    c.of_name.ensures.none

pub returns-in-len3-clause-none : goal.returns-in-len3-clause-none
returns-in-len3-clause-none c =
    none_asks c.of_two.result c.args.words.now _
    (spelled_three c.args.words.now c.command-item-then-words-lt4.result c.first-item.result c.second-item.result c.as_str-in-len3.result.now c.as_str-in-len3-2.result.now c.as_str-in-len3-3.result.now c.in-len3.len_at_least c.in-len3.len_below
    c.command-item-then-words-lt4.is c.first-item.is c.second-item.is c.as_str-in-len3.ensures.value c.as_str-in-len3-2.ensures.value c.as_str-in-len3-3.ensures.value)
    c.of_two.ensures.none

pub returns-in-len5-clause-some : goal.returns-in-len5-clause-some
returns-in-len5-clause-some c =
    some_asks c.of_four.result c.args.words.now _
    (spelled_five c.args.words.now c.command-item-then-words-lt6.result c.first-item-then-words-lt6.result c.second-item-then-words-lt6.result c.third-item.result c.fourth-item.result
    c.as_str-in-len5.result.now c.as_str-in-len5-2.result.now c.as_str-in-len5-3.result.now c.as_str-in-len5-4.result.now c.as_str-in-len5-5.result.now c.in-len5.len_at_least c.in-len5.len_below
    c.command-item-then-words-lt6.is c.first-item-then-words-lt6.is c.second-item-then-words-lt6.is c.third-item.is c.fourth-item.is
    c.as_str-in-len5.ensures.value c.as_str-in-len5-2.ensures.value c.as_str-in-len5-3.ensures.value c.as_str-in-len5-4.ensures.value c.as_str-in-len5-5.ensures.value)
    c.of_four.ensures.some

pub returns-in-len5-clause-none : goal.returns-in-len5-clause-none
returns-in-len5-clause-none c =
    none_asks c.of_four.result c.args.words.now _
    (spelled_five c.args.words.now c.command-item-then-words-lt6.result c.first-item-then-words-lt6.result c.second-item-then-words-lt6.result c.third-item.result c.fourth-item.result
    c.as_str-in-len5.result.now c.as_str-in-len5-2.result.now c.as_str-in-len5-3.result.now c.as_str-in-len5-4.result.now c.as_str-in-len5-5.result.now c.in-len5.len_at_least c.in-len5.len_below
    c.command-item-then-words-lt6.is c.first-item-then-words-lt6.is c.second-item-then-words-lt6.is c.third-item.is c.fourth-item.is
    c.as_str-in-len5.ensures.value c.as_str-in-len5-2.ensures.value c.as_str-in-len5-3.ensures.value c.as_str-in-len5-4.ensures.value c.as_str-in-len5-5.ensures.value)
    c.of_four.ensures.none
