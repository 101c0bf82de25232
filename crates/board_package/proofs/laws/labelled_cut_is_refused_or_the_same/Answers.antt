use Rattle.board_package.proofs.CutOff.{HavePrefixes, labelled_cut_is_refused_or_the_same}
use Rattle.board_package.proofs.LabelsCut.{labels_of_prefix}
use Rattle.board_package.proofs.laws.labelled_cut_is_refused_or_the_same.Goals as goal

pub returns : goal.returns
returns c =
    let prefixes : HavePrefixes = record { layer = c.prefix_makes_the_same.ensures; drill = c.prefix_makes_the_same-2.ensures; netlist = c.prefix_makes_the_same-3.ensures } in
    λ files manifest. labelled_cut_is_refused_or_the_same c.files_have_one_answer.ensures prefixes (λ file p pieces others n labels. labels_of_prefix c.words_lie_ahead.ensures c.prefix_has_first_words.ensures file p pieces others n labels) files manifest
