use Rattle.board_package.proofs.CutOff.{HavePrefixes, cut_is_refused_or_the_same}
use Rattle.board_package.proofs.laws.cut_is_refused_or_the_same.Goals as goal

pub returns : goal.returns
returns c =
    let prefixes : HavePrefixes = record { layer = c.prefix_makes_the_same.ensures; drill = c.prefix_makes_the_same-2.ensures; netlist = c.prefix_makes_the_same-3.ensures } in
    λ files manifest. cut_is_refused_or_the_same c.files_have_one_answer.ensures prefixes files manifest
