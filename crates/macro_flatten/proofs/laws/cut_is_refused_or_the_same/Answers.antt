use Rattle.macro_flatten.proofs.CutOff.{cut_is_refused_or_the_same}
use Rattle.macro_flatten.proofs.laws.cut_is_refused_or_the_same.Goals as goal

pub returns : goal.returns
returns c = cut_is_refused_or_the_same c.one_macro_answer.ensures c.macro_prefix_makes_the_same.ensures
