use Rattle.aperture_macros.proofs.Numbers.{number_is}
use Rattle.aperture_macros.proofs.body_word.is_number.Goals as goal

pub returns : goal.returns
returns c = number_is c.args.decimal.now c.args.n c.equals.result c.equals.ensures
