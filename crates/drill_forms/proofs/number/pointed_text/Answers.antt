use Rattle.lengths.proofs.Digits.{power_above}
use Rattle.drill_forms.proofs.number.pointed_text.Goals as goal

pub nonzero_div-whole : goal.nonzero_div-whole
nonzero_div-whole c = power_above c.args.places c.pow.result c.pow.ensures
