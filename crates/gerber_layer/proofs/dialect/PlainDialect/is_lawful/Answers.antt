use Rattle.gerber_layer.proofs.Outcome.{outcome}
use Rattle.gerber_layer.proofs.Placing.{effect_on}
use Rattle.gerber_layer.proofs.dialect.PlainDialect.is_lawful.Goals as goal

pub returns-clause-outcomes : goal.returns-clause-outcomes
returns-clause-outcomes c = outcome

pub returns-clause-layers : goal.returns-clause-layers
returns-clause-layers c = effect_on
