use Rattle.gerber_layer.proofs.MacroOutcome.{outcome_with_macros}
use Rattle.gerber_layer.proofs.Placing.{macros_on}
use Rattle.gerber_layer.proofs.dialect.WithMacrosDialect.is_lawful.Goals as goal

pub returns-clause-outcomes : goal.returns-clause-outcomes
returns-clause-outcomes c = outcome_with_macros

pub returns-clause-layers : goal.returns-clause-layers
returns-clause-layers c = macros_on
