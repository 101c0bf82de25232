use Rattle.real_copper.proofs.Layers.{effect_on}
use Rattle.real_copper.proofs.Outcomes.{effect_did}
use Rattle.real_copper.proofs.real.RealCopperDialect.is_lawful.Goals as goal

pub returns-clause-outcomes : goal.returns-clause-outcomes
returns-clause-outcomes c = effect_did

pub returns-clause-layers : goal.returns-clause-layers
returns-clause-layers c = effect_on
