use Rattle.area_contact.proofs.Decided.{area_capsule_decided, area_has_decided, areas_decided}
use Rattle.area_contact.proofs.laws.sharing_is_decided.Goals as goal

pub returns-clause-spots : goal.returns-clause-spots
returns-clause-spots c = area_has_decided

pub returns-clause-capsules : goal.returns-clause-capsules
returns-clause-capsules c = area_capsule_decided

pub returns-clause-areas : goal.returns-clause-areas
returns-clause-areas c = areas_decided
