use Rattle.contact.proofs.Decided.{capsule_has_decided, capsules_decided}
use Rattle.contact.proofs.laws.sharing_is_decided.Goals as goal

pub returns-clause-spots : goal.returns-clause-spots
returns-clause-spots c = capsule_has_decided

pub returns-clause-capsules : goal.returns-clause-capsules
returns-clause-capsules c = capsules_decided
