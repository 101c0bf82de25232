use Rattle.contact.specs.RoundLaws.{turned}
use Rattle.area_contact.proofs.meeting.CapsuleMeetsArea.meets.Goals as goal

pub returns-clause-share : goal.returns-clause-share
returns-clause-share g c = (λ h. turned (c.area_and_capsule.ensures.0 h), λ k. c.area_and_capsule.ensures.1 (turned k))
