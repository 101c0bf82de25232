use Rattle.contact.specs.RoundLaws.{turned}
use Rattle.witness_check.proofs.contacts.share_an_end.Goals as goal

pub returns-in-Round-Round : goal.returns-in-Round-Round
returns-in-Round-Round c = λ h. rw (c.in-Round-Round.is-0, c.in-Round-Round.is-1) (c.begin_together.ensures h)

pub returns-in-Round-Filled : goal.returns-in-Round-Filled
returns-in-Round-Filled c = λ h. rw (c.in-Round-Filled.is-0, c.in-Round-Filled.is-1) (c.ends_in.ensures h)

pub returns-in-Filled-Round : goal.returns-in-Filled-Round
returns-in-Filled-Round c = λ h. rw (c.in-Filled-Round.is-0, c.in-Filled-Round.is-1) (turned (c.ends_in-in-Filled-Round.ensures h))
