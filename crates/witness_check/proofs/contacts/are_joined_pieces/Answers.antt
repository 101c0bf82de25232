use Rattle.std.proofs.Common.{arith}
use Rattle.std.proofs.lemmas.Bool.Decides.{nat_tests}
use Rattle.witness_check.proofs.contacts.are_joined_pieces.Goals as goal

pub returns-then-share_an_end-clause-touch : goal.returns-then-share_an_end-clause-touch
returns-then-share_an_end-clause-touch g c = (λ h. (grind (arith, nat_tests), c.share_an_end.ensures h), λ h. c.if-share_an_end.true)

pub returns-else-share_an_end-clause-touch : goal.returns-else-share_an_end-clause-touch
returns-else-share_an_end-clause-touch g c = (λ h. (grind (arith, nat_tests), c.meets.ensures.share.0 h), λ h. c.meets.ensures.share.1 h.1)
