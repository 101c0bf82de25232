use Rattle.slants.proofs.Moved.{above_disc, below_disc}
use Rattle.slants.proofs.laws.discs_are_between.Goals as goal

pub returns : goal.returns
returns c = λ a s r p. (λ h inside t k. below_disc a s r t p h k inside, λ h (t, k, inside). above_disc a s r t p h k inside)
