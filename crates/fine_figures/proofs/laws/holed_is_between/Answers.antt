use Rattle.fine_figures.proofs.Pierced.{holed_above, holed_below}
use Rattle.fine_figures.proofs.laws.holed_is_between.Goals as goal

pub returns : goal.returns
returns c = λ h frame bound p. (λ taken inside. holed_below h frame bound p taken inside, λ taken inside. holed_above h bound p taken inside)
