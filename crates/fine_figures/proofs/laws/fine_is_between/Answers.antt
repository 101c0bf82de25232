use Rattle.fine_figures.proofs.Fine.{fine_above, fine_below}
use Rattle.fine_figures.proofs.laws.fine_is_between.Goals as goal

pub returns : goal.returns
returns c = λ fine bound p. (λ taken inside. fine_below fine bound p taken inside, λ taken inside. fine_above fine bound p taken inside)
