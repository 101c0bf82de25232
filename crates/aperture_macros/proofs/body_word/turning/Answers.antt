use Rattle.aperture_macros.proofs.body_word.turning.Goals as goal

pub returns-in-Exact : goal.returns-in-Exact
returns-in-Exact c = rw c.in-Exact.is c.exact_turning.ensures
