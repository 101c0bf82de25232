use Rattle.made_files.proofs.Fitting.{made_packages_fit}
use Rattle.made_files.proofs.made_packages_fit.Goals as goal

pub returns : goal.returns
returns c = made_packages_fit c.made_files_are_short.ensures
