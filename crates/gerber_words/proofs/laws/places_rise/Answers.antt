use Rattle.gerber_words.proofs.Slices.{places_rise}
use Rattle.gerber_words.proofs.laws.places_rise.Goals as goal

pub returns : goal.returns
returns c = places_rise
