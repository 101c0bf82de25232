use Rattle.gerber_reading.specs.declared.kind.GerberKind.TheVariants as kind
use Rattle.real_copper.specs.Kinds.{gerber}
use Rattle.real_copper.proofs.Stops.{real_stops}
use Rattle.real_copper.proofs.laws.real_prefix_makes_the_same.Goals as goal

pub returns : goal.returns
returns c = λ file p. c.prefix_makes_the_same.ensures (gerber kind.NotEnded) file p real_stops
