use Rattle.gerber_reading.specs.declared.kind.GerberKind.TheVariants as kind
use Rattle.real_copper.specs.Kinds.{gerber}
use Rattle.real_copper.proofs.Stops.{real_stops}
use Rattle.real_copper.proofs.laws.real_prefix_is_refused.Goals as goal

pub returns : goal.returns
returns c = λ file p pieces read. c.prefix_is_refused.ensures (gerber kind.NotEnded) file p pieces real_stops read
