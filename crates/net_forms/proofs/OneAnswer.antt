-- Each file has one answer.
use Rattle.std.proofs.Common.{ℕ, List}
use Rattle.file_reading.proofs.OneAnswer as reading
use Rattle.ipc356_records.specs.NetlistFile.{effect_at, netlist_of}
use Rattle.net_forms.specs.NetFile.{items, HasOneAnswer}

pub one_answer : (file : List ℕ) (layers : ℕ) → HasOneAnswer file layers
one_answer file layers = reading.one_answer (effect_at layers) (netlist_of layers) (items file)
