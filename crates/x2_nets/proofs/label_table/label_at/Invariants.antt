use Rattle.std.proofs.Common.{◌≡◌, take}
use Rattle.std.specs.Option.{option_copied}
use Rattle.x2_nets.specs.Labels.{name_at}
use Rattle.x2_nets.proofs.label_table.label_at.Given as goal

abbrev pub invariant-loop-label : goal.invariant-loop-label
invariant-loop-label l = option_copied l.found ≡ name_at (take l.label-index l.labels) l.command
