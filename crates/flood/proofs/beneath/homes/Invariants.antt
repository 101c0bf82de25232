use Rattle.std.proofs.Common.{◌<◌, All, IfSome}
use Rattle.cell_index.specs.Homes.{UnderProbe}
use Rattle.tables.specs.Lists.{AreLeast}
use Rattle.flood.proofs.beneath.homes.Given as goal

abbrev pub invariant-loop-i : goal.invariant-loop-i
invariant-loop-i g l = AreLeast l.i (UnderProbe (g.F.Field.beneath l.fn.field) l.probes) l.rows × All (λ home. IfSome home (λ piece. piece < g.F.Field.size l.fn.field)) l.rows
