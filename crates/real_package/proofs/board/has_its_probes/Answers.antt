use Rattle.std.proofs.lemmas.Slice.Eq.{slice_eq-Decides}
use Rattle.real_package.proofs.Equal.{decided, probe_decides}
use Rattle.real_package.proofs.board.has_its_probes.Goals as goal

pub returns : goal.returns
returns c = decided c.eq.result c.probes.result.now c.as_slice.result.now _ _ c.probes.ensures.items c.as_slice.ensures (slice_eq-Decides probe_decides c.probes.result.now c.as_slice.result.now c.eq.result c.eq.ensures)
