use Rattle.std.proofs.lemmas.Slice.Eq.{slice_eq-Decides}
use Rattle.real_package.proofs.Equal.{decided, name_decides}
use Rattle.real_package.proofs.board.has_its_names.Goals as goal

pub returns : goal.returns
returns c = decided c.eq.result c.names.result.now c.as_slice.result.now _ _ c.names.ensures.items c.as_slice.ensures (slice_eq-Decides name_decides c.names.result.now c.as_slice.result.now c.eq.result c.eq.ensures)
