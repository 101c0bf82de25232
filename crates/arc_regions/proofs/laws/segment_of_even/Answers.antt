use Rattle.arc_regions.proofs.Segments.{segment_of_even}
use Rattle.arc_regions.proofs.laws.segment_of_even.Goals as goal

pub returns : goal.returns
returns c = segment_of_even
