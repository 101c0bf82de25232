use Rattle.std.proofs.Common.{◌∙◌}
use Rattle.real_copper.proofs.Straight.{straight_map}
use Rattle.real_copper.proofs.contours.is_straight.Goals as goal

pub returns : goal.returns
returns c = c.are_straight.ensures ∙ straight_map c.args.edges.now
