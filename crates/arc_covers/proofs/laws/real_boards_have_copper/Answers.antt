use Rattle.arc_covers.proofs.HaveCopper.{boards_have_copper, shapes_have_copper}
use Rattle.arc_covers.proofs.laws.real_boards_have_copper.Goals as goal

pub returns-clause-shapes : goal.returns-clause-shapes
returns-clause-shapes c = shapes_have_copper c.surely_is_possibly.ensures c.surely_is_possibly-2.ensures c.surely_is_possibly-3.ensures c.discs_have_copper.ensures c.turned_polygons_have_copper.ensures

pub returns-clause-boards : goal.returns-clause-boards
returns-clause-boards c = boards_have_copper (shapes_have_copper c.surely_is_possibly.ensures c.surely_is_possibly-2.ensures c.surely_is_possibly-3.ensures c.discs_have_copper.ensures c.turned_polygons_have_copper.ensures)
