use Rattle.arc_covers.specs.Bounds.{share_of}
use Rattle.arc_covers.proofs.Figures.{stands}
use Rattle.arc_covers.proofs.Lying.{bounded}
use Rattle.arc_covers.proofs.Outlined.{turned_bounded}
use Rattle.arc_covers.proofs.laws.taken_are_bounds.Goals as goal

pub returns : goal.returns
returns c = λ side real counts pieces t. record { counted = t.counted; stand = λ i piece below there. stands side piece (share_of counts pieces i) c.taken_is_between.ensures c.taken_is_between-2.ensures c.discs_are_between.ensures c.turned_polygon_is_between.ensures c.fine_is_between.ensures c.holed_is_between.ensures (bounded c.taken_holds.ensures c.taken_lies.ensures) (turned_bounded c.turned_is_between.ensures c.outline_holds.ensures c.outline_lies.ensures) (t.taken i piece below there) }
