use Rattle.covers.proofs.Covering.{between, keeps}
use Rattle.covers.proofs.Verdicts.{decided, none_missing, none_open, none_short}
use Rattle.covers.specs.Plain.{InPiece, layout_of}
use Rattle.covers.proofs.laws.verdicts_decide.Goals as goal

pub returns-clause-agrees : goal.returns-clause-agrees
returns-clause-agrees g c = λ lower upper v w real is opens bare shorts.
    let t = c.tables_are_unique.ensures.unique lower is.lower_lawful in
    let right = is.lower_right t.tables t.are in
    let laws = c.boards_have_the_laws.ensures in
    let joins = laws.joins lower v is.lower_lawful is.lower_right in
    between (InPiece lower) (layout_of lower) g.R.Copper.holds real (InPiece upper) (layout_of upper) is.below is.above
    (keeps (InPiece lower) (layout_of lower) g.R.Copper.holds real is.below) (keeps g.R.Copper.holds real (InPiece upper) (layout_of upper) is.above)
    (none_missing lower v t.tables t.are right joins bare) (none_open lower v t.tables t.are right joins (laws.opens lower v is.lower_lawful is.lower_right) opens bare) (none_short upper w is.upper_lawful (laws.shorts upper w is.upper_lawful is.upper_right) shorts)

pub returns-clause-decides : goal.returns-clause-decides
returns-clause-decides g c = λ lower upper v w real is.
    decided lower upper v w g.R.Copper.holds real (keeps (InPiece lower) (layout_of lower) g.R.Copper.holds real is.below) (keeps g.R.Copper.holds real (InPiece upper) (layout_of upper) is.above)
    (c.boards_have_the_laws.ensures.joins lower v is.lower_lawful is.lower_right) (c.boards_have_the_laws.ensures.joins upper w is.upper_lawful is.upper_right)
