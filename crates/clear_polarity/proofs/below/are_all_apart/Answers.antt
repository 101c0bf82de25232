use Rattle.std.proofs.Common.{rules, tests}
use Rattle.std.proofs.lemmas.Iterator.{YieldsList-from_slice, cases_from_all}
use Rattle.board_shapes.specs.Figures.{figure_of}
use Rattle.board_shapes.specs.declared.shape.Shape.{Shape}
use Rattle.clear_polarity.specs.Taken.{AreApart}
use Rattle.clear_polarity.proofs.Lists.{all_decides}
use Rattle.clear_polarity.proofs.below.are_all_apart.Goals as goal

pub returns : goal.returns
returns c =
    all_decides (λ (other : Shape). AreApart c.args.frame (figure_of c.args.shape.now) (figure_of other)) c.args.others.now c.all.result
    (cases_from_all c.all.new.self _ c.all.result (λ (other : Shape). AreApart c.args.frame (figure_of c.args.shape.now) (figure_of other)) (λ (other : Shape). AreApart c.args.frame (figure_of c.args.shape.now) (figure_of other) → ⊥) c.all.ensures.ran (YieldsList-from_slice c.args.others.now cc) (λ x q k. search (rules, tests)) (λ x q k. search (rules, tests)))
