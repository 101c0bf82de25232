use Rattle.std.proofs.Common.{rules, tests}
use Rattle.std.proofs.lemmas.Iterator.{YieldsList-from_slice, cases_from_all}
use Rattle.board_shapes.specs.Figures.{figure_of}
use Rattle.clear_polarity.specs.Taken.{Spares}
use Rattle.clear_polarity.specs.declared.LayerObject.{LayerObject}
use Rattle.clear_polarity.proofs.Lists.{all_decides}
use Rattle.clear_polarity.proofs.below.all_spare.Goals as goal

pub returns : goal.returns
returns c =
    all_decides (Spares c.args.frame (figure_of c.args.shape.now)) c.args.objects.now c.all.result
    (cases_from_all c.all.new.self _ c.all.result (Spares c.args.frame (figure_of c.args.shape.now)) (λ (x : LayerObject). Spares c.args.frame (figure_of c.args.shape.now) x → ⊥) c.all.ensures.ran (YieldsList-from_slice c.args.objects.now cc) (λ x q k. search (rules, tests)) (λ x q k. search (rules, tests)))
