use Rattle.std.proofs.Common.{ℤ, pos, to_z-of_z, rules, ap, ◌∙◌}
use Rattle.std.specs.Int.{w128}
use Rattle.turned_outlines.specs.Nearest as spec
use Rattle.turned_outlines.proofs.Places.{kept_is, read_area}
use Rattle.turned_outlines.proofs.nearest.turned_corner.Goals as goal

pub returns : goal.returns
returns c =
    c.spot_at.ensures
    ∙ kept_is _ _ (spec.turned_spot c.args.d c.args.o c.args.s).x (spec.turned_spot c.args.d c.args.o c.args.s).y c.args.s
    (to_z-of_z {w = w128} {z = c.nearest.result} (search rules) ∙ c.nearest.ensures ∙ ap (λ (z : ℤ). spec.nearest z (pos c.args.d.n)) (read_area c.turned_across-across.result _ c.turned_across-across.ensures.value c.turned_across-across.ensures.small))
    (to_z-of_z {w = w128} {z = c.nearest-2.result} (search rules) ∙ c.nearest-2.ensures ∙ ap (λ (z : ℤ). spec.nearest z (pos c.args.d.n)) (read_area c.turned_up-up.result _ c.turned_up-up.ensures.value c.turned_up-up.ensures.small))
