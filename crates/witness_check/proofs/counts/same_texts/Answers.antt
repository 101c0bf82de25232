use Rattle.std.proofs.Common.{refl, sym, ap, ◌∙◌, ◌==◌}
use Rattle.std.specs.Cmp.Lexicographic.{pointwise}
use Rattle.std.proofs.lemmas.Bool.{eqb-true, eq-eqb}
use Rattle.witness_check.proofs.Same.{lists_same, lists_equal}
use Rattle.witness_check.proofs.counts.same_texts.Goals as goal

pub returns : goal.returns
returns c = (
  (λ yes. lists_same _ (lists_same ◌==◌ eqb-true) c.args.a.now c.args.b.now (sym c.eq.ensures ∙ yes)),
  λ same. c.eq.ensures ∙ (ap (pointwise _ c.args.a.now) (sym same) ∙ lists_equal _ (lists_equal ◌==◌ (λ x. eq-eqb x x refl)) c.args.a.now),
)
