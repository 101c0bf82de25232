use Rattle.std.proofs.Common.{ap, sym, ◌∙◌}
use Rattle.drill_forms.specs.Numbers.{Number}
use Rattle.drill_forms.proofs.Pointed.{never_none, some_placed}
use Rattle.drill_forms.proofs.number.Number.with_places.Goals as goal

pub returns-in-Some : goal.returns-in-Some
returns-in-Some c =
    some_placed c.args.self.now.value c.in-Some.number c.self.inside.negative c.self.inside.whole c.args.places c.pointed_text-text.result c.requires c.self.invariant.2 (c.self.invariant.0 ∙ ap (λ (n : Number). n.value.negative) c.self.view_is)
    (c.self.invariant.1 ∙ ap (λ (n : Number). n.value.whole) c.self.view_is) c.pointed_text-text.ensures (sym c.read_decimal.ensures ∙ c.in-Some.is)

pub returns-in-None : goal.returns-in-None
returns-in-None c = absurd (never_none c.self.inside.negative c.self.inside.whole c.args.places c.pointed_text-text.result c.requires c.self.invariant.2 c.pointed_text-text.ensures (sym c.read_decimal.ensures ∙ c.in-None.is))
