use Rattle.std.proofs.Common.{◌∙◌, ap, subst, sym}
use Rattle.slants.specs.Turned.{IsBounded}
use Rattle.slants.specs.declared.turns.Turn.{Turn}
use Rattle.slants.proofs.Sums.{across_is, bounded, meet_read, mirror_placed, up_is, whole_is}
use Rattle.slants.proofs.turns.meet.Goals as goal

pub cross-requires-clause-a_placed : goal.cross-requires-clause-a_placed
cross-requires-clause-a_placed c = mirror_placed c.args.u c.way-3.result.x c.way-3.result.y c.requires.u_small (c.way-3.ensures.across ∙ ap (λ (t : Turn). t.x) c.mirror-2.ensures) (c.way-3.ensures.up ∙ ap (λ (t : Turn). t.y) c.mirror-2.ensures)

pub returns-clause-value : goal.returns-clause-value
returns-clause-value c = meet_read c.args.u c.args.v c.dot.result c.cross.result c.dot-2.result c.requires.u_small c.requires.v_small
    (c.dot.ensures ∙ across_is c.args.u c.args.v c.way.result c.way-2.result c.way.ensures.across (c.way-2.ensures.across ∙ ap (λ (t : Turn). t.x) c.mirror.ensures) c.way.ensures.up (c.way-2.ensures.up ∙ ap (λ (t : Turn). t.y) c.mirror.ensures))
    (c.cross.ensures ∙ up_is c.args.u c.args.v c.way-3.result c.way-4.result (c.way-3.ensures.across ∙ ap (λ (t : Turn). t.x) c.mirror-2.ensures) c.way-4.ensures.across (c.way-3.ensures.up ∙ ap (λ (t : Turn). t.y) c.mirror-2.ensures) c.way-4.ensures.up)
    (c.dot-2.ensures ∙ whole_is c.args.u c.args.v c.way-5.result c.way-6.result c.way-5.ensures.across c.way-6.ensures.across c.way-5.ensures.up c.way-6.ensures.up)

pub returns-clause-bounded : goal.returns-clause-bounded
returns-clause-bounded c = subst IsBounded (sym (returns-clause-value c)) (bounded c.args.u c.args.v c.requires.u_small c.requires.v_small)
