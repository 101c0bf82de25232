use Rattle.std.proofs.Common.{List, ap, ◌∙◌}
use Rattle.x2_nets.proofs.InForce.{no_name, name_found}
use Rattle.x2_nets.specs.Labels.{name_at}
use Rattle.x2_nets.specs.declared.label_table.Label.{Label}
use Rattle.x2_nets.proofs.label_table.label_among.Goals as goal

pub returns-then-count-eq0 : goal.returns-then-count-eq0
returns-then-count-eq0 c = no_name c.args.command c.as_slice-rising.result.now c.labels_before-count.result c.labels_before-count.ensures.place c.if-count-eq0.true ∙ ap (λ (ls : List Label). name_at ls c.args.command) c.as_slice-rising.ensures

pub returns : goal.returns
returns c =
    let here = c.index-rising-count.result in
    c.as_ref.ensures.value ∙ name_found c.args.command c.as_slice-rising.result.now c.labels_before-count.result here c.labels_before-count.ensures.within c.labels_before-count.ensures.place c.if-count-eq0.false ∙ ap (λ (ls : List Label). name_at ls c.args.command) c.as_slice-rising.ensures
