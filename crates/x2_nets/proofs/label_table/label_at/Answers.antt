use Rattle.std.proofs.Common.{◌≡◌, ◌+◌, ◌<◌, ◌≤◌, List, take, get_or, sym, ap, ◌∙◌, subst}
use Rattle.std.specs.Option.{option_copied}
use Rattle.x2_nets.proofs.InForce.{found_less, found_other}
use Rattle.x2_nets.specs.Labels.{name_at}
use Rattle.x2_nets.specs.declared.label_table.Label.{Label}
use Rattle.x2_nets.proofs.label_table.label_at.Goals as goal
use Rattle.x2_nets.proofs.label_table.label_at.Goals.{then-label-command, else-label-command}

pub loop-label-preserved : goal.loop-label-preserved
loop-label-preserved c =
    let xs = c.as_slice-label-items.result.now in
    let n = c.args.command in
    let i = c.loop-label.label-index in
    let here = c.label-item.result in
    let is : here ≡ get_or xs i here = c.label-item.is in
    let same : xs ≡ c.args.labels.now = c.as_slice-label-items.ensures in
    let on = ap (λ (ls : List Label). name_at (take (i + 1) ls) n) same in
    elim c.if-label-command.branch [
      | then-label-command w ↦
          let less : (get_or xs i here).command < n = subst (λ (l : Label). l.command < n) is w.if-label-command.true in
          ap option_copied w.found-is ∙ w.as_ref-found.ensures.value ∙ ap (λ (l : Label). l.name) is ∙ found_less n xs i here c.loop-label-test.true less ∙ on
      | else-label-command w ↦
          let least : n ≤ (get_or xs i here).command = subst (λ (l : Label). n ≤ l.command) is w.if-label-command.false in
          let before = subst (λ (ls : List Label). option_copied c.loop-label.found ≡ name_at (take i ls) n) (sym same) c.loop-label.invariant in
          ap option_copied w.found-is ∙ found_other n xs i here (option_copied c.loop-label.found) c.loop-label-test.true least before ∙ on
    ]
