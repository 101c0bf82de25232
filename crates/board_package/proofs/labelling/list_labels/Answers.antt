use Rattle.std.proofs.Common.{All, sym, subst}
use Rattle.std.proofs.lemmas.List.Elements.{All-push}
use Rattle.x2_nets.specs.Labels.{Rise}
use Rattle.board_package.specs.LabelledCauses.{IsMislabelling}
use Rattle.board_package.specs.declared.entry.Naming.TheVariants.{ByLabels}
use Rattle.board_package.proofs.Lift.{climbs}
use Rattle.board_package.proofs.labelling.list_labels.Goals as goal

pub returns-in_err-listed-in-Copper-clause-fault : goal.returns-in_err-listed-in-Copper-clause-fault
returns-in_err-listed-in-Copper-clause-fault c =
    climbs _ (λ f. IsMislabelling c.args.naming c.args.entry.now.role c.args.entry.now.name c.args.file.now f) c.from_residual.result c.in_err-listed-in-Copper.field-0.0 c.from_residual.ensures.1
    (subst (λ n. IsMislabelling n c.args.entry.now.role c.args.entry.now.name c.args.file.now c.in_err-listed-in-Copper.field-0.0) (sym c.in-ByLabels.is)
    (subst (λ r. IsMislabelling ByLabels r c.args.entry.now.name c.args.file.now c.in_err-listed-in-Copper.field-0.0) (sym c.in-Copper.is) (c.in_err-listed-in-Copper.ensures.fault c.in-Copper.layer)))

pub returns-in_ok-push-in-Copper-clause-rise : goal.returns-in_ok-push-in-Copper-clause-rise
returns-in_ok-push-in-Copper-clause-rise c =
    subst (All Rise) (sym c.in_ok-push-in-Copper.ensures.ok) (All-push Rise c.args.tables.now c.in_ok-listed-in-Copper.listed c.requires.rise c.in_ok-listed-in-Copper.ensures.rise)
