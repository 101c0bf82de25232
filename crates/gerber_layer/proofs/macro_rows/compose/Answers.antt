use Rattle.std.proofs.Common.{◌≡◌, Result, IfErr, IfOk, subst, sym}
use Rattle.gerber_layer.specs.declared.macro_kind.FlattenKind.{FlattenKind}
use Rattle.gerber_layer.specs.MacroTable.{gerber}
use Rattle.gerber_layer.specs.CommandEffects.{Effect}
use Rattle.gerber_layer.specs.Reader.{Stops, body_of, known_of, shown}
use Rattle.gerber_layer.proofs.Bodies.{short_number}
use Rattle.gerber_layer.proofs.MacroOutcome.{compose_is}
use Rattle.gerber_layer.proofs.macro_rows.compose.Goals as goal

pub number-requires : goal.number-requires
number-requires c = short_number c.args.text.now c.args.unit c.requires

pub returns-clause-ok : goal.returns-clause-ok
returns-clause-ok c =
    let read = rw c.in-Some-parameters.is at c.in-Ok.ensures in
    let is = compose_is (known_of c.args.reader.now) c.args.text.now c.name_text-word.result.now c.before_byte-name.result.now c.args.unit (body_of c.in-Some.body.now) c.in-Some-parameters.parameters.items c.number.result c.name_text-word.ensures c.before_byte-name.ensures c.in-Some.ensures read c.number.ensures in
    subst (λ (what : Result Effect FlattenKind). IfOk c.compose_as.result (λ e. gerber (shown (known_of c.args.reader.now) e) ≡ what)) (sym is) c.compose_as.ensures.ok

pub returns-clause-halt : goal.returns-clause-halt
returns-clause-halt c =
    let read = rw c.in-Some-parameters.is at c.in-Ok.ensures in
    let is = compose_is (known_of c.args.reader.now) c.args.text.now c.name_text-word.result.now c.before_byte-name.result.now c.args.unit (body_of c.in-Some.body.now) c.in-Some-parameters.parameters.items c.number.result c.name_text-word.ensures c.before_byte-name.ensures c.in-Some.ensures read c.number.ensures in
    subst (λ (what : Result Effect FlattenKind). IfErr c.compose_as.result (Stops what)) (sym is) c.compose_as.ensures.halt
