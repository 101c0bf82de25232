use Rattle.std.proofs.Common.{◌≡◌, Ok, Result, IfErr, IfOk, subst, sym}
use Rattle.gerber_reading.specs.CommandEffects.{makes}
use Rattle.gerber_reading.specs.Reader.{Stops, body_of, tool_of}
use Rattle.real_copper.specs.RealReader.{known}
use Rattle.real_copper.specs.Rows.{RealEffect}
use Rattle.real_copper.specs.declared.kind.RealKind.{RealKind}
use Rattle.real_copper.proofs.Defined.{compose_is, macro_short}
use Rattle.real_copper.proofs.defining.compose.Goals as goal

pub number-requires : goal.number-requires
number-requires c = macro_short c.args.text.now c.args.unit c.requires.of_macro

pub returns-clause-ok : goal.returns-clause-ok
returns-clause-ok c =
    let read = rw c.in-Some-given.is at c.in-Ok.ensures in
    let is = compose_is (known c.args.reader.now) c.args.text.now c.name_text-word.result.now c.before_byte-name.result.now c.args.unit (body_of c.in-Some.body.now) c.in-Some-given.given.items c.number.result c.name_text-word.ensures c.before_byte-name.ensures c.in-Some.ensures read c.number.ensures in
    subst (λ (what : Result RealEffect RealKind). IfOk c.compose_as.result (λ made. what ≡ Ok (makes made.0 (tool_of made.1)))) (sym is) c.compose_as.ensures.ok

pub returns-clause-halt : goal.returns-clause-halt
returns-clause-halt c =
    let read = rw c.in-Some-given.is at c.in-Ok.ensures in
    let is = compose_is (known c.args.reader.now) c.args.text.now c.name_text-word.result.now c.before_byte-name.result.now c.args.unit (body_of c.in-Some.body.now) c.in-Some-given.given.items c.number.result c.name_text-word.ensures c.before_byte-name.ensures c.in-Some.ensures read c.number.ensures in
    subst (λ (what : Result RealEffect RealKind). IfErr c.compose_as.result (Stops what)) (sym is) c.compose_as.ensures.halt
