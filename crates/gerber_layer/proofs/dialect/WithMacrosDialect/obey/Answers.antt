use Rattle.std.proofs.Common.{sym, ◌∙◌}
use Rattle.gerber_reading.specs.Command.{view}
use Rattle.gerber_layer.specs.MacroTable.{effect_with_macros}
use Rattle.gerber_layer.specs.Reader.{known_of, shown}
use Rattle.gerber_layer.proofs.WithMacros.{few_before_end, obeys_with}
use Rattle.gerber_layer.proofs.dialect.WithMacrosDialect.obey.Goals as goal

pub returns-else-ends-clause-ok : goal.returns-else-ends-clause-ok
returns-else-ends-clause-ok c =
    let o = c.in_default.ensures.ok in
    obeys_with c.args.reader.now c.go_on.new.reader (view c.args.command.now) (shown (known_of c.args.reader.now) c.in_ok-effect.effect) (effect_with_macros (known_of c.args.reader.now) (view c.args.command.now)) o c.in_ok-effect.ensures.ok (few_before_end (known_of c.args.reader.now) c.in_ok-effect.effect o.effect_is (sym c.is_end-ends.ensures ∙ c.if-ends.false) o.clean)
