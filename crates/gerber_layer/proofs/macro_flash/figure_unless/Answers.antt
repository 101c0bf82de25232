use Rattle.std.proofs.Common.{sym}
use Rattle.gerber_layer.proofs.macro_flash.figure_unless.Goals as goal

pub returns-then-blank : goal.returns-then-blank
returns-then-blank c = sym (c.requires.blank c.if-blank.true c.args.to)
