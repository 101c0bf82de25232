use Rattle.std.proofs.Common.{sym, subst, ◌∙◌}
use Rattle.x2_nets.specs.Labels.{Rise}
use Rattle.board_package.proofs.Named.{no_table, one_table}
use Rattle.board_package.proofs.labelling.label_of.Goals as goal

pub returns-then-file-tables : goal.returns-then-file-tables
returns-then-file-tables c = no_table c.args.tables.now c.args.origin c.if-file-tables.true

pub label_among-requires : goal.label_among-requires
label_among-requires c = subst Rise (sym c.index-tables-file.is) (c.requires.rise c.args.origin.file c.index-tables-file.result c.if-file-tables.false)

pub returns : goal.returns
returns c = c.label_among.ensures ∙ one_table c.args.tables.now c.args.origin c.index-tables-file.result c.if-file-tables.false c.index-tables-file.is
