use Rattle.std.proofs.Common.{subst}
use Rattle.aperture_macros.specs.Seen.{plain}
use Rattle.gerber_layer.specs.Reader.{IsFit}
use Rattle.gerber_layer.proofs.Marks.{added_marked, begun_marked, filled_marked}
use Rattle.gerber_layer.proofs.reader.carry_out.Goals as goal

pub returns-in-Ok-clause-fitting : goal.returns-in-Ok-clause-fitting
returns-in-Ok-clause-fitting c =
    let fit = subst (IsFit c.args.reader.now.dictionary) c.in-Makes.is c.requires.fit in
    added_marked c.args.reader.now.dictionary c.add.new.self c.in-Makes.n c.in-Makes.tool c.in-Ok.ensures.ok c.in-Ok.ensures.kept fit.0 c.requires.fitting

pub returns-in-Ok-begin-clause-fitting : goal.returns-in-Ok-begin-clause-fitting
returns-in-Ok-begin-clause-fitting c =
    let fit = subst (IsFit c.args.reader.now.dictionary) c.in-Begins.is c.requires.fit in
    begun_marked c.args.reader.now.dictionary c.begin.new.self c.in-Begins.name.now c.in-Ok-begin.ensures.macros c.begin.ensures.kept fit c.requires.fitting

pub returns-in-Ok-fill-clause-fitting : goal.returns-in-Ok-fill-clause-fitting
returns-in-Ok-fill-clause-fitting c =
    filled_marked c.args.reader.now.dictionary c.fill.new.self (plain c.in-Fills.primitive) c.in-Ok-fill.ensures.macros c.fill.ensures.kept c.requires.fitting
