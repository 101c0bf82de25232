use Rattle.std.proofs.Common.{List, Option, subst, sym}
use Rattle.aperture_macros.specs.BodyWord.{PlainPrimitive}
use Rattle.gerber_layer.specs.Reader.{AreBlankIn}
use Rattle.gerber_layer.proofs.reader.flashed.Goals as goal

pub pieces_of-requires-clause-blank : goal.pieces_of-requires-clause-blank
pieces_of-requires-clause-blank c =
    subst (λ (o : Option (List PlainPrimitive)). AreBlankIn o c.args.parameters.now c.args.unit c.args.blanks.now) (sym c.in-Some.ensures) c.requires.blank
