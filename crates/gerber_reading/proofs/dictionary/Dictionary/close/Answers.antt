use Rattle.std.proofs.Common.{refl, sym, ◌∙◌}
use Rattle.gerber_reading.specs.Reader.{macro_of}
use Rattle.gerber_reading.proofs.Bodies.{closed_is}
use Rattle.gerber_reading.proofs.dictionary.Dictionary.close.Goals as goal

pub returns-in-Ok-clause-closed : goal.returns-in-Ok-clause-closed
returns-in-Ok-clause-closed g c = record {
  defined = λ n. refl;
  size = refl;
  others = λ name. closed_is _ macro_of c.args.self.now.latest c.in-Some.latest c.in-Some.latest.body _ _ name (sym c.take.ensures.value ∙ c.in-Some.is) refl (c.in-Ok.ensures.updates.0 (record { ref_ptr = (0, 0); now = name }));
}
