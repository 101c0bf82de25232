use Rattle.std.proofs.Common.{refl}
use Rattle.real_copper.proofs.sketches.odd_shape.Goals as goal

pub returns-in-Disc-clause-value : goal.returns-in-Disc-clause-value
returns-in-Disc-clause-value c = rw (c.in-Disc.is, c.stroke_about.ensures, c.across-wide.ensures.value) refl

pub returns-in-Rectangle-clause-value : goal.returns-in-Rectangle-clause-value
returns-in-Rectangle-clause-value c = rw (c.in-Rectangle.is, c.sides_turned.ensures, c.across-wide-in-Rectangle.ensures.value, c.up-high.ensures.value) refl

pub returns-in-Line-clause-value : goal.returns-in-Line-clause-value
returns-in-Line-clause-value c = rw (c.in-Line.is, c.moved.ensures, c.across.ensures.value) refl
