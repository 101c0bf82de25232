use Rattle.std.proofs.Common.{◌≡◌, ◌+◌, List, drop}
use Rattle.gerber_reading.specs.Image.{made}
use Rattle.gerber_reading.specs.Reader.{body_of, place_of}
use Rattle.step_repeat.specs.Copies.{pieces_by}
use Rattle.real_copper.specs.Figures.{RealFigure}
use Rattle.real_copper.specs.RealReader.{plain}
use Rattle.real_copper.specs.Rows.{figures_of}
use Rattle.real_copper.proofs.MacroFlash.{ahead}
use Rattle.real_copper.proofs.drawing.macro_pieces.Given as goal

-- the figures so far, with those of the primitives that remain, are all
abbrev pub invariant-loop-primitive : goal.invariant-loop-primitive
invariant-loop-primitive l = (done : List RealFigure)
    × (pieces_by plain l.pieces.items ≡ made (place_of l.reader) (l.reader.commands + 1) done)
    × (figures_of (body_of l.body) l.parameters l.unit l.to ≡ ahead done (figures_of (body_of (drop l.primitive-index l.body)) l.parameters l.unit l.to))
