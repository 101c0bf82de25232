use Rattle.std.proofs.Common.{◌≡◌, List, drop}
use Rattle.board_shapes.specs.Figures.{Figure}
use Rattle.board_shapes.specs.Pieces.{plain_pieces}
use Rattle.gerber_layer.specs.Image.{made}
use Rattle.gerber_layer.specs.Reader.{body_of, origin_place}
use Rattle.gerber_layer.specs.CommandEffects.{figures_of}
use Rattle.gerber_layer.proofs.MacroFlash.{ahead}
use Rattle.gerber_layer.proofs.macro_flash.pieces_of.Given as goal

-- the figures so far, with those of the primitives that remain, are all
abbrev pub invariant-loop-i : goal.invariant-loop-i
invariant-loop-i l = (done : List Figure)
    × (plain_pieces l.pieces.items ≡ made (origin_place l.layer l.origin) l.origin.command done)
    × (figures_of (body_of l.body) l.parameters l.unit l.to ≡ ahead done (figures_of (body_of (drop l.i l.body)) l.parameters l.unit l.to))
