-- What every board keeps, said of its plain view.
use Rattle.std.specs.Prelude.{◌<◌, ◌^◌, All, length}
use Rattle.contact.specs.Solid.{IsInside}
use Rattle.board_shapes.specs.Figures.{IsLawfulFigure, figure_box}
use Rattle.board_shapes.specs.Lawful.{IsSpan, IsProbe}
use Rattle.board_shapes.specs.Plain.{PlainBoard, frame_of}

-- fewer than 2^32 pieces, probes and names; lawful figures with boxes inside the board's frame, on spans of its layers;
-- probes with its names and layers
pub record IsLawfulBoard (b : PlainBoard) : Type 0 where
  pub few_pieces : length b.pieces < 2 ^ 32
  pub few_probes : length b.probes < 2 ^ 32
  pub few_names : length b.names < 2 ^ 32
  pub figures : All (λ p. IsLawfulFigure p.figure) b.pieces
  pub inside : All (λ p. IsInside (figure_box p.figure) (frame_of b)) b.pieces
  pub spans : All (λ p. IsSpan b.layers p.top p.bottom) b.pieces
  pub known : All (IsProbe (length b.names) b.layers) b.probes
