-- Why pieces are no bounds of a layer.
use Rattle.std.specs.Prelude.{List, All}
use Rattle.planar.specs.declared.Frame.{Frame}
use Rattle.board_shapes.specs.declared.shape.Shape.{Shape}
use Rattle.clear_polarity.specs.Taken.{AreHeld, IsLeft}
use Rattle.clear_polarity.specs.declared.LayerObject.{LayerObject}
use Rattle.clear_polarity.specs.declared.LowerPiece.{LowerPiece}
use Rattle.clear_polarity.specs.declared.check.LayerFault.{LayerFault}
use Rattle.clear_polarity.specs.declared.check.LayerFault.TheVariants.{Lower, Upper}

-- some piece below is not taken; all are, and the figures above are not
abbrev pub IsLayerFault : Frame → List LayerObject → List LowerPiece → List Shape → LayerFault → Type 0
IsLayerFault frame objects lower upper Lower = ¬ All (IsLeft frame objects) lower
IsLayerFault frame objects lower upper Upper = All (IsLeft frame objects) lower × ¬ AreHeld objects upper
