-- What an arm of a match on two shapes decides.
use Rattle.std.proofs.Common.{Bool, IsTrue, ◌≡◌, ◌↔◌}
use Rattle.contact.specs.Solid.{SharePoint}
use Rattle.board_shapes.specs.declared.shape.Shape.{Shape}
use Rattle.board_shapes.specs.Shapes.{InShape}

pub arm : (s t s' t' : Shape) (r : Bool) → s ≡ s' → t ≡ t' → IsTrue r ↔ SharePoint (InShape s') (InShape t') → IsTrue r ↔ SharePoint (InShape s) (InShape t)
arm s t s' t' r e f h = rw (e, f) h
