-- Whether a piece is left.
use Rattle.std.proofs.Common.{◌≡◌, ◌↔◌, ◌+◌, Bool, false, IsTrue, All, List, Some, drop, slice_get, sym, subst, ◌∙◌}
use Rattle.std.proofs.lemmas.Option.{same_Some}
use Rattle.planar.specs.declared.Frame.{Frame}
use Rattle.board_shapes.specs.Figures.{figure_of}
use Rattle.board_shapes.specs.declared.shape.Shape.{Shape}
use Rattle.clear_polarity.specs.Taken.{IsLeft, LiesIn, Spares}
use Rattle.clear_polarity.specs.declared.LayerObject.{LayerObject}
use Rattle.clear_polarity.specs.declared.LowerPiece.{LowerPiece}
use Rattle.clear_polarity.specs.declared.Polarity.TheVariants.{Dark}

module _ (frame : Frame) (objects : List LayerObject) (piece : LowerPiece) (object : LayerObject) (figure : Shape) (object_is : slice_get objects piece.object ≡ Some object) (figure_is : slice_get object.inner.items piece.figure ≡ Some figure) where
  same_object : (l : IsLeft frame objects piece) → l.object ≡ object
  same_object l = same_Some l.object object (sym l.object_is ∙ object_is)

  same_figure : (l : IsLeft frame objects piece) → l.figure ≡ figure
  same_figure l = same_Some l.figure figure (sym (subst (λ (o : LayerObject). slice_get o.inner.items piece.figure ≡ Some l.figure) (same_object l) l.figure_is) ∙ figure_is)

  pub not_dark : (d : Bool) → d ≡ false → IsTrue d ↔ (object.polarity ≡ Dark) → IsLeft frame objects piece → ⊥
  not_dark d off told l = let yes = told.1 (subst (λ (o : LayerObject). o.polarity ≡ Dark) (same_object l) l.dark) in cc

  pub not_in : (d : Bool) → d ≡ false → IsTrue d ↔ LiesIn frame (figure_of piece.shape) (figure_of figure) → IsLeft frame objects piece → ⊥
  not_in d off told l = let yes = told.1 (subst (λ (s : Shape). LiesIn frame (figure_of piece.shape) (figure_of s)) (same_figure l) l.lies) in cc

  pub told_left : (r : Bool) → object.polarity ≡ Dark → LiesIn frame (figure_of piece.shape) (figure_of figure) → IsTrue r ↔ All (Spares frame (figure_of piece.shape)) (drop (piece.object + 1) objects) → IsTrue r ↔ IsLeft frame objects piece
  told_left r dark lies told = (
    λ yes. record { object = object; figure = figure; object_is = object_is; figure_is = figure_is; dark = dark; lies = lies; spared = told.0 yes },
    λ l. told.1 l.spared,
  )
