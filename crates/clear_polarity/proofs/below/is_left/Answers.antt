use Rattle.std.proofs.Common.{◌≡◌, ◌↔◌, ◌∙◌, IsTrue, All, List, Some, length, slice_get, ap, refl, subst, sym}
use Rattle.std.proofs.lemmas.Option.{slice_get_read}
use Rattle.board_shapes.specs.Figures.{figure_of}
use Rattle.board_shapes.specs.declared.shape.Shape.{Shape}
use Rattle.clear_polarity.specs.Taken.{Spares}
use Rattle.clear_polarity.specs.declared.LayerObject.{LayerObject}
use Rattle.clear_polarity.proofs.Lefts.{told_left}
use Rattle.clear_polarity.proofs.below.is_left.Goals as goal

pub returns : goal.returns
returns c =
    let object_is : slice_get c.args.objects.now c.args.piece.now.object ≡ Some c.in-Some.object.now = slice_get_read c.args.objects.now (length c.args.objects.now) c.args.piece.now.object c.in-Some.object.now refl c.in-Some.ensures.lookup.3.0 c.in-Some.ensures.lookup.1 in
    let figure_is : slice_get c.in-Some.object.now.inner.items c.args.piece.now.figure ≡ Some c.in-Some-get.figure.now =
    ap (λ (xs : List Shape). slice_get xs c.args.piece.now.figure) (sym c.deref.ensures.value) ∙ slice_get_read c.deref.result.now (length c.deref.result.now) c.args.piece.now.figure c.in-Some-get.figure.now refl c.in-Some-get.ensures.lookup.3.0 c.in-Some-get.ensures.lookup.1 in
    told_left c.args.frame c.args.objects.now c.args.piece.now c.in-Some.object.now c.in-Some-get.figure.now object_is figure_is c.all_spare.result (c.is_dark.ensures.0 c.if-not-is_dark.false) (c.lies_in.ensures.0 c.if-not-lies_in.false)
    (subst (λ (xs : List LayerObject). IsTrue c.all_spare.result ↔ All (Spares c.args.frame (figure_of c.args.piece.now.shape)) xs) c.after.ensures c.all_spare.ensures)
