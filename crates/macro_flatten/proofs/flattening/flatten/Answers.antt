use Rattle.std.proofs.Common.{subst, ℕ, List, sym, ◌≤◌, length}
use Rattle.board_shapes.specs.Pieces.{PlainPiece, plain_pieces}
use Rattle.gerber_layer.specs.MacroLayer.{IsReadWithMacros}
use Rattle.macro_flatten.specs.FlatText.{figures_in}
use Rattle.macro_flatten.specs.Laws.{IsFlat, ReadsAs, flat_room}
use Rattle.macro_flatten.proofs.flattening.flatten.Goals as goal
use Rattle.texts.specs.declared.TheConstants.{MOST_BYTES}

pub returns-in-Ok-clause-reads : goal.returns-in-Ok-clause-reads
returns-in-Ok-clause-reads c =
    let pieces : List PlainPiece = plain_pieces c.deref.result.now in
    let image : IsReadWithMacros c.args.file.now pieces = rw c.deref.ensures.value c.in_ok-pieces.ensures.ok in
    let flat : IsFlat (figures_in pieces) = c.macro_images_are_flat.ensures c.args.file.now pieces image in
    record {
      pieces = pieces;
      image = image;
      reads = λ layer number low high. subst (λ (text : List ℕ). ReadsAs text (record { layer = layer; file = number; room = flat_room }) (figures_in pieces)) (sym c.in-Ok.ensures.text) (c.flat_text_reads.ensures (figures_in pieces) layer number low high flat);
    }

pub returns-in-Ok-clause-short : goal.returns-in-Ok-clause-short
returns-in-Ok-clause-short c =
    let pieces : List PlainPiece = plain_pieces c.deref.result.now in
    let image : IsReadWithMacros c.args.file.now pieces = rw c.deref.ensures.value c.in_ok-pieces.ensures.ok in
    let flat : IsFlat (figures_in pieces) = c.macro_images_are_flat.ensures c.args.file.now pieces image in
    subst (λ (text : List ℕ). length text ≤ MOST_BYTES) (sym c.in-Ok.ensures.text) (c.flat_texts_are_short.ensures (figures_in pieces) flat)
