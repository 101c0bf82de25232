use Rattle.std.proofs.Common.{◌≡◌, ◌∙◌, true, false, Some, Ok, ap, refl, sym}
use Rattle.std.specs.Prelude.{nat_le}
use Rattle.std.proofs.lemmas.List.{length-map}
use Rattle.planar.specs.Plane.{same_spot}
use Rattle.regions.specs.Contours.{outline_of}
use Rattle.gerber_reading.specs.Reader.{contour_of}
use Rattle.real_copper.specs.Contours.{end_of, is_too_short}
use Rattle.real_copper.specs.RealReader.{known, plain}
use Rattle.real_copper.specs.Rows.{is_full}
use Rattle.real_copper.proofs.Closed.{closes_area, closing_is}
use Rattle.real_copper.proofs.closing.close.Goals as goal

pub returns-in-Ok-add_piece-clause-ok : goal.returns-in-Ok-add_piece-clause-ok
returns-in-Ok-add_piece-clause-ok c =
    let had : contour_of c.args.reader.now.contour ≡ Some (outline_of c.in-Some.contour) = ap contour_of (sym c.take.ensures.value ∙ c.in-Some.is) in
    let same : same_spot (end_of c.in-Some.contour.first (outline_of c.in-Some.contour).legs) c.in-Some.contour.first ≡ true = rw c.end_of.ensures at (sym c.is_same.ensures.value ∙ c.if-not-is_same.false) in
    let enough : is_too_short (outline_of c.in-Some.contour) ≡ false = sym c.is_too_short.ensures ∙ c.if-is_too_short.false in
    let room : is_full (known c.args.reader.now) ≡ false = ap (nat_le c.args.reader.now.room.pieces) (length-map c.args.reader.now.pieces.items _) ∙ (sym c.is_full.ensures ∙ c.if-is_full.false) in
    closes_area c.args.reader.now _ c.add_piece.new.self (plain c.in-Ok.area) refl refl (ap contour_of c.take.ensures.after) refl refl refl refl (closing_is (known c.args.reader.now) (outline_of c.in-Some.contour) had same enough room ∙ ap (λ (f : _). Ok (Some f)) (sym c.in-Ok.ensures)) c.in-Ok-add_piece.ensures.ok
