use Rattle.std.proofs.Common.{◌≡◌, None, Some, refl, sym, ap, ◌∙◌, append-nil}
use Rattle.regions.specs.Contours.{outline_of}
use Rattle.gerber_layer.specs.CommandEffects.{contour_closed}
use Rattle.gerber_layer.specs.Reader.{contour_of, known_of}
use Rattle.gerber_layer.proofs.Closing.{closing_none, no_contour, closes_after, stops_after}
use Rattle.gerber_layer.proofs.reader.close.Goals as goal

pub returns-in_default-clause-ok : goal.returns-in_default-clause-ok
returns-in_default-clause-ok c =
    let bare : contour_of c.args.reader.now.contour ≡ None = ap contour_of (sym c.take.ensures.value ∙ c.in_default.is) in
    record {
      area = None;
      is = closing_none (known_of c.args.reader.now) (no_contour (known_of c.args.reader.now) bare);
      settings = refl;
      dictionary = refl;
      contour = ap contour_of c.take.ensures.after;
      pieces = sym (append-nil _);
      start = refl;
      counts = refl;
      place = refl;
    }

pub returns-in-Ok-None-clause-ok : goal.returns-in-Ok-None-clause-ok
returns-in-Ok-None-clause-ok c =
    let had : contour_of c.args.reader.now.contour ≡ Some (outline_of c.in-Some.contour) = ap contour_of (sym c.take.ensures.value ∙ c.in-Some.is) in
    let closed = rw c.in-Ok-None.field-0-is at c.in-Ok-None.ensures in
    record {
      area = None;
      is = closing_none (known_of c.args.reader.now) (ap contour_closed had ∙ sym closed);
      settings = refl;
      dictionary = refl;
      contour = ap contour_of c.take.ensures.after;
      pieces = sym (append-nil _);
      start = refl;
      counts = refl;
      place = refl;
    }

pub returns-in-Ok-Some-clause-ok : goal.returns-in-Ok-Some-clause-ok
returns-in-Ok-Some-clause-ok c =
    let had : contour_of c.args.reader.now.contour ≡ Some (outline_of c.in-Some.contour) = ap contour_of (sym c.take.ensures.value ∙ c.in-Some.is) in
    let closed = rw c.in-Ok-Some.field-0-is at c.in-Ok-Some.ensures in
    closes_after c.add_piece_in_room.result c.args.reader.now _ c.add_piece_in_room.new.self c.in-Ok-Some.area.points.items refl refl (ap contour_of c.take.ensures.after) refl refl refl refl (ap contour_closed had ∙ sym closed) c.add_piece_in_room.ensures.ok c.add_piece_in_room.ensures.room

pub returns-in-Ok-Some-clause-halt : goal.returns-in-Ok-Some-clause-halt
returns-in-Ok-Some-clause-halt c =
    let had : contour_of c.args.reader.now.contour ≡ Some (outline_of c.in-Some.contour) = ap contour_of (sym c.take.ensures.value ∙ c.in-Some.is) in
    let closed = rw c.in-Ok-Some.field-0-is at c.in-Ok-Some.ensures in
    stops_after c.add_piece_in_room.result c.args.reader.now (record (c.args.reader.now) { contour = c.take.new.self }) c.in-Ok-Some.area.points.items refl refl (ap contour_closed had ∙ sym closed) c.add_piece_in_room.ensures.halt
