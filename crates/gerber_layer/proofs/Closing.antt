-- What closing a contour comes to.
use Rattle.std.proofs.Common.{◌≡◌, ℕ, ◌+◌, List, ◌++◌, Option, Some, None, Result, Ok, Err, refl, sym, ap, ◌∙◌, subst}
use Rattle.std.specs.Prelude.{OnOk, IfErr}
use Rattle.planar.specs.declared.Spot.{Spot}
use Rattle.board_shapes.specs.Figures.{Figure, filled}
use Rattle.board_shapes.specs.Pieces.{plain_pieces}
use Rattle.file_reading.specs.declared.halt.Halt.{Halt}
use Rattle.gerber_reading.specs.declared.kind.GerberKind.{GerberKind}
use Rattle.gerber_layer.specs.CommandEffects.{Place, Known, area_if, closing, contour_closed, listed}
use Rattle.gerber_reading.specs.CommandEffects.{room_for}
use Rattle.gerber_layer.specs.Image.{made}
use Rattle.gerber_layer.specs.Reader.{Places, Closes, Reader, Stops, contour_of, known_of, place_of}

-- a contour that closes
pub closing_is : (k : Known) (points : Option (List Spot)) → contour_closed k.contour ≡ Ok points → closing k ≡ room_for k (area_if points)
unfolding closing
closing_is k points h = rw h refl

-- no contour, or one without an edge
pub closing_none : (k : Known) → contour_closed k.contour ≡ Ok None → closing k ≡ Ok None
unfolding room_for
closing_none k h = closing_is k None h

pub no_contour : (k : Known) → k.contour ≡ None → contour_closed k.contour ≡ Ok None
no_contour k h = rw h refl

-- the room rests on the pieces and the place alone
pub same_room : (k j : Known) (figure : Option Figure) → k.place ≡ j.place → k.pieces ≡ j.pieces → room_for k figure ≡ room_for j figure
unfolding room_for
same_room k j None p q = refl
same_room k j (Some figure) p q = rw (p, q) refl

-- the reader without its contour takes the area on
pub closes_after : {E : Type 0} (result : Result (Unit {0}) E) (old bare new : Reader) (points : List Spot) → bare.settings ≡ old.settings → bare.dictionary ≡ old.dictionary → contour_of bare.contour ≡ None → bare.pieces ≡ old.pieces → bare.commands ≡ old.commands → place_of bare ≡ place_of old → bare.start ≡ old.start → contour_closed (contour_of old.contour) ≡ Ok (Some points) → OnOk result (Places bare (Some (filled points)) new) → OnOk result (room_for (known_of bare) (Some (filled points)) ≡ Ok (Some (filled points))) → OnOk result (Closes old new)
closes_after (Err e) old bare new points a b c d e' f g h p r = tt
closes_after (Ok done) old bare new points a b c d e f g h p r = record {
  area = Some (filled points);
  is = closing_is (known_of old) (Some points) h ∙ same_room (known_of old) (known_of bare) (Some (filled points)) (sym f) (ap (λ v. plain_pieces v.items) (sym d)) ∙ r;
  settings = p.settings ∙ a;
  dictionary = p.dictionary ∙ b;
  contour = ap contour_of p.contour ∙ c;
  pieces =
      p.pieces
      ∙ ap (λ v. plain_pieces v.items ++ made (place_of bare) (bare.commands + 1) (listed (Some (filled points)))) d
      ∙ ap (λ (t : Place). plain_pieces old.pieces.items ++ made t (bare.commands + 1) (listed (Some (filled points)))) f
      ∙ ap (λ (n : ℕ). plain_pieces old.pieces.items ++ made (place_of old) (n + 1) (listed (Some (filled points)))) e;
  start = p.start ∙ g;
  counts = p.counts ∙ e;
  place = p.place ∙ f;
}

pub stops_after : {E : Type 0} (result : Result E (Halt GerberKind)) (old bare : Reader) (points : List Spot) → bare.pieces ≡ old.pieces → place_of bare ≡ place_of old → contour_closed (contour_of old.contour) ≡ Ok (Some points) → IfErr result (Stops (room_for (known_of bare) (Some (filled points)))) → IfErr result (Stops (closing (known_of old)))
stops_after result old bare points d f h s =
    let same : closing (known_of old) ≡ room_for (known_of bare) (Some (filled points)) = closing_is (known_of old) (Some points) h ∙ same_room (known_of old) (known_of bare) (Some (filled points)) (sym f) (ap (λ v. plain_pieces v.items) (sym d)) in
    subst (λ (r : Result (Option Figure) _). IfErr result (Stops r)) (sym same) s
