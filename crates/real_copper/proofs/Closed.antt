-- What closing a contour, and ending a block, come to.
use Rattle.std.proofs.Common.{◌≡◌, ℕ, ◌+◌, true, false, List, length, ◌++◌, Option, Some, None, Ok, Err, refl, sym, ap, subst, ◌∙◌}
use Rattle.std.specs.Prelude.{nat_le, nat_lt}
use Rattle.std.proofs.lemmas.List.{length-map}
use Rattle.planar.specs.Plane.{same_spot}
use Rattle.planar.specs.declared.Spot.{Spot}
use Rattle.area_contact.specs.declared.TheConstants.{MOST_CONTOUR_EDGES}
use Rattle.file_reading.specs.declared.halt.Halt.{Halt}
use Rattle.file_reading.specs.declared.halt.Halt.TheVariants as halt
use Rattle.gerber_reading.specs.Command.{Bending}
use Rattle.gerber_reading.specs.CommandEffects.{closes, concludes, edges_in, ended_block_by, exceed, extend_by, extends, leaves, listed, next_block, steps}
use Rattle.gerber_reading.specs.Image.{made}
use Rattle.gerber_reading.specs.Reader.{AllFit, AllKeep, EndsBlock, Lengthens, Places, Stops, contour_of, place_of}
use Rattle.gerber_reading.specs.declared.command.Code.TheVariants.{Move}
use Rattle.gerber_reading.specs.declared.dictionary.Dictionary.{Dictionary}
use Rattle.gerber_reading.specs.declared.kind.GerberKind.{GerberKind}
use Rattle.gerber_reading.specs.declared.place.Place.{Place}
use Rattle.regions.specs.Contours.{Outline}
use Rattle.step_repeat.specs.Copies.{pieces_by}
use Rattle.step_repeat.specs.declared.repeat.Repeat.{Repeat}
use Rattle.real_copper.specs.Arcs.{as_real, no_arc}
use Rattle.real_copper.specs.Contours.{area_of, end_of, is_too_short}
use Rattle.real_copper.specs.Draws.{IsNearBend}
use Rattle.real_copper.specs.Figures.{RealFigure, real_handling}
use Rattle.real_copper.specs.RealReader.{Closes, HasObeyed, IsCounted, IsLawful, IsRight, Seen, halt_of, known, plain}
use Rattle.real_copper.specs.Rows.{RealKnown, closing, end, extend, is_full, leave, perform_in_region, repeat}
use Rattle.real_copper.specs.Table.{fits}
use Rattle.real_copper.specs.declared.aperture.RealAperture.{RealAperture}
use Rattle.real_copper.specs.declared.draw.Bend.{Bend}
use Rattle.real_copper.specs.declared.kind.RealKind.{RealKind}
use Rattle.real_copper.proofs.Edges.{bends_longer}

-- ---- Contours

pub closing_is : (k : RealKnown) (o : Outline (Option Bend)) → k.contour ≡ Some o → same_spot (end_of o.first o.legs) o.first ≡ true → is_too_short o ≡ false → is_full k ≡ false → closing k ≡ Ok (Some (area_of o))
unfolding closing
closing_is k o h a b f = rw (h, a, b, f) refl

-- the reader without its contour takes the area on
pub closes_area : (old bare new : Seen) (area : RealFigure) → bare.settings ≡ old.settings → bare.dictionary ≡ old.dictionary → contour_of bare.contour ≡ None → bare.pieces ≡ old.pieces → bare.commands ≡ old.commands → place_of bare ≡ place_of old → bare.start ≡ old.start → closing (known old) ≡ Ok (Some area) → Places plain bare (Some area) new → Closes old new
closes_area old bare new area a b c d e f g is p = record {
  area = Some area;
  is = is;
  settings = p.settings ∙ a;
  dictionary = p.dictionary ∙ b;
  contour = ap contour_of p.contour ∙ c;
  pieces =
      p.pieces
      ∙ ap (λ v. pieces_by plain v.items ++ made (place_of bare) (bare.commands + 1) (listed (Some area))) d
      ∙ ap (λ (t : Place). pieces_by plain old.pieces.items ++ made t (bare.commands + 1) (listed (Some area))) f
      ∙ ap (λ (n : ℕ). pieces_by plain old.pieces.items ++ made (place_of old) (n + 1) (listed (Some area))) e;
  start = p.start ∙ g;
  counts = p.counts ∙ e;
  place = p.place ∙ f;
}

-- a contour that is closed, and none that is open, is right
pub closed_right : (old new : Seen) → IsLawful old → Closes old new → IsCounted new → IsRight new
closed_right old new h c counted = record {
  fit = subst (λ (d : Dictionary RealAperture). AllFit fits d) (sym c.dictionary) h.fit;
  bends = subst (AllKeep IsNearBend) (sym c.contour) tt;
  counted = counted;
}

begin_is : (k : RealKnown) (b : Bending) (to : Spot) (area : Option RealFigure) → closing k ≡ Ok area → no_arc b ≡ Ok None → perform_in_region k Move b to ≡ Ok (closes to area)
unfolding perform_in_region
begin_is k b to area h n = rw (h, n) refl

pub has_begun : (old new : Seen) (b : Bending) (to : Spot) → Closes old new → no_arc b ≡ Ok None → HasObeyed old (perform_in_region (known old) Move b to) (Some to) None new
has_begun old new b to c n = record {
  effect_is = closes to c.area;
  is = begin_is (known old) b to c.area c.is n;
  carries = record { settings = c.settings; dictionary = c.dictionary; contour = c.contour; pieces = c.pieces; start = c.start; counts = c.counts; place = c.place };
  to_is = refl;
  next_is = refl;
}

pub begin_stops : (k : RealKnown) (b : Bending) (to : Spot) (why : Halt RealKind) → Stops (closing k) why → Stops (perform_in_region k Move b to) why
unfolding perform_in_region
begin_stops k b to (halt.Fault why) h = rw h refl
begin_stops k b to halt.NoMemory h = tt

offsets_stop : (k : RealKnown) (b : Bending) (to : Spot) (area : Option RealFigure) → closing k ≡ Ok area → (why : Halt RealKind) → Stops (no_arc b) why → Stops (perform_in_region k Move b to) why
unfolding perform_in_region
offsets_stop k b to area h (halt.Fault why) n = rw (h, n) refl
offsets_stop k b to area h halt.NoMemory n = tt

pub begin_stops_behind : (old new : Seen) (b : Bending) (to : Spot) → Closes old new → (why : Halt RealKind) → Stops (no_arc b) why → Stops (perform_in_region (known old) Move b to) why
begin_stops_behind old new b to c why n = offsets_stop (known old) b to c.area c.is why n

leave_is : (k : RealKnown) (area : Option RealFigure) → k.settings.region ≡ true → closing k ≡ Ok area → leave k ≡ Ok (leaves area)
unfolding leave
leave_is k area r h = rw (h, r) refl

pub has_left : (old new : Seen) → old.settings.region ≡ true → Closes old new → HasObeyed old (leave (known old)) None None new
has_left old new r c = record {
  effect_is = leaves c.area;
  is = leave_is (known old) c.area r c.is;
  carries = record { settings = c.settings; dictionary = c.dictionary; contour = c.contour; pieces = c.pieces; start = c.start; counts = c.counts; place = c.place };
  to_is = refl;
  next_is = refl;
}

pub leave_stops : (k : RealKnown) → k.settings.region ≡ true → (why : Halt RealKind) → Stops (closing k) why → Stops (leave k) why
unfolding leave
leave_stops k r (halt.Fault why) h = rw (h, r) refl
leave_stops k r halt.NoMemory h = tt

-- ---- Edges

pub room_for_edge : (k : RealKnown) (to : Spot) (bend : Option Bend) → nat_le MOST_CONTOUR_EDGES (edges_in k.contour) ≡ false → exceed real_handling k (edges_in k.contour + 1) ≡ false → extend_by real_handling k to bend ≡ Ok (extends to bend)
unfolding extend_by
room_for_edge k to bend a b = rw (a, b) refl

-- what stops a reader that has room for an edge is no fault
pub extend_stops : (k : RealKnown) (b : Bending) (to : Spot) (bend : Option Bend) → extend_by real_handling k to bend ≡ Ok (extends to bend) → (why : Halt GerberKind) → Stops (extend_by real_handling k to bend) why → Stops (extend k b to) (halt_of why)
extend_stops k b to bend room (halt.Fault why) h = absurd (let e : Ok (extends to bend) ≡ Err why = sym room ∙ h in cc)
extend_stops k b to bend room halt.NoMemory h = tt

pub longer_right : (old new : Seen) (to : Spot) (bend : Option Bend) → IsLawful old → Lengthens old to bend new → IsNearBend bend → IsCounted new → IsRight new
longer_right old new to bend h l near counted = record {
  fit = subst (λ (d : Dictionary RealAperture). AllFit fits d) (sym l.dictionary) h.fit;
  bends = subst (AllKeep IsNearBend) (sym l.contour) (bends_longer (contour_of old.contour) old.settings.at to bend h.bends near);
  counted = counted;
}

-- ---- Blocks

end_is : (k : RealKnown) (pieces : List _) → k.settings.region ≡ false → ended_block_by real_handling k ≡ Ok pieces → end k ≡ Ok (concludes pieces)
unfolding end
end_is k pieces r h = rw (h, r) refl

pub has_ended : (old new : Seen) → old.settings.region ≡ false → EndsBlock plain real_handling old new → HasObeyed old (end (known old)) None None new
has_ended old new r b = record {
  effect_is = concludes (pieces_by plain new.pieces.items);
  is = end_is (known old) (pieces_by plain new.pieces.items) r b.is;
  carries = record { settings = b.settings; dictionary = b.dictionary; contour = ap contour_of b.contour; pieces = refl; start = b.start; counts = b.counts; place = b.place };
  to_is = refl;
  next_is = refl;
}

pub end_stops : (k : RealKnown) → k.settings.region ≡ false → (why : Halt RealKind) → Stops (as_real (ended_block_by real_handling k)) why → Stops (end k) why
unfolding end
end_stops k r (halt.Fault why) h = rw (h, r) refl
end_stops k r halt.NoMemory h = tt

repeat_is : (k : RealKnown) (text : List ℕ) (next : Option Repeat) (pieces : List _) → k.settings.region ≡ false → Ok next ≡ next_block k.settings.unit text → ended_block_by real_handling k ≡ Ok pieces → repeat k text ≡ Ok (steps next pieces)
unfolding repeat
repeat_is k text next pieces r n h = rw (← n, h, r) refl

pub has_repeated : (old mid new : Seen) (text : List ℕ) (next : Option Repeat) → old.settings.region ≡ false → Ok next ≡ next_block old.settings.unit text → EndsBlock plain real_handling old mid → new.settings ≡ mid.settings → new.dictionary ≡ mid.dictionary → new.contour ≡ mid.contour → new.pieces ≡ mid.pieces → new.commands ≡ mid.commands → place_of new ≡ place_of mid → new.start ≡ length mid.pieces.items → HasObeyed old (repeat (known old) text) None next new
has_repeated old mid new text next r n b s d c p k q start = record {
  effect_is = steps next (pieces_by plain mid.pieces.items);
  is = repeat_is (known old) text next (pieces_by plain mid.pieces.items) r n b.is;
  carries = record {
    settings = s ∙ b.settings;
    dictionary = d ∙ b.dictionary;
    contour = ap contour_of (c ∙ b.contour);
    pieces = ap (λ v. pieces_by plain v.items) p;
    start = start ∙ sym (length-map mid.pieces.items _);
    counts = k ∙ b.counts;
    place = q ∙ b.place;
  };
  to_is = refl;
  next_is = refl;
}

pub repeat_stops : (k : RealKnown) (text : List ℕ) (next : Option Repeat) → k.settings.region ≡ false → Ok next ≡ next_block k.settings.unit text → (why : Halt RealKind) → Stops (as_real (ended_block_by real_handling k)) why → Stops (repeat k text) why
unfolding repeat
repeat_stops k text next r n (halt.Fault why) h = rw (← n, h, r) refl
repeat_stops k text next r n halt.NoMemory h = tt
