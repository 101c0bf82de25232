-- A flattened text is read as its figures.
use Rattle.std.proofs.Common.{◌≡◌, ℕ, ◌+◌, ◌<◌, ◌≤◌, true, false, nat_eq, List, [], ◌∷◌, ◌++◌, length, map, reverse, pos, Option, Some, None, refl, sym, ap, ◌∙◌, subst, arith, append_assoc, append-nil, length-append}
use Rattle.std.proofs.lemmas.List.{reverse-append}
use Rattle.std.proofs.lemmas.List.Elements.{recursion_from_All}
use Rattle.std.proofs.lemmas.List.Sums.{sum_by-cons, sum_by_push}
use Rattle.std.specs.List.{list_any, position_or_len, flat_map, AllByRecursion}
use Rattle.std.specs.Prelude.{All, sum_by, codes}
use Rattle.planar.specs.Plane.{IsPlaced}
use Rattle.planar.specs.declared.Spot.{Spot}
use Rattle.board_shapes.specs.Figures.{Figure, round, filled, figure_edges}
use Rattle.lengths.specs.declared.decimal.Unit.TheVariants.{Mm}
use Rattle.apertures.specs.declared.aperture.Aperture.TheVariants.{Circle}
use Rattle.gerber_words.specs.Words.{ended}
use Rattle.gerber_reading.specs.Command.{Command, formats, counts_in, ends, finishes}
use Rattle.gerber_layer.specs.WordCommands.{command_of}
use Rattle.gerber_layer.specs.Tools.{standard}
use Rattle.gerber_layer.specs.CommandEffects.{stays, concludes}
use Rattle.gerber_reading.specs.declared.place.Place.{Place}
use Rattle.gerber_reading.specs.Settings.{has_ended}
use Rattle.gerber_layer.specs.Image.{effect_before, known_before, pieces_of}
use Rattle.file_reading.specs.Reading.{Clean, Item, said}
use Rattle.gerber_words.specs.Items.{items_with, word_item}
use Rattle.gerber_layer.specs.Layer.{HasOneAnswer, IsRead, stop_command}
use Rattle.macro_flatten.specs.FlatText.{Line, word, extended, spelled, pen_of, pens_of, number_of, circles, figure_lines, selected_after, figures_lines, head_lines, lines_with}
use Rattle.macro_flatten.specs.Laws.{IsDrawn, ReadsAs, flat_room, FlatTextReads}
use Rattle.macro_flatten.proofs.Cut.{AreWords, entries_of, lines_words}
use Rattle.macro_flatten.proofs.Operations.{seven, reads_end}
use Rattle.macro_flatten.proofs.Definitions.{reads_format, reads_unit}
use Rattle.macro_flatten.proofs.Effects.{ends_all, finishes_all}
use Rattle.macro_flatten.proofs.History.{told, behind, behind-append, as_read, figure_in, is_set, clean_then, pieces_then}
use Rattle.macro_flatten.proofs.Drawing.{Drawing, stroke-then}
use Rattle.macro_flatten.proofs.Bounding.{area-then}
use Rattle.macro_flatten.proofs.PenPlaces.{IsPen, HasPen, found, have_pens, small_after}
use Rattle.macro_flatten.proofs.Heading.{begun, Circled, circled}
use Rattle.macro_flatten.proofs.LineWords.{IsTold, all_words}
use Rattle.gerber_reading.specs.declared.TheConstants.{MOST_APERTURES}

-- ---- The figures

-- the text has ended, without a fault, and these are its figures
record Ended (p : Place) (figures : List Figure) (h : List Command) : Type 0 where
  clean : Clean (effect_before p) h
  over : has_ended h ≡ true
  are : map figure_in (pieces_of p h) ≡ figures

ended-end : (p : Place) (pens : List ℕ) (last : Option ℕ) (figures : List Figure) (h : List Command) → Drawing p pens last figures h → Ended p figures (ends ∷ h)
ended-end p pens last figures h d =
    let e = ends_all (known_before p h) (is_set p h d.stands) d.outside in
    record {
      clean = clean_then p h ends (concludes (pieces_of p h)) d.stands.clean e;
      over = refl;
      are = ap (map figure_in) (pieces_then p h ends (concludes (pieces_of p h)) e) ∙ d.are;
    }

ended-finish : (p : Place) (figures : List Figure) (h : List Command) → Ended p figures h → Ended p figures (finishes ∷ h)
ended-finish p figures h d =
    let e = finishes_all (known_before p h) d.over in
    record {
      clean = clean_then p h finishes stays d.clean e;
      over = d.over;
      are = ap (map figure_in) (pieces_then p h finishes stays e) ∙ d.are;
    }

-- a figure that can be drawn, and its pen has an aperture
placed_all : (points : List Spot) → All IsPlaced points → AllByRecursion IsPlaced points
placed_all points h = recursion_from_All IsPlaced points h

number_fits : (pens : List ℕ) (r : ℕ) → length pens ≤ MOST_APERTURES → list_any (nat_eq r) pens ≡ true → number_of pens r ≤ 70_000
number_fits pens r few h = let w = (found r pens h).within in omega (arith, w, few)

figure_then : (p : Place) (pens : List ℕ) (last : Option ℕ) (figures : List Figure) (h : List Command) (f : Figure) → IsDrawn f → HasPen pens f → length pens ≤ MOST_APERTURES → length figures < p.room.pieces → sum_by figure_edges figures + figure_edges f ≤ p.room.edges → Drawing p pens last figures h → Drawing p pens (selected_after pens last f) (figures ++ f ∷ []) (behind h (figure_lines pens last f))
figure_then p pens last figures h (round s) drawn known few room edges d = stroke-then p pens last figures h s drawn.0 drawn.1 drawn.2 known (number_fits pens (pen_of s) few known) room d
figure_then p pens last figures h (filled points) drawn known few room edges d = area-then p pens last figures h points drawn (placed_all points drawn.placed) room edges d

figures_then : (p : Place) (pens : List ℕ) (last : Option ℕ) (done : List Figure) (h : List Command) (figures : List Figure) → AllByRecursion IsDrawn figures → AllByRecursion (HasPen pens) figures → length pens ≤ MOST_APERTURES → length done + length figures ≤ p.room.pieces → sum_by figure_edges done + sum_by figure_edges figures ≤ p.room.edges → Drawing p pens last done h → Ended p (done ++ figures) (behind h (figures_lines pens last figures))
figures_then p pens last done h [] drawn known few room edges d = subst (λ (fs : List Figure). Ended p fs (told (word (codes "M02")) ∷ h)) (sym (append-nil done)) (as_read (Ended p done) h (word (codes "M02")) ends reads_end (ended-end p pens last done h d))
figures_then p pens last done h (f ∷ figures) drawn known few room edges d =
    let first : sum_by figure_edges (f ∷ figures) ≡ figure_edges f + sum_by figure_edges figures = sum_by-cons figure_edges f figures in
    let pushed : sum_by figure_edges (done ++ f ∷ []) ≡ sum_by figure_edges done + figure_edges f = sum_by_push figure_edges done f in
    let long : length (done ++ f ∷ []) ≡ length done + 1 = length-append done (f ∷ []) in
    let more = figure_then p pens last done h f drawn.0 known.0 few (omega (arith, room)) (omega (arith, edges, first)) d in
    let all = figures_then p pens (selected_after pens last f) (done ++ f ∷ []) (behind h (figure_lines pens last f)) figures drawn.1 known.1 few (omega (arith, room, long)) (omega (arith, edges, first, pushed)) more in
    subst (Ended p (done ++ f ∷ figures)) (sym (behind-append h (figure_lines pens last f) (figures_lines pens (selected_after pens last f) figures))) (subst (λ (fs : List Figure). Ended p fs (behind (behind h (figure_lines pens last f)) (figures_lines pens (selected_after pens last f) figures))) (append_assoc done (f ∷ []) figures) all)

-- ---- The whole text

-- each pen has its aperture behind the head
headed : (p : Place) (pens : List ℕ) (h : List Command) → Circled p 10 pens (counts_in Mm ∷ formats seven ∷ []) h → Drawing p pens None [] h
headed p pens h c = record {
  stands = c.head.stands;
  outside = c.head.outside;
  selected = c.head.unselected;
  defined = λ r known. (let f = found r pens known in c.new (position_or_len (nat_eq r) pens) f.within ∙ ap (λ (q : ℕ). Some (standard (Circle (pos q)))) f.there);
  are = ap (map figure_in) c.head.none;
}

all_then : (p : Place) (pens : List ℕ) (figures : List Figure) → AllByRecursion IsPen pens → AllByRecursion IsDrawn figures → AllByRecursion (HasPen pens) figures → length pens ≤ MOST_APERTURES → length figures ≤ p.room.pieces → sum_by figure_edges figures ≤ p.room.edges → Ended p figures (behind [] (lines_with pens figures))
all_then p pens figures small drawn known few room edges =
    let c = circled p 10 pens (counts_in Mm ∷ formats seven ∷ []) (begun p) (omega arith) (omega (arith, few)) small in
    let d = headed p pens (behind (counts_in Mm ∷ formats seven ∷ []) (circles 10 pens)) c in
    let all = figures_then p pens None [] (behind (counts_in Mm ∷ formats seven ∷ []) (circles 10 pens)) figures drawn known few (omega (arith, room)) (omega (arith, edges)) d in
    let joined : behind [] (lines_with pens figures) ≡ behind (behind [] (head_lines pens)) (figures_lines pens None figures) = behind-append [] (head_lines pens) (figures_lines pens None figures) in
    let head : behind [] (head_lines pens) ≡ behind (counts_in Mm ∷ formats seven ∷ []) (circles 10 pens) = ap (λ (c : Command). behind (c ∷ told (extended (codes "FSLAX47Y47")) ∷ []) (circles 10 pens)) (reads_unit 0) ∙ ap (λ (c : Command). behind (counts_in Mm ∷ c ∷ []) (circles 10 pens)) (reads_format 0) in
    subst (Ended p figures) (sym (joined ∙ ap (λ (h : List Command). behind h (figures_lines pens None figures)) head)) all

-- ---- The reading

-- items put before earlier ones, the last first
onto : List (Item Command) → List (Item Command) → List (Item Command)
onto earlier [] = earlier
onto earlier (i ∷ later) = onto (i ∷ earlier) later

reverse-onto : (earlier later : List (Item Command)) → reverse (onto earlier later) ≡ reverse earlier ++ later
unfolding onto
reverse-onto earlier [] = sym (append-nil (reverse earlier))
reverse-onto earlier (i ∷ later) = reverse-onto (i ∷ earlier) later ∙ ap (λ (xs : List (Item Command)). xs ++ later) (reverse-append (i ∷ []) earlier) ∙ append_assoc (reverse earlier) (i ∷ []) later

said-onto : (size at : ℕ) (earlier : List (Item Command)) (lines : List Line) → said (onto earlier (items_with command_of stop_command size (entries_of at lines) ended)) ≡ finishes ∷ behind (said earlier) lines
unfolding onto command_of
said-onto size at earlier [] = refl
said-onto size at earlier (word text ∷ lines) = said-onto size (at + length text + 1 + 1) (word_item command_of (record { at = at; text = text; extended = false; body = false }) ∷ earlier) lines
said-onto size at earlier (extended text ∷ lines) = said-onto size (at + 1 + length text + 1 + 1 + 1) (word_item command_of (record { at = at + 1; text = text; extended = true; body = false }) ∷ earlier) lines

-- each copper file has one answer
abbrev pub OneAnswer : Type 0
OneAnswer = (file : List ℕ) (p : Place) → HasOneAnswer file p

lines_read : OneAnswer → (p : Place) (figures : List Figure) (lines : List Line) → AreWords lines → Ended p figures (behind [] lines) → ReadsAs (flat_map spelled lines) p figures
lines_read one p figures lines are d =
    let file = flat_map spelled lines in
    let all : List (Item Command) = items_with command_of stop_command (length file) (entries_of 0 lines) ended in
    let same : said (onto [] all) ≡ finishes ∷ behind [] lines = said-onto (length file) 0 [] lines in
    let over : Ended p figures (said (onto [] all)) = subst (Ended p figures) (sym same) (ended-finish p figures (behind [] lines) d) in
    let read : IsRead file p (pieces_of p (said (onto [] all))) = (
      all,
      record { words = entries_of 0 lines; stop = ended; cut = lines_words lines are; are = refl },
      record {
        earlier = onto [] all;
        whole = record { split = sym (append-nil (reverse (onto [] all)) ∙ reverse-onto [] all); clean = over.clean };
        is = refl;
      },
    ) in
    record {
      pieces = pieces_of p (said (onto [] all));
      read = read;
      are = over.are;
      unrefused = λ why number at r. (one file p).not_both (pieces_of p (said (onto [] all))) why number at read r;
    }

-- what the lines want of the figures
pub told_all : (pens : List ℕ) (figures : List Figure) → length pens ≤ MOST_APERTURES → AllByRecursion IsDrawn figures → AllByRecursion (HasPen pens) figures → AllByRecursion (IsTold pens) figures
told_all pens [] few d k = tt
told_all pens (round s ∷ figures) few d k = ((d.0.0, d.0.1, number_fits pens (pen_of s) few k.0), told_all pens figures few d.1 k.1)
told_all pens (filled points ∷ figures) few d k = (placed_all points d.0.placed, told_all pens figures few d.1 k.1)

pub flat_text_reads : OneAnswer → FlatTextReads
flat_text_reads one figures layer file low high flat =
    let p : Place = record { layer = layer; file = file; room = flat_room } in
    let pens = pens_of figures in
    let small = small_after [] figures flat.drawn tt in
    let known = have_pens [] figures in
    lines_read one p figures (lines_with pens figures) (all_words pens figures flat.few_pens small (told_all pens figures flat.few_pens flat.drawn known)) (all_then p pens figures small flat.drawn known flat.few_pens flat.few_pieces flat.few_edges)
