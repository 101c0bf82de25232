-- The probes of labelled pieces.
use Rattle.std.proofs.Common.{◌≡◌, ℕ, ◌+◌, ◌<◌, ◌≤◌, Bool, true, false, cond, List, [], ◌∷◌, ◌++◌, length, take, reverse, get_or, All, Option, Some, None, refl, sym, ap, ◌∙◌, subst, arith, length-append}
use Rattle.std.specs.List.{AllByRecursion, list_any}
use Rattle.std.specs.Prelude.{option_and_then}
use Rattle.std.proofs.lemmas.Option.{slice_get_past, slice_get_read}
use Rattle.std.proofs.lemmas.List.{get_or-map, length-map, length-reverse, length-take, reverse-append, take_more}
use Rattle.std.proofs.lemmas.List.Elements.{All-head, All-nil, All-push, All-tail}
use Rattle.area_contact.specs.Contour.{first_of}
use Rattle.board_shapes.specs.Figures.{Figure, round, filled, figure_of, IsLawfulFigure}
use Rattle.board_shapes.specs.Lawful.{IsOnLayers, IsProbe, IsSpan}
use Rattle.board_shapes.specs.Pieces.{PlainPiece, plain_piece, plain_pieces}
use Rattle.board_shapes.specs.Shapes.{lawful}
use Rattle.board_shapes.specs.declared.placed.Origin.{Origin}
use Rattle.board_shapes.specs.declared.placed.Placed.{Placed}
use Rattle.board_shapes.specs.declared.shape.Shape.{Shape}
use Rattle.ipc356_records.specs.Names.{index_of, is_name, with_name}
use Rattle.ipc356_records.proofs.Fits.{index_below, more_names, names_grow}
use Rattle.lengths.specs.Text.{IsText}
use Rattle.planar.specs.Plane.{IsPlaced}
use Rattle.planar.specs.declared.Spot.{Spot}
use Rattle.x2_nets.specs.Labels.{name_at}
use Rattle.x2_nets.specs.declared.label_table.Label.{Label}
use Rattle.board_package.specs.LabelledBoard.{Named, first_spot, label_of, named_by, probe_of, with_label}
use Rattle.board_package.specs.Labelling.{named_as}
use Rattle.board_package.specs.Parts.{IsLawfulParts}
use Rattle.board_package.specs.declared.parts.Parts.{Parts}
use Rattle.board_shapes.specs.declared.TheConstants.{MOST_PIECES}

-- ---- Lawful probes

-- at most so many probes and names, and probes on the board
pub record AreFew (layers count : ℕ) (n : Named) : Type 0 where
  pub few_probes : length n.probes ≤ count
  pub few_names : length n.names ≤ count
  pub known : All (IsProbe (length n.names) layers) n.probes

-- a piece on the layers whose first spot is within one metre
record IsReached (layers : ℕ) (p : PlainPiece) : Type 0 where
  span : IsSpan layers p.top p.bottom
  placed : IsPlaced (first_spot p.figure)

one_more : (layers count : ℕ) (n : Named) (p : PlainPiece) (label : Option (List ℕ)) → IsReached layers p → AreFew layers count n → AreFew layers (count + 1) (with_label n (count + 1) p label)
one_more layers count n p None h w = record { few_probes = (let e = w.few_probes in omega arith); few_names = (let e = w.few_names in omega arith); known = w.known }
one_more layers count n p (Some name) h w =
    let grows = names_grow name n.names in
    let names = length (with_name name n.names) in
    let made = probe_of (count + 1) p (index_of name n.names) in
    let s = h.span in
    let here : IsProbe names layers made = record { named = index_below name n.names; from_top = s.0; to_bottom = omega (arith, s.1, s.2); placed = h.placed } in
    record {
      few_probes = (let e = w.few_probes in let l = length-append n.probes (made ∷ []) in omega arith);
      few_names = (let e = w.few_names in let g = grows.most in omega arith);
      known = All-push (IsProbe names layers) n.probes made (more_names (length n.names) names layers n.probes grows.least w.known) here;
    }

all_few : (tables : List (List Label)) (layers : ℕ) (xs : List PlainPiece) → AllByRecursion (IsReached layers) xs → AreFew layers (length xs) (named_by tables xs)
all_few tables layers [] h = record { few_probes = omega arith; few_names = omega arith; known = All-nil (IsProbe 0 layers) }
all_few tables layers (x ∷ xs) h =
    let more : length xs + 1 ≡ length (x ∷ xs) = omega arith in
    subst (λ (k : ℕ). AreFew layers k (named_by tables (x ∷ xs))) more (one_more layers (length xs) (named_by tables xs) x (label_of tables x.origin) h.0 (all_few tables layers xs h.1))

-- the spot that stands first
pub first_is : (points : List Spot) (s : Spot) → 4 ≤ length points → ((d : Spot) → get_or points 0 d ≡ s) → s ≡ first_of points
first_is [] s some h = absurd (omega (arith, some))
first_is (a ∷ points) s some h = sym (h a)

first_of_contour : (points : List Spot) → 4 ≤ length points → All IsPlaced points → IsPlaced (first_of points)
first_of_contour [] some h = absurd (omega (arith, some))
first_of_contour (a ∷ points) some h = All-head IsPlaced a points h

first_placed : (f : Figure) → IsLawfulFigure f → IsPlaced (first_spot f)
first_placed (round s) h = h.0
first_placed (filled points) h = first_of_contour points h.enough h.placed

pub all_push : {A : Type 0} (P : A → Type 0) (xs : List A) (x : A) → AllByRecursion P xs → P x → AllByRecursion P (xs ++ x ∷ [])
all_push P [] x h p = (p, tt)
all_push P (y ∷ ys) x h p = (h.0, all_push P ys x h.1 p)

all_reached : (layers : ℕ) (pieces : List (Placed Shape)) → All (IsOnLayers layers) pieces → AllByRecursion (IsReached layers) (reverse (plain_pieces pieces))
all_reached layers [] h = tt
all_reached layers (p ∷ pieces) h =
    let here : IsReached layers (plain_piece p) = record { span = All-head (IsOnLayers layers) p pieces h; placed = first_placed (figure_of p.shape) (lawful p.shape) } in
    subst (AllByRecursion (IsReached layers)) (sym (reverse-append (plain_piece p ∷ []) (plain_pieces pieces))) (all_push (IsReached layers) (reverse (plain_pieces pieces)) (plain_piece p) (all_reached layers pieces (All-tail (IsOnLayers layers) p pieces h)) here)

few_named : (tables : List (List Label)) (layers : ℕ) (pieces : List (Placed Shape)) → All (IsOnLayers layers) pieces → AreFew layers (length pieces) (named_by tables (reverse (plain_pieces pieces)))
few_named tables layers pieces h =
    let size : length (reverse (plain_pieces pieces)) ≡ length pieces = length-reverse (plain_pieces pieces) ∙ length-map pieces plain_piece in
    subst (λ (k : ℕ). AreFew layers k (named_by tables (reverse (plain_pieces pieces)))) size (all_few tables layers (reverse (plain_pieces pieces)) (all_reached layers pieces h))

-- parts with the probes and names of their labelled pieces
pub named_parts : (tables : List (List Label)) (old new : Parts Shape) → IsLawfulParts old → new.pieces.items ≡ old.pieces.items → new.layers ≡ old.layers → named_as new.probes new.names ≡ named_by tables (reverse (plain_pieces old.pieces.items)) → IsLawfulParts new
named_parts tables old new h pieces layers e =
    let few = few_named tables old.layers old.pieces.items h.spans in
    let probes : new.probes ≡ (named_by tables (reverse (plain_pieces old.pieces.items))).probes = ap (λ (n : Named). n.probes) e in
    let names : new.names ≡ (named_by tables (reverse (plain_pieces old.pieces.items))).names = ap (λ (n : Named). n.names) e in
    let size = h.few_pieces in
    record {
      some_layer = rw layers h.some_layer;
      few_layers = rw layers h.few_layers;
      few_pieces = rw pieces h.few_pieces;
      few_probes = rw probes (let f = few.few_probes in omega (arith, f, size));
      few_names = rw names (let f = few.few_names in omega (arith, f, size));
      spans = rw (layers, pieces) h.spans;
      known = rw (probes, names, layers) few.known;
    }

-- ---- Labels of pieces

pub no_table : (tables : List (List Label)) (origin : Origin) → length tables ≤ origin.file → None ≡ label_of tables origin
no_table tables origin h = sym (ap (λ (o : Option (List Label)). option_and_then (λ labels. name_at labels origin.command) o) (slice_get_past tables origin.file h))

pub one_table : (tables : List (List Label)) (origin : Origin) (labels : List Label) → origin.file < length tables → labels ≡ get_or tables origin.file labels → name_at labels origin.command ≡ label_of tables origin
one_table tables origin labels below is = sym (ap (λ (o : Option (List Label)). option_and_then (λ ls. name_at ls origin.command) o) (slice_get_read tables (length tables) origin.file labels refl below is))

-- ---- One piece more

names_few : (tables : List (List Label)) (xs : List PlainPiece) → length (named_by tables xs).names ≤ length xs
names_few tables [] = omega arith
names_few tables (x ∷ xs) = by (label_of tables x.origin) (names_few tables xs)
  where
    by : (label : Option (List ℕ)) → length (named_by tables xs).names ≤ length xs → length (with_label (named_by tables xs) (length xs + 1) x label).names ≤ length (x ∷ xs)
    by None h = omega (arith, h)
    by (Some name) h = let g = (names_grow name (named_by tables xs).names).most in omega (arith, h, g)

size_of_front : (pieces : List (Placed Shape)) (i : ℕ) → i ≤ length pieces → length (reverse (take i (plain_pieces pieces))) ≡ i
size_of_front pieces i within =
    let a = length-reverse (take i (plain_pieces pieces)) in
    let b = length-take i (plain_pieces pieces) in
    let c : length (plain_pieces pieces) ≡ length pieces = length-map pieces plain_piece in
    omega (arith, a, b, c, within)

-- there is room for one name more
pub room_for_name : (tables : List (List Label)) (pieces : List (Placed Shape)) (i : ℕ) (old : Named) → i < length pieces → length pieces ≤ MOST_PIECES → old ≡ named_by tables (reverse (take i (plain_pieces pieces))) → length old.names + 1 < 4294967296
room_for_name tables pieces i old below few e =
    let a = names_few tables (reverse (take i (plain_pieces pieces))) in
    let b = size_of_front pieces i (omega (arith, below)) in
    let c : length old.names ≡ length (named_by tables (reverse (take i (plain_pieces pieces)))).names = ap (λ (n : Named). length n.names) e in
    omega (arith, a, b, c, below, few)

pub named_more : (tables : List (List Label)) (pieces : List (Placed Shape)) (i : ℕ) (piece : Placed Shape) (old new : Named) (label : Option (List ℕ)) → i < length pieces → piece ≡ get_or pieces i piece → old ≡ named_by tables (reverse (take i (plain_pieces pieces))) → label ≡ label_of tables piece.origin → new ≡ with_label old (i + 1) (plain_piece piece) label → new ≡ named_by tables (reverse (take (i + 1) (plain_pieces pieces)))
named_more tables pieces i piece old new label below here so_far is made =
    let plain = plain_pieces pieces in
    let p = plain_piece piece in
    let within : i < length plain = (let e : length plain ≡ length pieces = length-map pieces plain_piece in omega (arith, e, below)) in
    let at : get_or plain i p ≡ p = get_or-map plain_piece pieces i piece p below ∙ ap plain_piece (sym here) in
    let front : reverse (take (i + 1) plain) ≡ p ∷ reverse (take i plain) = ap (λ (xs : List PlainPiece). reverse xs) (take_more plain i p within) ∙ reverse-append (take i plain) (get_or plain i p ∷ []) ∙ ap (λ (x : PlainPiece). x ∷ reverse (take i plain)) at in
    let size : length (reverse (take i plain)) ≡ i = size_of_front pieces i (omega (arith, below)) in
    made ∙ ap (λ (n : Named). with_label n (i + 1) p label) so_far ∙ ap (λ (l : Option (List ℕ)). with_label (named_by tables (reverse (take i plain))) (i + 1) p l) is ∙ ap (λ (k : ℕ). with_label (named_by tables (reverse (take i plain))) (k + 1) p (label_of tables p.origin)) (sym size) ∙ ap (named_by tables) (sym front)

-- texts stay texts
pub texts_kept : (name : List ℕ) (names : List (List ℕ)) → IsText name → All IsText names → All IsText (with_name name names)
texts_kept name names h all = by (list_any (is_name name) names)
  where
    by : (b : Bool) → All IsText (cond b names (names ++ name ∷ []))
    by true = all
    by false = All-push IsText names name all h
