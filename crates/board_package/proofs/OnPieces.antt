-- The probes of labelled pieces have their pieces under them.
use Rattle.std.proofs.Common.{◌≡◌, inl, ℕ, ◌+◌, ◌-◌, ◌≤◌, suc, List, [], ◌∷◌, ◌++◌, length, reverse, All, Option, Some, None, refl, sym, ap, ◌∙◌, subst, arith}
use Prim.Native.Nat.{zero}
use Rattle.std.specs.Prelude.{slice_get}
use Rattle.std.specs.List.{AllByRecursion}
use Rattle.std.proofs.lemmas.List.{length-reverse, reverse-append}
use Rattle.std.proofs.lemmas.List.Elements.{recursion_from_All}
use Rattle.area_contact.specs.Contour.{OnEdge, SomeEdge, edges_of, first_of}
use Rattle.board_shapes.specs.Figures.{Figure, round, filled, InFigure, IsLawfulFigure}
use Rattle.board_shapes.specs.Lawful.{IsSpan}
use Rattle.board_shapes.specs.LawfulBoard.{IsLawfulBoard}
use Rattle.board_shapes.specs.Plain.{PlainBoard, PlainPiece}
use Rattle.board_shapes.specs.Touching.{IsUnder, UnderAt}
use Rattle.board_shapes.specs.declared.probe.Probe.{Probe}
use Rattle.ipc356_records.specs.Names.{index_of}
use Rattle.planar.proofs.Meet.{holds_start}
use Rattle.planar.specs.Plane.{at}
use Rattle.planar.specs.declared.Spot.{Spot}
use Rattle.x2_nets.specs.declared.label_table.Label.{Label}
use Rattle.board_package.specs.LabelledBoard.{Named, first_spot, label_of, labelled_board_of, named_by, probe_of, with_label}
use Rattle.board_package.proofs.Named.{all_push}

-- ---- The first spot lies in its figure

on_contour : (points : List Spot) → 4 ≤ length points → SomeEdge (OnEdge (at (first_of points))) (edges_of points)
on_contour [] some = absurd (omega (arith, some))
on_contour (a ∷ []) some = absurd (omega (arith, some))
on_contour (a ∷ b ∷ points) some = inl (holds_start a b _)

in_figure : (f : Figure) → IsLawfulFigure f → InFigure f (at (first_spot f))
in_figure (round s) h = holds_start s.a s.b s.r
in_figure (filled points) h = inl (on_contour points h.enough)

-- a lawful piece on some layers
record Stands (layers : ℕ) (p : PlainPiece) : Type 0 where
  figure : IsLawfulFigure p.figure
  span : IsSpan layers p.top p.bottom

under : (layers number name : ℕ) (p : PlainPiece) → Stands layers p → IsUnder p (probe_of number p name)
under layers number name p h = ((omega arith, h.span.1), in_figure p.figure h.figure)

-- ---- Places in a list

not_some : {A : Type 0} {y : A} → ◌≡◌ {A = Option A} None (Some y) → ⊥
not_some h = cc

some_same : {A : Type 0} {x y : A} → ◌≡◌ {A = Option A} (Some x) (Some y) → x ≡ y
some_same h = cc

get_front : {A : Type 0} (xs : List A) (x : A) (i : ℕ) (y : A) → slice_get xs i ≡ Some y → slice_get (xs ++ x ∷ []) i ≡ Some y
get_front [] x i y h = absurd (not_some h)
get_front (z ∷ xs) x zero y h = h
get_front (z ∷ xs) x (suc i) y h = get_front xs x i y h

get_back : {A : Type 0} (xs : List A) (x : A) → slice_get (xs ++ x ∷ []) (length xs) ≡ Some x
get_back [] x = refl
get_back (z ∷ xs) x = get_back xs x

-- ---- The probes of pieces, of which the last is first

-- the piece of the probe's record is under it
record OnPiece (pieces : List PlainPiece) (probe : Probe) : Type 0 where
  piece : PlainPiece
  is : slice_get pieces (probe.number - 1) ≡ Some piece
  is_under : IsUnder piece probe

all_more : (P Q : Probe → Type 0) (xs : List Probe) → ((x : Probe) → P x → Q x) → AllByRecursion P xs → AllByRecursion Q xs
all_more P Q [] k h = tt
all_more P Q (x ∷ xs) k h = (k x h.0, all_more P Q xs k h.1)

one_more : (layers : ℕ) (front : List PlainPiece) (n : Named) (p : PlainPiece) (label : Option (List ℕ)) (count : ℕ) → count ≡ length front → Stands layers p → AllByRecursion (OnPiece front) n.probes → AllByRecursion (OnPiece (front ++ p ∷ [])) (with_label n (count + 1) p label).probes
one_more layers front n p None count size s h = all_more (OnPiece front) (OnPiece (front ++ p ∷ [])) n.probes (λ x k. record { piece = k.piece; is = get_front front p (x.number - 1) k.piece k.is; is_under = k.is_under }) h
one_more layers front n p (Some name) count size s h =
    let made : Probe = probe_of (count + 1) p (index_of name n.names) in
    let place : count + 1 - 1 ≡ length front = omega (arith, size) in
    all_push (OnPiece (front ++ p ∷ [])) n.probes made
    (all_more (OnPiece front) (OnPiece (front ++ p ∷ [])) n.probes (λ x k. record { piece = k.piece; is = get_front front p (x.number - 1) k.piece k.is; is_under = k.is_under }) h)
    (record { piece = p; is = subst (λ (i : ℕ). slice_get (front ++ p ∷ []) i ≡ Some p) (sym place) (get_back front p); is_under = under layers (count + 1) (index_of name n.names) p s })

all_on : (tables : List (List Label)) (layers : ℕ) (xs : List PlainPiece) → AllByRecursion (Stands layers) xs → AllByRecursion (OnPiece (reverse xs)) (named_by tables xs).probes
all_on tables layers [] h = tt
all_on tables layers (x ∷ xs) h =
    subst (λ (ps : List PlainPiece). AllByRecursion (OnPiece ps) (named_by tables (x ∷ xs)).probes) (sym (reverse-append (x ∷ []) xs))
    (one_more layers (reverse xs) (named_by tables xs) x (label_of tables x.origin) (length xs) (sym (length-reverse xs)) h.0 (all_on tables layers xs h.1))

reversed : {A : Type 0} (P : A → Type 0) (xs : List A) → AllByRecursion P xs → AllByRecursion P (reverse xs)
reversed P [] h = tt
reversed P (x ∷ xs) h = subst (AllByRecursion P) (sym (reverse-append (x ∷ []) xs)) (all_push P (reverse xs) x (reversed P xs h.1) h.0)

twice : {A : Type 0} (xs : List A) → reverse (reverse xs) ≡ xs
twice [] = refl
twice (x ∷ xs) = ap reverse (reverse-append (x ∷ []) xs) ∙ reverse-append (reverse xs) (x ∷ []) ∙ ap (λ (ys : List _). x ∷ ys) (twice xs)

at_place : (P : Probe → Type 0) (xs : List Probe) (k : ℕ) (x : Probe) → AllByRecursion P xs → slice_get xs k ≡ Some x → P x
at_place P [] k x h e = absurd (not_some e)
at_place P (y ∷ xs) zero x h e = subst P (some_same e) h.0
at_place P (y ∷ xs) (suc k) x h e = at_place P xs k x h.1 e

both_stand : (layers : ℕ) (pieces : List PlainPiece) → All (λ p. IsLawfulFigure p.figure) pieces → All (λ p. IsSpan layers p.top p.bottom) pieces → All (Stands layers) pieces
both_stand layers pieces f s i d below = record { figure = f i d below; span = s i d below }

pub pieces_are_under : (tables : List (List Label)) (b : PlainBoard) → IsLawfulBoard (labelled_board_of tables b) → (k : ℕ) (probe : Probe) → slice_get (labelled_board_of tables b).probes k ≡ Some probe → UnderAt (labelled_board_of tables b) k (probe.number - 1)
pieces_are_under tables b lawful k probe is =
    let stand : AllByRecursion (Stands b.layers) (reverse b.pieces) = reversed (Stands b.layers) b.pieces (recursion_from_All (Stands b.layers) b.pieces (both_stand b.layers b.pieces lawful.figures lawful.spans)) in
    let on : AllByRecursion (OnPiece b.pieces) (named_by tables (reverse b.pieces)).probes = subst (λ (ps : List PlainPiece). AllByRecursion (OnPiece ps) (named_by tables (reverse b.pieces)).probes) (twice b.pieces) (all_on tables b.layers (reverse b.pieces) stand) in
    let here = at_place (OnPiece b.pieces) (named_by tables (reverse b.pieces)).probes k probe on is in
    record { piece = here.piece; probe = probe; piece_is = here.is; probe_is = is; under = here.is_under }
