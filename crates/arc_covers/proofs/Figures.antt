-- Figures that are the same, and rows of capsules.
use Rattle.std.proofs.Common.{◌≡◌, ◌↔◌, ◌&&◌, inl, inr, ℕ, suc, ◌+◌, ◌≤◌, ◌<◌, ℤ, pos, unsigned_abs, List, [], ◌∷◌, ◌++◌, length, take, drop, All, Bool, false, IsTrue, Result, Ok, Err, IfOk, Option, Some, None, IfSome, IfNone, slice_get, get_or, refl, sym, ap, ◌∙◌, subst, append-nil}
use Rattle.std.specs.Bool.{Decides}
use Rattle.std.specs.Ordering.{int_eq}
use Rattle.std.proofs.lemmas.Bool.Decides.{Decides-and, Decides-int_eq, Decides-like}
use Rattle.std.proofs.lemmas.List.{drop_more, take_all}
use Rattle.std.proofs.lemmas.List.Elements.{All-cons, All-head, All-map, All-nil, All-tail, All-weaker}
use Rattle.std.proofs.lemmas.Option.{same_Some}
use Rattle.planar.specs.declared.Spot.{Spot}
use Rattle.planar.specs.Plane.{Point}
use Rattle.board_shapes.specs.Figures.{Figure, InFigure, Stroke, figure_of, filled, round}
use Rattle.board_shapes.specs.Pieces.{PlainPiece, plain_piece, plain_pieces}
use Rattle.board_shapes.specs.declared.placed.Placed.{Placed}
use Rattle.board_shapes.specs.declared.shape.Shape.{Shape}
use Rattle.arcs.specs.declared.Arc.{Arc}
use Rattle.lengths.specs.declared.rows.NoMemory.{NoMemory}
use Rattle.arcs.specs.Copper.{InChain}
use Rattle.arcs.specs.Laws.{TakenIsBetween}
use Rattle.slants.specs.Laws as slants
use Rattle.slants.specs.Laws.{DiscsAreBetween}
use Rattle.turned_polygons.specs.Laws.{TurnedPolygonIsBetween}
use Rattle.slants.specs.declared.Slant.{Slant}
use Rattle.slants.specs.declared.discs.TurnedDisc.{TurnedDisc as Disc}
use Rattle.turned_polygons.specs.declared.TurnedPolygon.{TurnedPolygon}
use Rattle.fine_figures.specs.Holes.{HoledBelow, InHoled}
use Rattle.fine_figures.specs.Laws.{FineIsBetween, HoledIsBetween}
use Rattle.fine_figures.specs.declared.FineFigure.{FineFigure}
use Rattle.fine_figures.specs.declared.HoledFigure.{HoledFigure}
use Rattle.arc_covers.specs.Eighths.{frame_about}
use Rattle.arc_covers.specs.Bounds.{BoundHoled, BoundRegion, BoundTurned, DiscFor, FigureFor, IsBound, IsDiscBound, IsFineBound, IsLineBound, IsOn, IsPolygonBound, ContourFor, PiecesStandFor, StandFor, capsules_from, capsules_of, figures_of}
use Rattle.arc_regions.specs.declared.Region.{Region as Contour}
use Rattle.arc_covers.specs.Taken.{HoledTaken, IsDiscTaken, IsFineTaken, IsLineTaken, IsPolygonTaken, IsTaken, PiecesAreTaken, RegionTaken, StandTaken, TurnedTaken}
use Rattle.real_shapes.specs.declared.RealShape.{RealShape}
use Rattle.real_shapes.specs.declared.RealShape.TheVariants.{ArcDraw, Fine, Holed, Plain, Polygon, Region, Slanted, Turned, TurnedDisc}
use Rattle.arc_covers.specs.declared.side.Side.{Side}
use Rattle.arc_covers.specs.declared.side.Side.TheVariants.{Above, Below}

abbrev spot_from : ℤ → ℤ → Spot
spot_from x y = record { x = x; y = y }

pub spot_decides : (a b : Spot) → Decides (int_eq a.x b.x && int_eq a.y b.y) (a ≡ b)
spot_decides a b =
    Decides-like (int_eq a.x b.x && int_eq a.y b.y) (λ e. ap (λ (x : ℤ). spot_from x a.y) e.0 ∙ ap (λ (y : ℤ). spot_from b.x y) e.1) (λ e. (ap (λ (s : Spot). s.x) e, ap (λ (s : Spot). s.y) e))
    (Decides-and (int_eq a.x b.x) (int_eq a.y b.y) (Decides-int_eq a.x b.x) (Decides-int_eq a.y b.y))

abbrev pub points_in : Figure → List Spot
points_in (round s) = []
points_in (filled points) = points

pub of_pieces : (P : PlainPiece → Type 0) (pieces : List (Placed Shape)) → All P (plain_pieces pieces) → All (λ (p : Placed Shape). P (plain_piece p)) pieces
of_pieces P [] all = All-nil (λ (p : Placed Shape). P (plain_piece p))
of_pieces P (p ∷ pieces) all = All-cons (λ (p : Placed Shape). P (plain_piece p)) p pieces (All-head P (plain_piece p) (plain_pieces pieces) all) (of_pieces P pieces (All-tail P (plain_piece p) (plain_pieces pieces) all))

pub whole_row : (chain : List Spot) (pieces : List (Placed Shape)) (from : Spot) (r : ℤ) (i : ℕ) → length pieces ≤ i → ((rest : List Spot) → capsules_of (chain ++ rest) r ≡ figures_of (plain_pieces (take i pieces)) ++ capsules_from from rest r) → figures_of (plain_pieces pieces) ≡ capsules_of chain r
whole_row chain pieces from r i past row =
    ap (λ (ps : List (Placed Shape)). figures_of (plain_pieces ps)) (sym (take_all i pieces past)) ∙ sym (append-nil (figures_of (plain_pieces (take i pieces)))) ∙ sym (row []) ∙ ap (λ (spots : List Spot). capsules_of spots r) (append-nil chain)

-- ---- capsules and their chain

abbrev stroke_in : Figure → Stroke
stroke_in (round s) = s
stroke_in (filled points) = record { a = spot_from (pos 0) (pos 0); b = spot_from (pos 0) (pos 0); r = pos 0 }

pub round_parts : (a b c d : Spot) (r s : ℤ) → round (record { a = a; b = b; r = r }) ≡ round (record { a = c; b = d; r = s }) → (a ≡ c) × (b ≡ d) × (r ≡ s)
round_parts a b c d r s e = (ap (λ (f : Figure). (stroke_in f).a) e, ap (λ (f : Figure). (stroke_in f).b) e, ap (λ (f : Figure). (stroke_in f).r) e)

pub not_filled : (points : List Spot) (s : Stroke) → filled points ≡ round s → ⊥
not_filled points s e = absurd cc

cons_parts : {X : Type 0} (x y : X) (xs ys : List X) → x ∷ xs ≡ y ∷ ys → (x ≡ y) × (xs ≡ ys)
cons_parts x y xs ys e = (cc, cc)

cons_is : {X : Type 0} {x y : X} {xs ys : List X} → x ≡ y → xs ≡ ys → x ∷ xs ≡ y ∷ ys
cons_is p q = cc

pub same_number : (r s : ℕ) → pos r ≡ pos s → r ≡ s
same_number r s e = ap unsigned_abs e

one_rest : (a b : Spot) (rest other : List Spot) (r s : ℤ) → capsules_from a rest r ≡ capsules_from b other s → rest ≡ other
one_rest a b [] [] r s e = refl
one_rest a b [] (d ∷ other) r s e = absurd cc
one_rest a b (c ∷ rest) [] r s e = absurd cc
one_rest a b (c ∷ rest) (d ∷ other) r s e =
    let parts = cons_parts (round (record { a = a; b = c; r = r })) (round (record { a = b; b = d; r = s })) (capsules_from c rest r) (capsules_from d other s) e in
    cons_is (round_parts a c b d r s parts.0).1 (one_rest c d rest other r s parts.1)

-- capsules have one chain and one radius
one_chain : (chain other : List Spot) (r s : ℕ) (f : Figure) (figures : List Figure) → f ∷ figures ≡ capsules_of chain (pos r) → f ∷ figures ≡ capsules_of other (pos s) → (chain ≡ other) × (r ≡ s)
one_chain [] other r s f figures is same = absurd cc
one_chain (a ∷ []) other r s f figures is same = absurd cc
one_chain (a ∷ b ∷ rest) [] r s f figures is same = absurd cc
one_chain (a ∷ b ∷ rest) (c ∷ []) r s f figures is same = absurd cc
one_chain (a ∷ b ∷ rest) (c ∷ d ∷ other) r s f figures is same =
    let parts = cons_parts (round (record { a = a; b = b; r = pos r })) (round (record { a = c; b = d; r = pos s })) (capsules_from b rest (pos r)) (capsules_from d other (pos s)) (sym is ∙ same) in
    let head = round_parts a b c d (pos r) (pos s) parts.0 in
    (cons_is head.0 (cons_is head.1 (one_rest b d rest other (pos r) (pos s) parts.1)), same_number r s head.2)

-- as many as spots behind the first
pub as_many : (a : Spot) (rest : List Spot) (r : ℤ) → length (capsules_from a rest r) ≡ length rest
as_many a [] r = refl
as_many a (b ∷ rest) r = ap suc (as_many b rest r)

-- the first of the capsules
pub first_stroke : (chain : List Spot) (s : ℤ) (f : Figure) (figures : List Figure) → f ∷ figures ≡ capsules_of chain s → (a : Spot) × (b : Spot) × (rest : List Spot) × (f ≡ round (record { a = a; b = b; r = s })) × (f ∷ figures ≡ capsules_from a (b ∷ rest) s)
first_stroke [] s f figures is = absurd cc
first_stroke (a ∷ []) s f figures is = absurd cc
first_stroke (a ∷ b ∷ rest) s f figures is = (a, b, rest, (cons_parts f (round (record { a = a; b = b; r = s })) figures (capsules_from b rest s) is).0, is)

-- ---- walking along a chain

pub cut_at : {X : Type 0} (xs : List X) (i : ℕ) (x : X) → i < length xs → x ≡ get_or xs i x → drop i xs ≡ x ∷ drop (i + 1) xs
cut_at xs i x below is = drop_more xs i x below ∙ ap (λ (y : _). y ∷ drop (i + 1) xs) (sym is)

pub some_of : {A : Type 0} (o : Option A) (x : A) (P : A → Type 0) → o ≡ Some x → IfSome o P → P x
some_of o x P e h = subst (λ (q : Option _). IfSome q P) e h

pub none_of : {A : Type 0} (o : Option A) (Q : Type 0) → o ≡ None → IfNone o Q → Q
none_of o Q e h = subst (λ (q : Option _). IfNone q Q) e h

pub walked : (pieces : List (Placed Shape)) (i : ℕ) (piece : Placed Shape) (from to : Spot) (r : ℤ) → drop i pieces ≡ piece ∷ drop (i + 1) pieces → figure_of piece.shape ≡ round (record { a = from; b = to; r = r })
    → (tail : List Spot) × (figures_of (plain_pieces (drop i pieces)) ≡ capsules_from from tail r) → (tail : List Spot) × (figures_of (plain_pieces (drop (i + 1) pieces)) ≡ capsules_from to tail r)
walked pieces i piece from to r cut is (tail, same) = by tail (sym (ap (λ (ps : List (Placed Shape)). figures_of (plain_pieces ps)) cut) ∙ same)
  where
    by : (tail : List Spot) → figure_of piece.shape ∷ figures_of (plain_pieces (drop (i + 1) pieces)) ≡ capsules_from from tail r → (tail : List Spot) × (figures_of (plain_pieces (drop (i + 1) pieces)) ≡ capsules_from to tail r)
    by [] e = absurd cc
    by (t ∷ tail) e =
        let parts = cons_parts (figure_of piece.shape) (round (record { a = from; b = t; r = r })) (figures_of (plain_pieces (drop (i + 1) pieces))) (capsules_from t tail r) e in
        let there = (round_parts from to from t r r (sym is ∙ parts.0)).1 in
        (tail, parts.1 ∙ ap (λ (s : Spot). capsules_from s tail r) (sym there))

pub stopped : (pieces : List (Placed Shape)) (i : ℕ) (piece : Placed Shape) (from : Spot) (r : ℤ) → drop i pieces ≡ piece ∷ drop (i + 1) pieces → ((to : Spot) → figure_of piece.shape ≡ round (record { a = from; b = to; r = r }) → ⊥)
    → (tail : List Spot) × (figures_of (plain_pieces (drop i pieces)) ≡ capsules_from from tail r) → ⊥
stopped pieces i piece from r cut none (tail, same) = by tail (sym (ap (λ (ps : List (Placed Shape)). figures_of (plain_pieces ps)) cut) ∙ same)
  where
    by : (tail : List Spot) → figure_of piece.shape ∷ figures_of (plain_pieces (drop (i + 1) pieces)) ≡ capsules_from from tail r → ⊥
    by [] e = absurd cc
    by (t ∷ tail) e = none t (cons_parts (figure_of piece.shape) (round (record { a = from; b = t; r = r })) (figures_of (plain_pieces (drop (i + 1) pieces))) (capsules_from t tail r) e).0

-- ---- chains that are taken

pub chain_taken : (side : Side) (arc : Arc) (f : Figure) (figures all : List Figure) (chain : List Spot) (r : ℕ) (b : Bool) → all ≡ f ∷ figures → all ≡ capsules_of chain (pos r) → IsTrue b ↔ IsTaken side arc chain r → IsTrue b ↔ StandTaken side (ArcDraw arc) all
chain_taken side arc f figures all chain r b some is told = (λ yes. (chain, r, is, told.0 yes), λ (other, s, same, taken). told.1 (back other s (one_chain other chain s r f figures (sym some ∙ same) (sym some ∙ is)) taken))
  where
    back : (other : List Spot) (s : ℕ) → (other ≡ chain) × (s ≡ r) → IsTaken side arc other s → IsTaken side arc chain r
    back other s (p, q) taken = subst (λ (n : ℕ). IsTaken side arc chain n) q (subst (λ (c : List Spot). IsTaken side arc c s) p taken)

pub filled_refused : (side : Side) (arc : Arc) (points : List Spot) (figures all : List Figure) (b : Bool) → b ≡ false → all ≡ filled points ∷ figures → IsTrue b ↔ StandTaken side (ArcDraw arc) all
filled_refused side arc points figures all b off some = (λ yes. absurd cc, λ (chain, s, same, taken). let first = first_stroke chain (pos s) (filled points) figures (sym some ∙ same) in absurd (not_filled points _ first.3))

pub chain_refused : (side : Side) (arc : Arc) (a d : Spot) (z : ℤ) (figures all : List Figure) (r : ℕ) (b : Bool) → b ≡ false → all ≡ round (record { a = a; b = d; r = z }) ∷ figures → unsigned_abs z ≡ r
    → ((rest : List Spot) → all ≡ capsules_from a rest (pos r) → ⊥) → IsTrue b ↔ StandTaken side (ArcDraw arc) all
chain_refused side arc a d z figures all r b off some abs none = (λ yes. absurd cc, λ (chain, s, same, taken). absurd (by chain s same))
  where
    by : (chain : List Spot) (s : ℕ) → all ≡ capsules_of chain (pos s) → ⊥
    by chain s same =
        let first = first_stroke chain (pos s) (round (record { a = a; b = d; r = z })) figures (sym some ∙ same) in
        let parts = round_parts a d first.0 first.1 z (pos s) first.3 in
        let number : s ≡ r = sym (ap unsigned_abs parts.2) ∙ abs in
        none (first.1 ∷ first.2) (some ∙ first.4 ∙ ap (λ (x : Spot). capsules_from x (first.1 ∷ first.2) (pos s)) (sym parts.0) ∙ ap (λ (n : ℕ). capsules_from a (first.1 ∷ first.2) (pos n)) number)

-- the first piece and the others
pub first_cut : (pieces : List (Placed Shape)) (first : Placed Shape) → slice_get pieces 0 ≡ Some first → figures_of (plain_pieces pieces) ≡ figure_of first.shape ∷ figures_of (plain_pieces (drop 1 pieces))
first_cut [] first e = absurd cc
first_cut (p ∷ pieces) first e = let same : p ≡ first = same_Some p first e in ap (λ (q : Placed Shape). figure_of q.shape ∷ figures_of (plain_pieces pieces)) same

pub as_shape : (pieces : List (Placed Shape)) (first : Placed Shape) (shape : Shape) → slice_get pieces 0 ≡ Some first → first.shape ≡ shape → figures_of (plain_pieces pieces) ≡ figure_of shape ∷ figures_of (plain_pieces (drop 1 pieces))
as_shape pieces first shape there is = first_cut pieces first there ∙ ap (λ (s : Shape). figure_of s ∷ figures_of (plain_pieces (drop 1 pieces))) is

-- ---- what is taken for a real piece

on_layers : (real : Placed RealShape) (pieces : List (Placed Shape)) → All (λ (p : Placed Shape). IsOn real.top real.bottom (plain_piece p)) pieces → All (IsOn real.top real.bottom) (plain_pieces pieces)
on_layers real pieces on = All-map (IsOn real.top real.bottom) plain_piece pieces on

pub pieces_taken : (side : Side) (real : Placed RealShape) (shape : RealShape) (pieces : List (Placed Shape)) (b : Bool) → real.shape ≡ shape → All (λ (p : Placed Shape). IsOn real.top real.bottom (plain_piece p)) pieces
    → IsTrue b ↔ StandTaken side shape (figures_of (plain_pieces pieces)) → IsTrue b ↔ PiecesAreTaken side real (plain_pieces pieces)
pieces_taken side real shape pieces b is on told = (
  λ yes. record { figures = subst (λ (s : RealShape). StandTaken side s (figures_of (plain_pieces pieces))) (sym is) (told.0 yes); layers = on_layers real pieces on },
  λ t. told.1 (subst (λ (s : RealShape). StandTaken side s (figures_of (plain_pieces pieces))) is t.figures),
)

pub answer_taken : (side : Side) (real : Placed RealShape) (shape : RealShape) (pieces : List (Placed Shape)) (r : Result Bool NoMemory) → real.shape ≡ shape → All (λ (p : Placed Shape). IsOn real.top real.bottom (plain_piece p)) pieces
    → IfOk r (λ yes. IsTrue yes ↔ StandTaken side shape (figures_of (plain_pieces pieces))) → IfOk r (λ yes. IsTrue yes ↔ PiecesAreTaken side real (plain_pieces pieces))
answer_taken side real shape pieces (Ok answer) is on told = pieces_taken side real shape pieces answer is on told
answer_taken side real shape pieces (Err e) is on told = tt

pub layers_refused : (side : Side) (real : Placed RealShape) (pieces : List (Placed Shape)) (b on : Bool) → b ≡ false → on ≡ false → IsTrue on ↔ All (λ (p : Placed Shape). IsOn real.top real.bottom (plain_piece p)) pieces → IsTrue b ↔ PiecesAreTaken side real (plain_pieces pieces)
layers_refused side real pieces b on is off told = (λ yes. absurd cc, λ t. let yes = told.1 (of_pieces (IsOn real.top real.bottom) pieces t.layers) in absurd cc)

-- what is taken stands
pub stands : (side : Side) (real : Placed RealShape) (pieces : List PlainPiece) → TakenIsBetween → slants.TakenIsBetween → DiscsAreBetween → TurnedPolygonIsBetween → FineIsBetween → HoledIsBetween → ((side : Side) (area : Contour) (figures : List Figure) → RegionTaken side area figures → BoundRegion side area figures)
    → ((side : Side) (contour : List Spot) (about : Spot) (angle : ℕ) (figures : List Figure) → TurnedTaken side contour about angle figures → BoundTurned side contour about angle figures) → PiecesAreTaken side real pieces → PiecesStandFor side real pieces
stands side real pieces law lines discs polygons fines holes regions turned t = record { figures = by side real.shape t.figures; layers = t.layers }
  where
    bound : (side : Side) (arc : Arc) (chain : List Spot) (r : ℕ) → IsTaken side arc chain r → IsBound side arc chain (pos r)
    bound Below arc chain r (inl none) = λ p inside. absurd (subst (λ (c : List Spot). InChain c (pos r) p) none inside)
    bound Below arc chain r (inr taken) = λ p inside. (law arc chain r p).0 taken inside
    bound Above arc chain r taken = λ p inside. (law arc chain r p).1 taken inside

    line_bound : (side : Side) (line : Slant) (points : List Spot) → IsLineTaken side line points → IsLineBound side line points
    line_bound Below line points taken = λ p inside. (lines line points p).0 taken inside
    line_bound Above line points taken = λ p inside. (lines line points p).1 taken inside

    disc_bound : (side : Side) (disc : Disc) (s : Spot) (r : ℕ) → IsDiscTaken side disc s r → IsDiscBound side disc s r
    disc_bound Below disc s r taken = λ p inside. (discs disc s r p).0 taken inside
    disc_bound Above disc s r taken = λ p inside. (discs disc s r p).1 taken inside

    one_disc : (side : Side) (disc : Disc) (figures : List Figure) → DiscFor side (IsDiscTaken side disc) figures → DiscFor side (IsDiscBound side disc) figures
    one_disc Below disc figures (inl none) = inl none
    one_disc Below disc figures (inr (s, r, same, h)) = inr (s, r, same, disc_bound Below disc s r h)
    one_disc Above disc figures (s, r, same, h) = (s, r, same, disc_bound Above disc s r h)

    polygon_bound : (side : Side) (g : TurnedPolygon) (points : List Spot) → IsPolygonTaken side g points → IsPolygonBound side g points
    polygon_bound Below g points taken = λ p inside. (polygons g points p).0 taken inside
    polygon_bound Above g points taken = λ p inside. (polygons g points p).1 taken inside

    fine_bound : (side : Side) (fine : FineFigure) (f : Figure) → IsFineTaken side fine f → IsFineBound side fine f
    fine_bound Below fine f taken = λ p inside. (fines fine f p).0 taken inside
    fine_bound Above fine f taken = λ p inside. (fines fine f p).1 taken inside

    one_figure : (side : Side) (fine : FineFigure) (figures : List Figure) → FigureFor side (IsFineTaken side fine) figures → FigureFor side (IsFineBound side fine) figures
    one_figure Below fine figures (inl none) = inl none
    one_figure Below fine figures (inr (f, same, h)) = inr (f, same, fine_bound Below fine f h)
    one_figure Above fine figures (f, same, h) = (f, same, fine_bound Above fine f h)

    with_hole : (side : Side) (h : HoledFigure) (figures : List Figure) → HoledTaken side h figures → BoundHoled side h figures
    with_hole Below h figures each = All-weaker (HoledBelow (frame_about h.centre) h) (λ f. (p : Point) → InFigure f p → InHoled h p) (λ f taken p inside. (holes h (frame_about h.centre) f p).0 taken inside) figures each
    with_hole Above h figures (f, same, taken) = (f, same, λ p inside. (holes h (frame_about h.centre) f p).1 taken inside)

    one_area : (side : Side) (P Q : List Spot → Type 0) (figures : List Figure) → ((points : List Spot) → P points → Q points) → ContourFor side P figures → ContourFor side Q figures
    one_area Below P Q figures more (inl none) = inl none
    one_area Below P Q figures more (inr (points, same, h)) = inr (points, same, more points h)
    one_area Above P Q figures more (points, same, h) = (points, same, more points h)

    by : (side : Side) (shape : RealShape) → StandTaken side shape (figures_of pieces) → StandFor side shape (figures_of pieces)
    by side (Plain shape) same = same
    by side (ArcDraw arc) (chain, r, same, taken) = (chain, r, same, bound side arc chain r taken)
    by side (Slanted line) h = one_area side (IsLineTaken side line) (IsLineBound side line) (figures_of pieces) (line_bound side line) h
    by side (Region area) h = regions side area (figures_of pieces) h
    by side (Turned f) h = turned side f.contour.items f.about f.angle (figures_of pieces) h
    by side (TurnedDisc disc) h = one_disc side disc (figures_of pieces) h
    by side (Polygon g) h = one_area side (IsPolygonTaken side g) (IsPolygonBound side g) (figures_of pieces) (polygon_bound side g) h
    by side (Fine fine) h = one_figure side fine (figures_of pieces) h
    by side (Holed f) h = with_hole side f (figures_of pieces) h
