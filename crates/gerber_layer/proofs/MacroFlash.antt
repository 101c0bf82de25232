-- What the primitives of a macro flash, one after another.
use Rattle.std.proofs.Common.{◌≡◌, ℕ, ◌+◌, ◌<◌, ◌≤◌, List, [], ◌∷◌, ◌++◌, length, drop, get_or, drop-cons, add-one, Option, Result, Ok, Err, refl, sym, ap, ◌∙◌, append_assoc, append-nil, arith}
use Rattle.std.proofs.lemmas.Grind.{common_steps}
use Rattle.std.proofs.lemmas.List.{map-append}
use Rattle.std.specs.Prelude.{sum_by}
use Rattle.std.proofs.lemmas.List.Sums.{sum_by-cons}
use Rattle.planar.specs.declared.Spot.{Spot}
use Rattle.board_shapes.specs.Pieces.{PlainPiece}
use Rattle.gerber_layer.specs.Image.{made, piece_of}
use Rattle.lengths.specs.Decimal.{Fraction}
use Rattle.lengths.specs.declared.decimal.Unit.{Unit as Measure}
use Rattle.board_shapes.specs.Figures.{Figure, figure_edges}
use Rattle.aperture_macros.specs.BodyWord.{PlainPrimitive}
use Rattle.aperture_macros.specs.Flashes.{figure_at, judged}
use Rattle.aperture_macros.specs.Seen.{Makes, plain}
use Rattle.aperture_macros.specs.declared.primitive.Copper.TheVariants.{Exact}
use Rattle.aperture_macros.specs.declared.primitive.Primitive.{Primitive}
use Rattle.aperture_macros.specs.declared.fault.FigureFault.{FigureFault}
use Rattle.aperture_macros.specs.declared.fault.FigureFault.TheVariants as figure
use Rattle.gerber_layer.specs.MacroTable.{all_judged}
use Rattle.gerber_layer.specs.Reader.{body_of, halt_of_figure, Stops}
use Rattle.aperture_macros.specs.declared.fault.MacroFault.{MacroFault}
use Rattle.gerber_layer.specs.CommandEffects.{Place, ◌>>=◌, all_flashed, edges_of, figures_of, listed}

-- the room is for as many pieces as there are figures, with as many edges
pub edges_made : (p : Place) (n : ℕ) (figures : List Figure) → edges_of (made p n figures) ≡ sum_by figure_edges figures
edges_made p n [] = refl
edges_made p n (f ∷ figures) =
    sum_by-cons (λ (q : PlainPiece). figure_edges q.figure) (piece_of p n f) (made p n figures) ∙ ap (λ (k : ℕ). figure_edges f + k) (edges_made p n figures) ∙ sym (sum_by-cons figure_edges f figures)

-- figures, and those of the rest
abbrev pub ahead : List Figure → Result (List Figure) MacroFault → Result (List Figure) MacroFault
ahead done (Ok more) = Ok (done ++ more)
ahead done (Err fault) = Err fault

pub one_more : (p : PlainPrimitive) (body : List PlainPrimitive) (parameters : List Fraction) (unit : Measure) (to : Spot) (done : List Figure) (figure : Option Figure) → Ok figure ≡ figure_at p parameters unit to → ahead done (figures_of (p ∷ body) parameters unit to) ≡ ahead (done ++ listed figure) (figures_of body parameters unit to)
unfolding figures_of
one_more p body parameters unit to done figure h = rw (← h) (by (figures_of body parameters unit to))
  where
    by : (r : Result (List Figure) MacroFault) → ahead done (r >>= λ more. Ok (listed figure ++ more)) ≡ ahead (done ++ listed figure) r
    by (Ok more) = ap (λ (xs : List Figure). Ok xs) (sym (append_assoc done (listed figure) more))
    by (Err fault) = refl

pub stopped : (p : PlainPrimitive) (body : List PlainPrimitive) (parameters : List Fraction) (unit : Measure) (to : Spot) (done : List Figure) (fault : MacroFault) → Err fault ≡ figure_at p parameters unit to → ahead done (figures_of (p ∷ body) parameters unit to) ≡ Err fault
unfolding figures_of
stopped p body parameters unit to done fault h = rw (← h) refl

-- ---- Along a body

pub rest_is : {A : Type 0} (xs : List A) (i : ℕ) (d : A) → i < length xs → drop i xs ≡ get_or xs i d ∷ drop (i + 1) xs
rest_is xs i d h = rw (add-one, drop-cons xs i d h) refl

rest_at : (xs : List Primitive) (i : ℕ) (here : Primitive) → i < length xs → here ≡ get_or xs i here → drop i xs ≡ here ∷ drop (i + 1) xs
rest_at xs i here h at = rest_is xs i here h ∙ ap (λ (x : Primitive). x ∷ drop (i + 1) xs) (sym at)

none_left : {A : Type 0} (xs : List A) (i : ℕ) → length xs ≤ i → drop i xs ≡ []
none_left [] i h = grind (arith, common_steps)
none_left (x ∷ xs) i h = grind (arith, common_steps)

pub next_figure : (body : List Primitive) (i : ℕ) (here : Primitive) (parameters : List Fraction) (unit : Measure) (to : Spot) (done : List Figure) (figure : Option Figure) → i < length body → here ≡ get_or body i here → Ok figure ≡ figure_at (plain here) parameters unit to → figures_of (body_of body) parameters unit to ≡ ahead done (figures_of (body_of (drop i body)) parameters unit to) → figures_of (body_of body) parameters unit to ≡ ahead (done ++ listed figure) (figures_of (body_of (drop (i + 1) body)) parameters unit to)
next_figure body i here parameters unit to done figure h at is all =
    all ∙ ap (λ (xs : List Primitive). ahead done (figures_of (body_of xs) parameters unit to)) (rest_at body i here h at) ∙ one_more (plain here) (body_of (drop (i + 1) body)) parameters unit to done figure is

pub all_figures : (body : List Primitive) (i : ℕ) (parameters : List Fraction) (unit : Measure) (to : Spot) (done : List Figure) → length body ≤ i → figures_of (body_of body) parameters unit to ≡ ahead done (figures_of (body_of (drop i body)) parameters unit to) → figures_of (body_of body) parameters unit to ≡ Ok done
unfolding figures_of
all_figures body i parameters unit to done h all =
    all ∙ ap (λ (xs : List Primitive). ahead done (figures_of (body_of xs) parameters unit to)) (none_left body i h) ∙ ap (λ (xs : List Figure). Ok xs) (append-nil done)

pub no_figure : (body : List Primitive) (i : ℕ) (here : Primitive) (parameters : List Fraction) (unit : Measure) (to : Spot) (done : List Figure) (fault : FigureFault) → i < length body → here ≡ get_or body i here → Makes (Err fault) (figure_at (plain here) parameters unit to) → figures_of (body_of body) parameters unit to ≡ ahead done (figures_of (body_of (drop i body)) parameters unit to) → Stops (all_flashed (figures_of (body_of body) parameters unit to)) (halt_of_figure fault)
no_figure body i here parameters unit to done (figure.Macro fault) h at is all =
    ap all_flashed (all ∙ ap (λ (xs : List Primitive). ahead done (figures_of (body_of xs) parameters unit to)) (rest_at body i here h at) ∙ stopped (plain here) (body_of (drop (i + 1) body)) parameters unit to done fault is)
no_figure body i here parameters unit to done figure.NoMemory h at is all = tt

pub made_more : (p : Place) (n : ℕ) (done more : List Figure) (old new : List PlainPiece) → old ≡ made p n done → new ≡ old ++ made p n more → new ≡ made p n (done ++ more)
made_more p n done more old new a b = b ∙ ap (λ (xs : List PlainPiece). xs ++ made p n more) a ∙ sym (map-append (piece_of p n) done more)

-- ---- Judging along a body

pub next_judged : (body : List Primitive) (i : ℕ) (d : Primitive) (parameters : List Fraction) (unit : Measure) → i < length body → Ok tt ≡ judged Exact (plain (get_or body i d)) parameters unit → all_judged (body_of (drop i body)) parameters unit ≡ all_judged (body_of (drop (i + 1) body)) parameters unit
unfolding all_judged
next_judged body i d parameters unit h is =
    ap (λ (xs : List Primitive). all_judged (body_of xs) parameters unit) (rest_is body i d h) ∙ ap (λ (r : Result (Unit {0}) MacroFault). r >>= λ done. all_judged (body_of (drop (i + 1) body)) parameters unit) (sym is)

pub first_fault : (body : List Primitive) (i : ℕ) (d : Primitive) (parameters : List Fraction) (unit : Measure) (fault : MacroFault) → i < length body → Err fault ≡ judged Exact (plain (get_or body i d)) parameters unit → all_judged (body_of (drop i body)) parameters unit ≡ Err fault
unfolding all_judged
first_fault body i d parameters unit fault h is =
    ap (λ (xs : List Primitive). all_judged (body_of xs) parameters unit) (rest_is body i d h) ∙ ap (λ (r : Result (Unit {0}) MacroFault). r >>= λ done. all_judged (body_of (drop (i + 1) body)) parameters unit) (sym is)

pub none_faulty : (body : List Primitive) (i : ℕ) (parameters : List Fraction) (unit : Measure) → length body ≤ i → all_judged (body_of (drop i body)) parameters unit ≡ Ok tt
unfolding all_judged
none_faulty body i parameters unit h = ap (λ (xs : List Primitive). all_judged (body_of xs) parameters unit) (none_left body i h)
