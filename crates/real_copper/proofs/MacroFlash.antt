-- What the primitives of a macro flash, one after another, and how they are judged.
use Rattle.std.proofs.Common.{◌≡◌, ℕ, ◌+◌, ◌<◌, ◌≤◌, List, [], ◌∷◌, ◌++◌, length, drop, get_or, drop-cons, add-one, Option, Result, Ok, Err, refl, sym, ap, ◌∙◌, append_assoc, append-nil, arith}
use Rattle.std.proofs.lemmas.Grind.{common_steps}
use Rattle.std.proofs.lemmas.List.{map-append}
use Rattle.planar.specs.declared.Spot.{Spot}
use Rattle.board_shapes.specs.Pieces.{PieceOf}
use Rattle.file_reading.specs.Conditions.{◌>>=◌}
use Rattle.lengths.specs.Decimal.{Fraction}
use Rattle.lengths.specs.declared.decimal.Unit.{Unit as Measure}
use Rattle.aperture_macros.specs.BodyWord.{PlainPrimitive}
use Rattle.aperture_macros.specs.Flashes.{judged}
use Rattle.aperture_macros.specs.Seen.{plain as plain_primitive}
use Rattle.aperture_macros.specs.declared.fault.FigureFault.{FigureFault}
use Rattle.aperture_macros.specs.declared.fault.FigureFault.TheVariants as figure
use Rattle.aperture_macros.specs.declared.fault.MacroFault.{MacroFault}
use Rattle.aperture_macros.specs.declared.primitive.Copper.TheVariants.{Real}
use Rattle.aperture_macros.specs.declared.primitive.Primitive.{Primitive}
use Rattle.gerber_reading.specs.CommandEffects.{listed}
use Rattle.gerber_reading.specs.Image.{made, piece_of}
use Rattle.gerber_reading.specs.declared.place.Place.{Place}
use Rattle.gerber_reading.specs.Reader.{Stops, body_of}
use Rattle.real_copper.specs.Figures.{RealFigure}
use Rattle.real_copper.specs.Flashed.{Makes}
use Rattle.real_copper.specs.Primitives.{primitive_figure}
use Rattle.real_copper.specs.RealReader.{figure_halt}
use Rattle.real_copper.specs.Rows.{all_flashed, figures_of}
use Rattle.real_copper.specs.Table.{all_judged}

-- figures, and those of the rest
abbrev pub ahead : List RealFigure → Result (List RealFigure) MacroFault → Result (List RealFigure) MacroFault
ahead done (Ok more) = Ok (done ++ more)
ahead done (Err fault) = Err fault

one_more : (p : PlainPrimitive) (body : List PlainPrimitive) (parameters : List Fraction) (unit : Measure) (to : Spot) (done : List RealFigure) (figure : Option RealFigure) → Ok figure ≡ primitive_figure p parameters unit to → ahead done (figures_of (p ∷ body) parameters unit to) ≡ ahead (done ++ listed figure) (figures_of body parameters unit to)
unfolding figures_of
one_more p body parameters unit to done figure h = rw (← h) (by (figures_of body parameters unit to))
  where
    by : (r : Result (List RealFigure) MacroFault) → ahead done (r >>= λ more. Ok (listed figure ++ more)) ≡ ahead (done ++ listed figure) r
    by (Ok more) = ap (λ (xs : List RealFigure). Ok xs) (sym (append_assoc done (listed figure) more))
    by (Err fault) = refl

stopped : (p : PlainPrimitive) (body : List PlainPrimitive) (parameters : List Fraction) (unit : Measure) (to : Spot) (done : List RealFigure) (fault : MacroFault) → Err fault ≡ primitive_figure p parameters unit to → ahead done (figures_of (p ∷ body) parameters unit to) ≡ Err fault
unfolding figures_of
stopped p body parameters unit to done fault h = rw (← h) refl

-- ---- Along a body

rest_is : {A : Type 0} (xs : List A) (i : ℕ) (d : A) → i < length xs → drop i xs ≡ get_or xs i d ∷ drop (i + 1) xs
rest_is xs i d h = rw (add-one, drop-cons xs i d h) refl

rest_at : (xs : List Primitive) (i : ℕ) (here : Primitive) → i < length xs → here ≡ get_or xs i here → drop i xs ≡ here ∷ drop (i + 1) xs
rest_at xs i here h at = rest_is xs i here h ∙ ap (λ (x : Primitive). x ∷ drop (i + 1) xs) (sym at)

none_left : {A : Type 0} (xs : List A) (i : ℕ) → length xs ≤ i → drop i xs ≡ []
none_left [] i h = grind (arith, common_steps)
none_left (x ∷ xs) i h = grind (arith, common_steps)

pub next_figure : (body : List Primitive) (i : ℕ) (here : Primitive) (parameters : List Fraction) (unit : Measure) (to : Spot) (done : List RealFigure) (figure : Option RealFigure) → i < length body → here ≡ get_or body i here → Ok figure ≡ primitive_figure (plain_primitive here) parameters unit to → figures_of (body_of body) parameters unit to ≡ ahead done (figures_of (body_of (drop i body)) parameters unit to) → figures_of (body_of body) parameters unit to ≡ ahead (done ++ listed figure) (figures_of (body_of (drop (i + 1) body)) parameters unit to)
next_figure body i here parameters unit to done figure h at is all =
    all ∙ ap (λ (xs : List Primitive). ahead done (figures_of (body_of xs) parameters unit to)) (rest_at body i here h at) ∙ one_more (plain_primitive here) (body_of (drop (i + 1) body)) parameters unit to done figure is

pub all_figures : (body : List Primitive) (i : ℕ) (parameters : List Fraction) (unit : Measure) (to : Spot) (done : List RealFigure) → length body ≤ i → figures_of (body_of body) parameters unit to ≡ ahead done (figures_of (body_of (drop i body)) parameters unit to) → figures_of (body_of body) parameters unit to ≡ Ok done
unfolding figures_of
all_figures body i parameters unit to done h all =
    all ∙ ap (λ (xs : List Primitive). ahead done (figures_of (body_of xs) parameters unit to)) (none_left body i h) ∙ ap (λ (xs : List RealFigure). Ok xs) (append-nil done)

pub no_figure : (body : List Primitive) (i : ℕ) (here : Primitive) (parameters : List Fraction) (unit : Measure) (to : Spot) (done : List RealFigure) (fault : FigureFault) → i < length body → here ≡ get_or body i here → Makes (Err fault) (primitive_figure (plain_primitive here) parameters unit to) → figures_of (body_of body) parameters unit to ≡ ahead done (figures_of (body_of (drop i body)) parameters unit to) → Stops (all_flashed (figures_of (body_of body) parameters unit to)) (figure_halt fault)
no_figure body i here parameters unit to done (figure.Macro fault) h at is all =
    ap all_flashed (all ∙ ap (λ (xs : List Primitive). ahead done (figures_of (body_of xs) parameters unit to)) (rest_at body i here h at) ∙ stopped (plain_primitive here) (body_of (drop (i + 1) body)) parameters unit to done fault is)
no_figure body i here parameters unit to done figure.NoMemory h at is all = tt

pub made_more : (p : Place) (n : ℕ) (done more : List RealFigure) (old new : List (PieceOf RealFigure)) → old ≡ made p n done → new ≡ old ++ made p n more → new ≡ made p n (done ++ more)
made_more p n done more old new a b = b ∙ ap (λ (xs : List (PieceOf RealFigure)). xs ++ made p n more) a ∙ sym (map-append (piece_of p n) done more)

-- ---- Judging along a body

pub next_judged : (body : List Primitive) (i : ℕ) (here : Primitive) (parameters : List Fraction) (unit : Measure) → i < length body → here ≡ get_or body i here → Ok tt ≡ judged Real (plain_primitive here) parameters unit → all_judged (body_of (drop i body)) parameters unit ≡ all_judged (body_of (drop (i + 1) body)) parameters unit
unfolding all_judged
next_judged body i here parameters unit h at is =
    ap (λ (xs : List Primitive). all_judged (body_of xs) parameters unit) (rest_at body i here h at) ∙ ap (λ (r : Result (Unit {0}) MacroFault). r >>= λ done. all_judged (body_of (drop (i + 1) body)) parameters unit) (sym is)

pub first_fault : (body : List Primitive) (i : ℕ) (here : Primitive) (parameters : List Fraction) (unit : Measure) (fault : MacroFault) → i < length body → here ≡ get_or body i here → Err fault ≡ judged Real (plain_primitive here) parameters unit → all_judged (body_of (drop i body)) parameters unit ≡ Err fault
unfolding all_judged
first_fault body i here parameters unit fault h at is =
    ap (λ (xs : List Primitive). all_judged (body_of xs) parameters unit) (rest_at body i here h at) ∙ ap (λ (r : Result (Unit {0}) MacroFault). r >>= λ done. all_judged (body_of (drop (i + 1) body)) parameters unit) (sym is)

pub none_faulty : (body : List Primitive) (i : ℕ) (parameters : List Fraction) (unit : Measure) → length body ≤ i → all_judged (body_of (drop i body)) parameters unit ≡ Ok tt
unfolding all_judged
none_faulty body i parameters unit h = ap (λ (xs : List Primitive). all_judged (body_of xs) parameters unit) (none_left body i h)
