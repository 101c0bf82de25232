-- Pieces that are taken bound the copper by each reading.
use Rattle.std.proofs.Common.{◌≡◌, inl, inr, ℕ, zero, suc, ◌≤◌, ◌+◌, List, [], ◌∷◌, ◌++◌, map, drop, get_or, All, Option, Some, None, option_map, slice_get, refl, sym, ap, subst, ◌∙◌, arith}
use Rattle.std.proofs.lemmas.List.Elements.{All-head, All-tail}
use Rattle.std.proofs.lemmas.Option.{get_or_from_slice_get, same_Some, slice_get-map, slice_get_within}
use Rattle.planar.specs.Plane.{Point}
use Rattle.planar.specs.declared.Frame.{Frame}
use Rattle.board_shapes.specs.Figures.{Figure, InFigure, figure_of}
use Rattle.board_shapes.specs.Shapes.{lawful}
use Rattle.board_shapes.specs.declared.shape.Shape.{Shape}
use Rattle.clear_polarity.specs.Laws.{BoundsLieBetween, LiesBetween}
use Rattle.clear_polarity.specs.Readings.{InSome, IsPossibly, IsSurely, PlainObject, plain_object, plain_objects}
use Rattle.clear_polarity.specs.Taken.{AreApart, AreHeld, IsLeft, Spares, SparesBy, dark_figures, dark_ones}
use Rattle.clear_polarity.specs.declared.LayerObject.{LayerObject}
use Rattle.clear_polarity.specs.declared.LowerPiece.{LowerPiece}
use Rattle.clear_polarity.specs.declared.Polarity.{Polarity}
use Rattle.clear_polarity.specs.declared.Polarity.TheVariants.{Dark, Clear}
use Rattle.clear_polarity.proofs.Between.{lies_between}
use Rattle.clear_polarity.proofs.Inside.{lies_in}

-- ---- lists

nothing : {A : Type 0} (x : A) → None ≡ Some x → ⊥
nothing x e = cc

pub all_at : {A : Type 0} (P : A → Type 0) (xs : List A) (j : ℕ) (x : A) → All P xs → slice_get xs j ≡ Some x → P x
all_at P xs j x all is = subst P (get_or_from_slice_get xs j x x is) (all j x (slice_get_within xs j x is))

after_drop : {A : Type 0} (P : A → Type 0) (n : ℕ) (xs : List A) (j : ℕ) (x : A) → All P (drop n xs) → n ≤ j → slice_get xs j ≡ Some x → P x
after_drop P zero xs j x all from is = all_at P xs j x all is
after_drop P (suc n) [] j x all from is = absurd (nothing x is)
after_drop P (suc n) (y ∷ xs) zero x all from is = absurd (omega (arith, from))
after_drop P (suc n) (y ∷ xs) (suc j) x all from is = after_drop P n xs j x all (omega (arith, from)) is

in_left : (p : Point) (fs gs : List Figure) → InSome fs p → InSome (fs ++ gs) p
in_left p [] gs h = absurd h
in_left p (f ∷ fs) gs (inl h) = inl h
in_left p (f ∷ fs) gs (inr h) = inr (in_left p fs gs h)

in_right : (p : Point) (fs gs : List Figure) → InSome gs p → InSome (fs ++ gs) p
in_right p [] gs h = h
in_right p (f ∷ fs) gs h = inr (in_right p fs gs h)

in_some : (p : Point) (shapes : List Shape) (k : ℕ) (s : Shape) → slice_get shapes k ≡ Some s → InFigure (figure_of s) p → InSome (map figure_of shapes) p
in_some p [] k s is h = absurd (nothing s is)
in_some p (t ∷ shapes) zero s is h = inl (subst (λ (x : Shape). InFigure (figure_of x) p) (sym (same_Some t s is)) h)
in_some p (t ∷ shapes) (suc k) s is h = inr (in_some p shapes k s is h)

-- the object whose plain data stand at a number
plain_by : (objects : List LayerObject) (j : ℕ) (later : PlainObject) (got : Option LayerObject) → slice_get objects j ≡ got → option_map plain_object got ≡ Some later → (o : LayerObject) × (slice_get objects j ≡ Some o) × (plain_object o ≡ later)
plain_by objects j later None g h = absurd (nothing later h)
plain_by objects j later (Some o) g h = (o, g, same_Some (plain_object o) later h)

plain_at : (objects : List LayerObject) (j : ℕ) (later : PlainObject) → slice_get (plain_objects objects) j ≡ Some later → (o : LayerObject) × (slice_get objects j ≡ Some o) × (plain_object o ≡ later)
plain_at objects j later e = plain_by objects j later (slice_get objects j) refl (sym (slice_get-map plain_object objects j) ∙ e)

-- ---- below

none_of : (frame : Frame) (f : Figure) (p : Point) (shapes : List Shape) → All (λ (s : Shape). AreApart frame f (figure_of s)) shapes → InFigure f p → InSome (map figure_of shapes) p → ⊥
none_of frame f p [] all h k = absurd k
none_of frame f p (s ∷ shapes) all h (inl k) = (All-head (λ (t : Shape). AreApart frame f (figure_of t)) s shapes all).apart (record { point = p; in_first = h; in_second = k })
none_of frame f p (s ∷ shapes) all h (inr k) = none_of frame f p shapes (All-tail (λ (t : Shape). AreApart frame f (figure_of t)) s shapes all) h k

spared : (frame : Frame) (f : Figure) (p : Point) (o : LayerObject) → Spares frame f o → o.polarity ≡ Clear → InFigure f p → InSome (map figure_of o.outer.items) p → ⊥
spared frame f p o s clear h k = none_of frame f p o.outer.items (subst (λ (q : Polarity). SparesBy q (All (λ (t : Shape). AreApart frame f (figure_of t)) o.outer.items)) clear s) h k

left : (frame : Frame) (objects : List LayerObject) (piece : LowerPiece) → IsLeft frame objects piece → (p : Point) → InFigure (figure_of piece.shape) p → IsSurely (plain_objects objects) p
left frame objects piece l p h = record {
  number = piece.object;
  object = plain_object l.object;
  is = slice_get-map plain_object objects piece.object ∙ ap (λ (got : Option LayerObject). option_map plain_object got) l.object_is;
  dark = l.dark;
  held = in_some p l.object.inner.items piece.figure l.figure l.figure_is (lies_in frame (figure_of piece.shape) (figure_of l.figure) p (lawful piece.shape) (lawful l.figure) l.lies h);
  kept = λ j later after is clear out.
      let f = plain_at objects j later is in
      spared frame (figure_of piece.shape) p f.0 (after_drop (Spares frame (figure_of piece.shape)) (piece.object + 1) objects j f.0 l.spared (omega (arith, after)) f.1) (ap (λ (o : PlainObject). o.polarity) f.2 ∙ clear) h
      (subst (λ (o : PlainObject). InSome o.outer p) (sym f.2) out);
}

-- ---- above

in_dark : (p : Point) (objects : List LayerObject) (i : ℕ) (o : LayerObject) → slice_get objects i ≡ Some o → o.polarity ≡ Dark → InSome (map figure_of o.outer.items) p → InSome (dark_figures objects) p
in_dark p [] i o is dark h = absurd (nothing o is)
in_dark p (x ∷ objects) zero o is dark h =
    let same : x ≡ o = same_Some x o is in
    in_left p (dark_ones x.polarity (map figure_of x.outer.items)) (dark_figures objects)
    (subst (λ (y : LayerObject). InSome (dark_ones y.polarity (map figure_of y.outer.items)) p) (sym same) (subst (λ (q : Polarity). InSome (dark_ones q (map figure_of o.outer.items)) p) (sym dark) h))
in_dark p (x ∷ objects) (suc i) o is dark h = in_right p (dark_ones x.polarity (map figure_of x.outer.items)) (dark_figures objects) (in_dark p objects i o is dark h)

held : (objects : List LayerObject) (upper : List Shape) → AreHeld objects upper → (p : Point) → IsPossibly (plain_objects objects) p → InSome (map figure_of upper) p
held objects upper are p s =
    let f = plain_at objects s.number s.object s.is in
    subst (λ (figures : List Figure). InSome figures p) (sym are)
    (in_dark p objects s.number f.0 f.1 (ap (λ (o : PlainObject). o.polarity) f.2 ∙ s.dark) (subst (λ (o : PlainObject). InSome o.outer p) (sym f.2) s.held))

pub bounds : (holds marks : ℕ → Point → Type 0) → BoundsLieBetween holds marks
bounds holds marks frame lower objects upper r taken are =
    let b : LiesBetween (plain_objects objects) marks = lies_between holds marks (plain_objects objects) r in
    record {
      below = λ i d within p h. b.least p (left frame objects (get_or lower i d) (taken i d within) p h);
      above = λ p c. held objects upper are p (b.most p c);
    }
