-- What is surely copper is copper by each reading, and that is possibly copper; and both are read.
use Rattle.std.proofs.Common.{◌≡◌, ◌↔◌, ℕ, ℤ, pos, ◌+ℤ◌, ◌-ℤ◌, ◌*ℤ◌, ◌≤ℤ◌, List, Option, Some, None, option_map, slice_get, refl, sym, ap, subst, ◌∙◌, arith}
use Rattle.std.proofs.lemmas.Option.{same_Some, slice_get-map}
use Rattle.planar.specs.Plane.{Point, square}
use Rattle.planar.proofs.Ring.{linear, square_from_zero, times-zero}
use Rattle.board_shapes.specs.Figures.{Figure}
use Rattle.clear_polarity.specs.Layer.{IsCopper}
use Rattle.clear_polarity.specs.Laws.{LayersHaveCopper, LiesBetween}
use Rattle.clear_polarity.specs.Readings.{AreClose, AreKnown, Erases, InSome, IsInside, IsObject, IsPossibly, IsReading, IsSurely, Marks, PlainObject, by_polarity, least_marks, most_holds, most_marks, order_of}
use Rattle.clear_polarity.specs.declared.Polarity.{Polarity}
use Rattle.clear_polarity.specs.declared.Polarity.TheVariants.{Dark, Clear}

-- ---- objects by their numbers

abbrev polarity_of : PlainObject → Polarity
polarity_of o = o.polarity

none_is : {A : Type 0} (x : A) → None ≡ Some x → ⊥
none_is x e = cc

found_by : (objects : List PlainObject) (j : ℕ) (q : Polarity) (got : Option PlainObject) → slice_get objects j ≡ got → option_map polarity_of got ≡ Some q → (o : PlainObject) × (slice_get objects j ≡ Some o) × (o.polarity ≡ q)
found_by objects j q None g h = absurd (none_is q h)
found_by objects j q (Some o) g h = (o, g, same_Some o.polarity q h)

found : (objects : List PlainObject) (j : ℕ) (q : Polarity) → slice_get (order_of objects) j ≡ Some q → (o : PlainObject) × (slice_get objects j ≡ Some o) × (o.polarity ≡ q)
found objects j q e = found_by objects j q (slice_get objects j) refl (sym (slice_get-map polarity_of objects j) ∙ e)

at_object : (objects : List PlainObject) (i : ℕ) (o : PlainObject) (q : Polarity) → slice_get objects i ≡ Some o → o.polarity ≡ q → slice_get (order_of objects) i ≡ Some q
at_object objects i o q is same = slice_get-map polarity_of objects i ∙ ap (λ (got : Option PlainObject). option_map polarity_of got) is ∙ ap (λ (x : Polarity). Some x) same

-- ---- insides

close_by : (k a b c : ℤ) → a ≡ pos 0 → b ≡ pos 0 → (k *ℤ (square a +ℤ square b)) ≤ℤ square c
close_by k a b c e f =
    subst (λ (z : ℤ). (k *ℤ (square z +ℤ square b)) ≤ℤ square c) (sym e)
    (subst (λ (z : ℤ). (k *ℤ (square (pos 0) +ℤ square z)) ≤ℤ square c) (sym f)
    (subst (λ (z : ℤ). z ≤ℤ square c) (sym (times-zero k)) (square_from_zero c)))

no_way : (z : ℤ) → z -ℤ z ≡ pos 0
no_way z = omega (arith, linear)

close_self : (k : ℤ) (p : Point) → AreClose k p p
close_self k p = close_by (square k) (p.n *ℤ p.x -ℤ p.n *ℤ p.x) (p.n *ℤ p.y -ℤ p.n *ℤ p.y) (p.n *ℤ p.n) (no_way (p.n *ℤ p.x)) (no_way (p.n *ℤ p.y))

of_inside : (holds : Point → Type 0) (p : Point) → IsInside holds p → holds p
of_inside holds p i = i.around p (close_self i.k p)

wider : (P Q : Point → Type 0) (p : Point) → ((q : Point) → P q → Q q) → IsInside P p → IsInside Q p
wider P Q p f i = record { k = i.k; positive = i.positive; around = λ q close. f q (i.around q close) }

-- ---- each reading

module _ (objects : List PlainObject) (holds marks : ℕ → Point → Type 0) (r : IsReading objects holds marks) where
  added : (i : ℕ) (o : PlainObject) → slice_get objects i ≡ Some o → o.polarity ≡ Dark → (p : Point) → holds i p ↔ marks i p
  added i o is dark = subst (λ (q : Polarity). Marks q (holds i) (marks i)) dark (r.marked i o is)

  erased : (i : ℕ) (o : PlainObject) → slice_get objects i ≡ Some o → o.polarity ≡ Clear → Erases (holds i) (marks i)
  erased i o is clear = subst (λ (q : Polarity). Marks q (holds i) (marks i)) clear (r.marked i o is)

  least : (p : Point) → IsSurely objects p → IsCopper (order_of objects) marks p
  least p s = record {
    object = s.number;
    dark = at_object objects s.number s.object Dark s.is s.dark;
    marked = (added s.number s.object s.is s.dark p).0 ((r.objects_are s.number s.object s.is).least p s.held);
    kept = λ j after c m.
        let f = found objects j Clear c in
        let e : Erases (holds j) (marks j) = erased j f.0 f.1 f.2 in
        s.kept j f.0 after f.1 f.2 ((r.objects_are j f.0 f.1).most p (e.within p m));
  }

  most : (p : Point) → IsCopper (order_of objects) marks p → IsPossibly objects p
  most p c =
      let f = found objects c.object Dark c.dark in
      record {
        number = c.object;
        object = f.0;
        is = f.1;
        dark = f.2;
        held = (r.objects_are c.object f.0 f.1).most p ((added c.object f.0 f.1 f.2 p).1 c.marked);
        kept = λ j later after is clear i.
            let e : Erases (holds j) (marks j) = erased j later is clear in
            c.kept j after (at_object objects j later Clear is clear) (e.inside p (wider (InSome later.inner) (holds j) p (r.objects_are j later is).least i));
      }

pub lies_between : (holds marks : ℕ → Point → Type 0) (objects : List PlainObject) → IsReading objects holds marks → LiesBetween objects marks
lies_between holds marks objects r = record { least = least objects holds marks r; most = most objects holds marks r }

-- ---- the least reading and the most

least_by : (q : Polarity) (inner outer : List Figure) → ((p : Point) → InSome inner p → InSome outer p) → ((p : Point) → InSome inner p → by_polarity q (InSome inner p) (InSome outer p)) × ((p : Point) → by_polarity q (InSome inner p) (InSome outer p) → InSome outer p)
least_by Dark inner outer known = (λ p h. h, λ p h. known p h)
least_by Clear inner outer known = (λ p h. known p h, λ p h. h)

most_by : (q : Polarity) (inner outer : List Figure) → ((p : Point) → InSome inner p → InSome outer p) → ((p : Point) → InSome inner p → by_polarity q (InSome outer p) (InSome inner p)) × ((p : Point) → by_polarity q (InSome outer p) (InSome inner p) → InSome outer p)
most_by Dark inner outer known = (λ p h. known p h, λ p h. h)
most_by Clear inner outer known = (λ p h. h, λ p h. known p h)

least_object : (o : PlainObject) → ((p : Point) → InSome o.inner p → InSome o.outer p) → IsObject o (least_marks (Some o))
least_object o known = let b = least_by o.polarity o.inner o.outer known in record { least = b.0; most = b.1 }

most_object : (o : PlainObject) → ((p : Point) → InSome o.inner p → InSome o.outer p) → IsObject o (most_holds (Some o))
most_object o known = let b = most_by o.polarity o.inner o.outer known in record { least = b.0; most = b.1 }

all_marked : (q : Polarity) (holds : Point → Type 0) → Marks q holds holds
all_marked Dark holds = λ p. (λ h. h, λ h. h)
all_marked Clear holds = record { inside = λ p i. of_inside holds p i; within = λ p h. h }

most_marked : (q : Polarity) (inner outer : List Figure) → Marks q (λ p. by_polarity q (InSome outer p) (InSome inner p)) (λ p. by_polarity q (InSome outer p) (IsInside (InSome inner) p))
most_marked Dark inner outer = λ p. (λ h. h, λ h. h)
most_marked Clear inner outer = record { inside = λ p i. i; within = λ p i. of_inside (InSome inner) p i }

module _ (objects : List PlainObject) (known : AreKnown objects) where
  least_reading : IsReading objects (λ i. least_marks (slice_get objects i)) (λ i. least_marks (slice_get objects i))
  least_reading = record {
    objects_are = λ i o is. subst (λ (got : Option PlainObject). IsObject o (least_marks got)) (sym is) (least_object o (known i o is));
    marked = λ i o is. all_marked o.polarity (least_marks (slice_get objects i));
  }

  most_reading : IsReading objects (λ i. most_holds (slice_get objects i)) (λ i. most_marks (slice_get objects i))
  most_reading = record {
    objects_are = λ i o is. subst (λ (got : Option PlainObject). IsObject o (most_holds got)) (sym is) (most_object o (known i o is));
    marked = λ i o is. subst (λ (got : Option PlainObject). Marks o.polarity (most_holds got) (most_marks got)) (sym is) (most_marked o.polarity o.inner o.outer);
  }

  surely : (p : Point) → IsCopper (order_of objects) (λ i. least_marks (slice_get objects i)) p → IsSurely objects p
  surely p c =
      let f = found objects c.object Dark c.dark in
      record {
        number = c.object;
        object = f.0;
        is = f.1;
        dark = f.2;
        held = subst (λ (q : Polarity). by_polarity q (InSome f.0.inner p) (InSome f.0.outer p)) f.2 (subst (λ (got : Option PlainObject). least_marks got p) f.1 c.marked);
        kept = λ j later after is clear out. c.kept j after (at_object objects j later Clear is clear)
            (subst (λ (got : Option PlainObject). least_marks got p) (sym is) (subst (λ (q : Polarity). by_polarity q (InSome later.inner p) (InSome later.outer p)) (sym clear) out));
      }

  possibly : (p : Point) → IsPossibly objects p → IsCopper (order_of objects) (λ i. most_marks (slice_get objects i)) p
  possibly p s = record {
    object = s.number;
    dark = at_object objects s.number s.object Dark s.is s.dark;
    marked = subst (λ (got : Option PlainObject). most_marks got p) (sym s.is) (subst (λ (q : Polarity). by_polarity q (InSome s.object.outer p) (IsInside (InSome s.object.inner) p)) (sym s.dark) s.held);
    kept = λ j after c m.
        let f = found objects j Clear c in
        s.kept j f.0 after f.1 f.2 (subst (λ (q : Polarity). by_polarity q (InSome f.0.outer p) (IsInside (InSome f.0.inner) p)) f.2 (subst (λ (got : Option PlainObject). most_marks got p) f.1 m));
  }

pub have_copper : LayersHaveCopper
have_copper objects known = record {
  least = least_reading objects known;
  surely = λ p. (surely objects known p, least objects (λ i. least_marks (slice_get objects i)) (λ i. least_marks (slice_get objects i)) (least_reading objects known) p);
  most = most_reading objects known;
  possibly = λ p. (most objects (λ i. most_holds (slice_get objects i)) (λ i. most_marks (slice_get objects i)) (most_reading objects known) p, possibly objects known p);
}
