-- What the objects of a layer may have, where their figures are known between bounds, and so what is surely and what is possibly copper.
use Rattle.std.specs.Prelude.{ℕ, ℤ, pos, ◌-ℤ◌, ◌+ℤ◌, ◌*ℤ◌, ◌≤ℤ◌, ◌<◌, ◌≡◌, ◌⊎◌, ◌↔◌, List, [], ◌∷◌, Option, Some, None, map, slice_get}
use Rattle.planar.specs.Plane.{Point, square}
use Rattle.board_shapes.specs.Figures.{Figure, InFigure, figure_of}
use Rattle.clear_polarity.specs.declared.LayerObject.{LayerObject}
use Rattle.clear_polarity.specs.declared.Polarity.{Polarity}
use Rattle.clear_polarity.specs.declared.Polarity.TheVariants.{Dark, Clear}

-- an object as plain data: its polarity, figures that lie in it, and figures that together hold it
pub record PlainObject : Type 0 where
  pub polarity : Polarity
  pub inner : List Figure
  pub outer : List Figure

abbrev pub plain_object : LayerObject → PlainObject
plain_object o = record { polarity = o.polarity; inner = map figure_of o.inner.items; outer = map figure_of o.outer.items }

abbrev pub plain_objects : List LayerObject → List PlainObject
plain_objects objects = map plain_object objects

-- the polarities of the objects, in their order
abbrev pub order_of : List PlainObject → List Polarity
order_of objects = map (λ (o : PlainObject). o.polarity) objects

-- the point lies in one of the figures
abbrev pub InSome : List Figure → Point → Type 0
InSome [] p = ⊥
InSome (f ∷ rest) p = InFigure f p ⊎ InSome rest p

-- ---- the border

-- two points are at most 1/k apart
abbrev pub AreClose : ℤ → Point → Point → Type 0
AreClose k p q = (square k *ℤ (square (q.n *ℤ p.x -ℤ p.n *ℤ q.x) +ℤ square (q.n *ℤ p.y -ℤ p.n *ℤ q.y))) ≤ℤ square (p.n *ℤ q.n)

-- The point lies inside the set, not on its border: so do all at most 1/k from it, for some k
pub record IsInside (holds : Point → Type 0) (p : Point) : Type 0 where
  pub k : ℤ
  pub positive : pos 1 ≤ℤ k
  pub around : (q : Point) → AreClose k p q → holds q

-- ---- readings

-- the object has all points of its inner figures, and none outside the outer ones
pub record IsObject (o : PlainObject) (holds : Point → Type 0) : Type 0 where
  pub least : (p : Point) → InSome o.inner p → holds p
  pub most : (p : Point) → holds p → InSome o.outer p

-- of the points that a clear object has it erases all inside, and of its border any
pub record Erases (holds erased : Point → Type 0) : Type 0 where
  pub inside : (p : Point) → IsInside holds p → erased p
  pub within : (p : Point) → erased p → holds p

-- a dark object adds all that it has, its border too
abbrev pub Marks : Polarity → (Point → Type 0) → (Point → Type 0) → Type 0
Marks Dark holds marks = (p : Point) → holds p ↔ marks p
Marks Clear holds marks = Erases holds marks

-- A reading of the layer: `holds i` is what object i has, `marks i` what it adds or erases of that
pub record IsReading (objects : List PlainObject) (holds marks : ℕ → Point → Type 0) : Type 0 where
  pub objects_are : (i : ℕ) (o : PlainObject) → slice_get objects i ≡ Some o → IsObject o (holds i)
  pub marked : (i : ℕ) (o : PlainObject) → slice_get objects i ≡ Some o → Marks o.polarity (holds i) (marks i)

-- ---- what holds of each reading

-- The point is surely copper: it lies in an inner figure of a dark object, and in no outer figure of a later clear one, its border included
pub record IsSurely (objects : List PlainObject) (p : Point) : Type 0 where
  pub number : ℕ
  pub object : PlainObject
  pub is : slice_get objects number ≡ Some object
  pub dark : object.polarity ≡ Dark
  pub held : InSome object.inner p
  pub kept : (j : ℕ) (later : PlainObject) → number < j → slice_get objects j ≡ Some later → later.polarity ≡ Clear → ¬ InSome later.outer p

-- The point is possibly copper: it lies in an outer figure of a dark object, and not inside the inner figures of a later clear one
pub record IsPossibly (objects : List PlainObject) (p : Point) : Type 0 where
  pub number : ℕ
  pub object : PlainObject
  pub is : slice_get objects number ≡ Some object
  pub dark : object.polarity ≡ Dark
  pub held : InSome object.outer p
  pub kept : (j : ℕ) (later : PlainObject) → number < j → slice_get objects j ≡ Some later → later.polarity ≡ Clear → ¬ IsInside (InSome later.inner) p

-- the inner figures of each object lie in its outer ones
abbrev pub AreKnown : List PlainObject → Type 0
AreKnown objects = (i : ℕ) (o : PlainObject) → slice_get objects i ≡ Some o → (p : Point) → InSome o.inner p → InSome o.outer p

-- ---- the least reading, and the most

abbrev pub by_polarity : Polarity → Type 0 → Type 0 → Type 0
by_polarity Dark dark clear = dark
by_polarity Clear dark clear = clear

-- dark objects have their inner figures, clear ones their outer, with the border
abbrev pub least_marks : Option PlainObject → Point → Type 0
least_marks None p = ⊥
least_marks (Some o) p = by_polarity o.polarity (InSome o.inner p) (InSome o.outer p)

-- dark objects have their outer figures, clear ones their inner
abbrev pub most_holds : Option PlainObject → Point → Type 0
most_holds None p = ⊥
most_holds (Some o) p = by_polarity o.polarity (InSome o.outer p) (InSome o.inner p)

-- and clear ones erase nothing of their border
abbrev pub most_marks : Option PlainObject → Point → Type 0
most_marks None p = ⊥
most_marks (Some o) p = by_polarity o.polarity (InSome o.outer p) (IsInside (InSome o.inner) p)
