-- A closed contour whose corners lie in the rectangle lies in it.
use Rattle.std.proofs.Common.{◌≡◌, inl, inr, ℤ, pos, neg_ℤ, ◌+ℤ◌, ◌-ℤ◌, ◌*ℤ◌, ◌≤ℤ◌, List, [], ◌∷◌, arith}
use Rattle.planar.specs.declared.Spot.{Spot}
use Rattle.planar.specs.Plane.{Point, at, dot_of, square}
use Rattle.planar.proofs.Ring.{ring, linear, le_or_lt, times_from_zero, times_mono, square_from_zero, square-neg, one-times, mul-neg, mul-add_right}
use Rattle.board_shapes.specs.Figures.{InFigure, filled}
use Rattle.area_contact.specs.Contour.{InArea, IsClosed, edges_from, end_from}
use Rattle.area_contact.specs.Parity.{side_of}
use Rattle.slants.specs.Copper.{InSlant, along_of}
use Rattle.slants.specs.Taken.{Each, TakenBelow, band}
use Rattle.slants.specs.declared.Slant.{Slant}
use Rattle.slants.proofs.Halves.{Under, area_under}

pub each_as : {P Q : Spot → Type 0} → ((q : Spot) → P q → Q q) → (rest : List Spot) → Each P rest → Each Q rest
each_as to [] all = tt
each_as to (q ∷ rest) all = (to q all.0, each_as to rest all.1)

-- a number between b and -b
pub square_between : (a b : ℤ) → a ≤ℤ b → neg_ℤ a ≤ℤ b → square a ≤ℤ square b
square_between a b h k =
    let f : pos 0 ≤ℤ ((b -ℤ a) *ℤ (b +ℤ a)) = times_from_zero (b -ℤ a) (b +ℤ a) (omega (arith, linear)) (omega (arith, linear)) in
    omega (arith, linear, simp ring at f)

module _ (a : Slant) where
  abbrev twice : Spot → ℤ
  twice q = pos 2 *ℤ side_of a.start a.end q.x q.y (pos 1)

  -- a whole number that is at least twice the side of each corner, either way, and whose square is at most the band
  record Most (rest : List Spot) : Type 0 where
    most : ℤ
    from_zero : pos 0 ≤ℤ most
    under : square most ≤ℤ band a
    each : Each (λ q. (twice q ≤ℤ most) × (neg_ℤ (twice q) ≤ℤ most)) rest

  grown : (m n : ℤ) (rest : List Spot) → m ≤ℤ n → Each (λ q. (twice q ≤ℤ m) × (neg_ℤ (twice q) ≤ℤ m)) rest → Each (λ q. (twice q ≤ℤ n) × (neg_ℤ (twice q) ≤ℤ n)) rest
  grown m n rest h all = each_as (λ q k. (omega (arith, linear, k.0, h), omega (arith, linear, k.1, h))) rest all

  -- a corner more, which is v or -v off
  more : (q : Spot) (rest : List Spot) (v : ℤ) → pos 0 ≤ℤ v → square v ≤ℤ band a → twice q ≤ℤ v → neg_ℤ (twice q) ≤ℤ v → Most rest → Most (q ∷ rest)
  more q rest v from small one other m = elim (le_or_lt v m.most) [
    | inl l ↦ record { most = m.most; from_zero = m.from_zero; under = m.under; each = ((omega (arith, linear, one, l), omega (arith, linear, other, l)), m.each) }
    | inr l ↦ record { most = v; from_zero = from; under = small; each = ((one, other), grown m.most v rest (omega (arith, linear, l)) m.each) }
  ]

  most_of : (rest : List Spot) → pos 0 ≤ℤ band a → Each (λ q. square (twice q) ≤ℤ band a) rest → Most rest
  most_of [] h all = record { most = pos 0; from_zero = record { le = tt }; under = h; each = tt }
  most_of (q ∷ rest) h all = elim (le_or_lt (pos 0) (twice q)) [
    | inl l ↦ more q rest (twice q) l all.0 (omega (arith, linear)) (omega (arith, linear, l)) (most_of rest h all.1)
    | inr l ↦ more q rest (neg_ℤ (twice q)) (omega (arith, linear, l)) (rw (square-neg (twice q)) all.0) (omega (arith, linear, l)) (omega (arith, linear)) (most_of rest h all.1)
  ]

  -- ---- sums of products, as they stand in the definition

  along_is : (dx dy x y n sx sy : ℤ) → dx *ℤ (x -ℤ n *ℤ sx) +ℤ dy *ℤ (y -ℤ n *ℤ sy) ≡ (dx *ℤ x +ℤ dy *ℤ y) -ℤ n *ℤ (dx *ℤ sx +ℤ dy *ℤ sy)
  along_is dx dy x y n sx sy = simp ring (omega (arith, linear))

  back_is : (dx dy x y : ℤ) → neg_ℤ dx *ℤ x +ℤ neg_ℤ dy *ℤ y ≡ neg_ℤ (dx *ℤ x +ℤ dy *ℤ y)
  back_is dx dy x y = simp ring (omega (arith, linear))

  side_is : (dx dy x y n sx sy : ℤ) → pos 2 *ℤ (dx *ℤ (y -ℤ n *ℤ sy) +ℤ (n *ℤ sx -ℤ x) *ℤ dy) ≡ ((pos 2 *ℤ neg_ℤ dy) *ℤ x +ℤ (pos 2 *ℤ dx) *ℤ y) -ℤ n *ℤ ((pos 2 *ℤ neg_ℤ dy) *ℤ sx +ℤ (pos 2 *ℤ dx) *ℤ sy)
  side_is dx dy x y n sx sy = simp ring (omega (arith, linear))

  abbrev dx : ℤ
  dx = a.end.x -ℤ a.start.x

  abbrev dy : ℤ
  dy = a.end.y -ℤ a.start.y

  abbrev whole : ℤ
  whole = dot_of a.start a.end a.end

  -- along the line, and across it, from 0 on
  abbrev along_start : ℤ
  along_start = dx *ℤ a.start.x +ℤ dy *ℤ a.start.y

  abbrev across_start : ℤ
  across_start = (pos 2 *ℤ neg_ℤ dy) *ℤ a.start.x +ℤ (pos 2 *ℤ dx) *ℤ a.start.y

  along_at : (p : Point) → along_of a.start a.end p ≡ (dx *ℤ p.x +ℤ dy *ℤ p.y) -ℤ p.n *ℤ along_start
  along_at p = along_is dx dy p.x p.y p.n a.start.x a.start.y

  across_at : (p : Point) → pos 2 *ℤ side_of a.start a.end p.x p.y p.n ≡ ((pos 2 *ℤ neg_ℤ dy) *ℤ p.x +ℤ (pos 2 *ℤ dx) *ℤ p.y) -ℤ p.n *ℤ across_start
  across_at p = side_is dx dy p.x p.y p.n a.start.x a.start.y

  -- ---- the four sides, by the corners

  behind : (q : Spot) → InSlant a (at q) → Under (neg_ℤ dx) (neg_ℤ dy) (neg_ℤ along_start) q
  behind q k = omega (arith, linear, k.from_start, along_at (at q), one-times along_start, back_is dx dy q.x q.y)

  before : (q : Spot) → InSlant a (at q) → Under dx dy (whole +ℤ along_start) q
  before q k = omega (arith, linear, k.to_end, along_at (at q), one-times along_start, one-times whole)

  on_left : (most : ℤ) (q : Spot) → (twice q ≤ℤ most) × (neg_ℤ (twice q) ≤ℤ most) → Under (pos 2 *ℤ neg_ℤ dy) (pos 2 *ℤ dx) (most +ℤ across_start) q
  on_left most q k = omega (arith, linear, k.0, across_at (at q), one-times across_start)

  on_right : (most : ℤ) (q : Spot) → (twice q ≤ℤ most) × (neg_ℤ (twice q) ≤ℤ most) → Under (neg_ℤ (pos 2 *ℤ neg_ℤ dy)) (neg_ℤ (pos 2 *ℤ dx)) (most -ℤ across_start) q
  on_right most q k = omega (arith, linear, k.1, across_at (at q), one-times across_start, back_is (pos 2 *ℤ neg_ℤ dy) (pos 2 *ℤ dx) q.x q.y)

  module _ (b : Spot) (rest : List Spot) (p : Point) (closed : end_from b rest ≡ b) (first : InSlant a (at b)) (others : Each (λ q. InSlant a (at q)) rest) (inside : InArea (edges_from b rest) p) where
    starts : pos 0 ≤ℤ along_of a.start a.end p
    starts =
        let l : (neg_ℤ dx *ℤ p.x +ℤ neg_ℤ dy *ℤ p.y) ≤ℤ (p.n *ℤ neg_ℤ along_start) = area_under (neg_ℤ dx) (neg_ℤ dy) (neg_ℤ along_start) b rest p closed (behind b first) (each_as behind rest others) inside in
        omega (arith, linear, l, along_at p, mul-neg p.n along_start, back_is dx dy p.x p.y)

    ends : along_of a.start a.end p ≤ℤ (p.n *ℤ whole)
    ends =
        let l : (dx *ℤ p.x +ℤ dy *ℤ p.y) ≤ℤ (p.n *ℤ (whole +ℤ along_start)) = area_under dx dy (whole +ℤ along_start) b rest p closed (before b first) (each_as before rest others) inside in
        omega (arith, linear, l, along_at p, mul-add_right p.n whole along_start)

    module _ (m : Most (b ∷ rest)) where
      lefts : (pos 2 *ℤ side_of a.start a.end p.x p.y p.n) ≤ℤ (p.n *ℤ m.most)
      lefts =
          let l : ((pos 2 *ℤ neg_ℤ dy) *ℤ p.x +ℤ (pos 2 *ℤ dx) *ℤ p.y) ≤ℤ (p.n *ℤ (m.most +ℤ across_start)) =
          area_under (pos 2 *ℤ neg_ℤ dy) (pos 2 *ℤ dx) (m.most +ℤ across_start) b rest p closed (on_left m.most b m.each.0) (each_as (on_left m.most) rest m.each.1) inside in
          omega (arith, linear, l, across_at p, mul-add_right p.n m.most across_start)

      rights : neg_ℤ (pos 2 *ℤ side_of a.start a.end p.x p.y p.n) ≤ℤ (p.n *ℤ m.most)
      rights =
          let l : (neg_ℤ (pos 2 *ℤ neg_ℤ dy) *ℤ p.x +ℤ neg_ℤ (pos 2 *ℤ dx) *ℤ p.y) ≤ℤ (p.n *ℤ (m.most -ℤ across_start)) =
          area_under (neg_ℤ (pos 2 *ℤ neg_ℤ dy)) (neg_ℤ (pos 2 *ℤ dx)) (m.most -ℤ across_start) b rest p closed (on_right m.most b m.each.0) (each_as (on_right m.most) rest m.each.1) inside in
          omega (arith, linear, l, across_at p, parted p.n m.most across_start, back_is (pos 2 *ℤ neg_ℤ dy) (pos 2 *ℤ dx) p.x p.y)
        where
          parted : (n u v : ℤ) → n *ℤ (u -ℤ v) ≡ n *ℤ u -ℤ n *ℤ v
          parted n u v = simp ring

      near : square (pos 2 *ℤ side_of a.start a.end p.x p.y p.n) ≤ℤ (square (p.n *ℤ pos a.width) *ℤ whole)
      near =
          let f : square (pos 2 *ℤ side_of a.start a.end p.x p.y p.n) ≤ℤ square (p.n *ℤ m.most) = square_between (pos 2 *ℤ side_of a.start a.end p.x p.y p.n) (p.n *ℤ m.most) lefts rights in
          let g : (square p.n *ℤ square m.most) ≤ℤ (square p.n *ℤ band a) = times_mono (square p.n) (square m.most) (band a) (square_from_zero p.n) m.under in
          omega (arith, linear, f, g, squared p.n m.most, stretched p.n (pos a.width) whole)
        where
          squared : (n u : ℤ) → square (n *ℤ u) ≡ square n *ℤ square u
          squared n u = simp ring

          stretched : (n w d : ℤ) → square (n *ℤ w) *ℤ d ≡ square n *ℤ (square w *ℤ d)
          stretched n w d = simp ring

    -- the square of twice a corner's side
    corner_near : (q : Spot) → InSlant a (at q) → square (twice q) ≤ℤ band a
    corner_near q k = omega (arith, linear, k.beside, one (pos a.width) whole)
      where
        one : (w d : ℤ) → square (pos 1 *ℤ w) *ℤ d ≡ square w *ℤ d
        one w d = simp ring

    inside_slant : InSlant a p
    inside_slant =
        let from : pos 0 ≤ℤ band a = times_from_zero (square (pos a.width)) whole (square_from_zero (pos a.width)) (omega (arith, linear, first.apart)) in
        record { apart = first.apart; from_start = starts; to_end = ends; beside = near (most_of (b ∷ rest) from (each_as corner_near (b ∷ rest) (first, others))) }

pub corners_lie : (a : Slant) (points : List Spot) (p : Point) → IsClosed points → Each (λ q. InSlant a (at q)) points → InFigure (filled points) p → InSlant a p
corners_lie a [] p closed all (inl k) = absurd k
corners_lie a [] p closed all (inr k) = absurd k
corners_lie a (b ∷ rest) p closed all k = inside_slant a b rest p closed all.0 all.1 k

pub below_lies : (a : Slant) (points : List Spot) (p : Point) → TakenBelow a points → InFigure (filled points) p → InSlant a p
below_lies a points p t k = corners_lie a points p t.closed t.corners k
