-- Two boards bound a real one or they do not, for one reason.
use Rattle.std.proofs.Common.{◌≡◌, inl, inr, ◌↔◌, ℕ, suc, zero, ◌+◌, ◌<◌, List, [], ◌∷◌, length, map, Some, All, slice_get, ap, refl, subst, sym, ◌∙◌, arith}
use Rattle.std.proofs.lemmas.List.{length-map}
use Rattle.arc_covers.specs.Bounds.{AddUp, ContourFor, IsOn, figures_of, share_of}
use Rattle.arc_covers.specs.Faults.{AreFirstOff, IsFirstFault, on_side}
use Rattle.arc_covers.specs.RealBoards.{IsCopperOf, IsReal, real_span}
use Rattle.arc_covers.specs.Taken.{FirstTaken, PiecesAreTaken, StandTaken, TurnedTaken}
use Rattle.arc_covers.specs.declared.between.BoundsFault.TheVariants as fault
use Rattle.arc_covers.specs.declared.side.Side.{Side}
use Rattle.arc_covers.specs.declared.side.Side.TheVariants.{Below, Above}
use Rattle.arc_covers.specs.Eighths.{LiesBelow}
use Rattle.arc_covers.specs.Regions.{RegionAbove}
use Rattle.arc_regions.specs.Copper as regions
use Rattle.real_copper.specs.Figures.{RealFigure, exact, arc, line, region, turned, turned_disc, polygon, odd, holed}
use Rattle.real_copper.specs.Shapes.{PlainReal, plain_real, plain_reals, real_figure}
use Rattle.real_shapes.specs.declared.RealShape.{RealShape}
use Rattle.real_shapes.specs.declared.RealShape.TheVariants.{Plain, ArcDraw, Slanted, Region, Turned, TurnedDisc, Polygon, Fine, Holed}
use Rattle.board_shapes.specs.Figures.{Figure, InFigure}
use Rattle.board_shapes.specs.Pieces.{PlainPiece}
use Rattle.board_shapes.specs.Plain.{PlainBoard}
use Rattle.board_shapes.specs.declared.placed.Origin.{Origin}
use Rattle.board_shapes.specs.declared.placed.Placed.{Placed}
use Rattle.boardnet.proofs.Sound.{OneOutcome}
use Rattle.boardnet.specs.Bounded.{AreBoundedBy, AreCounted, AreNotTaken, ComesFrom, IsUnboundBy}
use Rattle.boardnet.specs.declared.unbound.Unbound.{Unbound}
use Rattle.boardnet.specs.declared.unbound.Unbound.TheVariants.{NotCounts, Netlist, Counts, Piece}
use Rattle.covers.specs.Boards.{Layout}
use Rattle.planar.specs.Plane.{Point}
use Rattle.slants.specs.Cones.{IsTurnedCopper}
use Rattle.real_package.specs.RealBoards.{PlainRealBoard}
use Rattle.verdict.proofs.Holding.{le_or_lt}

-- ---- Real pieces that differ at most in where their points lie in memory

-- piece i of the one list is one of the other
pub piece_at : (xs ys : List (Placed RealShape)) → plain_reals xs ≡ plain_reals ys → (i : ℕ) (x : Placed RealShape) → slice_get xs i ≡ Some x → (y : Placed RealShape) × (slice_get ys i ≡ Some y) × (plain_real x ≡ plain_real y)
piece_at [] ys e i x at = absurd cc
piece_at (a ∷ xs) [] e i x at = absurd cc
piece_at (a ∷ xs) (b ∷ ys) e zero x at = (b, refl, let same : a ≡ x = cc in ap plain_real (sym same) ∙ cc e)
piece_at (a ∷ xs) (b ∷ ys) e (suc i) x at = piece_at xs ys (cc e) i x at

as_many : (xs ys : List (Placed RealShape)) → plain_reals xs ≡ plain_reals ys → length xs ≡ length ys
as_many xs ys e = let p = length-map xs plain_real in let q = length-map ys plain_real in let r = ap length e in omega (arith, p, q, r)

-- what stands for a piece, by its figure alone
abbrev StandBy : Side → RealFigure → List Figure → Type 0
StandBy side (exact figure) figures = figures ≡ figure ∷ []
StandBy side (arc a) figures = StandTaken side (ArcDraw a) figures
StandBy side (line a) figures = StandTaken side (Slanted a) figures
StandBy Below (region begins parts) figures = ContourFor Below (LiesBelow begins parts) figures
StandBy Above (region begins parts) figures = RegionAbove begins parts figures
StandBy side (turned contour about angle) figures = TurnedTaken side contour about angle figures
StandBy side (turned_disc disc) figures = StandTaken side (TurnedDisc disc) figures
StandBy side (polygon g) figures = StandTaken side (Polygon g) figures
StandBy side (odd f) figures = StandTaken side (Fine f) figures
StandBy side (holed h) figures = StandTaken side (Holed h) figures

stand_by : (side : Side) (s : RealShape) (figures : List Figure) → StandTaken side s figures ↔ StandBy side (real_figure s) figures
stand_by side (Plain s) figures = (λ h. h, λ h. h)
stand_by side (ArcDraw a) figures = (λ h. h, λ h. h)
stand_by side (Slanted a) figures = (λ h. h, λ h. h)
stand_by Below (Region a) figures = (λ h. h, λ h. h)
stand_by Above (Region a) figures = (λ h. h, λ h. h)
stand_by side (Turned t) figures = (λ h. h, λ h. h)
stand_by side (TurnedDisc d) figures = (λ h. h, λ h. h)
stand_by side (Polygon g) figures = (λ h. h, λ h. h)
stand_by side (Fine f) figures = (λ h. h, λ h. h)
stand_by side (Holed f) figures = (λ h. h, λ h. h)

stand_alike : (side : Side) (s t : RealShape) (figures : List Figure) → real_figure s ≡ real_figure t → StandTaken side s figures → StandTaken side t figures
stand_alike side s t figures e h = (stand_by side t figures).1 (subst (λ (f : RealFigure). StandBy side f figures) e ((stand_by side s figures).0 h))

taken_alike : (side : Side) (x y : Placed RealShape) (pieces : List PlainPiece) → plain_real x ≡ plain_real y → PiecesAreTaken side x pieces → PiecesAreTaken side y pieces
taken_alike side x y pieces e h = record {
  figures = stand_alike side x.shape y.shape (figures_of pieces) (ap (λ (p : PlainReal). p.figure) e) h.figures;
  layers =
      let top : x.top ≡ y.top = ap (λ (p : PlainReal). p.top) e in
      let bottom : x.bottom ≡ y.bottom = ap (λ (p : PlainReal). p.bottom) e in
      subst (λ (b : ℕ). All (IsOn y.top b) pieces) bottom (subst (λ (t : ℕ). All (IsOn t x.bottom) pieces) top h.layers);
}

abbrev CopperBy : RealFigure → (Point → Type 0) → Type 0
CopperBy (exact figure) holds = (p : Point) → InFigure figure p ↔ holds p
CopperBy (arc a) holds = IsCopperOf (ArcDraw a) holds
CopperBy (line a) holds = IsCopperOf (Slanted a) holds
CopperBy (region begins parts) holds = regions.IsCopper begins parts holds
CopperBy (turned contour about angle) holds = IsTurnedCopper contour about angle holds
CopperBy (turned_disc disc) holds = IsCopperOf (TurnedDisc disc) holds
CopperBy (polygon g) holds = IsCopperOf (Polygon g) holds
CopperBy (odd f) holds = IsCopperOf (Fine f) holds
CopperBy (holed h) holds = IsCopperOf (Holed h) holds

copper_by : (s : RealShape) (holds : Point → Type 0) → IsCopperOf s holds ↔ CopperBy (real_figure s) holds
copper_by (Plain s) holds = (λ h. h, λ h. h)
copper_by (ArcDraw a) holds = (λ h. h, λ h. h)
copper_by (Slanted a) holds = (λ h. h, λ h. h)
copper_by (Region a) holds = (λ h. h, λ h. h)
copper_by (Turned t) holds = (λ h. h, λ h. h)
copper_by (TurnedDisc d) holds = (λ h. h, λ h. h)
copper_by (Polygon g) holds = (λ h. h, λ h. h)
copper_by (Fine f) holds = (λ h. h, λ h. h)
copper_by (Holed f) holds = (λ h. h, λ h. h)

copper_alike : (s t : RealShape) (holds : Point → Type 0) → real_figure s ≡ real_figure t → IsCopperOf s holds → IsCopperOf t holds
copper_alike s t holds e h = (copper_by t holds).1 (subst (λ (f : RealFigure). CopperBy f holds) e ((copper_by s holds).0 h))

spans_alike : (xs ys : List (Placed RealShape)) → plain_reals xs ≡ plain_reals ys → map real_span xs ≡ map real_span ys
spans_alike [] [] e = refl
spans_alike [] (b ∷ ys) e = absurd cc
spans_alike (a ∷ xs) [] e = absurd cc
spans_alike (a ∷ xs) (b ∷ ys) e =
    let one : plain_real a ≡ plain_real b = cc e in
    let more : map real_span xs ≡ map real_span ys = spans_alike xs ys (cc e) in
    let top : a.top ≡ b.top = ap (λ (p : PlainReal). p.top) one in
    let bottom : a.bottom ≡ b.bottom = ap (λ (p : PlainReal). p.bottom) one in
    cc (top, bottom, more)

-- a board of the one pieces is one of the other
pub real_alike : (xs ys : List (Placed RealShape)) (holds : ℕ → Point → Type 0) (b : Layout) → plain_reals xs ≡ plain_reals ys → IsReal xs holds b → IsReal ys holds b
real_alike xs ys holds b e h = record {
  spans = h.spans ∙ spans_alike xs ys e;
  copper = λ i y at. let found = piece_at ys xs (sym e) i y at in copper_alike found.0.shape y.shape (holds i) (ap (λ (p : PlainReal). p.figure) (sym found.2)) (h.copper i found.0 found.1);
}

-- ---- Bounds or a reason

-- the same counts and pieces
counts_one : OneOutcome → (real : PlainRealBoard) (lower upper : PlainBoard) (bytes : List ℕ) (c d : AreCounted real lower upper bytes) → (c.lower_counts ≡ d.lower_counts) × (c.upper_counts ≡ d.upper_counts)
counts_one law real lower upper bytes c d = law.counts bytes c.lower_counts c.upper_counts d.lower_counts d.upper_counts c.counts d.counts

pieces_one : (real : PlainRealBoard) (lower upper : PlainBoard) (bytes : List ℕ) (c d : AreCounted real lower upper bytes) → plain_reals c.pieces ≡ plain_reals d.pieces
pieces_one real lower upper bytes c d = c.are ∙ sym d.are

add_alike : (xs ys : List (Placed RealShape)) (counts : List ℕ) (pieces : List PlainPiece) → plain_reals xs ≡ plain_reals ys → AddUp xs counts pieces → AddUp ys counts pieces
add_alike xs ys counts pieces e h = record { each = h.each ∙ as_many xs ys e; all = h.all }

-- what is taken of piece i of the one list is taken of that of the other
first_alike : (side : Side) (n i : ℕ) (xs ys : List (Placed RealShape)) (counts : List ℕ) (pieces : List PlainPiece) (y : Placed RealShape) → plain_reals xs ≡ plain_reals ys → i < n → slice_get ys i ≡ Some y → FirstTaken side n xs counts pieces → PiecesAreTaken side y (share_of counts pieces i)
first_alike side n i xs ys counts pieces y e below at h =
    let found = piece_at ys xs (sym e) i y at in
    taken_alike side found.0 y (share_of counts pieces i) (sym found.2) (h i found.0 below found.1)

-- where all are taken there is no fault
no_off : (side : Side) (xs ys : List (Placed RealShape)) (lc : List ℕ) (lower : List PlainPiece) (uc : List ℕ) (upper : List PlainPiece) → plain_reals xs ≡ plain_reals ys → AddUp xs lc lower → AddUp xs uc upper → AreFirstOff side ys lc lower uc upper → ⊥
no_off Below xs ys lc lower uc upper e a b off = off (add_alike xs ys lc lower e a)
no_off Above xs ys lc lower uc upper e a b off = off.1 (add_alike xs ys uc upper e b)

within : (xs : List (Placed RealShape)) (i : ℕ) (x : Placed RealShape) → slice_get xs i ≡ Some x → i < length xs
within [] i x at = absurd cc
within (a ∷ xs) zero x at = omega arith
within (a ∷ xs) (suc i) x at = let more = within xs i x at in omega (arith, more)

no_fault : (side : Side) (n : ℕ) (xs ys : List (Placed RealShape)) (lc : List ℕ) (lower : List PlainPiece) (uc : List ℕ) (upper : List PlainPiece) → plain_reals xs ≡ plain_reals ys → FirstTaken Below (length xs) xs lc lower → FirstTaken Above (length xs) xs uc upper → IsFirstFault side n ys lc lower uc upper → ⊥
no_fault Below n xs ys lc lower uc upper e a b h = h.refused (first_alike Below (length xs) n xs ys lc lower h.piece e (let in_ys = within ys n h.piece h.there in let same = as_many xs ys e in omega (arith, in_ys, same)) h.there a)
no_fault Above n xs ys lc lower uc upper e a b h = h.refused (first_alike Above (length xs) n xs ys uc upper h.piece e (let in_ys = within ys n h.piece h.there in let same = as_many xs ys e in omega (arith, in_ys, same)) h.there b)

-- boards that bound a real one do so
pub no_reason : OneOutcome → (real : PlainRealBoard) (lower upper : PlainBoard) (bytes : List ℕ) (why : Unbound) → IsUnboundBy real lower upper bytes why → AreBoundedBy real lower upper bytes → ⊥
no_reason law real lower upper bytes (NotCounts n) h b = law.no_other bytes b.counted.lower_counts b.counted.upper_counts n b.counted.counts h
no_reason law real lower upper bytes (Netlist Below) h b = h.1 b.counted.lower_netlist
no_reason law real lower upper bytes (Netlist Above) h b = h.1.1 b.counted.upper_netlist
no_reason law real lower upper bytes (Counts side) h b =
    let same = counts_one law real lower upper bytes b.counted h.counted in
    no_off side b.counted.pieces h.counted.pieces h.counted.lower_counts lower.pieces h.counted.upper_counts upper.pieces (pieces_one real lower upper bytes b.counted h.counted)
    (subst (λ (c : List ℕ). AddUp b.counted.pieces c lower.pieces) same.0 b.below.counted) (subst (λ (c : List ℕ). AddUp b.counted.pieces c upper.pieces) same.1 b.above.counted) h.off
no_reason law real lower upper bytes (Piece side origin) (n, h, from) b =
    let same = counts_one law real lower upper bytes b.counted h.counted in
    no_fault side n b.counted.pieces h.counted.pieces h.counted.lower_counts lower.pieces h.counted.upper_counts upper.pieces (pieces_one real lower upper bytes b.counted h.counted)
    (subst (λ (c : List ℕ). FirstTaken Below (length b.counted.pieces) b.counted.pieces c lower.pieces) same.0 b.below.taken) (subst (λ (c : List ℕ). FirstTaken Above (length b.counted.pieces) b.counted.pieces c upper.pieces) same.1 b.above.taken) h.off

-- ---- One reason

-- the fault of one list is that of another
off_alike : (side : Side) (xs ys : List (Placed RealShape)) (lc : List ℕ) (lower : List PlainPiece) (uc : List ℕ) (upper : List PlainPiece) → plain_reals xs ≡ plain_reals ys → AreFirstOff side xs lc lower uc upper → AreFirstOff side ys lc lower uc upper
off_alike Below xs ys lc lower uc upper e h = λ a. h (add_alike ys xs lc lower (sym e) a)
off_alike Above xs ys lc lower uc upper e h = (add_alike xs ys lc lower e h.0, λ a. h.1 (add_alike ys xs uc upper (sym e) a))

firsts_alike : (side : Side) (n : ℕ) (xs ys : List (Placed RealShape)) (counts : List ℕ) (pieces : List PlainPiece) → plain_reals xs ≡ plain_reals ys → FirstTaken side n xs counts pieces → FirstTaken side n ys counts pieces
firsts_alike side n xs ys counts pieces e h = λ i y below at. first_alike side n i xs ys counts pieces y e below at h

fault_alike : (side : Side) (n : ℕ) (xs ys : List (Placed RealShape)) (lc : List ℕ) (lower : List PlainPiece) (uc : List ℕ) (upper : List PlainPiece) → plain_reals xs ≡ plain_reals ys → IsFirstFault side n xs lc lower uc upper → IsFirstFault side n ys lc lower uc upper
fault_alike side n xs ys lc lower uc upper e h =
    let found = piece_at xs ys e n h.piece h.there in
    record {
      counted_below = add_alike xs ys lc lower e h.counted_below;
      counted_above = add_alike xs ys uc upper e h.counted_above;
      piece = found.0;
      there = found.1;
      below = firsts_alike Below (on_side side n (n + 1)) xs ys lc lower e h.below;
      above = firsts_alike Above n xs ys uc upper e h.above;
      refused = λ taken. h.refused (taken_alike side found.0 h.piece _ (sym found.2) taken);
    }

-- one fault is not before the other
not_less : (side other : Side) (n m : ℕ) (xs : List (Placed RealShape)) (lc : List ℕ) (lower : List PlainPiece) (uc : List ℕ) (upper : List PlainPiece) → IsFirstFault side n xs lc lower uc upper → IsFirstFault other m xs lc lower uc upper → n < m → ⊥
not_less Below Below n m xs lc lower uc upper h k less = h.refused (k.below n h.piece less h.there)
not_less Below Above n m xs lc lower uc upper h k less = h.refused (k.below n h.piece (omega (arith, less)) h.there)
not_less Above other n m xs lc lower uc upper h k less = h.refused (k.above n h.piece less h.there)

one_number : (side other : Side) (n m : ℕ) (xs : List (Placed RealShape)) (lc : List ℕ) (lower : List PlainPiece) (uc : List ℕ) (upper : List PlainPiece) → IsFirstFault side n xs lc lower uc upper → IsFirstFault other m xs lc lower uc upper → n ≡ m
one_number side other n m xs lc lower uc upper h k = elim (le_or_lt n m) [
  | inl up ↦ elim (le_or_lt m n) [
    | inl down ↦ omega (arith, up, down)
    | inr less ↦ absurd (not_less side other n m xs lc lower uc upper h k less)
  ]
  | inr less ↦ absurd (not_less other side m n xs lc lower uc upper k h less)
]

one_side : (side other : Side) (n : ℕ) (xs : List (Placed RealShape)) (lc : List ℕ) (lower : List PlainPiece) (uc : List ℕ) (upper : List PlainPiece) → IsFirstFault side n xs lc lower uc upper → IsFirstFault other n xs lc lower uc upper → side ≡ other
one_side Below Below n xs lc lower uc upper h k = refl
one_side Above Above n xs lc lower uc upper h k = refl
one_side Below Above n xs lc lower uc upper h k = absurd (h.refused (k.below n h.piece (omega arith) h.there))
one_side Above Below n xs lc lower uc upper h k = absurd (k.refused (h.below n k.piece (omega arith) k.there))

-- two reasons of one kind, over the pieces and counts of the second
moved_off : OneOutcome → (real : PlainRealBoard) (lower upper : PlainBoard) (bytes : List ℕ) (side : Side) (h : AreNotTaken real lower upper bytes (fault.Counts side)) (c : AreCounted real lower upper bytes) → AreFirstOff side c.pieces c.lower_counts lower.pieces c.upper_counts upper.pieces
moved_off law real lower upper bytes side h c =
    let same = counts_one law real lower upper bytes h.counted c in
    off_alike side h.counted.pieces c.pieces c.lower_counts lower.pieces c.upper_counts upper.pieces (pieces_one real lower upper bytes h.counted c)
    (subst (λ (u : List ℕ). AreFirstOff side h.counted.pieces c.lower_counts lower.pieces u upper.pieces) same.1 (subst (λ (l : List ℕ). AreFirstOff side h.counted.pieces l lower.pieces h.counted.upper_counts upper.pieces) same.0 h.off))

moved_fault : OneOutcome → (real : PlainRealBoard) (lower upper : PlainBoard) (bytes : List ℕ) (side : Side) (n : ℕ) (h : AreNotTaken real lower upper bytes (fault.Piece side n)) (c : AreCounted real lower upper bytes) → IsFirstFault side n c.pieces c.lower_counts lower.pieces c.upper_counts upper.pieces
moved_fault law real lower upper bytes side n h c =
    let same = counts_one law real lower upper bytes h.counted c in
    fault_alike side n h.counted.pieces c.pieces c.lower_counts lower.pieces c.upper_counts upper.pieces (pieces_one real lower upper bytes h.counted c)
    (subst (λ (u : List ℕ). IsFirstFault side n h.counted.pieces c.lower_counts lower.pieces u upper.pieces) same.1 (subst (λ (l : List ℕ). IsFirstFault side n h.counted.pieces l lower.pieces h.counted.upper_counts upper.pieces) same.0 h.off))

one_off : (side other : Side) (xs : List (Placed RealShape)) (lc : List ℕ) (lower : List PlainPiece) (uc : List ℕ) (upper : List PlainPiece) → AreFirstOff side xs lc lower uc upper → AreFirstOff other xs lc lower uc upper → side ≡ other
one_off Below Below xs lc lower uc upper h k = refl
one_off Above Above xs lc lower uc upper h k = refl
one_off Below Above xs lc lower uc upper h k = absurd (h k.0)
one_off Above Below xs lc lower uc upper h k = absurd (k h.0)

off_or_fault : (side other : Side) (n : ℕ) (xs : List (Placed RealShape)) (lc : List ℕ) (lower : List PlainPiece) (uc : List ℕ) (upper : List PlainPiece) → AreFirstOff side xs lc lower uc upper → IsFirstFault other n xs lc lower uc upper → ⊥
off_or_fault Below other n xs lc lower uc upper h k = h k.counted_below
off_or_fault Above other n xs lc lower uc upper h k = h.1 k.counted_above

other_or_counted : (side : Side) (real : PlainRealBoard) (lower upper : PlainBoard) (bytes : List ℕ) → IsUnboundBy real lower upper bytes (Netlist side) → AreCounted real lower upper bytes → ⊥
other_or_counted Below real lower upper bytes h c = h.1 c.lower_netlist
other_or_counted Above real lower upper bytes h c = h.1.1 c.upper_netlist

one_netlist : (side other : Side) (real : PlainRealBoard) (lower upper : PlainBoard) (bytes : List ℕ) → IsUnboundBy real lower upper bytes (Netlist side) → IsUnboundBy real lower upper bytes (Netlist other) → side ≡ other
one_netlist Below Below real lower upper bytes h k = refl
one_netlist Above Above real lower upper bytes h k = refl
one_netlist Below Above real lower upper bytes h k = absurd (h.1 k.1.0)
one_netlist Above Below real lower upper bytes h k = absurd (k.1 h.1.0)

one_origin : (real : PlainRealBoard) (n m : ℕ) (a b : Origin) → n ≡ m → ComesFrom real n a → ComesFrom real m b → a ≡ b
one_origin real n m a b e x y =
    let same : Some x.0 ≡ Some y.0 = sym x.1 ∙ (ap (λ (k : ℕ). slice_get real.pieces k) e ∙ y.1) in
    let piece : x.0 ≡ y.0 = cc same in
    sym x.2 ∙ (ap (λ (p : PlainReal). p.origin) piece ∙ y.2)

pub one_reason : OneOutcome → (real : PlainRealBoard) (lower upper : PlainBoard) (bytes : List ℕ) (why other : Unbound) → IsUnboundBy real lower upper bytes why → IsUnboundBy real lower upper bytes other → why ≡ other
one_reason law real lower upper bytes (NotCounts n) (NotCounts m) h k = ap NotCounts (law.first_other bytes n m h k)
one_reason law real lower upper bytes (NotCounts n) (Netlist side) h k = absurd (law.no_other bytes k.0.0 k.0.1 n k.0.2 h)
one_reason law real lower upper bytes (NotCounts n) (Counts side) h k = absurd (law.no_other bytes k.counted.lower_counts k.counted.upper_counts n k.counted.counts h)
one_reason law real lower upper bytes (NotCounts n) (Piece side origin) h (m, k, from) = absurd (law.no_other bytes k.counted.lower_counts k.counted.upper_counts n k.counted.counts h)
one_reason law real lower upper bytes (Netlist side) (NotCounts m) h k = absurd (law.no_other bytes h.0.0 h.0.1 m h.0.2 k)
one_reason law real lower upper bytes (Netlist side) (Netlist other) h k = ap Netlist (one_netlist side other real lower upper bytes h k)
one_reason law real lower upper bytes (Netlist side) (Counts other) h k = absurd (other_or_counted side real lower upper bytes h k.counted)
one_reason law real lower upper bytes (Netlist side) (Piece other origin) h (m, k, from) = absurd (other_or_counted side real lower upper bytes h k.counted)
one_reason law real lower upper bytes (Counts side) (NotCounts m) h k = absurd (law.no_other bytes h.counted.lower_counts h.counted.upper_counts m h.counted.counts k)
one_reason law real lower upper bytes (Counts side) (Netlist other) h k = absurd (other_or_counted other real lower upper bytes k h.counted)
one_reason law real lower upper bytes (Counts side) (Counts other) h k = ap Counts (one_off side other k.counted.pieces k.counted.lower_counts lower.pieces k.counted.upper_counts upper.pieces (moved_off law real lower upper bytes side h k.counted) k.off)
one_reason law real lower upper bytes (Counts side) (Piece other origin) h (m, k, from) = absurd (off_or_fault side other m k.counted.pieces k.counted.lower_counts lower.pieces k.counted.upper_counts upper.pieces (moved_off law real lower upper bytes side h k.counted) k.off)
one_reason law real lower upper bytes (Piece side origin) (NotCounts m) (n, h, from) k = absurd (law.no_other bytes h.counted.lower_counts h.counted.upper_counts m h.counted.counts k)
one_reason law real lower upper bytes (Piece side origin) (Netlist other) (n, h, from) k = absurd (other_or_counted other real lower upper bytes k h.counted)
one_reason law real lower upper bytes (Piece side origin) (Counts other) (n, h, from) k = absurd (off_or_fault other side n h.counted.pieces h.counted.lower_counts lower.pieces h.counted.upper_counts upper.pieces (moved_off law real lower upper bytes other k h.counted) h.off)
one_reason law real lower upper bytes (Piece side origin) (Piece other place) (n, h, from) (m, k, start) =
    let mine = moved_fault law real lower upper bytes side n h k.counted in
    let number : n ≡ m = one_number side other n m k.counted.pieces k.counted.lower_counts lower.pieces k.counted.upper_counts upper.pieces mine k.off in
    let sides : side ≡ other = one_side side other m k.counted.pieces k.counted.lower_counts lower.pieces k.counted.upper_counts upper.pieces (subst (λ (i : ℕ). IsFirstFault side i k.counted.pieces k.counted.lower_counts lower.pieces k.counted.upper_counts upper.pieces) number mine) k.off in
    let places : origin ≡ place = one_origin real n m origin place number from start in
    cc (sides, places)
