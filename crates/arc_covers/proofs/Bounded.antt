-- A real board is covered by a board above whose pieces stand for its own, and covers one below.
use Rattle.std.proofs.Common.{◌≡◌, ◌⊎◌, inl, inr, ℕ, suc, option_map, ◌+◌, ◌≤◌, ◌<◌, ℤ, pos, List, [], ◌∷◌, length, map, take, sum, All, Some, slice_get, refl, sym, ap, ◌∙◌, subst, arith}
use Rattle.std.proofs.lemmas.List.{length-map}
use Rattle.std.proofs.lemmas.List.Elements.{All-head, All-same, All-tail, All-weaker}
use Rattle.std.proofs.lemmas.Option.{same_Some, slice_get-map, slice_get_cases, slice_get_within}
use Rattle.planar.specs.Plane.{Point}
use Rattle.planar.specs.declared.Spot.{Spot}
use Rattle.board_shapes.specs.Figures.{Figure, InFigure, figure_of, filled, round}
use Rattle.board_shapes.specs.Pieces.{PlainPiece}
use Rattle.board_shapes.specs.Plain.{PlainBoard}
use Rattle.board_shapes.specs.declared.placed.Placed.{Placed}
use Rattle.contact.specs.Solid.{SharePoint}
use Rattle.covers.specs.Boards.{Layout, Span, TouchAt}
use Rattle.covers.specs.Covering.{IsCovered}
use Rattle.arc_regions.specs.Copper.{PossiblyIn}
use Rattle.covers.specs.Plain.{InPiece, layout_of, span_of}
use Rattle.fine_figures.specs.Holes.{InHoled}
use Rattle.slants.specs.Cones.{PossiblyTurned}
use Rattle.slants.specs.Discs.{disc_about}
use Rattle.arc_covers.specs.Bounds.{AreBounds, HoldTogether, InSome, IsOn, StandFor, capsules_from, capsules_of, figures_of, share_of}
use Rattle.covers.specs.Laws as covers
use Rattle.verdict.specs.declared.verdict.Verdict.{Verdict}
use Rattle.arc_covers.specs.Laws.{AreBoundsOf, AreJudged, LiesBetween}
use Rattle.arc_covers.specs.RealBoards.{IsCopperOf, IsReal, real_span}
use Rattle.real_shapes.specs.declared.RealShape.{RealShape}
use Rattle.real_shapes.specs.declared.RealShape.TheVariants.{Plain, ArcDraw, Fine, Holed, Polygon, Region, Slanted, Turned, TurnedDisc}
use Rattle.arc_covers.specs.declared.side.Side.TheVariants.{Below, Above}
use Rattle.arc_covers.proofs.Figures.{as_many}
use Rattle.arc_covers.proofs.Covered.{AreChain, AreLinks, by_piece, covered, linked, star}
use Rattle.arc_covers.proofs.Shares.{IsAt, placed, share_at, share_length}

-- ---- pieces of a board of figures

abbrev span_from : ℕ → ℕ → Span
span_from top bottom = record { top = top; bottom = bottom }

same_span : (p : PlainPiece) (span : Span) → IsOn span.top span.bottom p → span_of p ≡ span
same_span p span (top, bottom) = ap (λ (t : ℕ). span_from t p.bottom) top ∙ ap (λ (b : ℕ). span_from span.top b) bottom

has_span : (b : PlainBoard) (span : Span) (i : ℕ) (p : PlainPiece) → slice_get b.pieces i ≡ Some p → IsOn span.top span.bottom p → slice_get (map span_of b.pieces) i ≡ Some span
has_span b span i p is on = slice_get-map span_of b.pieces i ∙ ap (λ (o : _). option_map span_of o) is ∙ ap Some (same_span p span on)

in_piece : (b : PlainBoard) (i : ℕ) (piece : PlainPiece) (f : Figure) (p : Point) → slice_get b.pieces i ≡ Some piece → piece.figure ≡ f → InFigure f p → InPiece b i p
in_piece b i piece f p is same h = record { piece = piece; piece_is = is; inside = subst (λ (g : Figure). InFigure g p) (sym same) h }

out_of_piece : (b : PlainBoard) (i : ℕ) (piece : PlainPiece) (f : Figure) (p : Point) → slice_get b.pieces i ≡ Some piece → piece.figure ≡ f → InPiece b i p → InFigure f p
out_of_piece b i piece f p is same h =
    let one : h.piece ≡ piece = same_Some h.piece piece (sym h.piece_is ∙ is) in
    subst (λ (g : Figure). InFigure g p) (ap (λ (q : PlainPiece). q.figure) one ∙ same) h.inside

-- pieces that are a chain's capsules
links : (b : PlainBoard) (span : Span) (r : ℤ) (first : ℕ) (a : Spot) (rest : List Spot) (part : List PlainPiece) → IsAt b.pieces first part → figures_of part ≡ capsules_from a rest r → All (IsOn span.top span.bottom) part → AreLinks (InPiece b) (layout_of b) span first a rest r
links b span r first a [] part at same on = tt
links b span r first a (d ∷ rest) [] at same on = absurd cc
links b span r first a (d ∷ rest) (p ∷ part) (here, more) same on =
    let head : p.figure ≡ round (record { a = a; b = d; r = r }) = cc in
    let tail : figures_of part ≡ capsules_from d rest r = cc in (
      has_span b span first p here (All-head (IsOn span.top span.bottom) p part on),
      (λ q. (λ h. in_piece b first p (round (record { a = a; b = d; r = r })) q here head h, λ h. out_of_piece b first p (round (record { a = a; b = d; r = r })) q here head h)),
      links b span r (suc first) d rest part more tail (All-tail (IsOn span.top span.bottom) p part on),
    )

chain_at : (b : PlainBoard) (span : Span) (r : ℤ) (first : ℕ) (chain : List Spot) (part : List PlainPiece) → IsAt b.pieces first part → figures_of part ≡ capsules_of chain r → All (IsOn span.top span.bottom) part → AreChain (InPiece b) (layout_of b) span first chain r
chain_at b span r first [] part at same on = tt
chain_at b span r first (a ∷ rest) part at same on = links b span r first a rest part at same on

chain_length : (chain : List Spot) (r : ℤ) (part : List PlainPiece) (j first : ℕ) → figures_of part ≡ capsules_of chain r → first ≤ j → j < first + length part → j + 1 < first + length chain
chain_length [] r part j first same from to =
    let n : length (figures_of part) ≡ 0 = ap length same in
    let m = length-map part (λ (p : PlainPiece). p.figure) in
    absurd (omega arith)
chain_length (a ∷ rest) r part j first same from to =
    let n : length (figures_of part) ≡ length (capsules_from a rest r) = ap length same in
    let m = length-map part (λ (p : PlainPiece). p.figure) in
    let k = as_many a rest r in
    omega arith

-- a piece past the end of a board is covered by none
past_end : (holds : ℕ → Point → Type 0) (b : Layout) (holds' : ℕ → Point → Type 0) (c : Layout) (i : ℕ) → length b.spans ≤ i → IsCovered holds b holds' c i
past_end holds b holds' c i past = record { cover = []; covers = λ layer p h. let within = slice_get_within b.spans i h.span h.span_is in absurd (omega arith); joined = λ j k (n, within, same) g. absurd (omega arith) }

-- ---- pieces that hold together

some_piece : (b : PlainBoard) (span : Span) (ps : List PlainPiece) (first : ℕ) → IsAt b.pieces first ps → All (IsOn span.top span.bottom) ps → (q : Point) → InSome (figures_of ps) q
    → (j : ℕ) × (first ≤ j) × (j < first + length ps) × (slice_get (map span_of b.pieces) j ≡ Some span) × InPiece b j q
some_piece b span [] first at on q h = absurd h
some_piece b span (p ∷ ps) first (here, more) on q (inl h) = (first, omega arith, omega arith, has_span b span first p here (All-head (IsOn span.top span.bottom) p ps on), in_piece b first p p.figure q here refl h)
some_piece b span (p ∷ ps) first (here, more) on q (inr h) =
    let w = some_piece b span ps (suc first) more (All-tail (IsOn span.top span.bottom) p ps on) q h in
    let from = w.1 in
    let to = w.2 in
    (w.0, omega arith, omega arith, w.3, w.4)

-- the piece touches each of the others
touching : (b : PlainBoard) (span : Span) → span.top ≤ span.bottom → (first : ℕ) (p : PlainPiece) (f : Figure) → slice_get b.pieces first ≡ Some p → p.figure ≡ f → IsOn span.top span.bottom p
    → (ps : List PlainPiece) (n : ℕ) → IsAt b.pieces n ps → All (IsOn span.top span.bottom) ps → All (λ g. SharePoint (InFigure f) (InFigure g)) (figures_of ps)
    → (j : ℕ) → n ≤ j → j < n + length ps → TouchAt (InPiece b) (layout_of b) first j × TouchAt (InPiece b) (layout_of b) j first
touching b span some first p f there figure on [] n at each meet j from to = absurd (omega arith)
touching b span some first p f there figure on (q ∷ ps) n (here, more) each meet j from to = elim (cases n j from) [
  | inl same ↦ subst (λ (m : ℕ). TouchAt (InPiece b) (layout_of b) first m × TouchAt (InPiece b) (layout_of b) m first) same (both (All-head (λ g. SharePoint (InFigure f) (InFigure g)) q.figure (figures_of ps) meet))
  | inr after ↦ touching b span some first p f there figure on ps (suc n) more (All-tail (IsOn span.top span.bottom) q ps each) (All-tail (λ g. SharePoint (InFigure f) (InFigure g)) q.figure (figures_of ps) meet) j after (omega arith)
]
  where
    cases : (n m : ℕ) → n ≤ m → (n ≡ m) ⊎ (suc n ≤ m)
    cases n m h = grind arith

    both : SharePoint (InFigure f) (InFigure q.figure) → TouchAt (InPiece b) (layout_of b) first n × TouchAt (InPiece b) (layout_of b) n first
    both s = (
      record {
        first = span;
        second = span;
        first_is = has_span b span first p there on;
        second_is = has_span b span n q here (All-head (IsOn span.top span.bottom) q ps each);
        layer = omega (arith, some);
        share = record { point = s.point; in_first = in_piece b first p f s.point there figure s.in_first; in_second = in_piece b n q q.figure s.point here refl s.in_second };
      },
      record {
        first = span;
        second = span;
        first_is = has_span b span n q here (All-head (IsOn span.top span.bottom) q ps each);
        second_is = has_span b span first p there on;
        layer = omega (arith, some);
        share = record { point = s.point; in_first = in_piece b n q q.figure s.point here refl s.in_second; in_second = in_piece b first p f s.point there figure s.in_first };
      },
    )

-- ---- one piece of the real board and its share

module _ (holds : ℕ → Point → Type 0) (real : Layout) (b : PlainBoard) (span : Span) (i first : ℕ) (there : slice_get real.spans i ≡ Some span) (some : span.top ≤ span.bottom) (part : List PlainPiece) (at : IsAt b.pieces first part) (on : All (IsOn span.top span.bottom) part) where
  -- one figure that holds the copper
  above_one : (f : Figure) → figures_of part ≡ f ∷ [] → ((q : Point) → holds i q → InFigure f q) → IsCovered holds real (InPiece b) (layout_of b) i
  above_one f same all = one part at on same where
    one : (ps : List PlainPiece) → IsAt b.pieces first ps → All (IsOn span.top span.bottom) ps → figures_of ps ≡ f ∷ [] → IsCovered holds real (InPiece b) (layout_of b) i
    one [] at on same = absurd cc
    one (p ∷ ps) (here, more) on same =
        let figure : p.figure ≡ f = cc in
        by_piece holds real (InPiece b) (layout_of b) span (pos 0) first (has_span b span first p here (All-head (IsOn span.top span.bottom) p ps on)) i there (λ q h. in_piece b first p f q here figure (all q h))

  -- one figure that lies in it
  below_one : (f : Figure) → figures_of part ≡ f ∷ [] → ((q : Point) → InFigure f q → holds i q) → (j : ℕ) → first ≤ j → j < first + length part → IsCovered (InPiece b) (layout_of b) holds real j
  below_one f same all j from to = one part at on same to where
    one : (ps : List PlainPiece) → IsAt b.pieces first ps → All (IsOn span.top span.bottom) ps → figures_of ps ≡ f ∷ [] → j < first + length ps → IsCovered (InPiece b) (layout_of b) holds real j
    one [] at on same to = absurd cc
    one (p ∷ q ∷ ps) at on same to = absurd cc
    one (p ∷ []) (here, more) on same to =
        let figure : p.figure ≡ f = cc in
        let only : first ≡ j = omega arith in
        subst (λ (n : ℕ). IsCovered (InPiece b) (layout_of b) holds real n) only
        (by_piece (InPiece b) (layout_of b) holds real span (pos 0) i there first (has_span b span first p here (All-head (IsOn span.top span.bottom) p [] on)) (λ q h. all q (out_of_piece b first p f q here figure h)))

  below_none : figures_of part ≡ [] → (j : ℕ) → first ≤ j → j < first + length part → IsCovered (InPiece b) (layout_of b) holds real j
  below_none none j from to =
      let n : length (figures_of part) ≡ 0 = ap length none in
      let m = length-map part (λ (p : PlainPiece). p.figure) in
      absurd (omega arith)

  -- figures that each lie in it
  below_each : (ps : List PlainPiece) (n : ℕ) → IsAt b.pieces n ps → All (IsOn span.top span.bottom) ps → All (λ f. (q : Point) → InFigure f q → holds i q) (figures_of ps) → (j : ℕ) → n ≤ j → j < n + length ps → IsCovered (InPiece b) (layout_of b) holds real j
  below_each [] n at on each j from to = absurd (omega arith)
  below_each (p ∷ ps) n (here, more) on each j from to = elim (cases n j from) [
    | inl same ↦ subst (λ (m : ℕ). IsCovered (InPiece b) (layout_of b) holds real m) same
        (by_piece (InPiece b) (layout_of b) holds real span (pos 0) i there n (has_span b span n p here (All-head (IsOn span.top span.bottom) p ps on))
        (λ q h. All-head (λ f. (q : Point) → InFigure f q → holds i q) p.figure (figures_of ps) each q (out_of_piece b n p p.figure q here refl h)))
    | inr after ↦ below_each ps (suc n) more (All-tail (IsOn span.top span.bottom) p ps on) (All-tail (λ f. (q : Point) → InFigure f q → holds i q) p.figure (figures_of ps) each) j after (omega arith)
  ]
    where
      cases : (n m : ℕ) → n ≤ m → (n ≡ m) ⊎ (suc n ≤ m)
      cases n m h = grind arith

  -- figures that hold it together: each touches the first
  above_all : (P : Point → Type 0) → ((q : Point) → holds i q → P q) → HoldTogether P (figures_of part) → IsCovered holds real (InPiece b) (layout_of b) i
  above_all P inside h = all part at on h.are where
    all : (ps : List PlainPiece) → IsAt b.pieces first ps → All (IsOn span.top span.bottom) ps → figures_of ps ≡ h.first ∷ h.rest → IsCovered holds real (InPiece b) (layout_of b) i
    all [] at on same = absurd cc
    all (p ∷ ps) (here, more) on same =
        let figure : p.figure ≡ h.first = cc in
        let others : figures_of ps ≡ h.rest = cc in
        let heads = All-head (IsOn span.top span.bottom) p ps on in
        let tails = All-tail (IsOn span.top span.bottom) p ps on in
        star holds real (InPiece b) (layout_of b) span i first (length ps) there
        (λ q k. some_piece b span (p ∷ ps) first (here, more) on q (subst (λ (fs : List Figure). InSome fs q) (sym same) (subst (λ (fs : List Figure). InSome fs q) h.are (h.hold q (inside q k)))))
        (touching b span some first p h.first here figure heads ps (suc first) more tails (All-same (λ g. SharePoint (InFigure h.first) (InFigure g)) (figures_of ps) h.rest others h.meet))

  above_shape : (shape : RealShape) → IsCopperOf shape (holds i) → StandFor Above shape (figures_of part) → IsCovered holds real (InPiece b) (layout_of b) i
  above_shape (Plain shape) copper same = above_one (figure_of shape) same (λ q h. (copper q).1 h)
  above_shape (ArcDraw arc) copper (chain, r, same, bound) = covered holds real (InPiece b) (layout_of b) span (pos r) some i first chain there (chain_at b span (pos r) first chain part at same on) (λ p h. bound p (copper.most p h))
  above_shape (Slanted line) copper (points, same, bound) = above_one (filled points) same (λ q h. bound q ((copper q).1 h))
  above_shape (Turned t) copper together = above_all (PossiblyTurned t.contour.items t.about t.angle) (λ q h. copper.most q h) together
  above_shape (TurnedDisc disc) copper (s, r, same, bound) = above_one (disc_about s r) same (λ q h. bound q (copper.most q h))
  above_shape (Polygon g) copper (points, same, bound) = above_one (filled points) same (λ q h. bound q (copper.most q h))
  above_shape (Fine fine) copper (f, same, bound) = above_one f same (λ q h. bound q ((copper q).1 h))
  above_shape (Holed h) copper (f, same, bound) = above_one f same (λ q k. bound q ((copper q).1 k))
  above_shape (Region area) copper together = above_all (PossiblyIn area.start area.parts.items) (λ q h. copper.most q h) together

  below_shape : (shape : RealShape) → IsCopperOf shape (holds i) → StandFor Below shape (figures_of part) → (j : ℕ) → first ≤ j → j < first + length part → IsCovered (InPiece b) (layout_of b) holds real j
  below_shape (Plain shape) copper same j from to = below_one (figure_of shape) same (λ q h. (copper q).0 h) j from to
  below_shape (ArcDraw arc) copper (chain, r, same, bound) j from to =
      linked (InPiece b) (layout_of b) holds real span (pos r) i there first chain (chain_at b span (pos r) first chain part at same on) (λ p h. copper.least p (bound p h)) j from (chain_length chain (pos r) part j first same from to)
  below_shape (Slanted line) copper (inl none) j from to = below_none none j from to
  below_shape (Slanted line) copper (inr (points, same, bound)) j from to = below_one (filled points) same (λ q h. (copper q).0 (bound q h)) j from to
  below_shape (Turned t) copper (inl none) j from to = below_none none j from to
  below_shape (Turned t) copper (inr (points, same, bound)) j from to = below_one (filled points) same (λ q h. copper.least q (bound q h)) j from to
  below_shape (TurnedDisc disc) copper (inl none) j from to = below_none none j from to
  below_shape (TurnedDisc disc) copper (inr (s, r, same, bound)) j from to = below_one (disc_about s r) same (λ q h. copper.least q (bound q h)) j from to
  below_shape (Polygon g) copper (inl none) j from to = below_none none j from to
  below_shape (Polygon g) copper (inr (points, same, bound)) j from to = below_one (filled points) same (λ q h. copper.least q (bound q h)) j from to
  below_shape (Fine fine) copper (inl none) j from to = below_none none j from to
  below_shape (Fine fine) copper (inr (f, same, bound)) j from to = below_one f same (λ q h. (copper q).0 (bound q h)) j from to
  below_shape (Holed h) copper each j from to =
      below_each part first at on (All-weaker (λ f. (q : Point) → InFigure f q → InHoled h q) (λ f. (q : Point) → InFigure f q → holds i q) (λ f k q inside. (copper q).0 (k q inside)) (figures_of part) each) j from to
  below_shape (Region area) copper (inl none) j from to = below_none none j from to
  below_shape (Region area) copper (inr (points, same, bound)) j from to = below_one (filled points) same (λ q h. copper.least q (bound q h)) j from to

-- ---- whole boards

module _ (holds : ℕ → Point → Type 0) (real : Layout) (pieces : List (Placed RealShape)) (is : IsReal pieces holds real) (counts : List ℕ) (b : PlainBoard) where
  as_long : length real.spans ≡ length pieces
  as_long = ap length is.spans ∙ length-map pieces real_span

  real_at : (i : ℕ) (piece : Placed RealShape) → slice_get pieces i ≡ Some piece → slice_get real.spans i ≡ Some (real_span piece)
  real_at i piece there = ap (λ (spans : List Span). slice_get spans i) is.spans ∙ slice_get-map real_span pieces i ∙ ap (λ (o : _). option_map real_span o) there

  above : AreBounds Above pieces counts b.pieces → (i : ℕ) → IsCovered holds real (InPiece b) (layout_of b) i
  above bounds i = elim (slice_get_cases pieces i).1 [
    | inl (piece, within, there, same) ↦
        let stand = bounds.stand i piece within there in
        above_shape holds real b (real_span piece) i (sum (take i counts)) (real_at i piece there) piece.span.1 (share_of counts b.pieces i) (share_at counts b.pieces i) stand.layers piece.shape (is.copper i piece there) stand.figures
    | inr (past, none) ↦ past_end holds real (InPiece b) (layout_of b) i (omega (arith, as_long))
  ]

  below : AreBounds Below pieces counts b.pieces → (j : ℕ) → IsCovered (InPiece b) (layout_of b) holds real j
  below bounds j = elim (cases j (length b.pieces)) [
    | inl inside ↦
        let all = bounds.counted.all in
        let each = bounds.counted.each in
        let share = placed counts j (omega arith) in
        let i : ℕ = share.0 in
        let counted = share.1 in
        let to = share.3 in
        let n = share_length counts b.pieces i all counted in
        elim (slice_get_cases pieces i).1 [
          | inl (piece, within, there, same) ↦
              let stand = bounds.stand i piece within there in
              below_shape holds real b (real_span piece) i (sum (take i counts)) (real_at i piece there) piece.span.1 (share_of counts b.pieces i) (share_at counts b.pieces i) stand.layers piece.shape (is.copper i piece there) stand.figures j share.2 (omega arith)
          | inr (past, none) ↦ absurd (omega arith)
        ]
    | inr past ↦
        let n = length-map b.pieces span_of in
        past_end (InPiece b) (layout_of b) holds real j (omega arith)
  ]
    where
      cases : (j n : ℕ) → (j < n) ⊎ (n ≤ j)
      cases j n = grind arith

pub between : (holds : ℕ → Point → Type 0) (lower upper : PlainBoard) (real : Layout) → AreBoundsOf lower upper holds real → LiesBetween lower holds real upper
between holds lower upper real is = record {
  below = record { probes = sym is.lower_netlist.probes; names = sym is.lower_netlist.names; layers = sym is.lower_netlist.layers; pieces = below holds real is.pieces is.real_is is.lower_counts lower is.below };
  above = record { probes = is.upper_netlist.probes; names = is.upper_netlist.names; layers = is.upper_netlist.layers; pieces = above holds real is.pieces is.real_is is.upper_counts upper is.above };
}

pub judged : (holds : ℕ → Point → Type 0) (lower upper : PlainBoard) (v w : Verdict) (real : Layout) → LiesBetween lower holds real upper → AreJudged lower upper v w → covers.IsBetween lower upper v w holds real
judged holds lower upper v w real is by = record { lower_lawful = by.lower_lawful; upper_lawful = by.upper_lawful; below = is.below; above = is.above; lower_right = by.lower_right; upper_right = by.upper_right }
