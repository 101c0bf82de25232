-- From the field of the grown pieces to closeness on the board.
use Rattle.std.proofs.Common.{◌≡◌, ◌≢◌, ◌↔◌, ℕ, ◌+◌, ◌*◌, ◌<◌, ◌≤◌, ℤ, pos, ◌+ℤ◌, ◌≤ℤ◌, List, [], ◌∷◌, ◌++◌, All, Option, Some, None, length, map, take, max, min, get_or, slice_get, refl, sym, ap, subst, ◌∙◌, arith}
use Rattle.std.proofs.lemmas.Int.{ints}
use Rattle.std.proofs.lemmas.List.{get_or-map, length-map, map-append, take_all, take_more}
use Rattle.std.proofs.lemmas.List.Elements.{All-push}
use Rattle.std.proofs.lemmas.Option.{get_or_from_slice_get, slice_get-map, slice_get_within}
use Rattle.planar.specs.Plane.{Point}
use Rattle.contact.specs.Solid.{SharePoint}
use Rattle.board_shapes.specs.declared.placed.Placed.{Placed}
use Rattle.board_shapes.specs.Figures.{InFigure}
use Rattle.board_shapes.specs.declared.shape.Shape.{Shape}
use Rattle.board_shapes.specs.Pieces.{PlainPiece, plain_piece, plain_pieces}
use Rattle.board_shapes.specs.Plain.{PlainBoard}
use Rattle.board_shapes.specs.Shapes.{InShape}
use Rattle.board_shapes.specs.Spans.{CommonLayer}
use Rattle.cell_index.specs.Among.{TouchAmong}
use Rattle.verdict.specs.declared.verdict.Twig.{Twig}
use Rattle.verdict.specs.Forest.{Holds, StandOnce}
use Rattle.gaps.specs.declared.Fat.{Fat}
use Rattle.gaps.specs.declared.gap.Gap.{Gap}
use Rattle.gaps.specs.declared.meetings.Span.{Span}
use Rattle.gaps.specs.Firsts.{AreFirsts}
use Rattle.gaps.specs.Gaps.{AreCloseOn, AreGaps, CloseAt, IsMeeting}
use Rattle.gaps.specs.Grown.{Grown}
use Rattle.gaps.specs.GrownPieces.{AreGrown, piece_in, piece_span}
use Rattle.gaps.specs.Meetings.{IsFieldLine, net_of, span_of}
use Rattle.gaps.proofs.Leasts.{close_on, gaps_told}

-- what lies in a grown shape, as a field asks it
abbrev pub InFat : Fat → Point → Type 0
InFat f p = Grown (InShape f.shape.now) f.grow p

-- ---- items of mapped lists

mapped : {A B : Type 0} (v : A → B) (xs : List A) (ys : List B) (i : ℕ) (x : A) → map v xs ≡ ys → slice_get xs i ≡ Some x → slice_get ys i ≡ Some (v x)
mapped v xs ys i x e h = (let f = slice_get-map v xs i in cc)

-- the item that was mapped
record Unmapped {A B : Type 0} (v : A → B) (o : Option A) (y : B) : Type 0 where
  pub item : A
  pub is : o ≡ Some item
  pub same : v item ≡ y

unmapped : {A B : Type 0} (v : A → B) (xs : List A) (ys : List B) (i : ℕ) (y : B) → map v xs ≡ ys → slice_get ys i ≡ Some y → Unmapped v (slice_get xs i) y
unmapped {A = A} v xs ys i y e h = (let f = slice_get-map v xs i in found (slice_get xs i) refl)
  where
    found : (o : Option A) → slice_get xs i ≡ o → Unmapped v (slice_get xs i) y
    found None n = (let f = slice_get-map v xs i in absurd (cc))
    found (Some x) n = (let f = slice_get-map v xs i in record { item = x; is = n; same = cc })

grow_is : (g : ℤ) (fats : List (Placed Fat)) (i : ℕ) (f : Placed Fat) → All (λ f. f.shape.grow ≡ g) fats → slice_get fats i ≡ Some f → f.shape.grow ≡ g
grow_is g fats i f all h = subst (λ (z : Placed Fat). z.shape.grow ≡ g) (get_or_from_slice_get fats i f f h) (all i f (slice_get_within fats i f h))

span_is : (pieces : List PlainPiece) (spans : List Span) (i : ℕ) (p : PlainPiece) → spans ≡ map piece_span pieces → slice_get pieces i ≡ Some p → span_of spans i ≡ piece_span p
span_is pieces spans i p e h = get_or_from_slice_get spans i (piece_span p) (record { top = 0; bottom = 0 }) (mapped piece_span pieces spans i p (sym e) h)

between : (low high layer : ℕ) → low ≤ layer → layer < high + 1 → low ≤ high
between low high layer h k = omega (arith, h, k)

-- ---- a line of the field and a meeting on the board

pub line_told : (b : PlainBoard) (g : ℤ) (nets : List (List Twig)) (fats : List (Placed Fat)) (numbers : List ℕ) (spans : List Span) → pos 0 ≤ℤ g → AreGrown g b.pieces fats → spans ≡ map piece_span b.pieces →
    StandOnce (length b.pieces) nets → ((i p : ℕ) → Holds nets i p → net_of numbers p ≡ i) → (gap : Gap) → IsFieldLine (length fats) (TouchAmong InFat fats) numbers spans gap → IsMeeting (CloseAt b (g +ℤ g)) nets gap
line_told b g nets fats numbers spans hg grown spanned once numbered gap h =
    record {
      order = subst (λ (z : ℕ). z < gap.high) (sym h.pair.line.low_is) (subst (λ (z : ℕ). net_of numbers gap.first < z) (sym h.pair.line.high_is) h.pair.order);
      held = holds gap.low gap.first h.near.first h.pair.line.low_is;
      near = record {
        held = holds gap.high gap.second h.near.second h.pair.line.high_is;
        near = record { first = p; second = q; first_is = first_is; second_is = second_is; close = (close_on p q g g gap.layer hg hg).0 (share, from_top, before_past) };
      };
    }
  where
    t : TouchAmong InFat fats gap.first gap.second
    t = h.near.touch

    p : PlainPiece
    p = piece_in t.first

    q : PlainPiece
    q = piece_in t.second

    first_is : slice_get b.pieces gap.first ≡ Some p
    first_is = mapped piece_in fats b.pieces gap.first t.first grown.pieces_are t.here

    second_is : slice_get b.pieces gap.second ≡ Some q
    second_is = mapped piece_in fats b.pieces gap.second t.second grown.pieces_are t.there

    share : SharePoint (Grown (InFigure p.figure) g) (Grown (InFigure q.figure) g)
    share =
        subst (λ (z : ℤ). SharePoint (Grown (InFigure p.figure) z) (Grown (InFigure q.figure) g)) (grow_is g fats gap.first t.first grown.growths t.here)
        (subst (λ (z : ℤ). SharePoint (Grown (InFigure p.figure) t.first.shape.grow) (Grown (InFigure q.figure) z)) (grow_is g fats gap.second t.second grown.growths t.there) t.share)

    from_top : max p.top q.top ≤ gap.layer
    from_top = (let e = span_is b.pieces spans gap.first p spanned first_is in let f = span_is b.pieces spans gap.second q spanned second_is in rw (e, f) at h.pair.line.from_top)

    before_past : gap.layer < min p.bottom q.bottom + 1
    before_past = (let e = span_is b.pieces spans gap.first p spanned first_is in let f = span_is b.pieces spans gap.second q spanned second_is in rw (e, f) at h.pair.line.before_past)

    many : length fats ≡ length b.pieces
    many = sym (length-map fats piece_in) ∙ ap length grown.pieces_are

    holds : (net piece : ℕ) → piece < length fats → net ≡ net_of numbers piece → Holds nets net piece
    holds net piece below e =
        let k : (i : ℕ) × Holds nets i piece = once.held piece (omega (arith, many)) in
        subst (λ (z : ℕ). Holds nets z piece) (sym (numbered k.0 piece k.1) ∙ sym e) k.1

pub meeting_told : (b : PlainBoard) (g : ℤ) (nets : List (List Twig)) (fats : List (Placed Fat)) (numbers : List ℕ) (spans : List Span) → pos 0 ≤ℤ g → AreGrown g b.pieces fats → spans ≡ map piece_span b.pieces →
    StandOnce (length b.pieces) nets → ((i p : ℕ) → Holds nets i p → net_of numbers p ≡ i) → (gap : Gap) → IsMeeting (CloseAt b (g +ℤ g)) nets gap → IsFieldLine (length fats) (TouchAmong InFat fats) numbers spans gap
meeting_told b g nets fats numbers spans hg grown spanned once numbered gap m =
    record {
      near = record { first = slice_get_within fats gap.first f.item f.is; second = slice_get_within fats gap.second s.item s.is; other = other; touch = touch };
      pair = record {
        order = omega (arith, low_is, high_is, m.order);
        line = record { low_is = low_is; high_is = high_is; first_is = refl; second_is = refl; from_top = from_top; before_past = before_past };
      };
    }
  where
    n : CloseAt b (g +ℤ g) gap.layer gap.first gap.second
    n = m.near.near

    f : Unmapped piece_in (slice_get fats gap.first) n.first
    f = unmapped piece_in fats b.pieces gap.first n.first grown.pieces_are n.first_is

    s : Unmapped piece_in (slice_get fats gap.second) n.second
    s = unmapped piece_in fats b.pieces gap.second n.second grown.pieces_are n.second_is

    low_is : gap.low ≡ net_of numbers gap.first
    low_is = sym (numbered gap.low gap.first m.held)

    high_is : gap.high ≡ net_of numbers gap.second
    high_is = sym (numbered gap.high gap.second m.near.held)

    other : gap.first ≢ gap.second
    other e = (let k : gap.low ≡ gap.high = once.one_net gap.low gap.high gap.second (subst (λ (z : ℕ). Holds nets gap.low z) e m.held) m.near.held in absurd (omega (arith, m.order)))

    close : AreCloseOn (g +ℤ g) gap.layer (piece_in f.item) (piece_in s.item)
    close = subst (λ (z : PlainPiece). AreCloseOn (g +ℤ g) gap.layer z (piece_in s.item)) (sym f.same) (subst (λ (z : PlainPiece). AreCloseOn (g +ℤ g) gap.layer n.first z) (sym s.same) n.close)

    grown_on : (SharePoint (Grown (InFigure (piece_in f.item).figure) g) (Grown (InFigure (piece_in s.item).figure) g)) × (max f.item.top s.item.top ≤ gap.layer) × (gap.layer < min f.item.bottom s.item.bottom + 1)
    grown_on = (close_on (piece_in f.item) (piece_in s.item) g g gap.layer hg hg).1 close

    common : CommonLayer f.item.top f.item.bottom s.item.top s.item.bottom
    common = between (max f.item.top s.item.top) (min f.item.bottom s.item.bottom) gap.layer grown_on.1 grown_on.2

    touch : TouchAmong InFat fats gap.first gap.second
    touch = record {
      first = f.item;
      second = s.item;
      here = f.is;
      there = s.is;
      layer = common;
      share = subst (λ (z : ℤ). SharePoint (Grown (InFigure (piece_in f.item).figure) z) (InFat s.item.shape)) (sym (grow_is g fats gap.first f.item grown.growths f.is))
          (subst (λ (z : ℤ). SharePoint (Grown (InFigure (piece_in f.item).figure) g) (Grown (InFigure (piece_in s.item).figure) z)) (sym (grow_is g fats gap.second s.item grown.growths s.is)) grown_on.0);
    }

    first_span : span_of spans gap.first ≡ piece_span (piece_in f.item)
    first_span = span_is b.pieces spans gap.first (piece_in f.item) spanned (mapped piece_in fats b.pieces gap.first f.item grown.pieces_are f.is)

    second_span : span_of spans gap.second ≡ piece_span (piece_in s.item)
    second_span = span_is b.pieces spans gap.second (piece_in s.item) spanned (mapped piece_in fats b.pieces gap.second s.item grown.pieces_are s.is)

    from_top : max (span_of spans gap.first).top (span_of spans gap.second).top ≤ gap.layer
    from_top = rw (first_span, second_span) grown_on.1

    before_past : gap.layer < min (span_of spans gap.first).bottom (span_of spans gap.second).bottom + 1
    before_past = rw (first_span, second_span) grown_on.2

-- ---- what holds of all pieces, of the grown ones

pub all_fats : (P : PlainPiece → ℤ → Type 0) (g : ℤ) (pieces : List PlainPiece) (fats : List (Placed Fat)) → AreGrown g pieces fats → All (λ p. P p g) pieces → All (λ f. P (piece_in f) f.shape.grow) fats
all_fats P g pieces fats grown h i d below =
    let many = length-map fats piece_in in
    let k : P (get_or (map piece_in fats) i (piece_in d)) g = subst (λ (xs : List PlainPiece). All (λ p. P p g) xs) (sym grown.pieces_are) h i (piece_in d) (omega arith) in
    subst (λ (z : ℤ). P (piece_in (get_or fats i d)) z) (sym (grown.growths i d below))
    (subst (λ (z : PlainPiece). P z g) (get_or-map piece_in fats i d (piece_in d) below) k)

-- ---- how the grown pieces are made

pub grown_more : (g : ℤ) (pieces : List (Placed Shape)) (i : ℕ) (p : Placed Shape) (fats new : List (Placed Fat)) (f : Placed Fat) → i < length pieces → p ≡ get_or pieces i p → AreGrown g (plain_pieces (take i pieces)) fats →
    new ≡ fats ++ f ∷ [] → piece_in f ≡ plain_piece p → f.shape.grow ≡ g → AreGrown g (plain_pieces (take (i + 1) pieces)) new
grown_more g pieces i p fats new f below is h e same grow = subst (λ (xs : List (Placed Fat)). AreGrown g (plain_pieces (take (i + 1) pieces)) xs) (sym e) record {
  pieces_are =
      map-append piece_in fats (f ∷ []) ∙ (ap (λ (xs : List PlainPiece). xs ++ piece_in f ∷ []) h.pieces_are ∙ (ap (λ (x : PlainPiece). plain_pieces (take i pieces) ++ x ∷ []) (same ∙ ap plain_piece is)
      ∙ (sym (map-append plain_piece (take i pieces) (get_or pieces i p ∷ [])) ∙ ap plain_pieces (sym (take_more pieces i p below)))));
  growths = All-push (λ (x : Placed Fat). x.shape.grow ≡ g) fats f h.growths grow;
}

pub grown_all : (g : ℤ) (pieces : List (Placed Shape)) (i : ℕ) (fats : List (Placed Fat)) → length pieces ≤ i → AreGrown g (plain_pieces (take i pieces)) fats → AreGrown g (plain_pieces pieces) fats
grown_all g pieces i fats past h = subst (λ (xs : List (Placed Shape)). AreGrown g (plain_pieces xs) fats) (take_all i pieces past) h

pub grown_lent : (g : ℤ) (pieces plain : List PlainPiece) (fats lent : List (Placed Fat)) → pieces ≡ plain → lent ≡ fats → AreGrown g pieces fats → AreGrown g plain lent
grown_lent g pieces plain fats lent e f h = subst (λ (xs : List PlainPiece). AreGrown g xs lent) e (subst (λ (xs : List (Placed Fat)). AreGrown g pieces xs) (sym f) h)

pub pieces_many : (pieces : List (Placed Shape)) (plain : List PlainPiece) → plain_pieces pieces ≡ plain → length pieces ≡ length plain
pieces_many pieces plain e = sym (length-map pieces plain_piece) ∙ ap length e

-- ---- the list

pub twice_half : (n : ℕ) → pos (5 * n) +ℤ pos (5 * n) ≡ pos (10 * n)
twice_half n = omega (arith, ints)

pub from_zero : (n : ℕ) → pos 0 ≤ℤ pos n
from_zero n = omega (arith, ints)

pub board_gaps : (b : PlainBoard) (g : ℤ) (nets : List (List Twig)) (fats : List (Placed Fat)) (numbers : List ℕ) (spans : List Span) (gaps : List Gap) → pos 0 ≤ℤ g → AreGrown g b.pieces fats → spans ≡ map piece_span b.pieces →
    StandOnce (length b.pieces) nets → ((i p : ℕ) → Holds nets i p → net_of numbers p ≡ i) → AreFirsts (IsFieldLine (length fats) (TouchAmong InFat fats) numbers spans) gaps → AreGaps (CloseAt b (g +ℤ g)) nets gaps
board_gaps b g nets fats numbers spans gaps hg grown spanned once numbered firsts = gaps_told (CloseAt b (g +ℤ g)) nets (IsFieldLine (length fats) (TouchAmong InFat fats) numbers spans) gaps meetings firsts
  where
    meetings : (gap : Gap) → IsFieldLine (length fats) (TouchAmong InFat fats) numbers spans gap ↔ IsMeeting (CloseAt b (g +ℤ g)) nets gap
    meetings gap = (λ k. line_told b g nets fats numbers spans hg grown spanned once numbered gap k, λ m. meeting_told b g nets fats numbers spans hg grown spanned once numbered gap m)
