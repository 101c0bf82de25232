-- The boards that the program reads, as boards with any copper.
use Rattle.std.proofs.Common.{◌≡◌, ℕ, Some, slice_get, sym, ap, ◌∙◌, subst}
use Rattle.std.proofs.lemmas.Option.{same_Some, slice_get-map}
use Rattle.std.specs.Option.{option_map}
use Rattle.board_shapes.specs.Plain.{PlainBoard, PlainPiece}
use Rattle.board_shapes.specs.Spans.{CommonLayer, InSpan}
use Rattle.board_shapes.specs.Touching.{ProbesJoined, TouchAt, UnderAt}
use Rattle.covers.specs.Boards.{PointsJoined, Span, TouchAt as Touches, UnderAt as Under}
use Rattle.covers.specs.Plain.{InPiece, layout_of, span_of}
use Rattle.witness_check.proofs.Boards.{chain_along}

span_at : (b : PlainBoard) (i : ℕ) (piece : PlainPiece) → slice_get b.pieces i ≡ Some piece → slice_get (layout_of b).spans i ≡ Some (span_of piece)
span_at b i piece is = slice_get-map span_of b.pieces i ∙ ap (option_map span_of) is

-- the span of a number is that of its piece
one_span : (b : PlainBoard) (i : ℕ) (piece : PlainPiece) (span : Span) → slice_get b.pieces i ≡ Some piece → slice_get (layout_of b).spans i ≡ Some span → span ≡ span_of piece
one_span b i piece span is there = same_Some span (span_of piece) (sym there ∙ span_at b i piece is)

-- ---- From the program's board

pub under_as : (b : PlainBoard) (k i : ℕ) → UnderAt b k i → Under (InPiece b) (layout_of b) k i
under_as b k i u = record { span = span_of u.piece; probe = u.probe; span_is = span_at b i u.piece u.piece_is; probe_is = u.probe_is; layer = u.under.0; place = record { piece = u.piece; piece_is = u.piece_is; inside = u.under.1 } }

touch_as : (b : PlainBoard) (i j : ℕ) → TouchAt b i j → Touches (InPiece b) (layout_of b) i j
touch_as b i j t = record {
  first = span_of t.first;
  second = span_of t.second;
  first_is = span_at b i t.first t.first_is;
  second_is = span_at b j t.second t.second_is;
  layer = t.touch.0;
  share = record { point = t.touch.1.point; in_first = record { piece = t.first; piece_is = t.first_is; inside = t.touch.1.in_first }; in_second = record { piece = t.second; piece_is = t.second_is; inside = t.touch.1.in_second } };
}

pub joined_as : (b : PlainBoard) (k l : ℕ) → ProbesJoined b k l → PointsJoined (InPiece b) (layout_of b) k l
joined_as b k l p = record {
  i = p.i;
  j = p.j;
  first = under_as b k p.i p.first;
  last = under_as b l p.j p.last;
  joined = (p.joined.0, chain_along (TouchAt b) (Touches (InPiece b) (layout_of b)) (touch_as b) p.joined.0 p.i p.j p.joined.1);
}

-- ---- And back

pub under_back : (b : PlainBoard) (k i : ℕ) → Under (InPiece b) (layout_of b) k i → UnderAt b k i
under_back b k i u = record {
  piece = u.place.piece;
  probe = u.probe;
  piece_is = u.place.piece_is;
  probe_is = u.probe_is;
  under = (subst (λ (s : Span). InSpan s.top s.bottom u.probe.layer) (one_span b i u.place.piece u.span u.place.piece_is u.span_is) u.layer, u.place.inside);
}

touch_back : (b : PlainBoard) (i j : ℕ) → Touches (InPiece b) (layout_of b) i j → TouchAt b i j
touch_back b i j t =
    let one = t.share.in_first in
    let two = t.share.in_second in
    let layer : CommonLayer one.piece.top one.piece.bottom t.second.top t.second.bottom = subst (λ (s : Span). CommonLayer s.top s.bottom t.second.top t.second.bottom) (one_span b i one.piece t.first one.piece_is t.first_is) t.layer in
    record {
      first = one.piece;
      second = two.piece;
      first_is = one.piece_is;
      second_is = two.piece_is;
      touch = (subst (λ (s : Span). CommonLayer one.piece.top one.piece.bottom s.top s.bottom) (one_span b j two.piece t.second two.piece_is t.second_is) layer, record { point = t.share.point; in_first = one.inside; in_second = two.inside });
    }

pub joined_back : (b : PlainBoard) (k l : ℕ) → PointsJoined (InPiece b) (layout_of b) k l → ProbesJoined b k l
joined_back b k l p = record {
  i = p.i;
  j = p.j;
  first = under_back b k p.i p.first;
  last = under_back b l p.j p.last;
  joined = (p.joined.0, chain_along (Touches (InPiece b) (layout_of b)) (TouchAt b) (touch_back b) p.joined.0 p.i p.j p.joined.1);
}
