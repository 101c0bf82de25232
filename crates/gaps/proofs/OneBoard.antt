-- The list of gaps belongs to the board, whatever right verdict its nets come from.
use Rattle.std.proofs.Common.{ℕ, List, length}
use Rattle.board_shapes.proofs.BoardTables.{tables_are_consistent}
use Rattle.tables.specs.Tables.{Stands}
use Rattle.verdict.proofs.OneForest.{held_alike}
use Rattle.verdict.specs.Forest.{Holds, IsForest}
use Rattle.verdict.specs.Right.{Trees, Covers, Apart}
use Rattle.verdict.specs.declared.verdict.Twig.{Twig}
use Rattle.gaps.specs.declared.gap.Gap.{Gap}
use Rattle.gaps.specs.Gaps.{AreGaps, CloseAt, IsGap, IsNearNet, IsNearPiece}
use Rattle.gaps.specs.Laws.{GapListsAreOne}
use Rattle.gaps.proofs.OneList.{one_list}

module _ (close : ℕ → ℕ → ℕ → Type 0) where
  piece_too : (nets others : List (List Twig)) → ((i p : ℕ) → Holds nets i p → Holds others i p) → (layer net i j : ℕ) → IsNearPiece close nets layer net i j → IsNearPiece close others layer net i j
  piece_too nets others to layer net i j h = record { held = to net j h.held; near = h.near }

  net_too : (nets others : List (List Twig)) → ((i p : ℕ) → Holds nets i p → Holds others i p) → (layer net other i : ℕ) → IsNearNet close nets layer net other i → IsNearNet close others layer net other i
  net_too nets others to layer net other i h = record { held = to net i h.held; piece = h.piece; near = piece_too nets others to layer other i h.piece h.near }

  -- where the nets hold the same pieces, a line is a gap of both
  gap_too : (nets others : List (List Twig)) → ((i p : ℕ) → Holds nets i p → Holds others i p) → ((i p : ℕ) → Holds others i p → Holds nets i p) → (gap : Gap) → IsGap close nets gap → IsGap close others gap
  gap_too nets others to from gap h = record {
    order = h.order;
    first = (net_too nets others to gap.layer gap.low gap.high gap.first h.first.0, λ i n. h.first.1 i (net_too others nets from gap.layer gap.low gap.high i n));
    second = (piece_too nets others to gap.layer gap.high gap.first gap.second h.second.0, λ j n. h.second.1 j (piece_too others nets from gap.layer gap.high gap.first j n));
  }

  gaps_too : (nets others : List (List Twig)) → ((i p : ℕ) → Holds nets i p → Holds others i p) → ((i p : ℕ) → Holds others i p → Holds nets i p) → (gaps : List Gap) → AreGaps close nets gaps → AreGaps close others gaps
  gaps_too nets others to from gaps h = record {
    rising = h.rising;
    only = λ gap stands. gap_too nets others to from gap (h.only gap stands);
    all = λ gap is. h.all gap (gap_too others nets from to gap is);
  }

pub gap_lists_are_one : GapListsAreOne
gap_lists_are_one b g t v w gaps gaps' is right other h k =
    let tables = tables_are_consistent b t is in
    let nets : IsForest (length t.near) (Stands t.near) v.nets = record { trees = right Trees; covers = right Covers; apart = right Apart } in
    let others : IsForest (length t.near) (Stands t.near) w.nets = record { trees = other Trees; covers = other Covers; apart = other Apart } in
    let to = held_alike (length t.near) (Stands t.near) tables.known tables.both v.nets w.nets nets others in
    let from = held_alike (length t.near) (Stands t.near) tables.known tables.both w.nets v.nets others nets in
    one_list (CloseAt b g) w.nets gaps gaps' (gaps_too (CloseAt b g) v.nets w.nets to from gaps h) k
