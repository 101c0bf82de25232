-- Of all meetings of pieces, the least of each layer and two nets are the gaps.
use Rattle.std.proofs.Common.{◌≡◌, ◌↔◌, inl, inr, ℕ, ℤ, pos, ◌+◌, ◌+ℤ◌, ◌<◌, ◌≤◌, ◌≤ℤ◌, List, Contains, max, min, refl, sym, ap, subst, ◌∙◌, arith}
use Rattle.verdict.specs.Forest.{Holds}
use Rattle.verdict.specs.declared.verdict.Twig.{Twig}
use Rattle.gaps.specs.declared.gap.Gap.{Gap}
use Rattle.gaps.specs.Firsts.{AreFirsts, Beside, IsBeside, IsWithLess}
use Rattle.contact.specs.Solid.{SharePoint}
use Rattle.board_shapes.specs.Figures.{InFigure}
use Rattle.board_shapes.specs.Plain.{PlainPiece}
use Rattle.gaps.specs.Grown.{Grown}
use Rattle.gaps.proofs.Between.{grown_share}
use Rattle.gaps.specs.Gaps.{AreCloseOn, AreGaps, IsClose, IsGap, IsMeeting, IsNearNet, IsNearPiece}

module _ (close : ℕ → ℕ → ℕ → Type 0) (nets : List (List Twig)) where
  -- the line with other pieces
  abbrev with_pieces : Gap → ℕ → ℕ → Gap
  with_pieces g i j = record { layer = g.layer; low = g.low; high = g.high; first = i; second = j }

  moved : (g h : Gap) → IsBeside g h → IsGap close nets h → IsGap close nets (with_pieces g h.first h.second)
  moved g h b k =
      subst (λ (z : ℕ). IsGap close nets (let l : Gap = record { layer = z; low = g.low; high = g.high; first = h.first; second = h.second } in l)) (sym b.0)
      (subst (λ (z : ℕ). IsGap close nets (let l : Gap = record { layer = h.layer; low = z; high = g.high; first = h.first; second = h.second } in l)) (sym b.1)
      (subst (λ (z : ℕ). IsGap close nets (let l : Gap = record { layer = h.layer; low = h.low; high = z; first = h.first; second = h.second } in l)) (sym b.2) k))

  first_same : (g : Gap) (i j : ℕ) → IsGap close nets g → IsGap close nets (with_pieces g i j) → i ≡ g.first
  first_same g i j h k =
      let a : g.first ≤ i = h.first.1 i k.first.0 in
      let b : i ≤ g.first = k.first.1 g.first h.first.0 in
      omega arith

  second_same : (g : Gap) (i j : ℕ) → i ≡ g.first → IsGap close nets g → IsGap close nets (with_pieces g i j) → j ≡ g.second
  second_same g i j e h k =
      let a : g.second ≤ j = h.second.1 j (subst (λ (z : ℕ). IsNearPiece close nets g.layer g.high z j) e k.second.0) in
      let b : j ≤ g.second = k.second.1 g.second (subst (λ (z : ℕ). IsNearPiece close nets g.layer g.high z g.second) (sym e) h.second.0) in
      omega arith

  same_line : (g h : Gap) → IsBeside g h → h.first ≡ g.first → h.second ≡ g.second → h ≡ g
  same_line g h b p q =
      ap (λ (z : ℕ). let l : Gap = record { layer = z; low = h.low; high = h.high; first = h.first; second = h.second } in l) (sym b.0)
      ∙ ap (λ (z : ℕ). let l : Gap = record { layer = g.layer; low = z; high = h.high; first = h.first; second = h.second } in l) (sym b.1)
      ∙ ap (λ (z : ℕ). let l : Gap = record { layer = g.layer; low = g.low; high = z; first = h.first; second = h.second } in l) (sym b.2)
      ∙ ap (λ (z : ℕ). let l : Gap = record { layer = g.layer; low = g.low; high = g.high; first = z; second = h.second } in l) p
      ∙ ap (λ (z : ℕ). let l : Gap = record { layer = g.layer; low = g.low; high = g.high; first = g.first; second = z } in l) q

  one_line : (g h : Gap) → IsBeside g h → IsGap close nets g → IsGap close nets h → h ≡ g
  one_line g h b k l =
      let m : IsGap close nets (with_pieces g h.first h.second) = moved g h b l in
      let p : h.first ≡ g.first = first_same g h.first h.second k m in
      same_line g h b p (second_same g h.first h.second p k m)

  meeting : (g : Gap) → IsGap close nets g → IsMeeting close nets g
  meeting g h = record { order = h.order; held = h.first.0.held; near = h.second.0 }

  pub gaps_told : (meetings : Gap → Type 0) (gaps : List Gap) → ((g : Gap) → meetings g ↔ IsMeeting close nets g) → AreFirsts meetings gaps → AreGaps close nets gaps
  gaps_told meetings gaps exact f = record { rising = f.rising; only = only; all = all }
    where
      only : (g : Gap) → Contains gaps g → IsGap close nets g
      only g k =
          let m : IsMeeting close nets g = (exact g).0 (f.only g k) in
          record {
            order = m.order;
            first = (record { held = m.held; piece = g.second; near = m.near }, least);
            second = (m.near, least_of);
          }
        where
          ordered : g.low < g.high
          ordered = ((exact g).0 (f.only g k)).order

          held : Holds nets g.low g.first
          held = ((exact g).0 (f.only g k)).held

          less : (i j : ℕ) → IsMeeting close nets (with_pieces g i j) → IsWithLess g (with_pieces g i j)
          less i j m = f.least g (with_pieces g i j) k ((exact (with_pieces g i j)).1 m) (refl, refl, refl)

          least : (i : ℕ) → IsNearNet close nets g.layer g.low g.high i → g.first ≤ i
          least i n = elim (less i n.piece record { order = ordered; held = n.held; near = n.near }) [ inl l ↦ omega arith | inr l ↦ omega (arith, l.0) ]

          least_of : (j : ℕ) → IsNearPiece close nets g.layer g.high g.first j → g.second ≤ j
          least_of j n = elim (less g.first j record { order = ordered; held = held; near = n }) [ inl l ↦ absurd (omega (arith, l)) | inr l ↦ l.1 ]

      all : (g : Gap) → IsGap close nets g → Contains gaps g
      all g h =
          let b : Beside gaps g = f.all g ((exact g).1 (meeting g h)) in
          subst (λ (z : Gap). Contains gaps z) (one_line g b.line b.beside h (only b.line b.stands)) b.stands

-- two grown figures share a point and the layer is one of both spans exactly where the pieces are close on the layer at both growths
pub close_on : (p q : PlainPiece) (g h : ℤ) (layer : ℕ) → pos 0 ≤ℤ g → pos 0 ≤ℤ h →
    ((SharePoint (Grown (InFigure p.figure) g) (Grown (InFigure q.figure) h)) × (max p.top q.top ≤ layer) × (layer < min p.bottom q.bottom + 1)) ↔ AreCloseOn (g +ℤ h) layer p q
close_on p q g h layer hg hh =
    let e : SharePoint (Grown (InFigure p.figure) g) (Grown (InFigure q.figure) h) ↔ IsClose (InFigure p.figure) (InFigure q.figure) (g +ℤ h) = grown_share (InFigure p.figure) (InFigure q.figure) g h hg hh in
    (λ k. ((omega (arith, k.1), omega (arith, k.2)), (omega (arith, k.1), omega (arith, k.2)), e.0 k.0), λ k. (e.1 k.2, omega (arith, k.0, k.1), omega (arith, k.0, k.1)))
