-- Laws over the definitions.
use Rattle.std.specs.Prelude.{ℕ, List, ℤ, pos, ◌+◌, ◌+ℤ◌, ◌<◌, ◌≡◌, ◌≤◌, ◌≤ℤ◌, ◌↔◌, Contains, max, min}
use Rattle.contact.specs.Solid.{SharePoint}
use Rattle.board_shapes.specs.Figures.{Figure, InFigure}
use Rattle.board_shapes.specs.Plain.{PlainBoard, PlainPiece}
use Rattle.board_shapes.specs.Tables.{IsTables}
use Rattle.tables.specs.Tables.{Tables}
use Rattle.verdict.specs.Right.{IsRight}
use Rattle.verdict.specs.declared.verdict.Twig.{Twig}
use Rattle.verdict.specs.declared.verdict.Verdict.{Verdict}
use Rattle.gaps.specs.declared.gap.Gap.{Gap}
use Rattle.gaps.specs.Firsts.{AreFirsts}
use Rattle.gaps.specs.Gaps.{AreCloseOn, AreGaps, CloseAt, IsClose, IsMeeting}
use Rattle.gaps.specs.Grown.{Grown}

-- Two figures, grown by g and by h, share a point exactly where they are close at g + h
abbrev pub GrownShare : Type 0
GrownShare = (f f' : Figure) (g h : ℤ) → pos 0 ≤ℤ g → pos 0 ≤ℤ h → SharePoint (Grown (InFigure f) g) (Grown (InFigure f') h) ↔ IsClose (InFigure f) (InFigure f') (g +ℤ h)

-- There is one list of the gaps of a board
abbrev pub GapsAreOne : Type 0
GapsAreOne = (b : PlainBoard) (g : ℤ) (nets : List (List Twig)) (gaps gaps' : List Gap) → AreGaps (CloseAt b g) nets gaps → AreGaps (CloseAt b g) nets gaps' → gaps ≡ gaps'

-- The list belongs to the board: two right verdicts have one list of gaps
abbrev pub GapListsAreOne : Type 0
GapListsAreOne = (b : PlainBoard) (g : ℤ) (t : Tables) (v w : Verdict) (gaps gaps' : List Gap) → IsTables b t → IsRight t v → IsRight t w → AreGaps (CloseAt b g) v.nets gaps → AreGaps (CloseAt b g) w.nets gaps' → gaps ≡ gaps'

-- Of lines that are exactly the meetings of pieces, the least of each layer and two nets are the gaps
abbrev pub FirstsAreGaps : Type 0
FirstsAreGaps = (b : PlainBoard) (g : ℤ) (nets : List (List Twig)) (meetings gaps : List Gap) → ((gap : Gap) → Contains meetings gap ↔ IsMeeting (CloseAt b g) nets gap) → AreFirsts (Contains meetings) gaps → AreGaps (CloseAt b g) nets gaps

-- Two pieces, grown by g and by h, share a point, and a layer lies from the greater top to the lesser bottom, exactly where
-- the pieces are close on the layer at g + h
abbrev pub GrownOnLayer : Type 0
GrownOnLayer = (p q : PlainPiece) (g h : ℤ) (layer : ℕ) → pos 0 ≤ℤ g → pos 0 ≤ℤ h → ((SharePoint (Grown (InFigure p.figure) g) (Grown (InFigure q.figure) h)) × (max p.top q.top ≤ layer) × (layer < min p.bottom q.bottom + 1)) ↔ AreCloseOn (g +ℤ h) layer p q
