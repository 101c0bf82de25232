-- What a draw makes (Gerber Layer Format Specification, 4.7 and 4.8).
use Rattle.std.specs.Prelude.{ℕ, ◌/◌, ◌%◌, ◌==◌, if◌then◌else◌, pos, Option, Some, None, IfSome}
use Rattle.planar.specs.Plane.{IsPlaced}
use Rattle.planar.specs.declared.Spot.{Spot}
use Rattle.board_shapes.specs.Figures.{round}
use Rattle.fine_figures.specs.Taken.{doubled}
use Rattle.fine_figures.specs.declared.FineFigure.TheVariants.{Round}
use Rattle.real_copper.specs.Figures.{RealFigure, arc, exact, odd}
use Rattle.real_copper.specs.declared.draw.Bend.{Bend}

-- the stroke of a pen of an odd diameter, in half u
abbrev pub odd_draw : Spot → Spot → ℕ → RealFigure
odd_draw from to pen = odd (Round (record { a = doubled from; b = doubled to; r = pen }))

-- A straight draw: a stroke with half the pen, and with a pen of an odd diameter that in half u.
abbrev pub straight_draw : Spot → Spot → ℕ → RealFigure
straight_draw from to pen =
    if pen % 2 == 0 then exact (round (record { a = from; b = to; r = pos (pen / 2) })) else odd_draw from to pen

-- An arc, as wide as its pen. Arcs go counterclockwise, so one that goes clockwise is the one that goes back.
abbrev pub arc_draw : Bend → Spot → Spot → ℕ → RealFigure
arc_draw b from to pen =
    if b.clockwise then arc (record { centre = b.centre; start = to; end = from; width = pen }) else arc (record { centre = b.centre; start = from; end = to; width = pen })

-- a draw with or without a bend
abbrev pub draw_of : Option Bend → Spot → Spot → ℕ → RealFigure
draw_of (Some b) from to pen = arc_draw b from to pen
draw_of None from to pen = straight_draw from to pen

-- its centre is at most 1 m from 0
abbrev pub IsNearBend : Option Bend → Type 0
IsNearBend bend = IfSome bend (λ b. IsPlaced b.centre)
