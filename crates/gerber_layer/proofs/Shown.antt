-- Where an effect leads, before and after it is carried out.
use Rattle.std.proofs.Common.{◌≡◌, [], Some, Result, Ok, sym, ap}
use Rattle.board_shapes.specs.declared.shape.Shape.TheVariants.{Round}
use Rattle.board_shapes.specs.Figures.{figure_of}
use Rattle.aperture_macros.specs.Seen.{plain}
use Rattle.gerber_reading.specs.declared.kind.GerberKind.{GerberKind}
use Rattle.gerber_layer.specs.declared.effect.Effect.{Effect as Seen}
use Rattle.gerber_layer.specs.declared.effect.Effect.TheVariants as seen
use Rattle.gerber_layer.specs.CommandEffects.{Known, Effect, stays, makes, begins_macro, fills_macro, performs, opens, room_for}
use Rattle.gerber_reading.specs.After.{heads, opened}
use Rattle.gerber_layer.specs.Reader.{shown, leads, opens_block, tool_of}
use Rattle.gerber_layer.proofs.Outcome.{then_goes, flash_goes, extend_is, close_is, area_left, steps_is, concludes_is}

same_heads : (e f : Effect) → ◌≡◌ {A = Result Effect GerberKind} (Ok f) (Ok e) → heads e ≡ heads f
same_heads e f h = let g : f ≡ e = cc in ap heads (sym g)

pub heads_shown : (k : Known) (what : Seen) (e : Effect) → shown k what ≡ Ok e → heads e ≡ leads what
heads_shown k seen.Stays e h = same_heads e stays h
heads_shown k (seen.Makes n tool) e h = same_heads e (makes n (tool_of tool)) h
heads_shown k (seen.Begins name) e h = same_heads e (begins_macro name.now) h
heads_shown k (seen.Fills primitive) e h = same_heads e (fills_macro (plain primitive)) h
heads_shown k (seen.Moves to) e h = same_heads e (performs to []) h
heads_shown k (seen.Draws to stroke) e h = let g = then_goes (room_for k (Some (figure_of (Round stroke)))) to e h in ap heads g.is
heads_shown k (seen.Flashes to) e h = let g = flash_goes k to e h in ap heads g.is
heads_shown k (seen.Extends to) e h = ap heads (extend_is k to e h)
heads_shown k (seen.Closes to) e h = let g = close_is k to e h in ap heads g.1
heads_shown k (seen.Repeats next) e h = let g = steps_is k next e h in ap heads g.1
heads_shown k seen.Ends e h = let g = concludes_is k e h in ap heads g.1
heads_shown k seen.Opens e h = same_heads e opens h
heads_shown k seen.Leaves e h = let g = area_left k e h in ap heads g.1

-- and the block that it opens
same_opened : (e f : Effect) → ◌≡◌ {A = Result Effect GerberKind} (Ok f) (Ok e) → opened e ≡ opened f
same_opened e f h = let g : f ≡ e = cc in ap opened (sym g)

pub opened_shown : (k : Known) (what : Seen) (e : Effect) → shown k what ≡ Ok e → opened e ≡ opens_block what
opened_shown k seen.Stays e h = same_opened e stays h
opened_shown k (seen.Makes n tool) e h = same_opened e (makes n (tool_of tool)) h
opened_shown k (seen.Begins name) e h = same_opened e (begins_macro name.now) h
opened_shown k (seen.Fills primitive) e h = same_opened e (fills_macro (plain primitive)) h
opened_shown k (seen.Moves to) e h = same_opened e (performs to []) h
opened_shown k (seen.Draws to stroke) e h = let g = then_goes (room_for k (Some (figure_of (Round stroke)))) to e h in ap opened g.is
opened_shown k (seen.Flashes to) e h = let g = flash_goes k to e h in ap opened g.is
opened_shown k (seen.Extends to) e h = ap opened (extend_is k to e h)
opened_shown k (seen.Closes to) e h = let g = close_is k to e h in ap opened g.1
opened_shown k (seen.Repeats next) e h = let g = steps_is k next e h in ap opened g.1
opened_shown k seen.Ends e h = let g = concludes_is k e h in ap opened g.1
opened_shown k seen.Opens e h = same_opened e opens h
opened_shown k seen.Leaves e h = let g = area_left k e h in ap opened g.1
