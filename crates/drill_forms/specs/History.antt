-- What earlier lines have told, found by looking back. A history is a list of the forms of lines, the last first.
use Rattle.std.specs.Prelude.{ℕ, ◌+◌, Bool, true, false, ◌||◌, ◌==◌, if◌then◌else◌, List, [], ◌∷◌, ◌++◌, length, Option, Some, None, is_none, Result}
use Rattle.file_reading.specs.LookingBack.{last_or, last_said}
use Rattle.board_shapes.specs.Plain.{PlainPiece}
use Rattle.xnc.specs.declared.kind.DrillKind.{DrillKind}
use Rattle.xnc.specs.declared.line.DrillLine.{DrillLine}
use Rattle.xnc.specs.declared.line.DrillLine.TheVariants as line
use Rattle.xnc.specs.Places.{Place}
use Rattle.xnc.specs.DrillEffects.{Effect, effect}
use Rattle.xnc.specs.Settings.{settings_at, tool_at, known_with, piece_of}
use Rattle.drill_forms.specs.declared.form.Zeros.{Zeros}
use Rattle.drill_forms.specs.declared.form.Layout.{Layout}
use Rattle.drill_forms.specs.declared.form.FormLine.{FormLine}
use Rattle.drill_forms.specs.declared.form.FormLine.TheVariants as form
use Rattle.drill_forms.specs.declared.notes.Words.{Words}
use Rattle.drill_forms.specs.Meaning.{unplated, option_or, zeros_differ, layouts_differ, line_in}

-- an attribute is that of the next tool alone
abbrev pub own_in : FormLine → Option (Option Bool)
own_in (form.Next plated) = Some (Some plated)
own_in form.Untold = Some None
own_in (form.Says (line.Tool n d)) = Some None
own_in other = None

abbrev pub own_at : List FormLine → Option Bool
own_at earlier = last_or None own_in earlier

-- a type is that of all tools after it
abbrev pub lasting_in : FormLine → Option Bool
lasting_in (form.Lasting plated) = Some plated
lasting_in other = None

-- whether the next tool is plated, where something says so
abbrev pub told_at : List FormLine → Option Bool
told_at earlier = option_or (own_at earlier) (last_said lasting_in earlier)

-- what the file says of itself
abbrev pub mixed_in : FormLine → Option Bool
mixed_in (form.Function mixed) = Some mixed
mixed_in other = None

-- of some tool nothing was said; some tool is not plated
abbrev pub has_untold_at : List FormLine → Bool
has_untold_at [] = false
has_untold_at (form.Says (line.Tool n d) ∷ earlier) = is_none (told_at earlier) || has_untold_at earlier
has_untold_at (other ∷ earlier) = has_untold_at earlier

abbrev pub has_bare_at : List FormLine → Bool
has_bare_at [] = false
has_bare_at (form.Says (line.Tool n d) ∷ earlier) = unplated (told_at earlier) || has_bare_at earlier
has_bare_at (other ∷ earlier) = has_bare_at earlier

-- the tool of this number is not plated
abbrev pub bare_at : List FormLine → ℕ → Bool
bare_at [] n = false
bare_at (form.Says (line.Tool m d) ∷ earlier) n = if unplated (told_at earlier) then (if m == n then true else bare_at earlier n) else bare_at earlier n
bare_at (other ∷ earlier) n = bare_at earlier n

-- which zeros numbers without a point have, and how many digits
abbrev pub zeros_in : FormLine → Option Zeros
zeros_in (form.Units unit zeros layout) = zeros
zeros_in other = None

abbrev pub layout_in : FormLine → Option Layout
layout_in (form.Units unit zeros layout) = layout
layout_in (form.Counts layout) = Some layout
layout_in other = None

-- the file says in two ways how numbers without a point are written
abbrev pub two_ways_at : List FormLine → Bool
two_ways_at [] = false
two_ways_at (form.Units unit zeros layout ∷ earlier) = (zeros_differ zeros (last_said zeros_in earlier) || layouts_differ layout (last_said layout_in earlier)) || two_ways_at earlier
two_ways_at (form.Counts layout ∷ earlier) = layouts_differ (Some layout) (last_said layout_in earlier) || two_ways_at earlier
two_ways_at (other ∷ earlier) = two_ways_at earlier

-- what is in force before the next line
abbrev pub words_at : List FormLine → Words
words_at earlier = record {
  own = own_at earlier;
  lasting = last_said lasting_in earlier;
  mixed = last_said mixed_in earlier;
  has_untold = has_untold_at earlier;
  has_bare = has_bare_at earlier;
  zeros = last_said zeros_in earlier;
  layout = last_said layout_in earlier;
  two_ways = two_ways_at earlier;
}

-- what lines mean in `check`'s dialect, each by those before it
unfoldable pub lines_at : List FormLine → List DrillLine
lines_at [] = []
lines_at (f ∷ earlier) = line_in (settings_at (lines_at earlier)) (words_at earlier) f ∷ lines_at earlier

abbrev pub line_at : List FormLine → FormLine → DrillLine
line_at earlier f = line_in (settings_at (lines_at earlier)) (words_at earlier) f

-- the tool that is selected is not plated
abbrev pub bare_tool : Option ℕ → (ℕ → Bool) → Bool
bare_tool None bare = false
bare_tool (Some n) bare = bare n

abbrev pub is_bare_at : List FormLine → Bool
is_bare_at earlier = bare_tool (tool_at (lines_at earlier)) (bare_at earlier)

-- the piece of a line, which an unplated tool does not make
abbrev pub kept : Bool → List PlainPiece → List PlainPiece
kept bare pieces = if bare then [] else pieces

-- the barrels that the lines make, in order
unfoldable pub barrels_at : Place → List FormLine → List PlainPiece
barrels_at p [] = []
barrels_at p (f ∷ earlier) = barrels_at p earlier ++ kept (is_bare_at earlier) (piece_of p (length earlier + 1) (effect (known_with p (lines_at earlier) (length (barrels_at p earlier))) (line_at earlier f)))

-- what a line does, or its fault, behind these lines
abbrev pub effect_at : Place → List FormLine → FormLine → Result Effect DrillKind
effect_at p earlier f = effect (known_with p (lines_at earlier) (length (barrels_at p earlier))) (line_at earlier f)
