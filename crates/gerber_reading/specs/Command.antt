-- Commands without where they lie in memory.
use Rattle.std.specs.Prelude.{ℕ, Bool, false, List, Option, None, option_map}
use Rattle.lengths.specs.declared.decimal.Unit.{Unit as Measure}
use Rattle.gerber_words.specs.declared.fault.WordFault.{WordFault}
use Rattle.gerber_reading.specs.declared.kind.GerberKind.{GerberKind}
use Rattle.gerber_reading.specs.declared.command.Code.{Code}
use Rattle.gerber_reading.specs.declared.command.Format.{Format}
use Rattle.gerber_reading.specs.declared.command.Bending.{Bending as SeenBending}
use Rattle.gerber_reading.specs.declared.settings.Curve.{Curve}
use Rattle.gerber_reading.specs.declared.settings.Quadrants.{Quadrants}
use Rattle.gerber_reading.specs.declared.command.Command.{Command as Seen}
use Rattle.gerber_reading.specs.declared.command.Command.TheVariants as seen

-- what an operation says of an arc besides: its curve, its offsets, and whether there are further ones
pub record Bending : Type 0 where
  pub curve : Option Curve
  pub i : Option (List ℕ)
  pub j : Option (List ℕ)
  pub more : Bool

abbrev pub bending_of : SeenBending → Bending
bending_of b = record { curve = b.curve; i = option_map (λ t. t.now) b.i; j = option_map (λ t. t.now) b.j; more = b.more }

-- that of an operation that says nothing of an arc
abbrev pub no_bending : Bending
no_bending = record { curve = None; i = None; j = None; more = false }

-- a word of a copper file, read by itself; where the words stop, that they break off or that the file finishes
pub data Command : Type 0 where
  nothing : Command
  refused : GerberKind → Command
  counts_in : Measure → Command
  formats : Format → Command
  defines : List ℕ → Command
  names_macro : List ℕ → Command
  body_word : List ℕ → Command
  selects : ℕ → Command
  curves : Curve → Command
  quarters : Quadrants → Command
  operates : Option (List ℕ) → Option (List ℕ) → Option Code → Bending → Command
  opens_region : Command
  closes_region : Command
  repeats : List ℕ → Command
  ends : Command
  breaks : WordFault → Command
  finishes : Command
  functions : Option (List ℕ) → Option (List ℕ) → Command

-- the command that was seen, its texts as their bytes
abbrev pub view : Seen → Command
view seen.Nothing = nothing
view (seen.Refused kind) = refused kind
view (seen.Unit unit) = counts_in unit
view (seen.Format format) = formats format
view (seen.Define text) = defines text.now
view (seen.Macro name) = names_macro name.now
view (seen.Body text) = body_word text.now
view (seen.Select n) = selects n
view (seen.Curve curve) = curves curve
view (seen.Quadrants quadrants) = quarters quadrants
view (seen.Operate x y code b) = operates (option_map (λ t. t.now) x) (option_map (λ t. t.now) y) code (bending_of b)
view seen.OpenRegion = opens_region
view seen.CloseRegion = closes_region
view (seen.Repeat text) = repeats text.now
view seen.End = ends
view (seen.Broken fault) = breaks fault
view seen.Finish = finishes
view (seen.Function kind layer) = functions (option_map (λ t. t.now) kind) (option_map (λ t. t.now) layer)
