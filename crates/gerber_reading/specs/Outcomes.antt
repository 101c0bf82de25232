-- What an effect says of its command, whatever the table is.
use Rattle.std.specs.Prelude.{◌≡◌, ℕ, Bool, true, false, List, All, Option, Some, None, Result, Ok, Err}
use Rattle.planar.specs.declared.Spot.{Spot}
use Rattle.lengths.specs.declared.decimal.Unit.{Unit as Measure}
use Rattle.board_shapes.specs.Pieces.{PieceOf}
use Rattle.step_repeat.specs.declared.repeat.Repeat.{Repeat}
use Rattle.aperture_macros.specs.BodyWord.{PlainPrimitive}
use Rattle.apertures.specs.declared.fault.ApertureFault.{ApertureFault}
use Rattle.aperture_macros.specs.declared.fault.MacroFault.{MacroFault}
use Rattle.gerber_reading.specs.Command.{Bending, Command, defines, repeats, opens_region, closes_region, operates, ends, names_macro, body_word}
use Rattle.gerber_reading.specs.declared.command.Code.{Code}
use Rattle.gerber_reading.specs.declared.command.Code.TheVariants.{Draw, Move, Flash}
use Rattle.gerber_reading.specs.declared.command.Format.{Format}
use Rattle.gerber_reading.specs.declared.settings.Settings.{Settings}
use Rattle.gerber_reading.specs.Tools.{Tool, tool_in}
use Rattle.gerber_reading.specs.Image.{pieces_after}
use Rattle.gerber_reading.specs.CommandEffects.{Place, Known, Effect, Meaning, Profile, stays, makes, begins_macro, fills_macro, performs, extends, closes, opens, leaves, steps, concludes, code_of, coordinate, next_block}

-- outside a region an operation goes to a spot, whatever it leaves there
pub record Goes {G E A : Type 0} (e : (Effect G E A)) (to : Spot) : Type 0 where
  pub figures : List G
  pub is : e ≡ performs to figures

-- what an operation's effect is outside a region, and in one
abbrev pub IsEffect : {G E A : Type 0} → Bool → Code → Spot → E → (Effect G E A) → Type 0
IsEffect false code to b e = Goes e to
IsEffect true Draw to b e = e ≡ extends to b
IsEffect {G = G} true Move to b e = (area : Option G) × (e ≡ closes to area)
IsEffect true Flash to b e = ⊥

-- what an operation did
pub record Performed {G E A : Type 0} (edge : Settings → Command → E) (k : (Known G E A)) (x y : Option (List ℕ)) (code : Option Code) (b : Bending) (e : (Effect G E A)) : Type 0 where
  pub format : Format
  pub unit : Measure
  pub to : Spot
  pub format_is : k.settings.format ≡ Some format
  pub unit_is : k.settings.unit ≡ Some unit
  pub x_is : coordinate format unit k.settings.at.x x ≡ Ok to.x
  pub y_is : coordinate format unit k.settings.at.y y ≡ Ok to.y
  pub is : IsEffect k.settings.region (code_of code) to (edge k.settings (operates x y code b)) e

-- what a definition did
pub record Defined {G E A : Type 0} (aperture : List ℕ → Measure → Result (ℕ × A) ApertureFault) (k : (Known G E A)) (text : List ℕ) (e : (Effect G E A)) : Type 0 where
  pub unit : Measure
  pub n : ℕ
  pub tool : Tool A
  pub unit_is : k.settings.unit ≡ Some unit
  pub read_is : tool_in aperture text unit ≡ Some (n, tool)
  pub is : e ≡ makes n tool

-- what a step and repeat word did
pub record Repeated {G E A : Type 0} (k : (Known G E A)) (text : List ℕ) (e : (Effect G E A)) : Type 0 where
  pub next : Option Repeat
  pub pieces : List (PieceOf G)
  pub next_is : next_block k.settings.unit text ≡ Ok next
  pub is : e ≡ steps next pieces

-- what a word of a macro's body did
abbrev pub IsFilled : {G E A : Type 0} → Result (Option PlainPrimitive) MacroFault → (Effect G E A) → Type 0
IsFilled (Ok None) e = e ≡ stays
IsFilled (Ok (Some p)) e = e ≡ fills_macro p
IsFilled (Err fault) e = ⊥

-- what the effect of each command is
abbrev pub Outcome : {G E A : Type 0} → Meaning E A → (Known G E A) → Command → (Effect G E A) → Type 0
Outcome m k (defines text) e = Defined m.aperture k text e
Outcome m k (operates x y code b) e = Performed m.edge k x y code b e
Outcome m k opens_region e = e ≡ opens
Outcome m k (repeats text) e = Repeated k text e
Outcome {G = G} m k ends e = (pieces : List (PieceOf G)) × (e ≡ concludes pieces)
Outcome {G = G} m k closes_region e = (area : Option G) × (e ≡ leaves area)
Outcome m k (names_macro name) e = e ≡ begins_macro name
Outcome m k (body_word text) e = IsFilled (m.primitive text) e
Outcome m k other e = e ≡ stays

-- the outcomes of a table are those of the commands
abbrev pub HasOutcomes : {G E A W : Type 0} → Profile G E A W → Type 0
HasOutcomes {G = G} {E = E} {A = A} f = (k : (Known G E A)) (c : Command) (e : (Effect G E A)) → f.does k c ≡ Ok e → Outcome f.means k c e

-- the piece is on the layer of the place
abbrev pub OnLayer : {G : Type 0} → Place → PieceOf G → Type 0
OnLayer p piece = (piece.top ≡ p.layer) × (piece.bottom ≡ p.layer)

-- a table keeps pieces on their layer
abbrev pub KeepsLayer : {G E A W : Type 0} → Profile G E A W → Type 0
KeepsLayer {G = G} {E = E} {A = A} f = (p : Place) (k : (Known G E A)) (n : ℕ) (c : Command) (e : (Effect G E A)) → All (OnLayer p) k.pieces → f.does k c ≡ Ok e → All (OnLayer p) (pieces_after p n k.pieces e)
