-- Files with macros.
use Rattle.std.proofs.Common.{◌≡◌, false, [], Some, Result, Ok, refl, ap, ◌∙◌, subst, sym}
use Rattle.gerber_reading.specs.Command.{Command}
use Rattle.gerber_reading.specs.declared.kind.GerberKind.{GerberKind}
use Rattle.gerber_layer.specs.declared.macro_kind.FlattenKind.{FlattenKind}
use Rattle.aperture_macros.specs.Seen.{plain}
use Rattle.board_shapes.specs.declared.shape.Shape.TheVariants.{Round}
use Rattle.board_shapes.specs.Figures.{figure_of}
use Rattle.gerber_layer.specs.declared.effect.Effect.{Effect as Seen}
use Rattle.gerber_layer.specs.declared.effect.Effect.TheVariants as seen
use Rattle.gerber_layer.specs.CommandEffects.{Known, Effect, stays, makes, begins_macro, fills_macro, performs, extends, closes, opens, leaves, steps, room_for, ◌>>=◌}
use Rattle.gerber_layer.specs.MacroTable.{few_radii, gerber}
use Rattle.gerber_layer.specs.MacroReader.{is_end}
use Rattle.gerber_layer.specs.Reader.{Reader, Obeys, shown, tool_of}
use Rattle.gerber_layer.proofs.Outcome.{then_goes, flash_goes, extend_is, close_is, area_left, steps_is}

-- ---- The end of a file

same_few : (e f : Effect) → ◌≡◌ {A = Result Effect GerberKind} (Ok f) (Ok e) → few_radii f ≡ Ok f → few_radii e ≡ Ok e
same_few e f h few = let g : f ≡ e = cc in subst (λ (x : Effect). few_radii x ≡ Ok x) g few

few_is : (e f : Effect) → e ≡ f → few_radii f ≡ Ok f → few_radii e ≡ Ok e
few_is e f is few = subst (λ (x : Effect). few_radii x ≡ Ok x) (sym is) few

-- only the end of a file counts radii
pub few_before_end : (k : Known) (what : Seen) (e : Effect) → is_end what ≡ false → shown k what ≡ Ok e → few_radii e ≡ Ok e
few_before_end k seen.Stays e b h = same_few e stays h refl
few_before_end k (seen.Makes n tool) e b h = same_few e (makes n (tool_of tool)) h refl
few_before_end k (seen.Begins name) e b h = same_few e (begins_macro name.now) h refl
few_before_end k (seen.Fills primitive) e b h = same_few e (fills_macro (plain primitive)) h refl
few_before_end k (seen.Moves to) e b h = same_few e (performs to []) h refl
few_before_end k (seen.Draws to stroke) e b h = let g = then_goes (room_for k (Some (figure_of (Round stroke)))) to e h in few_is e (performs to g.figures) g.is refl
few_before_end k (seen.Flashes to) e b h = let g = flash_goes k to e h in few_is e (performs to g.figures) g.is refl
few_before_end k (seen.Extends to) e b h = few_is e (extends to tt) (extend_is k to e h) refl
few_before_end k (seen.Closes to) e b h = let g = close_is k to e h in few_is e (closes to g.0) g.1 refl
few_before_end k (seen.Repeats next) e b h = let g = steps_is k next e h in few_is e (steps next g.0) g.1 refl
few_before_end k seen.Ends e b h = absurd (cc)
few_before_end k seen.Opens e b h = same_few e opens h refl
few_before_end k seen.Leaves e b h = let g = area_left k e h in few_is e (leaves g.0) g.1 refl

-- ---- What an effect comes to where the file may have macros

all_is : (what : Result Effect GerberKind) (all : Result Effect FlattenKind) (e : Effect) → what ≡ Ok e → (gerber what >>= few_radii) ≡ all → few_radii e ≡ all
all_is what all e is same = sym (ap (λ (r : Result Effect GerberKind). gerber r >>= few_radii) is) ∙ same

-- what is obeyed is the same by another table that has the effect
obeys_as : (old new : Reader) (c : Command) (what : Result Effect GerberKind) (all : Result Effect FlattenKind) (o : Obeys old c what new) → all ≡ Ok o.effect_is → Obeys old c all new
obeys_as old new c what all o is = record {
  effect_is = o.effect_is;
  clean = is;
  settings = o.settings;
  dictionary = o.dictionary;
  contour = o.contour;
  pieces = o.pieces;
  start = o.start;
  counts = o.counts;
  place = o.place;
}

pub obeys_with : (old new : Reader) (c : Command) (what : Result Effect GerberKind) (all : Result Effect FlattenKind) (o : Obeys old c what new) → (gerber what >>= few_radii) ≡ all → few_radii o.effect_is ≡ Ok o.effect_is → Obeys old c all new
obeys_with old new c what all o same few = obeys_as old new c what all o (sym (all_is what all o.effect_is o.clean same) ∙ few)
