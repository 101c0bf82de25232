-- What earlier commands have set, and the image by a table, where the words mean standard apertures, exact primitives and straight contours.
use Rattle.std.specs.Prelude.{ℕ, List, Option, Result}
use Rattle.lengths.specs.declared.decimal.Unit.{Unit as Measure}
use Rattle.board_shapes.specs.Pieces.{PlainPiece}
use Rattle.regions.specs.Contours.{Outline}
use Rattle.gerber_reading.specs.Command.{Command}
use Rattle.gerber_reading.specs.declared.place.Place.{Place}
use Rattle.gerber_reading.specs.Settings as settings
use Rattle.gerber_reading.specs.Image as image
use Rattle.gerber_layer.specs.CommandEffects.{Effect, Known, Profile, exact_meaning}
use Rattle.gerber_layer.specs.Image.{Image}
use Rattle.gerber_layer.specs.Tools.{Macros, Tool}

abbrev pub contour_before : List Command → Option (Outline (Unit {0}))
contour_before h = settings.contour_before exact_meaning.edge h

abbrev pub definition_in : Command → Option Measure → ℕ → Option Tool
definition_in c unit n = settings.definition_in exact_meaning.aperture c unit n

abbrev pub defined_before : List Command → ℕ → Option Tool
defined_before h n = settings.defined_before exact_meaning.aperture h n

abbrev pub macros_by : Command → Macros → Macros
macros_by c m = settings.macros_by exact_meaning.primitive c m

abbrev pub macros_before : List Command → Macros
macros_before h = settings.macros_before exact_meaning.primitive h

-- what each command does
abbrev pub Table : Type 0 → Type 0
Table W = Known → Command → Result Effect W

abbrev pub profile : {W : Type 0} → Table W → Profile W
profile f = record { does = f; means = exact_meaning }

abbrev pub image_by : {W : Type 0} → Table W → Place → List Command → Image
image_by f p h = image.image_by (profile f) p h

abbrev pub pieces_by : {W : Type 0} → Table W → Place → List Command → List PlainPiece
pieces_by f p h = image.pieces_by (profile f) p h

abbrev pub known_by : {W : Type 0} → Table W → Place → List Command → Known
known_by f p h = image.known_by (profile f) p h

abbrev pub effect_by : {W : Type 0} → Table W → Place → List Command → Command → Result Effect W
effect_by f p h c = image.effect_by (profile f) p h c
