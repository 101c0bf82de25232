-- What the reader keeps, and how it goes on.
use Rattle.std.specs.Prelude.{◌≡◌, All, ℕ, ◌+◌, ◌^◌, ◌<◌, ◌≤◌, ◌==◌, if◌then◌else◌, List, [], ◌++◌, length, map, nat_eq, Option, Some, None, option_map, Result, Ok, Err, IfSome}
use Rattle.std.specs.HashMap.{get, get_by, hash_map_len}
use Rattle.texts.specs.Words.{is_word}
use Rattle.planar.specs.declared.Spot.{Spot}
use Rattle.step_repeat.specs.Copies.{edges_by, pieces_by}
use Rattle.step_repeat.specs.Figures.{Handling}
use Rattle.board_shapes.specs.declared.placed.Placed.{Placed}
use Rattle.aperture_macros.specs.BodyWord.{PlainPrimitive}
use Rattle.aperture_macros.specs.Seen.{plain as plain_primitive}
use Rattle.aperture_macros.specs.declared.primitive.Primitive.{Primitive}
use Rattle.apertures.specs.declared.fault.FlashFault.{FlashFault}
use Rattle.apertures.specs.declared.fault.FlashFault.TheVariants as flash
use Rattle.step_repeat.specs.declared.fault.CopyFault.{CopyFault}
use Rattle.step_repeat.specs.declared.fault.CopyFault.TheVariants as copy
use Rattle.regions.specs.Contours.{outline_of}
use Rattle.regions.specs.declared.contour.Contour.{Contour}
use Rattle.gerber_reading.specs.declared.kind.GerberKind.{GerberKind}
use Rattle.gerber_reading.specs.declared.kind.GerberKind.TheVariants as kind
use Rattle.file_reading.specs.Faults.{IsFault}
use Rattle.file_reading.specs.declared.fault.FileFault.{FileFault}
use Rattle.file_reading.specs.declared.halt.Halt.{Halt}
use Rattle.file_reading.specs.declared.halt.Halt.TheVariants as halt
use Rattle.board_shapes.specs.declared.TheConstants.{MOST_LAYERS}
use Rattle.gerber_reading.specs.declared.dictionary.Dictionary.{Dictionary}
use Rattle.gerber_reading.specs.declared.dictionary.Macro.{Macro as Begun}
use Rattle.gerber_reading.specs.declared.tool.Tool.{Tool as Given}
use Rattle.gerber_reading.specs.declared.tool.Tool.TheVariants as given
use Rattle.gerber_reading.specs.Tools.{Macro, Macros, Tool, standard, composed, begun, filled_up, macro_named}
use Rattle.gerber_reading.specs.declared.reader.Reader.{Reader}
use Rattle.gerber_reading.specs.CommandEffects.{Outline, Place, Known, Effect, makes, begins_macro, fills_macro, Profile, ended_block_by, listed}
use Rattle.gerber_reading.specs.After.{after, contour_after, heads, opened}
use Rattle.gerber_reading.specs.Image.{made, pieces_after, start_after}
use Rattle.gerber_reading.specs.Lawful.{AreLawfulSettings}
use Rattle.gerber_reading.specs.Command.{Command}
use Rattle.gerber_reading.specs.Settings.{lengthened, settings_before}
use Rattle.board_shapes.specs.Pieces.{PieceOf}

-- an aperture without where its name lies in memory
abbrev pub tool_of : {A : Type 0} → (Given A) → (Tool A)
tool_of (given.Standard aperture) = standard aperture
tool_of (given.Composed name parameters unit blanks) = composed name.now parameters.items unit

-- the primitives of a body
abbrev pub body_of : List Primitive → List PlainPrimitive
body_of body = map plain_primitive body

-- a macro without where it lies in memory
abbrev pub macro_of : Begun → Macro
macro_of m = record { name = m.name.now; body = body_of m.body.items }

-- the aperture that n is defined as, how many are defined, and the macros
abbrev pub defined_in : {A : Type 0} → Dictionary A → ℕ → Option (Tool A)
defined_in d n = option_map tool_of (get nat_eq d.tools n)

abbrev pub size_of : {A : Type 0} → Dictionary A → ℕ
size_of d = hash_map_len d.tools

abbrev pub macros_in : {A : Type 0} → Dictionary A → Macros
macros_in d = record {
  latest = option_map macro_of d.latest;
  others = λ name. option_map (λ b. body_of b.items) (get_by (λ k. is_word name k.now) d.others);
}

-- the aperture of n as it is kept
abbrev pub kept_in : {A : Type 0} → Dictionary A → ℕ → Option (Given A)
kept_in d n = get nat_eq d.tools n

-- what a dialect says of an aperture, where a file has these macros, holds of each that is kept
abbrev pub AllFit : {A : Type 0} → (Macros → Given A → Type 0) → Dictionary A → Type 0
AllFit fits d = (n : ℕ) → IfSome (kept_in d n) (fits (macros_in d))

-- the new dictionary keeps the apertures of the old one
abbrev pub KeepsTools : {A : Type 0} → Dictionary A → Dictionary A → Type 0
KeepsTools old new = (n : ℕ) → kept_in new n ≡ kept_in old n

-- the new dictionary defines n besides
pub record Adds {A : Type 0} (old new : Dictionary A) (n : ℕ) (tool : Tool A) : Type 0 where
  pub defined : (m : ℕ) → defined_in new m ≡ (if n == m then Some tool else defined_in old m)
  pub more : size_of new ≡ size_of old + 1
  pub macros : macros_in new ≡ macros_in old

-- the last macro of the old dictionary is among the others of the new one
pub record HasClosed {A : Type 0} (old new : Dictionary A) : Type 0 where
  pub defined : (n : ℕ) → defined_in new n ≡ defined_in old n
  pub size : size_of new ≡ size_of old
  pub others : (name : List ℕ) → (macros_in new).others name ≡ macro_named (macros_in old) name

-- the macros of the new dictionary are these, and its apertures are the old one's
pub record HasMacros {A : Type 0} (old new : Dictionary A) (macros : Macros) : Type 0 where
  pub defined : (n : ℕ) → defined_in new n ≡ defined_in old n
  pub size : size_of new ≡ size_of old
  pub latest : (macros_in new).latest ≡ macros.latest
  pub others : (name : List ℕ) → (macros_in new).others name ≡ macros.others name

-- the contour without where it lies in memory
abbrev pub contour_of : {E : Type 0} → Option (Contour E) → Option (Outline E)
contour_of contour = option_map outline_of contour

-- where the pieces of a reader come to stand, and what it knows before the next command
abbrev pub place_of : {F E A : Type 0} → (Reader F E A) → Place
place_of r = record { layer = r.layer; file = r.file; room = r.room }

abbrev pub known_of : {F G E A : Type 0} → (F → G) → (Reader F E A) → (Known G E A)
known_of plain r = record {
  settings = r.settings;
  defined = defined_in r.dictionary;
  definitions = size_of r.dictionary;
  macros = macros_in r.dictionary;
  contour = contour_of r.contour;
  pieces = pieces_by plain r.pieces.items;
  start = r.start;
  place = place_of r;
}

-- the dictionary after an effect
abbrev pub Turns : {G E A : Type 0} → Dictionary A → (Effect G E A) → Dictionary A → Type 0
Turns old (makes n tool) new = Adds old new n tool
Turns old (begins_macro name) new = HasMacros old new (begun (macros_in old) name)
Turns old (fills_macro p) new = HasMacros old new (filled_up (macros_in old) p)
Turns old other new = new ≡ old

-- The reader has obeyed a command that comes to this, which is no fault.
pub record Obeys {F G E A W : Type 0} (plain : F → G) (old : (Reader F E A)) (c : Command) (what : Result (Effect G E A) W) (new : (Reader F E A)) : Type 0 where
  pub effect_is : (Effect G E A)
  pub clean : what ≡ Ok effect_is
  pub settings : new.settings ≡ after old.settings c (heads effect_is) (opened effect_is)
  pub dictionary : Turns old.dictionary effect_is new.dictionary
  pub contour : contour_of new.contour ≡ contour_after effect_is (contour_of old.contour) old.settings.at
  pub pieces : pieces_by plain new.pieces.items ≡ pieces_after (place_of old) (old.commands + 1) (pieces_by plain old.pieces.items) effect_is
  pub start : new.start ≡ start_after old.start effect_is
  pub counts : new.commands ≡ old.commands + 1
  pub place : place_of new ≡ place_of old

-- The edges are counted, and the pieces have room.
pub record AreCounted {F G E A : Type 0} (plain : F → G) (h : Handling G) (r : Reader F E A) : Type 0 where
  pub edges : r.edges ≡ edges_by h (pieces_by plain r.pieces.items)
  pub few_pieces : length r.pieces.items ≤ r.room.pieces
  pub room : r.room.pieces < 2 ^ 32
  pub start : r.start ≤ length r.pieces.items

-- what a reader keeps whatever its dialect
pub record IsSound {F E A : Type 0} (r : Reader F E A) : Type 0 where
  pub settings : AreLawfulSettings r.settings
  pub layer : r.layer ≤ MOST_LAYERS

-- what a dialect says of an edge holds of each of the contour
abbrev pub AllKeep : {E : Type 0} → (E → Type 0) → Option (Outline E) → Type 0
AllKeep keeps contour = IfSome contour (λ o. All (λ l. keeps l.bend) o.legs)

-- what a reader keeps between two commands
pub record IsLawfulReader {F G E A : Type 0} (plain : F → G) (h : Handling G) (fits : Macros → Given A → Type 0) (keeps : E → Type 0) (r : Reader F E A) : Type 0 where
  pub sound : IsSound r
  pub fit : AllFit fits r.dictionary
  pub bends : AllKeep keeps (contour_of r.contour)
  pub counted : AreCounted plain h r

-- The reader has carried an effect out. Its settings are as before.
pub record Carries {F G E A : Type 0} (plain : F → G) (old : Reader F E A) (e : Effect G E A) (new : Reader F E A) : Type 0 where
  pub settings : new.settings ≡ old.settings
  pub dictionary : Turns old.dictionary e new.dictionary
  pub contour : contour_of new.contour ≡ contour_after e (contour_of old.contour) old.settings.at
  pub pieces : pieces_by plain new.pieces.items ≡ pieces_after (place_of old) (old.commands + 1) (pieces_by plain old.pieces.items) e
  pub start : new.start ≡ start_after old.start e
  pub counts : new.commands ≡ old.commands
  pub place : place_of new ≡ place_of old

-- What a command does is no fault, and the reader has carried it out.
pub record CarriesOut {F G E A W : Type 0} (plain : F → G) (old : Reader F E A) (what : Result (Effect G E A) W) (new : Reader F E A) : Type 0 where
  pub effect_is : Effect G E A
  pub is : what ≡ Ok effect_is
  pub carries : Carries plain old effect_is new

-- The reader has these pieces more.
pub record TakesOn {F G E A : Type 0} (plain : F → G) (old : Reader F E A) (more : List (PieceOf G)) (new : Reader F E A) : Type 0 where
  pub settings : new.settings ≡ old.settings
  pub dictionary : new.dictionary ≡ old.dictionary
  pub contour : new.contour ≡ old.contour
  pub pieces : pieces_by plain new.pieces.items ≡ pieces_by plain old.pieces.items ++ more
  pub start : new.start ≡ old.start
  pub counts : new.commands ≡ old.commands
  pub place : place_of new ≡ place_of old

-- The reader has a piece more, if there is a figure.
abbrev pub Places : {F G E A : Type 0} → (F → G) → Reader F E A → Option G → Reader F E A → Type 0
Places plain old figure new = TakesOn plain old (made (place_of old) (old.commands + 1) (listed figure)) new

-- The contour of the reader has an edge more.
pub record Lengthens {F E A : Type 0} (old : Reader F E A) (to : Spot) (e : E) (new : Reader F E A) : Type 0 where
  pub settings : new.settings ≡ old.settings
  pub dictionary : new.dictionary ≡ old.dictionary
  pub contour : contour_of new.contour ≡ lengthened (contour_of old.contour) old.settings.at to e
  pub pieces : new.pieces ≡ old.pieces
  pub edges : new.edges ≡ old.edges
  pub start : new.start ≡ old.start
  pub counts : new.commands ≡ old.commands
  pub place : place_of new ≡ place_of old

-- The reader has the pieces where its open block has ended.
pub record EndsBlock {F G E A : Type 0} (plain : F → G) (h : Handling G) (old new : Reader F E A) : Type 0 where
  pub is : ended_block_by h (known_of plain old) ≡ Ok (pieces_by plain new.pieces.items)
  pub settings : new.settings ≡ old.settings
  pub dictionary : new.dictionary ≡ old.dictionary
  pub contour : new.contour ≡ old.contour
  pub start : new.start ≡ old.start
  pub counts : new.commands ≡ old.commands
  pub place : place_of new ≡ place_of old

-- what stops the reader where a flash or the copies of a block fail
abbrev pub halt_of_flash : FlashFault → Halt GerberKind
halt_of_flash flash.OutOfRange = halt.Fault kind.OutOfRange
halt_of_flash flash.NoMemory = halt.NoMemory

abbrev pub halt_of_copy : CopyFault → Halt GerberKind
halt_of_copy copy.TooManyPieces = halt.Fault kind.TooManyPieces
halt_of_copy copy.TooManyEdges = halt.Fault kind.TooManyVertices
halt_of_copy copy.OutOfRange = halt.Fault kind.OutOfRange
halt_of_copy copy.NoMemory = halt.NoMemory

-- what stops the reader is that there is no room, or want of memory
abbrev pub Lacks : Option GerberKind → Halt GerberKind → Type 0
Lacks what (halt.Fault fault) = what ≡ Some fault
Lacks what halt.NoMemory = Unit {0}

-- What stops the reader is that fault, or want of memory.
abbrev pub Stops : {A W : Type 0} → Result A W → Halt W → Type 0
Stops what (halt.Fault fault) = what ≡ Err fault
Stops what halt.NoMemory = Unit {0}

-- a reader that has obeyed nothing
pub record IsNew {F E A : Type 0} (p : Place) (r : (Reader F E A)) : Type 0 where
  pub settings : r.settings ≡ settings_before []
  pub defined : (n : ℕ) → defined_in r.dictionary n ≡ None
  pub size : size_of r.dictionary ≡ 0
  pub latest : (macros_in r.dictionary).latest ≡ None
  pub others : (name : List ℕ) → (macros_in r.dictionary).others name ≡ None
  pub contour : contour_of r.contour ≡ None
  pub pieces : r.pieces.items ≡ []
  pub start : r.start ≡ 0
  pub counts : r.commands ≡ 0
  pub place : place_of r ≡ p

-- The reader obeys a last command, and these pieces are left.
pub record Leaves {F G E A W : Type 0} (plain : F → G) (f : Profile G E A W) (r : (Reader F E A)) (c : Command) (pieces : List (Placed F)) : Type 0 where
  pub last : (Reader F E A)
  pub obeys : Obeys plain r c (f.does (known_of plain r) c) last
  pub are : pieces ≡ last.pieces.items

-- why no file is read whose reader is stopped at a command that stands at a place
abbrev pub StopsAt : {F G E A W : Type 0} → (F → G) → Profile G E A W → (Reader F E A) → Command → ℕ → FileFault W → Type 0
StopsAt plain f r c at why = IsFault (λ kind number place. (f.does (known_of plain r) c ≡ Err kind) × (number ≡ r.commands + 1) × (place ≡ at)) why
