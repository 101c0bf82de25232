-- The manifest of a package: its value, its form, and the files that it lists.
use Rattle.std.specs.Prelude.{◌≡◌, ℕ, ◌+◌, ◌≤◌, ◌==◌, ◌&&◌, nat_le, if◌then◌else◌, Bool, false, List, [], ◌∷◌, ◌++◌, length, All, IsUtf8, codes, Option, Some, None, option_map, option_and_then, unwrap_or}
use Rattle.lengths.specs.Text.{is_text}
use Rattle.serde_json.specs.Data.{Data, Items, no_items, item}
use Rattle.serde_json.specs.Events.{members_len}
use Rattle.serde_json.specs.Find.{get, as_array, as_number, as_object, as_str, as_u64}
use Rattle.serde_json.specs.Read.{read}
use Rattle.board_package.specs.declared.entry.Entry.{Entry}
use Rattle.board_package.specs.declared.entry.Role.{Role}
use Rattle.board_package.specs.declared.entry.Role.TheVariants.{Copper, Drill, Netlist}
use Rattle.board_package.specs.declared.manifest.Manifest.{Manifest}
use Rattle.board_package.specs.declared.manifest.ManifestFault.{ManifestFault}
use Rattle.board_package.specs.declared.manifest.ManifestFault.TheVariants.{NotJson, BadManifest, NoMemory}
use Rattle.board_package.specs.declared.manifest.TheConstants.{MOST_DRILLS}
use Rattle.board_shapes.specs.declared.TheConstants.{MOST_LAYERS}

-- ---- Values

-- The value of a text: `serde_json` reads it. Bytes that are no text have none.
pub record IsValueOf (bytes : List ℕ) (value : Data) : Type 0 where
  pub text : IsUtf8 bytes
  pub spelled : read bytes ≡ Some value

-- an object with so many members
abbrev pub has_members : ℕ → Data → Bool
has_members count value = unwrap_or (option_map (λ members. members_len members == count) (as_object value)) false

-- the values of a list
abbrev pub listed : Items → List Data
listed no_items = []
listed (item d ds) = d ∷ listed ds

-- the list that an object has under a key
abbrev pub list_at : List ℕ → Data → Option (List Data)
list_at key value = option_map listed (option_and_then as_array (get key value))

-- the whole number that an object has under a key
abbrev pub number_at : List ℕ → Data → Option ℕ
number_at key value = option_and_then as_u64 (option_and_then as_number (get key value))

-- a name is a text: 1 to 200 bytes, each from 32 to 126
abbrev pub lawful_name : List ℕ → Option (List ℕ)
lawful_name text = if is_text text then Some text else None

-- the name of a file that a value is
abbrev pub name_of : Data → Option (List ℕ)
name_of value = option_and_then lawful_name (as_str value)

-- the name of a file that an object has under a key
abbrev pub name_at : List ℕ → Data → Option (List ℕ)
name_at key value = option_and_then name_of (get key value)

-- ---- Entries

-- copper file c, counted from 0, has number c and layer c + 1
abbrev pub copper_entry : ℕ → Data → Option Entry
copper_entry number value = option_map (λ name. record { name = name; number = number; role = Copper (number + 1) }) (name_of value)

-- a drill file whose barrels join the layers from one to another
abbrev pub drill_from : ℕ → ℕ → Option (List ℕ) → Option ℕ → Option ℕ → Option Entry
drill_from layers number (Some name) (Some from) (Some to) =
    if nat_le 1 from && (nat_le from to && nat_le to layers) then Some (record { name = name; number = number; role = Drill from to }) else None
drill_from layers number name from to = None

-- an object with exactly the keys `file`, `from` and `to`
abbrev pub drill_entry : ℕ → ℕ → Data → Option Entry
drill_entry layers number value =
    if has_members 3 value then drill_from layers number (name_at (codes "file") value) (number_at (codes "from") value) (number_at (codes "to") value) else None

-- what a function makes of each value and its number, where it makes something of each
abbrev pub each_from : {B : Type 0} → (ℕ → Data → Option B) → ℕ → List Data → Option (List B)
each_from f number [] = Some []
each_from f number (x ∷ xs) = option_and_then (λ y. option_map (λ ys. y ∷ ys) (each_from f (number + 1) xs)) (f number x)

-- ---- The form

-- the copper files, which are numbered from 0, then the drill files, and then the netlist
abbrev pub files_of : List Data → List Data → List ℕ → Option (List Entry)
files_of copper drills netlist =
    option_and_then (λ front. option_map (λ back. front ++ back ++ record { name = netlist; number = length copper + length drills; role = Netlist } ∷ [])
    (each_from (drill_entry (length copper)) (length copper) drills))
    (each_from copper_entry 0 copper)

-- 1 to MOST_LAYERS copper files and 0 to MOST_DRILLS drill files
abbrev pub manifest_from : Option (List Data) → Option (List Data) → Option (List ℕ) → Option Manifest
manifest_from (Some copper) (Some drills) (Some netlist) =
    if nat_le 1 (length copper) && (nat_le (length copper) MOST_LAYERS && nat_le (length drills) MOST_DRILLS)
    then option_map (λ files. record { layers = length copper; files = files }) (files_of copper drills netlist)
    else None
manifest_from copper drills netlist = None

-- The layers and the files in order that a value lists: an object with exactly the keys `copper`, `drills` and `netlist`.
unfoldable pub manifest_of : Data → Option Manifest
manifest_of value =
    if has_members 3 value then manifest_from (list_at (codes "copper") value) (list_at (codes "drills") value) (name_at (codes "netlist") value) else None

-- ---- Answers

-- the bytes are this manifest
pub record IsManifest (bytes : List ℕ) (m : Manifest) : Type 0 where
  pub value : Data
  pub read_as : IsValueOf bytes value
  pub form : manifest_of value ≡ Some m

-- the bytes are no JSON
abbrev pub IsNotJson : List ℕ → Type 0
IsNotJson bytes = (value : Data) → IsValueOf bytes value → ⊥

-- the bytes are JSON of another form
pub record IsOther (bytes : List ℕ) : Type 0 where
  pub value : Data
  pub read_as : IsValueOf bytes value
  pub form : manifest_of value ≡ None

-- why bytes are no manifest
abbrev pub IsManifestFault : List ℕ → ManifestFault → Type 0
IsManifestFault bytes NotJson = IsNotJson bytes
IsManifestFault bytes BadManifest = IsOther bytes
IsManifestFault bytes NoMemory = Unit {0}

-- why bytes have no value
abbrev pub IsUnreadable : List ℕ → ManifestFault → Type 0
IsUnreadable bytes NotJson = IsNotJson bytes
IsUnreadable bytes BadManifest = ⊥
IsUnreadable bytes NoMemory = Unit {0}

-- why a part of a manifest is not read: it has another form, or memory is wanted
abbrev pub Misses : {A : Type 0} → Option A → ManifestFault → Type 0
Misses part NotJson = ⊥
Misses part BadManifest = part ≡ None
Misses part NoMemory = Unit {0}

-- ---- Entries of a board

-- the layers of a file are among the board's
abbrev pub IsOnBoard : ℕ → Role → Type 0
IsOnBoard layers (Copper layer) = (1 ≤ layer) × (layer ≤ layers)
IsOnBoard layers (Drill from to) = (1 ≤ from) × (from ≤ to) × (to ≤ layers)
IsOnBoard layers Netlist = Unit {0}

-- 1 to MOST_LAYERS layers, and files on them
pub record IsLawful (m : Manifest) : Type 0 where
  pub some : 1 ≤ m.layers
  pub few : m.layers ≤ MOST_LAYERS
  pub roles : All (λ e. IsOnBoard m.layers e.role) m.files
