-- What is made of the files that a package hands over in a call, and their first stop, whether it tells what it holds or not: one definition over what files are
-- read as. Each part is the one of PackageBoard whose name it begins with, by what was handed over between two points of the call in place of what is held.
use Rattle.std.specs.Prelude.{◌≡◌, ◌⊎◌, ℕ, ◌≤◌, List, length, Option, Some, IsSomeAnd}
use Rattle.board_io.specs.Handed.{Handed, with_file, with_long}
use Rattle.board_shapes.specs.Plain.{PlainBoard, common_box, Fits}
use Rattle.board_package.specs.Manifest.{IsManifest, IsNotJson, IsOther}
use Rattle.board_package.specs.PackageBoard.{AtOneBy, Stop, StopsAtFrame, WalksBy, longer, not_json, bad_manifest, refused, order_of}
use Rattle.texts.specs.declared.TheConstants.{MOST_BYTES}
use Rattle.board_package.specs.Parts.{empty_board}
use Rattle.board_package.specs.Contents.{Reads, Refuses}
use Rattle.board_package.specs.declared.entry.Entry.{Entry}
use Rattle.board_package.specs.declared.manifest.Manifest.{Manifest}

-- ---- One file

-- the file of this name was handed over next, with these bytes, and is not too long
pub record IsHanded (before after : List Handed) (name bytes : List ℕ) : Type 0 where
  pub next : after ≡ with_file before name bytes
  pub short : length bytes ≤ MOST_BYTES

-- the same, and P holds of its bytes
pub record IsHandedWith (before after : List Handed) (name : List ℕ) (P : List ℕ → Type 0) : Type 0 where
  pub bytes : List ℕ
  pub handed : IsHanded before after name bytes
  pub good : P bytes

-- the file of this name came next, and was too long
abbrev pub StopsHanding : List Handed → List Handed → List ℕ → Stop → Type 0
StopsHanding before after name (longer other) = (other ≡ name) × (after ≡ with_long before name MOST_BYTES)
StopsHanding before after name stop = ⊥

-- the file of this name comes next, and is not handed over
abbrev pub ComesNext : List Handed → List Handed → List ℕ → List ℕ → Type 0
ComesNext before after name other = (other ≡ name) × (after ≡ before)

-- ---- The manifest

-- the file of this name was handed over next, and is this manifest
abbrev pub IsManifestHanded : List Handed → List Handed → List ℕ → Manifest → Type 0
IsManifestHanded before after name m = IsHandedWith before after name (λ bytes. IsManifest bytes m)

-- the manifest of this name was handed over and read, and P holds of what it lists and of what was handed over so far
pub record BehindManifestHanded (before : List Handed) (name : List ℕ) (P : Manifest → List Handed → Type 0) : Type 0 where
  pub listed : Manifest
  pub first : List Handed
  pub manifest : IsManifestHanded before first name listed
  pub follows : P listed first

-- the manifest stops the package
abbrev pub StopsAtManifestHanded : List Handed → List Handed → List ℕ → Stop → Type 0
StopsAtManifestHanded before after name not_json = IsHandedWith before after name IsNotJson
StopsAtManifestHanded before after name bad_manifest = IsHandedWith before after name IsOther
StopsAtManifestHanded before after name stop = StopsHanding before after name stop

-- ---- What files are read as

-- S is what the files so far give, B what is made of them all, and K why nothing is made.
pub record Reading (S B K : Type 0) : Type 1 where
  -- what there is before the first file, on so many layers, and the files that are taken
  pub start : ℕ → S
  pub order : Manifest → List Entry
  -- the bytes of the file of an entry take on what there is so far, or are refused
  pub reads : Entry → List ℕ → S → S → Type 0
  pub refuses : Entry → List ℕ → S → K → Type 0
  -- what is made at the end, or stops the package there
  pub makes : S → B → Type 0
  pub ends : S → K → Type 0
  -- the stop of a board that a stop is
  pub shared : K → Option Stop

-- what was handed over so far, and what the files so far give
pub record Course (S : Type 0) : Type 0 where
  pub handed : List Handed
  pub so_far : S

abbrev pub course : {S : Type 0} → List Handed → S → Course S
course handed so_far = record { handed = handed; so_far = so_far }

-- the file of an entry was handed over next, and is read
abbrev pub GoesHanded : {S B K : Type 0} → Reading S B K → Entry → Course S → Course S → Type 0
GoesHanded r e before after = IsHandedWith before.handed after.handed e.name (λ bytes. r.reads e bytes before.so_far after.so_far)

-- the file of an entry stops the package: it is too long, or was handed over and is refused
abbrev pub StopsAtHanded : {S B K : Type 0} → Reading S B K → Entry → Course S → List Handed → K → Type 0
StopsAtHanded r e before after stop =
    IsSomeAnd (r.shared stop) (λ s. StopsHanding before.handed after e.name s) ⊎ IsHandedWith before.handed after e.name (λ bytes. r.refuses e bytes before.so_far stop)

-- one of the files stops the package, and all before it were handed over and read
abbrev pub StopsAmongHanded : {S B K : Type 0} → Reading S B K → List Entry → Course S → List Handed → K → Type 0
StopsAmongHanded r entries before after stop = AtOneBy (GoesHanded r) entries before (λ e c. StopsAtHanded r e c after stop)

-- one of the files comes next, and all before it are taken on
abbrev pub ComesAlongHanded : {S B K : Type 0} → Reading S B K → List Entry → Course S → List Handed → List ℕ → Type 0
ComesAlongHanded r entries before after name = AtOneBy (GoesHanded r) entries before (λ e c. ComesNext c.handed after e.name name)

-- all files were handed over and read, and P holds of what they give
pub record IsReadHanded {S B K : Type 0} (r : Reading S B K) (before after : List Handed) (m : Manifest) (P : S → Type 0) : Type 0 where
  pub end : S
  pub walked : WalksBy (GoesHanded r) (r.order m) (course before (r.start m.layers)) (course after end)
  pub good : P end

-- a file or the end stops the package
abbrev pub StopsLaterHanded : {S B K : Type 0} → Reading S B K → List Handed → List Handed → Manifest → K → Type 0
StopsLaterHanded r before after m stop =
    StopsAmongHanded r (r.order m) (course before (r.start m.layers)) after stop ⊎ IsReadHanded r before after m (λ end. r.ends end stop)

-- The first stop of what was handed over under the name of a manifest; nothing was handed over behind it.
abbrev pub IsStopHanded : {S B K : Type 0} → Reading S B K → List Handed → List Handed → List ℕ → K → Type 0
IsStopHanded r before after name stop =
    IsSomeAnd (r.shared stop) (λ s. StopsAtManifestHanded before after name s) ⊎ BehindManifestHanded before name (λ m first. StopsLaterHanded r first after m stop)

-- The manifest of this name was handed over, then each file of its order, and nothing else; and this is made of them.
abbrev pub IsMadeHanded : {S B K : Type 0} → Reading S B K → List Handed → List Handed → List ℕ → B → Type 0
IsMadeHanded r before after name made = BehindManifestHanded before name (λ m first. IsReadHanded r first after m (λ end. r.makes end made))

-- the name is that of the manifest or of a file of its order, which comes next, and every file before it was handed over and
-- has no refusal
abbrev pub IsNextHanded : {S B K : Type 0} → Reading S B K → List Handed → List Handed → List ℕ → List ℕ → Type 0
IsNextHanded r before after manifest name =
    ComesNext before after manifest name ⊎ BehindManifestHanded before manifest (λ m first. ComesAlongHanded r (r.order m) (course first (r.start m.layers)) after name)

-- ---- A board

-- the file of an entry is refused, and the stop names it
abbrev pub RefusesFile : Entry → List ℕ → PlainBoard → Stop → Type 0
RefusesFile e bytes before (refused other why) = (other ≡ e.name) × Refuses e.role e.number bytes before why
RefusesFile e bytes before stop = ⊥

abbrev pub as_board : Reading PlainBoard PlainBoard Stop
as_board = record {
  start = empty_board;
  order = order_of;
  reads = λ e bytes before after. Reads e.role e.number bytes before after;
  refuses = RefusesFile;
  makes = λ end board. (board ≡ end) × Fits (common_box end.pieces);
  ends = StopsAtFrame;
  shared = λ stop. Some stop;
}

abbrev pub IsBoardHanded : List Handed → List Handed → List ℕ → PlainBoard → Type 0
IsBoardHanded before after name board = IsMadeHanded as_board before after name board

abbrev pub IsFirstStopHanded : List Handed → List Handed → List ℕ → Stop → Type 0
IsFirstStopHanded before after name stop = IsStopHanded as_board before after name stop

abbrev pub ComesHanded : List Handed → List Handed → List ℕ → List ℕ → Type 0
ComesHanded before after manifest name = IsNextHanded as_board before after manifest name
