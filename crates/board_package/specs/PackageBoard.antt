-- The board of a package, and its first stop.
use Rattle.std.specs.Prelude.{◌≡◌, ◌⊎◌, ℕ, ◌<◌, ◌≤◌, List, [], ◌∷◌, length, Some, None, IsSomeAnd}
use Rattle.board_io.specs.Package.{Files}
use Rattle.board_shapes.specs.LawfulBoard.{IsLawfulBoard}
use Rattle.board_shapes.specs.Plain.{PlainBoard, common_box, FitsFrame, Fits}
use Rattle.contact.specs.declared.Bounds.{Bounds}
use Rattle.board_package.specs.Manifest.{IsManifest, IsNotJson, IsOther}
use Rattle.board_package.specs.Parts.{empty_board}
use Rattle.board_package.specs.Contents.{Reads, Refuses}
use Rattle.board_package.specs.declared.entry.Entry.{Entry}
use Rattle.board_package.specs.declared.manifest.Manifest.{Manifest}
use Rattle.board_package.specs.declared.contents.Refusal.{Refusal}
use Rattle.board_shapes.specs.declared.TheConstants.{MOST_LAYERS, MOST_PIECES}
use Rattle.texts.specs.declared.TheConstants.{MOST_BYTES}

-- the files of a package after its manifest, in the order in which they are taken
abbrev pub order_of : Manifest → List Entry
order_of m = m.files

-- why a package is no board
pub data Stop : Type 0 where
  absent : List ℕ → Stop
  longer : List ℕ → Stop
  not_json : Stop
  bad_manifest : Stop
  refused : List ℕ → Refusal → Stop
  frame_too_large : Bounds → Stop

-- ---- One file

-- the file is held and not too long
pub record IsHeld (files : Files) (name bytes : List ℕ) : Type 0 where
  pub held : files name ≡ Some bytes
  pub short : length bytes ≤ MOST_BYTES

-- the file of this name is held and not too long, and P holds of its bytes
pub record IsHeldWith (files : Files) (name : List ℕ) (P : List ℕ → Type 0) : Type 0 where
  pub bytes : List ℕ
  pub held : IsHeld files name bytes
  pub good : P bytes

-- the file is not there to be judged: it is not held, or too long
abbrev pub StopsTaking : Files → List ℕ → Stop → Type 0
StopsTaking files name (absent other) = (other ≡ name) × (files name ≡ None)
StopsTaking files name (longer other) = (other ≡ name) × IsSomeAnd (files name) (λ bytes. MOST_BYTES < length bytes)
StopsTaking files name stop = ⊥

-- the file is read and takes the board on
pub record Goes (files : Files) (e : Entry) (before after : PlainBoard) : Type 0 where
  pub bytes : List ℕ
  pub held : IsHeld files e.name bytes
  pub read : Reads e.role e.number bytes before after

-- the file that is taken stops the package
abbrev pub StopsAt : Files → Entry → PlainBoard → Stop → Type 0
StopsAt files e before (refused other why) = (other ≡ e.name) × IsHeldWith files e.name (λ bytes. Refuses e.role e.number bytes before why)
StopsAt files e before stop = StopsTaking files e.name stop

-- ---- The files in their order

-- all files are taken on, one after another: each step leads from what is so far to what is with the file
abbrev pub WalksBy : {S : Type 0} → (Entry → S → S → Type 0) → List Entry → S → S → Type 0
WalksBy Step [] before after = before ≡ after
WalksBy {S = S} Step (e ∷ rest) before after = (next : S) × Step e before next × WalksBy Step rest next after

-- P holds at one of the files, and all before it are taken on
abbrev pub AtOneBy : {S : Type 0} → (Entry → S → S → Type 0) → List Entry → S → (Entry → S → Type 0) → Type 0
AtOneBy Step [] before P = ⊥
AtOneBy {S = S} Step (e ∷ rest) before P = P e before ⊎ ((next : S) × Step e before next × AtOneBy Step rest next P)

-- one of the files has this name, and all before it are taken on
abbrev pub ComesAlong : {S : Type 0} → (Entry → S → S → Type 0) → List Entry → S → List ℕ → Type 0
ComesAlong Step entries before name = AtOneBy Step entries before (λ e s. e.name ≡ name)

-- all files are read, one after another
abbrev pub Walks : Files → List Entry → PlainBoard → PlainBoard → Type 0
Walks files entries before after = WalksBy (Goes files) entries before after

-- one of the files stops the package, and all before it are read
abbrev pub StopsAmong : Files → List Entry → PlainBoard → Stop → Type 0
StopsAmong files entries before stop = AtOneBy (Goes files) entries before (λ e b. StopsAt files e b stop)

-- ---- The package

-- the file of this name is this manifest
abbrev pub IsManifestFile : Files → List ℕ → Manifest → Type 0
IsManifestFile files name m = IsHeldWith files name (λ bytes. IsManifest bytes m)

-- the manifest is read, and P holds of what it lists
pub record BehindManifest (files : Files) (name : List ℕ) (P : Manifest → Type 0) : Type 0 where
  pub listed : Manifest
  pub manifest : IsManifestFile files name listed
  pub follows : P listed

-- the manifest stops the package
abbrev pub StopsAtManifest : Files → List ℕ → Stop → Type 0
StopsAtManifest files name not_json = IsHeldWith files name IsNotJson
StopsAtManifest files name bad_manifest = IsHeldWith files name IsOther
StopsAtManifest files name stop = StopsTaking files name stop

-- the common box of all pieces is too large
abbrev pub StopsAtFrame : PlainBoard → Stop → Type 0
StopsAtFrame b (frame_too_large box) = (common_box b.pieces ≡ Some box) × (FitsFrame box → ⊥)
StopsAtFrame b stop = ⊥

-- all files are read, and then the frame is too large
pub record IsFrameStop (files : Files) (m : Manifest) (stop : Stop) : Type 0 where
  pub board : PlainBoard
  pub walked : Walks files (order_of m) (empty_board m.layers) board
  pub frame : StopsAtFrame board stop

-- a file or the frame stops the package
abbrev pub StopsLater : Files → Manifest → Stop → Type 0
StopsLater files m stop = StopsAmong files (order_of m) (empty_board m.layers) stop ⊎ IsFrameStop files m stop

-- The first stop of the package under the name of a manifest: the manifest's, or that of the first file with one, or that of
-- the frame.
abbrev pub IsFirstStop : Files → List ℕ → Stop → Type 0
IsFirstStop files name stop = StopsAtManifest files name stop ⊎ BehindManifest files name (λ m. StopsLater files m stop)

-- The board of the package under the name of a manifest: there is no stop.
pub record IsBoardOf (files : Files) (name : List ℕ) (board : PlainBoard) : Type 0 where
  pub listed : Manifest
  pub manifest : IsManifestFile files name listed
  pub walked : Walks files (order_of listed) (empty_board listed.layers) board
  pub frame : Fits (common_box board.pieces)

-- a lawful board of at most MOST_PIECES pieces and MOST_LAYERS layers, as a package makes it
pub record IsWithinLimits (board : PlainBoard) : Type 0 where
  pub lawful : IsLawfulBoard board
  pub few_pieces : length board.pieces ≤ MOST_PIECES
  pub few_layers : board.layers ≤ MOST_LAYERS

-- the name is that of the manifest or of a file of its order, and every file before it is held and has no refusal
abbrev pub Comes : Files → List ℕ → List ℕ → Type 0
Comes files manifest name = (name ≡ manifest) ⊎ BehindManifest files manifest (λ m. ComesAlong (Goes files) (order_of m) (empty_board m.layers) name)
