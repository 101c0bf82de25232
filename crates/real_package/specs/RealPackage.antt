-- The real board of a package, and its first stop. Each definition is the one of board_package's PackageBoard that it is named after, where draws may be arcs and
-- no frame is judged.
use Rattle.std.specs.Prelude.{◌≡◌, ◌⊎◌, ℕ, List}
use Rattle.real_copper.specs.declared.kind.RealKind.{RealKind}
use Rattle.board_io.specs.Package.{Files}
use Rattle.board_package.specs.PackageBoard.{AtOneBy, BehindManifest, ComesAlong, IsHeldWith, Stop, StopsAtManifest, StopsTaking, WalksBy, order_of, refused}
use Rattle.board_package.specs.declared.entry.Entry.{Entry}
use Rattle.real_package.specs.RealBoards.{PlainRealBoard, empty_real}
use Rattle.real_package.specs.RealFiles.{ReadsReal, RefusesArc, RefusesReal}

-- why a package is no real board: a stop that one without arcs and macros may have, or an arc or a macro of the copper file of this name, by kind, command and place
pub data RealStop : Type 0 where
  unbuilt : Stop → RealStop
  bent : List ℕ → RealKind → ℕ → ℕ → RealStop

-- a stop that one without arcs and macros may have, of which P holds
abbrev pub OfUnbuilt : (Stop → Type 0) → RealStop → Type 0
OfUnbuilt P (unbuilt stop) = P stop
OfUnbuilt P (bent name kind command at) = ⊥

-- ---- One file

-- the file is held and read, and takes the board on
abbrev pub GoesReal : Files → Entry → PlainRealBoard → PlainRealBoard → Type 0
GoesReal files e before after = IsHeldWith files e.name (λ bytes. ReadsReal e.role e.number bytes before after)

-- the first file to be taken stops the package
abbrev pub StopsRealAt : Files → Entry → PlainRealBoard → RealStop → Type 0
StopsRealAt files e before (unbuilt (refused name why)) = (name ≡ e.name) × IsHeldWith files e.name (λ bytes. RefusesReal e.role e.number bytes before why)
StopsRealAt files e before (unbuilt stop) = StopsTaking files e.name stop
StopsRealAt files e before (bent name kind command at) = (name ≡ e.name) × IsHeldWith files e.name (λ bytes. RefusesArc e.role e.number bytes before kind command at)

-- ---- The files in their order

-- one of the files stops the package, and all before it are read
abbrev pub StopsRealAmong : Files → List Entry → PlainRealBoard → RealStop → Type 0
StopsRealAmong files entries before stop = AtOneBy (GoesReal files) entries before (λ e b. StopsRealAt files e b stop)

-- ---- The package

-- The first stop of the package under the name of a manifest: the manifest's, or that of the first file with one.
abbrev pub IsFirstRealStop : Files → List ℕ → RealStop → Type 0
IsFirstRealStop files name stop = OfUnbuilt (StopsAtManifest files name) stop ⊎ BehindManifest files name (λ m. StopsRealAmong files (order_of m) (empty_real m.layers) stop)

-- The real board of the package under the name of a manifest: there is no stop.
abbrev pub IsRealBoardOf : Files → List ℕ → PlainRealBoard → Type 0
IsRealBoardOf files name board = BehindManifest files name (λ m. WalksBy (GoesReal files) (order_of m) (empty_real m.layers) board)

-- the name is that of the manifest or of a file of its order, and every file before it is held and has no refusal
abbrev pub RealComes : Files → List ℕ → List ℕ → Type 0
RealComes files manifest name = (name ≡ manifest) ⊎ BehindManifest files manifest (λ m. ComesAlong (GoesReal files) (order_of m) (empty_real m.layers) name)
