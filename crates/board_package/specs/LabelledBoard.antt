-- The board of a package by the net names that its copper files give, and its first stop.
use Rattle.std.specs.Prelude.{◌≡◌, ◌⊎◌, ℕ, ◌+◌, Bool, true, false, List, [], ◌∷◌, ◌++◌, length, reverse, slice_get, Option, Some, None, option_and_then}
use Rattle.std.specs.List.{filter}
use Rattle.area_contact.specs.Contour.{first_of}
use Rattle.board_io.specs.Package.{Files}
use Rattle.board_shapes.specs.Figures.{Figure, round, filled}
use Rattle.board_shapes.specs.Plain.{PlainBoard, PlainPiece, common_box, Fits, with_netlist}
use Rattle.board_shapes.specs.declared.placed.Origin.{Origin}
use Rattle.board_shapes.specs.declared.probe.Probe.{Probe}
use Rattle.ipc356_records.specs.Names.{index_of, with_name}
use Rattle.planar.specs.declared.Spot.{Spot}
use Rattle.x2_nets.specs.Labels.{IsBad, IsRead, name_at}
use Rattle.x2_nets.specs.declared.label_table.Label.{Label}
use Rattle.board_package.specs.PackageBoard.{AtOneBy, BehindManifest, ComesAlong, Goes, IsManifestFile, Stop, StopsAt, StopsAtFrame, StopsAtManifest, WalksBy, order_of}
use Rattle.board_package.specs.Parts.{empty_board}
use Rattle.board_package.specs.declared.entry.Entry.{Entry}
use Rattle.board_package.specs.declared.entry.Naming.{Naming}
use Rattle.board_package.specs.declared.entry.Naming.TheVariants.{ByLabels}
use Rattle.board_package.specs.declared.entry.Role.{Role}
use Rattle.board_package.specs.declared.entry.Role.TheVariants.{Copper, Netlist}
use Rattle.board_package.specs.declared.manifest.Manifest.{Manifest}

-- ---- Probes of labelled pieces

-- the name in force at the command that made the piece, in its file, which is one of the copper files; drilled pieces have none
abbrev pub label_of : List (List Label) → Origin → Option (List ℕ)
label_of tables origin = option_and_then (λ labels. name_at labels origin.command) (slice_get tables origin.file)

-- the first end of a stroke, or the first corner of a contour
abbrev pub first_spot : Figure → Spot
first_spot (round s) = s.a
first_spot (filled points) = first_of points

-- probes, and the names of their nets
pub record Named : Type 0 where
  pub probes : List Probe
  pub names : List (List ℕ)

-- the probe of a piece, at the first spot of its figure on its top layer
abbrev pub probe_of : ℕ → PlainPiece → ℕ → Probe
probe_of number p name = record { number = number; at = first_spot p.figure; layer = p.top; name = name }

-- a piece that has a label gives a probe; a name that is new goes last
abbrev pub with_label : Named → ℕ → PlainPiece → Option (List ℕ) → Named
with_label so_far number p None = so_far
with_label so_far number p (Some name) = record { probes = so_far.probes ++ probe_of number p (index_of name so_far.names) ∷ []; names = with_name name so_far.names }

-- what pieces give, of which the last is first: the record of a probe is the number of its piece, from 0, plus 1
abbrev pub named_by : List (List Label) → List PlainPiece → Named
named_by tables [] = record { probes = []; names = [] }
named_by tables (p ∷ earlier) = with_label (named_by tables earlier) (length earlier + 1) p (label_of tables p.origin)

-- the board with the probes that its pieces give
abbrev pub labelled_board_of : List (List Label) → PlainBoard → PlainBoard
labelled_board_of tables b = with_netlist b (named_by tables (reverse b.pieces)).probes (named_by tables (reverse b.pieces)).names

-- ---- One file

-- every file is taken, except the netlist where labels name the nets
abbrev pub is_taken : Naming → Role → Bool
is_taken ByLabels Netlist = false
is_taken naming role = true

-- the order of a package without its netlist
abbrev pub labelled_order : Manifest → List Entry
labelled_order m = filter (λ e. is_taken ByLabels e.role) (order_of m)

-- the board so far, and the labels of each copper file so far: those of file number c are the c-th, from 0
pub record Labelled : Type 0 where
  pub board : PlainBoard
  pub tables : List (List Label)

-- before the first file: a board with nothing on it, and no labels
abbrev pub nothing_labelled : ℕ → Labelled
nothing_labelled layers = record { board = empty_board layers; tables = [] }

-- where labels name the nets, those of a copper file are listed
abbrev pub Lists : Naming → Role → List ℕ → List (List Label) → List (List Label) → Type 0
Lists ByLabels (Copper layer) bytes before after = (labels : List Label) × IsRead bytes labels × (after ≡ before ++ labels ∷ [])
Lists naming role bytes before after = after ≡ before

-- the first label of a copper file that is amiss
abbrev pub Mislabels : Naming → Role → List ℕ → ℕ → ℕ → Type 0
Mislabels ByLabels (Copper layer) bytes command at = IsBad bytes command at
Mislabels naming role bytes command at = ⊥

-- the file is read, and so are its labels
pub record GoesLabelled (naming : Naming) (files : Files) (e : Entry) (before after : Labelled) : Type 0 where
  pub goes : Goes files e before.board after.board
  pub lists : Lists naming e.role goes.bytes before.tables after.tables

-- the file is read, and then a label is amiss
pub record IsMislabelled (naming : Naming) (files : Files) (e : Entry) (before : PlainBoard) (command at : ℕ) : Type 0 where
  pub after : PlainBoard
  pub goes : Goes files e before after
  pub amiss : Mislabels naming e.role goes.bytes command at

-- ---- The package

-- why a package is no labelled board
pub data LabelledStop : Type 0 where
  unbuilt : Stop → LabelledStop
  mislabelled : List ℕ → ℕ → ℕ → LabelledStop

-- a stop of the board without its labels, of which P holds
abbrev pub OfBuild : (Stop → Type 0) → LabelledStop → Type 0
OfBuild P (unbuilt stop) = P stop
OfBuild P (mislabelled name command at) = ⊥

-- the file stops the package
abbrev pub StopsLabelledAt : Naming → Files → Entry → Labelled → LabelledStop → Type 0
StopsLabelledAt naming files e before (unbuilt stop) = StopsAt files e before.board stop
StopsLabelledAt naming files e before (mislabelled name command at) = (name ≡ e.name) × IsMislabelled naming files e before.board command at

-- all files are read, and then the frame is too large
pub record IsLabelledFrameStop (files : Files) (m : Manifest) (stop : LabelledStop) : Type 0 where
  pub end : Labelled
  pub walked : WalksBy (GoesLabelled ByLabels files) (labelled_order m) (nothing_labelled m.layers) end
  pub frame : OfBuild (StopsAtFrame end.board) stop

-- one of the files stops the package, and all before it are read
abbrev pub StopsLabelledAmong : Naming → Files → List Entry → Labelled → LabelledStop → Type 0
StopsLabelledAmong naming files entries before stop = AtOneBy (GoesLabelled naming files) entries before (λ e b. StopsLabelledAt naming files e b stop)

-- a copper or drill file, a name or the frame stops the package
abbrev pub StopsLabelledLater : Files → Manifest → LabelledStop → Type 0
StopsLabelledLater files m stop = StopsLabelledAmong ByLabels files (labelled_order m) (nothing_labelled m.layers) stop ⊎ IsLabelledFrameStop files m stop

-- the first stop of the package under the name of a manifest: the manifest's, or that of the first file with one, or that of
-- the frame
abbrev pub IsFirstLabelledStop : Files → List ℕ → LabelledStop → Type 0
IsFirstLabelledStop files name stop = OfBuild (StopsAtManifest files name) stop ⊎ BehindManifest files name (λ m. StopsLabelledLater files m stop)

-- the labelled board of the package under the name of a manifest: there is no stop
pub record IsLabelledBoardOf (files : Files) (name : List ℕ) (board : PlainBoard) : Type 0 where
  pub listed : Manifest
  pub manifest : IsManifestFile files name listed
  pub end : Labelled
  pub walked : WalksBy (GoesLabelled ByLabels files) (labelled_order listed) (nothing_labelled listed.layers) end
  pub frame : Fits (common_box end.board.pieces)
  pub is : board ≡ labelled_board_of end.tables end.board

-- the name is that of the manifest or of a file of its order but the netlist, and every file before it is held and has no
-- refusal
abbrev pub LabelledComes : Files → List ℕ → List ℕ → Type 0
LabelledComes files manifest name = (name ≡ manifest) ⊎ BehindManifest files manifest (λ m. ComesAlong (GoesLabelled ByLabels files) (labelled_order m) (nothing_labelled m.layers) name)
