-- Why a package gives no board.
use Rattle.std.specs.Prelude.{◌≡◌, ◌≤◌, ◌⊎◌, ℕ, List, Option, Some, None, IfSome, MatchResult, Result}
use Rattle.board_io.specs.Causes.{Rose}
use Rattle.board_io.specs.Handed.{AgreeWith, Grows, Handed}
use Rattle.board_io.specs.Package.{Files, IsFaultless}
use Rattle.board_shapes.specs.Plain.{PlainBoard, plain_board}
use Rattle.board_shapes.specs.declared.board.Board.{Board}
use Rattle.board_package.specs.HandedBoard.{ComesHanded, IsBoardHanded, IsFirstStopHanded}
use Rattle.board_package.specs.PackageBoard.{Comes, IsBoardOf, IsFirstStop, StopsAtFrame, Stop, longer, not_json, bad_manifest, refused, frame_too_large}
use Rattle.board_package.specs.Contents.{Refuses}
use Rattle.board_package.specs.declared.entry.Entry.{Entry}
use Rattle.board_package.specs.declared.fault.BuildFault.{BuildFault}
use Rattle.board_package.specs.declared.fault.BuildFault.TheVariants as fault
use Rattle.board_package.specs.declared.contents.Refusal.{Refusal}
use Rattle.board_package.specs.declared.contents.Refusal.TheVariants as refusal

-- a fault of reading: the count rose, and the name is the lost one and the one that came next
pub record IsUnread (held : Option Files) (Comes : Files → List ℕ → Type 0) (before now : ℕ) (lost name : List ℕ) : Type 0 where
  pub rose : Rose before now
  pub lost_is : lost ≡ name
  pub comes : IfSome held (λ files. Comes files name)

-- the fault is this refusal of the file, or want of memory
abbrev pub HasRefusal : List ℕ → Refusal → BuildFault → Type 0
HasRefusal name (refusal.Layer kind command at) given = (given ≡ fault.Layer name kind command at) ⊎ (given ≡ fault.NoMemory)
HasRefusal name (refusal.Drill kind line at) given = (given ≡ fault.Drill name kind line at) ⊎ (given ≡ fault.NoMemory)
HasRefusal name (refusal.Netlist kind line) given = (given ≡ fault.Netlist name kind line) ⊎ (given ≡ fault.NoMemory)

-- why the file of an entry is not read: its refusal, or want of memory
abbrev pub Halts : Entry → List ℕ → PlainBoard → BuildFault → Type 0
Halts e bytes before given = (given ≡ fault.NoMemory) ⊎ ((why : Refusal) × Refuses e.role e.number bytes before why × HasRefusal e.name why given)

-- Why there is no board: a stop, where the package tells, or a fault of reading, or want of memory.
abbrev pub HasCause : Option Files → (Files → Stop → Type 0) → (Files → List ℕ → Type 0) → ℕ → ℕ → List ℕ → BuildFault → Type 0
HasCause held Stops Comes before now lost fault.NotJson = IfSome held (λ files. Stops files not_json)
HasCause held Stops Comes before now lost fault.BadManifest = IfSome held (λ files. Stops files bad_manifest)
HasCause held Stops Comes before now lost (fault.Longer name) = IfSome held (λ files. Stops files (longer name))
HasCause held Stops Comes before now lost (fault.CannotRead name) = IsUnread held Comes before now lost name
HasCause held Stops Comes before now lost (fault.Layer name kind command at) = IfSome held (λ files. Stops files (refused name (refusal.Layer kind command at)))
HasCause held Stops Comes before now lost (fault.Drill name kind line at) = IfSome held (λ files. Stops files (refused name (refusal.Drill kind line at)))
HasCause held Stops Comes before now lost (fault.Netlist name kind line) = IfSome held (λ files. Stops files (refused name (refusal.Netlist kind line)))
HasCause held Stops Comes before now lost (fault.FrameTooLarge box) = IfSome held (λ files. Stops files (frame_too_large box))
HasCause held Stops Comes before now lost fault.NoMemory = Unit {0}

-- The same by stops and names that speak of no files, but of what was handed over.
abbrev pub HandedCause : (Stop → Type 0) → (List ℕ → Type 0) → ℕ → ℕ → List ℕ → BuildFault → Type 0
HandedCause Stops Comes before now lost given = HasCause (Some (λ name. None)) (λ files stop. Stops stop) (λ files name. Comes name) before now lost given

-- ---- What is left

-- What a stage leaves of the package that it was lent: the package holds what it held, what it hands over only grows and agrees with
-- what it tells that it holds, and no fault is forgotten.
pub record Leaves {P : Type 0} (files : P → Option Files) (handover : P → List Handed) (faults : P → ℕ) (old new : P) : Type 0 where
  pub held : files new ≡ files old
  pub grows : Grows (handover old) (handover new)
  pub consistent : IfSome (files old) (λ f. AgreeWith f (handover old) (handover new))
  pub later : faults old ≤ faults new

-- A success leaves the count of faults and the lost name as they were, and a fault leaves what is said of it.
abbrev pub Spares : {P A E : Type 0} → (ℕ → List ℕ → ℕ → List ℕ → E → Type 0) → (P → ℕ) → (P → List ℕ) → P → P → Result A E → Type 0
Spares Left faults lost old new result = MatchResult result (λ _. IsFaultless (faults old) (lost old) (faults new) (lost new)) (Left (faults old) (lost old) (faults new) (lost new))

-- Neither the count of faults nor the lost name changed, but where a file could not be read or memory was wanted.
abbrev pub KeepsFaults : ℕ → List ℕ → ℕ → List ℕ → BuildFault → Type 0
KeepsFaults count lost count' lost' (fault.CannotRead name) = Unit {0}
KeepsFaults count lost count' lost' fault.NoMemory = Unit {0}
KeepsFaults count lost count' lost' why = IsFaultless count lost count' lost'

-- ---- A layer above

-- What a fault of a layer above tells: one that a board may have too, or a stop that only the layer has.
pub data Fault (S : Type 0) : Type 0 where
  shared : BuildFault → Fault S
  own : S → Fault S

-- the stops of a layer above, with those of a board among them, and what its faults tell
pub record Faults (S F : Type 0) : Type 0 where
  pub unbuilt : Stop → S
  pub told : F → Fault S

abbrev pub CauseOf : {S : Type 0} → (Stop → S) → Option Files → (Files → S → Type 0) → (Files → List ℕ → Type 0) → ℕ → ℕ → List ℕ → Fault S → Type 0
CauseOf unbuilt held Stops Comes before now lost (shared why) = HasCause held (λ files stop. Stops files (unbuilt stop)) Comes before now lost why
CauseOf unbuilt held Stops Comes before now lost (own stop) = IfSome held (λ files. Stops files stop)

-- Why a layer above gives nothing: as a board would not be given, or by a stop of its own, where the package tells.
abbrev pub HasCauseBy : {S F : Type 0} → Faults S F → Option Files → (Files → S → Type 0) → (Files → List ℕ → Type 0) → ℕ → ℕ → List ℕ → F → Type 0
HasCauseBy faults held Stops Comes before now lost given = CauseOf faults.unbuilt held Stops Comes before now lost (faults.told given)

-- The same by stops and names that speak of no files, but of what was handed over.
abbrev pub HandedCauseBy : {S F : Type 0} → Faults S F → (S → Type 0) → (List ℕ → Type 0) → ℕ → ℕ → List ℕ → F → Type 0
HandedCauseBy faults Stops Comes before now lost given = HasCauseBy faults (Some (λ name. None)) (λ files stop. Stops stop) (λ files name. Comes name) before now lost given

abbrev pub KeepsOf : {S : Type 0} → ℕ → List ℕ → ℕ → List ℕ → Fault S → Type 0
KeepsOf count lost count' lost' (shared why) = KeepsFaults count lost count' lost' why
KeepsOf count lost count' lost' (own stop) = IsFaultless count lost count' lost'

-- Neither the count of faults nor the lost name changed, but where a file could not be read or memory was wanted.
abbrev pub KeepsFaultsBy : {S F : Type 0} → Faults S F → ℕ → List ℕ → ℕ → List ℕ → F → Type 0
KeepsFaultsBy faults count lost count' lost' given = KeepsOf count lost count' lost' (faults.told given)

-- ---- What the building of a board gives

-- the common box of the board is too large
abbrev pub IsFrameFault : PlainBoard → BuildFault → Type 0
IsFrameFault board (fault.FrameTooLarge box) = StopsAtFrame board (frame_too_large box)
IsFrameFault board other = ⊥

-- the board, or why there is none: where the package tells, and by what it handed over
abbrev pub Builds : {P : Type 0} → (P → Option Files) → (P → ℕ) → (P → List ℕ) → List ℕ → P → P → Result Board BuildFault → Type 0
Builds files faults lost manifest old new result = MatchResult result (λ board. IfSome (files old) (λ f. IsBoardOf f manifest (plain_board board)))
    (HasCause (files old) (λ f stop. IsFirstStop f manifest stop) (λ f name. Comes f manifest name) (faults old) (faults new) (lost new))

abbrev pub BuildsHanded : {P : Type 0} → (P → List Handed) → (P → ℕ) → (P → List ℕ) → List ℕ → P → P → Result Board BuildFault → Type 0
BuildsHanded handed faults lost manifest old new result = MatchResult result (λ board. IsBoardHanded (handed old) (handed new) manifest (plain_board board))
    (HandedCause (λ stop. IsFirstStopHanded (handed old) (handed new) manifest stop) (λ name. ComesHanded (handed old) (handed new) manifest name) (faults old) (faults new) (lost new))
