-- The laws of the program.
use Rattle.std.specs.Prelude.{◌≡◌, ◌≢◌, ◌⊎◌, ◌↔◌, ◌≤◌, ℕ, false, List, [], ◌∷◌, ◌++◌, length, All, Contains, Some, codes, slice_get}
use Rattle.board_io.specs.Package.{Files}
use Rattle.board_package.specs.PackageBoard.{IsBoardOf, IsManifestFile, order_of}
use Rattle.texts.specs.declared.TheConstants.{MOST_BYTES}
use Rattle.board_package.specs.declared.entry.Entry.{Entry}
use Rattle.board_package.specs.declared.entry.Role.TheVariants.{Netlist}
use Rattle.board_package.specs.declared.manifest.Manifest.{Manifest}
use Rattle.board_shapes.specs.Plain.{PlainBoard}
use Rattle.reports.specs.Findings.{NoneFound, certain, possible, short_points, undecided}
use Rattle.reports.specs.Lines.{end, plain_line}
use Rattle.boardnet.specs.Outcome.{AuditOutcome, CheckOutcome, Held, IsDecided, IsWritten, Source, Told}
use Rattle.boardnet.specs.Command.{BoundNames}
use Rattle.covers.specs.Agreeing.{AgreesWithNames, HasName}
use Rattle.covers.specs.Boards.{Layout, PointsJoined}
use Rattle.covers.specs.Laws.{Decides}
use Rattle.planar.specs.Plane.{Point}
use Rattle.real_package.specs.RealBoards.{PlainRealBoard}
use Rattle.arc_covers.specs.Findings.{IsWithoutCopper}
use Rattle.arc_covers.specs.Laws.{CertainFindings}
use Rattle.arc_covers.specs.RealBoards.{IsReal}
use Rattle.real_copper.specs.Shapes.{plain_reals}
use Rattle.real_shapes.specs.declared.RealShape.{RealShape}
use Rattle.board_shapes.specs.declared.placed.Placed.{Placed}
use Rattle.reports.specs.declared.judged.Version.{Version}
use Rattle.reports.specs.declared.judged.Version.TheVariants.{One, Two}
use Rattle.verdict.specs.Right.{is_unconnected}
use Rattle.verdict.specs.declared.verdict.Branch.{Branch}
use Rattle.verdict.specs.declared.verdict.Open.{Open}
use Rattle.verdict.specs.declared.verdict.Short.{Short}
use Rattle.verdict.specs.declared.verdict.Verdict.{Verdict}

-- ---- Reports

-- The report of version 1 that `check` writes can be taken as a file.
abbrev pub FirstReportsAreShort : Type 0
FirstReportsAreShort = (files : Files) (manifest text line : List ℕ) (status : ℕ) → CheckOutcome (Held files) One manifest (Told text status line) → length text ≤ MOST_BYTES

-- A package holds what it held before, and this text under the name of a report.
pub record HoldsReport (before after : Files) (report text : List ℕ) : Type 0 where
  pub still : (name bytes : List ℕ) → before name ≡ Some bytes → after name ≡ Some bytes
  pub held : after report ≡ Some text

-- What is asked of the length of a report: nothing of version 1, and of version 2 that it can be taken as a file.
abbrev pub CanBeTaken : Version → List ℕ → Type 0
CanBeTaken One text = Unit {0}
CanBeTaken Two text = length text ≤ MOST_BYTES

-- The report that `check` writes passes the audit: where the package also holds it, and it can be taken, the outcome of the
-- audit is `audit true`.
abbrev pub ReportsPass : Type 0
ReportsPass = (before after : Files) (version : Version) (manifest report text line : List ℕ) (status : ℕ) → CheckOutcome (Held before) version manifest (Told text status line) → HoldsReport before after report text → CanBeTaken version text
    → AuditOutcome (Held after) manifest report (Told (codes "audit true" ++ end) 0 (plain_line (codes "audit true")))

-- ---- Boards between two others

-- The layout has the test points, names and layers of the real board, and its pieces, each with some copper that its shape may have.
pub record IsLaidOut (real : PlainRealBoard) (holds : ℕ → Point → Type 0) (b : Layout) : Type 0 where
  pub probes : b.probes ≡ real.probes
  pub names : b.names ≡ real.names
  pub layers : b.layers ≡ real.layers
  pub pieces : List (Placed RealShape)
  pub are : plain_reals pieces ≡ real.pieces
  pub real_is : IsReal pieces holds b

-- Where `between` answers 0, the real package agrees with its names, whatever copper it has of those that its files allow.
abbrev pub BoundedBoardsAgree : (ℕ → Point → Type 0) → Type 0
BoundedBoardsAgree holds = (source : Source) (names : BoundNames) (text line : List ℕ) (d : IsDecided source names text 0 line) (b : Layout) → IsLaidOut d.bounds.real holds b → AgreesWithNames holds b

-- And what the verdicts below and above say is certain of it: points of one net below are joined, those that are joined are of one net above, and one without
-- a net above has no copper.
abbrev pub BoundedBoardsAreDecided : (ℕ → Point → Type 0) → Type 0
BoundedBoardsAreDecided holds = (source : Source) (names : BoundNames) (text line : List ℕ) (status : ℕ) (d : IsDecided source names text status line) (b : Layout) → IsLaidOut d.bounds.real holds b → Decides d.decision.below d.decision.above holds b

-- So is each finding that its text says to be certain.
abbrev pub BoundedFindingsAreCertain : (ℕ → Point → Type 0) → Type 0
BoundedFindingsAreCertain holds = (source : Source) (names : BoundNames) (text line : List ℕ) (status : ℕ) (d : IsDecided source names text status line) (b : Layout) → IsLaidOut d.bounds.real holds b → CertainFindings d.decision.below d.decision.above holds b

-- the one list has the item, or the other
abbrev pub IsListed : {X : Type 0} → (sure unsure : List X) → X → Type 0
IsListed sure unsure item = Contains sure item ⊎ Contains unsure item

-- the text lists the test point as missing
abbrev pub IsListedMissing : (below above : Verdict) → ℕ → Type 0
IsListedMissing below above k = IsListed (certain below above).missing (undecided below above).missing k

-- it lists an open of the name
pub record HasListedOpen (below above : Verdict) (name : ℕ) : Type 0 where
  pub entry : Open
  pub found : Contains below.opens entry
  pub named : entry.name ≡ name
  pub listed : IsListed (certain below above).opens (undecided below above).opens entry.probe

-- a short has a branch of the name
abbrev pub HasBranch : Short → ℕ → Type 0
HasBranch s name = (b : Branch) × Contains s.branches b × (b.name ≡ name)

-- it lists a short of both names
pub record HasListedShort (below above : Verdict) (name other : ℕ) : Type 0 where
  pub short : Short
  pub found : Contains above.shorts short
  pub first : HasBranch short name
  pub second : HasBranch short other
  pub listed : IsListed (certain below above).shorts (undecided below above).shorts (short_points short)

-- Each name that is amiss is listed, as certain or as undecided: each point without copper; of each name whose points are not joined an open or a missing
-- point; of each two names that are joined a short.
pub record AllIsListed (below above : Verdict) (holds : ℕ → Point → Type 0) (real : Layout) : Type 0 where
  -- A point without copper is listed as missing.
  pub missing : (k : ℕ) → IsWithoutCopper holds real k → IsListedMissing below above k
  -- Of two points of a name other than `N/C` that are not joined one is listed as missing, or an open of the name is listed.
  pub opens : (k l name : ℕ) (text : List ℕ) → slice_get real.names name ≡ Some text → is_unconnected text ≡ false → HasName real k name → HasName real l name → (PointsJoined holds real k l → ⊥)
      → IsListedMissing below above k ⊎ IsListedMissing below above l ⊎ HasListedOpen below above name
  -- Of two points of two names that are joined a short of both names is listed.
  pub shorts : (k l name other : ℕ) → HasName real k name → HasName real l other → name ≢ other → PointsJoined holds real k l → HasListedShort below above name other
  -- Nothing is possible exactly where nothing is listed.
  pub none : NoneFound (possible below above) ↔ (NoneFound (certain below above) × NoneFound (undecided below above))

-- And a name that the text does not list is not amiss.
abbrev pub BoundedFindingsAreListed : (ℕ → Point → Type 0) → Type 0
BoundedFindingsAreListed holds = (source : Source) (names : BoundNames) (text line : List ℕ) (status : ℕ) (d : IsDecided source names text status line) (b : Layout) → IsLaidOut d.bounds.real holds b → AllIsListed d.decision.below d.decision.above holds b

-- ---- Written netlists

-- One package has the netlist of another replaced by a text: it holds the same manifest, which lists these files, the netlist
-- last, and the same files but that.
pub record HasNetlist (before after : Files) (manifest : List ℕ) (listed : Manifest) (text : List ℕ) : Type 0 where
  pub still_listed : IsManifestFile after manifest listed
  pub front : List Entry
  pub last : Entry
  pub order : order_of listed ≡ front ++ last ∷ []
  pub last_is : last.role ≡ Netlist
  pub still : All (λ e. after e.name ≡ before e.name) front
  pub held : after last.name ≡ Some text

-- The package fits, and where `check` puts a report its status is 0.
pub record Passes (files : Files) (manifest : List ℕ) : Type 0 where
  pub fits : (board : PlainBoard) × IsBoardOf files manifest board
  pub agrees : (version : Version) (report line : List ℕ) (status : ℕ) → CheckOutcome (Held files) version manifest (Told report status line) → status ≡ 0

-- What `write` puts for a package, taken as its netlist, is read and agrees with the copper.
abbrev pub WrittenNetlistsPass : Type 0
WrittenNetlistsPass = (before after : Files) (manifest text line : List ℕ) (status : ℕ) → (w : IsWritten (Held before) manifest text status line)
    → HasNetlist before after manifest w.board_is.listed text → Passes after manifest
