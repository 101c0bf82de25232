-- The outcomes of the commands. What is imported by `pub use` is passed on to the contracts that speak of outcomes.
use Rattle.std.specs.Prelude.{◌≡◌, ◌⊎◌, ℕ, List, Option, IfSome, codes}
pub use Rattle.board_io.specs.Package.{Files}
pub use Rattle.board_maker.specs.MadePackage.{made_files}
pub use Rattle.board_package.specs.LabelledBoard.{IsLabelledBoardOf}
pub use Rattle.board_package.specs.PackageBoard.{IsBoardOf, IsHeld}
pub use Rattle.board_shapes.specs.Plain.{Fits, PlainBoard, PlainPiece}
pub use Rattle.gaps.specs.GrownBox.{grown_common}
pub use Rattle.gerber_layer.specs.MacroLayer.{IsReadWithMacros}
pub use Rattle.reports.specs.Right.{HasStatus}
pub use Rattle.boardnet.specs.Common.{form_of, place_of, refusal_line, flatten_line, IsLineOf, Outcome, Told, Refused}
pub use Rattle.boardnet.specs.Source.{Source, Held, HandedOver}
pub use Rattle.boardnet.specs.commands.Check.{IsReport}
pub use Rattle.reports.specs.Rulings.{IsTextOf, IsNoReport, HasRuling}
pub use Rattle.boardnet.specs.commands.Audit.{IsAnswer, IsReadAs, IsAuditStop}
pub use Rattle.boardnet.specs.commands.Trial.{made_manifest, IsTrialReport}
pub use Rattle.reports.specs.Summary.{summary_text}
pub use Rattle.boardnet.specs.commands.Write.{IsWritten}
pub use Rattle.boardnet.specs.commands.Gaps.{IsGapped}
pub use Rattle.boardnet.specs.commands.X2.{JoinsPieces, IsLabelledReport}
pub use Rattle.boardnet.specs.commands.Flatten.{IsFlatText}
pub use Rattle.boardnet.specs.commands.Between.{AreBounded, IsDecided}
use Rattle.board_package.specs.PackageBoard.{Stop}
use Rattle.board_package.specs.declared.fault.BuildFault.{BuildFault}
use Rattle.board_package.specs.declared.contents.Refusal.TheVariants.{Layer, Drill, Netlist}
use Rattle.board_package.specs.declared.fault.BuildFault.TheVariants as fault
use Rattle.boardnet.specs.Bounded.{unbound_line}
use Rattle.boardnet.specs.Common.{arc_line}
use Rattle.reports.specs.Lines.{plain_line, file_line, frame_line, label_line, manifest_frame_line}
use Rattle.boardnet.specs.Task.{Task}
use Rattle.boardnet.specs.Words.{Command, Check, Audit, Version, task_of}
use Rattle.boardnet.specs.declared.answer.Unanswered.{Unanswered}
use Rattle.boardnet.specs.declared.answer.Unanswered.TheVariants.{Stopped, NotAReport, SizeTooLarge, GrownTooLarge, Mislabelled, Unflat, Bent, NotJson, NotAManifest, BoundTooLarge, Unbound}

-- the line of a fault
abbrev pub fault_line : List ℕ → BuildFault → List ℕ
fault_line manifest fault.NotJson = file_line manifest (codes "not JSON")
fault_line manifest fault.BadManifest = file_line manifest (codes "not a manifest")
fault_line manifest (fault.Longer name) = file_line name (codes "longer than 67108864 bytes")
fault_line manifest (fault.CannotRead name) = file_line name (codes "cannot be read")
fault_line manifest (fault.Layer name kind command byte) = refusal_line name (Layer kind command byte)
fault_line manifest (fault.Drill name kind number byte) = refusal_line name (Drill kind number byte)
fault_line manifest (fault.Netlist name kind number) = refusal_line name (Netlist kind number)
fault_line manifest (fault.FrameTooLarge box) = frame_line box
fault_line manifest fault.NoMemory = plain_line (codes "out of memory")

-- the line of what stops a command or what it refuses, by the names of its subject and of its report
abbrev pub reason_line : (subject report : List ℕ) → Unanswered → List ℕ
reason_line subject report (Stopped why) = fault_line subject why
reason_line subject report NotAReport = file_line report (codes "not a report")
reason_line subject report SizeTooLarge = plain_line (codes "trial size too large")
reason_line subject report (GrownTooLarge box) = frame_line box
reason_line subject report (Mislabelled name number byte) = label_line name number byte
reason_line subject report (Unflat kind number byte) = flatten_line subject kind number byte
reason_line subject report (Bent name kind number byte) = arc_line name kind number byte
reason_line subject report (NotJson name) = file_line name (codes "not JSON")
reason_line subject report (NotAManifest name) = file_line name (codes "not a manifest")
reason_line subject report (BoundTooLarge name box) = manifest_frame_line name box
reason_line subject report (Unbound why) = unbound_line subject report why

-- A command stops, or refuses for another reason, and this is its line.
abbrev pub IsRefusedBy : Task → Source → List ℕ → Type 0
IsRefusedBy task source line =
    ((stop : Stop) × task.stops source stop × IsLineOf task.subject stop line)
    ⊎ ((why : Unanswered) × task.refuses source why × (line ≡ reason_line task.subject task.report why))

-- What a command comes to, by the files that a package holds or by what it handed over: the text that it answers, or a refusal.
abbrev pub OutcomeOf : Source → Command → Outcome → Type 0
OutcomeOf source command (Told text status line) = (task_of command).answers source text status line
OutcomeOf source command (Refused line) = IsRefusedBy (task_of command) source line

-- so of `check` and of `audit`
abbrev pub CheckOutcome : Source → Version → List ℕ → Outcome → Type 0
CheckOutcome source version manifest outcome = OutcomeOf source (Check version manifest) outcome

abbrev pub AuditOutcome : Source → (manifest report : List ℕ) → Outcome → Type 0
AuditOutcome source manifest report outcome = OutcomeOf source (Audit manifest report) outcome

-- The files that a command reads: those of the package, where it tells them, and for a trial those that it makes.
abbrev pub read_by : Command → Option Files → Option Files
read_by command held = (task_of command).reads held

-- P holds of the files that a command reads.
abbrev pub OfFilesRead : Command → Option Files → (Files → Type 0) → Type 0
OfFilesRead command held P = IfSome (read_by command held) P

-- The name is that of a file of the command's order, and every file before it was read and has no refusal.
abbrev pub ComesFor : Source → Command → List ℕ → Type 0
ComesFor source command name = (task_of command).comes source name
