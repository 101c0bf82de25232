-- What the parts of the top call answer.
use Rattle.std.specs.Prelude.{◌≡◌, ℕ, List}
use Rattle.board_package.specs.declared.fault.BuildFault.{BuildFault}
use Rattle.board_package.specs.declared.fault.BuildFault.TheVariants as fault
use Rattle.board_package.specs.declared.fault.LabelledFault.{LabelledFault}
use Rattle.board_package.specs.declared.fault.LabelledFault.TheVariants as labelled
use Rattle.board_maker.specs.declared.made.MakeFault.{MakeFault}
use Rattle.board_maker.specs.declared.made.MakeFault.TheVariants as made
use Rattle.file_reading.specs.declared.fault.FileFault.{FileFault}
use Rattle.file_reading.specs.declared.fault.FileFault.TheVariants as flat
use Rattle.gerber_layer.specs.declared.macro_kind.FlattenKind.{FlattenKind}
use Rattle.gaps.specs.declared.listing.GapFault.{GapFault}
use Rattle.gaps.specs.declared.listing.GapFault.TheVariants as gap
use Rattle.boardnet.specs.Outcome.{OutcomeOf, Source, Told, reason_line, IsNoReport}
use Rattle.boardnet.specs.Words.{Command, task_of}
use Rattle.reports.specs.Notes.{line_of, status_of}
use Rattle.reports.specs.declared.answer.Answer.{Answer}
use Rattle.boardnet.specs.declared.answer.Unanswered.{Unanswered}
use Rattle.boardnet.specs.declared.answer.Unanswered.TheVariants.{Stopped, NotAReport, SizeTooLarge, GrownTooLarge, Mislabelled, Unflat, Bent, NotJson, NotAManifest, BoundTooLarge}
use Rattle.real_package.specs.declared.fault.RealBuildFault.{RealBuildFault}
use Rattle.real_package.specs.declared.fault.RealBuildFault.TheVariants as real

-- an answer is the outcome of a command
abbrev pub IsAnswerTo : Source → Command → Answer → Type 0
IsAnswerTo source command answer = OutcomeOf source command (Told answer.text.items (status_of answer.note) (line_of answer.note))

-- why a report is not ruled on: it is the text of no verdict, or memory is wanted
abbrev pub IsUnruled : List ℕ → Unanswered → Type 0
IsUnruled bytes NotAReport = IsNoReport bytes
IsUnruled bytes (Stopped why) = why ≡ fault.NoMemory
IsUnruled bytes other = ⊥

-- why there is no answer where no board is made
abbrev pub unmade_of : MakeFault → Unanswered
unmade_of made.SizeTooLarge = SizeTooLarge
unmade_of made.NoMemory = Stopped fault.NoMemory

-- why there is no answer where the gaps of a board are not listed
abbrev pub ungapped_of : GapFault → Unanswered
ungapped_of (gap.FrameTooLarge box) = GrownTooLarge box
ungapped_of gap.NoMemory = Stopped fault.NoMemory

-- why there is no answer where no board is made by the net names in copper files
abbrev pub unlabelled_of : LabelledFault → Unanswered
unlabelled_of (labelled.Build why) = Stopped why
unlabelled_of (labelled.Label name command byte) = Mislabelled name command byte

-- why there is no answer where no board is made whose draws may be arcs
abbrev pub unreal_of : RealBuildFault → Unanswered
unreal_of (real.Build why) = Stopped why
unreal_of (real.Arc name kind command byte) = Bent name kind command byte

-- why there is no answer where a manifest behind the first, of this name, gives no board: its line names it
abbrev pub behind_of : List ℕ → BuildFault → Unanswered
behind_of name fault.NotJson = NotJson name
behind_of name fault.BadManifest = NotAManifest name
behind_of name (fault.FrameTooLarge box) = BoundTooLarge name box
behind_of name other = Stopped other

-- why there is no answer where a copper file is not flattened
abbrev pub unflat_of : FileFault FlattenKind → Unanswered
unflat_of (flat.Refused kind command at) = Unflat kind command at
unflat_of flat.NoMemory = Stopped fault.NoMemory

-- the status of a fault
abbrev pub fault_status : BuildFault → ℕ
fault_status (fault.CannotRead name) = 4
fault_status fault.NoMemory = 6
fault_status other = 3

-- the name of the manifest or of the copper file that a command is about
abbrev pub subject_of : Command → List ℕ
subject_of command = (task_of command).subject

-- the name of the report of an audit, or of the counts of `between`; empty where a command has neither
abbrev pub report_or_counts_of : Command → List ℕ
report_or_counts_of command = (task_of command).report

-- the status where a command has no answer
abbrev pub reason_status : Unanswered → ℕ
reason_status (Stopped why) = fault_status why
reason_status other = 3

-- the status is the reason's, and `Line` holds of its line
abbrev pub RefusesFor : Command → Unanswered → ℕ → (List ℕ → Type 0) → Type 0
RefusesFor command why status Line = (status ≡ reason_status why) × Line (reason_line (subject_of command) (report_or_counts_of command) why)
