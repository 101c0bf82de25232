-- What the parts of `between` answer where the boards are no bounds.
use Rattle.std.specs.Prelude.{◌≡◌, ◌<◌, ⊤, ℕ, List}
use Rattle.arc_covers.specs.Counts.{IsFirstOther}
use Rattle.arc_covers.specs.declared.between.BoundsFault.{BoundsFault}
use Rattle.arc_covers.specs.declared.between.BoundsFault.TheVariants as fault
use Rattle.board_package.specs.Causes.{HandedCause}
use Rattle.board_package.specs.PackageBoard.{Stop, not_json, bad_manifest, frame_too_large}
use Rattle.board_package.specs.declared.fault.BuildFault.TheVariants as build
use Rattle.board_shapes.specs.Plain.{PlainBoard}
use Rattle.board_shapes.specs.declared.placed.Origin.{Origin}
use Rattle.boardnet.specs.Bounded.{ComesFrom, IsUnboundBy}
use Rattle.boardnet.specs.commands.Between.{IsOfFile}
use Rattle.boardnet.specs.declared.answer.Unanswered.{Unanswered}
use Rattle.boardnet.specs.declared.answer.Unanswered.TheVariants.{Stopped, NotJson, NotAManifest, BoundTooLarge, Unbound}
use Rattle.boardnet.specs.declared.unbound.Unbound.TheVariants.{NotCounts, Counts, Piece}
use Rattle.real_package.specs.RealBoards.{PlainRealBoard}

-- why a package behind the first, of this manifest, gives no board, by its stops and the names that come
abbrev pub IsBehindReason : List ℕ → (Stop → Type 0) → (List ℕ → Type 0) → ℕ → ℕ → List ℕ → Unanswered → Type 0
IsBehindReason name Stops Comes before now lost (Stopped why) = HandedCause (λ stop. Stops stop × IsOfFile stop) Comes before now lost why
IsBehindReason name Stops Comes before now lost (NotJson other) = (other ≡ name) × Stops not_json
IsBehindReason name Stops Comes before now lost (NotAManifest other) = (other ≡ name) × Stops bad_manifest
IsBehindReason name Stops Comes before now lost (BoundTooLarge other box) = (other ≡ name) × Stops (frame_too_large box)
IsBehindReason name Stops Comes before now lost other = ⊥

-- why bytes are no counts
abbrev pub IsNoCounts : List ℕ → Unanswered → Type 0
IsNoCounts bytes (Unbound (NotCounts line)) = IsFirstOther bytes line
IsNoCounts bytes (Stopped why) = why ≡ build.NoMemory
IsNoCounts bytes other = ⊥

-- the fault is of one of so many real pieces
abbrev pub IsInRange : ℕ → BoundsFault → Type 0
IsInRange count (fault.Piece side n) = n < count
IsInRange count other = ⊤

-- the reason of a fault of bounds
abbrev pub IsNotTaken : PlainRealBoard → BoundsFault → Unanswered → Type 0
IsNotTaken real (fault.Counts side) given = given ≡ Unbound (Counts side)
IsNotTaken real (fault.Piece side n) given = (origin : Origin) × (given ≡ Unbound (Piece side origin)) × ComesFrom real n origin
IsNotTaken real fault.NoMemory given = given ≡ Stopped build.NoMemory

-- why boards do not bound the real one by these bytes
abbrev pub IsUnboundedBy : PlainRealBoard → PlainBoard → PlainBoard → List ℕ → Unanswered → Type 0
IsUnboundedBy real lower upper bytes (Unbound reason) = IsUnboundBy real lower upper bytes reason
IsUnboundedBy real lower upper bytes (Stopped why) = why ≡ build.NoMemory
IsUnboundedBy real lower upper bytes other = ⊥
