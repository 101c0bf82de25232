-- Why a package gives no real board.
use Rattle.std.specs.Prelude.{◌≡◌, ◌⊎◌, ℕ, List}
use Rattle.real_copper.specs.declared.kind.RealKind.{RealKind}
use Rattle.real_copper.specs.declared.kind.RealKind.TheVariants.{Copper}
use Rattle.gerber_layer.specs.declared.macro_kind.FlattenKind.TheVariants.{Gerber}
use Rattle.file_reading.specs.declared.fault.FileFault.{FileFault}
use Rattle.file_reading.specs.declared.fault.FileFault.TheVariants as copper
use Rattle.board_package.specs.Causes.{Fault, Faults, HasRefusal, own, shared}
use Rattle.board_package.specs.declared.contents.Refusal.{Refusal}
use Rattle.board_package.specs.declared.contents.Refusal.TheVariants as refusal
use Rattle.board_package.specs.declared.entry.Entry.{Entry}
use Rattle.board_package.specs.declared.fault.BuildFault.{BuildFault}
use Rattle.board_package.specs.declared.fault.BuildFault.TheVariants as build
use Rattle.ipc356_records.specs.declared.kind.RecordFault.{RecordFault}
use Rattle.ipc356_records.specs.declared.kind.RecordFault.TheVariants as netlist
use Rattle.xnc.specs.declared.kind.DrillFault.{DrillFault}
use Rattle.xnc.specs.declared.kind.DrillFault.TheVariants as drill
use Rattle.real_package.specs.RealBoards.{PlainRealBoard}
use Rattle.real_package.specs.RealFiles.{RefusesArc, RefusesReal}
use Rattle.real_package.specs.RealPackage.{RealStop, bent, unbuilt}
use Rattle.real_package.specs.declared.fault.RealBuildFault.{RealBuildFault}
use Rattle.real_package.specs.declared.fault.RealBuildFault.TheVariants as fault

-- what a fault tells
abbrev pub real_told : RealBuildFault → Fault RealStop
real_told (fault.Build why) = shared why
real_told (fault.Arc name kind command at) = own (bent name kind command at)

-- Why there is no real board: as there would be no board without arcs and macros, or an arc or a macro that is refused.
abbrev pub real_faults : Faults RealStop RealBuildFault
real_faults = record { unbuilt = λ stop. unbuilt stop; told = real_told }

-- the fault of a copper file of this name, refused as one without arcs and macros may be, or for one of these; or want of memory
abbrev pub IsCopperRefusal : List ℕ → RealKind → ℕ → ℕ → RealBuildFault → Type 0
IsCopperRefusal name (Copper (Gerber kind)) command at given = (why : BuildFault) × (given ≡ fault.Build why) × HasRefusal name (refusal.Layer kind command at) why
IsCopperRefusal name kind command at given = (given ≡ fault.Arc name kind command at) ⊎ (given ≡ fault.Build build.NoMemory)

-- the fault of a file of this name whose reader gave this
abbrev pub IsCopperFault : List ℕ → FileFault RealKind → RealBuildFault → Type 0
IsCopperFault name (copper.Refused kind command at) given = IsCopperRefusal name kind command at given
IsCopperFault name copper.NoMemory given = given ≡ fault.Build build.NoMemory

abbrev pub IsDrillFault : List ℕ → DrillFault → RealBuildFault → Type 0
IsDrillFault name (drill.Refused kind line at) given = (why : BuildFault) × (given ≡ fault.Build why) × HasRefusal name (refusal.Drill kind line at) why
IsDrillFault name drill.NoMemory given = given ≡ fault.Build build.NoMemory

abbrev pub IsNetlistFault : List ℕ → RecordFault → RealBuildFault → Type 0
IsNetlistFault name (netlist.Refused kind line) given = (why : BuildFault) × (given ≡ fault.Build why) × HasRefusal name (refusal.Netlist kind line) why
IsNetlistFault name netlist.NoMemory given = given ≡ fault.Build build.NoMemory

-- why the file of an entry is not read: its refusal, or want of memory
abbrev pub HaltsReal : Entry → List ℕ → PlainRealBoard → RealBuildFault → Type 0
HaltsReal e bytes before (fault.Build given) = (given ≡ build.NoMemory) ⊎ ((why : Refusal) × RefusesReal e.role e.number bytes before why × HasRefusal e.name why given)
HaltsReal e bytes before (fault.Arc name kind command at) = (name ≡ e.name) × RefusesArc e.role e.number bytes before kind command at
