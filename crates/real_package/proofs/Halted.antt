-- A refusal of a reader is why the file of an entry is not read.
use Rattle.std.proofs.Common.{◌≡◌, ◌⊎◌, inl, inr, ℕ, List, refl, sym, subst}
use Rattle.real_copper.specs.Shapes.{PlainReal}
use Rattle.real_copper.specs.Table.{IsRealCopper, IsRealFault, IsRealRefused}
use Rattle.file_reading.specs.declared.fault.FileFault.{FileFault}
use Rattle.file_reading.specs.declared.fault.FileFault.TheVariants as real_fault
use Rattle.real_copper.specs.declared.kind.RealKind.{RealKind}
use Rattle.real_copper.specs.declared.kind.RealKind.TheVariants as kinds
use Rattle.gerber_layer.specs.declared.macro_kind.FlattenKind.TheVariants as flatten
use Rattle.board_shapes.specs.declared.placed.Room.{Room}
use Rattle.net_forms.specs.NetFile as netlist_file
use Rattle.ipc356_records.specs.declared.kind.RecordFault.{RecordFault}
use Rattle.ipc356_records.specs.declared.kind.RecordFault.TheVariants as record_fault
use Rattle.drill_forms.specs.FormFile as drill_file
use Rattle.xnc.specs.declared.kind.DrillFault.{DrillFault}
use Rattle.xnc.specs.declared.kind.DrillFault.TheVariants as drill_fault
use Rattle.board_package.specs.Causes.{HasRefusal}
use Rattle.board_package.specs.Contents.{layer_in}
use Rattle.board_package.specs.declared.contents.Refusal.{Refusal}
use Rattle.board_package.specs.declared.contents.Refusal.TheVariants as refusal
use Rattle.board_package.specs.declared.entry.Entry.{Entry}
use Rattle.board_package.specs.declared.entry.Role.{Role}
use Rattle.board_package.specs.declared.entry.Role.TheVariants as role
use Rattle.board_package.specs.declared.fault.BuildFault.{BuildFault}
use Rattle.board_package.specs.declared.fault.BuildFault.TheVariants as build
use Rattle.real_package.specs.RealBoards.{PlainRealBoard, room_left, with_reals}
use Rattle.real_package.specs.RealCauses.{HaltsReal, IsCopperFault, IsCopperRefusal, IsDrillFault, IsNetlistFault}
use Rattle.real_package.specs.RealFiles.{IsOfArcs, ReadsReal, RefusesArc, RefusesReal}
use Rattle.real_package.specs.declared.fault.RealBuildFault.{RealBuildFault}
use Rattle.real_package.specs.declared.fault.RealBuildFault.TheVariants as fault

halts_as : (e : Entry) (r : Role) (bytes : List ℕ) (before : PlainRealBoard) (why : Refusal) (given : BuildFault) → e.role ≡ r → RefusesReal r e.number bytes before why → HasRefusal e.name why given → HaltsReal e bytes before (fault.Build given)
halts_as e r bytes before why given is refuses has = inr (why, subst (λ (x : Role). RefusesReal x e.number bytes before why) (sym is) refuses, has)

-- a copper file's refusal, with its name
copper_by : (e : Entry) (layer : ℕ) (bytes : List ℕ) (before : PlainRealBoard) (kind : RealKind) (command at : ℕ) (given : RealBuildFault) → e.role ≡ role.Copper layer
    → IsRealRefused bytes (layer_in (room_left before.pieces) layer e.number) kind command at → IsOfArcs kind → (given ≡ fault.Arc e.name kind command at) ⊎ (given ≡ fault.Build build.NoMemory) → HaltsReal e bytes before given
copper_by e layer bytes before kind command at given is refuses own (inl g) =
    subst (λ (f : RealBuildFault). HaltsReal e bytes before f) (sym g) (refl, subst (λ (x : Role). RefusesArc x e.number bytes before kind command at) (sym is) (own, refuses))
copper_by e layer bytes before kind command at given is refuses own (inr g) = subst (λ (f : RealBuildFault). HaltsReal e bytes before f) (sym g) (inl refl)

copper_as : (e : Entry) (layer : ℕ) (bytes : List ℕ) (before : PlainRealBoard) (kind : RealKind) (command at : ℕ) (given : RealBuildFault) → e.role ≡ role.Copper layer
    → IsRealRefused bytes (layer_in (room_left before.pieces) layer e.number) kind command at → IsCopperRefusal e.name kind command at given → HaltsReal e bytes before given
copper_as e layer bytes before (kinds.Copper (flatten.Gerber kind)) command at given is refuses (why, g, has) =
    subst (λ (f : RealBuildFault). HaltsReal e bytes before f) (sym g) (halts_as e (role.Copper layer) bytes before (refusal.Layer kind command at) why is refuses has)
copper_as e layer bytes before (kinds.Copper flatten.BadMacro) command at given is refuses has = copper_by e layer bytes before (kinds.Copper flatten.BadMacro) command at given is refuses tt has
copper_as e layer bytes before (kinds.Copper flatten.MacroTwice) command at given is refuses has = copper_by e layer bytes before (kinds.Copper flatten.MacroTwice) command at given is refuses tt has
copper_as e layer bytes before (kinds.Copper flatten.NoMacro) command at given is refuses has = copper_by e layer bytes before (kinds.Copper flatten.NoMacro) command at given is refuses tt has
copper_as e layer bytes before (kinds.Copper flatten.ExposureOff) command at given is refuses has = copper_by e layer bytes before (kinds.Copper flatten.ExposureOff) command at given is refuses tt has
copper_as e layer bytes before (kinds.Copper flatten.Turn) command at given is refuses has = copper_by e layer bytes before (kinds.Copper flatten.Turn) command at given is refuses tt has
copper_as e layer bytes before (kinds.Copper flatten.Slanted) command at given is refuses has = copper_by e layer bytes before (kinds.Copper flatten.Slanted) command at given is refuses tt has
copper_as e layer bytes before (kinds.Copper flatten.TooManyRadii) command at given is refuses has = copper_by e layer bytes before (kinds.Copper flatten.TooManyRadii) command at given is refuses tt has
copper_as e layer bytes before kinds.NoOffsets command at given is refuses has = copper_by e layer bytes before kinds.NoOffsets command at given is refuses tt has
copper_as e layer bytes before kinds.OffsetsAmiss command at given is refuses has = copper_by e layer bytes before kinds.OffsetsAmiss command at given is refuses tt has
copper_as e layer bytes before kinds.NoQuadrants command at given is refuses has = copper_by e layer bytes before kinds.NoQuadrants command at given is refuses tt has
copper_as e layer bytes before kinds.NoCentre command at given is refuses has = copper_by e layer bytes before kinds.NoCentre command at given is refuses tt has

no_memory : (e : Entry) (bytes : List ℕ) (before : PlainRealBoard) (given : RealBuildFault) → given ≡ fault.Build build.NoMemory → HaltsReal e bytes before given
no_memory e bytes before given g = subst (λ (f : RealBuildFault). HaltsReal e bytes before f) (sym g) (inl refl)

pub copper_halts : (e : Entry) (layer : ℕ) (bytes : List ℕ) (before : PlainRealBoard) (room : Room) (why : FileFault RealKind) (given : RealBuildFault) → e.role ≡ role.Copper layer → room ≡ room_left before.pieces
    → IsRealFault bytes (record { layer = layer; file = e.number; room = room }) why → IsCopperFault e.name why given → HaltsReal e bytes before given
copper_halts e layer bytes before room (real_fault.Refused kind command at) given is left refuses has =
    copper_as e layer bytes before kind command at given is (subst (λ (q : Room). IsRealRefused bytes (record { layer = layer; file = e.number; room = q }) kind command at) left refuses) has
copper_halts e layer bytes before room real_fault.NoMemory given is left refuses g = no_memory e bytes before given g

pub drill_halts : (e : Entry) (from to : ℕ) (bytes : List ℕ) (before : PlainRealBoard) (room : Room) (why : DrillFault) (given : RealBuildFault) → e.role ≡ role.Drill from to → room ≡ room_left before.pieces
    → drill_file.IsFault bytes (record { from = from; to = to; file = e.number; room = room.pieces }) why → IsDrillFault e.name why given → HaltsReal e bytes before given
drill_halts e from to bytes before room (drill_fault.Refused kind line at) given is left refuses (own, g, has) =
    subst (λ (f : RealBuildFault). HaltsReal e bytes before f) (sym g)
    (halts_as e (role.Drill from to) bytes before (refusal.Drill kind line at) own is
    (subst (λ (q : Room). drill_file.IsRefused bytes (record { from = from; to = to; file = e.number; room = q.pieces }) kind line at) left refuses) has)
drill_halts e from to bytes before room drill_fault.NoMemory given is left refuses g = no_memory e bytes before given g

pub netlist_halts : (e : Entry) (bytes : List ℕ) (before : PlainRealBoard) (why : RecordFault) (given : RealBuildFault) → e.role ≡ role.Netlist
    → netlist_file.IsFault bytes before.layers why → IsNetlistFault e.name why given → HaltsReal e bytes before given
netlist_halts e bytes before (record_fault.Refused kind line) given is refuses (own, g, has) =
    subst (λ (f : RealBuildFault). HaltsReal e bytes before f) (sym g) (halts_as e role.Netlist bytes before (refusal.Netlist kind line) own is refuses has)
netlist_halts e bytes before record_fault.NoMemory given is refuses g = no_memory e bytes before given g

-- a copper file that is read takes the board on
pub copper_reads : (e : Entry) (layer : ℕ) (bytes : List ℕ) (before after : PlainRealBoard) (room : Room) (pieces : List PlainReal) → e.role ≡ role.Copper layer → room ≡ room_left before.pieces
    → IsRealCopper bytes (record { layer = layer; file = e.number; room = room }) pieces → after ≡ with_reals before pieces → ReadsReal e.role e.number bytes before after
copper_reads e layer bytes before after room pieces is left read made =
    subst (λ (x : Role). ReadsReal x e.number bytes before after) (sym is) (pieces, subst (λ (q : Room). IsRealCopper bytes (record { layer = layer; file = e.number; room = q }) pieces) left read, made)
