-- A refusal of a reader is why the file of an entry is not read.
use Rattle.std.proofs.Common.{◌≡◌, inr, ℕ, List, sym, subst}
use Rattle.board_shapes.specs.Plain.{PlainBoard, PlainPiece}
use Rattle.board_shapes.specs.declared.placed.Room.{Room}
use Rattle.gerber_layer.specs.Layer as layer_file
use Rattle.gerber_reading.specs.declared.kind.GerberKind.{GerberKind}
use Rattle.file_reading.specs.declared.fault.FileFault.{FileFault}
use Rattle.file_reading.specs.declared.fault.FileFault.TheVariants as layer_fault
use Rattle.ipc356_records.specs.NetlistFile as netlist_file
use Rattle.ipc356_records.specs.declared.kind.RecordFault.{RecordFault}
use Rattle.ipc356_records.specs.declared.kind.RecordFault.TheVariants as record_fault
use Rattle.ipc356_records.specs.declared.kind.RecordKind.{RecordKind}
use Rattle.xnc.specs.DrillFile as drill_file
use Rattle.xnc.specs.declared.kind.DrillFault.{DrillFault}
use Rattle.xnc.specs.declared.kind.DrillFault.TheVariants as drill_fault
use Rattle.xnc.specs.declared.kind.DrillKind.{DrillKind}
use Rattle.board_package.specs.Causes.{Halts, HasRefusal}
use Rattle.board_package.specs.Parts.{room_left, with_pieces}
use Rattle.board_package.specs.Contents.{Reads, Refuses}
use Rattle.board_package.specs.declared.entry.Entry.{Entry}
use Rattle.board_package.specs.declared.entry.Role.{Role}
use Rattle.board_package.specs.declared.entry.Role.TheVariants as role
use Rattle.board_package.specs.declared.fault.BuildFault.{BuildFault}
use Rattle.board_package.specs.declared.contents.Refusal.{Refusal}
use Rattle.board_package.specs.declared.contents.Refusal.TheVariants as refusal

halts_as : (e : Entry) (r : Role) (bytes : List ℕ) (before : PlainBoard) (why : Refusal) (given : BuildFault) → e.role ≡ r → Refuses r e.number bytes before why → HasRefusal e.name why given → Halts e bytes before given
halts_as e r bytes before why given is refuses has = inr (why, subst (λ (x : Role). Refuses x e.number bytes before why) (sym is) refuses, has)

pub layer_halts : (e : Entry) (layer : ℕ) (bytes : List ℕ) (before : PlainBoard) (room : Room) (fault : FileFault GerberKind) (kind : GerberKind) (command at : ℕ) (given : BuildFault) → e.role ≡ role.Copper layer → room ≡ room_left before.pieces
    → layer_file.IsFault bytes (record { layer = layer; file = e.number; room = room }) fault → fault ≡ layer_fault.Refused kind command at → HasRefusal e.name (refusal.Layer kind command at) given → Halts e bytes before given
layer_halts e layer bytes before room fault kind command at given is left refuses same has =
    halts_as e (role.Copper layer) bytes before (refusal.Layer kind command at) given is
    (subst (λ (q : Room). layer_file.IsRefused bytes (record { layer = layer; file = e.number; room = q }) kind command at) left
    (subst (λ (f : FileFault GerberKind). layer_file.IsFault bytes (record { layer = layer; file = e.number; room = room }) f) same refuses))
    has

pub drill_halts : (e : Entry) (from to : ℕ) (bytes : List ℕ) (before : PlainBoard) (room : Room) (fault : DrillFault) (kind : DrillKind) (line at : ℕ) (given : BuildFault) → e.role ≡ role.Drill from to → room ≡ room_left before.pieces
    → drill_file.IsFault bytes (record { from = from; to = to; file = e.number; room = room.pieces }) fault → fault ≡ drill_fault.Refused kind line at → HasRefusal e.name (refusal.Drill kind line at) given → Halts e bytes before given
drill_halts e from to bytes before room fault kind line at given is left refuses same has =
    halts_as e (role.Drill from to) bytes before (refusal.Drill kind line at) given is
    (subst (λ (q : Room). drill_file.IsRefused bytes (record { from = from; to = to; file = e.number; room = q.pieces }) kind line at) left
    (subst (λ (f : DrillFault). drill_file.IsFault bytes (record { from = from; to = to; file = e.number; room = room.pieces }) f) same refuses))
    has

-- a copper file that is read takes the board on
pub layer_reads : (e : Entry) (layer : ℕ) (bytes : List ℕ) (before after : PlainBoard) (room : Room) (pieces : List PlainPiece) → e.role ≡ role.Copper layer → room ≡ room_left before.pieces
    → layer_file.IsRead bytes (record { layer = layer; file = e.number; room = room }) pieces → after ≡ with_pieces before pieces → Reads e.role e.number bytes before after
layer_reads e layer bytes before after room pieces is left read made =
    subst (λ (x : Role). Reads x e.number bytes before after) (sym is) (pieces, subst (λ (q : Room). layer_file.IsRead bytes (record { layer = layer; file = e.number; room = q }) pieces) left read, made)

pub netlist_halts : (e : Entry) (bytes : List ℕ) (before : PlainBoard) (fault : RecordFault) (kind : RecordKind) (line : ℕ) (given : BuildFault) → e.role ≡ role.Netlist
    → netlist_file.IsFault bytes before.layers fault → fault ≡ record_fault.Refused kind line → HasRefusal e.name (refusal.Netlist kind line) given → Halts e bytes before given
netlist_halts e bytes before fault kind line given is refuses same has =
    halts_as e role.Netlist bytes before (refusal.Netlist kind line) given is (subst (λ (f : RecordFault). netlist_file.IsFault bytes before.layers f) same refuses) has
