-- What each file of a package is read as, and why it is refused.
use Rattle.std.specs.Prelude.{◌≡◌, ℕ, List}
use Rattle.board_shapes.specs.Plain.{PlainBoard, PlainPiece, with_netlist}
use Rattle.board_shapes.specs.declared.placed.Room.{Room}
use Rattle.board_shapes.specs.declared.probe.Probe.{Probe}
use Rattle.gerber_reading.specs.declared.place.Place.{Place as LayerPlace}
use Rattle.gerber_layer.specs.Layer as layer_file
use Rattle.xnc.specs.Places.{Place as DrillPlace}
use Rattle.xnc.specs.DrillFile as drill_file
use Rattle.ipc356_records.specs.NetlistFile as netlist_file
use Rattle.board_package.specs.Parts.{with_pieces, room_left}
use Rattle.board_package.specs.declared.entry.Role.{Role}
use Rattle.board_package.specs.declared.entry.Role.TheVariants as role
use Rattle.board_package.specs.declared.contents.Refusal.{Refusal}
use Rattle.board_package.specs.declared.contents.Refusal.TheVariants as refusal

-- where the pieces of a copper file come to stand, and the room that earlier files left
abbrev pub layer_in : Room → ℕ → ℕ → LayerPlace
layer_in room layer number = record { layer = layer; file = number; room = room }

abbrev pub layer_place : ℕ → ℕ → PlainBoard → LayerPlace
layer_place layer number before = layer_in (room_left before.pieces) layer number

-- where the barrels of a drill file come to stand, and the room that earlier files left
abbrev pub drill_in : Room → ℕ → ℕ → ℕ → DrillPlace
drill_in room from to number = record { from = from; to = to; file = number; room = room.pieces }

abbrev pub drill_place : ℕ → ℕ → ℕ → PlainBoard → DrillPlace
drill_place from to number before = drill_in (room_left before.pieces) from to number

-- the file of this role and number is read, and takes the board on
abbrev pub Reads : Role → ℕ → List ℕ → PlainBoard → PlainBoard → Type 0
Reads (role.Copper layer) number bytes before after = (pieces : List PlainPiece) × layer_file.IsRead bytes (layer_place layer number before) pieces × (after ≡ with_pieces before pieces)
Reads (role.Drill from to) number bytes before after = (pieces : List PlainPiece) × drill_file.IsRead bytes (drill_place from to number before) pieces × (after ≡ with_pieces before pieces)
Reads role.Netlist number bytes before after = (probes : List Probe) × (names : List (List ℕ)) × netlist_file.IsRead bytes before.layers probes names × (after ≡ with_netlist before probes names)

-- the file of this role and number is refused
abbrev pub Refuses : Role → ℕ → List ℕ → PlainBoard → Refusal → Type 0
Refuses (role.Copper layer) number bytes before (refusal.Layer kind command at) = layer_file.IsRefused bytes (layer_place layer number before) kind command at
Refuses (role.Drill from to) number bytes before (refusal.Drill kind line at) = drill_file.IsRefused bytes (drill_place from to number before) kind line at
Refuses role.Netlist number bytes before (refusal.Netlist kind line) = netlist_file.IsRefused bytes before.layers kind line
Refuses other number bytes before why = ⊥
