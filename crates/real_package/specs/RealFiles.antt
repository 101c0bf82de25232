-- What each file of a package is read as where copper is real, and why it is refused.
use Rattle.std.specs.Prelude.{◌≡◌, ⊤, ℕ, List}
use Rattle.real_copper.specs.Shapes.{PlainReal}
use Rattle.real_copper.specs.Table.{IsRealCopper, IsRealRefused}
use Rattle.real_copper.specs.declared.kind.RealKind.{RealKind}
use Rattle.real_copper.specs.Kinds.{gerber}
use Rattle.real_copper.specs.declared.kind.RealKind.TheVariants.{Copper}
use Rattle.gerber_layer.specs.declared.macro_kind.FlattenKind.TheVariants.{Gerber}
use Rattle.board_shapes.specs.Pieces.{PlainPiece}
use Rattle.board_shapes.specs.declared.probe.Probe.{Probe}
use Rattle.drill_forms.specs.FormFile as drill_file
use Rattle.net_forms.specs.NetFile as netlist_file
use Rattle.board_package.specs.Contents.{drill_in, layer_in}
use Rattle.board_package.specs.declared.entry.Role.{Role}
use Rattle.board_package.specs.declared.entry.Role.TheVariants as role
use Rattle.board_package.specs.declared.contents.Refusal.{Refusal}
use Rattle.board_package.specs.declared.contents.Refusal.TheVariants as refusal
use Rattle.real_package.specs.RealBoards.{PlainRealBoard, as_reals, room_left, with_points, with_reals}

-- The file of this role and number is read, and takes the board on: a copper file gives real copper, a drill file barrels, the netlist test points and names.
abbrev pub ReadsReal : Role → ℕ → List ℕ → PlainRealBoard → PlainRealBoard → Type 0
ReadsReal (role.Copper layer) number bytes before after = (pieces : List PlainReal) × IsRealCopper bytes (layer_in (room_left before.pieces) layer number) pieces × (after ≡ with_reals before pieces)
ReadsReal (role.Drill from to) number bytes before after = (pieces : List PlainPiece) × drill_file.IsRead bytes (drill_in (room_left before.pieces) from to number) pieces × (after ≡ with_reals before (as_reals pieces))
ReadsReal role.Netlist number bytes before after = (probes : List Probe) × (names : List (List ℕ)) × netlist_file.IsRead bytes before.layers probes names × (after ≡ with_points before probes names)

-- the file of this role and number is refused, as one without arcs and macros may be
abbrev pub RefusesReal : Role → ℕ → List ℕ → PlainRealBoard → Refusal → Type 0
RefusesReal (role.Copper layer) number bytes before (refusal.Layer kind command at) = IsRealRefused bytes (layer_in (room_left before.pieces) layer number) (gerber kind) command at
RefusesReal (role.Drill from to) number bytes before (refusal.Drill kind line at) = drill_file.IsRefused bytes (drill_in (room_left before.pieces) from to number) kind line at
RefusesReal role.Netlist number bytes before (refusal.Netlist kind line) = netlist_file.IsRefused bytes before.layers kind line
RefusesReal other number bytes before why = ⊥

-- the kind is one that only arcs and macros have
abbrev pub IsOfArcs : RealKind → Type 0
IsOfArcs (Copper (Gerber kind)) = ⊥
IsOfArcs other = ⊤

-- the copper file of this role and number is refused for an arc or a macro
abbrev pub RefusesArc : Role → ℕ → List ℕ → PlainRealBoard → RealKind → ℕ → ℕ → Type 0
RefusesArc (role.Copper layer) number bytes before kind command at = IsOfArcs kind × IsRealRefused bytes (layer_in (room_left before.pieces) layer number) kind command at
RefusesArc other number bytes before kind command at = ⊥
