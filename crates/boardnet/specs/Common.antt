-- What the commands share: the lines of refusals, and what an outcome is.
use Rattle.std.specs.Prelude.{◌≡◌, ℕ, List, codes}
use Rattle.real_copper.specs.Kinds.{real_row}
use Rattle.real_copper.specs.declared.kind.RealKind.{RealKind}
use Rattle.board_package.specs.PackageBoard.{Stop, absent, longer, not_json, bad_manifest, refused, frame_too_large}
use Rattle.board_package.specs.Refusals.{refusal_row}
use Rattle.board_package.specs.declared.contents.Refusal.{Refusal}
use Rattle.board_package.specs.declared.contents.Refusal.TheVariants.{Layer, Drill, Netlist}
use Rattle.gerber_layer.specs.MacroKinds.{flatten_row}
use Rattle.gerber_layer.specs.declared.macro_kind.FlattenKind.{FlattenKind}
use Rattle.reports.specs.Lines.{at_byte, at_item, file_line, frame_line, kind_line}

-- the form of a file that is refused
abbrev pub form_of : Refusal → List ℕ
form_of (Layer kind command byte) = codes "Gerber"
form_of (Drill kind line byte) = codes "drill"
form_of (Netlist kind line) = codes "netlist"

-- where it is refused; the refusal of a netlist has no byte
abbrev pub place_of : Refusal → List ℕ
place_of (Layer kind command byte) = at_byte (codes "command") command byte
place_of (Drill kind line byte) = at_byte (codes "line") line byte
place_of (Netlist kind line) = at_item (codes "line") line

-- The line of a file that is refused.
abbrev pub refusal_line : List ℕ → Refusal → List ℕ
refusal_line name why = kind_line name (form_of why) (refusal_row why).number (refusal_row why).name (place_of why)

-- The line of a copper file that is refused for an arc or a macro.
abbrev pub arc_line : List ℕ → RealKind → ℕ → ℕ → List ℕ
arc_line name kind command byte = kind_line name (codes "Gerber") (real_row kind).number (real_row kind).name (at_byte (codes "command") command byte)

-- The line of a copper file that `flatten` refuses.
abbrev pub flatten_line : List ℕ → FlattenKind → ℕ → ℕ → List ℕ
flatten_line name kind command byte = kind_line name (codes "flatten") (flatten_row kind).number (flatten_row kind).name (at_byte (codes "command") command byte)

-- The line of a stop that is a refusal. A file that is not held is none.
abbrev pub IsLineOf : List ℕ → Stop → List ℕ → Type 0
IsLineOf manifest (absent name) line = ⊥
IsLineOf manifest (longer name) line = line ≡ file_line name (codes "longer than 67108864 bytes")
IsLineOf manifest not_json line = line ≡ file_line manifest (codes "not JSON")
IsLineOf manifest bad_manifest line = line ≡ file_line manifest (codes "not a manifest")
IsLineOf manifest (refused name why) line = line ≡ refusal_line name why
IsLineOf manifest (frame_too_large box) line = line ≡ frame_line box

-- What a command comes to: a text with its status and its line, or the line of a refusal.
pub data Outcome : Type 0 where
  Told : List ℕ → ℕ → List ℕ → Outcome
  Refused : List ℕ → Outcome
