use Rattle.std.proofs.Common.{◌≡◌, ◌++◌, List, length, map, take, All, Some}
use Rattle.serde_json.specs.View.{view}
use Rattle.board_package.specs.Manifest.{IsOnBoard, each_from, copper_entry}
use Rattle.board_package.specs.declared.entry.Entry.{Entry}
use Rattle.board_package.proofs.manifest.add_copper.Given as goal

abbrev pub invariant-loop-i : goal.invariant-loop-i
invariant-loop-i l =
    ((added : List Entry) × (each_from copper_entry 0 (take l.i (map view l.copper)) ≡ Some added) × (l.files ≡ l.initial.files ++ added))
    × (All (λ e. IsOnBoard (length l.copper) e.role) l.initial.files → All (λ e. IsOnBoard (length l.copper) e.role) l.files)
