use Rattle.std.proofs.Common.{◌≡◌, ◌++◌, List, map, take, All, Some}
use Rattle.serde_json.specs.View.{view}
use Rattle.board_package.specs.Manifest.{IsOnBoard, each_from, drill_entry}
use Rattle.board_package.specs.declared.entry.Entry.{Entry}
use Rattle.board_package.proofs.manifest.add_drills.Given as goal

abbrev pub invariant-loop-i : goal.invariant-loop-i
invariant-loop-i l =
    ((added : List Entry) × (each_from (drill_entry l.fn.layers) l.fn.layers (take l.i (map view l.drills)) ≡ Some added) × (l.files ≡ l.initial.files ++ added))
    × (All (λ e. IsOnBoard (l.fn.layers) e.role) l.initial.files → All (λ e. IsOnBoard (l.fn.layers) e.role) l.files)
