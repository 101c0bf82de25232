-- The files that a manifest lists, copper files first.
use Rattle.std.proofs.Common.{◌≡◌, ℕ, ◌+◌, List, [], ◌∷◌, ◌++◌, length, map, Option, Some, refl, ap, ◌∙◌}
use Rattle.std.proofs.lemmas.List.{length-map}
use Rattle.serde_json.specs.Data.{Data}
use Rattle.serde_json.specs.View.{view}
use Rattle.serde_json.specs.declared.value.Value.{Value}
use Rattle.board_package.specs.Manifest.{Misses, copper_entry, drill_entry, each_from, files_of}
use Rattle.board_package.specs.declared.entry.Entry.{Entry}
use Rattle.board_package.specs.declared.entry.Role.TheVariants.{Netlist}
use Rattle.board_package.specs.declared.manifest.ManifestFault.{ManifestFault}
use Rattle.board_package.specs.declared.manifest.ManifestFault.TheVariants.{NotJson, BadManifest, NoMemory}

-- the entries that were added to others
abbrev Added : (ℕ → Data → Option Entry) → ℕ → List Data → List Entry → List Entry → Type 0
Added f n values old new = (added : List Entry) × (each_from f n values ≡ Some added) × (new ≡ old ++ added)

abbrev last_of : List Value → List Value → List ℕ → Entry
last_of copper drills netlist = record { name = netlist; number = length copper + length drills; role = Netlist }

pub all_listed : (copper drills : List Value) (netlist : List ℕ) (start front back files : List Entry) → start ≡ [] → Added copper_entry 0 (map view copper) start front → Added (drill_entry (length copper)) (length copper) (map view drills) front back
    → files ≡ back ++ last_of copper drills netlist ∷ [] → files_of (map view copper) (map view drills) netlist ≡ Some files
all_listed copper drills netlist start front back files none (first, is, one) (second, are, two) last =
    let begun : front ≡ first = one ∙ ap (λ (xs : List Entry). xs ++ first) none in
    let whole : files ≡ first ++ second ++ last_of copper drills netlist ∷ [] = last ∙ ap (λ (xs : List Entry). xs ++ last_of copper drills netlist ∷ []) (two ∙ ap (λ (xs : List Entry). xs ++ second) begun) in
    rw (length-map copper view, length-map drills view, is, are, whole) refl

-- where the drill files are no list of entries, neither are all
pub drills_missed : (copper drills : List Value) (netlist : List ℕ) (start front : List Entry) (why : ManifestFault) → Added copper_entry 0 (map view copper) start front → Misses (each_from (drill_entry (length copper)) (length copper) (map view drills)) why → Misses (files_of (map view copper) (map view drills) netlist) why
drills_missed copper drills netlist start front NotJson (first, is, one) h = h
drills_missed copper drills netlist start front BadManifest (first, is, one) h = rw (length-map copper view, is, h) refl
drills_missed copper drills netlist start front NoMemory (first, is, one) h = tt
