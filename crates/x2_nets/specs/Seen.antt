-- What a word says, without where it lies in memory, and what an answer on it tells.
use Rattle.std.specs.Prelude.{◌≡◌, ℕ, Err}
use Rattle.x2_nets.specs.Labels.{Said, nothing, named, unnamed, judged, no_text}
use Rattle.x2_nets.specs.declared.said.Said.{Said as Seen}
use Rattle.x2_nets.specs.declared.said.Said.TheVariants as seen
use Rattle.x2_nets.specs.declared.listing.LabelFault.{LabelFault}
use Rattle.x2_nets.specs.declared.listing.LabelFault.TheVariants as fault

-- what was seen, the name as its bytes
abbrev pub view : Seen → Said
view seen.Nothing = nothing
view (seen.Named text) = named text.now
view seen.Unnamed = unnamed

-- the word of this number, at this place, has a name that is amiss; or memory is wanted
abbrev pub IsAmiss : Said → ℕ → ℕ → LabelFault → Type 0
IsAmiss s command at (fault.Bad n place) = (judged s ≡ Err no_text) × (n ≡ command) × (place ≡ at)
IsAmiss s command at fault.NoMemory = Unit {0}
