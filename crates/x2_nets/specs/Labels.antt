-- The net names that a copper file gives its objects, found by looking back over its words.
use Rattle.std.specs.Prelude.{ℕ, ◌+◌, ◌-◌, nat_lt, ◌||◌, if◌then◌else◌, List, [], ◌∷◌, ◌++◌, length, drop, codes, Option, Some, None, option_and_then, Result, Ok, Err}
use Rattle.std.specs.Option.{option_or}
use Rattle.std.specs.List.Sorted.{IsNonDecreasingBy}
use Rattle.lengths.specs.Text.{is_text}
use Rattle.file_reading.specs.Reading as reading
use Rattle.file_reading.specs.Reading.{Item}
use Rattle.gerber_words.specs.Words.{Entry, Stop}
use Rattle.gerber_words.specs.Attributes.{PlainAttribute, attribute_of, field_of, is_field}
use Rattle.gerber_words.specs.Items as words
use Rattle.gerber_words.specs.declared.attribute.AttributeKind.{AttributeKind}
use Rattle.gerber_words.specs.declared.attribute.AttributeKind.TheVariants.{File, Aperture, Object, Delete}
use Rattle.x2_nets.specs.declared.listing.LabelFault.{LabelFault}
use Rattle.x2_nets.specs.declared.listing.LabelFault.TheVariants as fault
use Rattle.x2_nets.specs.declared.label_table.Label.{Label}

-- ---- What a word says (Gerber Layer Format Specification, 5.4 and 5.6)

-- nothing of nets; the name of the objects that come next; or that they have none
pub data Said : Type 0 where
  nothing : Said
  named : List ℕ → Said
  unnamed : Said

-- a field that is missing or empty is `N/C`, which names no net (own)
abbrev pub name_in : Option (List ℕ) → List ℕ
name_in None = codes "N/C"
name_in (Some []) = codes "N/C"
name_in (Some (b ∷ text)) = b ∷ text

-- `TO.N` gives the name
abbrev pub named_by : List ℕ → Said
named_by text = if is_field (field_of text 0) (codes ".N") then named (name_in (field_of text 1)) else nothing

-- `TD` ends all names, and `TD.N` this one
abbrev pub ended_by : List ℕ → Said
ended_by text = if is_field (field_of text 0) [] || is_field (field_of text 0) (codes ".N") then unnamed else nothing

-- attributes of objects, and the words that delete attributes, alone say something of nets
abbrev pub by_kind : AttributeKind → List ℕ → Said
by_kind File text = nothing
by_kind Aperture text = nothing
by_kind Object text = named_by text
by_kind Delete text = ended_by text

-- what an attribute says, and nothing where there is none
abbrev pub said_by : Option PlainAttribute → Said
said_by None = nothing
said_by (Some a) = by_kind a.kind a.text

-- what a word says of nets
abbrev pub said_of : Entry → Said
said_of w = said_by (attribute_of w)

-- the stop of the words says nothing
abbrev pub stop_says : Stop → Said
stop_says stop = nothing

-- ---- The name in force. A history is a list of what the words say, the last first.

-- behind a history: the last name that was given and not ended
abbrev pub label_before : List Said → Option (List ℕ)
label_before [] = None
label_before (nothing ∷ earlier) = label_before earlier
label_before (named text ∷ earlier) = Some text
label_before (unnamed ∷ earlier) = None

-- those of a history that stand before the command of this number, from 1
abbrev pub before_command : ℕ → List Said → List Said
before_command command earlier = drop (length earlier + 1 - command) earlier

-- ---- The list of labels

-- the label of the command of this number, if that says something
abbrev pub label_of : ℕ → Said → List Label
label_of command nothing = []
label_of command (named text) = record { command = command; name = Some text } ∷ []
label_of command unnamed = record { command = command; name = None } ∷ []

-- a label for each word of a history that says something, with its number
abbrev pub labels_of : List Said → List Label
labels_of [] = []
labels_of (s ∷ earlier) = labels_of earlier ++ label_of (length earlier + 1) s

-- the last label whose command is less
abbrev pub last_before : ℕ → List Label → Option Label
last_before command [] = None
last_before command (l ∷ labels) = option_or (last_before command labels) (if nat_lt l.command command then Some l else None)

-- and its name
abbrev pub name_at : List Label → ℕ → Option (List ℕ)
name_at labels command = option_and_then (λ l. l.name) (last_before command labels)

-- the commands do not fall
abbrev pub Rise : List Label → Type 0
Rise labels = IsNonDecreasingBy (λ l. l.command) labels

-- ---- The labels of a file

-- a name that is no text
pub data Amiss : Type 0 where
  no_text : Amiss

-- what was said, unless it is a name that is no text
abbrev pub judged : Said → Result Said Amiss
judged nothing = Ok nothing
judged (named text) = if is_text text then Ok (named text) else Err no_text
judged unnamed = Ok unnamed

-- what words say is judged by itself, whatever stands before
abbrev pub judged_after : List Said → Said → Result Said Amiss
judged_after earlier s = judged s

-- this is what the words of the file say, with their places
abbrev pub AreSaid : List ℕ → List (Item Said) → Type 0
AreSaid file items = words.AreItems said_of stop_says file items

-- no name is amiss, and these are the labels
abbrev pub IsRead : List ℕ → List Label → Type 0
IsRead file labels = (items : List (Item Said)) × AreSaid file items × reading.IsRead judged_after labels_of items labels

-- the first name that is amiss, by the number and the place of its word
abbrev pub IsRefused : List ℕ → Amiss → ℕ → ℕ → Type 0
IsRefused file why command at = (items : List (Item Said)) × AreSaid file items × reading.IsRefused judged_after items why command at

-- there is such a name, and this is where
abbrev pub IsBad : List ℕ → ℕ → ℕ → Type 0
IsBad file command at = IsRefused file no_text command at

-- why there are no labels: a name is amiss, or memory is wanted
abbrev pub IsFault : List ℕ → LabelFault → Type 0
IsFault file (fault.Bad command at) = IsBad file command at
IsFault file fault.NoMemory = Unit {0}
