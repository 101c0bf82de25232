-- What the bytes of a text stand in.
use Rattle.std.specs.Prelude.{ℕ, ◌≤◌, List, take}
use Rattle.lengths.specs.Text.{IsText}
use Rattle.lengths.specs.declared.text.Stored.{Stored}
use Rattle.lengths.specs.declared.text.Stored.TheVariants.{Short, Long}
use Rattle.lengths.specs.declared.text.TheConstants.{MOST_SHORT_BYTES}

-- the bytes
abbrev pub stored_bytes : Stored → List ℕ
stored_bytes (Short len bytes) = take len bytes
stored_bytes (Long bytes) = bytes.value.items

-- how many stand in place
abbrev pub short_len : Stored → ℕ
short_len (Short len bytes) = len
short_len (Long bytes) = 0

-- the bytes are a text, and those in place have room
pub record IsStored (stored : Stored) : Type 0 where
  pub text : IsText (stored_bytes stored)
  pub within : short_len stored ≤ MOST_SHORT_BYTES
