-- What the records of a file are.
use Rattle.std.specs.Prelude.{◌≡◌, ◌+◌, ◌<◌, ◌∷◌, [], length, Option, Some, None}
use Rattle.texts.specs.Lines.{Ahead, PlainLine, lines_from}
use Rattle.texts.specs.Stepping.{ahead as lines_ahead}
use Rattle.ipc356_records.specs.declared.record.Record.{Record}
use Rattle.ipc356_records.specs.declared.record.Records.{Records}

-- what lies ahead of the records read so far
abbrev pub ahead : Records → Ahead
ahead r = lines_ahead r.lines

-- the record is the first line ahead, with its number and its text, and then the others lie ahead
pub record GivesLine (old : Ahead) (r : Record) (new : Ahead) : Type 0 where
  pub line : PlainLine
  pub number : r.line ≡ line.number
  pub text : r.text.now ≡ line.text
  pub first : lines_from old ≡ line ∷ lines_from new
  pub counts : new.number ≡ old.number + 1

-- The answer is the next line, or no line lies ahead, and that stays so.
abbrev pub Gives : Ahead → Option Record → Ahead → Type 0
Gives old (Some r) new = GivesLine old r new
Gives old None new = (lines_from old ≡ []) × (new ≡ old)

-- A line that was read lies behind.
abbrev pub IsShorter : Ahead → Option Record → Ahead → Type 0
IsShorter old (Some r) new = length new.bytes < length old.bytes
IsShorter old None new = Unit {0}
