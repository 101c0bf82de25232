-- What the next line is.
use Rattle.std.specs.Prelude.{◌≡◌, ◌<◌, ◌+◌, [], ◌∷◌, length, Option, Some, None}
use Rattle.texts.specs.Lines.{Ahead, PlainLine, lines_from}
use Rattle.texts.specs.declared.lines.Lines.{Lines}
use Rattle.texts.specs.declared.lines.Line.{Line}

-- what lies ahead of the lines read so far
abbrev pub ahead : Lines → Ahead
ahead l = record { number = l.number; at = l.at; bytes = l.rest.now }

-- a line without where it lies in memory
abbrev pub plain_line : Line → PlainLine
plain_line l = record { number = l.number; at = l.at; text = l.text.now }

-- The answer is the first line ahead, and then the others lie ahead; or there is none.
abbrev pub Gives : Ahead → Option Line → Ahead → Type 0
Gives old (Some line) new = (lines_from old ≡ plain_line line ∷ lines_from new) × (new.number ≡ old.number + 1)
Gives old None new = (lines_from old ≡ []) × (new ≡ old)

-- A line that was read lies behind.
abbrev pub Shortens : Ahead → Option Line → Ahead → Type 0
Shortens old (Some line) new = length new.bytes < length old.bytes
Shortens old None new = Unit {0}
