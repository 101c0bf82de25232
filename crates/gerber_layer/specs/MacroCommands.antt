-- How a word is read where a file may have macros (Gerber Layer Format Specification, 4.5).
use Rattle.std.specs.Prelude.{◌&&◌, if◌then◌else◌, drop, codes}
use Rattle.texts.specs.Words.{begins}
use Rattle.gerber_words.specs.Words.{Entry}
use Rattle.gerber_reading.specs.Command.{Command, names_macro, body_word}
use Rattle.gerber_layer.specs.WordCommands.{command_of}

-- `AM` names a macro, the words behind it in its pair are its body, and every other word is this command
unfoldable pub macro_or : Command → Entry → Command
macro_or other w =
    if w.body then body_word w.text
    else (if w.extended && begins w.text (codes "AM") then names_macro (drop 2 w.text)
    else other)

-- which is what it is elsewhere
abbrev pub command_with_macros : Entry → Command
command_with_macros w = macro_or (command_of w) w
