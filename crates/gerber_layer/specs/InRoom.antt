-- What is known before a command, were there another room.
use Rattle.board_shapes.specs.declared.placed.Room.{Room}
use Rattle.gerber_layer.specs.CommandEffects.{Known}

-- what is known, but with this room
abbrev pub in_room : Room → Known → Known
in_room room k = record k { place = record k.place { room = room } }
