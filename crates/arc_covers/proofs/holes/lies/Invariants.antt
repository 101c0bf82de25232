use Rattle.arc_covers.proofs.holes.lies.Given as goal

abbrev pub ghosts-is_within : goal.ghosts-is_within
ghosts-is_within a = record { name = a.blank.name; parts = a.blank.parts }
