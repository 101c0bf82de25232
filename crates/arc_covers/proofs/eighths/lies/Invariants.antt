use Rattle.arc_covers.proofs.eighths.lies.Given as goal

abbrev pub ghosts-is_taken : goal.ghosts-is_taken
ghosts-is_taken a = record { name = a.blank.name; parts = a.blank.parts }
