use Rattle.clear_polarity.proofs.apart.are_apart.Given as goal

abbrev pub ghosts-share : goal.ghosts-share
ghosts-share a = record { name = a.blank.name; parts = a.blank.parts }
