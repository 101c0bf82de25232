use Rattle.gaps.proofs.listing.gaps.Given as goal

abbrev pub ghosts-gaps_in : goal.ghosts-gaps_in
ghosts-gaps_in a = record { name = a.blank.name; parts = a.blank.parts }
