use Rattle.shape_tests.proofs.odd_sizes.taken_round.Given as goal

abbrev pub ghosts-below_by : goal.ghosts-below_by
ghosts-below_by a = record { name = a.blank.name; parts = a.blank.parts }
