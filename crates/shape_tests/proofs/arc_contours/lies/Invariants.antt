use Rattle.shape_tests.proofs.arc_contours.lies.Given as goal

abbrev pub ghosts-lies_by : goal.ghosts-lies_by
ghosts-lies_by a = record { name = a.blank.name; parts = a.blank.parts }
