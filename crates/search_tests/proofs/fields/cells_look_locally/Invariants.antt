use Rattle.search_tests.proofs.fields.cells_look_locally.Given as goal

abbrev pub ghosts-alone : goal.ghosts-alone
ghosts-alone g a = record { name = a.blank.name; parts = a.blank.parts }
