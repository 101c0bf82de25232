use Rattle.search_tests.proofs.nets.nets_over_cells.Given as goal

abbrev pub ghosts-search : goal.ghosts-search
ghosts-search g a = record { name = a.blank.name; parts = a.blank.parts }

abbrev pub ghosts-search-2 : goal.ghosts-search-2
ghosts-search-2 g a = record { name = a.blank.name; parts = a.blank.parts }
