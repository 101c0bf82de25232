use Rattle.search_tests.proofs.nets.nets_are_what_chains_join.Given as goal

abbrev pub ghosts-search : goal.ghosts-search
ghosts-search g a = record { name = a.blank.name; parts = a.blank.parts }
