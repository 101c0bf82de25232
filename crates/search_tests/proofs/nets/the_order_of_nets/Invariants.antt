use Rattle.search_tests.proofs.nets.the_order_of_nets.Given as goal

abbrev pub ghosts-search : goal.ghosts-search
ghosts-search g a = record { name = a.blank.name; parts = a.blank.parts }
