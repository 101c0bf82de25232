use Rattle.search_tests.proofs.grown.fats_share.Given as goal

abbrev pub ghosts-share : goal.ghosts-share
ghosts-share a = record { name = a.blank.name; parts = a.blank.parts }
