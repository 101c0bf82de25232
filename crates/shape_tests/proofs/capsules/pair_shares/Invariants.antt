use Rattle.shape_tests.proofs.capsules.pair_shares.Given as goal

abbrev pub ghosts-share : goal.ghosts-share
ghosts-share a = record { name = a.blank.name; parts = a.blank.parts }
