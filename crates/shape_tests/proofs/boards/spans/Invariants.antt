use Rattle.shape_tests.proofs.boards.spans.Given as goal

abbrev pub ghosts-touch_and_under : goal.ghosts-touch_and_under
ghosts-touch_and_under g a = record { name = a.blank.name; parts = a.blank.parts }
