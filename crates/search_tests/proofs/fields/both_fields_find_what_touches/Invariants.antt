use Rattle.search_tests.proofs.fields.both_fields_find_what_touches.Given as goal

abbrev pub ghosts-answers : goal.ghosts-answers
ghosts-answers g a = record { name = a.blank.name; parts = a.blank.parts }

abbrev pub ghosts-answers-2 : goal.ghosts-answers-2
ghosts-answers-2 g a = record { name = a.blank.name; parts = a.blank.parts }
