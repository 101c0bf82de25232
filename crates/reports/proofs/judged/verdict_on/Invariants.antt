use Rattle.reports.proofs.judged.verdict_on.Given as goal

abbrev pub ghosts-with_counter : goal.ghosts-with_counter
ghosts-with_counter a = record { name = a.blank.name; parts = a.blank.parts }
