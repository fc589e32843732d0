use Rattle.booking_cases.proofs.part.over_table.Given as goal

-- the table that was just made
abbrev pub ghosts-play_on : goal.ghosts-play_on
ghosts-play_on a = record { table = a.table.now }
