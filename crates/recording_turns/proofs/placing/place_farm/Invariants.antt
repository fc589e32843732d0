use Rattle.recording_turns.proofs.placing.place_farm.Given as goal

-- the farm at hand
abbrev pub ghosts-place_as : goal.ghosts-place_as
ghosts-place_as a = record { farm = a.farm.now }
