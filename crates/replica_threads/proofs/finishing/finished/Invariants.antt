use Rattle.replica_threads.proofs.finishing.finished.Given as goal

-- the actor that the station says
abbrev pub ghosts-finished_of : goal.ghosts-finished_of
ghosts-finished_of g a = record { actor = a.actor }
