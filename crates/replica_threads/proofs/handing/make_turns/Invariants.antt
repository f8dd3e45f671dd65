-- The lock is made for the actor that the station says.
use Rattle.replica_threads.proofs.handing.make_turns.Given as goal

abbrev pub ghosts-make_turns_of : goal.ghosts-make_turns_of
ghosts-make_turns_of g a = record { actor = a.actor }
