use Rattle.replica_threads.proofs.Runs.{runs_stamp_once, histories_are_legal}
use Rattle.replica_threads.proofs.laws.runs_are_legal.Goals as goal

pub returns-clause-once : goal.returns-clause-once
returns-clause-once c = runs_stamp_once

pub returns-clause-legal : goal.returns-clause-legal
returns-clause-legal c = histories_are_legal
