use Rattle.world_history.proofs.own_keys.own_key.Goals as goal

pub returns-in-Ok-clause-size : goal.returns-in-Ok-clause-size
returns-in-Ok-clause-size c = c.told-identifier
