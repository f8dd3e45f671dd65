use Rattle.printed_history.proofs.reading.identifier_size.Goals as goal

pub returns : goal.returns
returns c = c.told-identifier
