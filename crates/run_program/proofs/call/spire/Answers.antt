-- What the call keeps is what the commands keep with these runs: blame, trend, parts and rebuilding follow, as each law of
-- a question turns what the call printed into a fact of the history.
use Rattle.run_program.proofs.Keeping.{Laws, keeps}
use Rattle.run_program.proofs.call.spire.Goals as goal

pub returns-clause-keeps : goal.returns-clause-keeps
returns-clause-keeps g c =
    let laws : Laws = record {
      proved = c.blamed_are_proved.ensures;
      quorums = c.quorums_are_blamed.ensures;
      correct = c.correct_are_not_blamed.ensures;
      one = c.prints_the_changes_of_one.ensures;
      all = c.prints_the_changes_of_all.ensures;
      matches = c.always_matches.ensures;
      printed = c.parts_are_printed.ensures;
      rebuild = c.printed_lines_rebuild.ensures;
      own = c.certified_have_own_digests.ensures;
      enough = c.enough_lines_rebuild.ensures;
      plain = c.escaped_is_plain.ensures;
    } in
    keeps laws _ _ c.run_command.result c.run_command.ensures

pub returns-clause-headline : goal.returns-clause-headline
returns-clause-headline g c = c.run_command.ensures.headline
