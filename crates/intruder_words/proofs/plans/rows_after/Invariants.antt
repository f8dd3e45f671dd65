-- The rows so far, searched by any digest, answer for each number above the base up to the one reached. That
-- number rises towards the last that has a certificate, which ends the loop.
use Rattle.std.proofs.Common.{◌+◌, ◌-◌, ◌≤◌, [], ◌∷◌, IsTrue, map}
use Rattle.std.specs.List.{list_all}
use Rattle.message_types.specs.Spelling.{rows_fit}
use Rattle.protocol_rules.specs.Words.{numbers_from}
use Rattle.protocol_rules.specs.Group.{group_of}
use Rattle.protocol_rules.specs.Plans.{last_of}
use Rattle.intruder_words.specs.Telling.{HasSameRows, report_on, rows_for}
use Rattle.intruder_words.proofs.Shortening.{IsReached}
use Rattle.intruder_words.proofs.plans.rows_after.Given as goal

abbrev pub invariant-loop-next : goal.invariant-loop-next
invariant-loop-next l = record {
  same : HasSameRows l.rows.items
      (map (rows_for (group_of l.sizes 0) l.all) (numbers_from (l.base + 1) (l.at - l.base)));
  fit : IsTrue (list_all rows_fit l.rows.items);
  low : l.base ≤ l.at;
  reached : IsReached l.all l.base l.at;
}

abbrev pub decreases-loop-next : goal.decreases-loop-next
decreases-loop-next l = last_of (report_on 0 l.all ∷ []) - l.at
