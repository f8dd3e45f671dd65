-- The first body counts and then the others. Where memory runs out further on, the first is taken back if it
-- was new, so the set is as before.
use Rattle.std.proofs.Common.{◌||◌, ◌-◌, length, List, take, drop, ap, sym, ◌∙◌}
use Rattle.std.specs.List.{list_any}
use Rattle.message_types.specs.declared.body.Body.{Body}
use Rattle.suspect_leader.specs.Sayings.{says, is_among}
use Rattle.std.specs.BTreeMap.{is_at}
use Rattle.std.specs.Set.{remove_key}
use Rattle.suspect_leader.proofs.Order.{order}
use Rattle.suspect_leader.proofs.Sets.{opened, counted_one, taken_back}
use Rattle.suspect_leader.proofs.answers.+count.Goals as goal

pub returns-in-Ok-clause-ok : goal.returns-in-Ok-clause-ok
returns-in-Ok-clause-ok t c = λ s.
    counted_one c.args.said.now c.insert.new.self c.count-2.new.said.keys c.in-Some.saying s c.first-item.result
    (take (length c.args.bodies.now - 1) (drop 1 c.args.bodies.now)) (sym c.saying_of.ensures ∙ c.in-Some.is)
    c.in_ok-is_new.ensures.updates (c.in-Ok.ensures.ok s)
    ∙ ap (λ (l : List Body). list_any (says s) l || is_among c.args.said.now.keys s)
    (sym (opened c.args.bodies.now c.first-item.result c.in-len1-up.len_at_least c.first-item.is))

pub returns-then-is_new-clause-err : goal.returns-then-is_new-clause-err
returns-then-is_new-clause-err t c =
    taken_back c.args.said.now c.insert.new.self.keys c.remove.new.self.keys c.in-Some.saying c.in_ok-is_new.is_new
    c.in_ok-is_new.ensures.keys c.in_ok-is_new.ensures.added c.if-is_new.true
    (c.remove.ensures.keys ∙ ap (remove_key (is_at (order c.in-Some.saying))) c.in-Err.ensures.err)
