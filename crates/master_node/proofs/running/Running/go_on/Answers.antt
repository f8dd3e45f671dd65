-- The updates executed before are a beginning of those executed now, so the rest is what the points haven't
-- seen yet. Then all is known, executed and told that the answers go by.
use Rattle.std.proofs.Common.{◌≡◌, ◌<◌, ◌≤◌, ◌*◌, List, Option, Fits, w64, length, arith}
use Rattle.std.proofs.lemmas.Result.{on_ok_weaker, IfOk-weaker}
use Rattle.message_types.specs.declared.signed.Signed.{Signed}
use Rattle.message_types.specs.declared.body.Body.{Body}
use Rattle.protocol_rules.specs.Master.{Heard, known_at, taken_at, executed}
use Rattle.master_node.specs.Charge.{Charge}
use Rattle.master_node.specs.Running.{HasLearned, past_then}
use Rattle.master_node.proofs.Plants.{tail_applied, tail_passes}
use Rattle.master_node.proofs.Steps.{caught_list, done_within, clients_there, few_ticks, gone_on}
use Rattle.master_node.proofs.running.Running.go_on.Goals.{After-list-executed}
use Rattle.master_node.proofs.running.Running.go_on.Goals as goal

-- the updates listed are all that is executed by what is known now
all_executed : (c : After-list-executed) (charge : Charge) (before : List Heard) (took : Option (Signed Body)) →
    HasLearned charge c.args.self.now before took c.args.at_tick c.args.done →
    c.list-executed.result.now ≡ executed charge.group (known_at before took)
all_executed c charge before took is = caught_list charge c.args.self.now c.catch_up.new.self before took
    c.args.at_tick c.args.done c.list-executed.result.now is c.in_ok-catch_up.ensures.caught c.list-executed.ensures

pub slice_bounds-apply_all-count : goal.slice_bounds-apply_all-count
slice_bounds-apply_all-count c =
    let l = c.requires.learned in
    done_within l.charge c.args.self.now l.before l.took c.args.at_tick c.args.done c.list-executed.result.now l.is
    (all_executed (goal.at.slice_bounds-apply_all-count c).After-list-executed l.charge l.before l.took l.is)

pub slice_bounds-apply_all-start : goal.slice_bounds-apply_all-start
slice_bounds-apply_all-start c =
    let l = c.requires.learned in
    done_within l.charge c.args.self.now l.before l.took c.args.at_tick c.args.done c.list-executed.result.now l.is
    (all_executed (goal.at.slice_bounds-apply_all-start c).After-list-executed l.charge l.before l.took l.is)

pub offset_bounds-executed-done : goal.offset_bounds-executed-done
offset_bounds-executed-done c =
    let l = c.requires.learned in
    let some : c.args.done ≤ length c.list-executed.result.now =
    done_within l.charge c.args.self.now l.before l.took c.args.at_tick c.args.done c.list-executed.result.now l.is
    (all_executed (goal.at.offset_bounds-executed-done c).After-list-executed l.charge l.before l.took l.is) in
    let all : length c.list-executed.result.now * 32 < 9223372036854775808 = c.list-executed.type_inv.1 in
    let small : Fits w64 (c.args.done * 32) = omega arith in
    small

pub apply_all-requires : goal.apply_all-requires
apply_all-requires c =
    let l = c.requires.learned in
    tail_passes _ c.list-executed.result.now c.args.done
    (clients_there l.charge c.args.self.now l.before l.took c.args.at_tick c.args.done
    c.list-executed.result.now l.is
    (all_executed (goal.at.apply_all-requires c).After-list-executed l.charge l.before l.took l.is))

pub tell-requires : goal.tell-requires
tell-requires c =
    let l = c.requires.learned in
    record {
      known = record {
        group = l.charge.group;
        own = l.charge.me;
        taken = taken_at l.before l.took;
        known = known_at l.before l.took;
        past = past_then l.charge.group l.before l.is.keeps.answered;
        said = l.is.keeps.counted;
        knows = c.in_ok-catch_up.ensures.knows l.charge.group l.charge.me (taken_at l.before l.took)
            (known_at l.before l.took) (past_then l.charge.group l.before l.is.keeps.answered) l.is.keeps.counted
            l.is.keeps.is_replica.knows;
      };
      ticks = few_ticks l.charge c.args.self.now c.catch_up.new.self l.before l.took c.args.at_tick c.args.done
          l.is c.in_ok-catch_up.ensures.knows;
    }

pub say-requires : goal.say-requires
say-requires c =
    let l = c.requires.learned in
    record {
      ready = record {
        charge = l.charge;
        before = l.before;
        took = l.took;
        is = gone_on l.charge c.args.self.now c.catch_up.new.self c.tell.new.self c.apply_all.new.points l.before
            l.took c.args.at_tick c.args.done c.list-executed.result.now l.is
            c.in_ok-catch_up.ensures.knows c.in_ok-catch_up.ensures.caught
            (all_executed (goal.at.say-requires c).After-list-executed l.charge l.before l.took l.is)
            (tail_applied c.args.self.now.points c.apply_all.new.points c.list-executed.result.now c.args.done
            c.in_ok-apply_all.ensures) c.in_ok-tell.ensures.told c.in_ok-tell.ensures.run;
      };
    }

pub returns-clause-said : goal.returns-clause-said
returns-clause-said c = IfOk-weaker c.say.result _ _ (λ bodies said charge before took asked is. said charge before took asked
    (gone_on charge c.args.self.now c.catch_up.new.self c.tell.new.self c.apply_all.new.points before took
    c.args.at_tick c.args.done c.list-executed.result.now is
    c.in_ok-catch_up.ensures.knows c.in_ok-catch_up.ensures.caught
    (all_executed (goal.at.returns-clause-said c).After-list-executed charge before took is)
    (tail_applied c.args.self.now.points c.apply_all.new.points c.list-executed.result.now c.args.done
    c.in_ok-apply_all.ensures) c.in_ok-tell.ensures.told c.in_ok-tell.ensures.run)) c.say.ensures.said

pub returns-clause-spoken : goal.returns-clause-spoken
returns-clause-spoken c = on_ok_weaker c.say.result (λ spoken charge before took asked is. spoken charge before took asked
    (gone_on charge c.args.self.now c.catch_up.new.self c.tell.new.self c.apply_all.new.points before took
    c.args.at_tick c.args.done c.list-executed.result.now is
    c.in_ok-catch_up.ensures.knows c.in_ok-catch_up.ensures.caught
    (all_executed (goal.at.returns-clause-spoken c).After-list-executed charge before took is)
    (tail_applied c.args.self.now.points c.apply_all.new.points c.list-executed.result.now c.args.done
    c.in_ok-apply_all.ensures) c.in_ok-tell.ensures.told c.in_ok-tell.ensures.run)) c.say.ensures.spoken
