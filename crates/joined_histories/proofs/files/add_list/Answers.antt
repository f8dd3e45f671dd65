-- The list that was read is a station's, and each of its entries took a line of its file.
use Rattle.std.proofs.Common.{◌≡◌, ◌<◌, Ok, Some, length, sym, ◌∙◌, ap, subst, arith}
use Rattle.std.proofs.lemmas.Option.{slice_get_within}
use Rattle.std.specs.Prelude.{slice_get}
use Rattle.scenario_file.specs.Reading.{Contents, contents}
use Rattle.joint_lists.specs.Stations.{IsStation}
use Rattle.kept_lines.specs.Reading.{kept_in}
use Rattle.kept_lines.specs.Reading as one
use Rattle.printed_history.proofs.AtHand.{begun_own}
use Rattle.world_rules.specs.Scenarios.{actors_in}
use Rattle.joined_histories.specs.declared.refusal.JoinRefusal.{JoinRefusal}
use Rattle.joined_histories.specs.Files.{Given, Refuses, given_of, with_list, with_more}
use Rattle.joined_histories.proofs.Lists.{one_kept}
use Rattle.joined_histories.proofs.Reading.{list_added, list_refused}
use Rattle.joined_histories.proofs.Short.{list_short}
use Rattle.joined_histories.proofs.files.add_list.Goals as goal

pub begin_one-requires-clause-there : goal.begin_one-requires-clause-there
begin_one-requires-clause-there c =
    let within : c.args.actor < length c.args.kept.now.gave.items =
    slice_get_within c.args.kept.now.gave.items c.args.actor c.in-Some.gave (sym c.in-Some.ensures) in
    let all : length c.args.kept.now.lists.items ≡ actors_in (contents c.args.scenario.now) = c.requires.all in
    let alike : length c.args.kept.now.lists.items ≡ length c.args.kept.now.gave.items = c.requires.alike in
    omega arith

pub reopen-requires-clause-at_hand : goal.reopen-requires-clause-at_hand
reopen-requires-clause-at_hand c = c.in_ok-begun.ensures.is_so_far

pub reopen-requires-clause-none : goal.reopen-requires-clause-none
reopen-requires-clause-none c = c.in_ok-begun.ensures.none

pub reopen-requires-clause-own : goal.reopen-requires-clause-own
reopen-requires-clause-own c =
    begun_own (contents c.args.scenario.now) c.args.actor c.in_ok-begun.begun c.in_ok-begun.ensures

pub returns-in-Ok-clause-adds : goal.returns-in-Ok-clause-adds
returns-in-Ok-clause-adds c =
    list_added (contents c.args.scenario.now) (given_of c.args.kept.now) c.args.file c.args.bytes.now c.args.actor
    (slice_get c.args.kept.now.gave.items c.args.actor)
    c.in-Ok.so_far.history (sym c.in-Some.ensures ∙ ap Some c.if-gave.false)
    (ap (λ (k : Contents). kept_in k c.args.actor c.args.bytes.now) (sym c.in_ok-begun.ensures.same)
    ∙ c.in-Ok.ensures.list)
    ∙ ap (λ (g : Given). Ok g)
    (sym (c.put.ensures ∙ ap (with_list (given_of c.args.kept.now) c.args.actor) c.list_of.ensures))

pub returns-in-Err-clause-adds : goal.returns-in-Err-clause-adds
returns-in-Err-clause-adds c =
    subst (λ (e : JoinRefusal). Refuses e (with_more (contents c.args.scenario.now) (given_of c.args.kept.now)
    c.args.file c.args.actor c.args.bytes.now (slice_get c.args.kept.now.gave.items c.args.actor))) (sym
    c.of_file.ensures)
    (list_refused (contents c.args.scenario.now) (given_of c.args.kept.now) c.args.file c.args.bytes.now c.args.actor
    (slice_get c.args.kept.now.gave.items c.args.actor)
    c.in-Err.why (sym c.in-Some.ensures ∙ ap Some c.if-gave.false)
    (subst (λ (k : Contents). one.Refuses c.in-Err.why (kept_in k c.args.actor c.args.bytes.now))
    c.in_ok-begun.ensures.same c.in-Err.ensures.list))

pub returns-in-Ok-clause-keeps : goal.returns-in-Ok-clause-keeps
returns-in-Ok-clause-keeps c = λ seen are.
    let scenario = contents c.args.scenario.now in
    let within : c.args.actor < length c.args.kept.now.gave.items =
    slice_get_within c.args.kept.now.gave.items c.args.actor c.in-Some.gave (sym c.in-Some.ensures) in
    let there : c.args.actor < length c.args.kept.now.lists.items = omega (arith, within, c.requires.alike) in
    one_kept scenario seen (length c.args.bytes.now) c.args.actor c.list_of.result c.args.kept.now c.put.new.self are
    (ap (λ g. g.lists) c.put.ensures) (ap (λ g. g.gave) c.put.ensures) there
    (subst (IsStation scenario c.args.actor) (sym c.list_of.ensures)
    (subst (λ (k : Contents). IsStation k c.args.actor c.in-Ok.so_far.history) c.in_ok-begun.ensures.same
    c.in-Ok.ensures.station))
    (list_short scenario c.args.actor c.args.bytes.now c.list_of.result
    (ap (λ (k : Contents). kept_in k c.args.actor c.args.bytes.now) (sym c.in_ok-begun.ensures.same)
    ∙ c.in-Ok.ensures.list ∙ ap (λ l. Ok l) (sym c.list_of.ensures)))
