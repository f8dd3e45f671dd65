-- The actor's next entry may come, so its event may be entered, and what was joined is one entry more.
use Rattle.std.proofs.Common.{◌<◌, ◌≤◌, ◌^◌, length, get_or, arith}
use Rattle.world_entries.specs.Entries.{entry_of, event_of}
use Rattle.printed_history.specs.Reading.{contents_in}
use Rattle.printed_history.proofs.AtHand.{all_own}
use Rattle.joint_lists.specs.Joint.{count, kept_by}
use Rattle.joined_histories.proofs.Left.{HasNext, has_next}
use Rattle.joined_histories.proofs.Next.{fits, kept_few, next_comes, on_ok, one_more, runs, takes}
use Rattle.joined_histories.proofs.joining.add_next.Goals as goal

pub enter-requires-clause-own : goal.enter-requires-clause-own
enter-requires-clause-own c = all_own c.args.actor c.args.so_far.now c.requires.amid.all

pub enter-requires-clause-running : goal.enter-requires-clause-running
enter-requires-clause-running c =
    runs (contents_in c.args.so_far.now) c.args.kept.now.lists.items c.args.next.now.items c.args.so_far.now c.args.actor
    _ _ (entry_of c.next_entry.result.now) (event_of c.in_ok-event.event) c.requires.amid
    (next_comes (contents_in c.args.so_far.now) c.args.kept.now.lists.items c.args.next.now.items c.args.so_far.now c.args.actor
    c.origin-from.result.0 c.origin-from.result.1 c.len-stamp.result (entry_of c.next_entry.result.now)
    (event_of c.in_ok-event.event) c.deref.result.now c.requires.left c.deref.ensures.value c.next_entry.ensures c.in_ok-event.ensures c.len-stamp.ensures
    c.origin-from.ensures)

pub enter-requires-clause-fits : goal.enter-requires-clause-fits
enter-requires-clause-fits c =
    fits (contents_in c.args.so_far.now) c.args.kept.now.lists.items c.args.next.now.items c.args.so_far.now c.args.actor
    _ _ (entry_of c.next_entry.result.now) (event_of c.in_ok-event.event) c.requires.amid
    (next_comes (contents_in c.args.so_far.now) c.args.kept.now.lists.items c.args.next.now.items c.args.so_far.now c.args.actor
    c.origin-from.result.0 c.origin-from.result.1 c.len-stamp.result (entry_of c.next_entry.result.now)
    (event_of c.in_ok-event.event) c.deref.result.now c.requires.left c.deref.ensures.value c.next_entry.ensures c.in_ok-event.ensures c.len-stamp.ensures
    c.origin-from.ensures)

pub enter-requires-clause-taken : goal.enter-requires-clause-taken
enter-requires-clause-taken c =
    takes (contents_in c.args.so_far.now) c.args.kept.now.lists.items c.args.next.now.items c.args.so_far.now c.args.actor
    _ _ (entry_of c.next_entry.result.now) (event_of c.in_ok-event.event) c.requires.amid
    (next_comes (contents_in c.args.so_far.now) c.args.kept.now.lists.items c.args.next.now.items c.args.so_far.now c.args.actor
    c.origin-from.result.0 c.origin-from.result.1 c.len-stamp.result (entry_of c.next_entry.result.now)
    (event_of c.in_ok-event.event) c.deref.result.now c.requires.left c.deref.ensures.value c.next_entry.ensures c.in_ok-event.ensures c.len-stamp.ensures
    c.origin-from.ensures)

pub count_one-requires-clause-there : goal.count_one-requires-clause-there
count_one-requires-clause-there c =
    (has_next c.args.kept.now.lists.items c.args.next.now.items c.args.actor c.requires.left).within

pub count_one-requires-clause-short : goal.count_one-requires-clause-short
count_one-requires-clause-short c =
    let has : HasNext c.args.kept.now.lists.items c.args.next.now.items c.args.actor =
    has_next c.args.kept.now.lists.items c.args.next.now.items c.args.actor c.requires.left in
    let some : get_or c.args.next.now.items c.args.actor 0 < length (kept_by c.args.kept.now.lists.items c.args.actor) =
    has.some in
    let few : length (kept_by c.args.kept.now.lists.items c.args.actor) ≤ count c.args.kept.now.lists.items =
    kept_few c.args.kept.now.lists.items c.args.actor in
    let short : count c.args.kept.now.lists.items < 2 ^ 32 = c.requires.amid.short in
    omega arith

pub returns-in-Some-clause-amid : goal.returns-in-Some-clause-amid
returns-in-Some-clause-amid c =
    on_ok c.note_said.result
    (one_more (contents_in c.args.so_far.now) c.args.kept.now.lists.items c.args.next.now.items c.args.so_far.now c.args.actor
    _ _ (entry_of c.next_entry.result.now) (event_of c.in_ok-event.event) c.requires.amid
    (next_comes (contents_in c.args.so_far.now) c.args.kept.now.lists.items c.args.next.now.items c.args.so_far.now c.args.actor
    c.origin-from.result.0 c.origin-from.result.1 c.len-stamp.result (entry_of c.next_entry.result.now)
    (event_of c.in_ok-event.event) c.deref.result.now c.requires.left c.deref.ensures.value c.next_entry.ensures c.in_ok-event.ensures c.len-stamp.ensures
    c.origin-from.ensures) c.requires.waits c.count_one.new.next.items c.enter.new.self c.in_ok-enter.ensures c.count_one.ensures)

pub returns-in-None-clause-amid : goal.returns-in-None-clause-amid
returns-in-None-clause-amid c =
    one_more (contents_in c.args.so_far.now) c.args.kept.now.lists.items c.args.next.now.items c.args.so_far.now c.args.actor
    _ _ (entry_of c.next_entry.result.now) (event_of c.in_ok-event.event) c.requires.amid
    (next_comes (contents_in c.args.so_far.now) c.args.kept.now.lists.items c.args.next.now.items c.args.so_far.now c.args.actor
    c.origin-from.result.0 c.origin-from.result.1 c.len-stamp.result (entry_of c.next_entry.result.now)
    (event_of c.in_ok-event.event) c.deref.result.now c.requires.left c.deref.ensures.value c.next_entry.ensures c.in_ok-event.ensures c.len-stamp.ensures
    c.origin-from.ensures) c.requires.waits c.count_one.new.next.items c.enter.new.self c.in_ok-enter.ensures c.count_one.ensures
