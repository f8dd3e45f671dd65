-- The headline, from the laws of agreement.
use Rattle.std.proofs.Common.{◌≡◌, ◌⊎◌, ℕ, ◌+◌, ◌<◌, ◌≤◌, true, List, [], map, append-nil, sym, subst}
use Rattle.std.specs.List.{flat_map, enumerate_from}
use Rattle.plain_lists.specs.Lists.{Begins}
use Rattle.message_types.specs.declared.body.Body.TheVariants as body
use Rattle.message_types.specs.declared.vouchers.Order.TheVariants as order
use Rattle.protocol_rules.specs.Group.{Group}
use Rattle.master_points.specs.Orders.{orders}
use Rattle.scenario_file.specs.Reading.{Contents}
use Rattle.agreement.specs.Laws.{HasSizes, IsSound, FirstTaking}
use Rattle.agreement.proofs.ExecutionsAgree.{executions_agree, none_executed_twice}
use Rattle.agreement.proofs.UpdatesAreTaken.{executed_were_said}
use Rattle.history_laws.proofs.Sound.{sound_by_counts}
use Rattle.world_rules.specs.Plant.{numbered_order}
use Rattle.world_rules.proofs.Following.{writes_follow, board_follows}
use Rattle.history_rules.specs.Events.{Entry}
use Rattle.history_rules.specs.Setup.{Setup, is_correct_master, own}
use Rattle.history_rules.specs.Legal.{executions}
use Rattle.history_rules.specs.Audit.{HasSaid}
use Rattle.world_rules.specs.Clients.{happenings_of, front_of, device_of, desk_of, board_of}
use Rattle.world_rules.specs.Scenarios.{setup_of}
use Rattle.world_rules.specs.Headline.{HeadlineHolds}
use Rattle.world_rules.proofs.Fields.{group_is, sizes_of_group, orders_go_by_plant}
use Rattle.world_rules.proofs.Votes.{votes_taken_so}
use Rattle.world_rules.proofs.Agreeing.{agrees_where_prefixes}

begins_self : {X : Type 0} (xs : List X) → Begins xs xs
begins_self xs = record { rest = []; same = sym (append-nil xs) }

-- a proxy's writes by a group's sizes
abbrev WrittenBy : Contents → List Entry → ℕ → Group → Type 0
WrittenBy c history proxy g =
    (i : ℕ) × (is_correct_master (setup_of c) i ≡ true)
    × Begins (map numbered_order (front_of g.n g.f c.plant proxy (own history (g.n + proxy))).writes)
    (enumerate_from 1 (orders c.plant c.settings.screens (executions (setup_of c) history i) proxy))

written_by : (c : Contents) (history : List Entry) (proxy : ℕ) → IsSound (setup_of c) history →
    WrittenBy c history proxy (setup_of c).group
unfolding front_of
written_by c history proxy sound =
    let own_list = own history ((setup_of c).group.n + proxy) in
    writes_follow (setup_of c) c.plant c.settings.screens history proxy (device_of c.plant proxy)
    (flat_map happenings_of own_list) sound
    (orders_go_by_plant c) (votes_taken_so own_list)

-- what a screen shows, likewise
abbrev ShownBy : Contents → List Entry → ℕ → Group → Type 0
ShownBy c history screen g =
    (i : ℕ) × (is_correct_master (setup_of c) i ≡ true)
    × Begins (map (λ n. order.Notice n) (board_of (desk_of g.n g.f screen (own history (g.n + screen)))))
    (orders c.plant c.settings.screens (executions (setup_of c) history i) screen)

shown_by : (c : Contents) (history : List Entry) (screen : ℕ) → IsSound (setup_of c) history →
    ShownBy c history screen (setup_of c).group
unfolding desk_of
shown_by c history screen sound =
    board_follows (setup_of c) c.plant c.settings.screens history screen sound (orders_go_by_plant c)

pub headline_of_legal : HeadlineHolds
headline_of_legal c history is legal premises = record {
  prefixes = prefixes;
  once = λ i first between last u v. none_executed_twice w history i first between last u v;
  said = λ i ci u h. subst (λ (g : Group). (came : FirstTaking w history i u) × HasSaid came.before (g.n + u.client)
      (body.Update u)) (group_is c)
      (executed_were_said w history i legal sizes sound.unforged ci u h);
  written = λ proxy low. subst (WrittenBy c history proxy) (group_is c) (written_by c history proxy sound);
  shown = λ screen above below. subst (ShownBy c history screen) (group_is c) (shown_by c history screen sound);
  yes = agrees_where_prefixes w history prefixes;
}
  where
    w : Setup
    w = setup_of c

    sizes : HasSizes w.group
    sizes = sizes_of_group c is

    sound : IsSound w history
    sound = sound_by_counts w history legal sizes premises.few premises.unforged premises.unlike

    prefixes : (i j : ℕ) → is_correct_master w i ≡ true → is_correct_master w j ≡ true
        → Begins (executions w history i) (executions w history j)
        ⊎ Begins (executions w history j) (executions w history i)
    prefixes i j ci cj = executions_agree w history history history i j sound (begins_self history)
        (begins_self history) ci cj
