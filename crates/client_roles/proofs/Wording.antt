-- What clients say has a spelling and is in its place: the numbers of readings are those of points, and their values
-- have 64 bits.
use Rattle.std.proofs.Common.{◌≡◌, ◌≤◌, ◌<◌, ◌+◌, ◌^◌, ℕ, suc, Bool, true, false, ◌&&◌, not, nat_eq, nat_lt, List, []}
use Rattle.std.proofs.Common.{◌∷◌, length, map, refl, sym, ap, ◌∙◌, subst, arith, eq-eqb}
use Rattle.std.specs.Prelude.{Option, Some, None, slice_get, if◌then◌else◌, ℤ}
use Rattle.std.specs.Option.{option_and_then}
use Rattle.std.specs.List.{list_all, flat_map, range_with_len}
use Rattle.std.proofs.lemmas.Bool.{and_from, and_parts, lt-ltb, ltb-true, ltb-false}
use Rattle.std.proofs.lemmas.Option.{slice_get_within}
use Rattle.plain_lists.proofs.Members.{some_same, none_some, in_flat_map_from}
use Rattle.message_types.specs.declared.updates.Op.{Op}
use Rattle.message_types.specs.declared.updates.Op.TheVariants as op
use Rattle.message_types.specs.declared.body.Body.{Body}
use Rattle.message_types.specs.declared.body.Body.TheVariants as body
use Rattle.message_types.specs.Spelling.{body_fits}
use Rattle.point_table.specs.declared.point.Point.{Point}
use Rattle.point_table.specs.Point.{scaled}
use Rattle.protocol_rules.specs.Group.{Group}
use Rattle.protocol_rules.specs.Places.{in_place, op_in_place}
use Rattle.field_device.specs.Places.{Places}
use Rattle.field_device.specs.Table.{reply_pdu}
use Rattle.field_proxy.specs.Exchanges.{read_pdu, raw_in}
use Rattle.field_proxy.specs.Readings.{is_i64, in_64_bits, given, was_said, reading_of, reading_at, readings, last_in}
use Rattle.field_proxy.specs.Readings.{numbered}
use Rattle.field_proxy.specs.Front.{Front}
use Rattle.operator_screen.specs.Board.{Desk}
use Rattle.words_in_place.proofs.Limits.{all_from, all_each}
use Rattle.history_rules.specs.Events.{Event, Took, Tick, Command, Field, Poll, Cry, Skip, Restart, Entry}
use Rattle.history_rules.specs.Setup.{room}
use Rattle.history_rules.specs.Legal.{says_in}
use Rattle.scenario_file.specs.Reading.{Contents}
use Rattle.world_rules.specs.Clients.{front_of, desk_of, proxy_says, screen_says}
use Rattle.world_rules.specs.Scenarios.{masters_in, proxies_in, group_in, setup_of}
use Rattle.world_rules.proofs.Fields.{group_is}
use Rattle.client_roles.specs.Roles.{carries_well}
use Rattle.client_roles.specs.Laws.{client_actor, MaySay, ClientWordsFit, ClientWordsAreInPlace}
use Rattle.client_roles.proofs.Saying.{proxies_say_by_room, screens_say_by_room}
use Rattle.client_roles.proofs.Counting.{readings_few, front_within, commands_stay_few}
use Rattle.plain_lists.proofs.Lists.{all_take}
use Rattle.world_rules.proofs.Clients.{proxy_fits, screen_fits}

-- the word in the client's name is in its place
abbrev is_placed : Group → ℕ → Body → Bool
is_placed g client b = in_place g record { signer = g.n + client; body = b; sig = [] }

-- a client's number is one of the group's, and has 32 bits
record IsClient (g : Group) (client : ℕ) : Type 0 where
  pub there : client < g.clients
  pub small : client < 2 ^ 32

update_placed : (g : Group) (client t : ℕ) (o : Op) → IsClient g client → t < 2 ^ 64 → op_in_place o ≡ true
    → is_placed g client (body.Update record { client = client; t = t; op = o }) ≡ true
update_placed g client t o is small placed =
    let there = and_from _ _ (lt-ltb client g.clients is.there) (lt-ltb client (2 ^ 32) is.small) in
    let own = and_from _ _ there (eq-eqb (g.n + client) (g.n + client) refl) in
    and_from _ _ (and_from _ _ own (lt-ltb t (2 ^ 64) small)) placed

numbered_placed : (g : Group) (client t : ℕ) (ops : List Op) → IsClient g client → t + length ops ≤ 2 ^ 64 →
    list_all op_in_place ops ≡ true
    → list_all (is_placed g client) (map body.Update (numbered client t ops)) ≡ true
unfolding numbered
numbered_placed g client t [] is few placed = refl
numbered_placed g client t (o ∷ ops) is few placed =
    let both = and_parts (op_in_place o) (list_all op_in_place ops) placed in
    and_from _ _ (update_placed g client t o is (omega arith) both.0)
    (numbered_placed g client (suc t) ops is (omega arith) both.1)

value_fits : (z v : ℤ) (b : Bool) → is_i64 z ≡ b → (if b then Some z else None) ≡ Some v → is_i64 v ≡ true
value_fits z v true is same = ap is_i64 (sym (some_same same)) ∙ is
value_fits z v false is same = absurd (none_some same)

given_fits : (d : Places) (p : Point) (v : ℤ) → given d p ≡ Some v → is_i64 v ≡ true
unfolding given
given_fits d p v is = by (raw_in (reply_pdu d (read_pdu p.area p.place))) is where
  by : (raw : Option ℕ) → option_and_then (λ (x : ℕ). in_64_bits (scaled p x)) raw ≡ Some v → is_i64 v ≡ true
  by None same = absurd (none_some same)
  by (Some x) same = value_fits (scaled p x) v (is_i64 (scaled p x)) refl same

reading_placed : (client number : ℕ) (p : Point) (value last : Option ℤ) → number < 2 ^ 32 →
    ((v : ℤ) → value ≡ Some v → is_i64 v ≡ true)
    → list_all op_in_place (reading_of client number p value last) ≡ true
reading_placed client number p None last small fits = refl
reading_placed client number p (Some v) last small fits = by (nat_eq p.proxy client && not (was_said last v)) where
  by : (b : Bool) → list_all op_in_place (if b then op.Reading number v ∷ [] else []) ≡ true
  by true = and_from _ _ (and_from _ _ (lt-ltb number (2 ^ 32) small) (fits v refl)) refl
  by false = refl

readings_placed : (d : Places) (client : ℕ) (points : List Point) (last : ℕ → Option ℤ) → length points ≤ 1024
    → list_all op_in_place (readings d client points last) ≡ true
unfolding readings
readings_placed d client points last few =
    all_from op_in_place (flat_map (reading_at d client points last) (range_with_len 0 (length points))) (λ o h.
    let at = in_flat_map_from (reading_at d client points last) (range_with_len 0 (length points)) h in
    all_each op_in_place (reading_at d client points last at.0) (at_number at.0 (slice_get points at.0) refl) o at.2)
  where
    at_number : (number : ℕ) (found : Option Point) → slice_get points number ≡ found
        → list_all {X = Op} op_in_place
        (elim found [ None ↦ [] | Some p ↦ reading_of client number p (given d p) (last number) ]) ≡ true
    at_number number None is = refl
    at_number number (Some p) is =
        let low = slice_get_within points number p is in
        reading_placed client number p (given d p) (last number) (omega arith) (given_fits d p)

proxy_placed : (g : Group) (s : Front) (event : Event) → IsClient g s.client → length s.points ≤ 1024 →
    s.updates + 1025 ≤ 2 ^ 64
    → list_all (is_placed g s.client) (proxy_says s event) ≡ true
proxy_placed g s Poll is points few =
    let due = readings s.places s.client s.points (last_in s.lasts) in
    let count = readings_few s.places s.client s.points (last_in s.lasts) in
    numbered_placed g s.client (s.updates + 1) due is (omega arith)
    (readings_placed s.places s.client s.points (last_in s.lasts) points)
proxy_placed g s (Took stamp place frame) is points few = refl
proxy_placed g s Tick is points few = refl
proxy_placed g s (Command o) is points few = refl
proxy_placed g s (Field area place value) is points few = refl
proxy_placed g s (Cry bytes) is points few = refl
proxy_placed g s Skip is points few = refl
proxy_placed g s Restart is points few = refl

screen_placed : (g : Group) (s : Desk) (event : Event) → IsClient g s.client → s.commands + 1 < 2 ^ 64 →
    carries_well event ≡ true
    → list_all (is_placed g s.client) (screen_says s event) ≡ true
screen_placed g s (Command o) is few carried =
    and_from _ _ (update_placed g s.client (s.commands + 1) o is few carried) refl
screen_placed g s Poll is few carried = refl
screen_placed g s (Took stamp place frame) is few carried = refl
screen_placed g s Tick is few carried = refl
screen_placed g s (Field area place value) is few carried = refl
screen_placed g s (Cry bytes) is few carried = refl
screen_placed g s Skip is few carried = refl
screen_placed g s Restart is few carried = refl

desk_client : (n f client : ℕ) (own : List Entry) → (desk_of n f client own).client ≡ client
unfolding desk_of
desk_client n f client own = refl

module _ (c : Contents) (client : ℕ) (own : List Entry) (event : Event) (may : MaySay c client own event) where
  is_client : IsClient (group_in c) client
  is_client =
      let proxies = may.scenario.plant.devices in
      let screens = may.scenario.at_most_four_screens in
      let there = may.there in
      record { there = there; small = omega arith }

  front : Front
  front = front_of (masters_in c) c.settings.f c.plant client own

  desk : Desk
  desk = desk_of (masters_in c) c.settings.f client own

  front_placed : list_all (is_placed (group_in c) client) (proxy_says front event) ≡ true
  unfolding front
  front_placed =
      let within = front_within (masters_in c) c.settings.f client c.plant own may.scenario.plant.points in
      let few = within.updates in
      let short = may.short in
      let points : length front.points ≤ 1024 = subst (λ (ps : List Point). length ps ≤ 1024) (sym within.points)
      may.scenario.plant.points in
      ap (λ (k : ℕ). list_all (is_placed (group_in c) k) (proxy_says front event)) (sym within.client)
      ∙ proxy_placed (group_in c) front event (subst (IsClient (group_in c)) (sym within.client) is_client)
      points (omega arith)

  desk_placed : proxies_in c ≤ client → list_all (is_placed (group_in c) client) (screen_says desk event) ≡ true
  unfolding desk
  desk_placed screen =
      let few = commands_stay_few c (masters_in c) c.settings.f client own screen may.history in
      let short = may.short in
      let own_number = desk_client (masters_in c) c.settings.f client own in
      ap (λ (k : ℕ). list_all (is_placed (group_in c) k) (screen_says desk event)) (sym own_number)
      ∙ screen_placed (group_in c) desk event (subst (IsClient (group_in c)) (sym own_number) is_client)
      (omega arith) may.carried

  -- what is so of all that it is to say is so of what it says
  all_said : (good : Body → Bool) → list_all good (proxy_says front event) ≡ true →
      (proxies_in c ≤ client → list_all good (screen_says desk event) ≡ true)
      → list_all good (says_in (setup_of c) (client_actor c client) own event) ≡ true
  unfolding front desk
  all_said good proxy screen = by (nat_lt client (proxies_in c)) refl where
    by : (b : Bool) → nat_lt client (proxies_in c) ≡ b →
        list_all good (says_in (setup_of c) (client_actor c client) own event) ≡ true
    by true is =
        ap (list_all good) (proxies_say_by_room c client own event (ltb-true client (proxies_in c) is))
        ∙ all_take good (room (setup_of c) own)
        (proxy_says (front_of (masters_in c) c.settings.f c.plant client own) event) proxy
    by false is =
        let behind = ltb-false client (proxies_in c) is in
        ap (list_all good) (screens_say_by_room c client own event behind)
        ∙ all_take good (room (setup_of c) own) (screen_says (desk_of (masters_in c) c.settings.f client own) event)
        (screen behind)

  words_fit : list_all body_fits (says_in (setup_of c) (client_actor c client) own event) ≡ true
  words_fit = all_said body_fits (proxy_fits front event) (λ screen. screen_fits desk event)

  words_placed : list_all (is_placed (group_in c) client)
      (says_in (setup_of c) (client_actor c client) own event) ≡ true
  words_placed = all_said (is_placed (group_in c) client) front_placed desk_placed

pub client_words_fit : ClientWordsFit
client_words_fit c client own event may = words_fit c client own event may

pub client_words_are_in_place : ClientWordsAreInPlace
client_words_are_in_place c client own event may =
    ap (λ (g : Group). list_all (λ (b : Body). in_place g record {
      signer = client_actor c client;
      body = b;
      sig =
          [];
    }) (says_in (setup_of c) (client_actor c client) own event)) (group_is c)
    ∙ words_placed c client own event may
