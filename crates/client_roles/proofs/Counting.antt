-- How many updates a proxy counts, and how many commands a screen.
use Rattle.std.proofs.Common.{◌≡◌, ◌≤◌, ◌+◌, ◌*◌, ℕ, suc, Bool, true, false, ◌&&◌, not, nat_eq, List, [], ◌∷◌, ◌++◌}
use Rattle.std.proofs.Common.{length, map, append_assoc, refl, sym, ◌∙◌, subst, arith}
use Rattle.std.specs.Prelude.{Option, Some, None, slice_get, if◌then◌else◌, ℤ}
use Rattle.std.specs.List.{flat_map, range_with_len}
use Rattle.std.proofs.lemmas.List.{length-append}
use Rattle.std.proofs.lemmas.List.FromFn.{length-range_with_len}
use Rattle.message_types.specs.declared.updates.Op.{Op}
use Rattle.message_types.specs.declared.updates.Op.TheVariants as op
use Rattle.message_types.specs.declared.body.Body.{Body}
use Rattle.point_table.specs.declared.point.Point.{Point}
use Rattle.master_points.specs.declared.plant.Plant.{Plant}
use Rattle.vouched_orders.specs.declared.vote.Vote.{Vote}
use Rattle.vouched_orders.specs.Vouching.{votes_in}
use Rattle.field_device.specs.Places.{Places}
use Rattle.field_proxy.specs.Readings.{given, was_said, reading_of, reading_at, readings, last_in}
use Rattle.field_proxy.specs.Front.{Front, fresh, polled, after_vote}
use Rattle.field_proxy.specs.Happenings.{Vouched, front_after}
use Rattle.history_rules.specs.Events.{Event, Took, Tick, Command, Field, Poll, Cry, Skip, Restart, Entry}
use Rattle.history_rules.specs.Audit.{parts_taken}
use Rattle.history_laws.specs.BenchLists.{IsBenchList}
use Rattle.scenario_file.specs.Reading.{Contents}
use Rattle.world_rules.specs.Clients.{happenings_of, device_of, front_of, desk_of}
use Rattle.world_rules.specs.Scenarios.{proxies_in, setup_of}
use Rattle.client_roles.specs.Roles.{entry_with, front_at}
use Rattle.client_roles.specs.Laws.{client_actor, UpdatesStayFew, CommandsStayFew}
use Rattle.client_roles.proofs.Going.{front_after-append}
use Rattle.client_roles.proofs.Saying.{screen_says_few}
use Rattle.plain_lists.proofs.Lists.{take_few}

flat_short : {X Y : Type 0} (f : X → List Y) → ((x : X) → length (f x) ≤ 1) → (xs : List X) →
    length (flat_map f xs) ≤ length xs
flat_short f few [] = omega arith
flat_short f few (x ∷ xs) =
    let one = few x in
    let rest = flat_short f few xs in
    let all : length (f x ++ flat_map f xs) ≡ length (f x) + length (flat_map f xs) =
    length-append (f x) (flat_map f xs) in
    omega arith

one_or_none : (number : ℕ) (v : ℤ) (b : Bool) → length (if b then op.Reading number v ∷ [] else []) ≤ 1
one_or_none number v true = omega arith
one_or_none number v false = omega arith

reading_few : (client number : ℕ) (p : Point) (value last : Option ℤ) →
    length (reading_of client number p value last) ≤ 1
reading_few client number p None last = omega arith
reading_few client number p (Some v) last = one_or_none number v (nat_eq p.proxy client && not (was_said last v))

reading_at_few : (d : Places) (client : ℕ) (points : List Point) (last : ℕ → Option ℤ) (number : ℕ) →
    length (reading_at d client points last number) ≤ 1
reading_at_few d client points last number = by (slice_get points number) where
  by : (o : Option Point) →
      length {A = Op} (elim o [ None ↦ [] | Some p ↦ reading_of client number p (given d p) (last number) ]) ≤ 1
  by None = omega arith
  by (Some p) = reading_few client number p (given d p) (last number)

pub readings_few : (d : Places) (client : ℕ) (points : List Point) (last : ℕ → Option ℤ) →
    length (readings d client points last) ≤ length points
unfolding readings
readings_few d client points last =
    let all = flat_short (reading_at d client points last) (reading_at_few d client points last)
    (range_with_len 0 (length points)) in
    let numbers : length (range_with_len 0 (length points)) ≡ length points = length-range_with_len 0 (length points) in
    omega arith

polled_few : (s : Front) (room : ℕ) → length (polled s room) ≤ length s.points
unfolding polled
polled_few s room =
    let due = readings s.places s.client s.points (last_in s.lasts) in
    let cut = take_few room due in
    let few = readings_few s.places s.client s.points (last_in s.lasts) in
    omega arith

-- the same proxy, with at most so many updates more
pub record IsWithin (s t : Front) (more : ℕ) : Type 0 where
  pub client : t.client ≡ s.client
  pub points : t.points ≡ s.points
  pub updates : t.updates ≤ s.updates + more

stays : (s : Front) (more : ℕ) → IsWithin s s more
stays s more = record { client = refl; points = refl; updates = omega arith }

vouched : (s : Front) (votes : List Vote) (more : ℕ) → IsWithin s (front_after s (map Vouched votes)) more
vouched s [] more = stays s more
vouched s (vote ∷ votes) more =
    let r = vouched (after_vote s vote) votes more in
    record { client = r.client; points = r.points; updates = r.updates }

one_within : (s : Front) (event : Event) (said : List Body) → length s.points ≤ 1024 →
    IsWithin s (front_at s event said) 1024
one_within s (Took stamp place frame) said few =
    vouched s (votes_in (parts_taken (entry_with (Took stamp place frame) said))) 1024
one_within s Tick said few = stays s 1024
one_within s (Command op) said few = stays s 1024
one_within s (Field area place value) said few = record { client = refl; points = refl; updates = omega arith }
one_within s Poll said few = let some = polled_few s (length said) in
    record { client = refl; points = refl; updates = omega arith }
one_within s (Cry bytes) said few = stays s 1024
one_within s Skip said few = stays s 1024
one_within s Restart said few = stays s 1024

all_within : (s : Front) (own : List Entry) → length s.points ≤ 1024 →
    IsWithin s (front_after s (flat_map happenings_of own)) (1024 * length own)
all_within s [] few = stays s 0
all_within s (e ∷ own) few =
    let t = front_at s e.event e.said in
    let one = one_within s e.event e.said few in
    let few_again : length t.points ≤ 1024 =
    subst (λ (points : List Point). length points ≤ 1024) (sym one.points) few in
    let rest = all_within t own few_again in
    let both : IsWithin s (front_after t (flat_map happenings_of own)) (1024 * length (e ∷ own)) = record {
      client = rest.client ∙ one.client;
      points = rest.points ∙ one.points;
      updates = summed s.updates t.updates (front_after t (flat_map happenings_of own)).updates (length own)
          one.updates rest.updates;
    } in
    subst (λ (u : Front). IsWithin s u (1024 * length (e ∷ own)))
    (sym (front_after-append s (happenings_of e) (flat_map happenings_of own))) both where
      summed : (a b z k : ℕ) → b ≤ a + 1024 → z ≤ b + 1024 * k → z ≤ a + 1024 * (suc k)
      summed a b z k one rest = omega arith

pub front_within : (n f client : ℕ) (plant : Plant) (own : List Entry) → length plant.points ≤ 1024
    → IsWithin (fresh client n f plant.points (device_of plant client)) (front_of n f plant client own)
    (1024 * length own)
unfolding front_of
front_within n f client plant own few = all_within (fresh client n f plant.points (device_of plant client)) own few

pub updates_stay_few : UpdatesStayFew
updates_stay_few n f client plant own few = let all = (front_within n f client plant own few).updates in omega arith

module _ (c : Contents) (client : ℕ) (screen : proxies_in c ≤ client) (own : List Entry)
    (history : IsBenchList (setup_of c) (client_actor c client) own) where
  words_few : (rest before : List Entry) → own ≡ before ++ rest →
      length (flat_map (λ (e : Entry). e.said) rest) ≤ length rest
  words_few [] before whole = omega arith
  words_few (e ∷ rest) before whole =
      let entry = history.entries before e (record { after = rest; whole = whole }) in
      let one : length e.said ≤ 1 = subst (λ (bs : List Body). length bs ≤ 1) (sym entry.said)
      (screen_says_few c client before e.event screen) in
      let others = words_few rest (before ++ e ∷ []) (whole ∙ sym (append_assoc before (e ∷ []) rest)) in
      let all : length (e.said ++ flat_map (λ (b : Entry). b.said) rest) ≡ length e.said + length
      (flat_map (λ (b : Entry). b.said) rest) =
      length-append e.said (flat_map (λ (b : Entry). b.said) rest) in
      omega arith

pub commands_stay_few : CommandsStayFew
unfolding desk_of
commands_stay_few c n f client own screen history = words_few c client screen own history own [] refl
