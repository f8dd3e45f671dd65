-- To whom an actor's frames go: a scenario has at most 26 actors, and the client that a frame names, where it stands, is
-- one of them, so all of its addressees are.
use Rattle.std.proofs.Common.{◌≡◌, ℕ, zero, suc, ◌+◌, ◌<◌, ◌≤◌, Bool, true, false, cond, ◌&&◌, not, List, [], ◌∷◌}
use Rattle.std.proofs.Common.{nat_eq, nat_le, nat_lt, refl, sym, ◌∙◌, ap, arith}
use Rattle.std.specs.List.{list_all}
use Rattle.std.proofs.lemmas.Bool.{and_parts, and_from, lt-ltb, ltb-true}
use Rattle.message_types.specs.declared.signed.Signed.{Signed}
use Rattle.message_types.specs.declared.body.Body.{Body}
use Rattle.message_types.specs.declared.body.Body.TheVariants as body
use Rattle.message_types.specs.Parts.{inside}
use Rattle.quorum_sets.specs.Masters.{voters}
use Rattle.quorum_sets.proofs.MastersLemmas.{voters-zero, voters-suc}
use Rattle.protocol_rules.specs.Group.{Group, group_of, is_door}
use Rattle.protocol_rules.specs.Places.{in_place, word_in_place, in_32_bits, in_64_bits, op_in_place}
use Rattle.scenario_file.specs.declared.scenario.Scenario.{Scenario}
use Rattle.scenario_file.specs.declared.actors.Cast.{Cast}
use Rattle.scenario_file.specs.Actors.{actors_of}
use Rattle.scenario_file.specs.Reading.{Contents, contents, cast_of}
use Rattle.scenario_file.specs.Valid.{IsScenario}
use Rattle.history_rules.specs.Setup.{Setup, stands}
use Rattle.world_rules.specs.Frames.{addressees}
use Rattle.world_rules.specs.Scenarios.{setup_of, group_in, actors_in}
use Rattle.world_rules.proofs.Fields.{group_is}
use Rattle.world_history.specs.Addressing.{IsClientFew}
use Rattle.world_history.proofs.Lists.{all_join}
use Rattle.world_history.proofs.StandingFrames.{standing_is_whole}

-- masters and clients of a scenario are few
pub few_clients : (c : Contents) → IsScenario c → (group_in c).clients ≤ 12
few_clients c is = let devices = is.plant.devices in let screens = is.at_most_four_screens in omega arith

pub few_masters : (c : Contents) → IsScenario c → (group_in c).n ≤ 14
few_masters c is = let f = is.group.at_most_three_intruded in let k = is.group.at_most_two_away in omega arith

pub few_actors : (c : Contents) → IsScenario c → actors_in c ≤ 26
few_actors c is = omega (arith, few_clients c is, few_masters c is)

below_one : (test : ℕ → Bool) (n : ℕ) → (m : ℕ) → n < m → (b : Bool) →
    list_all (λ a. nat_lt a m) (cond b (n ∷ []) []) ≡ true
below_one test n m below true = and_from (nat_lt n m) true (lt-ltb n m below) refl
below_one test n m below false = refl

-- voters below a number are below it
pub voters_are_below : (test : ℕ → Bool) (n m : ℕ) → n ≤ m → list_all (λ a. nat_lt a m) (voters test n) ≡ true
voters_are_below test zero m below = ap (list_all (λ a. nat_lt a m)) (voters-zero test)
voters_are_below test (suc n) m below =
    ap (list_all (λ a. nat_lt a m)) (voters-suc test n)
    ∙ all_join (λ a. nat_lt a m) (voters test n) (cond (test n) (n ∷ []) []) (voters_are_below test n m (omega arith))
    (below_one test n m (omega arith) (test n))

in_its_place : (w : Setup) (f : Signed Body) → stands w f ≡ true → in_place w.group f ≡ true
in_its_place w f stand = (and_parts (in_place w.group f) (list_all (in_place w.group) (inside f.body))
    (standing_is_whole w f stand)).0

-- What a frame in its place says of its client.
client_there : (g : Group) (signer : ℕ) (sig : List ℕ) (word : Body) →
    in_place g (record { signer = signer; body = word; sig = sig }) ≡ true
    → (elim word [
      | body.Update b ↦ nat_lt b.client g.clients
      | body.Voucher b ↦ nat_lt b.client g.clients
      | _ ↦ true
    ]) ≡ true
client_there g signer sig (body.Update b) well =
    (and_parts (nat_lt b.client g.clients) _
    (and_parts _ _ (and_parts _ _
    (and_parts (nat_lt b.client g.clients && in_32_bits b.client && nat_eq signer (g.n + b.client)
    && in_64_bits b.t) (op_in_place b.op) well).0).0).0).0
client_there g signer sig (body.Voucher b) well =
    (and_parts (nat_lt b.client g.clients) (nat_le 1 b.number)
    (and_parts (nat_lt signer g.n) (word_in_place g signer (body.Voucher b)) well).1).0
client_there g signer sig _ well = refl

few_when : (g : Group) (word : Body) → g.clients ≤ 12
    → (elim word [
      | body.Update b ↦ nat_lt b.client g.clients
      | body.Voucher b ↦ nat_lt b.client g.clients
      | _ ↦ true
    ]) ≡ true → IsClientFew word
few_when g (body.Update b) few there = omega (arith, ltb-true b.client g.clients there)
few_when g (body.Voucher b) few there = omega (arith, ltb-true b.client g.clients there)
few_when g _ few there = tt

-- the client of a frame that stands is one of at most 12
pub client_few : (c : Contents) (f : Signed Body) → IsScenario c → stands (setup_of c) f ≡ true → IsClientFew f.body
client_few c f is stand =
    few_when (group_in c) f.body (few_clients c is)
    (client_there (group_in c) f.signer f.sig f.body (ap (λ (g : Group). in_place g f) (sym (group_is c))
    ∙ in_its_place (setup_of c) f stand))

there_when : (g : Group) (actor : ℕ) (word : Body)
    → (elim word [
      | body.Update b ↦ nat_lt b.client g.clients
      | body.Voucher b ↦ nat_lt b.client g.clients
      | _ ↦ true
    ]) ≡ true
    → list_all (λ a. nat_lt a (g.n + g.clients)) (addressees g actor word) ≡ true
there_when g actor (body.Update b) there = voters_are_below (is_door g b.client) g.n (g.n + g.clients) (omega arith)
there_when g actor (body.Voucher b) there =
    and_from (nat_lt (g.n + b.client) (g.n + g.clients)) true
    (lt-ltb (g.n + b.client) (g.n + g.clients) (omega (arith, ltb-true b.client g.clients there))) refl
there_when g actor _ there = voters_are_below (λ m. not (nat_eq m actor)) g.n (g.n + g.clients) (omega arith)

-- a frame that stands goes to actors that are there
pub addressees_there : (c : Contents) (actor : ℕ) (f : Signed Body) → stands (setup_of c) f ≡ true
    → list_all (λ a. nat_lt a (actors_in c)) (addressees (setup_of c).group actor f.body) ≡ true
addressees_there c actor f stand =
    ap (λ (g : Group). list_all (λ a. nat_lt a (actors_in c)) (addressees g actor f.body)) (group_is c)
    ∙ there_when (group_in c) actor f.body
    (client_there (group_in c) f.signer f.sig f.body (ap (λ (g : Group). in_place g f) (sym (group_is c))
    ∙ in_its_place (setup_of c) f stand))

-- the setup's group is that of the scenario's sizes
pub group_same : (s : Scenario) → group_of s.sizes (group_in (contents s)).clients ≡ (setup_of (contents s)).group
group_same s =
    ap (λ (n : ℕ). record {
      n = n;
      f = s.sizes.f;
      k = s.sizes.k;
      q = s.sizes.q;
      clients =
          (group_in (contents s)).clients;
      rules = s.sizes.rules;
    }) s.sizes.all
    ∙ ap (λ (q : ℕ). record {
      n = (group_in (contents s)).n;
      f = s.sizes.f;
      k = s.sizes.k;
      q = q;
      clients =
          (group_in (contents s)).clients;
      rules = s.sizes.rules;
    }) s.sizes.quorum
    ∙ sym (group_is (contents s))

-- how many actors there are
pub cast_actors : (s : Scenario) (cast : Cast) (n : ℕ) → cast ≡ cast_of (contents s).settings s.plant →
    n ≡ actors_of cast → n ≡ actors_in (contents s)
cast_actors s cast n is count =
    let joined : actors_of (cast_of (contents s).settings s.plant) ≡ actors_in (contents s) = omega arith in
    count ∙ ap actors_of is ∙ joined

pub begin_few : (c : Contents) (n : ℕ) → IsScenario c → n ≡ actors_in c → n < 27
begin_few c n valid count = let few = few_actors c valid in omega arith
