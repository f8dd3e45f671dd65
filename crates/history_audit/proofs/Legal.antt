-- What was said in a legal history of a scenario has a spelling.
use Rattle.std.proofs.Common.{◌≡◌, ℕ, ◌+◌, ◌-◌, ◌^◌, ◌<◌, ◌≤◌, Bool, true, false, cond, not, List, ◌∷◌, take, length, None}
use Rattle.std.proofs.Common.{length-append, nat_lt, refl, sym, ◌∙◌, ap, subst, arith}
use Rattle.std.specs.List.{list_all}
use Rattle.std.proofs.lemmas.Bool.{false≢true, and_from, ltb-true}
use Rattle.plain_lists.proofs.Members.{all_at, in_take}
use Rattle.message_types.specs.declared.body.Body.{Body}
use Rattle.message_types.specs.Spelling.{body_fits}
use Rattle.scenario_file.specs.Reading.{Contents}
use Rattle.scenario_file.specs.Valid.{IsScenario}
use Rattle.history_rules.specs.Events.{Event, Entry}
use Rattle.history_rules.specs.Setup.{Setup, is_correct_master, room, own}
use Rattle.history_rules.specs.Legal.{Stands, IsLegal, intruded_says, master_says, says_in}
use Rattle.agreement.proofs.Places.{stands_on, stands_in}
use Rattle.history_laws.proofs.OwnEntries.{own_stands, own_of_legal}
use Rattle.world_rules.specs.Clients.{proxy_says, screen_says, front_of, desk_of}
use Rattle.world_rules.specs.Scenarios.{masters_in, proxies_in, client_in, setup_of}
use Rattle.world_rules.proofs.Fields.{setup_goes_by, sizes_of_group, seed_has_keys}
use Rattle.world_rules.proofs.Signed.{signatures_sign}
use Rattle.history_laws.specs.BenchLists.{IsBenchList}
use Rattle.history_laws.proofs.BenchLists.{own_history_is_bench_list, intruded_say_nothing}
use Rattle.bench_rules.proofs.FramesStand.{master_words_fit}
use Rattle.history_audit.specs.Legal.{LegalAreSpelled}
use Rattle.history_audit.specs.Counting.{AreFewEach}
use Rattle.history_rules.proofs.Entries.{all_from}
use Rattle.world_rules.proofs.Clients.{proxy_fits, screen_fits}

either_fits : (b : Bool) (xs ys : List Body) → list_all body_fits xs ≡ true → list_all body_fits ys ≡ true →
    list_all body_fits (cond b xs ys) ≡ true
either_fits true xs ys first second = first
either_fits false xs ys first second = second

client_fits : (c : Contents) (actor : ℕ) (list : List Entry) (event : Event) →
    list_all body_fits (client_in c actor list event) ≡ true
client_fits c actor list event =
    let client = actor - masters_in c in
    let front = front_of (masters_in c) c.settings.f c.plant client list in
    let desk = desk_of (masters_in c) c.settings.f client list in
    either_fits (nat_lt client (proxies_in c)) (proxy_says front event) (screen_says desk event)
    (proxy_fits front event) (screen_fits desk event)

-- of an actor that is no master what it would say is cut to its leaves
of_client : (r : ℕ) (b : Bool) (master due : List Body) → b ≡ false → list_all body_fits due ≡ true →
    list_all body_fits (take r (cond b master due)) ≡ true
of_client r true master due outside fits = absurd (false≢true (sym outside))
of_client r false master due outside fits =
    all_from body_fits (take r due) (λ b h. all_at body_fits (in_take r due h) fits)

client_says_fit : (c : Contents) (actor : ℕ) (list : List Entry) (event : Event) →
    nat_lt actor (setup_of c).group.n ≡ false
    → list_all body_fits (says_in (setup_of c) actor list event) ≡ true
unfolding says_in
client_says_fit c actor list event outside =
    of_client (room (setup_of c) list) (nat_lt actor (setup_of c).group.n)
    (cond ((setup_of c).intruded actor) intruded_says (master_says (setup_of c) actor list event))
    ((setup_of c).client_says actor list event) outside
    (ap (list_all body_fits) ((setup_goes_by c).clients actor list event) ∙ client_fits c actor list event)

-- an actor's entries before one of a legal history are such as it could add
beginning : (w : Setup) (history before : List Entry) (e : Entry) → IsLegal w history → Stands history before e →
    IsBenchList w e.actor (own before e.actor)
beginning w history before e legal s =
    let all = own_history_is_bench_list w e.actor (own history e.actor) (own_of_legal w history e.actor legal) in
    let its = own_stands s in
    record {
      entries = λ front x t. all.entries front x
          (subst (λ (xs : List Entry). Stands xs front x) (sym its.whole) (stands_on (e ∷ its.after) t));
    }

entry_fits : (c : Contents) (history before : List Entry) (e : Entry) → IsScenario c → c.held ≡ None →
    IsLegal (setup_of c) history → AreFewEach history
    → Stands history before e → list_all body_fits e.said ≡ true
entry_fits c history before e is seed legal each s =
    by (nat_lt e.actor (setup_of c).group.n) ((setup_of c).intruded e.actor) refl refl
  where
    rule : e.said ≡ says_in (setup_of c) e.actor (own before e.actor) e.event
    rule = (legal.entries before e s).said

    few : length (own before e.actor) < 2 ^ 32
    few =
        let its = own_stands s in
        let whole : length (own history e.actor) ≡ length (own before e.actor) + length (e ∷ its.after) =
        ap length its.whole ∙ length-append (own before e.actor) (e ∷ its.after) in
        let most : length (own history e.actor) ≤ 2 ^ 32 = each e.actor in
        omega arith

    by : (master intruded : Bool) → nat_lt e.actor (setup_of c).group.n ≡ master →
        (setup_of c).intruded e.actor ≡ intruded → list_all body_fits e.said ≡ true
    by true true low bad =
        ap (list_all body_fits) (rule ∙ intruded_say_nothing (setup_of c) e.actor (own before e.actor) e.event
        (ltb-true e.actor (setup_of c).group.n low) bad)
    by true false low good =
        let correct : is_correct_master (setup_of c) e.actor ≡ true =
        and_from (nat_lt e.actor (setup_of c).group.n) (not ((setup_of c).intruded e.actor)) low (ap not good) in
        let all = own_history_is_bench_list (setup_of c) e.actor (own history e.actor)
        (own_of_legal (setup_of c) history e.actor legal) in
        master_words_fit (setup_of c) e.actor (own before e.actor) e (sizes_of_group c is)
        (signatures_sign c e.actor is (seed_has_keys c e.actor seed)) correct
        (beginning (setup_of c) history before e legal s) (all.entries (own before e.actor) e (own_stands s)) few
    by false intruded outside either = ap (list_all body_fits) rule
        ∙ client_says_fit c e.actor (own before e.actor) e.event outside

pub legal_are_spelled : LegalAreSpelled
legal_are_spelled c history is seed legal each = all_from (λ e. list_all body_fits e.said) history (λ e h.
    let place = stands_in history h in
    entry_fits c history place.0 e is seed legal each place.1)
