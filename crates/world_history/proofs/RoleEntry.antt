-- An actor of whatever role through one entry.
use Rattle.std.proofs.Common.{◌≡◌, ℕ, true, false, List, [], ◌∙◌, ap}
use Rattle.std.specs.List.{list_all}
use Rattle.message_types.specs.declared.signed.Signed.{Signed}
use Rattle.message_types.specs.declared.body.Body.{Body}
use Rattle.message_types.specs.Spelling.{body_fits}
use Rattle.scenario_file.specs.Reading.{Contents}
use Rattle.history_rules.specs.Events.{Entry}
use Rattle.history_rules.specs.Setup.{is_correct, is_correct_master, stands, leaves_used, signed_from}
use Rattle.world_rules.specs.Scenarios.{setup_of}
use Rattle.agreement.proofs.SaidOnce.{correct_actor}
use Rattle.world_rules.proofs.Fields.{setup_goes_by, sizes_of_group}
use Rattle.world_rules.proofs.Signed.{signatures_sign}
use Rattle.bench_rules.specs.Lists.{frames_after}
use Rattle.history_laws.proofs.BenchLists.{intruded_say_nothing}
use Rattle.bench_rules.proofs.FramesStand.{master_frames_stand, master_words_fit}
use Rattle.world_history.specs.declared.role.Role.{Role}
use Rattle.world_history.specs.declared.role.Role.TheVariants as role
use Rattle.world_history.specs.Roles.{Comes, IsRole, IsIntruded, CanAnswer}
use Rattle.world_history.proofs.MasterEntry.{can_hear, master_is}
use Rattle.world_history.proofs.ClientEntry.{client_correct, client_fits, client_stands, proxy_can, screen_can}

pub can_answer : (c : Contents) (actor : ℕ) (own : List Entry) (e : Entry) (r : Role) → Comes c actor own e →
    IsRole c actor own r → CanAnswer e.event r
can_answer c actor own e (role.Master node) comes is = can_hear c actor own e node comes is
can_answer c actor own e (role.Intruded known) comes is = tt
can_answer c actor own e (role.Proxy front) comes is = proxy_can c actor own e front comes is
can_answer c actor own e (role.Screen desk) comes is = screen_can c actor own e desk comes is

said_nothing : (c : Contents) (actor : ℕ) (own : List Entry) (e : Entry) (known : List (Signed Body)) →
    Comes c actor own e → IsIntruded (setup_of c) actor own known → e.said ≡ []
said_nothing c actor own e known comes is = comes.adds.said ∙ intruded_say_nothing (setup_of c)
    actor own e.event is.master is.intruded

-- what an actor says has a spelling
pub said_fits : (c : Contents) (actor : ℕ) (own : List Entry) (e : Entry) (r : Role) → Comes c actor own e →
    IsRole c actor own r → list_all body_fits e.said ≡ true
said_fits c actor own e (role.Master node) comes is =
    master_words_fit (setup_of c) actor own e (sizes_of_group c comes.scenario)
    (signatures_sign c actor comes.scenario comes.key) is.correct comes.list comes.adds comes.short
said_fits c actor own e (role.Intruded known) comes is =
    ap (list_all body_fits) (said_nothing c actor own e known comes is)
said_fits c actor own e (role.Proxy front) comes (client, is, low, same) = client_fits c actor client own e comes is
said_fits c actor own e (role.Screen desk) comes (client, is, high, same) = client_fits c actor client own e comes is

-- and its frames stand
pub frames_stand : (c : Contents) (actor : ℕ) (own : List Entry) (e : Entry) (r : Role) →
    Comes c actor own e → IsRole c actor own r
    → list_all (stands (setup_of c)) (frames_after (setup_of c) actor own e) ≡ true
frames_stand c actor own e (role.Master node) comes is =
    master_frames_stand (setup_of c) actor own e (sizes_of_group c comes.scenario)
    (signatures_sign c actor comes.scenario comes.key) is.correct comes.list comes.adds comes.short
frames_stand c actor own e (role.Intruded known) comes is =
    ap (λ (bs : List Body). list_all (stands (setup_of c))
    (signed_from (setup_of c) actor (leaves_used (setup_of c) own) bs 0 bs))
    (said_nothing c actor own e known comes is)
frames_stand c actor own e (role.Proxy front) comes (client, is, low, same) =
    client_stands c actor client own e comes is
frames_stand c actor own e (role.Screen desk) comes (client, is, high, same) =
    client_stands c actor client own e comes is

-- An actor is correct, or says nothing.
pub data Kind (c : Contents) (actor : ℕ) (e : Entry) : Type 0 where
  as_correct : is_correct (setup_of c) actor ≡ true → Kind c actor e
  as_silent : e.said ≡ [] → Kind c actor e

intruded_no : (c : Contents) (actor : ℕ) → is_correct_master (setup_of c) actor ≡ true →
    (setup_of c).intruded actor ≡ false
intruded_no c actor correct = (setup_goes_by c).intruded actor ∙ (master_is c actor correct).1

pub kind_of : (c : Contents) (actor : ℕ) (own : List Entry) (e : Entry) (r : Role) → Comes c actor own e →
    IsRole c actor own r → Kind c actor e
kind_of c actor own e (role.Master node) comes is =
    as_correct (correct_actor (setup_of c) actor (intruded_no c actor is.correct))
kind_of c actor own e (role.Intruded known) comes is = as_silent (said_nothing c actor own e known comes is)
kind_of c actor own e (role.Proxy front) comes (client, is, low, same) = as_correct (client_correct c actor client is)
kind_of c actor own e (role.Screen desk) comes (client, is, high, same) = as_correct (client_correct c actor client is)
