-- What fits the actors that are there can be played in their scenario.
use Rattle.std.proofs.Common.{◌≡◌, ℕ, suc, ◌+◌, ◌-◌, ◌<◌, Bool, true, false, cond, not, ◌&&◌, ◌||◌, nat_le, nat_lt}
use Rattle.std.proofs.Common.{nat_eq, List, [], ◌∷◌, All, refl, sym, ◌∙◌, ap, arith, Option, Some, None, slice_get}
use Rattle.std.specs.Prelude.{unwrap_or}
use Rattle.std.specs.List.{list_all}
use Rattle.std.proofs.lemmas.Bool.{and_parts, and_from, lt-ltb}
use Rattle.std.proofs.lemmas.Bool.Decides.{nat_tests}
use Rattle.std.proofs.lemmas.List.{length-replicate}
use Rattle.message_types.specs.declared.updates.Op.{Op}
use Rattle.play_words.specs.Accepted.{is_accepted}
use Rattle.point_table.specs.declared.point.Area.{Area}
use Rattle.point_table.specs.declared.point.Area.TheVariants as area
use Rattle.point_table.specs.declared.point.DeviceSizes.{DeviceSizes}
use Rattle.quorum_sets.specs.Masters.{has_master}
use Rattle.field_device.specs.Places.{zeros, size_of}
use Rattle.scenario_file.specs.Reading.{Contents}
use Rattle.scenario_file.specs.Valid.{IsScenario}
use Rattle.history_rules.specs.Events.{Command, Field, Poll, Restart}
use Rattle.world_rules.specs.Clients.{device_of as device_in, no_device}
use Rattle.world_rules.specs.Scenarios.{masters_in, proxies_in, fits_in, fits_correct, fits_intruded, fits_proxy}
use Rattle.world_rules.specs.Scenarios.{fits_screen}
use Rattle.script_grammar.specs.Names.{who_of, device_of, is_intruded, is_correct, is_proxy, is_screen}
use Rattle.script_lines.specs.declared.saying.Saying.{Saying}
use Rattle.script_lines.specs.declared.step.Step.{Step}
use Rattle.script_lines.specs.declared.step.Step.TheVariants as step
use Rattle.script_lines.specs.declared.step.Ticking.{Ticking}
use Rattle.script_lines.specs.declared.step.Ticking.TheVariants as ticking
use Rattle.script_lines.specs.Steps.{has_place, places_of}
use Rattle.script_laws.specs.Accepted.{is_there, may_do, is_intruded as is_intruded_in, are_ticking, is_named}
use Rattle.script_laws.specs.Accepted.{is_step_of, is_saying_of}
use Rattle.script_laws.specs.Laws.{ReadLinesAreOfScenario, ReadWordsAreOfScenario}
use Rattle.script_laws.proofs.Fitting.{is_there as is_there_of, can_tick, step_fits, line_fits, saying_fits}
use Rattle.script_laws.proofs.Stepping.{lines_fit}
use Rattle.script_laws.proofs.Saying.{words_fit}
use Rattle.plain_lists.proofs.Lists.{all_weaker}

-- the actors of a scenario, counted both ways

same_count : (m p s : ℕ) (a : ℕ) → nat_lt a (m + p + s) ≡ true → nat_lt a (m + (p + s)) ≡ true
same_count m p s a h = grind (arith, nat_tests)

there_in : (c : Contents) (a : ℕ) → is_there_of (who_of c) a ≡ true → is_there c a ≡ true
there_in c a h = same_count (masters_in c) (proxies_in c) c.settings.screens a h

-- which events are of whose role

screen_role : (m p a : ℕ) (x y z : Bool) → nat_le (m + p) a ≡ true →
    cond (nat_lt a m) x (cond (nat_lt (a - m) p) y z) ≡ z
screen_role m p a x y z h =
    let low : nat_lt a m ≡ false = grind (arith, nat_tests) in
    let past : nat_lt (a - m) p ≡ false = grind (arith, nat_tests) in
    ap (λ b. cond b x (cond (nat_lt (a - m) p) y z)) low ∙ ap (λ b. cond b y z) past

proxy_role : (m p a : ℕ) (x y z : Bool) → (nat_le m a && nat_lt a (m + p)) ≡ true →
    cond (nat_lt a m) x (cond (nat_lt (a - m) p) y z) ≡ y
proxy_role m p a x y z h =
    let (above, below) = and_parts (nat_le m a) (nat_lt a (m + p)) h in
    let low : nat_lt a m ≡ false = grind (arith, nat_tests) in
    let before : nat_lt (a - m) p ≡ true = grind (arith, nat_tests) in
    ap (λ b. cond b x (cond (nat_lt (a - m) p) y z)) low ∙ ap (λ b. cond b y z) before

any_role : (m p x y z : Bool) → x ≡ true → y ≡ true → z ≡ true → cond m x (cond p y z) ≡ true
any_role true p x y z one two three = one
any_role false true x y z one two three = two
any_role false false x y z one two three = three

correct_role : (i : Bool) → not i ≡ true → cond i false true ≡ true
correct_role true h = absurd (cc)
correct_role false h = refl

command_may : (c : Contents) (a : ℕ) (op : Op) → (is_there_of (who_of c) a && is_screen (who_of c) a) ≡ true →
    may_do c a (Command op) ≡ true
command_may c a op h =
    let (there, screen) = and_parts (is_there_of (who_of c) a) (is_screen (who_of c) a) h in
    and_from (is_there c a) (fits_in c a (Command op)) (there_in c a there)
    (screen_role (masters_in c) (proxies_in c) a (cond (has_master c.settings.intruded a) (fits_intruded (Command op))
    (fits_correct (Command op)))
    (fits_proxy (zeros (device_in c.plant (a - masters_in c))) (Command op)) true screen)

poll_may : (c : Contents) (a : ℕ) → (is_there_of (who_of c) a && is_proxy (who_of c) a) ≡ true → may_do c a Poll ≡ true
poll_may c a h =
    let (there, proxy) = and_parts (is_there_of (who_of c) a) (is_proxy (who_of c) a) h in
    and_from (is_there c a) (fits_in c a Poll) (there_in c a there)
    (proxy_role (masters_in c) (proxies_in c) a
    (cond (has_master c.settings.intruded a) (fits_intruded Poll) (fits_correct Poll))
    true (fits_screen Poll) proxy)

restart_may : (c : Contents) (a : ℕ) → (is_there_of (who_of c) a && is_correct (who_of c) a) ≡ true →
    may_do c a Restart ≡ true
restart_may c a h =
    let (there, right) = and_parts (is_there_of (who_of c) a) (is_correct (who_of c) a) h in
    and_from (is_there c a) (fits_in c a Restart) (there_in c a there)
    (any_role (nat_lt a (masters_in c)) (nat_lt (a - masters_in c) (proxies_in c))
    (cond (has_master c.settings.intruded a) false true) true true
    (correct_role (has_master c.settings.intruded a) right) refl refl)

-- a device's places

places_same : (d : DeviceSizes) (at : Area) → places_of d at ≡ size_of (zeros d) at
places_same d area.Coil = sym (length-replicate d.coils false)
places_same d area.Discrete = sym (length-replicate d.discrete false)
places_same d area.Holding = sym (length-replicate d.holding 0)
places_same d area.Input = sym (length-replicate d.input 0)

has_it : (o : Option DeviceSizes) (at : Area) (place : ℕ) → has_place o at place ≡ true →
    nat_lt place (size_of (zeros (unwrap_or o no_device)) at) ≡ true
has_it None at place h = absurd (cc)
has_it (Some d) at place h = ap (nat_lt place) (sym (places_same d at)) ∙ h

device_is : (c : Contents) (a : ℕ) → is_proxy (who_of c) a ≡ true →
    device_of (who_of c) a ≡ slice_get c.plant.devices (a - masters_in c)
unfolding device_of
device_is c a h = ap (λ (b : Bool). cond b (slice_get c.plant.devices (a - masters_in c)) None) h

field_may : (c : Contents) (a : ℕ) (at : Area) (place value : ℕ)
    → (is_there_of (who_of c) a && is_proxy (who_of c) a && has_place (device_of (who_of c) a) at place) ≡ true →
    may_do c a (Field at place value) ≡ true
field_may c a at place value h =
    let (two, has) = and_parts (is_there_of (who_of c) a && is_proxy (who_of c) a)
    (has_place (device_of (who_of c) a) at place) h in
    let (there, proxy) = and_parts (is_there_of (who_of c) a) (is_proxy (who_of c) a) two in
    and_from (is_there c a) (fits_in c a (Field at place value)) (there_in c a there)
    (proxy_role (masters_in c) (proxies_in c) a
    (cond (has_master c.settings.intruded a) (fits_intruded (Field at place value))
    (fits_correct (Field at place value)))
    (nat_lt place (size_of (zeros (device_in c.plant (a - masters_in c))) at))
    (fits_screen (Field at place value)) proxy
    ∙ has_it (slice_get c.plant.devices (a - masters_in c)) at place
    (ap (λ (o : Option DeviceSizes). has_place o at place) (sym (device_is c a proxy)) ∙ has))

-- intruded masters are masters

below_of : (n : ℕ) (xs : List ℕ) (m : ℕ) → All (λ x. x < n) xs → has_master xs m ≡ true → m < n
below_of n [] m all h = absurd (cc)
below_of n (x ∷ xs) m all h =
    by (nat_eq x m) refl (λ other. below_of n xs m (λ k d inside. all (suc k) d (omega arith))
    (ap (λ b. b || has_master xs m) (sym other) ∙ h))
  where
    by : (b : Bool) → nat_eq x m ≡ b → (nat_eq x m ≡ false → m < n) → m < n
    by true same rest = let first : x < n = all 0 0 (omega arith) in grind (arith, nat_tests)
    by false other rest = rest other

intruded_is : (c : Contents) (a : ℕ) → IsScenario c → (is_there_of (who_of c) a && is_intruded (who_of c) a) ≡ true →
    is_intruded_in c a ≡ true
intruded_is c a is h =
    let has = (and_parts (is_there_of (who_of c) a) (is_intruded (who_of c) a) h).1 in
    and_from (nat_lt a (masters_in c)) (has_master c.settings.intruded a)
    (lt-ltb a (masters_in c) (below_of (masters_in c) c.settings.intruded a is.intruded has)) has

-- steps

ticks_of : (c : Contents) (t : Ticking) → can_tick (who_of c) t ≡ true → are_ticking c t ≡ true
ticks_of c (ticking.Actor a) h = there_in c a h
ticks_of c ticking.Masters h = refl
ticks_of c ticking.All h = refl

step_of : (c : Contents) (s : Step) → IsScenario c → step_fits (who_of c) s ≡ true → is_step_of c s ≡ true
unfolding is_step_of
step_of c (step.Tick t times) is h = ticks_of c t h
step_of c (step.Flow rounds) is h = refl
step_of c (step.Lose a) is h = refl
step_of c (step.Heal a) is h = refl
step_of c step.Drop is h = refl
step_of c (step.Take a r) is h =
    let (two, small) = and_parts (is_there_of (who_of c) a && is_there_of (who_of c) r.actor) (nat_lt r.kind 22) h in
    let (there, signer) = and_parts (is_there_of (who_of c) a) (is_there_of (who_of c) r.actor) two in
    and_from (is_there c a) (is_named c r) (there_in c a there)
    (and_from (is_there c r.actor) (nat_lt r.kind 22) (there_in c r.actor signer) small)
step_of c (step.Command a op) is h = command_may c a op h
step_of c (step.Field a at place value) is h = field_may c a at place value h
step_of c (step.Poll a) is h = poll_may c a h
step_of c (step.Cry a times) is h = intruded_is c a is h
step_of c (step.Restart a) is h = restart_may c a h

pub lines_of : ReadLinesAreOfScenario
lines_of c bytes lines is h =
    all_weaker (line_fits (who_of c)) (λ line. is_step_of c line.step) lines
    (λ line fits. step_of c line.step is fits) (lines_fit c bytes lines h)

saying_of : (c : Contents) (s : Saying) → saying_fits (who_of c) s ≡ true → is_saying_of c s ≡ true
unfolding is_saying_of
saying_of c s h =
    let (most, said) = and_parts (is_there_of (who_of c) s.speaker && is_intruded (who_of c) s.speaker
    && list_all (is_there_of (who_of c)) s.to) (is_accepted s.word) h in
    let (speaker, to) = and_parts (is_there_of (who_of c) s.speaker && is_intruded (who_of c) s.speaker)
    (list_all (is_there_of (who_of c)) s.to) most in
    and_from (is_accepted s.word) (list_all (is_there c) s.to) said
    (all_weaker (is_there_of (who_of c)) (is_there c) s.to (there_in c) to)

pub sayings_of : ReadWordsAreOfScenario
sayings_of c bytes words is h =
    all_weaker (saying_fits (who_of c)) (is_saying_of c) words (saying_of c) (words_fit c bytes words is h)
