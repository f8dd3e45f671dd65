-- A word that a master says in a play at work: what its calls may ask, and where the play stands after it.
use Rattle.std.proofs.Common.{◌≡◌, ℕ, zero, suc, ◌+◌, ◌*◌, ◌^◌, ◌<◌, ◌≤◌, Bool, true, false, ◌&&◌, List, [], ◌∷◌}
use Rattle.std.proofs.Common.{◌++◌, Option, Some, None, Ok, Err, length, map, drop, get_or, set, nat_lt, refl, sym}
use Rattle.std.proofs.Common.{◌∙◌, ap, subst, arith}
use Rattle.std.specs.Prelude.{IsTrue}
use Rattle.std.specs.List.{list_all, flat_map}
use Rattle.std.specs.Option.{option_map, MatchOption}
use Rattle.std.specs.declared.vec.Vec.{Vec}
use Rattle.std.specs.declared.alloc.Global.{Global}
use Rattle.std.proofs.lemmas.Bool.{and_parts, and_from, lt-ltb, ltb-true, le-leb, lt-leb}
use Rattle.std.proofs.lemmas.List.{length-map, get_or_read}
use Rattle.quorum_sets.specs.Masters.{has_master}
use Rattle.message_types.specs.declared.signed.Signed.{Signed}
use Rattle.message_types.specs.declared.body.Body.{Body}
use Rattle.scenario_file.specs.Reading.{Contents}
use Rattle.scenario_file.specs.Valid.{IsScenario}
use Rattle.history_rules.specs.Events.{Event, Cry, Entry}
use Rattle.history_rules.specs.Setup.{Setup, own}
use Rattle.world_rules.specs.Frames.{cried}
use Rattle.world_rules.specs.Scenarios.{setup_of, masters_in, fits_in, actors_in}
use Rattle.world_rules.proofs.Fields.{setup_goes_by}
use Rattle.play_words.specs.Accepted.{is_accepted}
use Rattle.play_words.specs.declared.words.Word.{Word}
use Rattle.world_history.specs.State.{BenchState, setup_in, with_entry, word_body, after_word, spoken}
use Rattle.world_history.specs.KeptState.{KeptState, halted_in}
use Rattle.script_lines.specs.declared.saying.Saying.{Saying}
use Rattle.script_lines.specs.Given.{own_words}
use Rattle.script_laws.specs.Accepted.{is_there, is_intruded, is_saying_of, are_sayings_of}
use Rattle.run_scripts.specs.declared.answer.StepRefusal.{StepRefusal}
use Rattle.run_scripts.specs.declared.answer.StepRefusal.TheVariants as stop
use Rattle.run_scripts.specs.declared.mail.Post.{Post}
use Rattle.run_scripts.specs.declared.mail.Delivery.{Delivery}
use Rattle.run_scripts.specs.declared.playing.Playing.{Playing}
use Rattle.run_scripts.specs.Mail.{post_to, sent}
use Rattle.run_scripts.specs.Making.{Given, Making, Going, most_entries, bench_at, words_said, next_word, after_cry}
use Rattle.run_scripts.specs.Making.{cries, cries_bytes}
use Rattle.run_scripts.specs.Playing.{IsMaking, IsPlaying, IsMail, IsKeptAt, Goes, slots_of, has_slot, new_posts}
use Rattle.run_scripts.specs.Crying.{IsNextWord, HasCried}
use Rattle.world_history.proofs.Addressed.{few_actors}
use Rattle.run_scripts.proofs.KindsAreFew.{kinds_are_few}
use Rattle.run_scripts.proofs.EventAdds.{may_cry, runs, sound_after_cry}
use Rattle.run_scripts.proofs.EventPlayed.{of_bench, kept_here, its_running, one_has_slot}
use Rattle.run_scripts.proofs.CryAdds.{next_is, no_next, full_cry, cry_is, cry_acted}
use Rattle.plain_lists.proofs.Lists.{all_weaker, all_at}
use Rattle.world_history.proofs.WordsSigned.{signed_so, after_some}

pub spoke : (P : BenchState → Type 0) (b new : BenchState) (w : Word) → new ≡ after_word b w →
    ((n : ℕ) → P (signed_so b n)) → P new
spoke P b new w is all = subst P (sym is) (after_some P b (word_body b w) all)

-- a cry is an event of an intruded master
pub cry_fits : (b : BenchState) (bytes : List ℕ) → b.actor < masters_in b.world →
    (setup_in b).intruded b.actor ≡ true → (setup_in b).fits b.actor (Cry bytes) ≡ true
cry_fits b bytes master intruded =
    (setup_goes_by b.world).fits b.actor (Cry bytes)
    ∙ (and_parts (is_there b.world b.actor) (fits_in b.world b.actor (Cry bytes))
    (may_cry b.world b.actor bytes
    (and_from (nat_lt b.actor (masters_in b.world)) (has_master b.world.settings.intruded b.actor)
    (lt-ltb b.actor (masters_in b.world) master)
    (sym ((setup_goes_by b.world).intruded b.actor) ∙ intruded)))).1

-- what was said, as the call answers it
pub none_said : (o : Option (Vec ℕ Global)) (says : Option (List ℕ)) →
    option_map (λ (v : Vec ℕ Global). v.items) o ≡ says → o ≡ None → None ≡ says
none_said o says same is = sym (ap (option_map (λ (v : Vec ℕ Global). v.items)) is) ∙ same

pub some_said : (o : Option (Vec ℕ Global)) (says : Option (List ℕ)) (v : Vec ℕ Global) (bytes : List ℕ) →
    option_map (λ (v : Vec ℕ Global). v.items) o ≡ says → o ≡ Some v
    → bytes ≡ v.items → Some bytes ≡ says
some_said o says v bytes same is made = ap Some made ∙ sym (ap (option_map (λ (v : Vec ℕ Global). v.items)) is) ∙ same

pub cried_more : (old new : KeptState) (spoke : BenchState) (stamp : ℕ) (w : Word) (event : Event)
    (bytes copy : List ℕ) → spoke ≡ after_word old.bench w → event ≡ Cry copy → copy ≡ bytes
    → new.bench ≡ with_entry spoke stamp event → new.is_spent ≡ false → HasCried old stamp w (Some bytes) new
cried_more old new spoke stamp w event bytes copy spoken is same entry works = (
  entry ∙ ap (λ (b : BenchState). with_entry b stamp event) spoken
      ∙ ap (λ (e : Event). with_entry (after_word old.bench w) stamp e) (is ∙ ap Cry same),
  works,
)

-- an intruded master is there
pub intruded_there : (c : Contents) (master : ℕ) → is_intruded c master ≡ true → is_there c master ≡ true
intruded_there c master intruded =
    let parts = and_parts (nat_lt master (masters_in c)) (has_master c.settings.intruded master) intruded in
    lt-ltb master (actors_in c) (omega (arith, ltb-true master (masters_in c) parts.0))

pub its_master : (g : Given) (p : Playing) (master : ℕ) (k : KeptState) → IsPlaying g p →
    is_intruded g.scenario master ≡ true → k ≡ get_or p.kept.items master k
    → k.bench.actor < masters_in k.bench.world
unfolding bench_at
its_master g p master k playing intruded at =
    of_bench (λ b. b.actor < masters_in b.world) g playing.making p master k playing.is
    (intruded_there g.scenario master intruded) at
    (ltb-true master (masters_in g.scenario)
    (and_parts (nat_lt master (masters_in g.scenario)) (has_master g.scenario.settings.intruded master) intruded).0)

pub it_is_intruded : (g : Given) (p : Playing) (master : ℕ) (k : KeptState) → IsPlaying g p →
    is_intruded g.scenario master ≡ true → k ≡ get_or p.kept.items master k
    → (setup_in k.bench).intruded k.bench.actor ≡ true
unfolding bench_at
it_is_intruded g p master k playing intruded at =
    of_bench (λ b. (setup_in b).intruded b.actor ≡ true) g playing.making p master k playing.is
    (intruded_there g.scenario master intruded) at
    ((setup_goes_by g.scenario).intruded master
    ∙ (and_parts (nat_lt master (masters_in g.scenario)) (has_master g.scenario.settings.intruded master)
    intruded).1)

pub it_runs : (g : Given) (p : Playing) (master : ℕ) (k : KeptState) → IsScenario g.scenario → IsPlaying g p →
    is_intruded g.scenario master ≡ true → k ≡ get_or p.kept.items master k
    → halted_in k.bench ≡ false
it_runs g p master k valid playing intruded at =
    its_running g p master k playing (intruded_there g.scenario master intruded) at
    (λ m is. runs g m master valid intruded)

-- what is known of a word at its place
pub word_there : (c : Contents) (words : List Saying) (place : ℕ) (s : Saying) → are_sayings_of c words ≡ true →
    place < length words → s ≡ get_or words place s → is_saying_of c s ≡ true
word_there c words place s all below at = all_at (is_saying_of c) words place s all below at

pub word_accepted : (c : Contents) (s : Saying) → is_saying_of c s ≡ true → IsTrue (is_accepted s.word)
unfolding is_saying_of
word_accepted c s accepted = (and_parts (is_accepted s.word) (list_all (is_there c) s.to) accepted).0

pub word_to : (c : Contents) (s : Saying) → is_saying_of c s ≡ true → list_all (is_there c) s.to ≡ true
unfolding is_saying_of
word_to c s accepted = (and_parts (is_accepted s.word) (list_all (is_there c) s.to) accepted).1

there_below : (c : Contents) (a : ℕ) → IsScenario c → is_there c a ≡ true → nat_lt a 26 ≡ true
there_below c a valid there =
    lt-ltb a 26 (let few = few_actors c valid in let below = ltb-true a (actors_in c) there in omega arith)

pub to_few : (c : Contents) (to : List ℕ) → IsScenario c → list_all (is_there c) to ≡ true →
    list_all (λ a. nat_lt a 26) to ≡ true
to_few c to valid there = all_weaker (is_there c) (λ a. nat_lt a 26) to (λ a here. there_below c a valid here) there

slots_of_cried : (to : List ℕ) (w : Setup) (actors slots from stamp : ℕ) (frames : List (Signed Body)) → actors ≤ 26 →
    slots ≡ 22 * actors → from < actors
    → list_all (has_slot slots) (map (post_to to w from stamp 0) frames) ≡ true
slots_of_cried to w actors slots from stamp [] few all there = refl
slots_of_cried to w actors slots from stamp (f ∷ rest) few all there =
    let p : Post = post_to to w from stamp 0 f in
    and_from (has_slot slots p) (list_all (has_slot slots) (map (post_to to w from stamp 0) rest))
    (one_has_slot actors slots p few all there (kinds_are_few f.body))
    (slots_of_cried to w actors slots from stamp rest few all there)

pub cried_slots : (g : Given) (p : Playing) (master stamp : ℕ) (to : List ℕ) (frames : List (Signed Body))
    (posts : List Post) → IsScenario g.scenario → IsPlaying g p → is_intruded g.scenario master ≡ true
    → posts ≡ map (post_to to (setup_of g.scenario) master stamp 0) frames →
    list_all (has_slot (length p.mail.slots.items)) posts ≡ true
cried_slots g p master stamp to frames posts valid playing intruded are =
    ap (list_all (has_slot (length p.mail.slots.items))) are
    ∙ slots_of_cried to (setup_of g.scenario) (actors_in g.scenario) (length p.mail.slots.items) master stamp frames
    (few_actors g.scenario valid)
    (sym (length-map p.mail.slots.items (λ v. v.items)) ∙ playing.is.mail.slots.all)
    (ltb-true master (actors_in g.scenario) (intruded_there g.scenario master intruded))

-- the place of a master's count of words
pub said_there : (g : Given) (p : Playing) (master : ℕ) → IsPlaying g p → is_intruded g.scenario master ≡ true →
    master < length p.said.items
said_there g p master playing intruded =
    omega (
      arith,
      playing.is.speakers,
      ltb-true master (actors_in g.scenario) (intruded_there g.scenario master intruded),
    )

-- the next word is what is found
pub left_is : (g : Given) (m : Making) (p : Playing) (master place : ℕ) (s : Saying) → IsMaking g m p →
    is_intruded g.scenario master ≡ true
    → IsNextWord g.sayings (get_or p.said.items master 0) master place → s ≡ get_or g.sayings place s
    → drop (words_said (own m.history master)) (own_words master g.sayings) ≡ s
    ∷ own_words master (drop (place + 1) g.sayings)
left_is g m p master place s is intruded next at =
    sym (is.said master (ltb-true master (actors_in g.scenario) (intruded_there g.scenario master intruded)))
    ∙ next.first s at

pub says_as : (g : Given) (m : Making) (p : Playing) (master : ℕ) (k : KeptState) (s : Saying) (o : Option (List ℕ)) →
    IsMaking g m p → is_intruded g.scenario master ≡ true
    → k ≡ get_or p.kept.items master k → o ≡ spoken k.bench s.word → spoken (bench_at g m.history master) s.word ≡ o
says_as g m p master k s o is intruded at says =
    sym (says ∙ ap (λ (b : BenchState). spoken b s.word)
    (kept_here g m p master k is (intruded_there g.scenario master intruded) at).bench)

-- the ways in which a cry goes
pub unsaid_goes : (g : Given) (m : Making) (p : Playing) (master place : ℕ) (k : KeptState) (s : Saying) →
    IsMaking g m p → is_intruded g.scenario master ≡ true → p.entries < most_entries
    → IsNextWord g.sayings (get_or p.said.items master 0) master place → s ≡ get_or g.sayings place s →
    k ≡ get_or p.kept.items master k → None ≡ spoken k.bench s.word
    → cries g master m ≡ Err stop.NoFrame
unsaid_goes g m p master place k s is intruded room next at here says =
    cry_is g m master s None (next_is g m master s (own_words master (drop (place + 1) g.sayings))
    (left_is g m p master place s is intruded next at))
    (lt-leb most_entries (length m.history) (omega (arith, is.entries)))
    (says_as g m p master k s None is intruded here says)

pub said_goes : (g : Given) {done : Unit {0}} (m : Making) (p q : Playing) (master place : ℕ) (k after_it : KeptState)
    (s : Saying) (bytes : List ℕ) (posts : List Post) → IsMaking g m p
    → IsScenario g.scenario → are_sayings_of g.scenario g.sayings ≡ true → is_intruded g.scenario master ≡ true →
    p.entries < most_entries
    → IsNextWord g.sayings (get_or p.said.items master 0) master place → s ≡ get_or g.sayings place s →
    k ≡ get_or p.kept.items master k → Some bytes ≡ spoken k.bench s.word
    → HasCried k p.entries s.word (Some bytes) after_it
    → posts ≡ map (post_to s.to (setup_of g.scenario) master p.entries 0) (cried (Cry bytes))
    → q.kept.items ≡ set p.kept.items master after_it → q.entries ≡ p.entries + 1
    → ((actors : ℕ) (before : List Post) (waiting : List Delivery) → IsMail actors before waiting p.mail →
    IsMail actors (before ++ posts) (waiting ++ flat_map sent posts) q.mail)
    → q.lost.items ≡ p.lost.items → q.said.items ≡ set p.said.items master (place + 1) →
    Goes g (Ok done) (cries g master m) q
said_goes g {done} m p q master place k after_it s bytes posts is valid words intruded room next at here says has
    posted kept entries mail lost said =
    let there = intruded_there g.scenario master intruded in
    let left = left_is g m p master place s is intruded next at in
    let spoke = says_as g m p master k s (Some bytes) is intruded here says in
    let few : length m.history < most_entries = omega (arith, is.entries) in
    let bench = kept_here g m p master k is there here in (
      after_cry g master s.to bytes m,
      cry_is g m master s (Some bytes) (next_is g m master s (own_words master (drop (place + 1) g.sayings)) left)
          (lt-leb most_entries (length m.history) few) spoke,
      cry_acted g m p q master s bytes after_it posts place is
          (sound_after_cry g m master s.to bytes valid is.sound few intruded
          (word_to g.scenario s (word_there g.scenario g.sayings place s words next.below at)))
          (ltb-true master (actors_in g.scenario) there) left spoke kept
          (has.0 ∙ ap (λ (b : BenchState). with_entry (after_word b s.word) p.entries (Cry bytes)) bench.bench
          ∙ ap (λ (n : ℕ). with_entry (after_word (bench_at g m.history master) s.word) n (Cry bytes)) is.entries)
          has.1 (entries ∙ ap (λ (n : ℕ). n + 1) is.entries)
          (posted ∙ ap (λ (n : ℕ). map (post_to s.to (setup_of g.scenario) master n 0) (cried (Cry bytes))) is.entries)
          (mail (actors_in g.scenario) m.posts m.waiting is.mail) lost said,
    )

pub no_word_goes : (g : Given) (m : Making) (p : Playing) (master : ℕ) → IsMaking g m p →
    is_intruded g.scenario master ≡ true
    → own_words master (drop (get_or p.said.items master 0) g.sayings) ≡ [] → cries g master m ≡ Err stop.NoFrame
no_word_goes g m p master is intruded none =
    no_next g m master (sym (is.said master
    (ltb-true master (actors_in g.scenario) (intruded_there g.scenario master intruded))) ∙ none)

-- a list has an element at each of its places
one_there : (words : List Saying) (place : ℕ) → place < length words → (s : Saying) × (s ≡ get_or words place s)
one_there [] place below = absurd (omega arith)
one_there (x ∷ xs) zero below = (x, refl)
one_there (x ∷ xs) (suc n) below = one_there xs n (omega arith)

pub full_cry_goes : (g : Given) (m : Making) (p : Playing) (master place : ℕ) → IsMaking g m p →
    is_intruded g.scenario master ≡ true → most_entries ≤ p.entries
    → IsNextWord g.sayings (get_or p.said.items master 0) master place → cries g master m ≡ Err stop.TooMany
full_cry_goes g m p master place is intruded full next =
    let one = one_there g.sayings place next.below in
    full_cry g m master one.0 (next_is g m master one.0 (own_words master (drop (place + 1) g.sayings))
    (left_is g m p master place one.0 is intruded next one.1))
    (le-leb most_entries (length m.history) (omega (arith, is.entries)))

-- what the search for a word answers
pub found_none : (o : Option ℕ) (words : List Saying) (from master : ℕ) →
    MatchOption o (own_words master (drop from words) ≡ []) (IsNextWord words from master) → o ≡ None
    → own_words master (drop from words) ≡ []
found_none None words from master h is = h
found_none (Some place) words from master h is = absurd cc

pub found_some : (o : Option ℕ) (words : List Saying) (from master place : ℕ) →
    MatchOption o (own_words master (drop from words) ≡ []) (IsNextWord words from master) → o ≡ Some place
    → IsNextWord words from master place
found_some None words from master place h is = absurd cc
found_some (Some at) words from master place h is = let same : at ≡ place = cc in
    subst (IsNextWord words from master) same h

-- the same where the search began at the place that is kept for the master
pub found_none_at : (said : List ℕ) (from : ℕ) (o : Option ℕ) (words : List Saying) (master : ℕ) →
    from ≡ get_or said master from → master < length said
    → MatchOption o (own_words master (drop from words) ≡ []) (IsNextWord words from master) → o ≡ None →
    own_words master (drop (get_or said master 0) words) ≡ []
found_none_at said from o words master at below h is =
    subst (λ (n : ℕ). own_words master (drop n words) ≡ []) (get_or_read said master from below at 0)
    (found_none o words from master h is)

pub found_some_at : (said : List ℕ) (from : ℕ) (o : Option ℕ) (words : List Saying) (master place : ℕ) →
    from ≡ get_or said master from → master < length said
    → MatchOption o (own_words master (drop from words) ≡ []) (IsNextWord words from master) → o ≡ Some place →
    IsNextWord words (get_or said master 0) master place
found_some_at said from o words master place at below h is =
    subst (λ (n : ℕ). IsNextWord words n master place) (get_or_read said master from below at 0)
    (found_some o words from master place h is)

-- what is posted of a cry, in other words
pub posts_as : (to others : List ℕ) (w : Setup) (from stamp : ℕ) (raw bytes : List ℕ) (posts : List Post) →
    posts ≡ map (post_to to w from stamp 0) (cried (Cry raw)) → to ≡ others → raw ≡ bytes
    → posts ≡ map (post_to others w from stamp 0) (cried (Cry bytes))
posts_as to others w from stamp raw bytes posts are one two =
    are ∙ ap (λ (t : List ℕ). map (post_to t w from stamp 0) (cried (Cry raw))) one
    ∙ ap (λ (bs : List ℕ). map (post_to others w from stamp 0) (cried (Cry bs))) two

pub cried_as : (old new : KeptState) (stamp : ℕ) (w : Word) (o other : Option (List ℕ)) → HasCried old stamp w o new →
    o ≡ other → HasCried old stamp w other new
cried_as old new stamp w o other h same = subst (λ (x : Option (List ℕ)). HasCried old stamp w x new) same h
