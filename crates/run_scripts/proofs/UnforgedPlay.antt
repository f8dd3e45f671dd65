-- Without raw words nothing is forged in a play: each entry takes what was said by those whose names it bears, and each
-- cry is of frames that its master knew.
use Rattle.std.proofs.Common.{◌≡◌, ℕ, ◌+◌, ◌<◌, ◌≤◌, ◌^◌, true, false, not, List, [], ◌∷◌, ◌++◌, Some, length, map}
use Rattle.std.proofs.Common.{nat_lt, refl, sym, ◌∙◌, ap, subst, arith, inl, inr, ◌⊎◌}
use Rattle.std.specs.List.{list_all, flat_map}
use Rattle.std.proofs.lemmas.Bool.{and_parts, ltb-true, not-true}
use Rattle.plain_lists.specs.Lists.{IsIn, Each}
use Rattle.plain_lists.proofs.Members.{each_none, none_in, in_left, in_first, in_cases, in_cons_cases, in_flat_map, in_flat_map_from}
use Rattle.message_types.specs.declared.signed.Signed.{Signed}
use Rattle.message_types.specs.declared.body.Body.{Body}
use Rattle.message_types.specs.Parts.{parts}
use Rattle.play_words.specs.declared.words.Word.{Word}
use Rattle.play_words.specs.Accepted.{is_accepted, is_raw}
use Rattle.quorum_sets.specs.Masters.{has_master}
use Rattle.protocol_rules.specs.Group.{Group}
use Rattle.protocol_rules.specs.Master.{taken_frames}
use Rattle.scenario_file.specs.Reading.{Contents}
use Rattle.scenario_file.specs.Valid.{IsScenario}
use Rattle.history_rules.specs.Events.{Event, Took, Tick, Command, Field, Poll, Cry, Skip, Restart, Entry, frame_taken}
use Rattle.history_rules.specs.Setup.{Setup, is_correct, own}
use Rattle.history_rules.specs.Legal.{Stands, IsLegal}
use Rattle.history_rules.specs.Audit.{HasSaid, parts_taken}
use Rattle.history_laws.proofs.Forged.{forged_counts}
use Rattle.history_laws.proofs.EntryByEntry.{last_or_before, nothing_stands}
use Rattle.world_rules.specs.Frames.{cried, overheard}
use Rattle.world_rules.specs.Scenarios.{setup_of, masters_in}
use Rattle.world_rules.proofs.Fields.{group_is, sizes_of_group}
use Rattle.world_history.specs.State.{entry_at, spoken}
use Rattle.world_history.specs.KeptState.{frames_kept}
use Rattle.script_lines.specs.declared.saying.Saying.{Saying}
use Rattle.script_laws.specs.Accepted.{is_there, is_saying_of, are_sayings_of}
use Rattle.script_laws.specs.Accepted.{is_intruded}
use Rattle.run_scripts.specs.declared.mail.Held.{Held}
use Rattle.run_scripts.specs.declared.mail.Post.{Post}
use Rattle.run_scripts.specs.Mail.{post_to}
use Rattle.run_scripts.specs.Making.{Given, Making, bench_at}
use Rattle.run_scripts.specs.Making.{stamp_said, posts_at, after}
use Rattle.run_scripts.specs.Making.{takes}
use Rattle.run_scripts.specs.Making.{after_cry, cries}
use Rattle.run_scripts.specs.Making.{played, beginning}
use Rattle.run_scripts.specs.Playing.{IsSound}
use Rattle.run_scripts.specs.Laws.{AreNotRaw, PlayedIsUnforged}
use Rattle.world_history.proofs.Addressed.{few_actors, few_masters}
use Rattle.run_scripts.proofs.PlayKeeps.{Keeps, TakesAs, Cries, with_event, after_is, after_cry_is, entry_is}
use Rattle.run_scripts.proofs.PlayKeeps.{next_passes, all_played, beginning_sound, beginning_kept}
use Rattle.run_scripts.proofs.UnforgedParts.{HasDigest, IsBorne, IsHeard, IsHonest, borne_on, borne_whole, heard_on}
use Rattle.run_scripts.proofs.UnforgedParts.{taken_borne, taken_heard}
use Rattle.run_scripts.proofs.UnforgedSaid.{frame_borne}
use Rattle.run_scripts.proofs.UnforgedCries.{incorrect, cry_heard}
use Rattle.run_scripts.proofs.UnforgedPosts.{post_from, cry_post_from, kept_from, own_from}
use Rattle.agreement.proofs.Places.{stands_in}

-- all parts of what is held were said by their signers
abbrev IsHeldBorne : Setup → List Entry → Held → Type 0
IsHeldBorne w history h = Each (IsBorne w history) (parts h.frame)

-- All that was taken was said by those whose names it bears, and each cry is of frames that its master knew.
record IsClean (w : Setup) (history : List Entry) : Type 0 where
  honest : IsHonest w history
  crying : (e : Entry) → IsIn e history → Each (IsHeard w history) (flat_map parts (cried e.event))

-- an entry more
honest_more : (w : Setup) (history : List Entry) (e : Entry) → IsHonest w history → IsLegal w (history ++ e ∷ []) →
    Each (IsBorne w history) (parts_taken e) → IsHonest w (history ++ e ∷ [])
honest_more w history e is legal borne = record {
  legal = legal;
  unforged = record { said = λ before x s p h. at before x p h (last_or_before s) };
  digests = λ before x s p h. digest before x p h (last_or_before s);
}
  where
    at : (before : List Entry) (x : Entry) (p : Signed Body) → IsIn p (parts_taken x) →
        ((before ≡ history) × (x ≡ e)) ⊎ Stands history before x
        → is_correct w p.signer ≡ true → HasSaid before p.signer p.body
    at before x p h (inl last) right =
        subst (λ (b : List Entry). HasSaid b p.signer p.body) (sym last.0)
        ((borne p (subst (λ (y : Entry). IsIn p (parts_taken y)) last.1 h)).said right)
    at before x p h (inr s) right = is.unforged.said before x s p h right

    digest : (before : List Entry) (x : Entry) (p : Signed Body) → IsIn p (parts_taken x) →
        ((before ≡ history) × (x ≡ e)) ⊎ Stands history before x
        → HasDigest p.body
    digest before x p h (inl last) = (borne p (subst (λ (y : Entry). IsIn p (parts_taken y)) last.1 h)).digest
    digest before x p h (inr s) = is.digests before x s p h

cries_more : (w : Setup) (history : List Entry) (e : Entry) →
    ((x : Entry) → IsIn x history → Each (IsHeard w history) (flat_map parts (cried x.event)))
    → Each (IsHeard w history) (flat_map parts (cried e.event)) → (x : Entry) → IsIn x (history ++ e ∷ []) →
    Each (IsHeard w (history ++ e ∷ [])) (flat_map parts (cried x.event))
cries_more w history e before now x h p k = elim (in_cases history h) [
  | inl earlier ↦ heard_on (e ∷ []) (before x earlier p k)
  | inr last ↦ elim (in_cons_cases last) [
    | inl same ↦ heard_on (e ∷ []) (now p (subst (λ (y : Entry). IsIn p (flat_map parts (cried y.event))) same k))
    | inr none ↦ absurd (none_in none)
  ]
]

-- an event that takes what may be taken cries nothing
taken_is : (w : Setup) (history : List Entry) (event : Event) → TakesAs (IsHeldBorne w) history event
    → Each (IsBorne w history) (flat_map parts (taken_frames (frame_taken event))) × (cried event ≡ [])
taken_is w history (Took stamp place frame) borne = (
  λ p k. elim (in_cases (parts frame) k) [ inl part ↦ borne p part | inr none ↦ absurd (none_in none) ],
  refl,
)
taken_is w history Tick takes = (each_none _, refl)
taken_is w history (Command op) takes = (each_none _, refl)
taken_is w history (Field area place value) takes = (each_none _, refl)
taken_is w history Poll takes = (each_none _, refl)
taken_is w history (Cry bytes) takes = absurd takes
taken_is w history Skip takes = (each_none _, refl)
taken_is w history Restart takes = (each_none _, refl)

clean_more : (w : Setup) (history : List Entry) (e : Entry) (event : Event) → IsClean w history →
    IsLegal w (history ++ e ∷ []) → e.event ≡ event
    → Each (IsBorne w history) (flat_map parts (taken_frames (frame_taken event)))
    → Each (IsHeard w history) (flat_map parts (cried event)) → IsClean w (history ++ e ∷ [])
clean_more w history e event clean legal own_event borne heard = record {
  honest = honest_more w history e clean.honest legal
      (subst (λ (ev : Event). Each (IsBorne w history) (flat_map parts (taken_frames (frame_taken ev))))
      (sym own_event) borne);
  crying = cries_more w history e clean.crying
      (subst (λ (ev : Event). Each (IsHeard w history) (flat_map parts (cried ev))) (sym own_event) heard);
}

entry_clean : (g : Given) (m : Making) (actor : ℕ) (event : Event) → IsClean (setup_of g.scenario) m.history →
    IsSound g.scenario (after g actor event m) → TakesAs (IsHeldBorne (setup_of g.scenario)) m.history event
    → IsClean (setup_of g.scenario) (with_event g m actor event)
entry_clean g m actor event clean sound takes =
    let w = setup_of g.scenario in
    let taken = taken_is w m.history event takes in
    clean_more w m.history (entry_at (bench_at g m.history actor) (length m.history) event) event clean
    (subst (IsLegal w) (after_is g actor event m).0 sound.legal)
    (entry_is (bench_at g m.history actor) (length m.history) event).0 taken.0
    (subst (λ (fs : List (Signed Body)). Each (IsHeard w m.history) (flat_map parts fs)) (sym taken.1) (each_none _))

bench_is : (g : Given) (history : List Entry) (actor : ℕ)
    → ((bench_at g history actor).list ≡ own history actor) × ((bench_at g history actor).actor ≡ actor)
    × ((bench_at g history actor).world ≡ g.scenario)
unfolding bench_at
bench_is g history actor = (refl, refl, refl)

-- the frames posted at an event
kept_borne : (g : Given) (history : List Entry) (actor stamp : ℕ) (event : Event) (f : Signed Body)
    → IsHonest (setup_of g.scenario) (history ++ entry_at (bench_at g history actor) stamp event ∷ []) →
    IsIn f (frames_kept (bench_at g history actor) stamp event)
    → Each (IsBorne (setup_of g.scenario) (history ++ entry_at (bench_at g history actor) stamp event ∷ [])) (parts f)
kept_borne g history actor stamp event f honest among =
    let b = bench_at g history actor in
    let e = entry_at b stamp event in
    let from = kept_from b stamp event f among in
    let signer : f.signer ≡ actor = from.2 ∙ (bench_is g history actor).1 in
    let within : IsIn from.0 (history ++ e ∷ []) × (from.0.actor ≡ actor) = elim from.1 [
      | inl old ↦
          let found = own_from history actor from.0
          (subst (λ (es : List Entry). IsIn from.0 es) (bench_is g history actor).0 old) in
          (in_left (e ∷ []) found.0, found.1)
      | inr new ↦ (
        subst (λ (x : Entry). IsIn x (history ++ e ∷ [])) (sym new) (in_first history []),
        ap (λ (x : Entry). x.actor) new ∙ (entry_is b stamp event).1 ∙ (bench_is g history actor).1,
      )
    ] in
    frame_borne g.scenario (history ++ e ∷ []) from.0 f honest within.0 (signer ∙ sym within.1) from.3

post_borne : (g : Given) (history : List Entry) (actor : ℕ) (event : Event) (p : Post) (h : Held)
    → IsHonest (setup_of g.scenario) (history ++ entry_at (bench_at g history actor) (length history) event ∷ []) →
    IsIn p (posts_at g history actor event) → p.held ≡ Some h
    → IsHeldBorne (setup_of g.scenario) (history ++ entry_at (bench_at g history actor) (length history) event ∷ []) h
unfolding posts_at
post_borne g history actor event p h honest among is =
    let from = post_from (setup_of g.scenario) actor (stamp_said (own history actor) (length history) event) 0
    (frames_kept (bench_at g history actor) (length history) event) p h among is in
    subst (λ (f : Signed Body). Each
    (IsBorne (setup_of g.scenario) (history ++ entry_at (bench_at g history actor) (length history) event ∷ []))
    (parts f)) (sym from.2)
    (kept_borne g history actor (length history) event from.0 honest from.1)

cry_borne : (g : Given) (m : Making) (master : ℕ) (to bytes : List ℕ) (e : Entry) (p : Post) (h : Held) →
    Each (IsHeard (setup_of g.scenario) m.history) (flat_map parts (cried (Cry bytes)))
    → IsIn p (map (post_to to (setup_of g.scenario) master (length m.history) 0) (cried (Cry bytes))) →
    p.held ≡ Some h → IsHeldBorne (setup_of g.scenario) (m.history ++ e ∷ []) h
cry_borne g m master to bytes e p h heard among is =
    let from = cry_post_from to (setup_of g.scenario) master (length m.history) (cried (Cry bytes)) p h among is in
    subst (λ (f : Signed Body). Each (IsBorne (setup_of g.scenario) (m.history ++ e ∷ [])) (parts f)) (sym from.2)
    (λ q k. borne_on (e ∷ []) (heard q (in_flat_map parts from.1 k)).borne)

-- What a master knows.
few_in_all : (c : Contents) → IsScenario c → (setup_of c).group.n + (setup_of c).group.clients ≤ 2 ^ 32
few_in_all c valid = subst (λ (g : Group). g.n + g.clients ≤ 2 ^ 32) (sym (group_is c))
    (let few = few_actors c valid in omega arith)

all_overheard : (g : Given) (m : Making) (actor : ℕ) → IsScenario g.scenario →
    IsClean (setup_of g.scenario) m.history →
    Each (IsHeard (setup_of g.scenario) m.history) (overheard (own m.history actor))
unfolding overheard
all_overheard g m actor valid clean p h =
    let w = setup_of g.scenario in
    let entry = in_flat_map_from (λ (e : Entry). flat_map parts (taken_frames (frame_taken e.event) ++ cried e.event))
    (own m.history actor) h in
    let e = entry.0 in
    let within = (own_from m.history actor e entry.1).0 in
    let frame = in_flat_map_from parts (taken_frames (frame_taken e.event) ++ cried e.event) entry.2 in
    elim (in_cases (taken_frames (frame_taken e.event)) frame.1) [
      | inl took ↦
          let place = stands_in m.history within in
          taken_heard w m.history (length place.0) e.event (sizes_of_group g.scenario valid)
          (few_in_all g.scenario valid) (clean.honest.legal.entries place.0 e place.1).taken
          (λ q k. borne_whole place.1 (taken_borne w m.history place.0 e clean.honest place.1 q k)) p
          (in_flat_map parts took frame.2)
      | inr cry ↦ clean.crying e within p (in_flat_map parts cry frame.2)
    ]

-- a cry
low_master : (c : Contents) (master : ℕ) → IsScenario c → is_intruded c master ≡ true → master < 2 ^ 32
low_master c master valid intruded =
    let below = ltb-true master (masters_in c)
    (and_parts (nat_lt master (masters_in c)) (has_master c.settings.intruded master) intruded).0 in
    let few = few_masters c valid in
    omega arith

spoken_heard : (g : Given) (m : Making) (master : ℕ) (w : Word) (bytes : List ℕ) → IsScenario g.scenario →
    is_intruded g.scenario master ≡ true → IsClean (setup_of g.scenario) m.history → is_accepted w ≡ true
    → is_raw w ≡ false → spoken (bench_at g m.history master) w ≡ Some bytes →
    Each (IsHeard (setup_of g.scenario) m.history) (flat_map parts (cried (Cry bytes)))
unfolding bench_at
spoken_heard g m master w bytes valid intruded clean accepted plain is =
    cry_heard (bench_at g m.history master) m.history valid (low_master g.scenario master valid intruded)
    (incorrect g.scenario master intruded) (all_overheard g m master valid clean) w bytes accepted plain is

-- the bytes that the next word comes to
next_heard : (g : Given) (m : Making) (master : ℕ) (s : Saying) (bytes : List ℕ) → IsScenario g.scenario →
    are_sayings_of g.scenario g.sayings ≡ true → AreNotRaw g.sayings
    → IsClean (setup_of g.scenario) m.history → Cries g m master s bytes →
    Each (IsHeard (setup_of g.scenario) m.history) (flat_map parts (cried (Cry bytes)))
unfolding is_saying_of
next_heard g m master s bytes valid words plain clean cries =
    let accepted = and_parts (is_accepted s.word) (list_all (is_there g.scenario) s.to)
    (next_passes (is_saying_of g.scenario) g m master s words cries.next) in
    let no_bytes = next_passes (λ (x : Saying). not (is_raw x.word)) g m master s plain cries.next in
    spoken_heard g m master s.word bytes valid cries.intruded clean accepted.0
    (not-true (is_raw s.word) no_bytes) cries.spoke

cry_clean : (g : Given) (m : Making) (master : ℕ) (s : Saying) (bytes : List ℕ) →
    IsClean (setup_of g.scenario) m.history → IsSound g.scenario (after_cry g master s.to bytes m)
    → Each (IsHeard (setup_of g.scenario) m.history) (flat_map parts (cried (Cry bytes)))
    → IsClean (setup_of g.scenario) (with_event g m master (Cry bytes))
cry_clean g m master s bytes clean sound heard =
    let w = setup_of g.scenario in
    clean_more w m.history (entry_at (bench_at g m.history master) (length m.history) (Cry bytes)) (Cry bytes) clean
    (subst (IsLegal w) (after_cry_is g master s.to bytes m).0 sound.legal)
    (entry_is (bench_at g m.history master) (length m.history) (Cry bytes)).0 (each_none _) heard

clean_keeps : (g : Given) → IsScenario g.scenario → are_sayings_of g.scenario g.sayings ≡ true →
    AreNotRaw g.sayings → Keeps g (IsClean (setup_of g.scenario)) (IsHeldBorne (setup_of g.scenario))
clean_keeps g valid words plain = record {
  goes_on = λ history more h borne p k. borne_on more (borne p k);
  entry = λ m actor event kept sound takes. entry_clean g m actor event kept.good sound takes;
  posted = λ m actor event kept good p h among is. post_borne g m.history actor event p h good.honest among is;
  cry = λ m master s bytes kept sound cries. cry_clean g m master s bytes kept.good sound
      (next_heard g m master s bytes valid words plain kept.good cries);
  cry_posted = λ m master s bytes kept cries p h among is. cry_borne g m master s.to bytes
      (entry_at (bench_at g m.history master) (length m.history) (Cry bytes)) p h
      (next_heard g m master s bytes valid words plain kept.good cries) among is;
}

beginning_clean : (g : Given) → IsClean (setup_of g.scenario) []
beginning_clean g = record {
  honest = record {
    legal = (beginning_sound g.scenario).legal;
    unforged = record { said = λ before e s p h right. absurd (nothing_stands s) };
    digests = λ before e s. absurd (nothing_stands s);
  };
  crying = λ e h. absurd (none_in h);
}

pub played_is_unforged : PlayedIsUnforged
unfolding played
played_is_unforged g lines history valid may words plain is =
    let all = all_played g _ _ (clean_keeps g valid words plain) lines beginning history valid words may
    (beginning_kept g (beginning_clean g)) is in
    (forged_counts (setup_of g.scenario) history).1
    (subst (IsHonest (setup_of g.scenario)) all.1 all.2.good.honest).unforged
