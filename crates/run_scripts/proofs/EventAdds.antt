-- An event more in a play: what it makes of the history in the making, and of the play at work.
use Rattle.std.proofs.Common.{◌≡◌, ℕ, ◌+◌, ◌<◌, Bool, true, false, cond, ◌&&◌, not, List, []}
use Rattle.std.proofs.Common.{◌∷◌, ◌++◌, filter, length, map, take, drop, get_or, set}
use Rattle.std.proofs.Common.{nat_le, nat_lt, refl, sym, ◌∙◌, ap, subst, arith, inl, inr, ◌⊎◌}
use Rattle.std.specs.List.{list_all, list_any, flat_map}
use Rattle.std.proofs.lemmas.Bool.{and_parts, and_from, cases_eq, lt-ltb, ltb-true}
use Rattle.std.proofs.lemmas.List.{append-nil, length_push, length-set, get_or-set_same, get_or-set_other}
use Rattle.std.proofs.lemmas.List.Elements.{filter-append}
use Rattle.scenario_file.specs.Reading.{Contents}
use Rattle.scenario_file.specs.Valid.{IsScenario}
use Rattle.protocol_rules.specs.Group.{Group}
use Rattle.history_rules.specs.Events.{Event, Cry, Entry, is_restart}
use Rattle.history_rules.specs.Setup.{Setup, own}
use Rattle.history_rules.specs.Keeping.{is_halted, keeper_calls}
use Rattle.quorum_sets.specs.Masters.{has_master}
use Rattle.world_rules.specs.Frames.{cried}
use Rattle.history_rules.specs.Legal.{TakesWell, IsLegal, says_in}
use Rattle.history_laws.specs.Own.{IsOwnEntry}
use Rattle.history_laws.proofs.EntryByEntry.{one_more_is_legal, own_entry_is_legal}
use Rattle.world_rules.specs.Scenarios.{setup_of, masters_in, fits_in, actors_in}
use Rattle.world_rules.proofs.Fields.{group_is, setup_goes_by}
use Rattle.world_history.specs.State.{BenchState, entry_at, with_entry}
use Rattle.world_history.specs.KeptState.{KeptState}
use Rattle.script_lines.specs.declared.saying.Saying.{Saying}
use Rattle.script_lines.specs.Given.{own_words}
use Rattle.run_scripts.specs.declared.mail.Post.{Post}
use Rattle.run_scripts.specs.declared.playing.Playing.{Playing}
use Rattle.script_laws.specs.Accepted.{is_there, may_do, is_intruded}
use Rattle.run_scripts.specs.Mail.{sent, post_to}
use Rattle.play_words.specs.Accepted.{is_raw}
use Rattle.run_scripts.specs.Making.{Given, Making, is_cry, words_said, words_signed, bench_at, has_halted}
use Rattle.run_scripts.specs.Making.{most_entries, stamp_said, posts_at, after, after_cry}
use Rattle.run_scripts.specs.Playing.{IsSound, IsMaking, IsMail, IsKeptAt, IsSaidTo, new_posts, is_posted_well}
use Rattle.run_scripts.specs.Playing.{is_due}
use Rattle.world_history.proofs.Lists.{all_join}
use Rattle.run_scripts.proofs.Lists.{all_flat, filter_none}
use Rattle.run_scripts.proofs.SoundStays.{stamps_below, all_posted_later, all_due_later, posts_are_well, posts_are_due}
use Rattle.run_scripts.proofs.SoundStays.{cried_are_well, cried_are_due, stamp_not_above}
use Rattle.history_rules.proofs.Entries.{own_else, own_same}

-- the entry of an event that the actor may do comes legally
pub legal_after : (c : Contents) (history : List Entry) (actor : ℕ) (event : Event) → IsLegal (setup_of c) history →
    may_do c actor event ≡ true
    → is_halted (setup_of c) actor (own history actor) ≡ false → TakesWell (setup_of c) (length history) event
    → IsLegal (setup_of c) (history
    ++ (record {
      stamp = length history;
      actor = actor;
      event = event;
      said =
          says_in (setup_of c) actor (own history actor) event;
    }) ∷ [])
legal_after c history actor event legal may running takes =
    let both = and_parts (is_there c actor) (fits_in c actor event) may in
    let e : Entry = record {
      stamp = length history;
      actor = actor;
      event = event;
      said =
          says_in (setup_of c) actor (own history actor) event;
    } in
    let own_entry : IsOwnEntry (setup_of c) actor (own history actor) e = record {
      by = refl;
      later = stamps_below (setup_of c) history actor legal;
      running = running;
      role = (setup_goes_by c).fits actor event ∙ both.1;
      taken = takes;
      said = refl;
    } in
    one_more_is_legal (setup_of c) history e legal
    (own_entry_is_legal (setup_of c) history actor e
    (subst (λ (g : Group). actor < g.n + g.clients) (sym (group_is c)) (ltb-true actor (actors_in c) both.0))
    refl own_entry)

well_if_new : (w : Setup) (now : ℕ) (again : Bool) (posts : List Post) →
    list_all (λ (p : Post). is_posted_well w now p.held) posts ≡ true
    → list_all (λ (p : Post). is_posted_well w now p.held) (cond again [] posts) ≡ true
well_if_new w now true posts well = refl
well_if_new w now false posts well = well

pub sound_after : (g : Given) (m : Making) (actor : ℕ) (event : Event) → IsSound g.scenario m →
    length m.history < most_entries
    → may_do g.scenario actor event ≡ true → has_halted g m actor ≡ false →
    TakesWell (setup_of g.scenario) (length m.history) event
    → IsSound g.scenario (after g actor event m)
unfolding after posts_at bench_at entry_at
sound_after g m actor event sound room may running takes =
    let w = setup_of g.scenario in
    let now = length m.history in
    let longer : length (m.history
    ++ (record { stamp = now; actor = actor; event = event; said = says_in w actor (own m.history actor) event })
    ∷ []) ≡ now + 1 =
    length_push m.history (record {
      stamp = now;
      actor = actor;
      event = event;
      said =
          says_in w actor (own m.history actor) event;
    }) in
    let stamp : stamp_said (own m.history actor) now event < now + 1 =
    let most = stamp_not_above now (own m.history actor) event (stamps_below w m.history actor sound.legal) in
    omega arith in
    let made = posts_at g m.history actor event in
    record {
      legal = legal_after g.scenario m.history actor event sound.legal may running takes;
      short = omega arith;
      posts = subst (λ (n : ℕ). list_all (λ (p : Post). is_posted_well w n p.held)
          (m.posts ++ cond (is_restart event) [] made) ≡ true) (sym longer)
          (all_join (λ (p : Post). is_posted_well w (now + 1) p.held) m.posts (cond (is_restart event) [] made)
          (all_posted_later w now (now + 1) m.posts (omega arith) sound.posts)
          (well_if_new w (now + 1) (is_restart event) made
          (posts_are_well w actor (stamp_said (own m.history actor) now event) 0 (now + 1) _ stamp)));
      waiting = subst (λ (n : ℕ). list_all (is_due g.scenario n) (m.waiting ++ flat_map sent made) ≡ true) (sym longer)
          (all_join (is_due g.scenario (now + 1)) m.waiting (flat_map sent made)
          (all_due_later g.scenario now (now + 1) m.waiting (omega arith) sound.waiting)
          (all_flat (is_due g.scenario (now + 1)) sent made
          (posts_are_due g.scenario actor (stamp_said (own m.history actor) now event) 0 (now + 1) _ stamp)));
    }

-- a cry comes legally of an intruded master, which never halts
never_halted : (c : Contents) (master : ℕ) (list : List Entry) → IsScenario c → is_intruded c master ≡ true →
    is_halted (setup_of c) master list ≡ false
never_halted c master list valid intruded =
    let none : (setup_of c).failing master ≡ [] = (setup_goes_by c).failing master
    ∙ valid.intruded_keep_all master
    (and_parts (nat_lt master (masters_in c)) (has_master c.settings.intruded master) intruded).1 in
    ap (list_any (λ x. nat_le 1 x && nat_le x (length (keeper_calls list)))) none

pub runs : (g : Given) (m : Making) (master : ℕ) → IsScenario g.scenario → is_intruded g.scenario master ≡ true →
    has_halted g m master ≡ false
unfolding bench_at
runs g m master valid intruded = never_halted g.scenario master (own m.history master) valid intruded

pub may_cry : (c : Contents) (master : ℕ) (bytes : List ℕ) → is_intruded c master ≡ true →
    may_do c master (Cry bytes) ≡ true
may_cry c master bytes intruded =
    let parts = and_parts (nat_lt master (masters_in c)) (has_master c.settings.intruded master) intruded in
    and_from (is_there c master) (fits_in c master (Cry bytes))
    (lt-ltb master (actors_in c) (omega (arith, ltb-true master (masters_in c) parts.0)))
    (fits_when (nat_lt master (masters_in c)) (has_master c.settings.intruded master) false _ parts.0 parts.1)
  where
    fits_when : (a b x y : Bool) → a ≡ true → b ≡ true → cond a (cond b true x) y ≡ true
    fits_when true true x y one two = refl
    fits_when true false x y one two = absurd cc
    fits_when false b x y one two = absurd cc

pub sound_after_cry : (g : Given) (m : Making) (master : ℕ) (to bytes : List ℕ) → IsScenario g.scenario →
    IsSound g.scenario m → length m.history < most_entries
    → is_intruded g.scenario master ≡ true → list_all (is_there g.scenario) to ≡ true →
    IsSound g.scenario (after_cry g master to bytes m)
unfolding after_cry bench_at entry_at
sound_after_cry g m master to bytes valid sound room intruded there =
    let w = setup_of g.scenario in
    let now = length m.history in
    let longer : length (m.history
    ++ (record {
      stamp = now;
      actor = master;
      event = Cry bytes;
      said =
          says_in w master (own m.history master) (Cry bytes);
    }) ∷ []) ≡ now + 1 =
    length_push m.history (record {
      stamp = now;
      actor = master;
      event = Cry bytes;
      said =
          says_in w master (own m.history master) (Cry bytes);
    }) in
    let before : now < now + 1 = omega arith in
    let made : List Post = map (post_to to w master now 0) (cried (Cry bytes)) in
    record {
      legal = legal_after g.scenario m.history master (Cry bytes) sound.legal
          (may_cry g.scenario master bytes intruded)
          (never_halted g.scenario master (own m.history master) valid intruded) tt;
      short = omega arith;
      posts = subst (λ (n : ℕ). list_all (λ (p : Post). is_posted_well w n p.held) (m.posts ++ made) ≡ true)
          (sym longer)
          (all_join (λ (p : Post). is_posted_well w (now + 1) p.held) m.posts made
          (all_posted_later w now (now + 1) m.posts (omega arith) sound.posts)
          (cried_are_well to w master now (now + 1) (cried (Cry bytes)) before));
      waiting = subst (λ (n : ℕ). list_all (is_due g.scenario n) (m.waiting ++ flat_map sent made) ≡ true) (sym longer)
          (all_join (is_due g.scenario (now + 1)) m.waiting (flat_map sent made)
          (all_due_later g.scenario now (now + 1) m.waiting (omega arith) sound.waiting)
          (all_flat (is_due g.scenario (now + 1)) sent made
          (cried_are_due to g.scenario master now (now + 1) (cried (Cry bytes)) before there)));
    }

-- an actor of these entries
abbrev bench_of : Given → ℕ → List Entry → BenchState
bench_of g actor list = record {
  world = g.scenario;
  actor = actor;
  list = list;
  signed =
      words_signed g.sayings actor list;
  is_spent = false;
}

pub said_same : (list : List Entry) (e : Entry) → is_cry e.event ≡ false → words_said (list ++ e ∷ []) ≡ words_said list
said_same list e quiet =
    ap length (filter-append (λ (x : Entry). is_cry x.event) list (e ∷ [])
    ∙ ap (λ (es : List Entry). filter (λ (x : Entry). is_cry x.event) list ++ es)
    (filter_none (λ (x : Entry). is_cry x.event) e quiet)
    ∙ append-nil (filter (λ (x : Entry). is_cry x.event) list))

-- another actor stays as it was
pub bench_else : (g : Given) (history : List Entry) (e : Entry) (actor : ℕ) → (e.actor ≡ actor → ⊥) →
    bench_at g (history ++ e ∷ []) actor ≡ bench_at g history actor
unfolding bench_at
bench_else g history e actor apart = ap (bench_of g actor) (own_else history e actor apart)

-- the actor has the entry more
pub bench_more : (g : Given) (history : List Entry) (actor stamp : ℕ) (event : Event) → is_cry event ≡ false
    → bench_at g (history ++ entry_at (bench_at g history actor) stamp event ∷ []) actor ≡ with_entry
    (bench_at g history actor) stamp event
unfolding bench_at entry_at
bench_more g history actor stamp event quiet =
    let e : Entry = record {
      stamp = stamp;
      actor = actor;
      event = event;
      said =
          says_in (setup_of g.scenario) actor (own history actor) event;
    } in
    ap (bench_of g actor) (own_same history e actor refl)
    ∙ ap (λ (n : ℕ). record {
      world = g.scenario;
      actor = actor;
      list = own history actor ++ e ∷ [];
      signed =
          length (filter (λ (s : Saying). not (is_raw s.word)) (take n (own_words actor g.sayings)));
      is_spent = false;
    })
    (said_same (own history actor) e quiet)

-- whichever actor it is, it has said as many words
pub all_said_same : (history : List Entry) (e : Entry) (actor : ℕ) → is_cry e.event ≡ false →
    words_said (own (history ++ e ∷ []) actor) ≡ words_said (own history actor)
all_said_same history e actor quiet = at (cases_eq e.actor actor)
  where
    at : (e.actor ≡ actor) ⊎ (e.actor ≡ actor → ⊥) →
        words_said (own (history ++ e ∷ []) actor) ≡ words_said (own history actor)
    at (inl same) = ap words_said (own_same history e actor same) ∙ said_same (own history actor) e quiet
    at (inr apart) = ap words_said (own_else history e actor apart)

-- the place of an actor that was set
pub kept_after : (g : Given) (history : List Entry) (e : Entry) (old new : List KeptState) (k : KeptState) →
    e.actor < length old → new ≡ set old e.actor k
    → ((actor : ℕ) (x : KeptState) → actor < actors_in g.scenario → x ≡ get_or old actor x →
    IsKeptAt g history actor x) → IsKeptAt g (history ++ e ∷ []) e.actor k
    → (actor : ℕ) (x : KeptState) → actor < actors_in g.scenario → x ≡ get_or new actor x →
    IsKeptAt g (history ++ e ∷ []) actor x
kept_after g history e old new k there is all mine actor x below at = by (cases_eq e.actor actor)
  where
    by : (e.actor ≡ actor) ⊎ (e.actor ≡ actor → ⊥) → IsKeptAt g (history ++ e ∷ []) actor x
    by (inl same) =
        let found : x ≡ k = at ∙ ap (λ (ks : List KeptState). get_or ks actor x) is
        ∙ ap (λ (n : ℕ). get_or (set old e.actor k) n x) (sym same) ∙ get_or-set_same old e.actor k x there in
        subst (λ (n : ℕ). IsKeptAt g (history ++ e ∷ []) n x) same
        (subst (λ (y : KeptState). IsKeptAt g (history ++ e ∷ []) e.actor y) (sym found) mine)
    by (inr apart) =
        let found : x ≡ get_or old actor x = at ∙ ap (λ (ks : List KeptState). get_or ks actor x) is
        ∙ get_or-set_other old e.actor actor k x (λ same. apart (sym same)) in
        let was = all actor x below found in
        record { bench = was.bench ∙ sym (bench_else g history e actor apart); works = was.works }

-- an event that is no cry: the play stands where the history with its entry does
pub acted : (g : Given) (m : Making) (p q : Playing) (actor : ℕ) (event : Event) (k : KeptState) (posts : List Post) →
    IsMaking g m p
    → IsSound g.scenario (after g actor event m) → actor < actors_in g.scenario → is_cry event ≡ false
    → q.kept.items ≡ set p.kept.items actor k → k.bench ≡ with_entry (bench_at g m.history actor) (length m.history)
    event → k.is_spent ≡ false
    → q.entries ≡ length m.history + 1 → posts ≡ posts_at g m.history actor event
    → IsMail (actors_in g.scenario) (m.posts ++ new_posts (not (is_restart event)) posts)
    (m.waiting ++ flat_map sent posts) q.mail
    → q.lost.items ≡ p.lost.items → q.said.items ≡ p.said.items → IsMaking g (after g actor event m) q
unfolding after entry_at bench_at
acted g m p q actor event k posts is sound there quiet kept bench works entries are mail lost said =
    let e : Entry = record {
      stamp = length m.history;
      actor = actor;
      event = event;
      said =
          says_in (setup_of g.scenario) actor (own m.history actor) event;
    } in
    record {
      sound = sound;
      many = ap length kept ∙ length-set p.kept.items actor k ∙ is.many;
      kept = kept_after g m.history e p.kept.items q.kept.items k (omega (arith, is.many)) kept is.kept
          (record { bench = bench ∙ sym (bench_more g m.history actor (length m.history) event quiet); works = works });
      entries = entries ∙ sym (length_push m.history e);
      mail = subst (λ (ps : List Post). IsMail (actors_in g.scenario) (m.posts ++ cond (is_restart event) [] ps)
          (m.waiting ++ flat_map sent ps) q.mail) are (new_or_again (is_restart event) mail);
      lost = lost ∙ is.lost;
      speakers = ap length said ∙ is.speakers;
      said = λ a below.
          subst (λ (ps : List ℕ). IsSaidTo g (m.history ++ e ∷ []) a (get_or ps a 0)) (sym said)
          (is.said a below ∙ ap (λ (n : ℕ). drop n (own_words a g.sayings)) (sym (all_said_same m.history e a quiet)));
    }
  where
    new_or_again : (again : Bool) → IsMail (actors_in g.scenario) (m.posts ++ new_posts (not again) posts)
        (m.waiting ++ flat_map sent posts) q.mail
        → IsMail (actors_in g.scenario) (m.posts ++ cond again [] posts) (m.waiting ++ flat_map sent posts) q.mail
    new_or_again true h = h
    new_or_again false h = h
