-- A cry more in a play.
use Rattle.std.proofs.Common.{◌≡◌, ℕ, zero, suc, ◌+◌, ◌<◌, Bool, true, false, cond, not, List, [], ◌∷◌, ◌++◌}
use Rattle.std.proofs.Common.{Option, Some, None, Err, filter, length, map, take, drop, get_or, set, refl}
use Rattle.std.proofs.Common.{sym, ◌∙◌, ap, subst, arith, inl, inr, ◌⊎◌}
use Rattle.std.specs.Prelude.{slice_get}
use Rattle.std.specs.List.{flat_map}
use Rattle.std.proofs.lemmas.Bool.{cases_eq}
use Rattle.std.proofs.lemmas.List.{length_push, length-append, length-set, get_or-set_same, get_or-set_other}
use Rattle.std.proofs.lemmas.List.Elements.{filter-append}
use Rattle.history_rules.specs.Events.{Event, Cry, Entry}
use Rattle.history_rules.specs.Setup.{own}
use Rattle.history_rules.specs.Legal.{says_in}
use Rattle.world_rules.specs.Frames.{cried}
use Rattle.world_rules.specs.Scenarios.{setup_of, actors_in}
use Rattle.message_types.specs.declared.body.Body.{Body}
use Rattle.message_types.specs.Texts.{frame_text}
use Rattle.std.specs.Option.{option_map}
use Rattle.play_words.specs.declared.words.Word.{Word}
use Rattle.play_words.specs.declared.words.Word.TheVariants as word
use Rattle.world_history.specs.State.{BenchState, entry_at, with_entry, with_word, word_body, word_frame, after_word}
use Rattle.world_history.specs.State.{spoken}
use Rattle.world_history.specs.KeptState.{KeptState}
use Rattle.script_lines.specs.declared.saying.Saying.{Saying}
use Rattle.script_lines.specs.Given.{own_words}
use Rattle.run_scripts.specs.declared.answer.StepRefusal.{StepRefusal}
use Rattle.run_scripts.specs.declared.answer.StepRefusal.TheVariants as stop
use Rattle.run_scripts.specs.declared.mail.Post.{Post}
use Rattle.run_scripts.specs.declared.playing.Playing.{Playing}
use Rattle.run_scripts.specs.Mail.{post_to, sent}
use Rattle.play_words.specs.Accepted.{is_raw}
use Rattle.run_scripts.specs.Making.{Given, Making, is_cry, words_said, words_signed, bench_at}
use Rattle.run_scripts.specs.Making.{is_full, next_word, after_cry, cries, cries_word, cries_bytes}
use Rattle.run_scripts.specs.Playing.{IsSound, IsMaking, IsMail, IsSaidTo}
use Rattle.run_scripts.proofs.Lists.{filter_one}
use Rattle.run_scripts.proofs.EventAdds.{kept_after}
use Rattle.history_rules.proofs.Entries.{own_same, own_else}
use Rattle.world_history.proofs.WordsSigned.{never_signs, signed_so}

first_of : {X : Type 0} (xs : List X) (k : ℕ) (x : X) (rest : List X) → drop k xs ≡ x ∷ rest
    → (slice_get xs k ≡ Some x) × (take (suc k) xs ≡ take k xs ++ x ∷ []) × (drop (suc k) xs ≡ rest)
first_of [] zero x rest is = absurd cc
first_of [] (suc k) x rest is = absurd cc
first_of (y ∷ ys) zero x rest is = let head : y ≡ x = cc in let tail : ys ≡ rest = cc in
    (ap Some head, ap (λ z. z ∷ []) head, tail)
first_of (y ∷ ys) (suc k) x rest is = let deeper = first_of ys k x rest is in
    (deeper.0, ap (λ zs. y ∷ zs) deeper.1, deeper.2)

-- what stands first from a place on
pub first_left : {X : Type 0} (xs : List X) (k : ℕ) (x : X) (rest : List X) → drop k xs ≡ x ∷ rest
    → (slice_get xs k ≡ Some x) × (take (k + 1) xs ≡ take k xs ++ x ∷ []) × (drop (k + 1) xs ≡ rest)
first_left xs k x rest is =
    let all = first_of xs k x rest is in
    let next : k + 1 ≡ suc k = omega arith in
    (all.0, ap (λ n. take n xs) next ∙ all.1, ap (λ n. drop n xs) next ∙ all.2)

pub none_left : {X : Type 0} (xs : List X) (k : ℕ) → drop k xs ≡ [] → slice_get xs k ≡ None
none_left [] k is = refl
none_left (y ∷ ys) zero is = absurd cc
none_left (y ∷ ys) (suc k) is = none_left ys k is

said_more : (list : List Entry) (e : Entry) → is_cry e.event ≡ true → words_said (list ++ e ∷ []) ≡ words_said list + 1
said_more list e loud =
    ap length (filter-append (λ (x : Entry). is_cry x.event) list (e ∷ [])
    ∙ ap (λ (es : List Entry). filter (λ (x : Entry). is_cry x.event) list ++ es)
    (filter_one (λ (x : Entry). is_cry x.event) e loud))
    ∙ length_push (filter (λ (x : Entry). is_cry x.event) list) e

-- how many of the words are signed, with one more
signed_more : (words : List Saying) (k : ℕ) (s : Saying) → take (k + 1) words ≡ take k words ++ s ∷ []
    → length (filter (λ (x : Saying). not (is_raw x.word)) (take (k + 1) words)) ≡ length
    (filter (λ (x : Saying). not (is_raw x.word)) (take k words)) + cond (is_raw s.word) 0 1
signed_more words k s more =
    ap (λ (ws : List Saying). length (filter (λ (x : Saying). not (is_raw x.word)) ws)) more
    ∙ ap length (filter-append (λ (x : Saying). not (is_raw x.word)) (take k words) (s ∷ []))
    ∙ length-append (filter (λ (x : Saying). not (is_raw x.word)) (take k words))
    (filter (λ (x : Saying). not (is_raw x.word)) (s ∷ []))
    ∙ ap (λ (n : ℕ). length (filter (λ (x : Saying). not (is_raw x.word)) (take k words)) + n) (one (is_raw s.word))
  where
    one : (b : Bool) → length (cond (not b) (s ∷ []) []) ≡ cond b 0 1
    one true = refl
    one false = refl

-- A word that is said and is a body was signed.
signs : (b : BenchState) (o : Option Body) (bytes : List ℕ) →
    option_map (λ said. frame_text (word_frame b said)) o ≡ Some bytes
    → (elim o [ None ↦ b | Some said ↦ with_word b ]) ≡ record b { signed = b.signed + 1 }
signs b None bytes is = absurd cc
signs b (Some x) bytes is = refl

-- the words signed, with one that is said
signed_said : (b : BenchState) (w : Word) (bytes : List ℕ) → spoken b w ≡ Some bytes →
    after_word b w ≡ record b { signed = b.signed + cond (is_raw w) 0 1 }
unfolding spoken
signed_said b (word.Raw raw) bytes says =
    let none_more : b.signed ≡ b.signed + 0 = omega arith in
    ap (λ (o : Option Body). elim o [ None ↦ b | Some said ↦ with_word b ]) (never_signs b raw)
    ∙ ap (λ (n : ℕ). signed_so b n) none_more
signed_said b other bytes says = signs b (word_body b other) bytes says

spoke_more : (b : BenchState) (w : Word) (stamp : ℕ) (event : Event) (e : Entry) (bytes : List ℕ) →
    spoken b w ≡ Some bytes → e ≡ entry_at b stamp event
    → with_entry (after_word b w) stamp event ≡ record b {
      list = b.list ++ e ∷ [];
      signed =
          b.signed + cond (is_raw w) 0 1;
    }
unfolding entry_at
spoke_more b w stamp event e bytes says entry =
    ap (λ (c : BenchState). with_entry c stamp event) (signed_said b w bytes says)
    ∙ ap (λ (y : Entry). record {
      world = b.world;
      actor = b.actor;
      list = b.list ++ y ∷ [];
      signed =
          b.signed + cond (is_raw w) 0 1;
      is_spent = b.is_spent;
    }) (sym entry)

-- the master's bench after its next word
bench_cried : (g : Given) (history : List Entry) (master stamp : ℕ) (s : Saying) (bytes : List ℕ)
    → spoken (bench_at g history master) s.word ≡ Some bytes
    → take (words_said (own history master) + 1) (own_words master g.sayings) ≡ take (words_said (own history master))
    (own_words master g.sayings) ++ s ∷ []
    → with_entry (after_word (bench_at g history master) s.word) stamp (Cry bytes) ≡ bench_at g
    (history ++ entry_at (bench_at g history master) stamp (Cry bytes) ∷ []) master
unfolding bench_at entry_at
bench_cried g history master stamp s bytes says more =
    let b = bench_at g history master in
    let e : Entry = record {
      stamp = stamp;
      actor = master;
      event = Cry bytes;
      said =
          says_in (setup_of g.scenario) master (own history master) (Cry bytes);
    } in
    spoke_more b s.word stamp (Cry bytes) e bytes says refl
    ∙ ap (λ (n : ℕ). record {
      world = g.scenario;
      actor = master;
      list = own history master ++ e ∷ [];
      signed = n;
      is_spent = false;
    })
    (sym (signed_more (own_words master g.sayings) (words_said (own history master)) s more)
    ∙ ap (λ (n : ℕ). length (filter (λ (x : Saying). not (is_raw x.word)) (take n (own_words master g.sayings))))
    (sym (said_more (own history master) e refl)))
    ∙ ap (λ (list : List Entry). record {
      world = g.scenario;
      actor = master;
      list = list;
      signed =
          words_signed g.sayings master list;
      is_spent = false;
    }) (sym (own_same history e master refl))

said_after : (g : Given) (history : List Entry) (e : Entry) (olds news : List ℕ) (place : ℕ) (rest : List Saying) →
    is_cry e.event ≡ true → e.actor < length olds
    → news ≡ set olds e.actor (place + 1)
    → drop (words_said (own history e.actor) + 1) (own_words e.actor g.sayings) ≡ own_words e.actor
    (drop (place + 1) g.sayings)
    → (actor : ℕ) → IsSaidTo g history actor (get_or olds actor 0) →
    IsSaidTo g (history ++ e ∷ []) actor (get_or news actor 0)
said_after g history e olds news place rest loud there is next actor was = at (cases_eq e.actor actor)
  where
    at : (e.actor ≡ actor) ⊎ (e.actor ≡ actor → ⊥) → IsSaidTo g (history ++ e ∷ []) actor (get_or news actor 0)
    at (inl same) =
        subst (λ (n : ℕ). IsSaidTo g (history ++ e ∷ []) n (get_or news n 0)) same
        (ap (λ (n : ℕ). own_words e.actor (drop n g.sayings)) (ap (λ (ps : List ℕ). get_or ps e.actor 0) is
        ∙ get_or-set_same olds e.actor (place + 1) 0 there)
        ∙ sym next
        ∙ ap (λ (n : ℕ). drop n (own_words e.actor g.sayings))
        (sym (ap words_said (own_same history e e.actor refl) ∙ said_more (own history e.actor) e loud)))
    at (inr apart) =
        ap (λ (n : ℕ). own_words actor (drop n g.sayings)) (ap (λ (ps : List ℕ). get_or ps actor 0) is
        ∙ get_or-set_other olds e.actor actor (place + 1) 0 (λ same. apart (sym same)))
        ∙ was ∙ ap (λ (list : List Entry). drop (words_said list) (own_words actor g.sayings))
        (sym (own_else history e actor apart))

-- the play stands where the history with the cry does
pub cry_acted : (g : Given) (m : Making) (p q : Playing) (master : ℕ) (s : Saying) (bytes : List ℕ) (k : KeptState)
    (posts : List Post) (place : ℕ) → IsMaking g m p
    → IsSound g.scenario (after_cry g master s.to bytes m) → master < actors_in g.scenario
    → drop (words_said (own m.history master)) (own_words master g.sayings) ≡ s
    ∷ own_words master (drop (place + 1) g.sayings)
    → spoken (bench_at g m.history master) s.word ≡ Some bytes
    → q.kept.items ≡ set p.kept.items master k →
    k.bench ≡ with_entry (after_word (bench_at g m.history master) s.word) (length m.history) (Cry bytes) →
    k.is_spent ≡ false
    → q.entries ≡ length m.history + 1 →
    posts ≡ map (post_to s.to (setup_of g.scenario) master (length m.history) 0) (cried (Cry bytes))
    → IsMail (actors_in g.scenario) (m.posts ++ posts) (m.waiting ++ flat_map sent posts) q.mail
    → q.lost.items ≡ p.lost.items → q.said.items ≡ set p.said.items master (place + 1) →
    IsMaking g (after_cry g master s.to bytes m) q
unfolding after_cry entry_at bench_at
cry_acted g m p q master s bytes k posts place is sound there next says kept bench works entries are mail lost said =
    let e : Entry = record {
      stamp = length m.history;
      actor = master;
      event = Cry bytes;
      said =
          says_in (setup_of g.scenario) master (own m.history master) (Cry bytes);
    } in
    let parts = first_left (own_words master g.sayings) (words_said (own m.history master)) s
    (own_words master (drop (place + 1) g.sayings)) next in
    record {
      sound = sound;
      many = ap length kept ∙ length-set p.kept.items master k ∙ is.many;
      kept = kept_after g m.history e p.kept.items q.kept.items k (omega (arith, is.many)) kept is.kept
          (record {
            bench = bench ∙ bench_cried g m.history master (length m.history) s bytes says parts.1;
            works = works;
          });
      entries = entries ∙ sym (length_push m.history e);
      mail = subst (λ (ps : List Post). IsMail (actors_in g.scenario) (m.posts ++ ps)
          (m.waiting ++ flat_map sent ps) q.mail) are mail;
      lost = lost ∙ is.lost;
      speakers = ap length said ∙ length-set p.said.items master (place + 1) ∙ is.speakers;
      said = λ a below. said_after g m.history e p.said.items q.said.items place [] refl (omega (arith, is.speakers))
          said parts.2 a (is.said a below);
    }

-- what a master's next word is
pub next_is : (g : Given) (m : Making) (master : ℕ) (s : Saying) (rest : List Saying) →
    drop (words_said (own m.history master)) (own_words master g.sayings) ≡ s ∷ rest → next_word g m master ≡ Some s
next_is g m master s rest is = (first_left (own_words master g.sayings) (words_said (own m.history master)) s rest is).0

pub no_next : (g : Given) (m : Making) (master : ℕ) →
    drop (words_said (own m.history master)) (own_words master g.sayings) ≡ [] → cries g master m ≡ Err stop.NoFrame
unfolding cries
no_next g m master is = ap (λ (o : Option Saying). cries_word g master o m)
    (none_left (own_words master g.sayings) (words_said (own m.history master)) is)

pub full_cry : (g : Given) (m : Making) (master : ℕ) (s : Saying) → next_word g m master ≡ Some s → is_full m ≡ true →
    cries g master m ≡ Err stop.TooMany
unfolding cries
full_cry g m master s is full =
    ap (λ (o : Option Saying). cries_word g master o m) is
    ∙ ap (λ b. cond b (Err stop.TooMany)
    (cries_bytes g master s.to (spoken (bench_at g m.history master) s.word) m)) full

pub cry_is : (g : Given) (m : Making) (master : ℕ) (s : Saying) (o : Option (List ℕ)) →
    next_word g m master ≡ Some s → is_full m ≡ false
    → spoken (bench_at g m.history master) s.word ≡ o → cries g master m ≡ cries_bytes g master s.to o m
unfolding cries
cry_is g m master s o is room says =
    ap (λ (n : Option Saying). cries_word g master n m) is
    ∙ ap (λ b. cond b (Err stop.TooMany) (cries_bytes g master s.to (spoken (bench_at g m.history master) s.word) m))
    room
    ∙ ap (λ (x : Option (List ℕ)). cries_bytes g master s.to x m) says
