-- An actor and its keeper after one more entry.
use Rattle.std.proofs.Common.{◌≡◌, ℕ, suc, ◌-◌, ◌<◌, ◌^◌, Bool, true, false, cond, ◌&&◌, not, List, [], ◌∷◌, ◌++◌}
use Rattle.std.proofs.Common.{length, nat_lt, refl, sym, ◌∙◌, ap, subst, inl, inr, ◌⊎◌, arith}
use Rattle.std.specs.Prelude.{Option, Some, None, IfSome, IsSomeAnd, is_some, is_none, Result, Ok, Err, IfOk, OnOk}
use Rattle.plain_lists.specs.declared.want.Want.{Want}
use Rattle.std.specs.List.{list_all}
use Rattle.std.specs.declared.vec.Vec.{Vec}
use Rattle.std.specs.declared.alloc.Global.{Global}
use Rattle.std.proofs.lemmas.Bool.{false≢true}
use Rattle.message_types.specs.declared.signed.Signed.{Signed}
use Rattle.message_types.specs.declared.body.Body.{Body}
use Rattle.outside.specs.Keepers.{Binder}
use Rattle.quorum_sets.specs.Masters.{has_master}
use Rattle.scenario_file.specs.Reading.{Contents}
use Rattle.protocol_rules.specs.Group.{Group}
use Rattle.history_rules.specs.Events.{Event, Took, Tick, Command, Field, Poll, Cry, Skip, Restart, Entry, is_restart}
use Rattle.history_rules.specs.Setup.{Setup, is_correct, stands}
use Rattle.history_rules.specs.Keeping.{keeper_calls, is_halted}
use Rattle.history_rules.specs.Legal.{Stands, TakesWell}
use Rattle.history_laws.proofs.EntryByEntry.{last_or_before}
use Rattle.world_rules.specs.Scenarios.{setup_of, masters_in, proxies_in}
use Rattle.world_rules.proofs.Fields.{setup_goes_by, group_is}
use Rattle.history_laws.specs.BenchLists.{AddsEntry}
use Rattle.history_laws.proofs.BenchLists.{one_more_is_bench_list}
use Rattle.entry_texts.specs.Texts.{entry_text, kept_text}
use Rattle.entry_texts.specs.Fits.{FitsEntry, HasCount}
use Rattle.world_history.specs.State.{BenchState, setup_in, entry_at, with_entry, frames_said}
use Rattle.world_history.specs.Lists.{EachFits, frames_of_last, last_of, before_last}
use Rattle.world_history.specs.Keeping.{entries_kept, Appended, HasRead}
use Rattle.world_history.specs.KeptState.{HasKeeper, frames_kept, posted}
use Rattle.world_history.proofs.LastEntry.{last_grown, before_grown}
use Rattle.world_history.proofs.KeeperInStep.{HasHad, IsNext, had_of_goes, had_read, calls_grown, one_append, read_and_append}
use Rattle.world_history.proofs.KeeperInStep.{next_kept, next_not_kept, next_not_read}
use Rattle.history_rules.proofs.Frames.{calls_few}

-- what a correct actor's events are

cry_fits_none : (a i p : Bool) → not (a && i) ≡ true → cond a (cond i true false) (cond p false false) ≡ true → ⊥
cry_fits_none true true p correct fits = false≢true correct
cry_fits_none true false p correct fits = false≢true fits
cry_fits_none false i true correct fits = false≢true fits
cry_fits_none false i false correct fits = false≢true fits

restart_is_correct : (a i : Bool) (other : Bool) → cond a (cond i false true) other ≡ true → not (a && i) ≡ true
restart_is_correct true true other fits = absurd (false≢true fits)
restart_is_correct true false other fits = refl
restart_is_correct false i other fits = refl

pub correct_is : (c : Contents) (actor : ℕ) →
    is_correct (setup_of c) actor ≡ not (nat_lt actor (masters_in c) && has_master c.settings.intruded actor)
correct_is c actor =
    ap (λ (g : Group). not (nat_lt actor g.n && (setup_of c).intruded actor)) (group_is c)
    ∙ ap (λ (i : Bool). not (nat_lt actor (masters_in c) && i)) ((setup_goes_by c).intruded actor)

pub correct_count : (c : Contents) (actor : ℕ) (event : Event) → is_correct (setup_of c) actor ≡ true →
    (setup_of c).fits actor event ≡ true → HasCount event
correct_count c actor (Took s p f) correct fits = tt
correct_count c actor Tick correct fits = tt
correct_count c actor (Command o) correct fits = tt
correct_count c actor (Field a p v) correct fits = tt
correct_count c actor Poll correct fits = tt
correct_count c actor (Cry bytes) correct fits =
    absurd (cry_fits_none (nat_lt actor (masters_in c)) (has_master c.settings.intruded actor)
    (nat_lt (actor - masters_in c) (proxies_in c))
    (sym (correct_is c actor) ∙ correct) (sym ((setup_goes_by c).fits actor (Cry bytes)) ∙ fits))
correct_count c actor Skip correct fits = tt
correct_count c actor Restart correct fits = tt

pub restarts_are_correct : (c : Contents) (actor : ℕ) → (setup_of c).fits actor Restart ≡ true →
    is_correct (setup_of c) actor ≡ true
restarts_are_correct c actor fits =
    correct_is c actor
    ∙ restart_is_correct (nat_lt actor (masters_in c)) (has_master c.settings.intruded actor) _
    (sym ((setup_goes_by c).fits actor Restart) ∙ fits)

-- the entry that an event makes is one that the actor could add

pub entry_adds : (b : BenchState) (stamp : ℕ) (event : Event) → (setup_in b).fits b.actor event ≡ true →
    list_all (λ (e : Entry). nat_lt e.stamp stamp) b.list ≡ true
    → TakesWell (setup_in b) stamp event → AddsEntry (setup_in b) b.actor b.list (entry_at b stamp event)
unfolding entry_at
entry_adds b stamp event fits later taken = record { by = refl; later = later; role = fits; taken = taken; said = refl }

pub stamp_at : (b : BenchState) (stamp : ℕ) (event : Event) → (entry_at b stamp event).stamp ≡ stamp
unfolding entry_at
stamp_at b stamp event = refl

pub event_at : (b : BenchState) (stamp : ℕ) (event : Event) → (entry_at b stamp event).event ≡ event
unfolding entry_at
event_at b stamp event = refl

pub text_at : (b : BenchState) (stamp : ℕ) (event : Event) → kept_text (entry_at b stamp event) ≡ entry_text stamp event
text_at b stamp event = ap (λ s. entry_text s (entry_at b stamp event).event) (stamp_at b stamp event)
    ∙ ap (entry_text stamp) (event_at b stamp event)

each_fits_more : (list : List Entry) (e : Entry) → EachFits list → FitsEntry e.stamp e.event → EachFits (list ++ e ∷ [])
each_fits_more list e fits last = λ before x s. by before x (last_or_before s)
  where
    by : (before : List Entry) (x : Entry) → ((before ≡ list) × (x ≡ e)) ⊎ Stands list before x →
        FitsEntry x.stamp x.event
    by before x (inl is) = subst (λ (y : Entry). FitsEntry y.stamp y.event) (sym is.1) last
    by before x (inr s) = fits before x s

-- the entries that are kept fit

pub fits_running : (w : Setup) (actor : ℕ) (list : List Entry) → is_halted w actor list ≡ false →
    EachFits (entries_kept w actor list) → EachFits list
fits_running w actor list running fits = subst EachFits (ap (λ (b : Bool). cond b (before_last list) list) running) fits

kept_fit : (w : Setup) (actor : ℕ) (list : List Entry) (e : Entry) (halted : Bool) →
    is_halted w actor (list ++ e ∷ []) ≡ halted → EachFits list
    → (halted ≡ false → FitsEntry e.stamp e.event) → EachFits (entries_kept w actor (list ++ e ∷ []))
kept_fit w actor list e halted is fits last =
    subst EachFits
    (ap (λ (xs : List Entry). cond halted xs (list ++ e ∷ [])) (sym (before_grown list e))
    ∙ ap (λ (b : Bool). cond b (before_last (list ++ e ∷ [])) (list ++ e ∷ [])) (sym is))
    (by halted last)
  where
    by : (h : Bool) → (h ≡ false → FitsEntry e.stamp e.event) → EachFits (cond h list (list ++ e ∷ []))
    by true last = fits
    by false last = each_fits_more list e fits (last refl)

-- What an event is asked to be.
pub record CanCome (b : BenchState) (stamp : ℕ) (event : Event) : Type 0 where
  pub fits : (setup_in b).fits b.actor event ≡ true
  pub later : list_all (λ (e : Entry). nat_lt e.stamp stamp) b.list ≡ true
  pub taken : TakesWell (setup_in b) stamp event
  pub short : length b.list < 2 ^ 32

pub has_next : (b : BenchState) (k after : Binder) (stamp : ℕ) (event : Event) (halted : Bool) →
    HasKeeper b k false → CanCome b stamp event
    → IsNext (setup_in b) b.actor b.list (entry_at b stamp event) after halted →
    (halted ≡ false → FitsEntry stamp event)
    → HasKeeper (with_entry b stamp event) after halted
has_next b k after stamp event halted has can next wide = record {
  works = has.works;
  scenario = has.scenario;
  there = has.there;
  correct = has.correct;
  unsigned = has.unsigned;
  entries = one_more_is_bench_list (setup_in b) b.actor b.list (entry_at b stamp event) has.entries
      (entry_adds b stamp event can.fits can.later can.taken);
  fits = kept_fit (setup_in b) b.actor b.list (entry_at b stamp event) halted next.is
      (fits_running (setup_in b) b.actor b.list (sym has.agrees) has.fits)
      (λ on. let w = wide on in
      subst (λ (s : ℕ). FitsEntry s (entry_at b stamp event).event) (sym (stamp_at b stamp event))
      (subst (λ (x : Event). FitsEntry stamp x) (sym (event_at b stamp event)) w));
  keeper = next.keeper;
  agrees = sym next.is;
}

pub had_keeper : (b : BenchState) (k : Binder) → HasKeeper b k false →
    HasHad (setup_in b) b.actor b.list (length (keeper_calls b.list)) k
had_keeper b k has = had_of_goes (setup_in b) b.actor b.list k (sym has.agrees) has.keeper

few_calls : (b : BenchState) → length b.list < 2 ^ 32 → length (keeper_calls b.list) < 2 ^ 62
few_calls b short = omega (arith, calls_few b.list)

-- the frames to post

frames_at_halt : (b : BenchState) (stamp : ℕ) (event : Event) →
    is_halted (setup_in b) b.actor (b.list ++ entry_at b stamp event ∷ []) ≡ true
    → [] ≡ frames_kept b stamp event
frames_at_halt b stamp event halted =
    ap (λ (h : Bool). cond h [] (cond (is_restart event) (frames_of_last (setup_in b) b.actor b.list)
    (frames_said b stamp event))) (sym halted)

pub frames_going : (b : BenchState) (stamp : ℕ) (event : Event) →
    is_halted (setup_in b) b.actor (b.list ++ entry_at b stamp event ∷ []) ≡ false
    → cond (is_restart event) (frames_of_last (setup_in b) b.actor b.list)
    (frames_said b stamp event) ≡ frames_kept b stamp event
frames_going b stamp event running =
    ap (λ (h : Bool). cond h [] (cond (is_restart event) (frames_of_last (setup_in b) b.actor b.list)
    (frames_said b stamp event))) (sym running)

-- What there is after the entry: bench, keeper and what is posted.
pub record IsDone (b : BenchState) (stamp : ℕ) (event : Event) (new : BenchState) (after : Binder)
    (said : Option (Vec (Signed Body) Global)) : Type 0 where
  pub keeps : HasKeeper new after (is_none said)
  pub frames : posted said ≡ frames_kept b stamp event
  pub stand : list_all (stands (setup_in b)) (posted said) ≡ true

done_halted : (b new : BenchState) (k after : Binder) (stamp : ℕ) (event : Event) → HasKeeper b k false →
    CanCome b stamp event → new ≡ with_entry b stamp event
    → IsNext (setup_in b) b.actor b.list (entry_at b stamp event) after true → IsDone b stamp event new after None
done_halted b new k after stamp event has can added next = record {
  keeps = subst (λ (x : BenchState). HasKeeper x after true) (sym added)
      (has_next b k after stamp event true has can next (λ on. absurd (false≢true (sym on))));
  frames = frames_at_halt b stamp event next.is;
  stand = refl;
}

done_going : (b new : BenchState) (k after : Binder) (stamp : ℕ) (event : Event) (frames : Vec (Signed Body) Global) →
    HasKeeper b k false → CanCome b stamp event
    → new ≡ with_entry b stamp event → IsNext (setup_in b) b.actor b.list (entry_at b stamp event) after false →
    FitsEntry stamp event
    → frames.items ≡ cond (is_restart event) (frames_of_last (setup_in b) b.actor b.list) (frames_said b stamp event)
    → list_all (stands (setup_in b)) frames.items ≡ true → IsDone b stamp event new after (Some frames)
done_going b new k after stamp event frames has can added next wide made stand = record {
  keeps = subst (λ (x : BenchState). HasKeeper x after false) (sym added)
      (has_next b k after stamp event false has can next (λ on. wide));
  frames = made ∙ frames_going b stamp event next.is;
  stand = stand;
}

appended_at : (b : BenchState) (stamp : ℕ) (event : Event) (k after : Binder) (kept : Bool) →
    Appended k (entry_text stamp event) kept after
    → Appended k (kept_text (entry_at b stamp event)) kept after
appended_at b stamp event k after kept h =
    subst (λ (t : List ℕ). Appended k t kept after) (sym (text_at b stamp event)) h

-- any other event

one_call : (b : BenchState) (stamp : ℕ) (event : Event) → is_restart event ≡ false
    → length (keeper_calls (b.list ++ entry_at b stamp event ∷ [])) ≡ suc (length (keeper_calls b.list))
one_call b stamp event other =
    let one = one_append (entry_at b stamp event) (ap is_restart (event_at b stamp event) ∙ other) in
    omega (arith, calls_grown b.list (entry_at b stamp event))

pub went_on : (b new : BenchState) (k after : Binder) (stamp : ℕ) (event : Event)
    (said : Option (Vec (Signed Body) Global)) → HasKeeper b k false
    → is_restart event ≡ false → CanCome b stamp event → new ≡ with_entry b stamp event → FitsEntry stamp event
    → Appended k (entry_text stamp event) (is_some said) after →
    IfSome said (λ frames. frames.items ≡ frames_said b stamp event)
    → IfSome said (λ frames. list_all (stands (setup_in b)) frames.items ≡ true) → IsDone b stamp event new after said
went_on b new k after stamp event (Some frames) has other can added wide kept made stand =
    let few = few_calls b can.short in
    done_going b new k after stamp event frames has can added
    (next_kept (setup_in b) b.actor b.list (entry_at b stamp event) (length (keeper_calls b.list)) k after
    (had_keeper b k has) (omega arith) (one_call b stamp event other)
    (appended_at b stamp event k after true kept)) wide
    (made ∙ ap (λ (r : Bool). cond r (frames_of_last (setup_in b) b.actor b.list) (frames_said b stamp event))
    (sym other)) stand
went_on b new k after stamp event None has other can added wide kept made stand =
    let few = few_calls b can.short in
    done_halted b new k after stamp event has can added
    (next_not_kept (setup_in b) b.actor b.list (entry_at b stamp event) (length (keeper_calls b.list)) k after
    (had_keeper b k has) (omega arith) (one_call b stamp event other)
    (appended_at b stamp event k after false kept))

-- a restart

two_calls : (b : BenchState) (stamp : ℕ) → length (keeper_calls (b.list ++ entry_at b stamp Restart ∷ [])) ≡ suc
    (suc (length (keeper_calls b.list)))
two_calls b stamp =
    let two = read_and_append (entry_at b stamp Restart) (ap is_restart (event_at b stamp Restart)) in
    omega (arith, calls_grown b.list (entry_at b stamp Restart))

pub could_not_read : (b new : BenchState) (k after : Binder) (stamp : ℕ) → HasKeeper b k false →
    CanCome b stamp Restart → new ≡ with_entry b stamp Restart
    → HasRead k false after → IsDone b stamp Restart new after None
could_not_read b new k after stamp has can added unread =
    let few = few_calls b can.short in
    done_halted b new k after stamp Restart has can added
    (next_not_read (setup_in b) b.actor b.list (entry_at b stamp Restart) (length (keeper_calls b.list)) k after
    (had_keeper b k has) (omega arith) (two_calls b stamp) unread)

pub could_not_keep : (b new : BenchState) (k read after : Binder) (stamp : ℕ) → HasKeeper b k false →
    CanCome b stamp Restart → new ≡ with_entry b stamp Restart
    → HasRead k true read → Appended read (entry_text stamp Restart) false after → IsDone b stamp Restart new after None
could_not_keep b new k read after stamp has can added done unkept =
    let few = few_calls b can.short in
    let n = length (keeper_calls b.list) in
    done_halted b new k after stamp Restart has can added
    (next_not_kept (setup_in b) b.actor b.list (entry_at b stamp Restart) (suc n) read after
    (had_read (setup_in b) b.actor b.list n k read (had_keeper b k has) (omega arith) done)
    (omega arith) (two_calls b stamp)
    (appended_at b stamp Restart read after false unkept))

pub restarted : (b new : BenchState) (k read after : Binder) (stamp : ℕ) (last : Vec (Signed Body) Global) →
    HasKeeper b k false → CanCome b stamp Restart
    → new ≡ with_entry b stamp Restart → FitsEntry stamp Restart → HasRead k true read →
    Appended read (entry_text stamp Restart) true after
    → last.items ≡ frames_of_last (setup_in b) b.actor b.list → list_all (stands (setup_in b)) last.items ≡ true →
    IsDone b stamp Restart new after (Some last)
restarted b new k read after stamp last has can added wide done kept made stand =
    let few = few_calls b can.short in
    let n = length (keeper_calls b.list) in
    done_going b new k after stamp Restart last has can added
    (next_kept (setup_in b) b.actor b.list (entry_at b stamp Restart) (suc n) read after
    (had_read (setup_in b) b.actor b.list n k read (had_keeper b k has) (omega arith) done)
    (omega arith) (two_calls b stamp)
    (appended_at b stamp Restart read after true kept)) wide made stand

pub went_on_result : (b new : BenchState) (k after : Binder) (stamp : ℕ) (event : Event)
    (r : Result (Option (Vec (Signed Body) Global)) Want) → HasKeeper b k false
    → is_restart event ≡ false → CanCome b stamp event → OnOk r (new ≡ with_entry b stamp event) →
    OnOk r (FitsEntry stamp event)
    → IfOk r (λ said. Appended k (entry_text stamp event) (is_some said) after) →
    IfOk r (λ said. IfSome said (λ frames. frames.items ≡ frames_said b stamp event))
    → IfOk r (λ said. IfSome said (λ frames. list_all (stands (setup_in b)) frames.items ≡ true)) →
    IfOk r (λ said. IsDone b stamp event new after said)
went_on_result b new k after stamp event (Ok said) has other can added wide kept made stand =
    went_on b new k after stamp event said has other can added wide kept made stand
went_on_result b new k after stamp event (Err e) has other can added wide kept made stand = tt

-- the entry that was added is the last one

pub last_counts : (b new : BenchState) (stamp : ℕ) (event : Event) → new ≡ with_entry b stamp event → HasCount event
    → IsSomeAnd (last_of new.list) (λ e. HasCount e.event)
last_counts b new stamp event added count =
    subst (λ (x : BenchState). IsSomeAnd (last_of x.list) (λ (e : Entry). HasCount e.event)) (sym added)
    (subst (λ (o : Option Entry). IsSomeAnd o (λ (e : Entry). HasCount e.event))
    (sym (last_grown b.list (entry_at b stamp event)))
    (subst HasCount (sym (event_at b stamp event)) count))

of_last : (P : Entry → Type 0) (b new : BenchState) (stamp : ℕ) (event : Event) → new ≡ with_entry b stamp event →
    IfSome (last_of new.list) P → P (entry_at b stamp event)
of_last P b new stamp event added h =
    let seen = subst (λ (x : BenchState). IfSome (last_of x.list) P) added h in
    subst (λ (o : Option Entry). IfSome o P) (last_grown b.list (entry_at b stamp event)) seen

pub kept_added : (b new : BenchState) (k after : Binder) (stamp : ℕ) (event : Event) (was kept : Bool) →
    new ≡ with_entry b stamp event
    → IfSome (last_of new.list) (λ e. Appended k (kept_text e) was after) → was ≡ kept →
    Appended k (entry_text stamp event) kept after
kept_added b new k after stamp event was kept added h is =
    subst (λ (x : Bool). Appended k (entry_text stamp event) x after) is
    (subst (λ (t : List ℕ). Appended k t was after) (text_at b stamp event)
    (of_last (λ (e : Entry). Appended k (kept_text e) was after) b new stamp event added h))

pub fits_added : (b new : BenchState) (stamp : ℕ) (event : Event) → new ≡ with_entry b stamp event →
    IfSome (last_of new.list) (λ e. FitsEntry e.stamp e.event)
    → FitsEntry stamp event
fits_added b new stamp event added h =
    subst (λ (x : Event). FitsEntry stamp x) (event_at b stamp event)
    (subst (λ (s : ℕ). FitsEntry s (entry_at b stamp event).event) (stamp_at b stamp event)
    (of_last (λ (e : Entry). FitsEntry e.stamp e.event) b new stamp event added h))

-- what was appended is the last entry's bytes
pub appended_last : (o : Option Entry) (k after : Binder) (text bytes : List ℕ) (kept : Bool) →
    IfSome o (λ e. text ≡ kept_text e) → bytes ≡ text
    → Appended k bytes kept after → IfSome o (λ e. Appended k (kept_text e) kept after)
appended_last None k after text bytes kept is same h = tt
appended_last (Some e) k after text bytes kept is same h = subst (λ (t : List ℕ). Appended k t kept after) (same ∙ is) h
