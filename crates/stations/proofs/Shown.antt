-- The frames that a bench shows of an entry of a station are the entry's words, and stand.
use Rattle.std.proofs.Common.{◌≡◌, ℕ, zero, suc, ◌+◌, ◌<◌, ◌^◌, true, List, [], ◌∷◌, ◌++◌, Option, Some, None, length, map}
use Rattle.std.proofs.Common.{get_or, refl, sym, ◌∙◌, ap, subst, arith}
use Rattle.std.proofs.lemmas.List.{length-append, length-map}
use Rattle.std.specs.Borrow.{Bor}
use Rattle.std.specs.List.{list_all, flat_map}
use Rattle.std.specs.Option.{option_map}
use Rattle.std.specs.Prelude.{slice_get}
use Rattle.bench_rules.specs.Lists.{frames_after}
use Rattle.client_roles.specs.Roles.{carries_well}
use Rattle.history_rules.specs.Events.{Entry}
use Rattle.history_rules.specs.Setup.{stands}
use Rattle.history_rules.specs.Legal.{Stands}
use Rattle.joint_lists.proofs.Alone.{own_alone}
use Rattle.message_types.specs.declared.signed.Signed.{Signed}
use Rattle.message_types.specs.declared.body.Body.{Body}
use Rattle.plain_lists.proofs.Lists.{mapped_at}
use Rattle.printed_history.specs.Reading.{contents_in}
use Rattle.scenario_file.specs.Reading.{Contents}
use Rattle.station_files.specs.Batch.{Waiting}
use Rattle.station_lives.specs.Saying.{word_line, word_lines}
use Rattle.world_entries.specs.declared.entry.Entry.{Entry as KeptEntry}
use Rattle.world_entries.specs.Entries.{entry_of}
use Rattle.world_history.specs.Benches.{bench_in}
use Rattle.world_history.specs.Seats.{frames_of_each}
use Rattle.world_history.specs.State.{BenchState, setup_in}
use Rattle.world_rules.specs.Scenarios.{setup_of}
use Rattle.stations.specs.declared.station.Station.{Station}
use Rattle.stations.specs.Station.{IsReady, list_of}
use Rattle.stations.specs.Telling.{Tells}
use Rattle.stations.proofs.Entering.{short_list}
use Rattle.stations.proofs.Since.{Split, split_at}
use Rattle.stations.proofs.Standing.{said_stand, words_are, shown_at}

-- an entry of a list is at the place of those before it
entry_there : (before after : List Entry) (e d : Entry) → get_or (before ++ e ∷ after) (length before) d ≡ e
entry_there [] after e d = refl
entry_there (x ∷ before) after e d = entry_there before after e d

pub entry_is : (kept : List KeptEntry) (before after : List Entry) (e : Entry) (place : ℕ) (k : KeptEntry) →
    map entry_of kept ≡ before ++ e ∷ after → length before ≡ place → place < length kept → k ≡ get_or kept place k →
    entry_of k ≡ e
entry_is kept before after e place k are here below at =
    mapped_at entry_of kept place k below at
    ∙ (λ i. get_or (are i) (sym here i) (entry_of k))
    ∙ entry_there before after e (entry_of k)

-- the bench has all entries
pub list_shown : (s : Station) (b : BenchState) (kept : List KeptEntry) → IsReady s →
    b ≡ bench_in (contents_in s.so_far) (list_of s) s.actor → map entry_of kept ≡ b.list → map entry_of kept ≡ list_of s
list_shown s b kept ready is are =
    are ∙ ap (λ (x : BenchState). x.list) is ∙ own_alone s.actor (list_of s) ready.station.alone

pub place_in : (kept : List KeptEntry) (list : List Entry) (place : ℕ) → map entry_of kept ≡ list →
    place < length list → place < length kept
place_in kept list place are below =
    let long : length kept ≡ length list = sym (length-map kept entry_of) ∙ ap length are in
    omega arith

-- what the bench shows at a place
abbrev pub Shows : BenchState → ℕ → Option (Bor (List (Signed Body))) → Type 0
Shows b place o =
    option_map (λ frames. frames.now) o ≡ slice_get (frames_of_each (setup_in b) b.actor [] b.list) place

one_shown : (o : Option (Bor (List (Signed Body)))) (f : Bor (List (Signed Body))) (frames : List (Signed Body)) →
    o ≡ Some f → option_map (λ x. x.now) o ≡ Some frames → f.now ≡ frames
one_shown o f frames is told = at (sym (ap (λ (p : Option (Bor (List (Signed Body)))). option_map (λ x. x.now) p) is) ∙ told)
  where
    at : Some f.now ≡ Some frames → f.now ≡ frames
    at e = cc

pub frames_shown : (s : Station) (b : BenchState) (place : ℕ) (o : Option (Bor (List (Signed Body))))
    (f : Bor (List (Signed Body))) (before after : List Entry) (e : Entry) → IsReady s →
    b ≡ bench_in (contents_in s.so_far) (list_of s) s.actor → Shows b place o → o ≡ Some f →
    list_of s ≡ before ++ e ∷ after → length before ≡ place →
    f.now ≡ frames_after (setup_of (contents_in s.so_far)) s.actor before e
frames_shown s b place o f before after e ready is shows some whole here =
    one_shown o f (frames_after (setup_of (contents_in s.so_far)) s.actor before e) some
    (shown_at (contents_in s.so_far) s.actor (list_of s) before after e b place o ready.station.alone is whole here shows)

pub some_shown : (s : Station) (b : BenchState) (place : ℕ) (o : Option (Bor (List (Signed Body)))) → IsReady s →
    b ≡ bench_in (contents_in s.so_far) (list_of s) s.actor → Shows b place o → place < length (list_of s) →
    o ≡ None → ⊥
some_shown s b place o ready is shows there none =
    no (sym (ap (λ (p : Option (Bor (List (Signed Body)))). option_map (λ x. x.now) p) none)
    ∙ shown_at (contents_in s.so_far) s.actor (list_of s) at.before at.after at.entry b place o ready.station.alone is
    at.whole at.here shows)
  where
    at : Split (list_of s) place
    at = split_at (list_of s) place there

    no : {x : List (Signed Body)} → None ≡ Some x → ⊥
    no e = cc

-- they stand
pub shown_stand : (s : Station) (b : BenchState) (place : ℕ) (o : Option (Bor (List (Signed Body))))
    (f : Bor (List (Signed Body))) (kept : List KeptEntry) → IsReady s →
    b ≡ bench_in (contents_in s.so_far) (list_of s) s.actor → map entry_of kept ≡ b.list →
    ((before after : List Entry) (e : Entry) → map entry_of kept ≡ before ++ e ∷ after → length before ≡ place →
    carries_well e.event ≡ true) → Shows b place o → o ≡ Some f → place < length (list_of s) →
    list_all (stands (setup_of (contents_in s.so_far))) f.now ≡ true
shown_stand s b place o f kept ready is are carries shows some there =
    ap (list_all (stands (setup_of (contents_in s.so_far))))
    (frames_shown s b place o f at.before at.after at.entry ready is shows some at.whole at.here)
    ∙ said_stand (contents_in s.so_far) s.actor (list_of s) at.before at.entry ready.at_hand.scenario ready.station
    ready.there ready.key ready.correct (record { after = at.after; whole = at.whole }) short
    (carries at.before at.after at.entry (list_shown s b kept ready is are ∙ at.whole) at.here)
  where
    at : Split (list_of s) place
    at = split_at (list_of s) place there

    short : length at.before < 2 ^ 32
    short = let few = short_list s ready in omega (arith, at.here, few, there)

-- so they are told as the entry's words
pub shown_tells : (s : Station) (b : BenchState) (place : ℕ) (o : Option (Bor (List (Signed Body))))
    (f : Bor (List (Signed Body))) (before after : List Entry) (e : Entry) (old new : Waiting) → IsReady s →
    b ≡ bench_in (contents_in s.so_far) (list_of s) s.actor → Shows b place o → o ≡ Some f →
    list_of s ≡ before ++ e ∷ after → length before ≡ place →
    Tells (contents_in s.so_far) (flat_map (word_line (contents_in s.so_far) s.actor) f.now) old new →
    Tells (contents_in s.so_far) (word_lines (contents_in s.so_far) before e) old new
shown_tells s b place o f before after e old new ready is shows some whole here tells =
    subst (λ (bs : List ℕ). Tells (contents_in s.so_far) bs old new)
    (ap (flat_map (word_line (contents_in s.so_far) s.actor))
    (frames_shown s b place o f before after e ready is shows some whole here)
    ∙ words_are (contents_in s.so_far) s.actor (list_of s) before e ready.station ready.correct
    (record { after = after; whole = whole }))
    tells
