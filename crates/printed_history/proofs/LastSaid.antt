-- The last entry of what is at hand, its actor's bench and its frames.
use Rattle.std.proofs.Common.{◌≡◌, ℕ, ◌+◌, ◌<◌, true, List, [], ◌∷◌, ◌++◌, Option, Some, None, length, map, get_or}
use Rattle.std.proofs.Common.{refl, sym, ◌∙◌, ap, subst, arith}
use Rattle.std.proofs.lemmas.List.{length-append, length-map, get_or_push}
use Rattle.std.specs.Borrow.{Bor}
use Rattle.std.specs.Option.{option_map}
use Rattle.std.specs.Prelude.{slice_get}
use Rattle.message_types.specs.declared.signed.Signed.{Signed}
use Rattle.message_types.specs.declared.body.Body.{Body}
use Rattle.protocol_rules.specs.Group.{Group}
use Rattle.scenario_file.specs.Reading.{Contents}
use Rattle.agreement.proofs.KnownAsItGrows.{own-append, own_first, own_none}
use Rattle.history_rules.specs.Events.{Entry}
use Rattle.history_rules.specs.Setup.{own}
use Rattle.history_rules.specs.Legal.{Stands, IsLegal}
use Rattle.bench_rules.specs.Lists.{frames_after}
use Rattle.world_entries.specs.declared.entry.Entry.{Entry as KeptEntry}
use Rattle.world_entries.specs.Entries.{entry_of}
use Rattle.world_rules.specs.Scenarios.{setup_of, actors_in}
use Rattle.world_rules.proofs.Fields.{group_is}
use Rattle.world_history.specs.State.{BenchState, setup_in}
use Rattle.world_history.specs.Seats.{frames_of_each}
use Rattle.world_history.specs.Benches.{bench_in}
use Rattle.printed_history.specs.declared.reading.SoFar.{SoFar}
use Rattle.printed_history.specs.Reading.{is_among, is_at_hand, IsSoFar}
use Rattle.printed_history.proofs.AtHand.{last_theirs}
use Rattle.printed_history.proofs.LastFrames.{each_last, frames_there}
use Rattle.plain_lists.proofs.Lists.{mapped_at}

-- a list that isn't empty ends with an entry
pub record EndsWith (list : List Entry) : Type 0 where
  pub before : List Entry
  pub last : Entry
  pub whole : list ≡ before ++ last ∷ []

ends_so : (x : Entry) (xs : List Entry) → EndsWith (x ∷ xs)
ends_so x [] = record { before = []; last = x; whole = refl }
ends_so x (y ∷ ys) =
    let r : EndsWith (y ∷ ys) = ends_so y ys in
    record { before = x ∷ r.before; last = r.last; whole = ap (λ (es : List Entry). x ∷ es) r.whole }

pub ends_with : (list : List Entry) → 0 < length list → EndsWith list
ends_with [] some = absurd (omega arith)
ends_with (x ∷ xs) some = ends_so x xs

-- the last of the entries as they are kept
pub last_is : (kept : List KeptEntry) (list before : List Entry) (e : Entry) (k : KeptEntry) (last : ℕ) →
    map entry_of kept ≡ list → list ≡ before ++ e ∷ [] → last + 1 ≡ length kept → k ≡ get_or kept last k →
    entry_of k ≡ e
last_is kept list before e k last are ends end at =
    let long : length kept ≡ length before + 1 = sym (length-map kept entry_of) ∙ ap length (are ∙ ends)
    ∙ length-append before (e ∷ []) in
    let below : last < length kept = omega arith in
    let here : length before ≡ last = omega arith in
    mapped_at entry_of kept last k below at
    ∙ ap (λ (es : List Entry). get_or es last (entry_of k)) (are ∙ ends)
    ∙ get_or_push before e (entry_of k) last here

pub some_kept : (kept : List KeptEntry) (list : List Entry) → map entry_of kept ≡ list → 0 < length list →
    0 < length kept
some_kept kept list are some =
    let long : length kept ≡ length list = sym (length-map kept entry_of) ∙ ap length are in
    omega arith

-- its actor is there
pub last_there : (c : Contents) (list : List Entry) (actor : ℕ) → IsLegal (setup_of c) list → 0 < length list →
    ((before : List Entry) (e : Entry) → list ≡ before ++ e ∷ [] → actor ≡ e.actor) → actor < actors_in c
last_there c list actor legal some is =
    let r : EndsWith list = ends_with list some in
    let stood : Stands list r.before r.last = record { after = []; whole = r.whole } in
    let there : r.last.actor < (setup_of c).group.n + (setup_of c).group.clients =
    (legal.entries r.before r.last stood).actor in
    subst (λ (g : Group). actor < g.n + g.clients) (group_is c)
    (subst (λ (a : ℕ). a < (setup_of c).group.n + (setup_of c).group.clients) (sym (is r.before r.last r.whole)) there)

-- and at hand
pub last_own : (r : SoFar) (actor : ℕ) → IsSoFar r → 0 < length r.history →
    ((before : List Entry) (e : Entry) → r.history ≡ before ++ e ∷ [] → actor ≡ e.actor) →
    is_at_hand r actor ≡ true
last_own r actor is some last =
    let ends : EndsWith r.history = ends_with r.history some in
    ap (is_among r.only) (last ends.before ends.last ends.whole)
    ∙ last_theirs r.only r.history ends.before ends.last is.are_theirs ends.whole

-- its own list ends with it
pub own_ends : (list before : List Entry) (e : Entry) → list ≡ before ++ e ∷ [] →
    own list e.actor ≡ own before e.actor ++ e ∷ []
own_ends list before e is =
    ap (λ (es : List Entry). own es e.actor) is ∙ own-append before (e ∷ []) e.actor
    ∙ ap (λ (es : List Entry). own before e.actor ++ es)
    (own_first e [] e.actor refl ∙ ap (λ (es : List Entry). e ∷ es) (own_none e.actor))

-- so the bench has an entry
pub bench_has : (c : Contents) (list : List Entry) (actor : ℕ) (b : BenchState) (kept : List KeptEntry) →
    b ≡ bench_in c list actor → map entry_of kept ≡ b.list → 0 < length list →
    ((before : List Entry) (e : Entry) → list ≡ before ++ e ∷ [] → actor ≡ e.actor) → 0 < length kept
bench_has c list actor b kept is are some last =
    let r : EndsWith list = ends_with list some in
    let its : actor ≡ r.last.actor = last r.before r.last r.whole in
    let owned : b.list ≡ own r.before r.last.actor ++ r.last ∷ [] =
    ap (λ (x : BenchState). x.list) is ∙ ap (own list) its ∙ own_ends list r.before r.last r.whole in
    let long : length kept ≡ length (own r.before r.last.actor) + 1 =
    sym (length-map kept entry_of) ∙ ap length (are ∙ owned)
    ∙ length-append (own r.before r.last.actor) (r.last ∷ []) in
    omega arith

-- and its last frames are the entry's
pub frames_last : (c : Contents) (list before : List Entry) (e : Entry) (actor place : ℕ) (b : BenchState)
    (kept : List KeptEntry) (frames : List (Signed Body)) → b ≡ bench_in c list actor → map entry_of kept ≡ b.list →
    place + 1 ≡ length kept → list ≡ before ++ e ∷ [] → actor ≡ e.actor →
    Some frames ≡ slice_get (frames_of_each (setup_in b) b.actor [] b.list) place →
    frames ≡ frames_after (setup_of c) e.actor (own before e.actor) e
frames_last c list before e actor place b kept frames is are end ends its found =
    let owned : b.list ≡ own before e.actor ++ e ∷ [] =
    ap (λ (x : BenchState). x.list) is ∙ ap (own list) its ∙ own_ends list before e ends in
    let long : length kept ≡ length (own before e.actor) + 1 =
    sym (length-map kept entry_of) ∙ ap length (are ∙ owned) ∙ length-append (own before e.actor) (e ∷ []) in
    let here : place ≡ length (own before e.actor) = omega arith in
    let said : Some frames ≡ Some (frames_after (setup_of c) e.actor (own before e.actor) e) =
    found
    ∙ ap (λ (x : BenchState). slice_get (frames_of_each (setup_in x) x.actor [] b.list) place) is
    ∙ (λ i. slice_get (frames_of_each (setup_of c) (its i) [] (owned i)) (here i))
    ∙ each_last (setup_of c) e.actor [] (own before e.actor) e in
    cc

-- there are frames at each place
pub frames_known : (b : BenchState) (place : ℕ) (kept : List KeptEntry) (o : Option (Bor (List (Signed Body)))) →
    map entry_of kept ≡ b.list → place + 1 ≡ length kept →
    option_map (λ frames. frames.now) o ≡ slice_get (frames_of_each (setup_in b) b.actor [] b.list) place →
    o ≡ None → ⊥
frames_known b place kept o are end told none =
    let long : length kept ≡ length b.list = sym (length-map kept entry_of) ∙ ap length are in
    let below : place < length b.list = omega arith in
    frames_there (setup_in b) b.actor [] b.list place below
    (sym told ∙ ap (λ (p : Option (Bor (List (Signed Body)))). option_map (λ frames. frames.now) p) none)
