-- Where the frames of an entry are: its actor's bench has them, at the place of the entry in the actor's own list.
use Rattle.std.proofs.Common.{◌≡◌, ◌⊎◌, ℕ, zero, suc, ◌+◌, ◌<◌, ◌≤◌, true, not, nat_eq, nat_lt, List, [], ◌∷◌, ◌++◌}
use Rattle.std.proofs.Common.{Option, None, Some, length, map, filter, take, drop, get_or, set, replicate, inl, inr}
use Rattle.std.proofs.Common.{append_assoc, append-nil, refl, sym, ◌∙◌, ap, subst, arith}
use Rattle.std.proofs.lemmas.Bool.{true≢false, cases_lt, le-ltb}
use Rattle.std.proofs.lemmas.List.{length-append, length-map, length-take-le, length-replicate, get_or-replicate}
use Rattle.std.proofs.lemmas.List.{same_lists, map_more}
use Rattle.std.proofs.lemmas.List.Filters.{length-filter_both}
use Rattle.std.proofs.lemmas.List.Folds.{list_all_at}
use Rattle.std.specs.List.{slice_get, list_all}
use Rattle.message_types.specs.declared.signed.Signed.{Signed}
use Rattle.message_types.specs.declared.body.Body.{Body}
use Rattle.quorum_sets.specs.Masters.{numbers_below}
use Rattle.agreement.proofs.KnownAsItGrows.{own-append, own_first, own_other, own_none}
use Rattle.history_rules.specs.Events.{Entry}
use Rattle.history_rules.specs.Setup.{Setup, own}
use Rattle.world_rules.specs.Frames.{cried, frames_of, frames_at_stamp}
use Rattle.bench_rules.specs.Lists.{frames_after}
use Rattle.world_history.specs.Seats.{frames_of_each}
use Rattle.world_entries.specs.declared.entry.Entry.{Entry as KeptEntry}
use Rattle.world_entries.specs.Entries.{entry_of}
use Rattle.printed_run.specs.Places.{places_from}
use Rattle.quorum_sets.proofs.Numbered.{numbered_set, numbered_at, length-numbered}

-- the entry with a stamp stands behind those before it
pub stands_at : (history : List Entry) (stamp : ℕ) (e : Entry) → slice_get history stamp ≡ Some e →
    history ≡ take stamp history ++ e ∷ drop (suc stamp) history
stands_at [] stamp e is = absurd (cc)
stands_at (x ∷ rest) zero e is = let same : x ≡ e = cc in ap (λ (y : Entry). y ∷ rest) same
stands_at (x ∷ rest) (suc stamp) e is = ap (λ (es : List Entry). x ∷ es) (stands_at rest stamp e is)

pub length-before : (history : List Entry) (stamp : ℕ) (e : Entry) → slice_get history stamp ≡ Some e →
    length (take stamp history) ≡ stamp
length-before [] stamp e is = absurd (cc)
length-before (x ∷ rest) zero e is = refl
length-before (x ∷ rest) (suc stamp) e is = ap suc (length-before rest stamp e is)

-- the frames of the entry behind others of its actor
each_at : (w : Setup) (actor : ℕ) (before list after : List Entry) (e : Entry) (d : List (Signed Body))
    → get_or (frames_of_each w actor before (list ++ e ∷ after)) (length list)
    d ≡ frames_after w actor (before ++ list) e
each_at w actor before [] after e d = ap (λ (es : List Entry). frames_after w actor es e) (sym (append-nil before))
each_at w actor before (x ∷ list) after e d =
    each_at w actor (before ++ x ∷ []) list after e d
    ∙ ap (λ (es : List Entry). frames_after w actor es e) (append_assoc before (x ∷ []) list)

pub length-each : (w : Setup) (actor : ℕ) (before list : List Entry) →
    length (frames_of_each w actor before list) ≡ length list
length-each w actor before [] = refl
length-each w actor before (e ∷ list) = ap suc (length-each w actor (before ++ e ∷ []) list)

-- the place of an entry behind others
place_at : (before list after : List Entry) (e : Entry) (d : ℕ) →
    get_or (places_from before (list ++ e ∷ after)) (length list) d ≡ length (own (before ++ list) e.actor)
place_at before [] after e d = ap (λ (es : List Entry). length (own es e.actor)) (sym (append-nil before))
place_at before (x ∷ list) after e d =
    place_at (before ++ x ∷ []) list after e d
    ∙ ap (λ (es : List Entry). length (own es e.actor)) (append_assoc before (x ∷ []) list)

pub length-places : (before list : List Entry) → length (places_from before list) ≡ length list
length-places before [] = refl
length-places before (e ∷ list) = ap suc (length-places (before ++ e ∷ []) list)

-- one place more
pub place_more : (before list : List Entry) (e : Entry) →
    places_from before (list ++ e ∷ []) ≡ places_from before list ++ length (own (before ++ list) e.actor) ∷ []
place_more before [] e = ap (λ (es : List Entry). length (own es e.actor) ∷ []) (sym (append-nil before))
place_more before (x ∷ list) e =
    ap (λ (ps : List ℕ). length (own before x.actor) ∷ ps)
    (place_more (before ++ x ∷ []) list e
    ∙ ap (λ (es : List Entry). places_from (before ++ x ∷ []) list ++ length (own es e.actor) ∷ [])
    (append_assoc before (x ∷ []) list))

-- how many entries of its own each actor has
abbrev pub count_of : List Entry → ℕ → ℕ
count_of history actor = length (own history actor)

pub one_counted : (list : List Entry) (e : Entry) (actors : ℕ) → e.actor < actors
    → set (map (count_of list) (numbers_below actors)) e.actor (count_of list e.actor + 1) ≡ map
    (count_of (list ++ e ∷ [])) (numbers_below actors)
one_counted list e actors low =
    ap (λ (n : ℕ). set (map (count_of list) (numbers_below actors)) e.actor n) (sym grown)
    ∙ numbered_set (count_of list) (count_of (list ++ e ∷ [])) actors e.actor low others
  where
    grown : count_of (list ++ e ∷ []) e.actor ≡ count_of list e.actor + 1
    grown =
        ap length (own-append list (e ∷ []) e.actor) ∙ length-append (own list e.actor) (own (e ∷ []) e.actor)
        ∙ ap (λ (es : List Entry). count_of list e.actor + length es) (own_first e [] e.actor refl)
        ∙ ap (λ (es : List Entry). count_of list e.actor + suc (length es)) (own_none e.actor)

    others : (a : ℕ) → (a ≡ e.actor → ⊥) → count_of list a ≡ count_of (list ++ e ∷ []) a
    others a apart = sym (
        ap length (own-append list (e ∷ []) a) ∙ length-append (own list a) (own (e ∷ []) a)
        ∙ ap (λ (es : List Entry). count_of list a + length es)
        (own_other e [] a (λ (same : e.actor ≡ a). apart (sym same)))
        ∙ ap (λ (es : List Entry). count_of list a + length es) (own_none a)
        ∙ omega arith)

pub counted_at : (list : List Entry) (actors k d : ℕ) → k < actors →
    get_or (map (count_of list) (numbers_below actors)) k d ≡ count_of list k
counted_at list actors k d low = numbered_at (count_of list) actors k d low

-- Where an entry cries nothing, its bench has its frames at its own place.
pub frames_by_bench : (w : Setup) (history : List Entry) (stamp : ℕ) (e : Entry) (d : List (Signed Body)) →
    slice_get history stamp ≡ Some e → cried e.event ≡ []
    → get_or (frames_of_each w e.actor [] (own history e.actor)) (length (own (take stamp history) e.actor))
    d ≡ frames_at_stamp w history stamp
unfolding frames_at_stamp
frames_by_bench w history stamp e d is silent =
    let before : List Entry = take stamp history in
    let list : own history e.actor ≡ own before e.actor ++ e ∷ own (drop (suc stamp) history) e.actor =
    ap (λ (es : List Entry). own es e.actor) (stands_at history stamp e is)
    ∙ own-append before (e ∷ drop (suc stamp) history) e.actor
    ∙ ap (λ (es : List Entry). own before e.actor ++ es) (own_first e (drop (suc stamp) history) e.actor refl) in
    ap (λ (es : List Entry). get_or (frames_of_each w e.actor [] es) (length (own before e.actor)) d) list
    ∙ each_at w e.actor [] (own before e.actor) (own (drop (suc stamp) history) e.actor) e d
    ∙ sym (append-nil (frames_after w e.actor (own before e.actor) e))
    ∙ ap (λ (fs : List (Signed Body)). frames_after w e.actor (own before e.actor) e ++ fs) (sym silent)
    ∙ sym (ap (λ (o : Option Entry). at o) is)
  where
    at : Option Entry → List (Signed Body)
    at o = elim o [ None ↦ [] | Some e ↦ frames_of w (own (take stamp history) e.actor) e ]

-- the place of the entry with a stamp
pub place_of : (history : List Entry) (stamp : ℕ) (e : Entry) (d : ℕ) → slice_get history stamp ≡ Some e
    → get_or (places_from [] history) stamp d ≡ length (own (take stamp history) e.actor)
place_of history stamp e d is =
    ap (λ (es : List Entry). get_or (places_from [] es) stamp d) (stands_at history stamp e is)
    ∙ ap (λ (n : ℕ). get_or (places_from [] (take stamp history ++ e ∷ drop (suc stamp) history)) n d)
    (sym (length-before history stamp e is))
    ∙ place_at [] (take stamp history) (drop (suc stamp) history) e d

-- the place is one of the actor's own list
pub place_inside : (history : List Entry) (stamp : ℕ) (e : Entry) → slice_get history stamp ≡ Some e →
    length (own (take stamp history) e.actor) < length (own history e.actor)
place_inside history stamp e is =
    let before : List Entry = take stamp history in
    let long : length (own history e.actor) ≡ length (own before e.actor) + suc
    (length (own (drop (suc stamp) history) e.actor)) =
    ap (λ (es : List Entry). length (own es e.actor)) (stands_at history stamp e is)
    ∙ ap length (own-append before (e ∷ drop (suc stamp) history) e.actor)
    ∙ ap (λ (es : List Entry). length (own before e.actor ++ es)) (own_first e (drop (suc stamp) history) e.actor refl)
    ∙ length-append (own before e.actor) (e ∷ own (drop (suc stamp) history) e.actor) in
    omega arith

-- one entry more, with its place and its actor's count
pub places_step : (xs : List KeptEntry) (i : ℕ) (d : KeptEntry) (places : List ℕ) (count : ℕ) → i < length xs →
    places ≡ places_from [] (map entry_of (take i xs))
    → count ≡ count_of (map entry_of (take i xs)) (get_or xs i d).actor →
    places ++ count ∷ [] ≡ places_from [] (map entry_of (take (i + 1) xs))
places_step xs i d places count below were is =
    ap (λ (ps : List ℕ). ps ++ count ∷ []) were
    ∙ ap (λ (n : ℕ). places_from [] (map entry_of (take i xs)) ++ n ∷ []) is
    ∙ sym (place_more [] (map entry_of (take i xs)) (entry_of (get_or xs i d)))
    ∙ ap (places_from []) (sym (map_more entry_of xs i d below))

pub counts_step : (xs : List KeptEntry) (i : ℕ) (d : KeptEntry) (actors : ℕ) (counts : List ℕ) → i < length xs →
    (get_or xs i d).actor < actors
    → counts ≡ map (count_of (map entry_of (take i xs))) (numbers_below actors)
    → set counts (get_or xs i d).actor (count_of (map entry_of (take i xs)) (get_or xs i d).actor + 1) ≡ map
    (count_of (map entry_of (take (i + 1) xs))) (numbers_below actors)
counts_step xs i d actors counts below low were =
    ap (λ (cs : List ℕ). set cs (get_or xs i d).actor (count_of (map entry_of (take i xs)) (get_or xs i d).actor + 1))
    were
    ∙ one_counted (map entry_of (take i xs)) (entry_of (get_or xs i d)) actors low
    ∙ ap (λ (es : List Entry). map (count_of es) (numbers_below actors)) (sym (map_more entry_of xs i d below))

-- at first no actor has an entry
pub none_counted : (actors : ℕ) (counts : List ℕ) → counts ≡ replicate actors 0 →
    counts ≡ map (count_of []) (numbers_below actors)
none_counted actors counts are =
    let size : length counts ≡ actors = ap length are ∙ length-replicate actors 0 in
    same_lists counts (map (count_of []) (numbers_below actors)) (size ∙ sym (length-numbered (count_of []) actors))
    (λ k d low. at k d (omega arith))
  where
    at : (k d : ℕ) → k < actors → get_or counts k d ≡ get_or (map (count_of []) (numbers_below actors)) k d
    at k d inside =
        ap (λ (ns : List ℕ). get_or ns k d) are ∙ get_or-replicate actors k 0 d inside
        ∙ sym (counted_at [] actors k d inside ∙ ap length (own_none k))

actor_below : (xs : List KeptEntry) (i actors : ℕ) (x : KeptEntry) → list_all (λ e. nat_lt e.actor actors) xs ≡ true →
    i < length xs → x ≡ get_or xs i x → x.actor < actors
actor_below xs i actors x all below is = by (cases_lt x.actor actors)
  where
    by : (x.actor < actors) ⊎ (actors ≤ x.actor) → x.actor < actors
    by (inl less) = less
    by (inr most) = absurd (true≢false (sym all ∙ list_all_at (λ (e : KeptEntry). nat_lt e.actor actors) xs i x below
        (ap (λ (k : KeptEntry). nat_lt k.actor actors) (sym is) ∙ le-ltb x.actor actors most)))

counted_here : (list : List Entry) (actors k count : ℕ) (counts : List ℕ) → k < actors →
    counts ≡ map (count_of list) (numbers_below actors)
    → count ≡ get_or counts k count → count ≡ count_of list k
counted_here list actors k count counts low were is = is ∙ ap (λ (ns : List ℕ). get_or ns k count) were
    ∙ counted_at list actors k count low

-- an actor's entries are no more than all
count_few : (xs : List KeptEntry) (i k : ℕ) → i < length xs → count_of (map entry_of (take i xs)) k ≤ i
unfolding own
count_few xs i k below =
    let both : length (filter (λ e. nat_eq e.actor k) (map entry_of (take i xs))) + length
    (filter (λ e. not (nat_eq e.actor k)) (map entry_of (take i xs)))
    ≡ length (map entry_of (take i xs)) =
    length-filter_both (λ (e : Entry). nat_eq e.actor k) (λ (e : Entry). not (nat_eq e.actor k)) (λ e. refl)
    (map entry_of (take i xs)) in
    let size : length (map entry_of (take i xs)) ≡ length (take i xs) = length-map (take i xs) entry_of in
    let few : length (take i xs) ≡ i = length-take-le i xs (omega arith) in
    omega arith

pub count_small : (xs : List KeptEntry) (i actors count : ℕ) (x : KeptEntry) (counts : List ℕ) →
    list_all (λ e. nat_lt e.actor actors) xs ≡ true → i < length xs
    → x ≡ get_or xs i x → counts ≡ map (count_of (map entry_of (take i xs))) (numbers_below actors) →
    count ≡ get_or counts x.actor count → count ≤ i
count_small xs i actors count x counts all below is were has =
    let low : x.actor < actors = actor_below xs i actors x all below is in
    subst (λ (n : ℕ). n ≤ i) (sym (counted_here (map entry_of (take i xs)) actors x.actor count counts low were has))
    (count_few xs i x.actor below)

-- the place of an entry more
pub one_placed : (xs : List KeptEntry) (i actors count : ℕ) (x : KeptEntry) (places counts new : List ℕ) →
    list_all (λ e. nat_lt e.actor actors) xs ≡ true → i < length xs
    → x ≡ get_or xs i x → places ≡ places_from [] (map entry_of (take i xs)) →
    counts ≡ map (count_of (map entry_of (take i xs))) (numbers_below actors)
    → count ≡ get_or counts x.actor count → new ≡ places ++ count ∷ [] →
    new ≡ places_from [] (map entry_of (take (i + 1) xs))
one_placed xs i actors count x places counts new all below is placed were has next =
    let low : x.actor < actors = actor_below xs i actors x all below is in
    next ∙ places_step xs i x places count below placed
    (counted_here (map entry_of (take i xs)) actors x.actor count counts low were has
    ∙ ap (λ (k : KeptEntry). count_of (map entry_of (take i xs)) k.actor) is)

-- and its actor has one more
pub one_more : (xs : List KeptEntry) (i actors count : ℕ) (x : KeptEntry) (counts : List ℕ) →
    list_all (λ e. nat_lt e.actor actors) xs ≡ true → i < length xs
    → x ≡ get_or xs i x → counts ≡ map (count_of (map entry_of (take i xs))) (numbers_below actors) →
    count ≡ get_or counts x.actor count
    → set counts x.actor (count + 1) ≡ map (count_of (map entry_of (take (i + 1) xs))) (numbers_below actors)
one_more xs i actors count x counts all below is were has =
    let low : x.actor < actors = actor_below xs i actors x all below is in
    let here : count ≡ count_of (map entry_of (take i xs)) x.actor =
    counted_here (map entry_of (take i xs)) actors x.actor count counts low were has in
    ap (λ (n : ℕ). set counts x.actor (n + 1)) here
    ∙ ap (λ (k : KeptEntry). set counts k.actor (count_of (map entry_of (take i xs)) k.actor + 1)) is
    ∙ counts_step xs i x actors counts below (subst (λ (k : KeptEntry). k.actor < actors) is low) were
