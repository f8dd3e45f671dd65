-- What was posted by passes: letters after letters.
use Rattle.std.proofs.Common.{◌≡◌, ℕ, zero, suc, ◌+◌, ◌<◌, ◌≤◌, ◌⊎◌, inl, inr, Bool, true, false, cond, List, [], ◌∷◌}
use Rattle.std.proofs.Common.{◌++◌, Option, Some, None, length, map, filter, take, set, get_or, nat_eq, min, refl}
use Rattle.std.proofs.Common.{sym, ◌∙◌, ap, subst, arith, append-nil, append_assoc}
use Rattle.std.specs.Prelude.{Result, Ok, Err, MatchResult, is_err, slice_get}
use Rattle.std.specs.List.{flat_map}
use Rattle.std.proofs.lemmas.Bool.{cases_eq, eq-eqb, ne_eqb, true≢false}
use Rattle.std.proofs.lemmas.List.{length-set, map-append, length-append}
use Rattle.std.proofs.lemmas.List.Elements.{filter-append}
use Rattle.std.proofs.lemmas.Grind.{flat_map-append}
use Rattle.message_types.specs.declared.signed.Signed.{Signed}
use Rattle.message_types.specs.declared.body.Body.{Body}
use Rattle.scenario_file.specs.Reading.{Contents}
use Rattle.station_turns.specs.declared.held.Turned.{Turned}
use Rattle.inboxes.specs.declared.pass.InboxPass.{InboxPass}
use Rattle.inboxes.specs.declared.rule.Known.{Known}
use Rattle.inboxes.specs.Passes.{known}
use Rattle.inboxes.specs.Steps as step
use Rattle.replica_threads.specs.declared.posted.Posted.{Posted}
use Rattle.replica_threads.specs.Letters.{most_frames, posted_from, posts_of, goes_to, letters_of, letters, to_actor}
use Rattle.replica_threads.specs.Letters.{sent_by, HaveSent}
use Rattle.replica_threads.proofs.Lists.{get_set_same, get_set_other, get_within, get_read, take_one_more, take_length}
use Rattle.replica_threads.proofs.Lists.{take_least, some_there}
use Rattle.plain_lists.proofs.Lists.{take_whole}

to_actor_join : (actor : ℕ) (xs ys : List (ℕ × Posted)) → to_actor actor (xs ++ ys) ≡ to_actor actor xs
    ++ to_actor actor ys
to_actor_join actor xs ys =
    ap (map (λ (l : ℕ × Posted). l.1)) (filter-append (λ (l : ℕ × Posted). nat_eq l.0 actor) xs ys)
    ∙ map-append (λ (l : ℕ × Posted). l.1) (filter (λ (l : ℕ × Posted). nat_eq l.0 actor) xs)
    (filter (λ (l : ℕ × Posted). nat_eq l.0 actor) ys)

pub nothing_sent : (passes : List (InboxPass Posted)) → HaveSent passes [] passes
nothing_sent passes = record { count = refl; each = λ actor below. sym (append-nil (sent_by (slice_get passes actor))) }

-- letters, and then more
pub sent_more : (a b c : List (InboxPass Posted)) (xs ys : List (ℕ × Posted)) → HaveSent a xs b → HaveSent b ys c →
    HaveSent a (xs ++ ys) c
sent_more a b c xs ys first then = record {
  count = then.count ∙ first.count;
  each = λ actor below.
      then.each actor (omega (arith, first.count, below))
      ∙ ap (λ (ps : List Posted). ps ++ to_actor actor ys) (first.each actor below)
      ∙ append_assoc (sent_by (slice_get a actor)) (to_actor actor xs) (to_actor actor ys)
      ∙ ap (λ (ps : List Posted). sent_by (slice_get a actor) ++ ps) (sym (to_actor_join actor xs ys));
}

pub sent_as : (a b : List (InboxPass Posted)) (xs ys : List (ℕ × Posted)) → xs ≡ ys → HaveSent a xs b → HaveSent a ys b
sent_as a b xs ys same sent = subst (λ (zs : List (ℕ × Posted)). HaveSent a zs b) same sent

posted_more : (v w : Known Posted) (x : Posted) → step.Posted v x w →
    map (λ (item : ℕ × Posted). item.1) w.posted ≡ map (λ (item : ℕ × Posted). item.1) v.posted ++ x ∷ []
posted_more v w x (taken, items, seen, is) =
    ap (λ (u : Known Posted). map (λ (item : ℕ × Posted). item.1) u.posted) is
    ∙ map-append (λ (item : ℕ × Posted). item.1) v.posted ((length (taken ++ items), x) ∷ [])

one_letter : (old : List (InboxPass Posted)) (i actor : ℕ) (x : Posted) (before after : InboxPass Posted) →
    i < length old → slice_get old i ≡ Some before → step.Posted (known before) x (known after)
    → (actor ≡ i) ⊎ (actor ≡ i → ⊥) → sent_by (slice_get (set old i after) actor) ≡ sent_by (slice_get old actor)
    ++ to_actor actor ((i, x) ∷ [])
one_letter old i actor x before after below at posted (inl same) =
    ap (λ (n : ℕ). sent_by (slice_get (set old i after) n)) same
    ∙ ap sent_by (get_set_same old i after below)
    ∙ posted_more (known before) (known after) x posted
    ∙ ap (λ (o : Option (InboxPass Posted)). sent_by o ++ x ∷ []) (sym at)
    ∙ ap (λ (n : ℕ). sent_by (slice_get old n) ++ x ∷ []) (sym same)
    ∙ ap (λ (b : Bool). sent_by (slice_get old actor) ++ map (λ (l : ℕ × Posted). l.1) (cond b ((i, x) ∷ []) []))
    (sym (eq-eqb i actor (sym same)))
one_letter old i actor x before after below at posted (inr other) =
    ap sent_by (get_set_other old i actor after other)
    ∙ sym (append-nil (sent_by (slice_get old actor)))
    ∙ ap (λ (b : Bool). sent_by (slice_get old actor) ++ map (λ (l : ℕ × Posted). l.1) (cond b ((i, x) ∷ []) []))
    (sym (ne_eqb i actor (λ same. other (sym same))))

-- one letter
pub one_sent : (old : List (InboxPass Posted)) (i : ℕ) (x : Posted) (before after : InboxPass Posted) →
    i < length old → before ≡ get_or old i before
    → step.Posted (known before) x (known after) → HaveSent old ((i, x) ∷ []) (set old i after)
one_sent old i x before after below at posted = record {
  count = length-set old i after;
  each = λ actor within. one_letter old i actor x before after below (get_read old i before below at)
      posted (cases_eq actor i);
}

-- a frame to one actor more
pub to_one_more : (a b c : List (InboxPass Posted)) (to : List ℕ) (i actor : ℕ) (x y : Posted) →
    slice_get to i ≡ Some actor → y ≡ x → HaveSent a (map (λ n. (n, x)) (take i to)) b
    → HaveSent b ((actor, y) ∷ []) c → HaveSent a (map (λ n. (n, x)) (take (i + 1) to)) c
to_one_more a b c to i actor x y at same first then =
    sent_as a c (map (λ (n : ℕ). (n, x)) (take i to) ++ (actor, x) ∷ []) (map (λ (n : ℕ). (n, x)) (take (i + 1) to))
    (sym (ap (map (λ (n : ℕ). (n, x))) (take_one_more to i actor at)
    ∙ map-append (λ (n : ℕ). (n, x)) (take i to) (actor ∷ [])))
    (sent_more a b c (map (λ (n : ℕ). (n, x)) (take i to)) ((actor, x) ∷ []) first
    (subst (λ (z : Posted). HaveSent b ((actor, z) ∷ []) c) same then))

-- to all of them
pub to_all : (a b : List (InboxPass Posted)) (to : List ℕ) (i : ℕ) (x : Posted) → length to ≤ i →
    HaveSent a (map (λ n. (n, x)) (take i to)) b → HaveSent a (map (λ n. (n, x)) to) b
to_all a b to i x past sent = subst (λ (ns : List ℕ). HaveSent a (map (λ (n : ℕ). (n, x)) ns) b)
    (take_whole to i past) sent

a_post : ℕ → ℕ → Signed Body → Posted
a_post stamp place f = record { stamp = stamp; place = place; frame = f }

posted_push : (stamp place : ℕ) (fs : List (Signed Body)) (f : Signed Body) →
    posted_from stamp place (fs ++ f ∷ []) ≡ posted_from stamp place fs ++ a_post stamp (place + length fs) f ∷ []
unfolding a_post
posted_push stamp place [] f = let none : place ≡ place + 0 = omega arith in ap (λ (n : ℕ). a_post stamp n f ∷ []) none
posted_push stamp place (g ∷ gs) f =
    let more : suc place + length gs ≡ place + suc (length gs) = omega arith in
    ap (λ (ps : List Posted). a_post stamp place g ∷ ps) (posted_push stamp (suc place) gs f
    ∙ ap (λ (n : ℕ). posted_from stamp (suc place) gs ++ a_post stamp n f ∷ []) more)

-- the letters of a turn's first frames
pub letters_so_far : Contents → ℕ → Turned → ℕ → List (ℕ × Posted)
letters_so_far c actor t i = flat_map (letters_of c actor t) (posted_from t.stamp 0 (take i t.frames.items))

frame_more : (c : Contents) (actor : ℕ) (t : Turned) (i : ℕ) (f : Signed Body) → slice_get t.frames.items i ≡ Some f
    → letters_so_far c actor t (i + 1) ≡ letters_so_far c actor t i
    ++ letters_of c actor t (record { stamp = t.stamp; place = i; frame = f })
unfolding letters_so_far a_post
frame_more c actor t i f at =
    let short : i < length t.frames.items = get_within t.frames.items i f at in
    let taken = take_length t.frames.items i (omega arith) in
    let count : 0 + length (take i t.frames.items) ≡ i = omega (arith, taken) in
    let before : List Posted = posted_from t.stamp 0 (take i t.frames.items) in
    ap (λ (fs : List (Signed Body)). flat_map (letters_of c actor t) (posted_from t.stamp 0 fs))
    (take_one_more t.frames.items i f at)
    ∙ ap (flat_map (letters_of c actor t)) (posted_push t.stamp 0 (take i t.frames.items) f)
    ∙ ap (λ (n : ℕ). flat_map (letters_of c actor t) (before ++ a_post t.stamp n f ∷ [])) count
    ∙ flat_map-append (letters_of c actor t) before (a_post t.stamp i f ∷ [])
    ∙ ap (λ (ls : List (ℕ × Posted)). flat_map (letters_of c actor t) before ++ ls)
    (append-nil (letters_of c actor t (a_post t.stamp i f)))

pub no_frames : (c : Contents) (actor : ℕ) (t : Turned) (passes : List (InboxPass Posted)) →
    HaveSent passes (letters_so_far c actor t 0) passes
unfolding letters_so_far
no_frames c actor t passes = nothing_sent passes

-- one frame more
pub one_frame_more : (c : Contents) (actor : ℕ) (t : Turned) (i : ℕ) (f : Signed Body)
    (a b d : List (InboxPass Posted)) → slice_get t.frames.items i ≡ Some f → HaveSent a (letters_so_far c actor t i) b
    → HaveSent b (letters_of c actor t (record { stamp = t.stamp; place = i; frame = f })) d →
    HaveSent a (letters_so_far c actor t (i + 1)) d
one_frame_more c actor t i f a b d at first then =
    sent_as a d (letters_so_far c actor t i
    ++ letters_of c actor t (record { stamp = t.stamp; place = i; frame = f })) (letters_so_far c actor t (i + 1))
    (sym (frame_more c actor t i f at))
    (sent_more a b d (letters_so_far c actor t i)
    (letters_of c actor t (record { stamp = t.stamp; place = i; frame = f })) first then)

-- by the frame at a place
pub frames_more : (c : Contents) (actor : ℕ) (t : Turned) (i : ℕ) (a b d : List (InboxPass Posted)) →
    i < length t.frames.items → HaveSent a (letters_so_far c actor t i) b
    → ((f : Signed Body) → slice_get t.frames.items i ≡ Some f →
    HaveSent b (letters_of c actor t (record { stamp = t.stamp; place = i; frame = f })) d) →
    HaveSent a (letters_so_far c actor t (i + 1)) d
frames_more c actor t i a b d within first then =
    let here = some_there t.frames.items i within in
    one_frame_more c actor t i here.0 a b d here.1 first (then here.0 here.1)

-- all frames
pub all_frames : (c : Contents) (actor : ℕ) (t : Turned) (i : ℕ) (a b : List (InboxPass Posted)) →
    i ≡ min (length t.frames.items) most_frames → HaveSent a (letters_so_far c actor t i) b →
    HaveSent a (letters c actor t) b
unfolding letters_so_far
all_frames c actor t i a b is sent =
    subst (λ (fs : List (Signed Body)). HaveSent a (flat_map (letters_of c actor t) (posted_from t.stamp 0 fs)) b)
    (ap (λ (n : ℕ). take n t.frames.items) is ∙ take_least t.frames.items most_frames) sent

-- what was posted, where an inbox refused nothing
pub where_posted : (r : Result (Unit {0}) Posted) (b : Bool) (P : Type 0) (Q : Posted → Type 0) → b ≡ is_err r →
    b ≡ false → MatchResult r (λ _. P) Q → P
where_posted (Ok u) b P Q is isnt done = done
where_posted (Err x) b P Q is isnt done = absurd (true≢false (sym is ∙ isnt))
