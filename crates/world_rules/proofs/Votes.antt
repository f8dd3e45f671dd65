-- The votes among frames: a frame holds none inside, and what entries are to a proxy has the votes of the frames taken.
use Rattle.std.proofs.Common.{◌≡◌, ℕ, List, [], ◌∷◌, ◌++◌, map, append-nil, refl, sym, ◌∙◌, ap}
use Rattle.std.specs.List.{flat_map}
use Rattle.std.proofs.lemmas.Grind.{flat_map-append}
use Rattle.message_types.specs.declared.signed.Signed.{Signed}
use Rattle.message_types.specs.declared.ordering.Certificate.{Certificate}
use Rattle.message_types.specs.declared.views.Report.{Report}
use Rattle.message_types.specs.declared.body.Body.{Body}
use Rattle.message_types.specs.declared.body.Body.TheVariants as body
use Rattle.message_types.specs.Parts.{parts, inside, inside_report, as_frame, frames_of, request_parts}
use Rattle.vouched_orders.specs.declared.vote.Vote.{Vote}
use Rattle.vouched_orders.specs.Vouching.{votes_in}
use Rattle.field_proxy.specs.Happenings.{Happening, Changed, Polled, Vouched, votes_of}
use Rattle.history_rules.specs.Events.{Event, Took, Tick, Command, Field, Poll, Cry, Skip, Restart, Entry}
use Rattle.history_rules.specs.Audit.{parts_taken}
use Rattle.world_rules.specs.Clients.{happenings_of}
use Rattle.world_rules.specs.Laws.{NoVoteInside}

pub votes_in-append : (xs ys : List (Signed Body)) → votes_in (xs ++ ys) ≡ votes_in xs ++ votes_in ys
unfolding votes_in
votes_in-append xs ys = flat_map-append _ xs ys

none_both : (xs ys : List (Signed Body)) → votes_in xs ≡ [] → votes_in ys ≡ [] → votes_in (xs ++ ys) ≡ []
none_both xs ys x y = votes_in-append xs ys ∙ ap (λ (vs : List Vote). vs ++ votes_in ys) x ∙ y

none_in_all : {X : Type 0} (frames : X → List (Signed Body)) → ((x : X) → votes_in (frames x) ≡ []) → (xs : List X) →
    votes_in (flat_map frames xs) ≡ []
unfolding votes_in
none_in_all frames none [] = refl
none_in_all frames none (x ∷ xs) = none_both (frames x) (flat_map frames xs) (none x) (none_in_all frames none xs)

-- frames of a kind that isn't the vouchers'
none_of_kind : {B : Type 0} (kind : B → Body) → ((f : Signed B) → votes_in (as_frame kind f ∷ []) ≡ []) →
    (fs : List (Signed B)) → votes_in (frames_of kind fs) ≡ []
unfolding votes_in
none_of_kind kind none [] = refl
none_of_kind kind none (f ∷ fs) = none_both (as_frame kind f ∷ []) (frames_of kind fs) (none f)
    (none_of_kind kind none fs)

none_in_report : (b : Report) → votes_in (inside_report b) ≡ []
unfolding votes_in
none_in_report b =
    none_both (frames_of body.Mark b.marks)
    (flat_map (λ (c : Certificate). frames_of body.Prepare c.prepares) b.certificates)
    (none_of_kind body.Mark (λ f. refl) b.marks)
    (none_in_all (λ (c : Certificate). frames_of body.Prepare c.prepares)
    (λ c. none_of_kind body.Prepare (λ f. refl) c.prepares) b.certificates)

none_inside : (b : Body) → votes_in (inside b) ≡ []
unfolding votes_in
none_inside (body.PrePrepare b) = none_of_kind body.PoSummary (λ f. refl) b.frames
none_inside (body.Report b) = none_in_report b
none_inside (body.NewView b) =
    none_in_all (λ (f : Signed Report). as_frame body.Report f ∷ inside_report f.body)
    (λ f. none_both (as_frame body.Report f ∷ []) (inside_report f.body) refl (none_in_report f.body)) b.reports
none_inside (body.Give b) =
    none_both (request_parts b.request) (frames_of body.PoAck b.acks) refl (none_of_kind body.PoAck (λ f. refl) b.acks)
none_inside (body.GiveOrdered b) = none_of_kind body.Commit (λ f. refl) b.commits
none_inside _ = refl

pub no_vote_inside : NoVoteInside
no_vote_inside frame =
    votes_in-append (frame ∷ []) (inside frame.body)
    ∙ ap (λ (vs : List Vote). votes_in (frame ∷ []) ++ vs) (none_inside frame.body)
    ∙ append-nil (votes_in (frame ∷ []))

votes_of-append : (xs ys : List Happening) → votes_of (xs ++ ys) ≡ votes_of xs ++ votes_of ys
votes_of-append [] ys = refl
votes_of-append (Changed area place value ∷ xs) ys = votes_of-append xs ys
votes_of-append (Polled room ∷ xs) ys = votes_of-append xs ys
votes_of-append (Vouched vote ∷ xs) ys = ap (λ (vs : List Vote). vote ∷ vs) (votes_of-append xs ys)

votes_vouched : (votes : List Vote) → votes_of (map Vouched votes) ≡ votes
votes_vouched [] = refl
votes_vouched (v ∷ vs) = ap (λ (rest : List Vote). v ∷ rest) (votes_vouched vs)

by_event : (stamp actor : ℕ) (event : Event) (said : List Body)
    → votes_of (happenings_of record { stamp = stamp; actor = actor; event = event; said = said })
    ≡ votes_in (parts_taken record { stamp = stamp; actor = actor; event = event; said = said })
unfolding votes_in
by_event stamp actor (Took s p f) said = votes_vouched (votes_in (flat_map parts (f ∷ [])))
by_event stamp actor Tick said = refl
by_event stamp actor (Command op) said = refl
by_event stamp actor (Field area place value) said = refl
by_event stamp actor Poll said = refl
by_event stamp actor (Cry bytes) said = refl
by_event stamp actor Skip said = refl
by_event stamp actor Restart said = refl

-- the votes among what entries are to a proxy are those of the frames taken
pub votes_taken_so : (entries : List Entry) → votes_of (flat_map happenings_of entries) ≡ votes_in
    (flat_map parts_taken entries)
unfolding votes_in
votes_taken_so [] = refl
votes_taken_so (e ∷ rest) =
    votes_of-append (happenings_of e) (flat_map happenings_of rest)
    ∙ ap (λ (vs : List Vote). vs ++ votes_of (flat_map happenings_of rest)) (by_event e.stamp e.actor e.event e.said)
    ∙ ap (λ (vs : List Vote). votes_in (parts_taken e) ++ vs) (votes_taken_so rest)
    ∙ sym (votes_in-append (parts_taken e) (flat_map parts_taken rest))
