-- What the calls of a proxy give, as the entry that they make tells it.
use Rattle.std.proofs.Common.{◌≡◌, ℕ, List, [], ◌∷◌, take, map, refl, sym, ap, ◌∙◌, subst}
use Rattle.std.specs.Prelude.{◌≤◌, ◌↔◌, Result, Ok, Err, IfOk, OnOk, OnErr, IsErr}
use Rattle.message_types.specs.declared.signed.Signed.{Signed}
use Rattle.message_types.specs.declared.updates.Update.{Update}
use Rattle.message_types.specs.declared.vouchers.Voucher.{Voucher}
use Rattle.message_types.specs.declared.body.Body.{Body}
use Rattle.message_types.specs.declared.body.Body.TheVariants as body
use Rattle.point_table.specs.declared.point.Area.{Area}
use Rattle.vouched_orders.specs.declared.vote.Vote.{Vote}
use Rattle.vouched_orders.specs.Vouching.{votes_in}
use Rattle.field_device.specs.Places.{Places, size_of, changed as changed_places}
use Rattle.field_proxy.proofs.PlaceLaws.{changed_out}
use Rattle.field_proxy.specs.Front.{Front, ProxyState, IsFrontOf, after_change, poll_says, after_poll}
use Rattle.field_proxy.specs.Happenings.{Vouched, front_after}
use Rattle.world_entries.specs.declared.entry.Event.{Event}
use Rattle.world_entries.specs.declared.entry.Event.TheVariants as kept
use Rattle.world_entries.specs.Entries.{event_of}
use Rattle.world_rules.specs.Clients.{proxy_says}
use Rattle.client_roles.specs.Roles.{IsProxyAfter, front_at}
use Rattle.client_roles.proofs.Going.{proxy_took, no_vote, poll_words, poll_counted, nothing_cut}

pub unheard : (s : Front) (frame : Signed Body) → ((v : Voucher) → frame.body ≡ body.Voucher v → ⊥) →
    s ≡ front_after s (map Vouched (votes_in (frame ∷ [])))
unheard s frame none = sym (ap (λ (votes : List Vote). front_after s (map Vouched votes)) (no_vote frame none))

quiet : (s : Front) (event : Event) → (event ≡ kept.Poll → ⊥) →
    ((stamp place : ℕ) (frame : Signed Body) → event ≡ kept.Took stamp place frame → ⊥)
    → ((a : Area) (place value : ℕ) → event ≡ kept.Field a place value → ⊥) → s ≡ front_at s (event_of event) []
quiet s (kept.Took stamp place frame) no_poll no_frame no_change = absurd (no_frame stamp place frame refl)
quiet s (kept.Field a place value) no_poll no_frame no_change = absurd (no_change a place value refl)
quiet s kept.Poll no_poll no_frame no_change = absurd (no_poll refl)
quiet s kept.Tick no_poll no_frame no_change = refl
quiet s (kept.Command op) no_poll no_frame no_change = refl
quiet s (kept.Cry bytes) no_poll no_frame no_change = refl
quiet s kept.Skip no_poll no_frame no_change = refl
quiet s kept.Restart no_poll no_frame no_change = refl

-- polls alone have words
pub silent : (s : Front) (event : Event) (room : ℕ) → (event ≡ kept.Poll → ⊥) →
    [] ≡ take room (proxy_says s (event_of event))
silent s (kept.Took stamp place frame) room no_poll = nothing_cut room
silent s (kept.Field a place value) room no_poll = nothing_cut room
silent s kept.Poll room no_poll = absurd (no_poll refl)
silent s kept.Tick room no_poll = nothing_cut room
silent s (kept.Command op) room no_poll = nothing_cut room
silent s (kept.Cry bytes) room no_poll = nothing_cut room
silent s kept.Skip room no_poll = nothing_cut room
silent s kept.Restart room no_poll = nothing_cut room

-- so a frame has none, nor has a change of the field
pub took_unsaid : (s : Front) (event : Event) (room : ℕ) (words : List Body) (stamp place : ℕ) (frame : Signed Body) →
    event ≡ kept.Took stamp place frame → words ≡ [] → words ≡ take room (proxy_says s (event_of event))
took_unsaid s event room words stamp place frame is none =
    none ∙ nothing_cut room ∙ ap (λ (e : Event). take room (proxy_says s (event_of e))) (sym is)

pub changed_unsaid : (s : Front) (event : Event) (room : ℕ) (words : List Body) (a : Area) (place value : ℕ) →
    event ≡ kept.Field a place value → words ≡ [] → words ≡ take room (proxy_says s (event_of event))
changed_unsaid s event room words a place value is none =
    none ∙ nothing_cut room ∙ ap (λ (e : Event). take room (proxy_says s (event_of e))) (sym is)

pub unmoved : (p : ProxyState) (event : Event) (said : List Body) → (event ≡ kept.Poll → ⊥) →
    ((stamp place : ℕ) (frame : Signed Body) → event ≡ kept.Took stamp place frame → ⊥)
    → ((a : Area) (place value : ℕ) → event ≡ kept.Field a place value → ⊥) → said ≡ [] →
    IsProxyAfter p p (event_of event) said
unmoved p event said no_poll no_frame no_change none s has =
    subst (IsFrontOf p) (quiet s event no_poll no_frame no_change ∙ ap (front_at s (event_of event)) (sym none)) has

pub took : (old new : ProxyState) (event : Event) (said : List Body) (stamp place : ℕ) (frame shown : Signed Body) →
    event ≡ kept.Took stamp place frame → shown ≡ frame → said ≡ []
    → ((s : Front) → IsFrontOf old s → IsFrontOf new (front_after s (map Vouched (votes_in (shown ∷ []))))) →
    IsProxyAfter old new (event_of event) said
took old new event said stamp place frame shown is same none goes s has =
    subst (IsFrontOf new)
    (ap (λ (f : Signed Body). front_after s (map Vouched (votes_in (f ∷ [])))) same
    ∙ proxy_took s stamp place frame ∙ ap (λ (e : Event). front_at s (event_of e) []) (sym is)
    ∙ ap (front_at s (event_of event)) (sym none))
    (goes s has)

pub changed : (old new : ProxyState) (event : Event) (said : List Body) (a : Area) (place value : ℕ) →
    event ≡ kept.Field a place value → said ≡ []
    → ((s : Front) → IsFrontOf old s → IsFrontOf new (after_change s a place value)) →
    IsProxyAfter old new (event_of event) said
changed old new event said a place value is none goes s has =
    subst (IsFrontOf new) (ap (λ (e : Event). front_at s (event_of e) []) (sym is)
    ∙ ap (front_at s (event_of event)) (sym none)) (goes s has)

pub poll_said : {V E : Type 0} (r : Result V E) (words : V → List Body) (old : ProxyState) (event : Event) (room : ℕ)
    (updates : List Update) → event ≡ kept.Poll
    → ((s : Front) → IsFrontOf old s → updates ≡ poll_says s room) → IfOk r (λ v. words v ≡ map body.Update updates)
    → IfOk r (λ v. (s : Front) → IsFrontOf old s → words v ≡ take room (proxy_says s (event_of event)))
poll_said (Err e) words old event room updates is says at = tt
poll_said (Ok v) words old event room updates is says at = λ s has.
    at ∙ ap (λ (us : List Update). map body.Update us) (says s has) ∙ poll_words s room
    ∙ ap (λ (e : Event). take room (proxy_says s (event_of e))) (sym is)

pub poll_after : {V E : Type 0} (r : Result V E) (words : V → List Body) (old new : ProxyState) (event : Event)
    (room : ℕ) (updates : List Update) → event ≡ kept.Poll
    → ((s : Front) → IsFrontOf old s → updates ≡ poll_says s room) →
    ((s : Front) → IsFrontOf old s → IsFrontOf new (after_poll s room))
    → IfOk r (λ v. words v ≡ map body.Update updates) → IfOk r (λ v. IsProxyAfter old new (event_of event) (words v))
poll_after (Err e) words old new event room updates is says gone at = tt
poll_after (Ok v) words old new event room updates is says gone at = λ s has.
    subst (IsFrontOf new)
    (poll_counted s room (words v) (at ∙ ap (λ (us : List Update). map body.Update us) (says s has))
    ∙ ap (λ (e : Event). front_at s (event_of e) (words v)) (sym is))
    (gone s has)

-- a change that a proxy takes, or refuses since the place isn't there
pub change_made : {V E : Type 0} (p q : ProxyState) (r : Result V E) (s : Front) (a : Area) (place value : ℕ)
    → OnOk r ((t : Front) → IsFrontOf p t → IsFrontOf q (after_change t a place value)) → OnErr r (q ≡ p)
    → (IsErr r ↔ (size_of p.places a ≤ place)) → IsFrontOf p s → IsFrontOf q (after_change s a place value)
change_made p q (Ok v) s a place value moves same out is = moves s is
change_made p q (Err e) s a place value moves same out is =
    let outside : size_of s.places a ≤ place =
    subst (λ (t : Front). size_of t.places a ≤ place) (sym is.same) (out.0 refl) in
    let stays : changed_places s.places a place value ≡ s.places = changed_out s.places a place value outside in
    subst (λ (x : ProxyState). IsFrontOf x (after_change s a place value)) (sym same)
    (subst (λ (d : Places). IsFrontOf p (record s { places = d })) (sym stays) is)
