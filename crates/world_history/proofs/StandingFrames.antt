-- Frames that stand: each of their parts is in its place, and they stand by the public keys of a scenario's actors.
use Rattle.std.proofs.Common.{◌≡◌, ℕ, zero, suc, ◌+◌, ◌<◌, ◌≤◌, ◌⊎◌, List, [], ◌∷◌, ◌++◌, inl, inr, refl, sym}
use Rattle.std.proofs.Common.{Option, Some, None, ◌∙◌, ap, arith}
use Rattle.std.specs.List.{slice_index_or}
use Rattle.std.proofs.lemmas.Bool.{cases_lt}
use Rattle.std.proofs.lemmas.List.{get_or_append_left, get_or_push}
use Rattle.hash_signatures.specs.Signatures.{key_public}
use Rattle.checked_frames.specs.Signing as signing
use Rattle.checked_frames.proofs.StandingLaws.{same_as_in_histories}
use Rattle.actor_keys.specs.Keys.{key_of, public_keys}
use Rattle.actor_keys.proofs.KeyLists.{one_more, one_each}
use Rattle.scenario_file.specs.declared.held.HeldKeys.{HeldKeys}
use Rattle.scenario_file.specs.Reading.{Contents}
use Rattle.world_rules.specs.Scenarios.{setup_of, actors_in, key_in, key_with, public_in, public_with}
use Rattle.world_rules.proofs.Fields.{setup_goes_by, group_is}
use Rattle.world_history.specs.Signed.{publics_with, publics_in, ring_in}
use Rattle.message_types.specs.Parts.{parts}
use Rattle.protocol_rules.specs.Places.{in_place}
use Rattle.words_in_place.proofs.Limits.{all_from}
use Rattle.words_in_place.proofs.Signing.{parts_well}
use Rattle.world_history.specs.Laws.{StandingIsWhole, StandsByRing}

pub standing_is_whole : StandingIsWhole
standing_is_whole w frame stand = all_from (in_place w.group) (parts frame) (λ p h. (parts_well w frame stand p h).0)

public_at : (seed heights : List ℕ) (actors actor : ℕ) → actor < actors →
    slice_index_or (public_keys seed heights actors) actor [] ≡ key_public (key_of seed heights actor)
public_at seed heights zero actor low = absurd (omega arith)
public_at seed heights (suc n) actor low = by (public_at seed heights n actor) (cases_lt actor n)
  where
    more : public_keys seed heights (suc n) ≡ public_keys seed heights n ++ key_public (key_of seed heights n) ∷ []
    more = let one : suc n ≡ n + 1 = omega arith in ap (public_keys seed heights) one ∙ one_more seed heights n

    by : (actor < n → slice_index_or (public_keys seed heights n) actor [] ≡ key_public (key_of seed heights actor)) →
        (actor < n) ⊎ (n ≤ actor) → slice_index_or (public_keys seed heights (suc n)) actor [] ≡ key_public
        (key_of seed heights actor)
    by earlier (inl before) =
        let long = one_each seed heights n in
        ap (λ (ks : List (List ℕ)). slice_index_or ks actor []) more
        ∙ get_or_append_left (public_keys seed heights n) (key_public (key_of seed heights n) ∷ [])
        [] actor (omega arith)
        ∙ earlier before
    by earlier (inr last) =
        let same : n ≡ actor = omega arith in
        ap (λ (ks : List (List ℕ)). slice_index_or ks actor []) more
        ∙ get_or_push (public_keys seed heights n) (key_public (key_of seed heights n)) [] actor
        (one_each seed heights n ∙ same)
        ∙ ap (λ (a : ℕ). key_public (key_of seed heights a)) same

-- whether the seed is known or keys are held, a public key stands at its actor's place
public_with_at : (held : Option HeldKeys) (seed heights : List ℕ) (actors actor : ℕ) → actor < actors →
    slice_index_or (publics_with held seed heights actors) actor [] ≡ public_with held
    (key_with held seed heights actor) actor
public_with_at None seed heights actors actor low = public_at seed heights actors actor low
public_with_at (Some held) seed heights actors actor low = refl

public_in_at : (c : Contents) (actor : ℕ) → actor < actors_in c →
    slice_index_or (publics_in c) actor [] ≡ public_in c actor
unfolding public_in key_in
public_in_at c actor low = public_with_at c.held c.settings.seed c.settings.heights (actors_in c) actor low

pub stands_by_ring : StandsByRing
stands_by_ring c frame = same_as_in_histories (setup_of c) (ring_in c) (group_is c) (λ actor text sig low.
    (setup_goes_by c).signs actor text sig
    ∙ ap (λ (public : List ℕ). signing.signs public text sig) (sym (public_in_at c actor low))) frame
