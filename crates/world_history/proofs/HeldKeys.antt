-- A key that is held is the actor's own exactly where its public key is what the ring has of the actor.
use Rattle.std.proofs.Common.{◌≡◌, ◌↔◌, ℕ, Bool, true, List, [], Some, length, slice_index_or, refl, sym, ◌∙◌, ap}
use Rattle.std.proofs.Common.{subst}
use Rattle.ots_keys.specs.declared.parameters.Ots.TheVariants.{W4}
use Rattle.hash_signatures.specs.Signatures.{Key, key_public}
use Rattle.hash_signatures.specs.State.{KeyUse, key_from, key_use}
use Rattle.scenario_file.specs.declared.held.HeldKeys.{HeldKeys}
use Rattle.scenario_file.specs.Reading.{Contents, with_held}
use Rattle.scenario_file.specs.Valid.{IsScenario}
use Rattle.world_rules.specs.Scenarios.{key_in, public_in, HasKey}
use Rattle.world_history.proofs.HeldWorlds.{held_scenario}

public_is : (c : Contents) (held : HeldKeys) (actor : ℕ) →
    slice_index_or held.ring actor [] ≡ public_in (with_held c (Some held)) actor
unfolding public_in
public_is c held actor = refl

key_is : (c : Contents) (held : HeldKeys) (actor : ℕ) →
    key_from held.seed held.identifier c.settings.heights W4 ≡ key_in (with_held c (Some held)) actor
unfolding key_in
key_is c held actor = refl

-- the key that was made is the one that is held
pub held_key_given : (c : Contents) (held : HeldKeys) (actor : ℕ) (heights : List ℕ) (k : KeyUse) →
    heights ≡ c.settings.heights → k ≡ key_use (key_from held.seed held.identifier heights W4) 0
    → k ≡ key_use (key_in (with_held c (Some held)) actor) 0
held_key_given c held actor heights k same made =
    made
    ∙ ap (λ (hs : List ℕ). key_use (key_from held.seed held.identifier hs W4) 0) same
    ∙ ap (λ (x : Key). key_use x 0) (key_is c held actor)

-- whether it is the actor's, by the ring
pub own_told : (c : Contents) (held : HeldKeys) (actor : ℕ) (ring : List (List ℕ)) (k : KeyUse) (told : Bool) →
    ring ≡ held.ring → k ≡ key_use (key_in (with_held c (Some held)) actor) 0
    → (told ≡ true) ↔ (slice_index_or ring actor [] ≡ key_public k.key) →
    (told ≡ true) ↔ HasKey (with_held c (Some held)) actor
own_told c held actor ring k told same is tells =
    let public : slice_index_or ring actor [] ≡ public_in (with_held c (Some held)) actor =
    ap (λ (r : List (List ℕ)). slice_index_or r actor []) same ∙ public_is c held actor in
    let key : key_public k.key ≡ key_public (key_in (with_held c (Some held)) actor) =
    ap (λ (x : KeyUse). key_public x.key) is in
    (λ t. sym public ∙ tells.0 t ∙ key, λ has. tells.1 (public ∙ has ∙ sym key))

-- So it is of a copy of what is held.
pub copied_known : (c : Contents) (held copy : HeldKeys) → copy ≡ held → length held.identifier ≡ 16 → IsScenario c →
    IsScenario (with_held c (Some copy))
copied_known c held copy same sized is =
    subst (λ (h : HeldKeys). IsScenario (with_held c (Some h))) (sym same) (held_scenario c held sized is)

pub copied_own : (c : Contents) (held copy : HeldKeys) (actor : ℕ) → copy ≡ held →
    HasKey (with_held c (Some held)) actor → HasKey (with_held c (Some copy)) actor
copied_own c held copy actor same has = subst (λ (h : HeldKeys). HasKey (with_held c (Some h)) actor) (sym same) has

pub copied_key : (c : Contents) (held copy : HeldKeys) (actor : ℕ) (k : KeyUse) → copy ≡ held →
    k ≡ key_use (key_in (with_held c (Some held)) actor) 0 → k ≡ key_use (key_in (with_held c (Some copy)) actor) 0
copied_key c held copy actor k same is = is
    ∙ ap (λ (h : HeldKeys). key_use (key_in (with_held c (Some h)) actor) 0) (sym same)
