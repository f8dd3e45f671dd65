-- What the files of keys give, one after the other.
use Rattle.std.proofs.Common.{◌≡◌, ℕ, List, Option, None, Some, inl, inr, IfSome, sym, subst, arith, length}
use Rattle.scenario_file.specs.Actors.{actors_of}
use Rattle.scenario_file.specs.Reading.{Contents, cast_of}
use Rattle.scenario_file.specs.declared.held.HeldKeys.{HeldKeys}
use Rattle.world_rules.specs.Scenarios.{actors_in}
use Rattle.command_ends.specs.Calls.{CountsStay}
use Rattle.station_commands.specs.declared.refusal.StationRefusal.{StationRefusal}
use Rattle.station_commands.specs.Holding.{Holds, HoldsNone, IsOwnKeyOf, IsRingOf, NoOwnKey, NoRing}

-- ---- Files that a step before left as they were.

pub ring_moves : (c : Contents) (held later : Option (List ℕ)) (publics : List (List ℕ)) → later ≡ held →
    IsRingOf c later publics → IsRingOf c held publics
ring_moves c held later publics same is = subst (λ (h : Option (List ℕ)). IsRingOf c h publics) same is

pub key_moves : (actor : List ℕ) (held later : Option (List ℕ)) (seed identifier : List ℕ) → later ≡ held →
    IsOwnKeyOf actor later seed identifier → IsOwnKeyOf actor held seed identifier
key_moves actor held later seed identifier same is =
    subst (λ (h : Option (List ℕ)). IsOwnKeyOf actor h seed identifier) same is

pub no_ring_moves : (c : Contents) (held later : Option (List ℕ)) (before middle after : ℕ) (name : List ℕ)
    (why : StationRefusal) → later ≡ held → middle ≡ before → NoRing c later middle after name why →
    NoRing c held before after name why
no_ring_moves c held later before middle after name why same stays none =
    subst (λ (h : Option (List ℕ)). NoRing c h before after name why) same
    (subst (λ (b : ℕ). NoRing c later b after name why) stays none)

pub no_key_moves : (actor : List ℕ) (held later : Option (List ℕ)) (before middle after : ℕ) (name : List ℕ)
    (why : StationRefusal) → later ≡ held → middle ≡ before → NoOwnKey actor later middle after name why →
    NoOwnKey actor held before after name why
no_key_moves actor held later before middle after name why same stays none =
    subst (λ (h : Option (List ℕ)). NoOwnKey actor h before after name why) same
    (subst (λ (b : ℕ). NoOwnKey actor later b after name why) stays none)

-- the same of both files
pub holds_moves : (c : Contents) (actor : List ℕ) (held later : List ℕ → Option (List ℕ))
    (files : Option (List ℕ × List ℕ)) (keys : Option HeldKeys) → ((other : List ℕ) → later other ≡ held other) →
    Holds c actor later files keys → Holds c actor held files keys
holds_moves c actor held later None keys same is = is
holds_moves c actor held later (Some files) None same is = absurd is
holds_moves c actor held later (Some files) (Some keys) same is = (
  ring_moves c (held files.0) (later files.0) keys.ring (same files.0) is.0,
  key_moves actor (held files.1) (later files.1) keys.seed keys.identifier (same files.1) is.1,
)

pub holds_none_moves : (c : Contents) (actor : List ℕ) (held later : List ℕ → Option (List ℕ))
    (before middle after : List ℕ → ℕ) (why : StationRefusal) (files : Option (List ℕ × List ℕ)) →
    ((other : List ℕ) → later other ≡ held other) → CountsStay before middle →
    HoldsNone c actor later middle after why files → HoldsNone c actor held before after why files
holds_none_moves c actor held later before middle after why None same stay none = absurd none
holds_none_moves c actor held later before middle after why (Some files) same stay (inl none) =
    inl (no_ring_moves c (held files.0) (later files.0) (before files.0) (middle files.0) (after files.0) files.0 why
    (same files.0) (stay files.0) none)
holds_none_moves c actor held later before middle after why (Some files) same stay (inr none) =
    inr (no_key_moves actor (held files.1) (later files.1) (before files.1) (middle files.1) (after files.1) files.1 why
    (same files.1) (stay files.1) none)

-- ---- The ring has a key for each actor.

pub ring_is_whole : (c : Contents) (actor : List ℕ) (held : List ℕ → Option (List ℕ))
    (files : Option (List ℕ × List ℕ)) (keys : Option HeldKeys) → Holds c actor held files keys →
    IfSome keys (λ them. length them.ring ≡ actors_in c)
ring_is_whole c actor held None keys is = subst (λ (k : Option HeldKeys). IfSome k (λ them. length them.ring ≡ actors_in c)) (sym is) tt
ring_is_whole c actor held (Some files) None is = absurd is
ring_is_whole c actor held (Some files) (Some keys) is =
    let all : length keys.ring ≡ actors_of (cast_of c.settings c.plant) = is.0.2.all in
    omega (arith, all)
