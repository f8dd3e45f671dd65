-- Which words of one master contradict each other, and who is named for them. (Prime's acknowledgements and PBFT's
-- three phases: of each of these a correct master says one for the same numbers. Which pair is named is this project's
-- own.)
use Rattle.std.specs.Prelude.{◌≡◌, ℕ, Bool, false, ◌&&◌, not, if◌then◌else◌, List, [], ◌∷◌, ◌++◌, Option, Some, None}
use Rattle.std.specs.Prelude.{nat_eq}
use Rattle.std.specs.List.{find, filter_map}
use Rattle.std.specs.Option.{option_map, option_or}
use Rattle.quorum_sets.specs.Masters.{numbers_below}
use Rattle.message_types.specs.declared.signed.Signed.{Signed}
use Rattle.message_types.specs.declared.body.Body.{Body}
use Rattle.message_types.specs.declared.body.Body.TheVariants as body
use Rattle.history_rules.specs.Sameness.{is_same_body}
use Rattle.blame_check.specs.declared.pairs.Named.{Named}

-- of two such bodies a correct master says one: acknowledgements of one request, or proposals, prepares or commits of
-- one number of a view
abbrev pub are_rivals : Body → Body → Bool
are_rivals (body.PoAck a) (body.PoAck b) = nat_eq a.j b.j && nat_eq a.k b.k
are_rivals (body.PrePrepare a) (body.PrePrepare b) = nat_eq a.v b.v && nat_eq a.s b.s
are_rivals (body.Prepare a) (body.Prepare b) = nat_eq a.v b.v && nat_eq a.s b.s
are_rivals (body.Commit a) (body.Commit b) = nat_eq a.v b.v && nat_eq a.s b.s
are_rivals _ _ = false

-- two different words of one master, of which a correct one says one
abbrev pub contradict : Signed Body → Signed Body → Bool
contradict p q = nat_eq p.signer q.signer && (are_rivals p.body q.body && not (is_same_body p.body q.body))

-- the second word's signer with the two words
abbrev pub pair_of : Signed Body → Signed Body → Named
pair_of p q = record { master = q.signer; first = p; second = q }

-- the master's pair of this word and the earliest of those before it that it contradicts
abbrev pub pair_with : ℕ → List (Signed Body) → Signed Body → Option Named
pair_with m before q = if nat_eq q.signer m then option_map (λ p. pair_of p q)
    (find (λ p. contradict p q) before) else None

-- the master's pair whose second word came first, `before` being the words before these
abbrev pub first_pair : ℕ → List (Signed Body) → List (Signed Body) → Option Named
first_pair m before [] = None
first_pair m before (q ∷ rest) = option_or (pair_with m before q) (first_pair m (before ++ q ∷ []) rest)

-- what the masters below n have, by rising master
abbrev pub rising : (ℕ → Option Named) → ℕ → List Named
rising pair n = filter_map pair (numbers_below n)

-- who is named for these words, with which pair
abbrev pub named : ℕ → List (Signed Body) → List Named
named n words = rising (λ m. first_pair m [] words) n

-- a master's pair, if there is one, bears its number
abbrev pub IsOwnPair : ℕ → Option Named → Type 0
IsOwnPair m pair = (x : Named) → pair ≡ Some x → x.master ≡ m
