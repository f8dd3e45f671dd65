-- A run from its beginning to its end.
use Rattle.std.proofs.Common.{◌≡◌, ℕ, ◌⊎◌, true, false, true≢false, inl, inr, List, [], ◌∷◌, ◌++◌, length, All, sym, ◌∙◌}
use Rattle.std.proofs.Common.{subst, arith}
use Rattle.std.proofs.lemmas.List.Elements.{All-push}
use Rattle.world_history.specs.KeptState.{halted_in}
use Rattle.station_turns.specs.Pace.{turns_made}
use Rattle.station_turns.specs.Turns.{Stationed}
use Rattle.replica_threads.specs.Ended.{HasEnded}

-- an actor that was halted, or made all its turns
pub ended_so : (turns : ℕ) (s : Stationed) → (halted_in s.kept.bench ≡ true)
    ⊎ (turns_made s.kept.bench.list ≡ turns) → HasEnded turns s
ended_so turns s (inl halted) = λ working running. absurd (true≢false (sym halted ∙ running))
ended_so turns s (inr all) = λ working running. all

pub none_ended : (turns : ℕ) (ended : List Stationed) → ended ≡ [] → All (HasEnded turns) ended
none_ended turns ended none = subst (λ (ss : List Stationed). All (HasEnded turns) ss) (sym none)
    (λ k d inside. absurd (omega (arith, inside)))

pub one_ended : (turns : ℕ) (ended more : List Stationed) (s : Stationed) → All (HasEnded turns) ended →
    HasEnded turns s → more ≡ ended ++ s ∷ [] → All (HasEnded turns) more
one_ended turns ended more s before has grown = subst (λ (ss : List Stationed). All (HasEnded turns) ss) (sym grown)
    (All-push (HasEnded turns) ended s before has)
