-- Actors whose benches are taken out one by one.
use Rattle.std.proofs.Common.{◌≡◌, List, [], ◌∷◌, ◌++◌, map, sym, ◌∙◌, ap, append_assoc, length, arith}
use Rattle.std.proofs.lemmas.List.{append-nil}
use Rattle.world_history.specs.State.{BenchState}
use Rattle.world_history.specs.KeptState.{KeptState}

-- actors whose benches are taken out one by one
pub one_taken : (benches grown : List BenchState) (b : BenchState) (k : KeptState) (was rest : List KeptState)
    (all : List BenchState) → was ≡ k ∷ rest → grown ≡ benches ++ b ∷ []
    → b ≡ k.bench → benches ++ map (λ k. k.bench) was ≡ all → grown ++ map (λ k. k.bench) rest ≡ all
one_taken benches grown b k was rest all next put is before =
    ap (λ (bs : List BenchState). bs ++ map (λ (k : KeptState). k.bench) rest)
    (put ∙ ap (λ (x : BenchState). benches ++ x ∷ []) is)
    ∙ append_assoc benches (k.bench ∷ []) (map (λ (k : KeptState). k.bench) rest)
    ∙ ap (λ (ks : List KeptState). benches ++ map (λ (k : KeptState). k.bench) ks) (sym next) ∙ before

pub all_taken : (benches : List BenchState) (rest : List KeptState) (all : List BenchState) → length rest ≡ 0 →
    benches ++ map (λ k. k.bench) rest ≡ all → benches ≡ all
all_taken benches [] all none is = sym (append-nil benches) ∙ is
all_taken benches (k ∷ rest) all none is = absurd (omega arith)
