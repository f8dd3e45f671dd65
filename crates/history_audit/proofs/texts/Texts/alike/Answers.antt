use Rattle.std.proofs.Common.{◌≡◌, ◌+◌, ℕ, List, [], length, subst, arith}
use Rattle.std.proofs.lemmas.List.{append-nil}
use Rattle.history_rules.specs.Counts.{alike_from}
use Rattle.history_audit.proofs.texts.Texts.alike.Goals as goal

pub returns : goal.returns
returns c = λ given are.
    let all : alike_from [] given + length c.args.self.now.digests.keys ≡ length c.args.self.now.texts.keys + 0 =
    subst (λ (ts : List (List ℕ)). alike_from [] ts + length c.args.self.now.digests.keys ≡ length
    c.args.self.now.texts.keys + 0) (append-nil given) (are.counted []) in
    omega (arith, c.saturating_sub.ensures, c.len.ensures.len, c.len-2.ensures.len)
