-- A key that is put in is there, and all others are as before.
use Rattle.std.proofs.Common.{◌≡◌, ◌||◌, Bool, true, false, cond, refl, sym, ◌∙◌, ap}
use Rattle.std.specs.HashSet.{contains}
use Rattle.message_types.specs.declared.body.Body.{Body}
use Rattle.protocol_rules.specs.Order.{prepares_said, commits_said}
use Rattle.global_order.specs.Index.{same_pair}
use Rattle.global_order.proofs.said.note_body.Goals as goal

put-or : (here there : Bool) → cond here true there ≡ (there || here)
put-or true true = refl
put-or true false = refl
put-or false true = refl
put-or false false = refl

pub returns-in-Prepare-clause-prepares : goal.returns-in-Prepare-clause-prepares
returns-in-Prepare-clause-prepares c v s =
    let put = rw c.unwrap-is_new.ensures at c.insert.ensures.updates in
    put.0 (v, s) ∙ put-or (same_pair (c.in-Prepare.word.v, c.in-Prepare.word.s) (v, s))
    (contains same_pair c.args.prepares.now (v, s))
    ∙ ap (λ (b : Body). contains same_pair c.args.prepares.now (v, s) || prepares_said v s b) (sym c.in-Prepare.is)

pub returns-in-Commit-clause-commits : goal.returns-in-Commit-clause-commits
returns-in-Commit-clause-commits c v s =
    let put = rw c.unwrap-is_new-in-Commit.ensures at c.insert-in-Commit.ensures.updates in
    put.0 (v, s) ∙ put-or (same_pair (c.in-Commit.word.v, c.in-Commit.word.s) (v, s))
    (contains same_pair c.args.commits.now (v, s))
    ∙ ap (λ (b : Body). contains same_pair c.args.commits.now (v, s) || commits_said v s b) (sym c.in-Commit.is)
