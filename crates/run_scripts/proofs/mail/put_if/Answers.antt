use Rattle.std.proofs.Common.{◌≡◌, ℕ, Bool, ◌++◌, ◌∷◌, [], List, sym, subst}
use Rattle.std.specs.Prelude.{OnOk}
use Rattle.run_scripts.specs.declared.mail.Post.{Post}
use Rattle.run_scripts.specs.Playing.{AreSlots, slots_of, new_posts}
use Rattle.run_scripts.proofs.mail.put_if.Goals as goal

pub returns-then-is_new-clause-slots : goal.returns-then-is_new-clause-slots
returns-then-is_new-clause-slots c =
    subst (λ (b : Bool). OnOk c.put.result ((actors : ℕ) (posts : List Post) →
    AreSlots actors posts (slots_of c.args.slots.now.items)
    → AreSlots actors (posts ++ new_posts b (c.args.post.now ∷ [])) (slots_of c.put.new.slots.items)))
    (sym c.if-is_new.true) c.put.ensures.slots
