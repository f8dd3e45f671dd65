-- Each actor in turn has its list of what the script and its own words give it, so the lists so far are those
-- of the first actors in order.
use Rattle.std.proofs.Common.{◌≡◌, ℕ}
use Rattle.script_lines.specs.Given.{own_words, given}
use Rattle.script_lines.proofs.GivenLaws.{lists_start, lists_more}
use Rattle.script_lines.proofs.given.inputs.Goals as goal

pub loop-actor-init : goal.loop-actor-init
loop-actor-init c =
    lists_start (λ v. v.items) (λ (a : ℕ). given a c.args.script.now (own_words a c.args.words.now))
    c.new-lists.result.items c.new-lists.ensures.items

pub loop-actor-preserved : goal.loop-actor-preserved
loop-actor-preserved c =
    let own : c.in_ok-given.field-0.items ≡ given c.loop-actor.actor c.args.script.now
    (own_words c.loop-actor.actor c.args.words.now) =
    cc (c.in_ok-given.ensures, c.lines.ensures, c.sayings.ensures) in
    lists_more (λ v. v.items) (λ (a : ℕ). given a c.args.script.now (own_words a c.args.words.now))
    c.loop-actor.actor c.loop-actor.lists.items
    c.push.new.self.items c.in_ok-given.field-0 c.loop-actor.invariant own c.in_ok-push.ensures.items
