-- After so many words of the master the next is the one that its words begin with once these are dropped. Where
-- no word is left, saying more often adds nothing.
use Rattle.std.proofs.Common.{◌≡◌, ◌≤◌, ◌∙◌, ◌++◌, [], List, sym, ap, drop, arith}
use Rattle.play_words.specs.declared.input.Input.{Input}
use Rattle.script_lines.specs.Given.{own_words}
use Rattle.script_lines.proofs.GivenLaws.{given_more, one_left, none_said, none_left}
use Rattle.script_lines.proofs.given.say_words.Goals as goal

pub returns-in_default-clause-given : goal.returns-in_default-clause-given
returns-in_default-clause-given c =
    let none = rw c.in_default.is at c.next_word.ensures in
    let few : c.loop-said._said ≤ c.args.times = omega arith in
    c.loop-said.invariant.given
    ∙ ap (λ (l : List Input). c.args.all.now.items ++ l)
    (sym (none_said (own_words c.args.master c.args.words.now) c.loop-said._said c.args.times
    (sym none ∙ c.loop-said.invariant.left) few))

pub returns-in_default-clause-left : goal.returns-in_default-clause-left
returns-in_default-clause-left c =
    let none = rw c.in_default.is at c.next_word.ensures in
    let few : c.loop-said._said ≤ c.args.times = omega arith in
    none ∙ sym (none_left (own_words c.args.master c.args.words.now) c.loop-said._said c.args.times
    (sym none ∙ c.loop-said.invariant.left) few)

pub loop-said-preserved : goal.loop-said-preserved
loop-said-preserved c =
    let words = own_words c.args.master c.args.words.now in
    let more = own_words c.args.master c.in-Some.more.now in
    let next = sym c.in-Some.ensures ∙ c.loop-said.invariant.left in
    record {
      given = given_more c.args.all.now.items c.loop-said.all.items c.push.new.self.items words c.loop-said._said
          c.in-Some.saying.now more
          c.in_ok-said.field-0 c.loop-said.invariant.given next c.in_ok-said.ensures c.in_ok-push.ensures.items;
      left = sym (one_left words c.loop-said._said c.in-Some.saying.now more next);
    }
