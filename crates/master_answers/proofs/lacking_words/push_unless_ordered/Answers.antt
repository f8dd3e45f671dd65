-- A number that the order has rows for isn't lacking.
use Rattle.std.proofs.Common.{◌≡◌, true, false, is_some, sym, rules}
use Rattle.std.proofs.lemmas.List.{append-nil}
use Rattle.master_answers.proofs.Lacked.{pushed_unless}
use Rattle.master_answers.proofs.lacking_words.push_unless_ordered.Goals as goal

pub returns-in_ok-push : goal.returns-in_ok-push
returns-in_ok-push c g facts said is =
    let none : is_some c.ordered.result ≡ false = search rules in
    pushed_unless c.args.numbers.now.items c.push.new.self.items c.args.s c.ordered.result _ false none
    (c.ordered.ensures g facts said is) c.in_ok-push.ensures.items

pub returns-else-is_none : goal.returns-else-is_none
returns-else-is_none c g facts said is =
    let there : is_some c.ordered.result ≡ true = search rules in
    pushed_unless c.args.numbers.now.items c.args.numbers.now.items c.args.s c.ordered.result _ true there
    (c.ordered.ensures g facts said is) (sym (append-nil c.args.numbers.now.items))
