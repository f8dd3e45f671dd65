use Rattle.std.proofs.Common.{◌≡◌, ◌++◌, ◌-◌, map, take, drop}
use Rattle.script_lines.specs.Given.{own_words, say}
use Rattle.script_lines.proofs.given.say_words.Given as goal

abbrev pub invariant-loop-said : goal.invariant-loop-said
invariant-loop-said l = record {
  given : l.all.items ≡ l.initial.all.items ++ map say (take l._said (own_words l.master l.words));
  left : own_words l.master l.left ≡ drop l._said (own_words l.master l.words);
}
