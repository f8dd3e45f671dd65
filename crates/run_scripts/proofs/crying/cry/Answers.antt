-- The master's next word is the first one of its own past those it said. With none left the play stops for want
-- of a frame, with no room for it as too long, and else the word is cried.
use Rattle.std.proofs.Common.{◌≡◌, get_or, arith}
use Rattle.run_scripts.specs.Making.{most_entries}
use Rattle.run_scripts.specs.Crying.{IsNextWord}
use Rattle.run_scripts.specs.Playing.{given_in}
use Rattle.run_scripts.proofs.WordSaid.{said_there, no_word_goes, full_cry_goes, found_none_at, found_some_at}
use Rattle.run_scripts.proofs.crying.cry.Goals.{In-Some}
use Rattle.run_scripts.proofs.crying.cry.Goals as goal

pub index-from-requires : goal.index-from-requires
index-from-requires c = omega (
  arith,
  said_there (given_in c.args.world.now) c.args.playing.now c.args.master c.requires.playing
      c.requires.master,
  c.args.playing.now.said.ok,
)

pub returns-in_default : goal.returns-in_default
returns-in_default c = λ m is.
    no_word_goes (given_in c.args.world.now) m c.args.playing.now c.args.master is c.requires.master
    (found_none_at c.args.playing.now.said.items c.index-from.result.now c.next_word.result c.args.world.now.words.now
    c.args.master c.index-from.ensures
    (said_there (given_in c.args.world.now) c.args.playing.now c.args.master c.requires.playing c.requires.master)
    c.next_word.ensures c.in_default.is)

-- the master's next word
next_there : (c : In-Some) → IsNextWord c.args.world.now.words.now
    (get_or c.args.playing.now.said.items c.args.master 0) c.args.master c.in-Some.place
next_there c = found_some_at c.args.playing.now.said.items c.index-from.result.now c.next_word.result
    c.args.world.now.words.now c.args.master c.in-Some.place c.index-from.ensures
    (said_there (given_in c.args.world.now) c.args.playing.now c.args.master c.requires.playing c.requires.master)
    c.next_word.ensures c.in-Some.is

pub returns-then-playing-ge-MOST_ENTRIES : goal.returns-then-playing-ge-MOST_ENTRIES
unfolding most_entries
returns-then-playing-ge-MOST_ENTRIES c = λ m is.
    full_cry_goes (given_in c.args.world.now) m c.args.playing.now c.args.master c.in-Some.place is c.requires.master
    c.if-playing-ge-MOST_ENTRIES.true
    (next_there (goal.at.returns-then-playing-ge-MOST_ENTRIES c).In-Some)

pub say-requires-clause-room : goal.say-requires-clause-room
unfolding most_entries
say-requires-clause-room c = omega (arith, c.if-playing-ge-MOST_ENTRIES.false)

pub say-requires-clause-next : goal.say-requires-clause-next
say-requires-clause-next c = next_there (goal.at.say-requires-clause-next c).In-Some

pub returns : goal.returns
returns c = λ m is. c.say.ensures m is
