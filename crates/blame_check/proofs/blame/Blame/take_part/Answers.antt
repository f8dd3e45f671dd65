-- A word has no numbers to be compared by, or is the first for them, or says the same as the first, or
-- contradicts it, and its signer is named. In each case what is kept is right with this word too.
use Rattle.std.proofs.Common.{refl, sym}
use Rattle.blame_check.proofs.Taken.{other_taken, first_taken, again_taken, contrary_taken}
use Rattle.blame_check.proofs.blame.Blame.take_part.Goals as goal

pub returns-in_default-clause-taken : goal.returns-in_default-clause-taken
returns-in_default-clause-taken c = λ n words has. other_taken n words c.args.part c.args.self.now (sym c.in_default.ensures) has

pub returns-in_ok-name-in-Some-get-clause-taken : goal.returns-in_ok-name-in-Some-get-clause-taken
returns-in_ok-name-in-Some-get-clause-taken c = λ n words has.
    contrary_taken n words c.args.part c.in-Some-get.earlier.now (
      c.in-Some.kind,
      c.in-Some.first,
      c.in-Some.second,
    ) c.args.self.now
    record { masters = c.args.self.now.masters; firsts = c.args.self.now.firsts; pairs = c.name.new.pairs }
    (sym c.in-Some.ensures) c.in-Some-get.ensures.value c.if-not-is_same_word.ensures refl refl
    c.in_ok-name-in-Some-get.ensures.named has

pub returns-else-not-is_same_word-clause-taken : goal.returns-else-not-is_same_word-clause-taken
returns-else-not-is_same_word-clause-taken c = λ n words has.
    again_taken n words c.args.part c.in-Some-get.earlier.now (
      c.in-Some.kind,
      c.in-Some.first,
      c.in-Some.second,
    ) c.args.self.now
    (sym c.in-Some.ensures) c.in-Some-get.ensures.value c.if-not-is_same_word.ensures has

pub returns-in_ok-insert-in-None-clause-taken : goal.returns-in_ok-insert-in-None-clause-taken
returns-in_ok-insert-in-None-clause-taken c = λ n words has.
    first_taken n words c.args.part (c.in-Some.kind, c.in-Some.first, c.in-Some.second) c.args.self.now
    record { masters = c.args.self.now.masters; firsts = c.insert.new.self; pairs = c.args.self.now.pairs }
    (sym c.in-Some.ensures) c.in-None.ensures.value refl refl c.in_ok-insert-in-None.ensures.updates.0 has
