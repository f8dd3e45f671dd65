-- A raw word is its own bytes and uses no leaf. Any other becomes a frame where its body can be made and
-- signed, and else nothing is said and nothing used.
use Rattle.std.proofs.Common.{sym, ◌∙◌}
use Rattle.world_history.specs.Seats.{state_of}
use Rattle.world_history.proofs.SpokenWords.{raw_spoken, raw_uses_none, has_leaf, none_spoken, body_spoken, uses_none}
use Rattle.world_history.proofs.SpokenWords.{uses_one}
use Rattle.world_history.proofs.seat.Seat.speak.Goals as goal

pub returns-in-Raw-clause-spoken : goal.returns-in-Raw-clause-spoken
returns-in-Raw-clause-spoken c =
    raw_spoken (state_of c.args.self.now) c.args.word.now c.in-Raw.bytes c.in_ok-from_slice.field-0.items c.in-Raw.is
    (c.in_ok-from_slice.ensures.items ∙ c.as_slice.ensures)

pub returns-in-Raw-clause-state : goal.returns-in-Raw-clause-state
returns-in-Raw-clause-state c = raw_uses_none (state_of c.args.self.now) c.args.word.now c.in-Raw.bytes c.in-Raw.is

pub sign_word-requires-clause-left : goal.sign_word-requires-clause-left
sign_word-requires-clause-left c = has_leaf (state_of c.args.self.now) c.args.word.now c.in-Some.body
    (sym c.in-Some.is ∙ c.in_ok-body.ensures.body)

pub returns-in_ok-sign_word-in-Some : goal.returns-in_ok-sign_word-in-Some
returns-in_ok-sign_word-in-Some c =
    let said = sym c.in-Some.is ∙ c.in_ok-body.ensures.body in
    record {
      spoken = body_spoken (state_of c.args.self.now) c.args.word.now c.in-Some.body
          c.in_ok-sign_word-in-Some.field-0.items c.in_default.not-Raw said
          c.in_ok-sign_word-in-Some.ensures.text;
      state = c.in_ok-sign_word-in-Some.ensures.state ∙ uses_one (state_of c.args.self.now)
          c.args.word.now c.in-Some.body said;
      seated = c.in_ok-sign_word-in-Some.ensures.seated;
      refused = tt;
    }

pub returns-in-None : goal.returns-in-None
returns-in-None c =
    let none = sym c.in-None.is ∙ c.in_ok-body.ensures.body in
    record {
      spoken = none_spoken (state_of c.args.self.now) c.args.word.now c.in_default.not-Raw none;
      state = uses_none (state_of c.args.self.now) c.args.word.now none;
      seated = c.requires.seated;
      refused = tt;
    }
