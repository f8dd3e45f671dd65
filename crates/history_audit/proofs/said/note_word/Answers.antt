-- A word known already adds nothing. A new one goes behind the bodies under its key, and what stands under
-- other keys stays: so just the words noted are found again.
use Rattle.std.proofs.Common.{◌≡◌, ◌++◌, ◌∷◌, [], List, map, sym, ◌∙◌, ap}
use Rattle.std.proofs.lemmas.List.{map_push}
use Rattle.std.specs.Borrow.{Bor}
use Rattle.message_types.specs.declared.body.Body.{Body}
use Rattle.history_audit.specs.Said.{bodies_at}
use Rattle.history_audit.proofs.Words.{word_known, word_new}
use Rattle.history_audit.proofs.said.note_word.Goals as goal

pub returns-then-is_said : goal.returns-then-is_said
returns-then-is_said c = λ words has. word_known words c.args.said.now c.args.actor c.args.body.now
    (sym (c.if-is_said.ensures words has)) has

pub returns : goal.returns
returns c = λ words has.
    let made : map (λ (r : Bor Body). r.now) c.push.new.self.items ≡ bodies_at c.args.said.now c.key_of-key.result
    ++ c.args.body.now ∷ [] =
    ap (map (λ (r : Bor Body). r.now)) c.in_ok-push.ensures.items ∙ map_push (λ (r : Bor Body). r.now)
    c.take_bodies-bodies.result.items c.args.body
    ∙ ap (λ (xs : List Body). xs ++ c.args.body.now ∷ []) c.take_bodies-bodies.ensures.bodies in
    word_new words c.args.said.now c.take_bodies-bodies.new.said c.insert.new.self c.args.actor c.args.body.now
    c.key_of-key.result c.push.new.self
    c.key_of-key.ensures made c.take_bodies-bodies.ensures.others c.in_ok-insert.ensures.updates.0 has
