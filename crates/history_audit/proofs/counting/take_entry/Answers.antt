-- What is forged is judged by the words said before the entry, which are added only after that. The texts go on
-- by those of the parts taken and then of the bodies said, as in the definition.
use Rattle.std.proofs.Common.{◌≡◌, ◌++◌, ℕ, List, map, length, filter, subst, ap, ◌∙◌}
use Rattle.std.specs.List.{flat_map}
use Rattle.message_types.specs.declared.signed.Signed.{Signed}
use Rattle.message_types.specs.declared.body.Body.{Body}
use Rattle.history_rules.specs.Audit.{parts_taken, texts_of}
use Rattle.history_rules.specs.Counts.{is_forged}
use Rattle.world_entries.specs.Entries.{entry_of}
use Rattle.history_audit.specs.Said.{words_said, HasWords}
use Rattle.history_audit.specs.Texts.{AreTexts}
use Rattle.history_audit.proofs.Words.{words_said-push}
use Rattle.history_audit.proofs.Steps.{texts_at}
use Rattle.history_audit.proofs.counting.take_entry.Goals as goal

pub returns-clause-forged : goal.returns-clause-forged
returns-clause-forged c = λ w before masters has.
    let parts : c.as_slice-list.result.now ≡ parts_taken (entry_of c.args.entry.now) = c.as_slice-list.ensures.value
    ∙ c.in_ok-parts.ensures.parts in
    c.count_forged-forged.ensures.forged w before masters has
    ∙ ap (λ (ps : List (Signed Body)). length (filter (is_forged w before) ps)) parts

pub returns-clause-said : goal.returns-clause-said
returns-clause-said c = λ before has.
    subst (λ (ws : List (ℕ × Body)). HasWords ws c.note_words.new.said)
    (ap (λ (bs : List Body). words_said before ++ map (λ (b : Body). (c.args.entry.now.actor, b)) bs)
    c.as_slice-2.ensures ∙ words_said-push before (entry_of c.args.entry.now))
    (c.in_ok-note_words.ensures (words_said before) has)

pub returns-clause-texts : goal.returns-clause-texts
returns-clause-texts c = λ g n given are.
    let parts : c.as_slice-list.result.now ≡ parts_taken (entry_of c.args.entry.now) = c.as_slice-list.ensures.value
    ∙ c.in_ok-parts.ensures.parts in
    subst (λ (ts : List (List ℕ)). AreTexts ts c.note_bodies.new.kept)
    (ap (λ (ps : List (Signed Body)). (given ++ flat_map (λ (p : Signed Body). texts_of g p.body) ps)
    ++ flat_map (texts_of g) c.as_slice.result.now) parts
    ∙ ap (λ (bs : List Body).
    (given ++ flat_map (λ (p : Signed Body). texts_of g p.body) (parts_taken (entry_of c.args.entry.now)))
    ++ flat_map (texts_of g) bs) c.as_slice.ensures
    ∙ texts_at g (entry_of c.args.entry.now) given)
    (c.in_ok-note_bodies.ensures g n
    (given ++ flat_map (λ (p : Signed Body). texts_of g p.body) c.as_slice-list.result.now)
    (c.in_ok-note_parts.ensures g n given are))
