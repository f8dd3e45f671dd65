-- An actor that isn't spent has a keeper that goes with its list, or is intruded and has none: so an entry can
-- be added. It counts as spent while it is added, and stays so where memory ends in the midst.
use Rattle.std.proofs.Common.{◌≡◌, true, sym, ◌∙◌, ap, subst}
use Rattle.std.specs.Prelude.{is_some}
use Rattle.std.specs.List.{list_all}
use Rattle.std.proofs.lemmas.Bool.{true≢false}
use Rattle.history_rules.specs.Setup.{stands}
use Rattle.world_entries.specs.Entries.{event_of}
use Rattle.world_history.specs.State.{setup_in, with_entry}
use Rattle.world_history.specs.KeptState.{KeptState, Keeps, frames_kept, posted}
use Rattle.world_history.proofs.KeptGrows.{CanCome}
use Rattle.world_history.proofs.KeptInStep.{goes_on, seen_come, posted_or, noted}
use Rattle.world_history.proofs.kept_actor.Kept.act.Goals.{Else-self}
use Rattle.world_history.proofs.kept_actor.Kept.act.Goals as goal

pub add-requires-clause-keeps : goal.add-requires-clause-keeps
add-requires-clause-keeps c =
    goes_on c.self.inside.bench c.self.inside.keeper c.self.inside.is_halted c.self.inside.is_spent c.args.self.now
    c.self.view_is c.self.invariant
    c.if-self.false c.requires.running

pub add-requires-clause-scenario : goal.add-requires-clause-scenario
add-requires-clause-scenario c = c.requires.scenario ∙ sym (ap (λ (x : KeptState). x.bench.world) c.self.view_is)

can_come : (c : Else-self) → CanCome c.self.inside.bench c.args.stamp (event_of c.args.event)
can_come c =
    seen_come c.self.inside.bench c.self.inside.keeper c.self.inside.is_spent c.args.self.now c.args.stamp
    (event_of c.args.event) c.self.view_is (record {
      fits = c.requires.fits;
      later = c.requires.later;
      taken = c.requires.taken;
      short = c.requires.short;
    })

pub add-requires-clause-fits : goal.add-requires-clause-fits
add-requires-clause-fits c = (can_come (goal.at.add-requires-clause-fits c).Else-self).fits

pub add-requires-clause-later : goal.add-requires-clause-later
add-requires-clause-later c = (can_come (goal.at.add-requires-clause-later c).Else-self).later

pub add-requires-clause-taken : goal.add-requires-clause-taken
add-requires-clause-taken c = (can_come (goal.at.add-requires-clause-taken c).Else-self).taken

pub add-requires-clause-short : goal.add-requires-clause-short
add-requires-clause-short c = (can_come (goal.at.add-requires-clause-short c).Else-self).short

pub returns-clause-entry : goal.returns-clause-entry
returns-clause-entry c =
    c.in_ok-said.ensures.entry ∙ ap (λ (x : KeptState). with_entry x.bench c.args.stamp (event_of c.args.event))
    c.self.view_is

pub returns-clause-frames : goal.returns-clause-frames
returns-clause-frames c =
    posted_or c.in_ok-said.said c.new.result c.unwrap_or.result c.new.ensures.items c.unwrap_or.ensures
    ∙ c.in_ok-said.ensures.frames
    ∙ ap (λ (x : KeptState). frames_kept x.bench c.args.stamp (event_of c.args.event)) c.self.view_is

pub returns-clause-stand : goal.returns-clause-stand
returns-clause-stand c =
    ap (list_all (stands (setup_in c.args.self.now.bench)))
    (posted_or c.in_ok-said.said c.new.result c.unwrap_or.result c.new.ensures.items c.unwrap_or.ensures)
    ∙ subst (λ (x : KeptState). list_all (stands (setup_in x.bench)) (posted c.in_ok-said.said) ≡ true)
    c.self.view_is c.in_ok-said.ensures.stand

pub returns-clause-spent : goal.returns-clause-spent
returns-clause-spent c spent =
    absurd (true≢false (sym spent ∙ sym (ap (λ (x : KeptState). x.is_spent) c.self.view_is) ∙ c.if-self.false))

pub invariant_of-self : goal.invariant_of-self
invariant_of-self c spent = absurd (true≢false spent)

pub invariant_of-self-2 : goal.invariant_of-self-2
invariant_of-self-2 c works =
    subst (Keeps c.add.new.bench c.add.new.keeper)
    (noted (is_some c.in_ok-said.said) c.is_none-self-inside.result c.is_none-self-inside.ensures)
    c.in_ok-said.ensures.keeps
