-- What an actor's bench shows makes the lines of what the actor came to.
use Rattle.std.proofs.Common.{◌≡◌, ℕ, ◌<◌, Bool, true, false, if◌then◌else◌, nat_lt, not, ◌&&◌, List, []}
use Rattle.std.proofs.Common.{refl, sym, ◌∙◌, ap}
use Rattle.std.proofs.lemmas.Bool.{lt-ltb}
use Rattle.message_types.specs.declared.updates.Update.{Update}
use Rattle.quorum_sets.specs.Masters.{has_master}
use Rattle.protocol_rules.specs.Group.{Group}
use Rattle.scenario_file.specs.declared.actors.Cast.{Cast}
use Rattle.scenario_file.specs.Reading.{Contents}
use Rattle.history_rules.specs.Setup.{is_correct_master}
use Rattle.history_rules.specs.Keeping.{is_halted}
use Rattle.history_rules.specs.Legal.{executions_in, view_in}
use Rattle.world_rules.specs.Scenarios.{setup_of, masters_in}
use Rattle.world_rules.proofs.Fields.{setup_goes_by, group_is}
use Rattle.world_history.specs.State.{BenchState, executions_shown, view_shown}
use Rattle.run_lines.specs.Texts.{master_text}
use Rattle.printed_run.specs.Printed.{cast_in, master_lines, IsOf}

correct_there : (c : Contents) (actor : ℕ) → actor < masters_in c → has_master c.settings.intruded actor ≡ false →
    is_correct_master (setup_of c) actor ≡ true
correct_there c actor low honest =
    ap (λ (b : Bool). b && not ((setup_of c).intruded actor)) (ap (λ (g : Group). nat_lt actor g.n) (group_is c)
    ∙ lt-ltb actor (masters_in c) low)
    ∙ ap not ((setup_goes_by c).intruded actor ∙ honest)

view_there : (c : Contents) (b : BenchState) → b.world ≡ c → is_correct_master (setup_of c) b.actor ≡ true →
    view_shown b ≡ view_in (setup_of c) b.actor b.list
view_there c b of correct =
    ap (λ (x : Contents). if is_correct_master (setup_of x) b.actor then view_in (setup_of x) b.actor b.list else 0) of
    ∙ ap (λ (t : Bool). if t then view_in (setup_of c) b.actor b.list else 0) correct

executions_there : (c : Contents) (b : BenchState) → b.world ≡ c → is_correct_master (setup_of c) b.actor ≡ true
    → executions_shown b ≡ executions_in (setup_of c) b.actor b.list
executions_there c b of correct =
    ap (λ (x : Contents). if is_correct_master (setup_of x) b.actor then executions_in (setup_of x)
    b.actor b.list else []) of
    ∙ ap (λ (t : Bool). if t then executions_in (setup_of c) b.actor b.list else []) correct

-- a correct master's lines
pub master_put : (c : Contents) (b : BenchState) (cast : Cast) (actor view : ℕ) (updates : List Update)
    (halted : Bool) → IsOf c b → b.actor < masters_in c
    → actor ≡ b.actor → cast ≡ cast_in c → false ≡ has_master c.settings.intruded actor →
    (b.is_spent ≡ false → view ≡ view_shown b)
    → (b.is_spent ≡ false → updates ≡ executions_shown b) → halted ≡ is_halted (setup_of c) actor b.list
    → master_text cast actor view updates halted ≡ master_lines c b.actor b.list
unfolding master_lines
master_put c b cast actor view updates halted of low here who honest view_is updates_are halted_is =
    let fair : has_master c.settings.intruded b.actor ≡ false =
    ap (has_master c.settings.intruded) (sym here) ∙ sym honest in
    let correct = correct_there c b.actor low fair in
    ap (λ (k : Cast). master_text k actor view updates halted) who
    ∙ ap (λ (a : ℕ). master_text (cast_in c) a view updates halted) here
    ∙ ap (λ (v : ℕ). master_text (cast_in c) b.actor v updates halted) (view_is of.1 ∙ view_there c b of.0 correct)
    ∙ ap (λ (us : List Update). master_text (cast_in c) b.actor (view_in (setup_of c) b.actor b.list) us halted)
    (updates_are of.1 ∙ executions_there c b of.0 correct)
    ∙ ap (λ (h : Bool). master_text (cast_in c) b.actor (view_in (setup_of c) b.actor b.list)
    (executions_in (setup_of c) b.actor b.list) h)
    (halted_is ∙ ap (λ (a : ℕ). is_halted (setup_of c) a b.list) here)
    ∙ sym (chosen fair)
  where
    chosen : has_master c.settings.intruded b.actor ≡ false → master_lines c b.actor b.list
        ≡ master_text (cast_in c) b.actor (view_in (setup_of c) b.actor b.list)
        (executions_in (setup_of c) b.actor b.list) (is_halted (setup_of c) b.actor b.list)
    chosen fair = rw fair refl
