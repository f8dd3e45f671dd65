-- Lines of a play that lose and heal actors, and what is asked of every line.
use Rattle.std.proofs.Common.{◌≡◌, ℕ, true, List, Result, Ok, drop, get_or, refl, sym, ◌∙◌, ap, subst, length}
use Rattle.scenario_file.specs.Reading.{Contents}
use Rattle.script_lines.specs.declared.step.Step.{Step}
use Rattle.script_lines.specs.Given.{own_words}
use Rattle.world_history.specs.KeptState.{KeptState}
use Rattle.script_laws.specs.Accepted.{is_step_of}
use Rattle.world_rules.specs.Scenarios.{actors_in}
use Rattle.run_scripts.specs.declared.answer.StepRefusal.{StepRefusal}
use Rattle.run_scripts.specs.declared.mail.Mail.{Mail}
use Rattle.run_scripts.specs.declared.playing.Playing.{Playing}
use Rattle.run_scripts.specs.Making.{Given, Making, Going, goes}
use Rattle.run_scripts.specs.Playing.{IsMaking, IsMail, Goes}

-- the play with these lost
pub lost_play : (g : Given) (m : Making) (p q : Playing) (lost : List ℕ) → IsMaking g m p →
    q.kept.items ≡ p.kept.items → q.entries ≡ p.entries → q.mail ≡ p.mail
    → q.lost.items ≡ lost → q.said.items ≡ p.said.items → IsMaking g (record m { lost = lost }) q
lost_play g m p q lost is kept entries mail are said = record {
  sound = record { legal = is.sound.legal; short = is.sound.short; posts = is.sound.posts; waiting = is.sound.waiting };
  many = ap length kept ∙ is.many;
  kept = λ actor k below at. is.kept actor k below (at ∙ ap (λ (ks : List KeptState). get_or ks actor k) kept);
  entries = entries ∙ is.entries;
  mail = subst (λ (x : Mail). IsMail (actors_in g.scenario) m.posts m.waiting x) (sym mail) is.mail;
  lost = are;
  speakers = ap length said ∙ is.speakers;
  said = λ actor below. ap (λ (ps : List ℕ). own_words actor (drop (get_or ps actor 0) g.sayings)) said
      ∙ is.said actor below;
}

-- the line as it is matched
pub goes_by : (g : Given) (s t : Step) (r : Result (Unit {0}) StepRefusal) (m : Making) (q : Playing) → s ≡ t →
    Goes g r (goes g t m) q → Goes g r (goes g s m) q
goes_by g s t r m q same goes_so = subst (λ (x : Step). Goes g r (goes g x m) q) (sym same) goes_so

pub accepted_as : (c : Contents) (s t : Step) → s ≡ t → is_step_of c s ≡ true → is_step_of c t ≡ true
accepted_as c s t same accepted = ap (is_step_of c) (sym same) ∙ accepted
