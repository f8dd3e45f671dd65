-- The entry of a line is added, or the line is refused.
use Rattle.std.proofs.Common.{◌≡◌, ℕ, ◌+◌, Bool, true, false, cond, ◌&&◌, List, Option, Some, None}
use Rattle.std.proofs.Common.{Ok, Err, length, nat_eq, refl, sym, ◌∙◌, ap, subst}
use Rattle.std.proofs.lemmas.Bool.{true≢false}
use Rattle.std.specs.Str.{bytes_eq}
use Rattle.scenario_file.specs.declared.actors.Cast.{Cast}
use Rattle.scenario_file.specs.Reading.{Contents, cast_of}
use Rattle.script_grammar.specs.declared.fault.LineRefusal.{LineRefusal}
use Rattle.script_grammar.specs.declared.fault.LineRefusal.TheVariants as fault
use Rattle.script_grammar.specs.Faults as grammar
use Rattle.history_rules.specs.Events.{Event, Entry}
use Rattle.history_rules.specs.Setup.{Setup}
use Rattle.history_rules.specs.Legal.{says}
use Rattle.world_rules.specs.Scenarios.{setup_of}
use Rattle.run_lines.specs.declared.entry_line.EntryLine.{EntryLine}
use Rattle.run_lines.specs.Reading.{entry_line_in}
use Rattle.printed_history.specs.declared.reading.SoFar.{SoFar}
use Rattle.printed_history.specs.Histories.{event_from, standing_event, is_running, entry_with, entry_next}
use Rattle.printed_history.specs.Reading.{HasMore, Takes}
use Rattle.kept_lines.specs.declared.refusal.KeptRefusal.TheVariants as refusal
use Rattle.kept_lines.specs.Lines.{kept_line}
use Rattle.kept_lines.specs.Reading.{Reading, entry_part, entry_told, is_actor, kept_so, told_so, line_in, fault_at}
use Rattle.kept_lines.specs.Reading.{Refuses}

abbrev bad_at : ℕ → Reading Entry
bad_at n = Err (refusal.BadLine n)

abbrev not_at : ℕ → Reading Entry
not_at n = Err (refusal.NotLegal n)

-- what a line says, by what was read of it
pub read_there : (c : Contents) (cast : Cast) (line part : List ℕ) (P : grammar.Answer EntryLine → Type 0) →
    cast ≡ cast_of c.settings c.plant → part ≡ entry_part line → P (entry_line_in cast part) →
    P (entry_line_in (cast_of c.settings c.plant) (entry_part line))
read_there c cast line part P is are holds = subst P (λ i. entry_line_in (is i) (are i)) holds

-- a line that isn't one
pub bad_line : (c : Contents) (actor : ℕ) (before : List Entry) (line : List ℕ) (number : ℕ) (e : LineRefusal) →
    number ≡ length before + 1 →
    grammar.Refuses e (entry_line_in (cast_of c.settings c.plant) (entry_part line)) →
    Refuses (fault_at number e) (line_in c actor before line)
unfolding line_in
bad_line c actor before line number fault.BadLine at told =
    ap (told_so c actor before line) told
    ∙ ap bad_at (sym at)
bad_line c actor before line number fault.NoActor at told =
    ap (told_so c actor before line) told
    ∙ ap bad_at (sym at)
bad_line c actor before line number fault.Want at told = tt

-- an entry that may not come
pub none_told : (o : Option Entry) (comes : Bool) (old new : SoFar) → Takes o comes old new → comes ≡ false → o ≡ None
none_told None comes old new takes still = refl
none_told (Some e) comes old new takes still = absurd (true≢false (sym takes.0 ∙ still))

pub not_next : (c : Contents) (actor : ℕ) (before : List Entry) (line : List ℕ) (stamp : ℕ) (l : EntryLine) →
    stamp ≡ length before → entry_line_in (cast_of c.settings c.plant) (entry_part line) ≡ Ok l →
    entry_told (setup_of c) actor before l ≡ None → line_in c actor before line ≡ Err (refusal.NotLegal stamp)
unfolding line_in
not_next c actor before line stamp l at read none =
    ap (told_so c actor before line) read ∙ ap (kept_so c before line) none
    ∙ ap not_at (sym at)

-- one that came
pub record Came (o : Option Entry) (old new : SoFar) : Type 0 where
  pub entry : Entry
  pub is : o ≡ Some entry
  pub more : HasMore old new entry

pub came : (o : Option Entry) (comes : Bool) (old new : SoFar) → Takes o comes old new → comes ≡ true → Came o old new
came None comes old new takes on = absurd (true≢false (sym on ∙ takes.0))
came (Some e) comes old new takes on = record { entry = e; is = refl; more = takes.1 }

-- and whether its line is the one that is kept of it
pub line_is : (c : Contents) (actor : ℕ) (before : List Entry) (line made : List ℕ) (l : EntryLine) (e : Entry)
    (same : Bool) → entry_line_in (cast_of c.settings c.plant) (entry_part line) ≡ Ok l →
    entry_told (setup_of c) actor before l ≡ Some e → made ≡ kept_line c before e → bytes_eq line made ≡ same →
    line_in c actor before line ≡ cond same (Ok e) (Err (refusal.OtherWords (length before)))
unfolding line_in
line_is c actor before line made l e same read told are so =
    ap (told_so c actor before line) read ∙ ap (kept_so c before line) told
    ∙ ap (λ (b : Bool). cond b (Ok e) (Err (refusal.OtherWords (length before))))
    (ap (bytes_eq line) (sym are) ∙ so)

-- a line of another stamp or actor tells no entry of this one
pub other_told : (w : Setup) (actor : ℕ) (before : List Entry) (l : EntryLine) (old : SoFar) →
    (nat_eq l.stamp (length before) && is_actor actor l.actor) ≡ false →
    Takes (entry_told w actor before l) false old old
other_told w actor before l old other =
    subst (λ (b : Bool). Takes (cond b (entry_next w before actor
    (standing_event w (event_from w before l.event))) None) false old old) (sym other) (refl, refl)

pub its_told : (w : Setup) (actor : ℕ) (before : List Entry) (l : EntryLine) (comes : Bool) (old new : SoFar) →
    (nat_eq l.stamp (length before) && is_actor actor l.actor) ≡ true →
    Takes (entry_next w before actor (standing_event w (event_from w before l.event))) comes old new →
    Takes (entry_told w actor before l) comes old new
its_told w actor before l comes old new its takes =
    subst (λ (b : Bool). Takes (cond b (entry_next w before actor
    (standing_event w (event_from w before l.event))) None) comes old new) (sym its) takes

-- the entry of a line is the actor's
next_actor : (w : Setup) (actor : ℕ) (before : List Entry) (found : Option Event) (e : Entry) →
    entry_next w before actor found ≡ Some e → e.actor ≡ actor
next_actor w actor before None e is = absurd (cc)
next_actor w actor before (Some event) e is = at (is_running w before actor && w.fits actor event) is
  where
    made : Entry
    made = entry_with before actor event (says w before actor event)

    at : (b : Bool) → cond b (Some made) None ≡ Some e → e.actor ≡ actor
    at true so = let its : made ≡ e = cc in sym (ap (λ (x : Entry). x.actor) its)
    at false so = absurd (cc)

told_actor : (w : Setup) (actor : ℕ) (before : List Entry) (l : EntryLine) (e : Entry) →
    entry_told w actor before l ≡ Some e → e.actor ≡ actor
told_actor w actor before l e is = at (nat_eq l.stamp (length before) && is_actor actor l.actor) is
  where
    next : Option Entry
    next = entry_next w before actor (standing_event w (event_from w before l.event))

    at : (b : Bool) → cond b next None ≡ Some e → e.actor ≡ actor
    at true so = next_actor w actor before (standing_event w (event_from w before l.event)) e so
    at false so = absurd (cc)

pub line_actor : (c : Contents) (actor : ℕ) (before : List Entry) (line : List ℕ) (e : Entry) →
    line_in c actor before line ≡ Ok e → e.actor ≡ actor
unfolding line_in
line_actor c actor before line e is = by (entry_line_in (cast_of c.settings c.plant) (entry_part line)) is
  where
    same : (x : Entry) (b : Bool) → cond b (Ok x) (Err (refusal.OtherWords (length before))) ≡ Ok e → x ≡ e
    same x true so = cc
    same x false so = absurd (cc)

    at : (l : EntryLine) (o : Option Entry) → entry_told (setup_of c) actor before l ≡ o →
        kept_so c before line o ≡ Ok e → e.actor ≡ actor
    at l None told so = absurd (cc)
    at l (Some x) told so =
        sym (ap (λ (y : Entry). y.actor) (same x (bytes_eq line (kept_line c before x)) so))
        ∙ told_actor (setup_of c) actor before l x told

    by : (a : grammar.Answer EntryLine) → told_so c actor before line a ≡ Ok e → e.actor ≡ actor
    by (Ok l) so = at l (entry_told (setup_of c) actor before l) refl so
    by (Err f) so = absurd (cc)
