-- A line that was read names actors that are there and have the role that it needs.
use Rattle.std.proofs.Common.{◌≡◌, ℕ, Bool, true, false, ◌&&◌, if◌then◌else◌, List, [], ◌∷◌, refl, sym, ◌∙◌, ap, Ok}
use Rattle.std.proofs.Common.{Err}
use Rattle.std.specs.Prelude.{codes}
use Rattle.std.specs.Str.{bytes_eq}
use Rattle.message_types.specs.declared.updates.Op.{Op}
use Rattle.play_words.specs.declared.words.Ref.{Ref}
use Rattle.script_grammar.specs.declared.frames.Allowed.TheVariants as allowed
use Rattle.script_grammar.specs.Faults.{Answer, bad, said, both}
use Rattle.script_grammar.specs.Frames.{frame_in, signer_in}
use Rattle.script_grammar.specs.Names.{Who, who_of, there, actor_in, is_proxy, device_of, intruded_in, correct_in}
use Rattle.script_grammar.specs.Names.{proxy_in, screen_in}
use Rattle.script_lines.specs.declared.step.Step.{Step}
use Rattle.script_lines.specs.declared.step.Step.TheVariants as step
use Rattle.script_lines.specs.declared.step.Ticking.{Ticking}
use Rattle.script_lines.specs.declared.step.Ticking.TheVariants as ticking
use Rattle.script_lines.specs.declared.script.Line.{Line}
use Rattle.script_lines.specs.Scripts.{line_of, script_line_in, script_in}
use Rattle.script_lines.specs.Steps.{times_in, ticking_in, tick_in, flow_in, one_actor_in, drop_in, take_in, op_in}
use Rattle.script_lines.specs.Steps.{command_in, change_in, has_place, in_place, field_in, poll_in, cry_in}
use Rattle.script_lines.specs.Steps.{restart_in, step_of, step_in}
use Rattle.script_laws.proofs.Fitting.{is_there, can_tick, step_fits, line_fits}
use Rattle.std.specs.List.{list_all}
use Rattle.scenario_file.specs.Reading.{Contents}
use Rattle.script_laws.proofs.Answering.{ok, ok_same, said_from, chosen}
use Rattle.script_laws.proofs.Filing.{file_passes}
use Rattle.script_laws.proofs.Actors.{actor_there, intruded_there, correct_there, proxy_there, screen_there}
use Rattle.script_laws.proofs.Framing.{frame_read}
use Rattle.script_grammar.proofs.FaultLaws.{both_read}

-- What an answer can be, fits.
abbrev Fits : Who → Answer Step → Type 0
Fits who r = (s : Step) → r ≡ Ok s → step_fits who s ≡ true

bad_fits : (who : Who) → Fits who bad
bad_fits who s h = absurd (cc)

-- a step made of what was read
made_fits : {A : Type 0} (who : Who) (f : A → Step) (r : Answer A) →
    ((x : A) → r ≡ Ok x → step_fits who (f x) ≡ true) → Fits who (said f r)
made_fits who f r each s h = let (x, read, is) = said_from f r s h in ap (step_fits who) (sym is) ∙ each x read

-- one by one

can : (who : Who) (name : List ℕ) (t : Ticking) → ticking_in who name ≡ Ok t → can_tick who t ≡ true
can who name t h =
    chosen (bytes_eq name (codes "masters")) (ok ticking.Masters)
    (if bytes_eq name (codes "all") then Ok ticking.All else said ticking.Actor (actor_in who.cast name)) (Ok t) h
    (λ b e. ap (can_tick who) (sym (ok_same ticking.Masters t e)))
    (λ b e. chosen (bytes_eq name (codes "all")) (ok ticking.All) (said ticking.Actor (actor_in who.cast name)) (Ok t) e
    (λ c k. ap (can_tick who) (sym (ok_same ticking.All t k)))
    (λ c k. let (a, read, is) = said_from ticking.Actor (actor_in who.cast name) t k in ap (can_tick who) (sym is)
    ∙ actor_there who name a read))

tick_fits : (who : Who) (fields : List (List ℕ)) → Fits who (tick_in who fields)
tick_fits who [] = bad_fits who
tick_fits who (name ∷ times) =
    made_fits who (λ (p : Ticking × ℕ). step.Tick p.0 p.1) (both (ticking_in who name) (times_in times))
    (λ p read. can who name p.0 (both_read (ticking_in who name) (times_in times) p read).0)

flow_fits : (who : Who) (fields : List (List ℕ)) → Fits who (flow_in fields)
flow_fits who fields = made_fits who step.Flow (times_in fields) (λ x read. refl)

one_there : (who : Who) (fields : List (List ℕ)) (a : ℕ) → one_actor_in who fields ≡ Ok a → is_there who a ≡ true
one_there who [] a h = absurd (cc)
one_there who (name ∷ []) a h = actor_there who name a h
one_there who (name ∷ other ∷ more) a h = absurd (cc)

lose_fits : (who : Who) (fields : List (List ℕ)) → Fits who (said step.Lose (one_actor_in who fields))
lose_fits who fields = made_fits who step.Lose (one_actor_in who fields) (one_there who fields)

heal_fits : (who : Who) (fields : List (List ℕ)) → Fits who (said step.Heal (one_actor_in who fields))
heal_fits who fields = made_fits who step.Heal (one_actor_in who fields) (one_there who fields)

drop_fits : (who : Who) (fields : List (List ℕ)) → Fits who (drop_in fields)
drop_fits who [] s h = ap (step_fits who) (sym (ok_same step.Drop s h))
drop_fits who (word ∷ more) s h = absurd (cc)

take_fits : (who : Who) (fields : List (List ℕ)) → Fits who (take_in who fields)
take_fits who [] = bad_fits who
take_fits who (name ∷ []) = bad_fits who
take_fits who (name ∷ frame ∷ []) =
    made_fits who (λ (p : ℕ × Ref). step.Take p.0 p.1)
    (both (actor_in who.cast name) (frame_in who.cast allowed.Any frame))
    (λ p read.
    let two = both_read (actor_in who.cast name) (frame_in who.cast allowed.Any frame) p read in
    let named = frame_read who.cast allowed.Any frame p.1 two.1 in
    three (is_there who p.0) (is_there who p.1.actor) (actor_there who name p.0 two.0)
    (actor_there who (signer_in frame) p.1.actor named.signer) named.small)
  where
    three : (a b : Bool) {c : Bool} → a ≡ true → b ≡ true → c ≡ true → (a && b && c) ≡ true
    three true true one two last = last
    three true false one two last = absurd (cc)
    three false b one two last = absurd (cc)
take_fits who (name ∷ frame ∷ other ∷ more) = bad_fits who

command_fits : (who : Who) (fields : List (List ℕ)) → Fits who (command_in who fields)
command_fits who [] = bad_fits who
command_fits who (name ∷ fields) =
    made_fits who (λ (p : ℕ × Op). step.Command p.0 p.1) (both (screen_in who name) (op_in fields))
    (λ p read. screen_there who name p.0 (both_read (screen_in who name) (op_in fields) p read).0)

change_fits : (who : Who) (r : Answer (ℕ × _)) →
    ((p : ℕ × _) → r ≡ Ok p → (is_there who p.0 && is_proxy who p.0) ≡ true) → Fits who (in_place who r)
change_fits who (Ok p) proxy s h =
    chosen (has_place (device_of who p.0) p.1.area p.1.place) (ok (step.Field p.0 p.1.area p.1.place p.1.value))
    bad (Ok s) h
    (λ has e. ap (step_fits who) (sym (ok_same (step.Field p.0 p.1.area p.1.place p.1.value) s e))
    ∙ three (is_there who p.0) (is_proxy who p.0) (proxy p refl) has)
    (λ has e. absurd (cc))
  where
    three : (a b : Bool) {c : Bool} → (a && b) ≡ true → c ≡ true → (a && b && c) ≡ true
    three true true two one = one
    three true false two one = absurd (cc)
    three false b two one = absurd (cc)
change_fits who (Err e) proxy s h = absurd (cc)

field_fits : (who : Who) (fields : List (List ℕ)) → Fits who (field_in who fields)
field_fits who [] = bad_fits who
field_fits who (name ∷ change) =
    change_fits who (both (proxy_in who name) (change_in change))
    (λ p read. proxy_there who name p.0 (both_read (proxy_in who name) (change_in change) p read).0)

poll_fits : (who : Who) (fields : List (List ℕ)) → Fits who (poll_in who fields)
poll_fits who [] = bad_fits who
poll_fits who (name ∷ []) = made_fits who step.Poll (proxy_in who name) (proxy_there who name)
poll_fits who (name ∷ other ∷ more) = bad_fits who

cry_fits : (who : Who) (fields : List (List ℕ)) → Fits who (cry_in who fields)
cry_fits who [] = bad_fits who
cry_fits who (name ∷ times) =
    made_fits who (λ (p : ℕ × ℕ). step.Cry p.0 p.1) (both (intruded_in who name) (times_in times))
    (λ p read. intruded_there who name p.0 (both_read (intruded_in who name) (times_in times) p read).0)

restart_fits : (who : Who) (fields : List (List ℕ)) → Fits who (restart_in who fields)
restart_fits who [] = bad_fits who
restart_fits who (name ∷ []) = made_fits who step.Restart (correct_in who name) (correct_there who name)
restart_fits who (name ∷ other ∷ more) = bad_fits who

either_fits : (who : Who) (b : Bool) (x y : Answer Step) → Fits who x → Fits who y → Fits who (if b then x else y)
either_fits who true x y here there = here
either_fits who false x y here there = there

of_word_fits : (who : Who) (what : List ℕ) (fields : List (List ℕ)) → Fits who (step_of who what fields)
of_word_fits who what fields =
    either_fits who (bytes_eq what (codes "tick")) (tick_in who fields) _ (tick_fits who fields)
    (either_fits who (bytes_eq what (codes "flow")) (flow_in fields) _ (flow_fits who fields)
    (either_fits who (bytes_eq what (codes "lose")) (said step.Lose (one_actor_in who fields)) _ (lose_fits who fields)
    (either_fits who (bytes_eq what (codes "heal")) (said step.Heal (one_actor_in who fields)) _ (heal_fits who fields)
    (either_fits who (bytes_eq what (codes "drop")) (drop_in fields) _ (drop_fits who fields)
    (either_fits who (bytes_eq what (codes "take")) (take_in who fields) _ (take_fits who fields)
    (either_fits who (bytes_eq what (codes "command")) (command_in who fields) _ (command_fits who fields)
    (either_fits who (bytes_eq what (codes "field")) (field_in who fields) _ (field_fits who fields)
    (either_fits who (bytes_eq what (codes "poll")) (poll_in who fields) _ (poll_fits who fields)
    (either_fits who (bytes_eq what (codes "cry")) (cry_in who fields) _ (cry_fits who fields)
    (either_fits who (bytes_eq what (codes "restart")) (restart_in who fields) bad (restart_fits who fields)
    (bad_fits who)))))))))))

words_fit : (who : Who) (words : List (List ℕ)) → Fits who (step_in who words)
unfolding step_in
words_fit who [] = bad_fits who
words_fit who (what ∷ fields) = of_word_fits who what fields

line_read_fits : (who : Who) (number : ℕ) (words : List (List ℕ)) (line : Line) →
    script_line_in who number words ≡ Ok line → line_fits who line ≡ true
unfolding script_line_in
line_read_fits who number words line h =
    let (s, read, is) = said_from (line_of number) (step_in who words) line h in ap (line_fits who) (sym is)
    ∙ words_fit who words s read

pub lines_fit : (c : Contents) (bytes : List ℕ) (lines : List Line) → script_in (who_of c) bytes ≡ Ok lines →
    list_all (line_fits (who_of c)) lines ≡ true
unfolding script_in
lines_fit c bytes lines h = file_passes (line_fits (who_of c)) 10000 (script_line_in (who_of c)) bytes lines
    (line_read_fits (who_of c)) h
