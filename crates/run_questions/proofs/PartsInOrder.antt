-- The lines of the masters' parts, master by master.
use Rattle.std.proofs.Common.{◌≡◌, ℕ, ◌+◌, ◌≤◌, List, [], ◌∷◌}
use Rattle.std.proofs.Common.{◌++◌, length, append_assoc, append-nil, add-one, sym, ◌∙◌, ap}
use Rattle.std.proofs.Common.{arith}
use Rattle.std.specs.List.{flat_map}
use Rattle.std.proofs.lemmas.List.{length-append}
use Rattle.std.proofs.lemmas.List.Concat.{flat_map-append}
use Rattle.message_types.specs.declared.updates.Update.{Update}
use Rattle.message_types.specs.Texts.{update_text}
use Rattle.protocol_rules.specs.Group.{Group}
use Rattle.scenario_file.specs.Reading.{Contents}
use Rattle.history_rules.specs.Events.{Entry}
use Rattle.world_rules.specs.Scenarios.{masters_in, setup_of}
use Rattle.world_rules.proofs.Fields.{group_is}
use Rattle.wire_parts.specs.FieldLaws.{length-u16_bytes, length-u32_bytes, length-u64_bytes}
use Rattle.quorum_sets.specs.Masters.{numbers_below}
use Rattle.quorum_sets.proofs.MastersLemmas.{numbers_below-suc}
use Rattle.parity_parts.specs.declared.part.Part.{Part}
use Rattle.part_lines.specs.Texts.{line_of, part_words}
use Rattle.run_questions.specs.PartsText.{certified_by, part_if, parts_by}

abbrev pub lines_of : List Part → List ℕ
lines_of parts = flat_map (λ part. line_of (part_words part)) parts

-- an update's text isn't empty
pub update_some : (u : Update) → 1 ≤ length (update_text u)
update_some u = simp (length-append, length-u16_bytes, length-u32_bytes, length-u64_bytes) (omega arith)

pub none_put : (g : ℕ → List Part) (old : List ℕ) → old ≡ old ++ lines_of (flat_map g (numbers_below 0))
unfolding numbers_below
none_put g old = sym (append-nil old)

pub next_put : (g : ℕ → List Part) (first old new : List ℕ) (master : ℕ) →
    old ≡ first ++ lines_of (flat_map g (numbers_below master))
    → new ≡ old ++ lines_of (g master) → new ≡ first ++ lines_of (flat_map g (numbers_below (master + 1)))
next_put g first old new master so_far one =
    one ∙ ap (λ (bs : List ℕ). bs ++ lines_of (g master)) so_far
    ∙ append_assoc first (lines_of (flat_map g (numbers_below master))) (lines_of (g master))
    ∙ ap (λ (bs : List ℕ). first ++ bs)
    (sym (flat_map-append (λ (part : Part). line_of (part_words part))
    (flat_map g (numbers_below master)) (g master)))
    ∙ ap (λ (ps : List Part). first ++ lines_of (flat_map g (numbers_below master) ++ ps)) (sym (append-nil (g master)))
    ∙ ap (λ (ps : List Part). first ++ lines_of ps) (sym (flat_map-append g (numbers_below master) (master ∷ [])))
    ∙ ap (λ (ms : List ℕ). first ++ lines_of (flat_map g ms)) (sym (numbers_below-suc master))
    ∙ ap (λ (n : ℕ). first ++ lines_of (flat_map g (numbers_below n))) (sym (add-one master))

-- all masters have their lines
pub all_put : (c : Contents) (history : List Entry) (j k f n most : ℕ) (digest first new : List ℕ) →
    n ≡ masters_in c → f ≡ c.settings.f → n ≤ most → most ≤ n
    → new ≡ first ++ lines_of
    (flat_map (λ master. part_if f digest master (certified_by (setup_of c) history j k master))
    (numbers_below most))
    → new ≡ first ++ lines_of (parts_by (setup_of c) history j k digest)
all_put c history j k f n most digest first new size same low high so_far =
    let end : most ≡ n = omega arith in
    let all : most ≡ (setup_of c).group.n = end ∙ size ∙ sym (ap (λ (g : Group). g.n) (group_is c)) in
    let its : f ≡ (setup_of c).group.f = same ∙ sym (ap (λ (g : Group). g.f) (group_is c)) in
    so_far
    ∙ ap (λ (m : ℕ). first ++ lines_of
    (flat_map (λ master. part_if f digest master (certified_by (setup_of c) history j k master))
    (numbers_below m))) all
    ∙ ap (λ (g : ℕ). first ++ lines_of
    (flat_map (λ master. part_if g digest master (certified_by (setup_of c) history j k master))
    (numbers_below (setup_of c).group.n))) its
