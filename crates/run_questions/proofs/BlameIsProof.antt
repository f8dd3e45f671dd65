-- What a printed blame is worth.
use Rattle.std.proofs.Common.{◌≡◌, ℕ, ◌+◌, ◌<◌, ◌≤◌, Bool, true, false, ◌&&◌, not, List, length, nat_lt, refl, sym}
use Rattle.std.proofs.Common.{◌∙◌, ap, subst}
use Rattle.std.proofs.lemmas.Bool.{and_from, lt-ltb}
use Rattle.quorum_sets.specs.Masters.{voters}
use Rattle.message_types.specs.declared.signed.Signed.{Signed}
use Rattle.message_types.specs.declared.body.Body.{Body}
use Rattle.message_types.specs.Texts.{body_text}
use Rattle.protocol_rules.specs.Group.{Group}
use Rattle.scenario_file.specs.Reading.{Contents}
use Rattle.history_laws.proofs.Forged.{forged_counts}
use Rattle.world_rules.specs.Scenarios.{group_in, masters_in, setup_of}
use Rattle.world_rules.proofs.Fields.{setup_goes_by, group_is, sizes_of_group}
use Rattle.blame_check.specs.declared.pairs.Named.{Named}
use Rattle.blame_check.specs.Contradictions.{named}
use Rattle.blame_check.specs.Laws.{words_taken, has_commit}
use Rattle.blame_check.proofs.Worth.{named_contradict, quorums_name_many, correct_are_not_named}
use Rattle.run_questions.proofs.NamedAreBlamed.{named_is}
use Rattle.run_questions.specs.BlameLaws.{IsSigned, BlamedAreProved, QuorumsAreBlamed, CorrectAreNotBlamed}

-- what a master's key bears out, by the signer of the frame
signed_by : (c : Contents) (frame : Signed Body) (m : ℕ) → frame.signer ≡ m →
    (setup_of c).signs m (body_text frame.body) frame.sig ≡ true → IsSigned c frame
signed_by c frame m by signed =
    sym ((setup_goes_by c).signs frame.signer (body_text frame.body) frame.sig)
    ∙ ap (λ (k : ℕ). (setup_of c).signs k (body_text frame.body) frame.sig) by ∙ signed

pub blamed_are_proved : BlamedAreProved
blamed_are_proved c history legal pair among =
    let proof = named_contradict (setup_of c) history legal pair among in
    record {
      is_master = subst (λ (g : Group). pair.master < g.n) (group_is c) proof.is_master;
      first_by = proof.first_by;
      second_by = proof.second_by;
      first_signed = signed_by c pair.first pair.master proof.first_by proof.first_signed;
      second_signed = signed_by c pair.second pair.master proof.second_by proof.second_signed;
      contrary = proof.contrary;
    }

-- what two quorums' commits do, over a group
abbrev NamesMany : List (Signed Body) → ℕ → ℕ → List ℕ → List ℕ → Group → Type 0
NamesMany words v s a b g =
    g.q ≤ length (voters (has_commit words v s a) g.n) → g.q ≤ length (voters (has_commit words v s b) g.n) →
    g.f + 1 ≤ length (named g.n words)

pub quorums_are_blamed : QuorumsAreBlamed
quorums_are_blamed c history is v s a b apart first second =
    let words = words_taken history in
    let many : NamesMany words v s a b (group_in c) =
    subst (NamesMany words v s a b) (group_is c)
    (quorums_name_many (setup_of c).group (sizes_of_group c is) words v s a b apart) in
    subst (λ (pairs : List Named). c.settings.f + 1 ≤ length pairs) (named_is c history (masters_in c) refl)
    (many first second)

-- a master that isn't correct is intruded
intruded_from : (low intruded : Bool) → low ≡ true → ((low && not intruded) ≡ true → ⊥) → intruded ≡ true
intruded_from low true there wrong = refl
intruded_from low false there wrong = absurd (wrong (and_from low true there refl))

pub correct_are_not_blamed : CorrectAreNotBlamed
correct_are_not_blamed c history legal none pair among =
    let master = (named_contradict (setup_of c) history legal pair among).is_master in
    sym ((setup_goes_by c).intruded pair.master)
    ∙ intruded_from (nat_lt pair.master (setup_of c).group.n) ((setup_of c).intruded pair.master)
    (lt-ltb pair.master (setup_of c).group.n master)
    (correct_are_not_named (setup_of c) history legal ((forged_counts (setup_of c) history).0 none) pair among)
