-- What the owner of an actor's key does without the seed is what the scenario with its seed has the actor do.
use Rattle.std.proofs.Common.{◌≡◌, ℕ, true, List, [], ◌∷◌, ◌++◌, Option, Some, None, codes, map, slice_index_or, refl, sym, ◌∙◌}
use Rattle.std.proofs.Common.{ap, subst}
use Rattle.std.specs.List.{flat_map}
use Rattle.hash_signatures.specs.Signatures.{Key, all_leaves}
use Rattle.ots_keys.specs.declared.parameters.Ots.TheVariants.{W4}
use Rattle.hash_signatures.specs.State.{key_from}
use Rattle.message_types.specs.declared.signed.Signed.{Signed}
use Rattle.message_types.specs.declared.body.Body.{Body}
use Rattle.message_types.specs.Texts.{body_text}
use Rattle.checked_frames.specs.Standing as ring
use Rattle.checked_frames.specs.Entries as entries
use Rattle.scenario_file.specs.declared.held.HeldKeys.{HeldKeys}
use Rattle.scenario_file.specs.Reading.{Contents, cast_of}
use Rattle.history_rules.specs.Events.{Entry}
use Rattle.history_rules.specs.Setup.{Setup, stands, leaves_used, signed_from, own}
use Rattle.history_rules.specs.Legal.{IsLegal}
use Rattle.bench_rules.specs.Lists.{frames_after}
use Rattle.world_rules.specs.Frames.{cried, frames_of}
use Rattle.world_rules.specs.Scenarios.{group_in, key_in, most_together, signature_in, setup_of}
use Rattle.world_rules.proofs.Fields.{setup_goes_by, leaves_of_all}
use Rattle.world_rules.proofs.Signed.{signature_is}
use Rattle.world_history.specs.Signed.{publics_in, ring_in}
use Rattle.world_history.proofs.StandingFrames.{stands_by_ring}
use Rattle.joint_lists.specs.Stations.{IsStation, acts_alone}
use Rattle.kept_lines.specs.Lines.{kept_line, kept_from, entry_words, digest_words, frames_said}
use Rattle.station_lives.specs.Saying.{word_line, word_lines}
use Rattle.key_owners.specs.Laws.{with_key_alone, Owns, OwnersAreStations, OwnersKeepTheSame, OwnersSayTheSame}
use Rattle.key_owners.proofs.OwnEntries.{rest_alone}
use Rattle.key_owners.proofs.SameSignatures.{other, signed_same, legal_same}

-- the key that is held is the one with which its owner signs
held_key : (c : Contents) (actor : ℕ) (held : HeldKeys) (seed : List ℕ)
    → key_in (with_key_alone c seed held) actor ≡ key_from held.seed held.identifier c.settings.heights W4
unfolding key_in
held_key c actor held seed = refl

key_same : (c : Contents) (actor : ℕ) (held : HeldKeys) (seed : List ℕ) → Owns c actor held →
    key_in (with_key_alone c seed held) actor ≡ key_in c actor
key_same c actor held seed owns = held_key c actor held seed ∙ owns.key

-- the owner's signatures are those of the scenario with its seed
signatures_same : (c : Contents) (actor : ℕ) (held : HeldKeys) (seed : List ℕ) → Owns c actor held →
    (used : ℕ) (said : List Body) (place : ℕ)
    → signature_in (with_key_alone c seed held) actor used said place ≡ signature_in c actor used said place
unfolding signature_in
signatures_same c actor held seed owns used said place =
    ap (λ (k : Key). slice_index_or (entries.entry_signatures k used (most_together c) (map body_text said)) place [])
    (key_same c actor held seed owns)

-- and its setup is that of the scenario but for signatures
leaves_same : (c : Contents) (actor : ℕ) (held : HeldKeys) (seed : List ℕ) → Owns c actor held →
    (setup_of (with_key_alone c seed held)).leaves ≡ (setup_of c).leaves
leaves_same c actor held seed owns =
    leaves_of_all (with_key_alone c seed held) actor
    ∙ ap (λ (k : Key). all_leaves k) (key_same c actor held seed owns)
    ∙ sym (leaves_of_all c actor)

setup_from : (c : Contents) (held : HeldKeys) (seed : List ℕ) → (setup_of (with_key_alone c seed held)).leaves ≡
    (setup_of c).leaves
    → setup_of c ≡ other (setup_of (with_key_alone c seed held)) (setup_of c).signature (setup_of c).signs
unfolding setup_of
setup_from c held seed same = λ i. record (setup_of c) { leaves = sym same i }

-- the same frames stand
stand_same : (c : Contents) (actor : ℕ) (held : HeldKeys) (seed : List ℕ) → Owns c actor held → (f : Signed Body)
    → stands (setup_of (with_key_alone c seed held)) f ≡ stands (setup_of c) f
stand_same c actor held seed owns f =
    stands_by_ring (with_key_alone c seed held) f
    ∙ ap (λ (keys : List (List ℕ)). ring.stands (ring.ring_of (group_in c) keys) f) owns.ring
    ∙ sym (stands_by_ring c f)

module _ (c : Contents) (actor : ℕ) (held : HeldKeys) (seed : List ℕ) (owns : Owns c actor held) where
  -- the owner's setup with the signatures of the scenario
  is_other : setup_of c ≡ other (setup_of (with_key_alone c seed held)) (setup_of c).signature (setup_of c).signs
  is_other = setup_from c held seed (leaves_same c actor held seed owns)

  same : (used : ℕ) (said : List Body) (place : ℕ)
      → (setup_of (with_key_alone c seed held)).signature actor used said place ≡ (setup_of c).signature actor used said place
  same used said place =
      (setup_goes_by (with_key_alone c seed held)).signature actor used said place
      ∙ signatures_same c actor held seed owns used said place
      ∙ sym ((setup_goes_by c).signature actor used said place)

  stand : (f : Signed Body) → stands (setup_of (with_key_alone c seed held)) f
      ≡ stands (other (setup_of (with_key_alone c seed held)) (setup_of c).signature (setup_of c).signs) f
  stand f = stand_same c actor held seed owns f ∙ ap (λ (w : Setup). stands w f) is_other

  legal : (list : List Entry) → IsStation (with_key_alone c seed held) actor list → IsLegal (setup_of c) list
  legal list is = subst (λ (w : Setup). IsLegal w list) (sym is_other)
      (legal_same (setup_of (with_key_alone c seed held)) (setup_of c).signature (setup_of c).signs actor same stand list
      is.alone is.legal)

  -- what the actor signs after a list
  signed : (before : List Entry) (said : List Body)
      → signed_from (setup_of (with_key_alone c seed held)) actor
      (leaves_used (setup_of (with_key_alone c seed held)) before) said 0 said
      ≡ signed_from (setup_of c) actor (leaves_used (setup_of c) before) said 0 said
  signed before said =
      signed_same (setup_of (with_key_alone c seed held)) (setup_of c).signature (setup_of c).signs actor same
      (leaves_used (setup_of (with_key_alone c seed held)) before) said 0 said
      ∙ ap (λ (w : Setup). signed_from w actor (leaves_used w before) said 0 said) (sym is_other)

  signed_by : (before : List Entry) (e : Entry) → e.actor ≡ actor
      → frames_after (setup_of (with_key_alone c seed held)) e.actor before e ≡ frames_after (setup_of c) e.actor before e
  signed_by before e by = subst
      (λ (a : ℕ). frames_after (setup_of (with_key_alone c seed held)) a before e ≡ frames_after (setup_of c) a before e)
      (sym by) (signed before e.said)

  -- the lines that are kept
  line : (before : List Entry) (e : Entry) → e.actor ≡ actor →
      kept_line (with_key_alone c seed held) before e ≡ kept_line c before e
  unfolding kept_line
  line before e by = ap (λ (fs : List (Signed Body)). entry_words (cast_of c.settings c.plant) e ++ digest_words fs)
      (signed_by (own before e.actor) e by)

  lines : (before list : List Entry) → acts_alone actor list ≡ true →
      kept_from (with_key_alone c seed held) before list ≡ kept_from c before list
  lines before [] alone = refl
  lines before (e ∷ rest) alone =
      let its = rest_alone actor e rest alone in
      (λ i. line before e its.0 i ++ codes "\n" ++ lines (before ++ e ∷ []) rest its.1 i)

pub owners_are_stations : OwnersAreStations
owners_are_stations c actor held seed list owns is =
    record { legal = legal c actor held seed owns list is; alone = is.alone }

pub owners_keep_the_same : OwnersKeepTheSame
owners_keep_the_same c actor held seed list owns alone = lines c actor held seed owns [] list alone

pub owners_say_the_same : OwnersSayTheSame
owners_say_the_same c held seed before e owns =
    ap (λ (fs : List (Signed Body)). flat_map (word_line c e.actor) (fs ++ cried e.event))
    (signed c e.actor held seed owns before e.said)
