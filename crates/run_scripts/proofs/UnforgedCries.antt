-- The frame that an intruded master's cry spells: it is the master's own, and inside it are only frames that the master
-- knows.
use Rattle.std.proofs.Common.{◌≡◌, ℕ, ◌+◌, ◌*◌, ◌<◌, ◌≤◌, ◌^◌, Bool, true, false, cond, ◌&&◌, not, List, [], ◌∷◌}
use Rattle.std.proofs.Common.{◌++◌, Option, Some, None, Ok, length, nat_eq, nat_lt, sym, ◌∙◌, ap, subst, arith, inl}
use Rattle.std.proofs.Common.{inr}
use Rattle.std.specs.List.{flat_map}
use Rattle.std.specs.Option.{option_map}
use Rattle.std.proofs.lemmas.Bool.{and_parts, and_from, false≢true}
use Rattle.plain_lists.specs.Lists.{IsIn, Each}
use Rattle.plain_lists.proofs.Members.{in_cons_cases, none_some}
use Rattle.wire_parts.specs.Fields.{u32_bytes}
use Rattle.message_types.specs.declared.signed.Signed.{Signed}
use Rattle.message_types.specs.declared.body.Body.{Body}
use Rattle.message_types.specs.Parts.{parts, inside}
use Rattle.message_types.specs.Texts.{body_text, frame_text}
use Rattle.message_types.specs.Spelling.{body_fits, has_spelling}
use Rattle.message_forms.specs.Forms.{frame_at}
use Rattle.message_forms.specs.Widths.{FitsFields}
use Rattle.message_forms.proofs.FrameLaws.{frame_back}
use Rattle.quorum_sets.specs.Masters.{has_master}
use Rattle.checked_frames.specs.Signing.{field_fits}
use Rattle.protocol_rules.specs.Group.{Group}
use Rattle.protocol_rules.specs.Master.{taken_frames}
use Rattle.scenario_file.specs.Reading.{Contents}
use Rattle.scenario_file.specs.Valid.{IsScenario}
use Rattle.history_rules.specs.Events.{Cry, Entry, frame_taken}
use Rattle.history_rules.specs.Setup.{Setup, is_correct, leaves_used}
use Rattle.agreement.proofs.FramesInside.{Closed, closed_parts, closed_flat_map, option_map_from}
use Rattle.words_in_place.proofs.Limits.{all_from}
use Rattle.world_rules.specs.Frames.{cried, overheard}
use Rattle.world_rules.specs.Scenarios.{setup_of, masters_in}
use Rattle.world_rules.proofs.Fields.{setup_goes_by, group_is, sizes_of_group}
use Rattle.play_words.specs.declared.words.Word.{Word}
use Rattle.play_words.specs.declared.words.Word.TheVariants as word
use Rattle.play_words.specs.Accepted.{is_accepted, is_raw}
use Rattle.intruder_words.specs.Speaking.{body_of}
use Rattle.intruder_words.proofs.Whole.{fits-some}
use Rattle.intruder_words.proofs.Learning.{read-cry}
use Rattle.world_history.specs.State.{BenchState, setup_in, leaves_left, word_body, word_frame, spoken}
use Rattle.script_laws.specs.Accepted.{is_intruded}
use Rattle.world_history.proofs.Addressed.{few_masters}
use Rattle.run_scripts.proofs.UnforgedKnown.{fits_part}
use Rattle.run_scripts.proofs.UnforgedWords.{SpelledAlike, word_kept}
use Rattle.run_scripts.proofs.UnforgedParts.{digest_of_fields, IsHeard}
use Rattle.world_history.proofs.SpokenWords.{signature_short}

-- an intruded master isn't correct
pub incorrect : (c : Contents) (master : ℕ) → is_intruded c master ≡ true → is_correct (setup_of c) master ≡ false
incorrect c master intruded =
    let both = and_parts (nat_lt master (masters_in c)) (has_master c.settings.intruded master) intruded in
    ap (λ (x : Bool). not (x && (setup_of c).intruded master)) (ap (λ (g : Group). nat_lt master g.n) (group_is c)
    ∙ both.0) ∙ ap not ((setup_goes_by c).intruded master ∙ both.1)

-- with each frame that it knows it knows those inside it
overheard_closed : (list : List Entry) → Closed (overheard list)
unfolding overheard
overheard_closed list = closed_flat_map
    (λ (e : Entry). flat_map parts (taken_frames (frame_taken e.event) ++ cried e.event)) list
    (λ e. closed_parts (taken_frames (frame_taken e.event) ++ cried e.event))

-- what is said of a word that isn't raw
spoken_body : (b : BenchState) (w : Word) (bytes : List ℕ) → is_raw w ≡ false → spoken b w ≡ Some bytes →
    option_map (λ (said : Body). frame_text (word_frame b said)) (word_body b w) ≡ Some bytes
unfolding spoken
spoken_body b (word.Raw raw) bytes plain e = absurd (false≢true (sym plain))
spoken_body b _ bytes plain e = e

some_made : (none : Bool) (o : Option Body) (said : Body) → cond none None o ≡ Some said → o ≡ Some said
some_made true o said e = absurd (none_some e)
some_made false o said e = e

same_text : (signer : ℕ) (sig : List ℕ) (a b : Body) → body_text a ≡ body_text b
    → ◌≡◌ {A = List ℕ} (frame_text (record { signer = signer; body = a; sig = sig }))
    (frame_text (record { signer = signer; body = b; sig = sig }))
same_text signer sig a b same =
    ap (λ (t : List ℕ). u32_bytes signer ++ u32_bytes (length t) ++ t ++ u32_bytes (length sig) ++ sig) same

frame_spelled : (signer : ℕ) (b : Body) (sig : List ℕ) → body_fits b ≡ true → field_fits sig ≡ true →
    has_spelling (record { signer = signer; body = b; sig = sig }) ≡ true
unfolding has_spelling
frame_spelled signer b sig fits short = and_from (body_fits b) (field_fits sig) fits short

-- the parts of a frame that an intruded master signs, of which it knows those inside
own_heard : (w : Setup) (history : List Entry) (known : List (Signed Body)) (f : Signed Body) →
    is_correct w f.signer ≡ false → FitsFields f → has_spelling f ≡ true
    → Each (IsHeard w history) known → Each (λ (p : Signed Body). IsIn p known) (inside f.body) →
    Each (IsHeard w history) (parts f)
own_heard w history known f other wide spelled heard among p h = elim (in_cons_cases h) [
  | inl same ↦ subst (λ (q : Signed Body). IsHeard w history q) (sym same) (record {
    borne = record { said = λ right. absurd (false≢true (sym other ∙ right)); digest = digest_of_fields f.body wide.1 };
    fit = fits_part f.signer f.body wide.0 wide.1;
    spelled = spelled;
  })
  | inr deeper ↦ heard p (among p deeper)
]

module _ (b : BenchState) (history : List Entry) (valid : IsScenario b.world) (low : b.actor < 2 ^ 32)
    (other : is_correct (setup_in b) b.actor ≡ false)
    (heard : Each (IsHeard (setup_in b) history) (overheard b.list)) where
  few : (setup_in b).group.n ≤ 14
  few = subst (λ (g : Group). g.n ≤ 14) (sym (group_is b.world)) (few_masters b.world valid)

  some : 1 ≤ (setup_in b).group.q
  some = let quorum : (setup_in b).group.q ≡ 2 * (setup_in b).group.f + (setup_in b).group.k + 1 =
      (sizes_of_group b.world valid).quorum in omega arith

  sig : Body → List ℕ
  sig said = (setup_in b).signature b.actor (leaves_used (setup_in b) b.list + b.signed) (said ∷ []) 0

  abbrev framed : Body → Body → Signed Body
  framed said kept = record { signer = b.actor; body = kept; sig = sig said }

  kept_heard : (said : Body) (bytes : List ℕ) → SpelledAlike (overheard b.list) said →
      frame_text (word_frame b said) ≡ bytes → Each (IsHeard (setup_in b) history) (flat_map parts (cried (Cry bytes)))
  unfolding sig
  kept_heard said bytes k text =
      let spelled = frame_spelled b.actor k.kept (sig said) k.fits
      (signature_short b.world b.actor (leaves_used (setup_in b) b.list + b.signed) (said ∷ []) valid) in
      let read : frame_at bytes ≡ Ok (framed said k.kept) = frame_back (framed said k.kept) bytes (low, k.wide)
      spelled (sym text ∙ sym (same_text b.actor (sig said) k.kept said k.text)) in
      subst (λ (ps : List (Signed Body)). Each (IsHeard (setup_in b) history) ps)
      (sym (read-cry bytes (framed said k.kept) read))
      (own_heard (setup_in b) history (overheard b.list) (framed said k.kept) other (low, k.wide) spelled heard k.among)

  -- what is cried is heard, as what the master knew before
  pub cry_heard : (w : Word) (bytes : List ℕ) → is_accepted w ≡ true → is_raw w ≡ false → spoken b w ≡ Some bytes →
      Each (IsHeard (setup_in b) history) (flat_map parts (cried (Cry bytes)))
  cry_heard w bytes accepted plain e =
      let made = option_map_from (λ (said : Body). frame_text (word_frame b said)) (word_body b w)
      (spoken_body b w bytes plain e) in
      let is : body_of (setup_in b).group (overheard b.list) w ≡ Some made.0 =
      some_made (nat_eq (leaves_left b) 0) (body_of (setup_in b).group (overheard b.list) w) made.0 made.1 in
      let fits : body_fits made.0 ≡ true =
      fits-some (setup_in b).group few (overheard b.list)
      (all_from has_spelling (overheard b.list) (λ p h. (heard p h).spelled)) w (Some made.0) (sym is) accepted in
      kept_heard made.0 bytes (word_kept (overheard b.list) (overheard_closed b.list) (λ p h. (heard p h).fit)
      (setup_in b).group some w made.0 is fits) made.2
