-- Frames that stand, by their bytes and by their entries.
use Rattle.std.proofs.Common.{◌≡◌, ◌⊎◌, ℕ, zero, suc, ◌+◌, ◌<◌, ◌≤◌, Bool, true, false, cond, List, [], ◌∷◌, ◌++◌}
use Rattle.std.proofs.Common.{Option, Some, None, length, take, filter, inl, inr, refl, sym, ◌∙◌, ap}
use Rattle.std.proofs.Common.{arith}
use Rattle.std.proofs.lemmas.Bool.{cases_lt, and_parts}
use Rattle.std.proofs.lemmas.List.{length-append, take_all}
use Rattle.std.proofs.lemmas.Option.{slice_get_past}
use Rattle.std.specs.List.{list_all}
use Rattle.std.specs.Option.{option_to_list}
use Rattle.std.specs.Prelude.{slice_get}
use Rattle.message_types.specs.declared.signed.Signed.{Signed}
use Rattle.message_types.specs.declared.body.Body.{Body}
use Rattle.checked_frames.specs.Standing.{Ring}
use Rattle.checked_frames.specs.Standing as checked
use Rattle.scenario_file.specs.Reading.{Contents}
use Rattle.history_rules.specs.Events.{Cry, Entry}
use Rattle.history_rules.specs.Setup.{Setup, stands, own}
use Rattle.world_rules.specs.Frames.{cried, frames_of, frames_at_stamp}
use Rattle.world_rules.specs.Scenarios.{setup_of}
use Rattle.world_history.specs.Signed.{ring_in}
use Rattle.world_history.proofs.FramesRead.{stands_by}
use Rattle.printed_history.specs.Reading.{standing_frame, frame_in}
use Rattle.printed_history.proofs.Places.{get_last}
use Rattle.plain_lists.proofs.Lists.{get_left, take_left}

-- of the frame that bytes spell, what was found is what stands
pub one_found : (ring : Ring) (bytes : List ℕ) (frame : Signed Body) (found : Option (Signed Body)) →
    frame ∷ [] ≡ cried (Cry bytes) → found ≡ cond (checked.stands ring frame) (Some frame) None
    → option_to_list found ≡ filter (checked.stands ring) (cried (Cry bytes))
one_found ring bytes frame found read is =
    ap option_to_list is ∙ by (checked.stands ring frame) ∙ ap (filter (checked.stands ring)) read
  where
    by : (b : Bool) → option_to_list (cond b (Some frame) None) ≡ cond b (frame ∷ []) []
    by true = refl
    by false = refl

pub none_read : (ring : Ring) (bytes : List ℕ) → [] ≡ cried (Cry bytes) →
    ◌≡◌ {A = List (Signed Body)} [] (filter (checked.stands ring) (cried (Cry bytes)))
none_read ring bytes read = ap (filter (checked.stands ring)) read

-- by the ring of a scenario's actors the same frames stand as in its histories
pub same_stand : (c : Contents) (ring : Ring) (frames : List (Signed Body)) → ring ≡ ring_in c
    → filter (checked.stands ring) frames ≡ filter (stands (setup_of c)) frames
same_stand c ring [] is = refl
same_stand c ring (f ∷ fs) is =
    ap (λ b. cond b (f ∷ filter (checked.stands ring) fs) (filter (checked.stands ring) fs))
    (sym (stands_by c ring f is))
    ∙ ap (λ (xs : List (Signed Body)). cond (stands (setup_of c) f) (f ∷ xs) xs) (same_stand c ring fs is)

-- where all frames stand, each place has its own
pub all_standing : (w : Setup) (frames : List (Signed Body)) (place : ℕ) → list_all (stands w) frames ≡ true
    → slice_get frames place ≡ standing_frame w (slice_get frames place)
all_standing w frames place all = by (slice_get frames place) (each frames place all)
  where
    each : (fs : List (Signed Body)) (i : ℕ) → list_all (stands w) fs ≡ true → (f : Signed Body) →
        slice_get fs i ≡ Some f → stands w f ≡ true
    each [] i all f is = absurd (cc)
    each (x ∷ fs) zero all f is =
        let same : x ≡ f = cc in
        ap (stands w) (sym same) ∙ (and_parts (stands w x) (list_all (stands w) fs) all).0
    each (x ∷ fs) (suc i) all f is = each fs i (and_parts (stands w x) (list_all (stands w) fs) all).1 f is

    by : (o : Option (Signed Body)) → ((f : Signed Body) → o ≡ Some f → stands w f ≡ true) → o ≡ standing_frame w o
    by None is = refl
    by (Some f) is = sym (ap (λ b. cond b (Some f) None) (is f refl))

-- of one frame or none, the first place has it where it stands
pub few_standing : (w : Setup) (frames : List (Signed Body)) (place : ℕ) → length frames ≤ 1
    → slice_get (filter (stands w) frames) place ≡ standing_frame w (slice_get frames place)
few_standing w [] place few = refl
few_standing w (f ∷ []) zero few = by (stands w f)
  where
    by : (b : Bool) → slice_get (cond b (f ∷ []) []) 0 ≡ cond b (Some f) None
    by true = refl
    by false = refl
few_standing w (f ∷ []) (suc place) few = by (stands w f)
  where
    by : (b : Bool) → slice_get (cond b (f ∷ []) []) (suc place) ≡ None
    by true = refl
    by false = refl
few_standing w (f ∷ g ∷ fs) place few = absurd (omega arith)

-- The frames at each stamp, of a history with one entry more.
pub frames_more : (w : Setup) (before : List Entry) (e : Entry) (posted : List (List (Signed Body)))
    (fs : List (Signed Body)) → length posted ≡ length before
    → ((s p : ℕ) → frame_in posted s p ≡ standing_frame w (slice_get (frames_at_stamp w before s) p))
    → ((p : ℕ) → slice_get fs p ≡ standing_frame w (slice_get (frames_of w (own before e.actor) e) p))
    → (s p : ℕ) → frame_in (posted ++ fs ∷ []) s p ≡ standing_frame w
    (slice_get (frames_at_stamp w (before ++ e ∷ []) s) p)
unfolding frames_at_stamp
frames_more w before e posted fs many were more s p = by (cases_lt s (length before)) (cases_lt (length before) s)
  where
    at : Option Entry → List Entry → List (Signed Body)
    at o front = elim o [ None ↦ [] | Some x ↦ frames_of w (own front x.actor) x ]

    kept : Option (List (Signed Body)) → Option (Signed Body)
    kept o = elim o [ None ↦ None | Some frames ↦ slice_get frames p ]

    by : (s < length before) ⊎ (length before ≤ s) → (length before < s) ⊎ (s ≤ length before)
        → frame_in (posted ++ fs ∷ []) s p ≡ standing_frame w (slice_get (frames_at_stamp w (before ++ e ∷ []) s) p)
    by (inl less) other =
        ap kept (get_left posted (fs ∷ []) s (omega arith))
        ∙ were s p
        ∙ sym (ap (λ (fr : List (Signed Body)). standing_frame w (slice_get fr p))
        ((λ i. at (get_left before (e ∷ []) s less i) (take_left before (e ∷ []) s (omega arith) i))))
    by (inr most) (inl past) =
        let size : length (posted ++ fs ∷ []) ≡ length posted + 1 = length-append posted (fs ∷ []) in
        let long : length (before ++ e ∷ []) ≡ length before + 1 = length-append before (e ∷ []) in
        ap kept (slice_get_past (posted ++ fs ∷ []) s (omega arith))
        ∙ sym (ap (λ (o : Option Entry). standing_frame w (slice_get (at o (take s (before ++ e ∷ []))) p))
        (slice_get_past (before ++ e ∷ []) s (omega arith)))
    by (inr most) (inr least) =
        let here : s ≡ length before = omega arith in
        let there : s ≡ length posted = omega arith in
        ap (λ (n : ℕ). kept (slice_get (posted ++ fs ∷ []) n)) there
        ∙ ap kept (get_last posted fs)
        ∙ more p
        ∙ sym (ap (λ (fr : List (Signed Body)). standing_frame w (slice_get fr p))
        (ap (λ (n : ℕ). at (slice_get (before ++ e ∷ []) n) (take n (before ++ e ∷ []))) here
        ∙ (λ i. at (get_last before e i)
        ((take_left before (e ∷ []) (length before) (omega arith) ∙ take_all (length before) before (omega arith))
        i))))
