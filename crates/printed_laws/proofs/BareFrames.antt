-- The frames of each entry, without where those taken were said.
use Rattle.std.proofs.Common.{◌≡◌, ℕ, zero, suc, List, [], ◌∷◌, ◌++◌, Option, Some, None, map, take, refl, ◌∙◌, ap}
use Rattle.std.specs.Prelude.{slice_get}
use Rattle.std.proofs.lemmas.List.{take-map}
use Rattle.message_types.specs.declared.signed.Signed.{Signed}
use Rattle.message_types.specs.declared.body.Body.{Body}
use Rattle.history_rules.specs.Events.{Entry}
use Rattle.history_rules.specs.Setup.{Setup, signed_from, own}
use Rattle.world_rules.specs.Frames.{frames_of, frames_at_stamp}
use Rattle.printed_laws.specs.AlikeLaws.{bare}
use Rattle.printed_laws.proofs.BareEvents.{cried_bare}
use Rattle.printed_laws.proofs.BareLists.{own_bare, leaves_bare}

entry_frames : (w : Setup) (list : List Entry) (e : Entry) → frames_of w (map bare list) (bare e) ≡ frames_of w list e
entry_frames w list e = λ i. signed_from w e.actor (leaves_bare w list i) e.said 0 e.said ++ cried_bare e.event i

abbrev bare_if : Option Entry → Option Entry
bare_if None = None
bare_if (Some e) = Some (bare e)

entry_bare : (history : List Entry) (stamp : ℕ) → slice_get (map bare history) stamp ≡ bare_if (slice_get history stamp)
entry_bare [] stamp = refl
entry_bare (e ∷ history) zero = refl
entry_bare (e ∷ history) (suc stamp) = entry_bare history stamp

-- the frames of an entry that may be there, behind those before it
abbrev pub frames_by : Setup → List Entry → Option Entry → List (Signed Body)
frames_by w before o = elim o [ None ↦ [] | Some e ↦ frames_of w (own before e.actor) e ]

found_frames : (w : Setup) (before : List Entry) (o : Option Entry) →
    frames_by w (map bare before) (bare_if o) ≡ frames_by w before o
found_frames w before None = refl
found_frames w before (Some e) = ap (λ (list : List Entry). frames_of w list (bare e)) (own_bare before e.actor)
    ∙ entry_frames w (own before e.actor) e

pub frames_bare : (w : Setup) (history : List Entry) (stamp : ℕ) →
    frames_at_stamp w (map bare history) stamp ≡ frames_at_stamp w history stamp
unfolding frames_at_stamp
frames_bare w history stamp =
    (λ i. frames_by w (take-map bare stamp history i) (entry_bare history stamp i))
    ∙ found_frames w (take stamp history) (slice_get history stamp)
