-- How a word names a frame: by its signer, by the kind of its body and by its number among those of that signer and
-- kind that the speaker knows. (This project's own.)
use Rattle.std.specs.Prelude.{ℕ, ◌-◌, Bool, ◌&&◌, List, [], ◌∷◌, ◌++◌, Option, None, filter, nat_eq, slice_get}
use Rattle.std.specs.Prelude.{if◌then◌else◌}
use Rattle.std.specs.List.{list_any}
use Rattle.message_types.specs.declared.signed.Signed.{Signed}
use Rattle.message_types.specs.declared.body.Body.{Body}
use Rattle.message_types.specs.Kinds.{kind_number}
use Rattle.history_rules.specs.Sameness.{is_same_body}
use Rattle.play_words.specs.declared.words.Ref.{Ref}

-- the frame has the signer and the kind
abbrev pub bears : Ref → Signed Body → Bool
bears r f = nat_eq f.signer r.actor && nat_eq (kind_number f.body) r.kind

-- the frames of a list whose body no frame before has; `earlier` are those before the list
abbrev pub distinct_after : List (Signed Body) → List (Signed Body) → List (Signed Body)
distinct_after earlier [] = []
distinct_after earlier (f ∷ rest) =
    if list_any (λ e. is_same_body e.body f.body) earlier
    then distinct_after (earlier ++ f ∷ []) rest
    else f ∷ distinct_after (earlier ++ f ∷ []) rest

-- the x-th different frame of the signer and kind among those known, counted from 1
unfoldable pub named : List (Signed Body) → Ref → Option (Signed Body)
named known r = if nat_eq r.number 0 then None else slice_get (distinct_after [] (filter (bears r) known))
    (r.number - 1)
