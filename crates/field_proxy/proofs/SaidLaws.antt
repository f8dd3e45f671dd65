-- The values last said after any list of happenings.
use Rattle.std.proofs.Common.{◌≡◌, ◌≢◌, ◌<◌, ◌≤◌, ◌+◌, ℕ, suc, zero, Bool, true, false, List, [], ◌∷◌, ◌++◌, length}
use Rattle.std.proofs.Common.{refl, sym, ap, ◌∙◌, arith, inl, inr, get_or}
use Rattle.std.specs.Prelude.{Option, Some, None, ◌⊎◌, ℤ, nat_eq, slice_set, replicate, if◌then◌else◌}
use Rattle.std.proofs.lemmas.List.{length-set, length-replicate, get_or-set_same, get_or-set_other, get_or-replicate}
use Rattle.std.proofs.lemmas.Bool.Decides.{eqb_tells}
use Rattle.message_types.specs.declared.updates.Op.{Op}
use Rattle.message_types.specs.declared.updates.Op.TheVariants as op
use Rattle.message_types.specs.declared.updates.Update.{Update}
use Rattle.point_table.specs.declared.point.Point.{Point}
use Rattle.point_table.specs.declared.point.DeviceSizes.{DeviceSizes}
use Rattle.field_proxy.specs.Readings.{last_in, told_one, told, numbered}
use Rattle.field_proxy.specs.Front.{Front, fresh, polled, after_poll, after_vote}
use Rattle.field_proxy.specs.Happenings.{Happening, Changed, Polled, Vouched, front_with, front_after, says, all_said}
use Rattle.field_proxy.specs.Happenings.{said_of, last_said}
use Rattle.field_proxy.proofs.ReadingLaws.{last_at}

length-told_one : (lasts : List (Option ℤ)) (o : Op) → length (told_one lasts o) ≡ length lasts
length-told_one lasts (op.Reading p v) = length-set lasts p (Some v)
length-told_one lasts (op.Set p v) = refl
length-told_one lasts (op.Ack a) = refl

length-told : (lasts : List (Option ℤ)) (ops : List Op) → length (told lasts ops) ≡ length lasts
unfolding told
length-told lasts [] = refl
length-told lasts (o ∷ ops) = length-told (told_one lasts o) ops ∙ length-told_one lasts o

set_last : (lasts : List (Option ℤ)) (p number : ℕ) (v : ℤ) → number < length lasts
    → last_in (slice_set lasts p (Some v)) number ≡ (if nat_eq p number then Some v else last_in lasts number)
set_last lasts p number v less =
    let size = length-set lasts p (Some v) in
    let there : last_in (slice_set lasts p (Some v)) number ≡ get_or (slice_set lasts p (Some v)) number None =
    last_at (slice_set lasts p (Some v)) number None (omega arith) in
    there ∙ by (eqb_tells p number) where
      by : ((nat_eq p number ≡ true) × (p ≡ number)) ⊎ ((nat_eq p number ≡ false) × (p ≢ number))
          → get_or (slice_set lasts p (Some v)) number None ≡ (if nat_eq p number then Some v else last_in lasts number)
      by (inl same) =
          ap (λ n. get_or (slice_set lasts p (Some v)) n None) (sym same.1) ∙ get_or-set_same lasts p (Some v) None
          (let e = same.1 in omega arith)
          ∙ sym (ap (λ b. if b then Some v else last_in lasts number) same.0)
      by (inr other) =
          get_or-set_other lasts p number (Some v) None (λ e. other.1 (sym e)) ∙ sym (last_at lasts number None less)
          ∙ sym (ap (λ b. if b then Some v else last_in lasts number) other.0)

one_last : (lasts : List (Option ℤ)) (number : ℕ) (o : Op) → number < length lasts →
    last_in (told_one lasts o) number ≡ said_of o number (last_in lasts number)
one_last lasts number (op.Reading p v) less = set_last lasts p number v less
one_last lasts number (op.Set p v) less = refl
one_last lasts number (op.Ack a) less = refl

told_last : (client t : ℕ) (ops : List Op) (lasts : List (Option ℤ)) (number : ℕ) → number < length lasts
    → last_in (told lasts ops) number ≡ last_said (last_in lasts number) (numbered client t ops) number
unfolding told numbered last_said
told_last client t [] lasts number less = refl
told_last client t (o ∷ ops) lasts number less =
    let size = length-told_one lasts o in
    told_last client (suc t) ops (told_one lasts o) number (omega arith)
    ∙ ap (λ before. last_said before (numbered client (suc t) ops) number) (one_last lasts number o less)

last_said-append : (before : Option ℤ) (us vs : List Update) (number : ℕ) →
    last_said before (us ++ vs) number ≡ last_said (last_said before us number) vs number
unfolding last_said
last_said-append before [] vs number = refl
last_said-append before (u ∷ us) vs number = last_said-append (said_of u.op number before) us vs number

last_said-none : (before : Option ℤ) (number : ℕ) → last_said before [] number ≡ before
unfolding last_said
last_said-none before number = refl

after_lasts : (s : Front) (happenings : List Happening) (number : ℕ) → number < length s.lasts
    → last_in (front_after s happenings).lasts number ≡ last_said (last_in s.lasts number)
    (all_said s happenings) number
after_lasts s [] number less = sym (last_said-none (last_in s.lasts number) number)
after_lasts s (Changed area place value ∷ rest) number less =
    after_lasts (front_with s (Changed area place value)) rest number less
after_lasts s (Polled room ∷ rest) number less =
    let size = length-told s.lasts (polled s room) in
    after_lasts (after_poll s room) rest number (omega arith)
    ∙ ap (λ before. last_said before (all_said (after_poll s room) rest) number)
    (told_last s.client (s.updates + 1) (polled s room) s.lasts number less)
    ∙ sym (last_said-append (last_in s.lasts number) (says s (Polled room)) (all_said (after_poll s room) rest) number)
after_lasts s (Vouched vote ∷ rest) number less = after_lasts (after_vote s vote) rest number less

none_said : (n number : ℕ) → number < n → last_in (replicate n None) number ≡ None
none_said n number less =
    let size : length (replicate {A = Option ℤ} n None) ≡ n = length-replicate n None in
    last_at (replicate n None) number None (omega arith) ∙ get_or-replicate n number None None less

pub lasts_after : (client n f : ℕ) (points : List Point) (sizes : DeviceSizes) (happenings : List Happening)
    (number : ℕ) → number < length points
    → last_in (front_after (fresh client n f points sizes) happenings).lasts number
    ≡ last_said None (all_said (fresh client n f points sizes) happenings) number
lasts_after client n f points sizes happenings number less =
    let s = fresh client n f points sizes in
    after_lasts s happenings number
    (let size : length (replicate {A = Option ℤ} (length points) None) ≡ length points =
    length-replicate (length points) None in omega arith)
    ∙ ap (λ before. last_said before (all_said s happenings) number) (none_said (length points) number less)
