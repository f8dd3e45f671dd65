-- Places written and put back.
use Rattle.std.proofs.Common.{◌≡◌, ◌<◌, ◌≤◌, ℕ, suc, zero, Bool, true, false, List, [], ◌∷◌, ◌++◌, length, refl, sym}
use Rattle.std.proofs.Common.{ap, ◌∙◌, arith, inl, inr}
use Rattle.std.specs.Prelude.{◌⊎◌, Option, Some, None, slice_get, slice_set, nat_eq, if◌then◌else◌}
use Rattle.std.specs.Option.{option_map}
use Rattle.std.proofs.lemmas.List.{set-get_or, set_past}
use Rattle.std.proofs.lemmas.Option.{get_or_from_slice_get, slice_get_within, slice_get_cases}
use Rattle.point_table.specs.declared.point.Area.{Area}
use Rattle.point_table.specs.declared.point.Area.TheVariants as area
use Rattle.modbus_forms.specs.declared.request.RequestPdu.{RequestPdu}
use Rattle.modbus_forms.specs.declared.request.RequestPdu.TheVariants as request
use Rattle.field_device.specs.Places.{Places, value_at, size_of, changed, bit_number, is_set}
use Rattle.field_device.specs.Table.{exception_for, written, after, coil_on}
use Rattle.field_device.proofs.TableLaws.{exception_after, written_is}
use Rattle.field_proxy.specs.declared.undo.Held.{Held}
use Rattle.field_proxy.specs.Undoing.{put_back, undone}
use Rattle.field_proxy.specs.Writes.{write_pdu, written_area}

set_back : {X : Type 0} (l : List X) (i : ℕ) (x : X) → slice_get l i ≡ Some x → slice_set l i x ≡ l
set_back l i x is = ap (slice_set l i) (sym (get_or_from_slice_get l i x x is)) ∙ set-get_or l i x

set_twice : {X : Type 0} (l : List X) (i : ℕ) (a b : X) → slice_set (slice_set l i a) i b ≡ slice_set l i b
set_twice [] i a b = refl
set_twice (x ∷ l) zero a b = refl
set_twice (x ∷ l) (suc i) a b = ap (λ r. x ∷ r) (set_twice l i a b)

is_set-bit_number : (b : Bool) → is_set (bit_number b) ≡ b
is_set-bit_number true = refl
is_set-bit_number false = refl

-- a change of a place that isn't there
pub changed_out : (d : Places) (a : Area) (p value : ℕ) → size_of d a ≤ p → changed d a p value ≡ d
changed_out d area.Coil p value out = ap (λ l. record d { coils = l }) (set_past d.coils p (is_set value) out)
changed_out d area.Discrete p value out = ap (λ l. record d { discrete = l }) (set_past d.discrete p (is_set value) out)
changed_out d area.Holding p value out = ap (λ l. record d { holding = l }) (set_past d.holding p value out)
changed_out d area.Input p value out = ap (λ l. record d { input = l }) (set_past d.input p value out)

-- what a bit or a register held, put back over it

coil_back : (d now : Places) (p : ℕ) (found : Option Bool) → slice_get d.coils p ≡ found
    → ((b : Bool) → slice_get d.coils p ≡ Some b → changed now area.Coil p (bit_number b) ≡ d) →
    (slice_get d.coils p ≡ None → now ≡ d)
    → put_back (record { area = area.Coil; place = p; value = option_map bit_number found }) now ≡ d
coil_back d now p (Some b) is some none = some b is
coil_back d now p None is some none = none is

holding_back : (d now : Places) (p : ℕ) (found : Option ℕ) → slice_get d.holding p ≡ found
    → ((x : ℕ) → slice_get d.holding p ≡ Some x → changed now area.Holding p x ≡ d) →
    (slice_get d.holding p ≡ None → now ≡ d)
    → put_back (record { area = area.Holding; place = p; value = found }) now ≡ d
holding_back d now p (Some x) is some none = some x is
holding_back d now p None is some none = none is

none_out : {X : Type 0} (l : List X) (i : ℕ) → slice_get l i ≡ None → length l ≤ i
none_out l i is = elim (slice_get_cases l i).1 [ inl found ↦ let some = found.2 in absurd (cc) | inr out ↦ out.0 ]

coil_none : (d : Places) (p : ℕ) (x : Bool) → slice_get d.coils p ≡ None →
    record d { coils = slice_set d.coils p x } ≡ d
coil_none d p x is = ap (λ l. record d { coils = l }) (set_past d.coils p x (none_out d.coils p is))

holding_none : (d : Places) (p : ℕ) (x : ℕ) → slice_get d.holding p ≡ None →
    record d { holding = slice_set d.holding p x } ≡ d
holding_none d p x is = ap (λ l. record d { holding = l }) (set_past d.holding p x (none_out d.holding p is))

coil_same : (d : Places) (p : ℕ) (x b : Bool) → slice_get d.coils p ≡ Some b
    → changed (record d { coils = slice_set d.coils p x }) area.Coil p (bit_number b) ≡ d
coil_same d p x b is =
    ap (λ l. record d { coils = l }) (ap (slice_set (slice_set d.coils p x) p) (is_set-bit_number b)
    ∙ set_twice d.coils p x b ∙ set_back d.coils p b is)

holding_same : (d : Places) (p x y : ℕ) → slice_get d.holding p ≡ Some y
    → changed (record d { holding = slice_set d.holding p x }) area.Holding p y ≡ d
holding_same d p x y is = ap (λ l. record d { holding = l }) (set_twice d.holding p x y ∙ set_back d.holding p y is)

-- the place as it is
abbrev pub held : Places → Area → ℕ → Held
held d a p = record { area = a; place = p; value = value_at d a p }

coil_held : (d : Places) (p : ℕ) → put_back (held d area.Coil p) d ≡ d
coil_held d p =
    coil_back d d p (slice_get d.coils p) refl
    (λ b is. ap (λ l. record d { coils = l }) (ap (slice_set d.coils p) (is_set-bit_number b)
    ∙ set_back d.coils p b is)) (λ is. refl)

holding_held : (d : Places) (p : ℕ) → put_back (held d area.Holding p) d ≡ d
holding_held d p =
    holding_back d d p (slice_get d.holding p) refl
    (λ x is. ap (λ l. record d { holding = l }) (set_back d.holding p x is)) (λ is. refl)

coil_written : (d : Places) (p v : ℕ) → put_back (held d area.Coil p) (written d (request.WriteCoil p v)) ≡ d
unfolding written
coil_written d p v =
    coil_back d (record d { coils = slice_set d.coils p (nat_eq v coil_on) }) p (slice_get d.coils p) refl
    (coil_same d p (nat_eq v coil_on)) (coil_none d p (nat_eq v coil_on))

holding_written : (d : Places) (p v : ℕ) → put_back (held d area.Holding p) (written d (request.WriteRegister p v)) ≡ d
unfolding written
holding_written d p v =
    holding_back d (record d { holding = slice_set d.holding p v }) p (slice_get d.holding p) refl
    (holding_same d p v) (holding_none d p v)

after_back : (d : Places) (h : Held) (r : RequestPdu) (e : Option ℕ) → exception_for d r ≡ e → put_back h d ≡ d →
    put_back h (written d r) ≡ d
    → put_back h (after d r) ≡ d
after_back d h r (Some code) is same back = ap (put_back h) (exception_after d r code is) ∙ same
after_back d h r None is same back = ap (put_back h) (written_is d r is) ∙ back

-- a place put back, whether it was written or not
pub put_back_same : (d : Places) (a : Area) (p : ℕ) → put_back (held d (written_area a) p) d ≡ d
put_back_same d area.Coil p = coil_held d p
put_back_same d area.Discrete p = holding_held d p
put_back_same d area.Holding p = holding_held d p
put_back_same d area.Input p = holding_held d p

abbrev coil_value : ℕ → ℕ
coil_value raw = if nat_eq raw 0 then 0 else coil_on

register_written : (d : Places) (p raw : ℕ) →
    put_back (held d area.Holding p) (after d (request.WriteRegister p raw)) ≡ d
register_written d p raw =
    after_back d (held d area.Holding p) (request.WriteRegister p raw) (exception_for d (request.WriteRegister p raw))
    refl (holding_held d p) (holding_written d p raw)

pub put_back_written : (d : Places) (a : Area) (p raw : ℕ) →
    put_back (held d (written_area a) p) (after d (write_pdu a p raw)) ≡ d
put_back_written d area.Coil p raw =
    after_back d (held d area.Coil p) (write_pdu area.Coil p raw) (exception_for d (write_pdu area.Coil p raw)) refl
    (coil_held d p) (coil_written d p (coil_value raw))
put_back_written d area.Discrete p raw = register_written d p raw
put_back_written d area.Holding p raw = register_written d p raw
put_back_written d area.Input p raw = register_written d p raw

-- a log with one place more undoes that one first
pub undone-push : (log : List Held) (h : Held) (d : Places) → undone (log ++ h ∷ []) d ≡ undone log (put_back h d)
unfolding undone
undone-push [] h d = refl
undone-push (g ∷ log) h d = ap (put_back g) (undone-push log h d)

abbrev held_at : Places → ℕ → Area → Held
held_at d p a = held d a p

-- a log with the place that a request may have written
pub undone_write : (items log : List Held) (d now : Places) (a written_to : Area) (p raw : ℕ) (value : Option ℕ)
    → items ≡ log ++ record { area = written_to; place = p; value = value } ∷ [] → written_to ≡ written_area a →
    value ≡ value_at d written_to p
    → (now ≡ d) ⊎ (now ≡ after d (write_pdu a p raw)) → undone items now ≡ undone log d
undone_write items log d now a written_to p raw value is to was may =
    let h : Held = record { area = written_to; place = p; value = value } in
    let same : h ≡ held d (written_area a) p =
    ap (λ v. record { area = written_to; place = p; value = v }) was ∙ ap (held_at d p) to in
    let back : put_back h now ≡ d =
    ap (λ g. put_back g now) same ∙ elim may [
      | inl e ↦ ap (put_back (held d (written_area a) p)) e ∙ put_back_same d a p
      | inr e ↦ ap (put_back (held d (written_area a) p)) e ∙ put_back_written d a p raw
    ] in
    ap (λ log. undone log now) is ∙ undone-push log h now ∙ ap (undone log) back

-- a log that was empty undoes all
pub undone_all : (log old : List Held) (now d : Places) → old ≡ [] → undone log now ≡ undone old d → undone log now ≡ d
unfolding undone
undone_all log old now d empty same = same ∙ ap (λ l. undone l d) empty
