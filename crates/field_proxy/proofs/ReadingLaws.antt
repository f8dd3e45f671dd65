-- Readings one by one.
use Rattle.std.proofs.Common.{◌≡◌, ◌<◌, ◌≤◌, ◌+◌, ℕ, suc, zero, Bool, true, false, List, [], ◌∷◌, ◌++◌, length, take}
use Rattle.std.proofs.Common.{refl, sym, ap, ◌∙◌, arith, add-zero, append_assoc, get_or}
use Rattle.std.specs.Prelude.{Option, Some, None, slice_get, nat_eq, ◌&&◌, not, if◌then◌else◌, ℤ}
use Rattle.std.specs.List.{flat_map, range_with_len}
use Rattle.std.proofs.lemmas.List.{append-nil, take_more, length-take-le}
use Rattle.std.proofs.lemmas.Option.{slice_get-get_or, slice_get_read}
use Rattle.std.specs.Option.{option_and_then}
use Rattle.message_types.specs.declared.updates.Update.{Update}
use Rattle.std.proofs.lemmas.Grind.{flat_map-append}
use Rattle.message_types.specs.declared.updates.Op.{Op}
use Rattle.message_types.specs.declared.updates.Op.TheVariants as op
use Rattle.point_table.specs.declared.point.Point.{Point}
use Rattle.field_device.specs.Places.{Places}
use Rattle.field_proxy.specs.Readings.{given, was_said, reading_of, reading_at, readings, last_in, told_one, told}
use Rattle.field_proxy.specs.Readings.{numbered}

range_suc : (a n : ℕ) → range_with_len a (suc n) ≡ range_with_len a n ++ (a + n) ∷ []
range_suc a zero = ap (λ x. x ∷ []) (sym (add-zero a))
range_suc a (suc n) =
    let same : a + 1 + n ≡ a + suc n = omega arith in
    ap (λ r. a ∷ r) (range_suc (a + 1) n ∙ ap (λ x. range_with_len (a + 1) n ++ x ∷ []) same)

-- the readings of the points below a number
abbrev pub readings_below : Places → ℕ → List Point → (ℕ → Option ℤ) → ℕ → List Op
readings_below d client points last n = flat_map (reading_at d client points last) (range_with_len 0 n)

pub readings_more : (d : Places) (client : ℕ) (points : List Point) (last : ℕ → Option ℤ) (n : ℕ) (p : Point) →
    slice_get points n ≡ Some p
    → readings_below d client points last n ++ reading_of client n p (given d p) (last n) ≡ readings_below
    d client points last (n + 1)
readings_more d client points last n p is =
    let one : reading_at d client points last n ≡ reading_of client n p (given d p) (last n) =
    ap (λ (q : Option Point). elim q [ None ↦ [] | Some p ↦ reading_of client n p (given d p) (last n) ]) is in
    let next : n + 1 ≡ suc n = omega arith in
    sym (ap (readings_below d client points last) next
    ∙ ap (flat_map (reading_at d client points last)) (range_suc 0 n)
    ∙ flat_map-append (reading_at d client points last) (range_with_len 0 n) ((0 + n) ∷ [])
    ∙ ap (λ m. readings_below d client points last n ++ flat_map (reading_at d client points last) (m ∷ []))
    (let e : 0 + n ≡ n = omega arith in e)
    ∙ ap (λ x. readings_below d client points last n ++ x) (append-nil (reading_at d client points last n) ∙ one))

-- another's point has none
pub reading_other : (client number : ℕ) (p : Point) (value last : Option ℤ) → nat_eq p.proxy client ≡ false →
    reading_of client number p value last ≡ []
reading_other client number p None last other = refl
reading_other client number p (Some v) last other =
    ap (λ b. if b && not (was_said last v) then op.Reading number v ∷ [] else []) other

pub reading_said : (client number : ℕ) (p : Point) (v : ℤ) (last : Option ℤ) → was_said last v ≡ true →
    reading_of client number p (Some v) last ≡ []
reading_said client number p v last said = none (nat_eq p.proxy client) (was_said last v) said where
  none : (own b : Bool) → b ≡ true → (if own && not b then op.Reading number v ∷ [] else []) ≡ []
  none true true e = refl
  none true false e = absurd (cc)
  none false b e = refl

pub reading_new : (client number : ℕ) (p : Point) (v : ℤ) (last : Option ℤ) → nat_eq p.proxy client ≡ true →
    was_said last v ≡ false
    → reading_of client number p (Some v) last ≡ op.Reading number v ∷ []
reading_new client number p v last own new =
    ap (λ b. if b && not (was_said last v) then op.Reading number v ∷ [] else []) own
    ∙ ap (λ b. if not b then op.Reading number v ∷ [] else []) new

-- one update more
pub numbered-push : (client t : ℕ) (ops : List Op) (o : Op)
    → numbered client t (ops ++ o ∷ []) ≡ numbered client t ops
    ++ record { client = client; t = t + length ops; op = o } ∷ []
unfolding numbered
numbered-push client t [] o = ap (λ x. record { client = client; t = x; op = o } ∷ []) (sym (add-zero t))
numbered-push client t (p ∷ ops) o =
    let same : suc t + length ops ≡ t + suc (length ops) = omega arith in
    ap (λ rest. record { client = client; t = t; op = p } ∷ rest)
    (numbered-push client (suc t) ops o
    ∙ ap (λ x. numbered client (suc t) ops ++ record { client = client; t = x; op = o } ∷ []) same)

pub numbered-none : (client t : ℕ) → numbered client t [] ≡ []
unfolding numbered
numbered-none client t = refl

-- one reading told more
pub told-push : (lasts : List (Option ℤ)) (ops : List Op) (o : Op) →
    told lasts (ops ++ o ∷ []) ≡ told_one (told lasts ops) o
unfolding told
told-push lasts [] o = refl
told-push lasts (p ∷ ops) o = told-push (told_one lasts p) ops o

pub told-none : (lasts : List (Option ℤ)) → told lasts [] ≡ lasts
unfolding told
told-none lasts = refl

-- the same over the beginning of a list

pub told_more : (lasts now : List (Option ℤ)) (ops : List Op) (i : ℕ) (d : Op) → i < length ops →
    now ≡ told lasts (take i ops)
    → told_one now (get_or ops i d) ≡ told lasts (take (i + 1) ops)
told_more lasts now ops i d less is =
    ap (λ l. told_one l (get_or ops i d)) is ∙ sym (told-push lasts (take i ops) (get_or ops i d))
    ∙ ap (told lasts) (sym (take_more ops i d less))

pub numbered_more : (client t x : ℕ) (ops : List Op) (i : ℕ) (d : Op) (now : List Update) → i < length ops → x ≡ t + i
    → now ≡ numbered client t (take i ops)
    → now ++ record { client = client; t = x; op = get_or ops i d } ∷ [] ≡ numbered client t (take (i + 1) ops)
numbered_more client t x ops i d now less at is =
    let count : t + length (take i ops) ≡ x = omega (arith, length-take-le i ops (omega arith)) in
    ap (λ front. front ++ record { client = client; t = x; op = get_or ops i d } ∷ []) is
    ∙ ap (λ n. numbered client t (take i ops) ++ record { client = client; t = n; op = get_or ops i d } ∷ [])
    (sym count)
    ∙ sym (numbered-push client t (take i ops) (get_or ops i d)) ∙ ap (numbered client t) (sym (take_more ops i d less))

-- the value last said for a point that is there
pub last_at : (lasts : List (Option ℤ)) (n : ℕ) (d : Option ℤ) → n < length lasts → last_in lasts n ≡ get_or lasts n d
unfolding last_in
last_at lasts n d less = ap (option_and_then (λ last. last)) (slice_get-get_or lasts n d less)
    ∙ same (get_or lasts n d) where
      same : (o : Option ℤ) → option_and_then (λ last. last) (Some o) ≡ o
      same o = refl

pub reading_more : (d now : Places) (client n : ℕ) (points : List Point) (lasts : List (Option ℤ)) (p : Point)
    (e : Option ℤ) (ops more : List Op)
    → p ≡ get_or points n p → n < length points → length lasts ≡ length points → now ≡ d
    → ops ≡ readings_below d client points (last_in lasts) n →
    more ≡ ops ++ reading_of client n p (given now p) (get_or lasts n e)
    → more ≡ readings_below d client points (last_in lasts) (n + 1)
reading_more d now client n points lasts p e ops more here less same stays so_far is =
    is ∙ ap (λ front. front ++ reading_of client n p (given now p) (get_or lasts n e)) so_far
    ∙ ap (λ d'. readings_below d client points (last_in lasts) n
    ++ reading_of client n p (given d' p) (get_or lasts n e)) stays
    ∙ ap (λ last. readings_below d client points (last_in lasts) n ++ reading_of client n p (given d p) last)
    (sym (last_at lasts n e (omega arith)))
    ∙ readings_more d client points (last_in lasts) n p (slice_get_read points (length points) n p refl less here)

pub length-numbered : (client t : ℕ) (ops : List Op) → length (numbered client t ops) ≡ length ops
unfolding numbered
length-numbered client t [] = refl
length-numbered client t (o ∷ ops) = ap suc (length-numbered client (suc t) ops)
