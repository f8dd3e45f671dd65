-- What is printed for a request: its digest and parts of texts of that digest, whose masters rise. So it is read again.
use Rattle.std.proofs.Common.{◌≡◌, ℕ, zero, suc, ◌+◌, ◌/◌, ◌^◌, ◌<◌, ◌≤◌, Bool, true, false}
use Rattle.std.proofs.Common.{if◌then◌else◌, List, [], ◌∷◌, ◌++◌, Option, Some, None, Ok, length, append-nil, refl}
use Rattle.std.proofs.Common.{sym, ◌∙◌, ap, subst, arith}
use Rattle.std.specs.Prelude.{slice_index}
use Rattle.std.specs.Int.{w32, w64, byte_at, bytes_high_first, to_be_bytes, cast_unsigned}
use Rattle.std.specs.List.{AllByRecursion, flat_map}
use Rattle.std.specs.Option.{option_map}
use Rattle.std.specs.Str.{bytes_eq}
use Rattle.std.proofs.lemmas.List.Concat.{flat_map-append}
use Rattle.std.proofs.lemmas.Nat.{mod_below}
use Rattle.std.proofs.lemmas.Slice.Eq.{bytes_eq-Decides}
use Rattle.sha2.specs.Sha256.{sha256, digest_bytes, final_hash, initial_hash_256}
use Rattle.sha2.proofs.Facts256.{length-sha256}
use Rattle.wire_parts.specs.Fields.{u16_bytes, u32_bytes, u64_bytes, i64_bytes}
use Rattle.message_types.specs.declared.updates.Update.{Update}
use Rattle.message_types.specs.declared.updates.Op.{Op}
use Rattle.message_types.specs.declared.updates.Op.TheVariants as op
use Rattle.message_types.specs.Digests.{digest_of_update}
use Rattle.message_types.specs.Texts.{op_text, update_text}
use Rattle.message_forms.proofs.Lengths.{update_within}
use Rattle.quorum_sets.specs.Masters.{numbers_below}
use Rattle.quorum_sets.specs.Quorum.{IsGroup, group_size}
use Rattle.protocol_rules.specs.Group.{Group}
use Rattle.scenario_file.specs.Reading.{Contents}
use Rattle.history_rules.specs.Events.{Entry}
use Rattle.world_rules.specs.Scenarios.{setup_of}
use Rattle.world_rules.proofs.Fields.{group_is}
use Rattle.parity_parts.specs.declared.part.Part.{Part}
use Rattle.parity_parts.specs.Parts.{AreBytes}
use Rattle.part_lines.specs.Laws.{RiseFrom, IsWritten, own_part}
use Rattle.part_lines.specs.Reading.{told_in}
use Rattle.part_lines.specs.Rebuilding.{told_for}
use Rattle.part_lines.specs.Texts.{parts_text}
use Rattle.part_lines.proofs.Own.{own_written}
use Rattle.part_lines.proofs.ReadBack.{printed_parts_are_read}
use Rattle.run_questions.specs.PartsLaws.{IsOfDigest, ArePrinted}
use Rattle.run_questions.specs.PartsText.{certified_by, first_certified, part_if, parts_by, parts_in}
use Rattle.run_questions.proofs.PartsInOrder.{update_some}

-- ---- Texts and digests are bytes.

both_bytes : (xs ys : List ℕ) → AreBytes xs → AreBytes ys → AreBytes (xs ++ ys)
both_bytes [] ys are more = more
both_bytes (x ∷ xs) ys are more = (are.0, both_bytes xs ys are.1 more)

byte_low : (k n : ℕ) → byte_at k n < 256
byte_low zero n = mod_below n 256 (omega arith)
byte_low (suc i) n = mod_below (n / 256 ^ suc i) 256 (omega arith)

field_bytes : (size n : ℕ) → AreBytes (bytes_high_first size n)
field_bytes zero n = tt
field_bytes (suc size) n = (byte_low size n, field_bytes size n)

two_bytes : (x : ℕ) → AreBytes (u16_bytes x)
unfolding u16_bytes
two_bytes x = field_bytes 2 x

four_bytes : (x : ℕ) → AreBytes (u32_bytes x)
unfolding u32_bytes
four_bytes x = field_bytes 4 x

eight_bytes : (x : ℕ) → AreBytes (u64_bytes x)
unfolding u64_bytes
eight_bytes x = field_bytes 8 x

op_bytes : (o : Op) → AreBytes (op_text o)
op_bytes (op.Reading point value) = (
  (omega arith),
  both_bytes (u32_bytes point) (i64_bytes value) (four_bytes point)
      (eight_bytes (cast_unsigned w64 value)),
)
op_bytes (op.Set point value) = (
  (omega arith),
  both_bytes (u32_bytes point) (i64_bytes value) (four_bytes point)
      (eight_bytes (cast_unsigned w64 value)),
)
op_bytes (op.Ack alarm) = ((omega arith), four_bytes alarm)

pub update_bytes : (u : Update) → AreBytes (update_text u)
update_bytes u =
    both_bytes ((u16_bytes 1 ++ u32_bytes u.client) ++ u64_bytes u.t) (op_text u.op)
    (both_bytes (u16_bytes 1 ++ u32_bytes u.client) (u64_bytes u.t)
    (both_bytes (u16_bytes 1) (u32_bytes u.client) (two_bytes 1) (four_bytes u.client)) (eight_bytes u.t))
    (op_bytes u.op)

words_bytes : (h : List ℕ) (n : ℕ) → AreBytes (digest_bytes h n)
unfolding digest_bytes
words_bytes h zero = tt
words_bytes h (suc n) = both_bytes (digest_bytes h n) (to_be_bytes w32 (slice_index h n)) (words_bytes h n)
    (field_bytes 4 (slice_index h n))

pub digest_are_bytes : (m : List ℕ) → AreBytes (sha256 m)
unfolding sha256
digest_are_bytes m = words_bytes (final_hash initial_hash_256 m) 8

-- ---- The parts: those of the masters below a number rise, and each is of a text of the digest.

pub record AreOf (f n : ℕ) (digest : List ℕ) (parts : List Part) : Type 0 where
  pub rise : RiseFrom 0 parts
  pub low : AllByRecursion (λ (part : Part). part.master < n) parts
  pub own : AllByRecursion (IsOfDigest f digest) parts

rise_more : (least n : ℕ) (parts : List Part) (part : Part) → RiseFrom least parts →
    AllByRecursion (λ (p : Part). p.master < n) parts → least ≤ n → part.master ≡ n
    → RiseFrom least (parts ++ part ∷ [])
rise_more least n [] part rise low before is = (omega arith, tt)
rise_more least n (p ∷ parts) part rise low before is =
    (rise.0, rise_more (p.master + 1) n parts part rise.1 low.1 (let under = low.0 in omega (arith, under)) is)

pub all_more : (P : Part → Type 0) (parts : List Part) (part : Part) → AllByRecursion P parts → P part →
    AllByRecursion P (parts ++ part ∷ [])
all_more P [] part are is = (is, tt)
all_more P (p ∷ parts) part are is = (are.0, all_more P parts part are.1 is)

all_lower : (n : ℕ) (parts : List Part) → AllByRecursion (λ (p : Part). p.master < n) parts →
    AllByRecursion (λ (p : Part). p.master < suc n) parts
all_lower n [] low = tt
all_lower n (p ∷ parts) low = let under = low.0 in (omega (arith, under), all_lower n parts low.1)

one_less : (f n : ℕ) (digest : List ℕ) (parts : List Part) → AreOf f n digest parts →
    AreOf f (suc n) digest (parts ++ [])
one_less f n digest parts are =
    subst (AreOf f (suc n) digest) (sym (append-nil parts)) record {
      rise = are.rise;
      low =
          all_lower n parts are.low;
      own = are.own;
    }

one_more : (f n : ℕ) (digest : List ℕ) (parts : List Part) (u : Update) → AreOf f n digest parts →
    digest_of_update u ≡ digest
    → AreOf f (suc n) digest (parts ++ own_part f (update_text u) n ∷ [])
unfolding digest_of_update
one_more f n digest parts u are is =
    let part : Part = own_part f (update_text u) n in record {
      rise = rise_more 0 n parts part are.rise are.low (omega arith) refl;
      low = all_more (λ (p : Part). p.master < suc n) parts part (all_lower n parts are.low) (omega arith);
      own = all_more (IsOfDigest f digest) parts part are.own record {
        text = update_text u;
        bytes = update_bytes u;
        some = update_some u;
        few = (let within = update_within u in omega (arith, within));
        is_digest = is;
        own = refl;
      };
    }

of_master : (f n : ℕ) (digest : List ℕ) (parts : List Part) (found : Option Update) → AreOf f n digest parts →
    AreOf f (suc n) digest (parts ++ part_if f digest n found)
of_master f n digest parts None are = one_less f n digest parts are
of_master f n digest parts (Some u) are = by (bytes_eq (digest_of_update u) digest) refl
  where
    by : (b : Bool) → bytes_eq (digest_of_update u) digest ≡ b →
        AreOf f (suc n) digest (parts ++ (if b then own_part f (update_text u) n ∷ [] else []))
    by true is = one_more f n digest parts u are ((bytes_eq-Decides (digest_of_update u) digest).0 is)
    by false other = one_less f n digest parts are

pub are_of : (f n : ℕ) (digest : List ℕ) (found : ℕ → Option Update) →
    AreOf f n digest (flat_map (λ master. part_if f digest master (found master)) (numbers_below n))
unfolding numbers_below
are_of f zero digest found = record { rise = tt; low = tt; own = tt }
are_of f (suc n) digest found =
    let part_of : ℕ → List Part = λ master. part_if f digest master (found master) in
    subst (AreOf f (suc n) digest)
    (sym (flat_map-append part_of (numbers_below n) (n ∷ [])
    ∙ ap (λ (ps : List Part). flat_map part_of (numbers_below n) ++ ps) (append-nil (part_of n))))
    (of_master f n digest (flat_map part_of (numbers_below n)) (found n) (are_of f n digest found))

-- ---- They are read again.

pub written : (f n : ℕ) (digest : List ℕ) (parts : List Part) → AllByRecursion (λ (part : Part). part.master < n)
    parts → AllByRecursion (IsOfDigest f digest) parts
    → AllByRecursion (IsWritten n f) parts
written f n digest [] low own = tt
written f n digest (p ∷ parts) low own =
    let its = own.0 in (
      subst (IsWritten n f) (sym its.own) (own_written n f p.master its.text low.0 its.some its.few its.bytes),
      written f n digest parts low.1 own.1,
    )

made : (c : Contents) (printed digest : List ℕ) (parts : List Part) (f n : ℕ) → f ≡ c.settings.f →
    n ≡ group_size c.settings.f c.settings.k → n < 2 ^ 32
    → printed ≡ parts_text digest parts → length digest ≡ 32 → AreBytes digest → AreOf f n digest parts →
    ArePrinted c printed
unfolding told_for
made c printed digest parts f n is all few text long are of =
    let read : told_in n f (parts_text digest parts) ≡ Ok (record { digest = digest; parts = parts }) =
    printed_parts_are_read n f digest parts few long are of.rise (written f n digest parts of.low of.own) in record {
      told = record { digest = digest; parts = parts };
      text = text;
      rise = of.rise;
      parts = subst (λ (g : ℕ). AllByRecursion (IsOfDigest g digest) parts) is of.own;
      read = ap (told_in (group_size c.settings.f c.settings.k) c.settings.f) text
          ∙ ap (λ (g : ℕ). told_in (group_size c.settings.f c.settings.k) g (parts_text digest parts)) (sym is)
          ∙ ap (λ (m : ℕ). told_in m f (parts_text digest parts)) (sym all)
          ∙ read;
    }

pub parts_are_printed : (c : Contents) (history : List Entry) (j k : ℕ) (printed : List ℕ) →
    IsGroup c.settings.f c.settings.k
    → parts_in c history j k ≡ Some printed → ArePrinted c printed
unfolding parts_in digest_of_update
parts_are_printed c history j k printed group is = by (first_certified (setup_of c) history j k) is
  where
    f : ℕ
    f = (setup_of c).group.f

    n : ℕ
    n = (setup_of c).group.n

    size : n ≡ group_size c.settings.f c.settings.k
    size = ap (λ (g : Group). g.n) (group_is c)

    few : n < 2 ^ 32
    few =
        let most = group.at_most_three_intruded in
        let away = group.at_most_two_away in
        subst (λ (m : ℕ). m < 2 ^ 32) (sym size) (omega (arith, most, away))

    by : (found : Option Update)
        → option_map (λ u. parts_text (digest_of_update u) (parts_by (setup_of c) history j k (digest_of_update u)))
        found ≡ Some printed → ArePrinted c printed
    by None is = absurd (cc)
    by (Some u) is =
        let digest : List ℕ = digest_of_update u in
        let parts : List Part = parts_by (setup_of c) history j k digest in
        let text : parts_text digest parts ≡ printed = cc in
        made c printed digest parts f n (ap (λ (g : Group). g.f) (group_is c)) size few (sym text)
        (length-sha256 (update_text u)) (digest_are_bytes (update_text u))
        (are_of f n digest (certified_by (setup_of c) history j k))
