-- Frames that were named in words: their kinds, their numbers, and that their signers rise.
use Rattle.std.proofs.Common.{◌≡◌, ℕ, suc, ◌<◌, ◌^◌, ◌==◌, Bool, true, false, not, ◌&&◌, ◌||◌, nat_le, nat_lt, nat_eq}
use Rattle.std.proofs.Common.{List, [], ◌∷◌, length, map, refl, sym, ◌∙◌, ap, subst, Ok, Option, Some, None}
use Rattle.std.specs.List.{list_all, slice_split}
use Rattle.std.proofs.lemmas.Bool.{and_parts, and_from}
use Rattle.message_types.specs.Spelling.{is_rising}
use Rattle.play_words.specs.declared.words.Ref.{Ref}
use Rattle.play_words.specs.Accepted as accepted
use Rattle.scenario_file.specs.declared.actors.Cast.{Cast}
use Rattle.scenario_file.specs.Actors.{actors_of}
use Rattle.script_grammar.specs.declared.frames.Allowed.{Allowed}
use Rattle.script_grammar.specs.declared.frames.Allowed.TheVariants as allowed
use Rattle.script_grammar.specs.declared.kinds.Kind.{Kind}
use Rattle.script_grammar.specs.declared.kinds.Kind.TheVariants as kind
use Rattle.script_grammar.specs.Faults.{Answer, bad, both, each}
use Rattle.script_grammar.specs.Frames.{is_update, is_summary, is_report, has_digest, allows, allowed_number, kind_in}
use Rattle.script_grammar.specs.Frames.{ref_of, frame_of, frame_in, signer_in, frames_in}
use Rattle.script_grammar.specs.Kinds.{kind_number, kind_named}
use Rattle.script_grammar.specs.Names.{rise, names_rise, actor_in}
use Rattle.script_grammar.specs.Numbers.{is_numeral, within, number_in}
use Rattle.std.specs.Str.Parse.{digits_value}
use Rattle.script_laws.proofs.Answering.{ok, ok_same, said_from, chosen}
use Rattle.script_laws.proofs.Naming.{first_part, numbers_rise}
use Rattle.script_grammar.proofs.FaultLaws.{both_read}

-- The kinds that stand for one of `Allowed`, by their numbers.
abbrev is_numbered : Allowed → ℕ → Bool
is_numbered allowed.Any n = true
is_numbered allowed.Updates n = nat_eq n 1
is_numbered allowed.Summaries n = nat_eq n 4
is_numbered allowed.Reports n = nat_eq n 14
is_numbered allowed.Digested n = nat_eq n 2 || nat_eq n 5

abbrev told : Allowed → Kind → Bool
told among k = not (allows among k) || is_numbered among (kind_number k)

-- each kind that may stand somewhere has a number that words may name there
kinds_told : (k : Kind) →
    (told allowed.Updates k && told allowed.Summaries k && told allowed.Reports k && told allowed.Digested k
    && nat_lt (kind_number k) 22) ≡ true
kinds_told kind.Update = refl
kinds_told kind.PoRequest = refl
kinds_told kind.PoAck = refl
kinds_told kind.PoSummary = refl
kinds_told kind.PrePrepare = refl
kinds_told kind.Prepare = refl
kinds_told kind.Commit = refl
kinds_told kind.Ping = refl
kinds_told kind.Pong = refl
kinds_told kind.Rtt = refl
kinds_told kind.TatReport = refl
kinds_told kind.TatBound = refl
kinds_told kind.Suspect = refl
kinds_told kind.Report = refl
kinds_told kind.NewView = refl
kinds_told kind.AskUpdate = refl
kinds_told kind.Give = refl
kinds_told kind.AskOrder = refl
kinds_told kind.GiveOrdered = refl
kinds_told kind.Voucher = refl
kinds_told kind.Mark = refl

five : (a b c d e : Bool) → (a && b && c && d && e) ≡ true → (a ≡ true) × (b ≡ true) × (c ≡ true)
    × (d ≡ true) × (e ≡ true)
five true true true true true h = (refl, refl, refl, refl, refl)
five true true true true false h = absurd (cc)
five true true true false e h = absurd (cc)
five true true false d e h = absurd (cc)
five true false c d e h = absurd (cc)
five false b c d e h = absurd (cc)

abbrev all_told : (k : Kind) → (told allowed.Updates k ≡ true) × (told allowed.Summaries k ≡ true)
    × (told allowed.Reports k ≡ true) × (told allowed.Digested k ≡ true) × (nat_lt (kind_number k) 22 ≡ true)
all_told k = five (told allowed.Updates k) (told allowed.Summaries k) (told allowed.Reports k)
    (told allowed.Digested k) (nat_lt (kind_number k) 22) (kinds_told k)

implied : (a b : Bool) → (not a || b) ≡ true → a ≡ true → b ≡ true
implied true b h is = h
implied false b h is = absurd (cc)

numbered : (among : Allowed) (k : Kind) → allows among k ≡ true → is_numbered among (kind_number k) ≡ true
numbered allowed.Any k is = refl
numbered allowed.Updates k is = implied (is_update k) (nat_eq (kind_number k) 1) (all_told k).0 is
numbered allowed.Summaries k is = implied (is_summary k) (nat_eq (kind_number k) 4) (all_told k).1 is
numbered allowed.Reports k is = implied (is_report k) (nat_eq (kind_number k) 14) (all_told k).2 is
numbered allowed.Digested k is =
    implied (has_digest k) (nat_eq (kind_number k) 2 || nat_eq (kind_number k) 5) (all_told k).3 is

number_allowed : (among : Allowed) (o : Option Kind) (n : ℕ) → allowed_number among o ≡ Ok n →
    (is_numbered among n ≡ true) × (nat_lt n 22 ≡ true)
number_allowed among None n h = absurd (cc)
number_allowed among (Some k) n h =
    chosen (allows among k) (ok (kind_number k)) bad (Ok n) h
    (λ is e. let same = sym (ok_same (kind_number k) n e) in
    (ap (is_numbered among) same ∙ numbered among k is, ap (λ x. nat_lt x 22) same ∙ (all_told k).4))
    (λ is e. absurd (cc))

kind_read : (among : Allowed) (name : List ℕ) (n : ℕ) → kind_in among name ≡ Ok n →
    (is_numbered among n ≡ true) × (nat_lt n 22 ≡ true)
unfolding kind_in
kind_read among name n h = number_allowed among (kind_named name) n h

-- a number that was read is in its range
number_read : (least most : ℕ) (text : List ℕ) (n : ℕ) → number_in least most text ≡ Ok n → nat_le least n ≡ true
unfolding number_in
number_read least most text n h =
    chosen (is_numeral text) (within least most (digits_value 10 text)) bad (Ok n) h
    (λ is e. chosen (nat_le least (digits_value 10 text) && nat_le (digits_value 10 text) most)
    (ok (digits_value 10 text)) bad (Ok n) e
    (λ in_it k. ap (nat_le least) (sym (ok_same (digits_value 10 text) n k))
    ∙ (and_parts (nat_le least (digits_value 10 text)) (nat_le (digits_value 10 text) most) in_it).0)
    (λ in_it k. absurd (cc)))
    (λ is e. absurd (cc))

-- What was read of a frame: its signer is that of its name, its kind is one that may stand there, and its number isn't
-- 0.
pub record IsRead (cast : Cast) (among : Allowed) (text : List ℕ) (r : Ref) : Type 0 where
  pub signer : actor_in cast (signer_in text) ≡ Ok r.actor
  pub kind : is_numbered among r.kind ≡ true
  pub small : nat_lt r.kind 22 ≡ true
  pub number : nat_le 1 r.number ≡ true

read_by : (cast : Cast) (among : Allowed) (text : List ℕ) (parts : List (List ℕ)) (r : Ref) →
    slice_split (λ b. b == 46) text ≡ parts
    → frame_of cast among parts ≡ Ok r → IsRead cast among text r
read_by cast among text [] r split h = absurd (cc)
read_by cast among text (name ∷ []) r split h = absurd (cc)
read_by cast among text (name ∷ kind ∷ []) r split h = absurd (cc)
read_by cast among text (name ∷ kind ∷ number ∷ []) r split h =
    let (p, read, is) = said_from ref_of
    (both (actor_in cast name) (both (kind_in among kind) (number_in 1 18446744073709551615 number))) r h in
    let one = both_read (actor_in cast name) (both (kind_in among kind) (number_in 1 18446744073709551615 number))
    p read in
    let two = both_read (kind_in among kind) (number_in 1 18446744073709551615 number) p.1 one.1 in
    subst (IsRead cast among text) is (record {
      signer = ap (actor_in cast) (first_part (λ b. b == 46) text name (kind ∷ number ∷ []) split) ∙ one.0;
      kind = (kind_read among kind p.1.0 two.0).0;
      small = (kind_read among kind p.1.0 two.0).1;
      number = number_read 1 18446744073709551615 number p.1.1 two.1;
    })
read_by cast among text (name ∷ kind ∷ number ∷ other ∷ more) r split h = absurd (cc)

pub frame_read : (cast : Cast) (among : Allowed) (text : List ℕ) (r : Ref) → frame_in cast among text ≡ Ok r →
    IsRead cast among text r
unfolding frame_in
frame_read cast among text r h = read_by cast among text (slice_split (λ b. b == 46) text) r refl h

-- frames in a row

pub each_first : {A : Type 0} (read : List ℕ → Answer A) (part : List ℕ) (parts : List (List ℕ)) (xs : List A) →
    each read (part ∷ parts) ≡ Ok xs
    → (x : A) × (rest : List A) × (read part ≡ Ok x) × (each read parts ≡ Ok rest) × (x ∷ rest ≡ xs)
each_first {A} read part parts xs h =
    let (p, made, is) = said_from (λ (q : A × List A). q.0 ∷ q.1) (both (read part) (each read parts)) xs h in
    let two = both_read (read part) (each read parts) p made in
    (p.0, p.1, two.0, two.1, is)

pub each_length : {A : Type 0} (read : List ℕ → Answer A) (parts : List (List ℕ)) (xs : List A) →
    each read parts ≡ Ok xs → length xs ≡ length parts
each_length read [] xs h = ap length (sym (ok_same [] xs h))
each_length read (part ∷ parts) xs h =
    let (x, rest, one, others, is) = each_first read part parts xs h in
    ap length (sym is) ∙ ap suc (each_length read parts rest others)

pub each_passes : {A : Type 0} (test : A → Bool) (read : List ℕ → Answer A) (parts : List (List ℕ)) (xs : List A)
    → ((part : List ℕ) (x : A) → read part ≡ Ok x → test x ≡ true) → each read parts ≡ Ok xs → list_all test xs ≡ true
each_passes test read [] xs one h = ap (list_all test) (sym (ok_same [] xs h))
each_passes test read (part ∷ parts) xs one h =
    let (x, rest, first, others, is) = each_first read part parts xs h in
    ap (list_all test) (sym is) ∙ and_from (test x) (list_all test rest) (one part x first)
    (each_passes test read parts rest one others)

rising_after : (cast : Cast) (among : Allowed) (text : List ℕ) (texts : List (List ℕ)) (r : Ref) (rest : List Ref) →
    actors_of cast < 2 ^ 64
    → actor_in cast (signer_in text) ≡ Ok r.actor → names_rise (map signer_in (text ∷ texts)) ≡ true →
    each (frame_in cast among) texts ≡ Ok rest
    → is_rising (map (λ (x : Ref). x.actor) (r ∷ rest)) ≡ true
rising_after cast among text [] r rest few named rises h =
    ap (λ (rs : List Ref). is_rising (map (λ (x : Ref). x.actor) (r ∷ rs))) (sym (ok_same [] rest h))
rising_after cast among text (other ∷ texts) r rest few named rises h =
    let (x, more, one, others, is) = each_first (frame_in cast among) other texts rest h in
    let (first, later) = and_parts (rise (signer_in text) (signer_in other))
    (names_rise (map signer_in (other ∷ texts))) rises in
    let read = frame_read cast among other x one in
    ap (λ (rs : List Ref). is_rising (map (λ (y : Ref). y.actor) (r ∷ rs))) (sym is)
    ∙ and_from (nat_lt r.actor x.actor) (is_rising (map (λ (y : Ref). y.actor) (x ∷ more)))
    (numbers_rise cast (signer_in text) (signer_in other) r.actor x.actor few named read.signer first)
    (rising_after cast among other texts x more few read.signer later others)

all_rising : (cast : Cast) (among : Allowed) (texts : List (List ℕ)) (refs : List Ref) → actors_of cast < 2 ^ 64 →
    names_rise (map signer_in texts) ≡ true
    → each (frame_in cast among) texts ≡ Ok refs → is_rising (map (λ (r : Ref). r.actor) refs) ≡ true
all_rising cast among [] refs few rises h = ap (λ (rs : List Ref). is_rising (map (λ (r : Ref). r.actor) rs))
    (sym (ok_same [] refs h))
all_rising cast among (text ∷ texts) refs few rises h =
    let (x, more, one, others, is) = each_first (frame_in cast among) text texts refs h in
    let read = frame_read cast among text x one in
    ap (λ (rs : List Ref). is_rising (map (λ (r : Ref). r.actor) rs)) (sym is)
    ∙ rising_after cast among text texts x more few read.signer rises others

pub refs_read : (cast : Cast) (among : Allowed) (number : ℕ) (texts : List (List ℕ)) (refs : List Ref) →
    actors_of cast < 2 ^ 64
    → ((n : ℕ) → is_numbered among n ≡ true → nat_eq n number ≡ true) → frames_in cast among texts ≡ Ok refs →
    accepted.are_refs number refs ≡ true
unfolding frames_in
refs_read cast among number texts refs few kinds h =
    chosen (nat_le (length texts) 14 && names_rise (map signer_in texts))
    (each (frame_in cast among) texts) bad (Ok refs) h
    (λ fine e.
    let (short, rises) = and_parts (nat_le (length texts) 14) (names_rise (map signer_in texts)) fine in
    let short_refs : nat_le (length refs) 14 ≡ true =
    ap (λ n. nat_le n 14) (each_length (frame_in cast among) texts refs e) ∙ short in
    let risen = all_rising cast among texts refs few rises e in
    let all = each_passes (accepted.is_of number) (frame_in cast among) texts refs (λ text r one. let read =
    frame_read cast among text r one in
    and_from (nat_eq r.kind number) (nat_le 1 r.number) (kinds r.kind read.kind) read.number) e in
    three (nat_le (length refs) 14) (is_rising (map (λ (r : Ref). r.actor) refs)) short_refs risen all)
    (λ fine e. absurd (cc))
  where
    three : (a b : Bool) {c : Bool} → a ≡ true → b ≡ true → c ≡ true → (a && b && c) ≡ true
    three true true one two last = last
    three true false one two last = absurd (cc)
    three false b one two last = absurd (cc)
