-- The lines of a ring, one by one, and where the digits stand in one.
use Rattle.std.proofs.Common.{◌≡◌, ◌∙◌, ◌+◌, ◌*◌, ◌<◌, ℕ, suc, List, [], ◌∷◌, ◌++◌, length, take, drop, refl, sym, ap, arith, subst, inl, inr}
use Rattle.std.proofs.Common.{append_assoc, append-nil, codes, Option, None, Some, Result, Ok, Err}
use Rattle.std.specs.Borrow.{Bor}
use Rattle.std.specs.Option.{MatchOption}
use Rattle.std.specs.Result.{IfOk}
use Rattle.plain_lists.specs.Lists.{Each}
use Rattle.plain_lists.proofs.Members.{each_append, each_none, each_one}
use Rattle.std.proofs.lemmas.List.{take_at, drop_at, length-append}
use Rattle.hex.specs.Hex.{encode_lower, decode_sized, lower_digits}
use Rattle.hex.specs.declared.error.FromHexError.{FromHexError}
use Rattle.hex.proofs.HexLemmas.{decode_of-ok, decode_sized-encode_lower, decode_sized-ok, decode_sized-twice, length-encode_with}
use Rattle.scenario_file.specs.Actors.{actor_name, actors_of}
use Rattle.scenario_file.specs.declared.actors.Cast.{Cast}
use Rattle.command_files.specs.Keys.{Cuts, GoesWrong, HasNoLine, HasNotLine, IsBadLine, IsPublic, IsRing, ring_from, ring_line}

-- ---- Line by line.

pub no_line : (cast : Cast) → ring_from cast 0 [] ≡ []
unfolding ring_from
no_line cast = refl

pub one_line_more : (cast : Cast) (actor later : ℕ) (publics : List (List ℕ)) (public : List ℕ) →
    later ≡ actor + length publics →
    ring_from cast actor (publics ++ public ∷ []) ≡ ring_from cast actor publics ++ ring_line (actor_name cast later) public
unfolding ring_from
one_line_more cast actor later [] public at =
    let same : actor ≡ later = omega (arith, at) in
    append-nil (ring_line (actor_name cast actor) public)
    ∙ ap (λ (n : ℕ). ring_line (actor_name cast n) public) same
one_line_more cast actor later (first ∷ more) public at =
    let next : later ≡ suc actor + length more = omega (arith, at) in
    let line : List ℕ = ring_line (actor_name cast actor) first in
    ap (λ (t : List ℕ). line ++ t) (one_line_more cast (suc actor) later more public next)
    ∙ sym (append_assoc line (ring_from cast (suc actor) more) (ring_line (actor_name cast later) public))

-- a text that goes on with the next line
pub goes_on : (cast : Cast) (actor : ℕ) (text rest after : List ℕ) (publics : List (List ℕ)) (name public : List ℕ) →
    length publics ≡ actor → name ≡ actor_name cast actor → text ≡ ring_from cast 0 publics ++ rest
    → rest ≡ ring_line name public ++ after → text ≡ ring_from cast 0 (publics ++ public ∷ []) ++ after
goes_on cast actor text rest after publics name public many named begins cut =
    let later : actor ≡ 0 + length publics = omega (arith, many) in
    let line : List ℕ = ring_line (actor_name cast actor) public in
    begins ∙ ap (λ (r : List ℕ). ring_from cast 0 publics ++ r)
    (cut ∙ ap (λ (n : List ℕ). ring_line n public ++ after) named)
    ∙ sym (append_assoc (ring_from cast 0 publics) line after)
    ∙ ap (λ (t : List ℕ). t ++ after) (sym (one_line_more cast 0 actor publics public later))

pub one_longer : (publics : List (List ℕ)) (public : List ℕ) (actor : ℕ) → length publics ≡ actor
    → length (publics ++ public ∷ []) ≡ actor + 1
one_longer publics public actor many = omega (arith, length-append publics (public ∷ []), many)

-- ---- As far as a text was read.

-- the lines of the actors before this one are right, and this follows them
pub record ReadSoFar (cast : Cast) (text : List ℕ) (actor : ℕ) (ring : List (List ℕ)) (rest : List ℕ) : Type 0 where
  pub many : length ring ≡ actor
  pub each : Each IsPublic ring
  pub begins : text ≡ ring_from cast 0 ring ++ rest

pub at_the_start : (cast : Cast) (text : List ℕ) (ring : List (List ℕ)) → ring ≡ [] → ReadSoFar cast text 0 ring text
at_the_start cast text ring none = record {
  many = ap length none;
  each = subst (Each IsPublic) (sym none) (each_none IsPublic);
  begins = ap (λ (t : List ℕ). t ++ text) (sym (no_line cast)) ∙ ap (λ (r : List (List ℕ)). ring_from cast 0 r ++ text) (sym none);
}

pub one_further : (cast : Cast) (text : List ℕ) (actor : ℕ) (ring more : List (List ℕ)) (rest after name : List ℕ) →
    ReadSoFar cast text actor ring rest → name ≡ actor_name cast actor → Cuts name rest ring more after →
    ReadSoFar cast text (actor + 1) more after
one_further cast text actor ring more rest after name so_far named (public, is, added, cut) = record {
  many = ap length added ∙ one_longer ring public actor so_far.many;
  each = subst (Each IsPublic) (sym added)
      (each_append IsPublic ring (public ∷ []) so_far.each (each_one IsPublic public is));
  begins = goes_on cast actor text rest after ring name public so_far.many named so_far.begins cut
      ∙ ap (λ (r : List (List ℕ)). ring_from cast 0 r ++ after) (sym added);
}

bad_line : (cast : Cast) (text : List ℕ) (actor : ℕ) (ring : List (List ℕ)) (rest : List ℕ) →
    ReadSoFar cast text actor ring rest → GoesWrong cast actor rest → IsBadLine cast text (actor + 1)
bad_line cast text actor ring rest so_far wrong = record {
  before = ring;
  rest = rest;
  publics = so_far.each;
  place = ap (λ (n : ℕ). n + 1) (sym so_far.many);
  begins = so_far.begins;
  wrong = subst (λ (n : ℕ). GoesWrong cast n rest) (sym so_far.many) wrong;
}

pub stops_at : (cast : Cast) (text : List ℕ) (actor : ℕ) (ring : List (List ℕ)) (rest name : List ℕ) →
    ReadSoFar cast text actor ring rest → actor < actors_of cast → name ≡ actor_name cast actor →
    HasNoLine name rest → IsBadLine cast text (actor + 1)
stops_at cast text actor ring rest name so_far there named none =
    bad_line cast text actor ring rest so_far
    (inl (there, subst (λ (n : List ℕ). HasNoLine n rest) named none))

pub goes_too_far : (cast : Cast) (text : List ℕ) (actor : ℕ) (ring : List (List ℕ)) (rest : List ℕ) →
    ReadSoFar cast text actor ring rest → actor ≡ actors_of cast → (rest ≡ [] → ⊥) → IsBadLine cast text (actor + 1)
goes_too_far cast text actor ring rest so_far all more = bad_line cast text actor ring rest so_far (inr (all, more))

pub reads_all : (cast : Cast) (text : List ℕ) (actor : ℕ) (ring : List (List ℕ)) (rest : List ℕ) →
    ReadSoFar cast text actor ring rest → actor ≡ actors_of cast → rest ≡ [] → IsRing cast text ring
reads_all cast text actor ring rest so_far all none = record {
  all = so_far.many ∙ all;
  each = so_far.each;
  same = so_far.begins ∙ ap (λ (r : List ℕ). ring_from cast 0 ring ++ r) none ∙ append-nil (ring_from cast 0 ring);
}

-- ---- Where the digits stand.

pub digits_behind : (front digits rest text : List ℕ) (place count : ℕ) → length front ≡ place → length digits ≡ count
    → text ≡ front ++ (digits ++ rest) → take count (drop place text) ≡ digits
digits_behind front digits rest text place count far many same =
    ap (λ (t : List ℕ). take count (drop place t)) same
    ∙ ap (take count) (drop_at front (digits ++ rest) place far) ∙ take_at digits rest count many

regrouped : (a b c rest : List ℕ) → ((a ++ b) ++ c) ++ rest ≡ a ++ (b ++ (c ++ rest))
regrouped a b c rest = append_assoc (a ++ b) c rest ∙ append_assoc a b (c ++ rest)

pub twice_as_long : (bytes : List ℕ) (count : ℕ) → 2 * length bytes ≡ count → length (encode_lower bytes) ≡ count
twice_as_long bytes count many = length-encode_with lower_digits bytes ∙ many

pub behind_name : (name : List ℕ) → length (name ++ codes " ") ≡ length name + 1
behind_name name = length-append name (codes " ")

digits_of_line : (name public rest text : List ℕ) → length public ≡ 60 → text ≡ ring_line name public ++ rest
    → take 120 (drop (length name + 1) text) ≡ encode_lower public
unfolding ring_line
digits_of_line name public rest text many same =
    digits_behind (name ++ codes " ") (encode_lower public) (codes "\n" ++ rest) text (length name + 1) 120
    (behind_name name) (twice_as_long public 120 (omega (arith, many)))
    (same ∙ regrouped (name ++ codes " ") (encode_lower public) (codes "\n") rest)

-- ---- What the digits read as.

-- what hex digits read as are so many bytes
pub reads_bytes : (digits bytes : List ℕ) → decode_sized digits 60 ≡ Ok bytes → IsPublic bytes
reads_bytes digits bytes is =
    let long : length digits ≡ 2 * 60 = decode_sized-ok digits 60 bytes is in
    let read = decode_of-ok digits bytes (sym (decode_sized-twice digits 60 long) ∙ is) in
    (omega (arith, long, read.2), read.3)

-- a text that doesn't read as digits there begins with no line
pub unread : (name text digits : List ℕ) (e : FromHexError) → digits ≡ take 120 (drop (length name + 1) text)
    → decode_sized digits 60 ≡ Err e → HasNoLine name text
unread name text digits e piece fails public is rest same =
    let written : digits ≡ encode_lower public = piece ∙ digits_of_line name public rest text is.0 same in
    let reads : decode_sized digits 60 ≡ Ok public =
    ap (λ (d : List ℕ). decode_sized d 60) written ∙ decode_sized-encode_lower public 60 is.0 is.1 in
    let apart : Ok public ≡ Err e = sym reads ∙ fails in
    cc

ok_same : (a b : List ℕ) → (let x : Result (List ℕ) FromHexError = Ok a in x) ≡ Ok b → a ≡ b
ok_same a b same = cc

-- one that reads as other bytes than a line that it begins with
pub other_line : (name text digits read : List ℕ) → digits ≡ take 120 (drop (length name + 1) text)
    → decode_sized digits 60 ≡ Ok read → HasNotLine name read text → HasNoLine name text
other_line name text digits read piece is not_this public public_is rest same =
    let written : digits ≡ encode_lower public = piece ∙ digits_of_line name public rest text public_is.0 same in
    let reads : decode_sized digits 60 ≡ Ok public =
    ap (λ (d : List ℕ). decode_sized d 60) written ∙ decode_sized-encode_lower public 60 public_is.0 public_is.1 in
    let this : public ≡ read = ok_same public read (sym reads ∙ is) in
    not_this rest (same ∙ ap (λ (p : List ℕ). ring_line name p ++ rest) this)

-- what comes of a text by the public key that its digits read as
pub cut_by : {E : Type 0} (name text digits read : List ℕ) (ring more : List (List ℕ))
    (result : Result (Option (Bor (List ℕ))) E) → digits ≡ take 120 (drop (length name + 1) text)
    → decode_sized digits 60 ≡ Ok read
    → IfOk result (λ cut. MatchOption cut (HasNotLine name read text)
    (λ after. (more ≡ ring ++ read ∷ []) × (text ≡ ring_line name read ++ after.now)))
    → IfOk result (λ cut. MatchOption cut (HasNoLine name text) (λ after. Cuts name text ring more after.now))
cut_by name text digits read ring more (Ok None) piece reads is = other_line name text digits read piece reads is
cut_by name text digits read ring more (Ok (Some after)) piece reads is =
    (read, reads_bytes digits read reads, is.0, is.1)
cut_by name text digits read ring more (Err e) piece reads is = tt

-- a cut that was made
pub one_cut : (name text : List ℕ) (ring more : List (List ℕ)) (cut : Option (Bor (List ℕ))) (after : Bor (List ℕ)) →
    cut ≡ Some after
    → MatchOption cut (HasNoLine name text) (λ rest. Cuts name text ring more rest.now) →
    Cuts name text ring more after.now
one_cut name text ring more cut after made is =
    subst (λ (o : Option (Bor (List ℕ))). MatchOption o (HasNoLine name text)
    (λ rest. Cuts name text ring more rest.now)) made is
